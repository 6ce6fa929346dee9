-- Texts that were added for each element of a list, and for one element more.
use Rattle.std.proofs.Common.{◌≡◌, ◌∙◌, ℕ, ◌+◌, ◌<◌, List, [], ◌∷◌, ◌++◌, append_assoc, append-nil, ap, get_or, length, map, sym, take, Some}
use Rattle.std.specs.List.{flat_map, slice_get}
use Rattle.std.proofs.lemmas.Grind.{flat_map-append}
use Rattle.std.proofs.lemmas.List.{take_more}
use Rattle.std.proofs.lemmas.Option.{get_or_from_slice_get, slice_get_within}

pub one_more : {X Y : Type 0} (f : X → List Y) (xs : List X) (i : ℕ) (x : X) (front old new : List Y) → slice_get xs i ≡ Some x →
    old ≡ front ++ flat_map f (take i xs) → new ≡ old ++ f x → new ≡ front ++ flat_map f (take (i + 1) xs)
one_more f xs i x front old new at before one =
    let next : take (i + 1) xs ≡ take i xs ++ x ∷ [] =
    take_more xs i x (slice_get_within xs i x at) ∙ ap (λ y. take i xs ++ y ∷ []) (get_or_from_slice_get xs i x x at) in
    one ∙ ap (λ t. t ++ f x) before ∙ append_assoc front (flat_map f (take i xs)) (f x)
    ∙ ap (λ t. front ++ t) (sym (ap (flat_map f) next ∙ flat_map-append f (take i xs) (x ∷ []) ∙ ap (λ t. flat_map f (take i xs) ++ t) (append-nil (f x))))

mapped : {X Y Z : Type 0} (f : Y → List Z) (g : X → Y) (front : List X) (x : X) → flat_map f (map g (front ++ x ∷ [])) ≡ flat_map f (map g front) ++ f (g x)
mapped f g [] x = append-nil (f (g x))
mapped f g (y ∷ front) x = ap (λ t. f (g y) ++ t) (mapped f g front x) ∙ sym (append_assoc (f (g y)) (flat_map f (map g front)) (f (g x)))

pub one_more_mapped : {X Y Z : Type 0} (f : Y → List Z) (g : X → Y) (xs ys : List X) (i : ℕ) (x : X) (old new : List Z) → xs ≡ ys → i < length xs → x ≡ get_or xs i x →
    old ≡ flat_map f (map g (take i ys)) → new ≡ old ++ f (g x) → new ≡ flat_map f (map g (take (i + 1) ys))
one_more_mapped f g xs ys i x old new same within is before one =
    let next : take (i + 1) xs ≡ take i xs ++ x ∷ [] = take_more xs i x within ∙ ap (λ y. take i xs ++ y ∷ []) (sym is) in
    one ∙ ap (λ t. t ++ f (g x)) before ∙ sym (mapped f g (take i ys) x)
    ∙ ap (λ l. flat_map f (map g l)) (sym (sym (ap (take (i + 1)) same) ∙ next ∙ ap (λ l. take i l ++ x ∷ []) same))
