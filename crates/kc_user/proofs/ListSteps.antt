-- Lists by number, one of which has one item more.
use Rattle.std.proofs.{Common.{Global, List, Vec, [], ap, arith, get_or, length, map, set, suc, sym, zero, ℕ, ◌++◌, ◌<◌, ◌∙◌, ◌∷◌, ◌≡◌}, lemmas.List.map-set}

item_at : {A B : Type 0} (f : A → B) (xs : List A) (i : ℕ) (x : A) (d : B) → i < length xs → x ≡ get_or xs i x → get_or (map f xs) i d ≡ f x
item_at f [] i x d within is = absurd (omega (arith, within))
item_at f (y ∷ xs) zero x d within is = ap f (sym is)
item_at f (y ∷ xs) (suc i) x d within is = item_at f xs i x d (omega (arith, within)) is

pub one_longer : {T : Type 0} (lists : List (Vec T Global)) (i : ℕ) (old new : Vec T Global) (item : T) (all : List (List T)) → i < length lists → old ≡ get_or lists i old →
    new.items ≡ old.items ++ item ∷ [] → map (λ l. l.items) lists ≡ all → map (λ l. l.items) (set lists i new) ≡ set all i (get_or all i [] ++ item ∷ [])
one_longer lists i old new item all within is more view =
    map-set (λ l. l.items) lists i new ∙ ap (set (map (λ l. l.items) lists) i) (more ∙ ap (λ l. l ++ item ∷ []) (sym (item_at (λ l. l.items) lists i old [] within is)))
    ∙ ap (λ g. set g i (get_or g i [] ++ item ∷ [])) view
