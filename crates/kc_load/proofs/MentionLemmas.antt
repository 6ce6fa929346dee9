-- Names that are mentioned one after another.
use Rattle.std.proofs.{Common.{List, [], ap, get_or, length, map, refl, sym, take, ℕ, ◌++◌, ◌+◌, ◌<◌, ◌∙◌, ◌∷◌, ◌≡◌}, lemmas.List.{map_push, take_more}}
use Rattle.kc_language.specs.Expressions.{all_mentioned, mention}

pub all_append : (names xs ys : List (List ℕ)) → all_mentioned names (xs ++ ys) ≡ all_mentioned (all_mentioned names xs) ys
all_append names [] ys = refl
all_append names (x ∷ xs) ys = all_append (mention names x) xs ys

-- one name more of a list is mentioned
pub mention_next : {X : Type 0} (f : X → List ℕ) (names so_far now : List (List ℕ)) (xs : List X) (i : ℕ) (x : X) (name : List ℕ) → i < length xs → x ≡ get_or xs i x → name ≡ f x →
    so_far ≡ all_mentioned names (map f (take i xs)) → now ≡ mention so_far name → now ≡ all_mentioned names (map f (take (i + 1) xs))
mention_next f names so_far now xs i x name within there is before mentioned =
    let more : take (i + 1) xs ≡ take i xs ++ x ∷ [] = take_more xs i x within ∙ ap (λ y. take i xs ++ y ∷ []) (sym there) in
    mentioned ∙ ap (mention so_far) is ∙ ap (λ n. mention n (f x)) before
    ∙ sym (ap (λ l. all_mentioned names (map f l)) more ∙ ap (all_mentioned names) (map_push f (take i xs) x) ∙ all_append names (map f (take i xs)) (f x ∷ []))
