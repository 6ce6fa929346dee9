-- A name is escaped byte by byte.
use Rattle.std.proofs.{Common.{List, Some, [], ap, append-nil, append_assoc, length, slice_get, sym, take, ℕ, ◌++◌, ◌+◌, ◌<◌, ◌∙◌, ◌∷◌, ◌≡◌}, lemmas.{Grind.flat_map-append, List.take_more, Option.{get_or_from_slice_get, slice_get_within}}}
use Rattle.std.specs.Prelude.{flat_map}

-- one name more is added
pub names_more : (f : List ℕ → List ℕ) (text now old : List ℕ) (names : List (List ℕ)) (i : ℕ) (name : List ℕ) → slice_get names i ≡ Some name →
    text ≡ old ++ flat_map f (take i names) → now ≡ text ++ f name →
    now ≡ old ++ flat_map f (take (i + 1) names)
names_more f text now old names i name there before added =
    let within : i < length names = slice_get_within names i name there in
    let more : take (i + 1) names ≡ take i names ++ name ∷ [] = take_more names i name within ∙ ap (λ x. take i names ++ x ∷ []) (get_or_from_slice_get names i name name there) in
    added ∙ ap (λ t. t ++ f name) before ∙ append_assoc old (flat_map f (take i names)) (f name)
    ∙ ap (λ t. old ++ (flat_map f (take i names) ++ t)) (sym (append-nil (f name)))
    ∙ ap (λ t. old ++ t) (sym (ap (flat_map f) more ∙ flat_map-append f (take i names) (name ∷ [])))
