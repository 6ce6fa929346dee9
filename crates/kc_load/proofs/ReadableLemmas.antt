-- The first name that make cannot read, one name on.
use Rattle.std.proofs.{Common.{Bool, List, Some, ap, drop, false, slice_get, sym, true, ℕ, ◌+◌, ◌∙◌, ◌∷◌, ◌≡◌}, lemmas.{List.at_drop_more, Option.{get_or_from_slice_get, slice_get_within}}}
use Rattle.std.specs.Prelude.{if◌then◌else◌, not}
use Rattle.kc_language.specs.Files.{is_read_by_make}
use Rattle.kc_load.specs.PartsOfOutcome.{first_unreadable}

at_name : (names : List (List ℕ)) (i : ℕ) (name : List ℕ) → slice_get names i ≡ Some name →
    first_unreadable (drop i names) ≡ (if not (is_read_by_make name) then Some name else first_unreadable (drop (i + 1) names))
at_name names i name there =
    at_drop_more first_unreadable names i name (slice_get_within names i name there)
    ∙ ap (λ n. first_unreadable (n ∷ drop (i + 1) names)) (get_or_from_slice_get names i name name there)

-- the name is read, or it is the first one
pub read_on : (names : List (List ℕ)) (i : ℕ) (name : List ℕ) (b : Bool) → slice_get names i ≡ Some name → b ≡ is_read_by_make name → b ≡ true →
    first_unreadable (drop i names) ≡ first_unreadable (drop (i + 1) names)
read_on names i name true there is e = at_name names i name there ∙ ap (λ b. if not b then Some name else first_unreadable (drop (i + 1) names)) (sym is)
read_on names i name false there is e = absurd (let clash : false ≡ true = e in cc)

pub read_to : (names : List (List ℕ)) (i : ℕ) (name : List ℕ) (b : Bool) → slice_get names i ≡ Some name → b ≡ is_read_by_make name → b ≡ false →
    first_unreadable (drop i names) ≡ Some name
read_to names i name true there is e = absurd (let clash : true ≡ false = e in cc)
read_to names i name false there is e = at_name names i name there ∙ ap (λ b. if not b then Some name else first_unreadable (drop (i + 1) names)) (sym is)
