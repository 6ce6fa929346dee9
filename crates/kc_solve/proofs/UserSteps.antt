-- A user's places, as lists of values and as they are told.
use Rattle.std.proofs.{Common.{List, None, Option, Some, [], ap, length, map, refl, sym, ℕ, ◌∙◌, ◌∷◌, ◌≡◌}, Math.ListN.get_or-map, lemmas.List.length-map}
use Rattle.std.specs.{Borrow.Bor, Prelude.{option_map, slice_index_or}}
use Rattle.kc_language.specs.{ConfigFile.{Places, place_at}, Expressions.SymbolValue, Symbols.TreeFacts, Values.{ChoicePlace, GivenValue, Solves, SymbolPlace, UserPlace, equations, name_count, rhs, user_place}, declared.expressions.SymId.SymId}
use Rattle.kc_user.specs.{ValueView.given_of_value, declared.value.UserValue.UserValue}
use Rattle.kc_values.specs.{Selections.member_given, User.given_in}
use Rattle.kc_solve.specs.PlaceLists.{given_at, places}

-- the value in a place
pub place_mapped : (o : Option (Bor UserValue)) → given_in o ≡ option_map (λ value. given_of_value value.now) o
place_mapped None = refl
place_mapped (Some v) = refl

-- as many places as values
pub count_shown : (xs : List (Option UserValue)) (shown : List (Option GivenValue)) → map (option_map given_of_value) xs ≡ shown → length xs ≡ length shown
count_shown xs shown e = sym (length-map xs (option_map given_of_value)) ∙ ap length e

given_mapped : (xs : List (Option UserValue)) → map given_at xs ≡ map (option_map given_of_value) xs
given_mapped [] = refl
given_mapped (None ∷ xs) = ap (λ ys. None ∷ ys) (given_mapped xs)
given_mapped (Some v ∷ xs) = ap (λ ys. Some (given_of_value v) ∷ ys) (given_mapped xs)

-- the places as lists of values are those that are told
places_same : (xs : List (Option UserValue)) (ms : List (Option SymId)) (u : Places) → map given_at xs ≡ u.symbols → ms ≡ u.choices → (p : UserPlace) → places xs ms p ≡ place_at u p
places_same xs ms u e h (SymbolPlace i) = sym (get_or-map given_at xs i None) ∙ ap (λ s. slice_index_or s i None) e
places_same xs ms u e h (ChoicePlace c) = ap (λ m. member_given m c) h

pub solves_as_shown : (tree : TreeFacts) (xs : List (Option UserValue)) (ms : List (Option SymId)) (u : Places) (V : ℕ → SymbolValue) → map (option_map given_of_value) xs ≡ u.symbols →
    ms ≡ u.choices → Solves (name_count tree) (equations tree (places xs ms)) V → Solves (name_count tree) (equations tree (place_at u)) V
solves_as_shown tree xs ms u V e h solves s l =
    solves s l ∙ ap (λ p. rhs tree s p V) (places_same xs ms u (given_mapped xs ∙ e) h (user_place tree s))

-- the same the other way
pub solves_as_lists : (tree : TreeFacts) (xs : List (Option UserValue)) (ms : List (Option SymId)) (u : Places) (V : ℕ → SymbolValue) → map (option_map given_of_value) xs ≡ u.symbols →
    ms ≡ u.choices → Solves (name_count tree) (equations tree (place_at u)) V → Solves (name_count tree) (equations tree (places xs ms)) V
solves_as_lists tree xs ms u V e h solves s l =
    solves s l ∙ sym (ap (λ p. rhs tree s p V) (places_same xs ms u (given_mapped xs ∙ e) h (user_place tree s)))
