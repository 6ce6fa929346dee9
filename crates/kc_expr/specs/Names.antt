-- Trusted: Names and their numbers.
use Rattle.std.specs.{List.IsDistinct, Prelude.{List, ℕ, ◌++◌, ◌≡◌}}
use Rattle.kc_language.specs.{Expressions.{number_of, same_name, symbol}, declared.expressions.SymId.SymId}

-- the old names, possibly followed by more
abbrev pub Extends : List (List ℕ) → List (List ℕ) → Type 0
Extends old new = (others : List (List ℕ)) × (new ≡ old ++ others)

-- the number of a name, also in all later names
abbrev pub IsNumber : List (List ℕ) → List ℕ → SymId → Type 0
IsNumber names name id = (later : List (List ℕ)) → Extends names later → id ≡ symbol (number_of later name)

-- no two numbers have the same name
abbrev pub AreDistinct : List (List ℕ) → Type 0
AreDistinct = IsDistinct same_name
