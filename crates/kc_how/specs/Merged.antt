-- For proofs: The user's values of two inputs, one after the other.
use Rattle.std.specs.{Option.option_or, Prelude.{List, Option, [], ◌∷◌}}
use Rattle.kc_language.specs.ConfigFile.{Places}

-- in each place the new value, or else the old one
abbrev pub laid_over : {A : Type 0} → List (Option A) → List (Option A) → List (Option A)
laid_over [] new = []
laid_over (x ∷ old) [] = x ∷ old
laid_over (x ∷ old) (y ∷ new) = option_or y x ∷ laid_over old new

-- the values of the second input over those of the first
abbrev pub merged_places : Places → Places → Places
merged_places first second = record { symbols = laid_over first.symbols second.symbols; choices = laid_over first.choices second.choices }
