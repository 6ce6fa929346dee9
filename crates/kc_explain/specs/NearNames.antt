-- For proofs: Names that differ by one letter, name by name.
use Rattle.std.specs.Prelude.{Bool, List, [], codes, if◌then◌else◌, length, ℕ, ◌++◌, ◌==◌, ◌||◌, ◌∷◌}
use Rattle.kc_outcome.specs.Explanations.{differs_by_one}
use Rattle.kc_language.specs.Expressions.{same_name}

-- whether names that begin with different letters, or of which one is empty, differ by one letter
abbrev pub differs_here : List ℕ → List ℕ → Bool
differs_here [] name = length name == 1
differs_here (a ∷ xs) [] = length xs == 0
differs_here (a ∷ xs) (b ∷ ys) = same_name xs ys || (same_name (a ∷ xs) ys || same_name xs (b ∷ ys))

-- the text before the next name of a list
abbrev pub before_near : List ℕ → List ℕ
before_near [] = codes "; one letter differs: "
before_near (b ∷ bs) = codes ", "

-- the text with a name appended, if it differs by one letter; the same for a list of names
abbrev pub with_near : List ℕ → List ℕ → List ℕ → List ℕ
with_near asked text name = if differs_by_one asked name then text ++ before_near text ++ name else text

abbrev pub with_each : List ℕ → List ℕ → List (List ℕ) → List ℕ
with_each asked text [] = text
with_each asked text (name ∷ names) = with_each asked (with_near asked text name) names
