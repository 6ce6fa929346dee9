-- Trusted: What no line can change.
-- Our own.
use Rattle.std.specs.Prelude.{Bool, List, [], map, ℕ, ◌++◌, ◌∷◌, ◌≡◌, ◌⊎◌}
use Rattle.kc_language.specs.{ConfigFile.{UserInput, place_at}, Expressions.SymbolValue, Statements.statements, Symbols.TreeFacts, Texts.Solution, Values.known_from, declared.expressions.SymId.SymId}
use Rattle.kc_outcome.specs.Explanations.{Fact, Holds, PartIs, ending, facts_in, location, part_text, text_of_lines, words_of}
use Rattle.kc_possible.specs.Possible.{IsUnder}

-- The fact holds under every input.
abbrev pub IsFixed : TreeFacts → Fact → Type 0
IsFixed tree fact = (input : UserInput) (V : ℕ → SymbolValue) → IsUnder tree (place_at input.places) V → Holds (statements tree.lines) tree input (known_from tree V) fact

-- Some of these facts, in the same order. Each of them is fixed.
abbrev pub AreFixed : TreeFacts → List Fact → List Fact → Type 0
AreFixed tree some [] = some ≡ []
AreFixed tree some (fact ∷ all) = AreFixed tree some all ⊎ ((rest : List Fact) × (some ≡ fact ∷ rest) × IsFixed tree fact × AreFixed tree rest all)

-- Some facts about a symbol that no line can change, of those that explain it.
abbrev pub AreFixedOf : UserInput → Solution → SymId → List Fact → Type 0
AreFixedOf input solution s facts = AreFixed solution.tree facts (facts_in input solution s)

-- The lines of such facts: their words as in an explanation. Before a part of a condition there are no blanks of its own.
module _ (is_raw : Bool) (tree : TreeFacts) where
  abbrev pub fixed_words : Fact → List ℕ
  fixed_words (PartIs p t) = location is_raw tree p.at ++ part_text is_raw tree p ++ ending t
  fixed_words fact = words_of is_raw tree fact

  abbrev pub fixed_lines : List ℕ → List Fact → List ℕ
  fixed_lines lead facts = text_of_lines lead (map fixed_words facts)
