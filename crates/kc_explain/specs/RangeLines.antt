-- Trusted: The `range` lines that stand in the way of a number.
-- Our own.
use Rattle.std.specs.{Option.option_and_then, Prelude.{Bool, List, None, Option, [], codes, false, filter, if◌then◌else◌, is_some, map, not, option_map, true, ℕ, ℤ, ◌&&◌, ◌++◌}}
use Rattle.kc_language.specs.{Expressions.{Form, Leaf, Symbol, Text}, ExpressionTexts.operand_text, Statements.statements, Symbols.{Bounds, TreeFacts, range_in, same_type}, Values.{facts, is_within_range, name, number_as, type_in}, declared.{expressions.{SymId.SymId, SymbolType.{SymbolType, TheVariants.{Hex, Int, Undefined}}}, values.Interval.Interval}}
use Rattle.kc_outcome.specs.Explanations.{Said, if_text, location, said_of, text_of_lines}

-- Whether the values of a type are numbers.
abbrev pub holds_number : SymbolType → Bool
holds_number kind = elim kind [ Int ↦ true | Hex ↦ true | _ ↦ false ]

module _ (tree : TreeFacts) (kind : SymbolType) where
  -- The number that a bound is under every input: a constant, or a name without a type.
  abbrev pub plain_number : Leaf → Option ℤ
  plain_number bound = elim bound [
    | Text bytes ↦ number_as kind bytes
    | Symbol s ↦ if same_type (type_in (facts tree s)) Undefined then number_as kind (name tree s) else None
  ]

  abbrev pub plain_interval : Bounds → Option Interval
  plain_interval b = option_and_then (λ low. option_map (λ high. record { low = low; high = high }) (plain_number b.high)) (plain_number b.low)

  -- Whether both bounds are such numbers, and the number of a text is between them.
  abbrev pub allows : List ℕ → Bounds → Bool
  allows number b = is_some (plain_interval b) && is_within_range kind (plain_interval b) number

module _ (is_raw : Bool) (tree : TreeFacts) where
  -- A range with its location, as in an explanation, but without the values of its condition and its bounds.
  abbrev pub range_words : Said (Bounds × Option Form) → List ℕ
  range_words r = let bound = operand_text tree.names in
      location is_raw tree r.at ++ codes "range " ++ bound (r.what).0.low ++ codes " " ++ bound (r.what).0.high ++ if_text is_raw tree (r.what).1

  -- The ranges of an int or hex that do not always allow this number, each in a line after the lead.
  abbrev pub range_lines : List ℕ → SymId → List ℕ → List ℕ
  range_lines lead s number = let kind = type_in (facts tree s) in if holds_number kind
      then text_of_lines lead (map range_words (filter (λ r. not (allows tree kind number (r.what).0)) (said_of (statements tree.lines) range_in s))) else []
