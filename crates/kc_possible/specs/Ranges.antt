-- For proofs: Texts whose numbers are outside ranges.
use Rattle.std.specs.{List.{filter_map, flat_map}, Option.is_none, Prelude.{Bool, List, None, Option, Some, int_lt, map, true, ℕ, ◌&&◌, ◌||◌, ◌≡◌}}
use Rattle.kc_language.specs.{Expressions.{Form, SymbolValue, text}, Symbols.{Bounds, Condition, Guarded, TreeFacts}, Values.{conditions, first_met, number_or_zero}, declared.{expressions.{SymId.SymId, SymbolType.SymbolType, Tri.TheVariants.N}, values.Interval.Interval}}
use Rattle.kc_tree.specs.{EntryViews.definitions_from, Layouts.{DefinitionFacts, definition_facts}}
use Rattle.kc_possible.specs.declared.possible.Possible.{Possible}

-- the number of the text is below both bounds, or above both
abbrev pub is_outside : SymbolType → List ℕ → Interval → Bool
is_outside k t r = (int_lt (number_or_zero k t) r.low && int_lt (number_or_zero k t) r.high) || (int_lt r.low (number_or_zero k t) && int_lt r.high (number_or_zero k t))

-- the numbers of the bounds of a range
abbrev pub interval : (SymId → SymbolValue) → SymbolType → Bounds → Interval
interval known k b = record { low = number_or_zero k (text known b.low); high = number_or_zero k (text known b.high) }

abbrev pub IsExcluded : (SymId → SymbolValue) → SymbolType → List ℕ → Bounds × Option Form → Type 0
IsExcluded known k t r = is_outside k t (interval known k r.0) ≡ true

-- a range without an `if`
abbrev pub is_plain : Bounds × Option Form → Bool
is_plain r = is_none (r.1)

abbrev pub all_definitions : Possible → SymId → List DefinitionFacts
all_definitions p s = map (definition_facts p.laid.layout.now) (definitions_from p.laid.layout.now.entries s 0)

-- What definitions say of a text: it is outside the range that counts. If none counts, no prompt is visible and no default counts.
pub record IsBounded (tree : TreeFacts) (known : SymId → SymbolValue) (k : SymbolType) (t : List ℕ) (ds : List DefinitionFacts) : Type 0 where
  pub outside : (g : Guarded Bounds) → first_met tree known (flat_map (λ (d : DefinitionFacts). d.ranges) ds) ≡ Some g → is_outside k t (interval known k g.what) ≡ true
  pub silent : first_met tree known (flat_map (λ (d : DefinitionFacts). d.ranges) ds) ≡ None →
      (conditions tree known (filter_map (λ (d : DefinitionFacts). d.prompt) ds) ≡ N) × (first_met tree known (flat_map (λ (d : DefinitionFacts). d.defaults) ds) ≡ None)
