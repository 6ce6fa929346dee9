-- For proofs: The visibility of a symbol, whether it differs given the selections of the choices, whether it is written, and whether it is off or on.
use Rattle.std.specs.{List.range_with_len, Prelude.{Bool, List, None, Option, Some, false, is_some, length, map, not, slice_index_or, ℕ, ◌&&◌, ◌≡◌}}
use Rattle.kc_language.specs.{ConfigFile.{Places, place_at}, Expressions.{SymbolValue, symbol}, Symbols.{SymbolFacts, TreeFacts, is_symbol_of}, Values.{ChoicePlace, GivenValue, SymbolPlace, by_type, default_selection, differs, facts, is_chosen, is_n, is_new_by, known_from, name_count, selection, written}, declared.expressions.{SymId.SymId, SymbolType.{SymbolType, TheVariants.{Bool as IsBool, Tristate}}, Tri.Tri}}
use Rattle.kc_tree.specs.declared.rows.Symbol.{Symbol}
use Rattle.kc_values.specs.{AtTable.{has_other, is_visible, selected}, PartsOfValues.same_value, TableFacts.{facts_in, known_at}, declared.table.Table.Table}
use Rattle.kc_solve.specs.{Answers.visibility_by, Kept.valuation}

abbrev pub differs_by : TreeFacts → (SymId → SymbolValue) → SymId → SymbolFacts → Option ℕ → List (Option SymId) → List (Option SymId) → Bool
differs_by tree known s f None selections defaults = not (same_value (known s) (by_type tree known s f f.symbol_type None))
differs_by tree known s f (Some c) selections defaults =
    is_symbol_of s (slice_index_or selections c None) && not (is_symbol_of s (slice_index_or defaults c None))

-- whether a symbol differs, read from its row
abbrev pub row_differs : Table → SymId → Symbol → List (Option SymId) → List (Option SymId) → Bool
row_differs t id row selections defaults = differs_by t.tree.now (known_at t) id (facts_in t id row) (facts_in t id row).choice selections defaults

-- the value of a symbol outside a choice is what its equation gives
abbrev pub IsSolvedOwn : TreeFacts → (SymId → SymbolValue) → SymId → SymbolFacts → Option ℕ → Option GivenValue → Type 0
IsSolvedOwn tree known s f None given = known s ≡ by_type tree known s f f.symbol_type given
IsSolvedOwn tree known s f (Some c) given = Unit {0}

-- the same, read from its row
abbrev pub IsSolvedRow : Table → SymId → Symbol → Option GivenValue → Type 0
IsSolvedRow t id row given = IsSolvedOwn t.tree.now (known_at t) id (facts_in t id row) (facts_in t id row).choice given

-- the same of the facts of a symbol, if there are any, for some user value
abbrev pub IsSolvedAt : Table → SymId → Type 0
IsSolvedAt t id = (f : SymbolFacts) → facts t.tree.now id ≡ Some f → (own : Option GivenValue) × IsSolvedOwn t.tree.now (known_at t) id f f.choice own

-- whether a member without a user value is new; whether a symbol is new, read from its row
abbrev pub member_is_new : Table → Places → SymId → Symbol → ℕ → Bool
member_is_new t user id row c =
    is_visible t id row && (not (is_chosen (selected t c (place_at user (ChoicePlace c))) (place_at user (ChoicePlace c))) && has_other t c)

abbrev pub row_is_new : Table → Places → SymId → Symbol → Bool
row_is_new t user id row =
    not (is_some (place_at user (SymbolPlace id.0)))
    && is_new_by t.tree.now (known_at t) (place_at user) id (facts_in t id row) (facts_in t id row).choice

-- whether the symbol of this number has a line in the .config, under a valuation
abbrev pub is_written : TreeFacts → (ℕ → SymbolValue) → ℕ → Bool
is_written tree V i = written tree (known_from tree V) (symbol i)

-- the valuation that a table holds
abbrev pub values_in : Table → ℕ → SymbolValue
values_in t = valuation t.tree.now t.values

-- the selection of each choice, with the user's member and without it
abbrev pub selected_by : Table → Places → List (Option SymId)
selected_by t user = map (selection t.tree.now (place_at user) (values_in t)) (range_with_len 0 (length t.tree.now.choices))

abbrev pub selected_by_default : Table → List (Option SymId)
selected_by_default t = map (default_selection t.tree.now (values_in t)) (range_with_len 0 (length t.tree.now.choices))

-- whether each symbol differs
abbrev pub differing_by : Table → Places → List Bool
differing_by t user = map (differs t.tree.now (place_at user) (values_in t)) (range_with_len 0 (name_count t.tree.now))

-- whether a symbol with this type and this truth value is a bool or tristate that is n
abbrev pub is_off : SymbolType → Tri → Bool
is_off kind = elim kind [ IsBool ↦ is_n | Tristate ↦ is_n | _ ↦ λ t. false ]

-- whether a symbol of this choice with this type and this truth value is a bool or tristate outside a choice that is not n
abbrev pub is_on : Option ℕ → SymbolType → Tri → Bool
is_on (Some c) kind = λ t. false
is_on None kind = elim kind [ IsBool ↦ λ t. not (is_n t) | Tristate ↦ λ t. not (is_n t) | _ ↦ λ t. false ]

-- whether each symbol has a line
abbrev pub written_in : Table → List Bool
written_in t = map (is_written t.tree.now (values_in t)) (range_with_len 0 (name_count t.tree.now))
