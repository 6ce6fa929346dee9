-- For proofs: Where the value of a symbol comes from, read from its row.
use Rattle.std.specs.Prelude.{None, Option, Some, ℕ}
use Rattle.kc_language.specs.{ConfigFile.{Places, place_at}, Expressions.SymbolValue, Sources.{member_source, source_by_type}, Symbols.{SymbolFacts, TreeFacts}, Values.{ChoicePlace, GivenValue, SymbolPlace, UserPlace, choice_at}, declared.{expressions.SymId.SymId, sources.Source.Source}}
use Rattle.kc_tree.specs.declared.rows.Symbol.{Symbol}
use Rattle.kc_values.specs.{TableFacts.{facts_in, known_at}, declared.table.Table.Table}

-- by the symbol's choice, if it is a member
abbrev pub source_by_choice : TreeFacts → (SymId → SymbolValue) → (UserPlace → Option GivenValue) → SymId → SymbolFacts → Option ℕ → Source
source_by_choice tree known user id f None = source_by_type tree known f f.symbol_type (user (SymbolPlace id.0))
source_by_choice tree known user id f (Some c) = member_source tree known (choice_at tree c) (user (ChoicePlace c))

-- the same, read from its row
abbrev pub row_source : Table → Places → SymId → Symbol → Source
row_source t user id row = source_by_choice t.tree.now (known_at t) (place_at user) id (facts_in t id row) (facts_in t id row).choice
