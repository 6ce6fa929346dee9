-- Trusted: The default, the range and the target of a line, without their layout in memory.
use Rattle.std.specs.{Option.option_and_then, Prelude.Option}
use Rattle.kc_expr.specs.{Form.{form_of, leaf_of}, When.when_view}
use Rattle.kc_language.specs.{Expressions.Form, Statements.Numbered, Symbols.{Bounds, StatedDefault, single_symbol, stated_default}, declared.{expressions.SymId.SymId, symbols.SelectOrImply.SelectOrImply}}
use Rattle.kc_entries.specs.declared.statement.{SymbolDefault.SymbolDefault, SymbolRange.SymbolRange}
use Rattle.kc_tree.specs.declared.attributes.Target.{Target}

abbrev pub default_said : SymbolDefault → StatedDefault
default_said d = record { value = form_of d.value.value; when = when_view d.when }

abbrev pub range_said : SymbolRange → Bounds × Option Form
range_said r = (record { low = leaf_of r.low; high = leaf_of r.high }, when_view r.when)

abbrev pub target_said : Target → SelectOrImply × SymId × Option Form
target_said t = (t.word, t.symbol, when_view t.when.now)

-- the symbol of a default whose value is one symbol
abbrev pub default_symbol : Numbered → Option SymId
default_symbol s = option_and_then (λ g. single_symbol g.value) (stated_default s)
