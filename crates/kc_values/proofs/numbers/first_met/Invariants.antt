use Rattle.std.proofs.Common.{◌≡◌}
use Rattle.kc_language.specs.Symbols.{range_in}
use Rattle.kc_tree.specs.Layouts.{range_view}
use Rattle.kc_values.specs.TableFacts.{condition_at}
use Rattle.kc_values.proofs.MetLoops.{met_from}
use Rattle.kc_values.proofs.numbers.first_met.Given as goal

abbrev pub invariant-loop-line : goal.invariant-loop-line
invariant-loop-line l =
    let view = range_view (condition_at l.table l.place.context.0) in
    met_from l.table range_in view l.line-items l.line-index ≡ met_from l.table range_in view l.line-items 0
