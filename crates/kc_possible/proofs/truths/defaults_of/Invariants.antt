use Rattle.kc_language.specs.{Expressions.SymbolValue, declared.expressions.SymId.SymId}
use Rattle.kc_tree.specs.Layouts.{condition_at, default_view}
use Rattle.kc_possible.specs.Possible.{Allows}
use Rattle.kc_possible.proofs.{DefaultLemmas.greatest_from, SeenLemmas.IsSeen}
use Rattle.kc_possible.proofs.truths.defaults_of.Given as goal

abbrev pub invariant-loop-line : goal.invariant-loop-line
invariant-loop-line l =
    let view = default_view (condition_at l.p.laid.layout.now l.place.context.0) in
    (known : SymId → SymbolValue) → Allows l.p known →
    IsSeen l.greatest (greatest_from l.p.laid.tree.now known view l.line-items l.line-index) (greatest_from l.p.laid.tree.now known view l.line-items 0)
