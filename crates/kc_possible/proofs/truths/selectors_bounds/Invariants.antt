use Rattle.kc_language.specs.{Expressions.SymbolValue, declared.{expressions.SymId.SymId, symbols.SelectOrImply.SelectOrImply}}
use Rattle.kc_possible.specs.{PartsOfPossible.IsLineAt, Possible.Allows}
use Rattle.kc_possible.proofs.{SeenLemmas.IsSeen, SelectorWalks.values_left}
use Rattle.kc_possible.proofs.truths.selectors_bounds.Given as goal

abbrev pub invariant-lines : goal.invariant-lines
invariant-lines l =
    let values = values_left l.p.laid.layout.now in
    let tree = l.p.laid.tree.now in
    (w : SelectOrImply) (s : SymId) → IsLineAt l.p w s l.fn.last.0 →
    IsLineAt l.p w s l.at.0 × ((known : SymId → SymbolValue) → Allows l.p known → IsSeen l.greatest (values w s tree known l.at.0) (values w s tree known l.fn.last.0))

abbrev pub decreases-lines : goal.decreases-lines
decreases-lines l = l.at.0
