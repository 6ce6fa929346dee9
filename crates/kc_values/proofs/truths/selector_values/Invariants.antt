use Rattle.std.proofs.Common.{◌≡◌}
use Rattle.kc_language.specs.{Expressions.greater, declared.{expressions.SymId.SymId, symbols.SelectOrImply.SelectOrImply}}
use Rattle.kc_values.specs.TableFacts.{IsLineAt}
use Rattle.kc_values.proofs.ChainLemmas.{values_left}
use Rattle.kc_values.proofs.truths.selector_values.Given as goal

abbrev pub invariant-lines : goal.invariant-lines
invariant-lines l =
    (w : SelectOrImply) (s : SymId) → IsLineAt l.table w s l.fn.last.0 →
    IsLineAt l.table w s l.at.0 × (greater l.greatest (values_left l.table w s l.at.0) ≡ values_left l.table w s l.fn.last.0)

abbrev pub decreases-lines : goal.decreases-lines
decreases-lines l = l.at.0
