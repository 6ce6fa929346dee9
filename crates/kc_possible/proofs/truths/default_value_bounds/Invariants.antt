use Rattle.kc_language.specs.{Expressions.SymbolValue, declared.expressions.SymId.SymId}
use Rattle.kc_possible.specs.{PartsOfPossible.{facts_in, greatest_default}, Possible.Allows}
use Rattle.kc_possible.proofs.{DefinitionWalks.{IsWalk, definitions_left, left, defaults_of}, SeenLemmas.IsSeen}
use Rattle.kc_possible.proofs.truths.default_value_bounds.Given as goal

abbrev pub invariant-definitions : goal.invariant-definitions
invariant-definitions l =
    let laid = l.p.laid.layout.now in
    let tree = l.p.laid.tree.now in
    record {
      seen : (known : SymId → SymbolValue) → Allows l.p known →
          IsSeen l.greatest (defaults_of laid l.fn.id tree known (definitions_left laid l.fn.id l.at.0)) (greatest_default tree known (facts_in l.p l.fn.id l.row).defaults);
      walk : IsWalk laid l.fn.id l.at.0;
    }

abbrev pub decreases-definitions : goal.decreases-definitions
decreases-definitions l = left l.p.laid.layout.now l.fn.id l.at.0
