use Rattle.kc_language.specs.{Expressions.SymbolValue, declared.expressions.SymId.SymId}
use Rattle.kc_language.specs.Values.{conditions}
use Rattle.kc_possible.specs.{PartsOfPossible.facts_in, Possible.Allows}
use Rattle.kc_possible.proofs.{DefinitionWalks.{IsWalk, definitions_left, left, prompts_of}, SeenLemmas.IsSeen}
use Rattle.kc_possible.proofs.truths.prompts_bounds.Given as goal

abbrev pub invariant-definitions : goal.invariant-definitions
invariant-definitions l =
    let laid = l.p.laid.layout.now in
    let tree = l.p.laid.tree.now in
    record {
      seen : (known : SymId → SymbolValue) → Allows l.p known →
          IsSeen l.greatest (prompts_of laid l.fn.id tree known (definitions_left laid l.fn.id l.at.0)) (conditions tree known (facts_in l.p l.fn.id l.row).prompts);
      walk : IsWalk laid l.fn.id l.at.0;
    }

abbrev pub decreases-definitions : goal.decreases-definitions
decreases-definitions l = left l.p.laid.layout.now l.fn.id l.at.0
