use Rattle.kc_language.specs.{Expressions.SymbolValue, declared.expressions.SymId.SymId}
use Rattle.kc_possible.specs.{Possible.Allows, Ranges.{IsBounded, all_definitions}}
use Rattle.kc_possible.proofs.DefinitionWalks.{IsWalk, definitions_left, left}
use Rattle.kc_possible.proofs.ranges.are_bounded.Given as goal

abbrev pub invariant-definitions : goal.invariant-definitions
invariant-definitions l =
    let laid = l.p.laid.layout.now in
    let tree = l.p.laid.tree.now in
    record {
      whole : (known : SymId → SymbolValue) → Allows l.p known →
          IsBounded tree known l.row.symbol_type l.text (definitions_left laid l.fn.id l.at.0) → IsBounded tree known l.row.symbol_type l.text (all_definitions l.p l.fn.id);
      walk : IsWalk laid l.fn.id l.at.0;
    }

abbrev pub decreases-definitions : goal.decreases-definitions
decreases-definitions l = left l.p.laid.layout.now l.fn.id l.at.0
