-- If the definitions from here on have the value, all have it.
use Rattle.std.specs.List.{AllByRecursion}
use Rattle.std.specs.Prelude.{◌≡◌}
use Rattle.kc_expr.specs.When.{when_view}
use Rattle.kc_language.specs.{Expressions.SymbolValue, Values.condition, declared.expressions.SymId.SymId}
use Rattle.kc_tree.specs.Layouts.{DefinitionFacts, with_when}
use Rattle.kc_possible.specs.{Possible.Allows, Ranges.all_definitions}
use Rattle.kc_possible.proofs.DefinitionWalks.{IsWalk, definitions_left, left}
use Rattle.kc_explain.proofs.always.is_in_each.Given as goal

abbrev pub invariant-definitions : goal.invariant-definitions
invariant-definitions l =
    let laid = l.p.laid.layout.now in
    let tree = l.p.laid.tree.now in
    record {
      whole : (known : SymId → SymbolValue) → Allows l.p known →
          AllByRecursion (λ (d : DefinitionFacts). condition tree known (with_when d.dependency (when_view l.when)) ≡ l.fn.value) (definitions_left laid l.fn.id l.at.0) →
          AllByRecursion (λ (d : DefinitionFacts). condition tree known (with_when d.dependency (when_view l.when)) ≡ l.fn.value) (all_definitions l.p l.fn.id);
      walk : IsWalk laid l.fn.id l.at.0;
    }

abbrev pub decreases-definitions : goal.decreases-definitions
decreases-definitions l = left l.p.laid.layout.now l.fn.id l.at.0
