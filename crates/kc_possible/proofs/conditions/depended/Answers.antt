use Rattle.std.proofs.Common.{subst, sym}
use Rattle.std.specs.List.{filter_map}
use Rattle.kc_language.specs.{Symbols.dependency_in, Values.{and_value, condition}}
use Rattle.kc_tree.specs.{EntryViews.statements_of, Layouts.condition_at}
use Rattle.kc_possible.specs.Bounds.{IsWithin}
use Rattle.kc_possible.proofs.OutwardSteps.{dependency-is}
use Rattle.kc_possible.proofs.conditions.depended.Goals as goal

pub returns : goal.returns
returns c = λ known ok.
    let tree = c.args.p.now.laid.tree.now in
    let l = c.args.p.now.laid.layout.now in
    let around = subst (λ n. IsWithin c.context-around.result (condition tree known (condition_at l n))) c.outer_context.ensures (c.context-around.ensures known ok) in
    let own = subst (λ r. IsWithin c.depends_bounds.result (and_value tree known (filter_map dependency_in (statements_of r)))) c.attributes.ensures (c.depends_bounds.ensures known ok) in
    subst (IsWithin c.lesser.result) (sym (dependency-is tree l known c.args.id.0 c.args.choice.now c.requires)) (c.lesser.ensures _ _ around own)
