use Rattle.kc_language.specs.Values.{condition}
use Rattle.kc_tree.specs.Layouts.{condition_at}
use Rattle.kc_values.specs.TableFacts.{known_at}
use Rattle.kc_solve.proofs.ComputeSteps.{worth_put}
use Rattle.kc_solve.proofs.compute.compute_context.Goals as goal

pub invariant_of-table : goal.invariant_of-table
invariant_of-table c =
    let t = c.args.table.now in
    record {
      laid = t.laid;
      formed = t.formed;
      contexts_computed = worth_put (λ at. condition t.tree.now (known_at t) (condition_at t.layout.now at)) t.contexts.items c.args.id.0 c.context-value.result c.requires c.context-value.ensures t.contexts_computed;
      visibles_computed = t.visibles_computed;
      dependencies_computed = t.dependencies_computed;
    }
