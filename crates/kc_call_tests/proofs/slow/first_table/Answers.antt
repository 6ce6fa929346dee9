use Rattle.std.proofs.Common.{sym, ◌∙◌, ap, length, suc, None}
use Rattle.std.specs.Prelude.{slice_index_or}
use Rattle.kc_solve.specs.Computing.{slots_of}
use Rattle.kc_solve.proofs.ComputeSteps.{empty_at}
use Rattle.kc_call_tests.proofs.SlowSteps.{nothing_names, only_top}
use Rattle.kc_call_tests.proofs.slow.first_table.Goals as goal

pub invariant_of-table : goal.invariant_of-table
invariant_of-table c =
    let t = c.in_ok-table.table in
    let l = c.args.laid.now.layout.now in
    let empty = c.in_ok-table.ensures in
    record {
      laid = t.laid;
      formed = t.formed;
      contexts_computed = only_top t.tree.now t.layout.now _ t.contexts.items (length l.places.items) empty.contexts;
      visibles_computed = λ i x e. absurd (empty_at (suc (length l.visibles.items)) i x (sym (ap (λ xs. slice_index_or xs i None) empty.visibles) ∙ e));
      dependencies_computed = λ i x e. absurd (empty_at (length l.choices.items) i x (sym (ap (λ xs. slice_index_or xs i None) empty.dependencies) ∙ e));
    }

pub returns-clause-unread : goal.returns-clause-unread
returns-clause-unread c =
    let t = c.in_ok-table.table in
    let l = c.args.laid.now.layout.now in
    let empty = c.in_ok-table.ensures in
    let choices = length l.choices.items in
    nothing_names t.tree.now t.layout.now (slots_of t) (length l.places.items) (suc (length l.visibles.items)) choices choices empty.contexts empty.visibles empty.dependencies empty.selections
