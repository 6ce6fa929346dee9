use Rattle.std.proofs.{Common.{[], ap, arith, length, subst, sym, ℕ, ◌+◌, ◌∙◌, ◌≡◌}, lemmas.List.length-replicate}
use Rattle.std.specs.Prelude.{None, slice_index_or}
use Rattle.kc_language.specs.{Expressions.symbol, Symbols.TreeFacts, Values.name_count}
use Rattle.kc_solve.specs.{Computing.{IsComputedTable, IsSelection, IsUnreadIn, slots_of}, PlaceLists.places}
use Rattle.kc_values.specs.Table.{known_in}
use Rattle.kc_solve.proofs.{ComputeSteps.{begins_at, choice_next, choice_there, context_next, dependency_next, nothing_known, solves_at, symbol_next, undefined_worth, unread, visible_next}, TableSteps.row_count, compute.compute.Goals.{in-Choice, in-Context, in-Dependency, in-Symbol+in_ok-compute_symbol-in-Symbol, in-Visible}}
use Rattle.kc_solve.proofs.compute.compute.Goals as goal

pub loop-node-init : goal.loop-node-init
loop-node-init c =
    let e = c.in_ok-table.ensures in
    let tree = c.args.laid.now.tree.now in
    let laid = c.args.laid.now.laid in
    begins_at tree c.args.laid.now.layout.now c.args.given.now c.args.chosen.now [] c.args.nodes.now c.in_ok-table.table laid c.requires.order e.tree e.layout
    (ap length e.values ∙ length-replicate _ None ∙ laid.symbol_count) (λ s. ap (λ vs. known_in tree vs (symbol s)) e.values ∙ nothing_known tree s)
    e.contexts e.visibles e.dependencies e.selections

pub compute_symbol-requires-clause-there : goal.compute_symbol-requires-clause-there
compute_symbol-requires-clause-there c = omega (arith, c.in-Symbol.ensures.1, c.loop-node.invariant.1.value_count)

pub compute_symbol-requires-clause-given : goal.compute_symbol-requires-clause-given
compute_symbol-requires-clause-given c =
    c.requires.given ∙ sym (ap name_count c.loop-node.invariant.0) ∙ sym (row_count c.loop-node.table) ∙ sym c.loop-node.invariant.1.value_count

pub compute_symbol-requires-clause-full : goal.compute_symbol-requires-clause-full
compute_symbol-requires-clause-full c = c.loop-node.invariant.1.value_count ∙ row_count c.loop-node.table

pub compute_symbol-requires-clause-selected : goal.compute_symbol-requires-clause-selected
compute_symbol-requires-clause-selected c =
    let t = c.loop-node.table in
    subst (λ (u : TreeFacts). (n : ℕ) → IsSelection u t.values t.selections.items n (slice_index_or c.args.chosen.now n None)) (sym c.loop-node.invariant.0) c.loop-node.invariant.1.selected_are

pub compute_symbol-requires-clause-unread : goal.compute_symbol-requires-clause-unread
compute_symbol-requires-clause-unread c =
    let t = c.loop-node.table in
    let names = ap name_count c.loop-node.invariant.0 in
    subst (λ (u : TreeFacts). IsUnreadIn u t.layout.now (slots_of t) c.in-Symbol.id.0) (sym c.loop-node.invariant.0)
    (unread c.args.laid.now.tree.now t.layout.now c.args.given.now c.args.chosen.now [] c.args.nodes.now c.loop-node.node-index t.values (slots_of t) c.loop-node.invariant.1 c.loop-node-test.true
    c.in-Symbol.id.0 c.in-Symbol.ensures.0 (omega (arith, c.in-Symbol.ensures.1, row_count t, names)))

pub compute_visible-requires : goal.compute_visible-requires
compute_visible-requires c = omega (arith, c.in-Visible.ensures.1, c.loop-node.invariant.1.visible_count)

pub compute_context-requires : goal.compute_context-requires
compute_context-requires c = omega (arith, c.in-Context.ensures.1, c.loop-node.invariant.1.context_count)

pub compute_dependency-requires : goal.compute_dependency-requires
compute_dependency-requires c = omega (arith, c.in-Dependency.ensures.1, c.loop-node.invariant.1.dependency_count)

pub compute_selection-requires-clause-there : goal.compute_selection-requires-clause-there
compute_selection-requires-clause-there c =
    let t = c.loop-node.table in
    choice_there c.args.laid.now.tree.now t.layout.now c.args.given.now c.args.chosen.now [] c.args.nodes.now c.loop-node.node-index t.values (slots_of t)
    c.loop-node.invariant.1 c.loop-node-test.true c.in-Choice.id.0 c.in-Choice.ensures.0

pub compute_selection-requires-clause-chosen : goal.compute_selection-requires-clause-chosen
compute_selection-requires-clause-chosen c =
    let t = c.loop-node.table in
    let now = c.loop-node.invariant.1 in
    let l = choice_there c.args.laid.now.tree.now t.layout.now c.args.given.now c.args.chosen.now [] c.args.nodes.now c.loop-node.node-index t.values (slots_of t)
    now c.loop-node-test.true c.in-Choice.id.0 c.in-Choice.ensures.0 in
    omega (arith, l, c.requires.chosen, now.choice_count, now.laid.choice_count)

pub loop-node-preserved : goal.loop-node-preserved
loop-node-preserved c =
    let tree = c.args.laid.now.tree.now in
    let l = c.args.laid.now.layout.now in
    let given = c.args.given.now in
    let chosen = c.args.chosen.now in
    let nodes = c.args.nodes.now in
    let k = c.loop-node.node-index in
    let t = c.loop-node.table in
    let now = c.loop-node.invariant in
    let test = c.loop-node-test.true in
    let names = ap name_count now.0 in
    elim c.match-node_of.branch [
      | in-Symbol+in_ok-compute_symbol-in-Symbol w ↦
          subst (IsComputedTable tree l given chosen [] nodes (k + 1)) (sym w.table-is)
          (symbol_next tree l given chosen [] nodes k t w.compute_symbol.new.table now test w.in-Symbol.id w.in-Symbol.ensures.0 (omega (arith, w.in-Symbol.ensures.1, row_count t, names))
          (now.1.value_count ∙ row_count t ∙ names) w.in_ok-compute_symbol-in-Symbol.ensures)
      | in-Visible w ↦
          subst (IsComputedTable tree l given chosen [] nodes (k + 1)) (sym w.table-is)
          (visible_next tree l given chosen [] nodes k t w.compute_visible.new.table now test w.in-Visible.id.0 w.in-Visible.ensures.0 w.compute_visible.ensures)
      | in-Context w ↦
          subst (IsComputedTable tree l given chosen [] nodes (k + 1)) (sym w.table-is)
          (context_next tree l given chosen [] nodes k t w.compute_context.new.table now test w.in-Context.id.0 w.in-Context.ensures.0 w.compute_context.ensures)
      | in-Dependency w ↦
          subst (IsComputedTable tree l given chosen [] nodes (k + 1)) (sym w.table-is)
          (dependency_next tree l given chosen [] nodes k t w.compute_dependency.new.table now test w.in-Dependency.id.0 w.in-Dependency.ensures.0 w.compute_dependency.ensures)
      | in-Choice w ↦
          subst (IsComputedTable tree l given chosen [] nodes (k + 1)) (sym w.table-is)
          (choice_next tree l given chosen [] nodes k t w.compute_selection.new.table now test w.in-Choice.id.0 w.in-Choice.ensures.0 w.compute_selection.ensures)
    ]

pub returns-clause-solved : goal.returns-clause-solved
returns-clause-solved c =
    let tree = c.args.laid.now.tree.now in
    let l = c.args.laid.now.layout.now in
    let given = c.args.given.now in
    let chosen = c.args.chosen.now in
    let nodes = c.args.nodes.now in
    let t = c.loop-node.table in
    let now = c.loop-node.invariant in
    let end : c.loop-node.node-index ≡ length nodes = omega arith in
    record {
      tree_is = now.0;
      full = now.1.value_count ∙ row_count t ∙ ap name_count now.0;
      selected = subst (λ (u : TreeFacts). (n : ℕ) → IsSelection u t.values t.selections.items n (slice_index_or chosen n None)) (sym now.0) now.1.selected_are;
      solves = solves_at tree l given chosen [] nodes t (λ formed s V. undefined_worth tree formed (places given chosen) V s)
          (subst (λ n. IsComputedTable tree l given chosen [] nodes n t) end now);
    }

pub returns-clause-layout : goal.returns-clause-layout
returns-clause-layout c = c.loop-node.invariant.2
