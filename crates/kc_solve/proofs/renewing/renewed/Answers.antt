use Rattle.std.proofs.{Common.{[], Bool, List, Option, ap, arith, false, get_or, length, refl, subst, sym, true, ℕ, ◌+◌, ◌<◌, ◌∙◌, ◌≡◌}, lemmas.{Bool.{not-false, true≢false}, List.with_items_is}}
use Rattle.std.specs.Prelude.{None, slice_index_or}
use Rattle.kc_language.specs.{ConfigFile.place_at, Expressions.symbol, Symbols.TreeFacts, Values.{choice_at, name_count, selected}, declared.expressions.SymId.SymId}
use Rattle.kc_tree.specs.Layouts.{place_of}
use Rattle.kc_user.specs.PartsOfConfigFile.{member_place}
use Rattle.kc_values.specs.{Nodes.IsNode, Table.known_in, TableFacts.{AreSelected, known_at}, declared.table.Table.Table}
use Rattle.kc_values.specs.declared.nodes.Node.TheVariants as node
use Rattle.kc_solve.specs.{Again.graph_of, Computing.{IsComputedTable, IsSelection, IsUnreadIn, slots_of}, Kept.valuation, PlaceLists.places, Renewing.{AreMarked, AreMarks, HoldsAt}}
use Rattle.kc_solve.proofs.{AgainSteps.undefined_kept, ComputeSteps.{begins_at, solves_at, unread}, RenewSteps.{MarkNext, asked_place, context_kept, context_renewed, dependency_kept, dependency_renewed, marks_begin, selection_kept, selection_renewed, symbol_kept, symbol_renewed, visible_kept, visible_renewed}, TableSteps.row_count, UserSteps.{count_shown, solves_as_lists, solves_as_shown}}
use Rattle.kc_solve.proofs.renewing.renewed.Goals.{else-is_marked, else-may_differ, in-Choice, in-Context, in-Dependency, in-Symbol+in_ok-may_differ-in-Symbol, in-Visible, then-is_marked, then-may_differ}
use Rattle.kc_solve.proofs.renewing.renewed.Goals as goal

pub loop-node-init : goal.loop-node-init
loop-node-init c =
    let laid = c.args.laid.now in
    let tree = laid.tree.now in
    let base = c.args.kept.values in
    let nodes = c.args.plan.now.nodes.items in
    let t = c.in_ok-table.table in
    let e = c.in_ok-table.ensures in (
      begins_at tree laid.layout.now c.symbols-2.result.now c.choices-2.result.now base nodes t laid.laid c.requires.plan.order e.tree e.layout
          (ap length e.values_are ∙ c.requires.kept.full ∙ laid.laid.symbol_count) (λ s. ap (λ vs. known_in tree vs (symbol s)) e.values_are) e.contexts e.visibles e.dependencies e.selections,
      marks_begin tree laid.layout.now (graph_of laid) nodes c.choices-2.result.now base t.values c.in_ok-marks.marks.items,
    )

pub renew_symbol-requires-clause-next : goal.renew_symbol-requires-clause-next
renew_symbol-requires-clause-next c =
    let laid = c.args.laid.now in
    let kept = c.args.kept in
    let nodes = c.args.plan.now.nodes.items in
    let k = c.loop-node.node-index in
    let given = c.symbols-2.result.now in
    let chosen = c.choices-2.result.now in
    let items = c.deref-node-items.ensures.value in
    let b = subst (λ (xs : List ℕ). k < length xs) items c.loop-node-test.true in
    let t = c.loop-node.table in
    let marks = c.loop-node.marks.items in
    let at = c.loop-node.invariant.0 in
    let are = c.loop-node.invariant.1 in
    let here = subst (λ (xs : List ℕ). IsNode t.layout.now (get_or xs k 0) (node.Symbol c.in-Symbol.id)) items c.in-Symbol.ensures in
    let now = at.1 in
    let names = ap name_count at.0 in
    let count = count_shown given c.args.user.now.symbols c.symbols-2.ensures ∙ c.requires.user.symbols in
    record {
      there = omega (arith, here.1, now.value_count);
      given_count = count ∙ sym names ∙ sym (row_count t) ∙ sym now.value_count;
      full = now.value_count ∙ row_count t;
      selected = subst (λ (u : TreeFacts). (n : ℕ) → IsSelection u t.values t.selections.items n (slice_index_or chosen n None)) (sym at.0) now.selected_are;
      unread = subst (λ (u : TreeFacts). IsUnreadIn u t.layout.now (slots_of t) c.in-Symbol.id.0) (sym at.0)
          (unread laid.tree.now t.layout.now given chosen kept.values nodes k t.values (slots_of t) now b c.in-Symbol.id.0 here.0 (omega (arith, here.1, row_count t, names)));
    }

pub renew_symbol-requires-clause-same : goal.renew_symbol-requires-clause-same
renew_symbol-requires-clause-same c = λ free asked.
    let laid = c.args.laid.now in
    let kept = c.args.kept in
    let nodes = c.args.plan.now.nodes.items in
    let k = c.loop-node.node-index in
    let given = c.symbols-2.result.now in
    let chosen = c.choices-2.result.now in
    let items = c.deref-node-items.ensures.value in
    let b = subst (λ (xs : List ℕ). k < length xs) items c.loop-node-test.true in
    let t = c.loop-node.table in
    let marks = c.loop-node.marks.items in
    let at = c.loop-node.invariant.0 in
    let are = c.loop-node.invariant.1 in
    let mark = c.is_marked-is_marked.ensures ∙ ap (λ xs. slice_index_or xs (get_or c.deref-node-items.result.now k 0) true) c.deref.ensures.value ∙ ap (λ (xs : List ℕ). slice_index_or marks (get_or xs k 0) true) items in
    let here = subst (λ (xs : List ℕ). IsNode t.layout.now (get_or xs k 0) (node.Symbol c.in-Symbol.id)) items c.in-Symbol.ensures in
    let solves = solves_as_lists laid.tree.now c.symbols.result.now c.choices.result.now kept.user (valuation laid.tree.now kept.values) c.symbols.ensures c.choices.ensures c.requires.kept.solves in
    symbol_kept laid c.args.plan.now c.requires.plan kept c.requires.kept given chosen k b t at marks are (sym mark ∙ free) c.in-Symbol.id here c.symbols.result.now c.choices.result.now solves
    (asked_place laid t at.0 c.in-Symbol.id here.1 (places c.symbols.result.now c.choices.result.now) (places given chosen) asked)

pub renew_visible-may_differ-requires-clause-kept : goal.renew_visible-may_differ-requires-clause-kept
renew_visible-may_differ-requires-clause-kept c = λ free.
    let laid = c.args.laid.now in
    let kept = c.args.kept in
    let nodes = c.args.plan.now.nodes.items in
    let k = c.loop-node.node-index in
    let given = c.symbols-2.result.now in
    let chosen = c.choices-2.result.now in
    let items = c.deref-node-items.ensures.value in
    let b = subst (λ (xs : List ℕ). k < length xs) items c.loop-node-test.true in
    let t = c.loop-node.table in
    let marks = c.loop-node.marks.items in
    let at = c.loop-node.invariant.0 in
    let are = c.loop-node.invariant.1 in
    let mark = c.is_marked-is_marked.ensures ∙ ap (λ xs. slice_index_or xs (get_or c.deref-node-items.result.now k 0) true) c.deref.ensures.value ∙ ap (λ (xs : List ℕ). slice_index_or marks (get_or xs k 0) true) items in
    let here = subst (λ (xs : List ℕ). IsNode t.layout.now (get_or xs k 0) (node.Visible c.in-Visible.id)) items c.in-Visible.ensures in
    visible_kept laid c.args.plan.now c.requires.plan kept c.requires.kept given chosen k b t at marks are (sym mark ∙ free) c.in-Visible.id here

pub renew_dependency-may_differ-requires-clause-kept : goal.renew_dependency-may_differ-requires-clause-kept
renew_dependency-may_differ-requires-clause-kept c = λ free.
    let laid = c.args.laid.now in
    let kept = c.args.kept in
    let nodes = c.args.plan.now.nodes.items in
    let k = c.loop-node.node-index in
    let given = c.symbols-2.result.now in
    let chosen = c.choices-2.result.now in
    let items = c.deref-node-items.ensures.value in
    let b = subst (λ (xs : List ℕ). k < length xs) items c.loop-node-test.true in
    let t = c.loop-node.table in
    let marks = c.loop-node.marks.items in
    let at = c.loop-node.invariant.0 in
    let are = c.loop-node.invariant.1 in
    let mark = c.is_marked-is_marked.ensures ∙ ap (λ xs. slice_index_or xs (get_or c.deref-node-items.result.now k 0) true) c.deref.ensures.value ∙ ap (λ (xs : List ℕ). slice_index_or marks (get_or xs k 0) true) items in
    let here = subst (λ (xs : List ℕ). IsNode t.layout.now (get_or xs k 0) (node.Dependency c.in-Dependency.id)) items c.in-Dependency.ensures in
    dependency_kept laid c.args.plan.now c.requires.plan kept c.requires.kept given chosen k b t at marks are (sym mark ∙ free) c.in-Dependency.id here

pub renew_context-may_differ-requires-clause-kept : goal.renew_context-may_differ-requires-clause-kept
renew_context-may_differ-requires-clause-kept c = λ free.
    let laid = c.args.laid.now in
    let kept = c.args.kept in
    let nodes = c.args.plan.now.nodes.items in
    let k = c.loop-node.node-index in
    let given = c.symbols-2.result.now in
    let chosen = c.choices-2.result.now in
    let items = c.deref-node-items.ensures.value in
    let b = subst (λ (xs : List ℕ). k < length xs) items c.loop-node-test.true in
    let t = c.loop-node.table in
    let marks = c.loop-node.marks.items in
    let at = c.loop-node.invariant.0 in
    let are = c.loop-node.invariant.1 in
    let mark = c.is_marked-is_marked.ensures ∙ ap (λ xs. slice_index_or xs (get_or c.deref-node-items.result.now k 0) true) c.deref.ensures.value ∙ ap (λ (xs : List ℕ). slice_index_or marks (get_or xs k 0) true) items in
    let here = subst (λ (xs : List ℕ). IsNode t.layout.now (get_or xs k 0) (node.Context c.in-Context.id)) items c.in-Context.ensures in
    let i = c.in-Context.id in
    let fresh : (slice_index_or marks (get_or nodes k 0) true ≡ false) × ((place_of t.layout.now i.0).context.0 ≡ i.0) = elim c.if-is_marked.branch [
      | then-is_marked w ↦ absurd (true≢false (sym w.if-is_marked.true ∙ sym w.is_stale-is ∙ free))
      | else-is_marked w ↦ (sym mark ∙ w.if-is_marked.false, w.is_own_context.ensures (not-false w.is_own_context.result (sym w.is_stale-is ∙ free)))
    ] in
    context_kept laid c.args.plan.now c.requires.plan kept c.requires.kept given chosen k b t at marks are fresh.0 i here fresh.1

pub renew_selection-may_differ-requires-clause-kept : goal.renew_selection-may_differ-requires-clause-kept
renew_selection-may_differ-requires-clause-kept c = λ free same.
    let laid = c.args.laid.now in
    let kept = c.args.kept in
    let nodes = c.args.plan.now.nodes.items in
    let k = c.loop-node.node-index in
    let given = c.symbols-2.result.now in
    let chosen = c.choices-2.result.now in
    let items = c.deref-node-items.ensures.value in
    let b = subst (λ (xs : List ℕ). k < length xs) items c.loop-node-test.true in
    let t = c.loop-node.table in
    let marks = c.loop-node.marks.items in
    let at = c.loop-node.invariant.0 in
    let are = c.loop-node.invariant.1 in
    let mark = c.is_marked-is_marked.ensures ∙ ap (λ xs. slice_index_or xs (get_or c.deref-node-items.result.now k 0) true) c.deref.ensures.value ∙ ap (λ (xs : List ℕ). slice_index_or marks (get_or xs k 0) true) items in
    let here = subst (λ (xs : List ℕ). IsNode t.layout.now (get_or xs k 0) (node.Choice c.in-Choice.id)) items c.in-Choice.ensures in
    let id = c.in-Choice.id in
    let own = c.chosen_of.ensures ∙ ap (λ (xs : List (Option SymId)). slice_index_or xs id.0 None) c.choices.ensures in
    subst (λ m. HoldsAt id.0 kept.slots.selections.items (selected t.tree.now (known_at t) (choice_at t.tree.now id.0) (member_place m))) (sym own)
    (selection_kept laid c.args.plan.now c.requires.plan kept c.requires.kept given chosen k b t at marks are (sym mark ∙ free) id here (sym own ∙ same))

pub loop-node-preserved : goal.loop-node-preserved
loop-node-preserved c =
    let laid = c.args.laid.now in
    let kept = c.args.kept in
    let nodes = c.args.plan.now.nodes.items in
    let k = c.loop-node.node-index in
    let given = c.symbols-2.result.now in
    let chosen = c.choices-2.result.now in
    let items = c.deref-node-items.ensures.value in
    let b = subst (λ (xs : List ℕ). k < length xs) items c.loop-node-test.true in
    let t = c.loop-node.table in
    let marks = c.loop-node.marks.items in
    let at = c.loop-node.invariant.0 in
    let are = c.loop-node.invariant.1 in
    let marks' = c.if-may_differ.marks.items in
    let readers = get_or c.args.plan.now.readers (get_or nodes k 0) [] in
    let Next : Table → Type 0 = λ u.
    IsComputedTable laid.tree.now laid.layout.now given chosen kept.values nodes (k + 1) u × AreMarks laid.tree.now laid.layout.now (graph_of laid) nodes (k + 1) chosen kept.values u.values marks' in
    let next : MarkNext readers c.match-node_of.may_differ marks marks' = elim c.if-may_differ.branch [
      | then-may_differ w ↦ record {
        marked = λ e.
            subst (AreMarked readers marks) (sym (ap (λ v. v.items) w.marks-is ∙ with_items_is c.loop-node.marks w.mark_readers.new.marks (omega (arith, w.mark_readers.ensures.count, w.deref_mut.ensures.len))))
            (subst (λ (xs : List Bool). AreMarked readers xs w.mark_readers.new.marks) w.deref_mut.ensures.value
            (subst (λ (xs : List ℕ). AreMarked (get_or c.args.plan.now.readers (get_or xs k 0) []) w.deref_mut.result.now w.mark_readers.new.marks) items w.mark_readers.ensures));
        same = λ e. absurd (true≢false (sym w.if-may_differ.true ∙ e));
      }
      | else-may_differ w ↦ record { marked = λ e. absurd (true≢false (sym e ∙ w.if-may_differ.false)); same = λ e. ap (λ v. v.items) w.marks-is }
    ] in
    elim c.match-node_of.branch [
      | in-Symbol+in_ok-may_differ-in-Symbol w ↦
          let f = w.in_ok-may_differ-in-Symbol.ensures in
          let here = subst (λ (xs : List ℕ). IsNode t.layout.now (get_or xs k 0) (node.Symbol w.in-Symbol.id)) items w.in-Symbol.ensures in
          subst Next (sym w.table-is)
          (symbol_renewed laid c.args.plan.now c.requires.plan kept c.requires.kept given chosen k b t at marks are w.renew_symbol.new.table w.in_ok-may_differ-in-Symbol.may_differ marks' (subst (λ d. MarkNext readers d marks marks') w.may_differ-is next)
          w.in-Symbol.id here f.computed f.same)
      | in-Visible w ↦
          let f = w.renew_visible-may_differ.ensures in
          let here = subst (λ (xs : List ℕ). IsNode t.layout.now (get_or xs k 0) (node.Visible w.in-Visible.id)) items w.in-Visible.ensures in
          subst Next (sym w.table-is)
          (visible_renewed laid c.args.plan.now c.requires.plan kept c.requires.kept given chosen k b t at marks are w.renew_visible-may_differ.new.table w.renew_visible-may_differ.result marks' (subst (λ d. MarkNext readers d marks marks') w.may_differ-is next)
          w.in-Visible.id here f.computed f.same)
      | in-Context w ↦
          let f = w.renew_context-may_differ.ensures in
          let here = subst (λ (xs : List ℕ). IsNode t.layout.now (get_or xs k 0) (node.Context w.in-Context.id)) items w.in-Context.ensures in
          subst Next (sym w.table-is)
          (context_renewed laid c.args.plan.now c.requires.plan kept c.requires.kept given chosen k b t at marks are w.renew_context-may_differ.new.table w.renew_context-may_differ.result marks' (subst (λ d. MarkNext readers d marks marks') w.may_differ-is next)
          w.in-Context.id here f.computed f.same)
      | in-Dependency w ↦
          let f = w.renew_dependency-may_differ.ensures in
          let here = subst (λ (xs : List ℕ). IsNode t.layout.now (get_or xs k 0) (node.Dependency w.in-Dependency.id)) items w.in-Dependency.ensures in
          subst Next (sym w.table-is)
          (dependency_renewed laid c.args.plan.now c.requires.plan kept c.requires.kept given chosen k b t at marks are w.renew_dependency-may_differ.new.table w.renew_dependency-may_differ.result marks' (subst (λ d. MarkNext readers d marks marks') w.may_differ-is next)
          w.in-Dependency.id here f.computed f.same)
      | in-Choice w ↦
          let f = w.renew_selection-may_differ.ensures in
          let here = subst (λ (xs : List ℕ). IsNode t.layout.now (get_or xs k 0) (node.Choice w.in-Choice.id)) items w.in-Choice.ensures in
          let own = w.chosen_of.ensures ∙ ap (λ (xs : List (Option SymId)). slice_index_or xs w.in-Choice.id.0 None) c.choices.ensures in
          subst Next (sym w.table-is)
          (selection_renewed laid c.args.plan.now c.requires.plan kept c.requires.kept given chosen k b t at marks are w.renew_selection-may_differ.new.table w.renew_selection-may_differ.result marks' (subst (λ d. MarkNext readers d marks marks') w.may_differ-is next)
          w.in-Choice.id here f.computed (λ e. (sym own ∙ (f.same e).0, (f.same e).1)))
    ]

pub returns-clause-solved : goal.returns-clause-solved
returns-clause-solved c =
    let laid = c.args.laid.now in
    let tree = laid.tree.now in
    let l = laid.layout.now in
    let base = c.args.kept.values in
    let given = c.symbols-2.result.now in
    let chosen = c.choices-2.result.now in
    let nodes = c.args.plan.now.nodes.items in
    let t = c.loop-node.table in
    let now = c.loop-node.invariant.0 in
    let count = ap (λ (xs : List ℕ). length xs) c.deref-node-items.ensures.value in
    let end : c.loop-node.node-index ≡ length nodes = omega (arith, count) in
    let selected = subst (λ (u : TreeFacts). (n : ℕ) → IsSelection u t.values t.selections.items n (slice_index_or chosen n None)) (sym now.0) now.1.selected_are in
    let done = subst (λ n. IsComputedTable tree l given chosen base nodes n t) end now in
    let solves = solves_at tree l given chosen base nodes t (undefined_kept tree (place_at c.args.kept.user) (places given chosen) base c.requires.kept.solves) done in
    record {
      tree_is = now.0;
      full = now.1.value_count ∙ row_count t ∙ ap name_count now.0;
      selected = subst (AreSelected t) c.choices-2.ensures selected;
      solves = solves_as_shown tree given chosen c.args.user.now (valuation tree t.values) c.symbols-2.ensures c.choices-2.ensures solves;
    }

pub returns-clause-layout : goal.returns-clause-layout
returns-clause-layout c = c.loop-node.invariant.0.2
