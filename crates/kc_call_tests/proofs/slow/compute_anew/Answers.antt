use Rattle.std.proofs.Common.{arith, refl, slice_set, subst, sym, Some}
use Rattle.kc_tree.specs.Layouts.{facts_of}
use Rattle.kc_values.specs.Computed.{AreContextsComputed, AreDependenciesComputed, AreVisiblesComputed}
use Rattle.kc_solve.specs.Computing.{AreComputedValues, slots_of}
use Rattle.kc_solve.proofs.ComputeSteps.{contexts_stay, dependencies_stay, either_way, visibles_stay}
use Rattle.kc_solve.proofs.TableSteps.{choice_below, computed_value, row_count, row_facts}
use Rattle.kc_call_tests.proofs.slow.compute_anew.Goals as goal

pub symbol_row-symbol-requires : goal.symbol_row-symbol-requires
symbol_row-symbol-requires c = omega (arith, c.requires.defined, c.requires.full, row_count c.args.table.now)

pub value_anew-requires-clause-users : goal.value_anew-requires-clause-users
value_anew-requires-clause-users c =
    let t = c.args.table.now in
    let s = c.symbol_row-symbol.result.now in
    choice_below t.tree.now c.name_count-count.ensures.formed c.args.id.0 _ (facts_of t.layout.now c.args.id.0 s) s.choice
    (row_facts t c.args.id s c.symbol_row-symbol.ensures) refl c.requires.chosen

pub invariant_of-table : goal.invariant_of-table
invariant_of-table c =
    let t = c.args.table.now in
    let s = c.symbol_row-symbol.result.now in
    let f = computed_value t c.args.id s c.args.given.now c.args.chosen.now c.in_ok-value.value c.symbol_row-symbol.ensures c.requires.full c.requires.defined c.in_ok-value.ensures in
    let put = slice_set t.values c.args.id.0 (Some c.in_ok-value.value) in
    let l = t.layout.now in
    let contexts = contexts_stay t.tree.now l t.values put (slots_of t) c.args.id c.requires.unread f.others t.contexts_computed in
    let visibles = visibles_stay t.tree.now l t.values put (slots_of t) c.args.id c.requires.unread f.others t.visibles_computed in
    let dependencies = dependencies_stay t.tree.now l t.values put (slots_of t) c.args.id c.requires.unread f.others t.dependencies_computed in
    let done = c.set.ensures.done in
    let failed = c.set.ensures.failed in
    record {
      laid = t.laid;
      formed = t.formed;
      contexts_computed = either_way c.set.result (λ v. AreContextsComputed t.tree.now l v t.contexts.items) t.values put c.set.new.self done failed contexts t.contexts_computed;
      visibles_computed = either_way c.set.result (λ v. AreVisiblesComputed t.tree.now l v t.visibles.items) t.values put c.set.new.self done failed visibles t.visibles_computed;
      dependencies_computed = either_way c.set.result (λ v. AreDependenciesComputed t.tree.now l v t.dependencies.items) t.values put c.set.new.self done failed dependencies t.dependencies_computed;
    }

pub returns : goal.returns
returns c =
    let t = c.args.table.now in
    let s = c.symbol_row-symbol.result.now in
    record {
      keeps = record { tree = refl; layout = refl };
      values =
          subst (AreComputedValues t.tree.now c.args.given.now c.args.chosen.now c.args.id t.values) (sym c.in_ok-set.ensures.done)
          (computed_value t c.args.id s c.args.given.now c.args.chosen.now c.in_ok-value.value c.symbol_row-symbol.ensures c.requires.full c.requires.defined c.in_ok-value.ensures);
      contexts = refl;
      visibles = refl;
      dependencies = refl;
      selections = refl;
    }
