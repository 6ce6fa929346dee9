use Rattle.std.proofs.Common.{ap, refl, slice_set, subst, sym, ◌∙◌}
use Rattle.kc_values.specs.Computed.{AreContextsComputed, AreDependenciesComputed, AreVisiblesComputed}
use Rattle.kc_solve.specs.Computing.{AreComputedValues, equation_at, slots_of}
use Rattle.kc_solve.proofs.{AgainSteps.place_held, ComputeSteps.{contexts_stay, dependencies_stay, either_way, visibles_stay}, TableSteps.{computed_place, place_given}}
use Rattle.kc_solve.proofs.renewing.recompute_symbol.Goals as goal

pub returns-then-holds-clause-computed : goal.returns-then-holds-clause-computed
returns-then-holds-clause-computed c =
    let t = c.args.table.now in
    let s = c.symbol_row-symbol.result.now in
    let given = c.args.user.now.values.now in
    let chosen = c.args.user.now.members.now in
    let own = place_given given c.args.id.0 c.get-own.result c.get-own.ensures in
    let e = c.in_ok-value.ensures ∙ ap (λ g. equation_at t c.args.id s g chosen) own in
    let f = computed_place t c.args.id s given chosen c.in_ok-value.value c.symbol_row-symbol.ensures c.requires.full c.requires.there e in
    record {
      keeps = record { tree = refl; layout = refl };
      values = record {
        here = place_held t.tree.now t.values c.args.id c.in_ok-value.value c.requires.there (c.holds.ensures.0 c.if-holds.true) ∙ f.here;
        others = λ n ne. refl;
        count = refl;
      };
      contexts = refl;
      visibles = refl;
      dependencies = refl;
      selections = refl;
    }

pub invariant_of-table : goal.invariant_of-table
invariant_of-table c =
    let t = c.args.table.now in
    let s = c.symbol_row-symbol.result.now in
    let given = c.args.user.now.values.now in
    let chosen = c.args.user.now.members.now in
    let own = place_given given c.args.id.0 c.get-own.result c.get-own.ensures in
    let e = c.in_ok-value.ensures ∙ ap (λ g. equation_at t c.args.id s g chosen) own in
    let f = computed_place t c.args.id s given chosen c.in_ok-value.value c.symbol_row-symbol.ensures c.requires.full c.requires.there e in
    let put = slice_set t.values c.args.id.0 c.in_ok-value.value in
    let l = t.layout.now in
    let contexts = contexts_stay t.tree.now l t.values put (slots_of t) c.args.id c.requires.unread f.others t.contexts_computed in
    let visibles = visibles_stay t.tree.now l t.values put (slots_of t) c.args.id c.requires.unread f.others t.visibles_computed in
    let dependencies = dependencies_stay t.tree.now l t.values put (slots_of t) c.args.id c.requires.unread f.others t.dependencies_computed in
    let done = c.set.ensures.done in
    let failed = c.set.ensures.failed in
    record {
      laid = t.laid;
      formed = t.formed;
      contexts_computed = either_way c.set.result (λ v. AreContextsComputed t.tree.now l v t.contexts.items) t.values put c.set.new.self done failed contexts t.contexts_computed;
      visibles_computed = either_way c.set.result (λ v. AreVisiblesComputed t.tree.now l v t.visibles.items) t.values put c.set.new.self done failed visibles t.visibles_computed;
      dependencies_computed = either_way c.set.result (λ v. AreDependenciesComputed t.tree.now l v t.dependencies.items) t.values put c.set.new.self done failed dependencies t.dependencies_computed;
    }

pub returns-clause-computed : goal.returns-clause-computed
returns-clause-computed c =
    let t = c.args.table.now in
    let s = c.symbol_row-symbol.result.now in
    let given = c.args.user.now.values.now in
    let chosen = c.args.user.now.members.now in
    let own = place_given given c.args.id.0 c.get-own.result c.get-own.ensures in
    let e = c.in_ok-value.ensures ∙ ap (λ g. equation_at t c.args.id s g chosen) own in
    let f = computed_place t c.args.id s given chosen c.in_ok-value.value c.symbol_row-symbol.ensures c.requires.full c.requires.there e in
    record {
      keeps = record { tree = refl; layout = refl };
      values = subst (AreComputedValues t.tree.now given chosen c.args.id t.values) (sym c.in_ok-set.ensures.done) f;
      contexts = refl;
      visibles = refl;
      dependencies = refl;
      selections = refl;
    }
