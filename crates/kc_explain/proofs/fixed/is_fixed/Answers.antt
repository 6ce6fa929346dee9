-- What is between the bounds is what it is under every input.
use Rattle.std.proofs.Common.{subst, sym, ◌≡◌}
use Rattle.kc_expr.specs.When.{when_view}
use Rattle.kc_language.specs.Expressions.{truth_of_value}
use Rattle.kc_explain.specs.FactViews.{fact_view}
use Rattle.kc_explain.specs.FixedViews.{IsFixed, IsUnraised, RaisesTo, asked_under}
use Rattle.kc_explain.specs.PartViews.{asked_view}
use Rattle.kc_explain.specs.declared.fact.Fact.{Fact}
use Rattle.kc_explain.proofs.FixedLemmas.{always_only, always_so, solution_allowed}
use Rattle.kc_explain.proofs.fixed.is_fixed.Goals as goal

pub returns-in-Part : goal.returns-in-Part
returns-in-Part c h =
    let p = c.args.of.now.possible.now in
    subst (λ (f : Fact). IsFixed p.laid.tree.now c.args.of.now.id (fact_view c.args.t.now.solved.now f)) (sym c.in-Part.is)
    (always_only p c.part_bounds.result (asked_under p.laid.tree.now (asked_view c.in-Part.part.asks)) c.in-Part.value c.requires.sound c.part_bounds.ensures (c.is_only.ensures h))

pub returns-in-Modules : goal.returns-in-Modules
returns-in-Modules c h =
    let p = c.args.of.now.possible.now in
    subst (λ (f : Fact). IsFixed p.laid.tree.now c.args.of.now.id (fact_view c.args.t.now.solved.now f)) (sym c.in-Modules.is)
    (always_only p c.symbol.result (λ known. truth_of_value (known c.in-Modules.id)) c.in-Modules.value c.requires.sound c.symbol.ensures.covers (c.is_only-in-Modules.ensures h))

pub returns-in-Default : goal.returns-in-Default
returns-in-Default c h =
    let p = c.args.of.now.possible.now in
    let mine = solution_allowed p c.args.t.now.solved.now c.requires.sound c.requires.tree c.is_solution.ensures in
    subst (λ (f : Fact). IsFixed p.laid.tree.now c.args.of.now.id (fact_view c.args.t.now.solved.now f)) (sym c.in-Default.is)
    (c.is_fixed_default.ensures c.args.t.now.solved.now mine c.requires.tree h)

pub returns-in-NotRaised : goal.returns-in-NotRaised
returns-in-NotRaised c h =
    let p = c.args.of.now.possible.now in
    let id = c.args.of.now.id in
    subst (λ (f : Fact). IsFixed p.laid.tree.now id (fact_view c.args.t.now.solved.now f)) (sym c.in-NotRaised.is)
    (always_so p (λ known. IsUnraised p.laid.tree.now known c.in-NotRaised.word id) c.requires.sound (c.is_unraised.ensures h))

pub returns-in-Raised : goal.returns-in-Raised
returns-in-Raised c h =
    let p = c.args.of.now.possible.now in
    let f = c.in-Raised in
    subst (λ (f : Fact). IsFixed p.laid.tree.now c.args.of.now.id (fact_view c.args.t.now.solved.now f)) (sym c.in-Raised.is)
    (always_so p (λ known. (truth_of_value (known f.by) ≡ f.by_value) × RaisesTo p.laid.tree.now known f.by (when_view f.when.now) f.value) c.requires.sound
    (c.raises_to.ensures h))
