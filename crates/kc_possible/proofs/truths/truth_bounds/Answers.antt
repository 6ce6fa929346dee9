use Rattle.std.proofs.Common.{refl, subst, sym}
use Rattle.kc_language.specs.{Expressions.lesser, Values.{conditions, implied_value, user_or, visibility}, declared.expressions.Tri.TheVariants.N}
use Rattle.kc_possible.specs.{Bounds.IsWithin, PartsOfPossible.facts_in, declared.bounds.Bounds.Bounds}
use Rattle.kc_possible.proofs.{TruthLemmas.{equals-n, given-within, only-n, user-hidden, user-within}, truths.truth_bounds.Goals.{else-eq, then-eq}}
use Rattle.kc_possible.proofs.truths.truth_bounds.Goals as goal

pub returns : goal.returns
returns c = λ user.
    c.upgraded.ensures _ (λ known h.
    let p = c.args.p.now in
    let tree = p.laid.tree.now in
    let f = facts_in p c.args.id c.args.row.now in
    let vis = visibility tree known f in
    let default = implied_value tree known f in
    let visible = c.upgraded-visible.result in
    let given : Bounds = record { low = N; high = visible.high } in
    let shown = c.upgraded-visible.ensures (λ k. conditions tree k f.prompts) c.prompts_bounds.ensures known h in
    let implied = c.implied_bounds-implied.ensures known h in
    let own : IsWithin c.if-eq.own (user_or user vis default) = elim c.if-eq.branch [
      | then-eq w ↦
          subst (λ (b : Bounds). IsWithin b (user_or user vis default)) (sym w.own-is)
          (subst (λ t. IsWithin c.implied_bounds-implied.result t) (sym (user-hidden user vis default (only-n visible vis (equals-n visible.high w.if-eq.ensures) shown))) implied)
      | else-eq w ↦
          subst (λ (b : Bounds). IsWithin b (user_or user vis default)) (sym w.own-is)
          (user-within w.join-own.result vis default (w.join-own.ensures.left default implied) user
          (λ u. w.join-own.ensures.right (lesser u vis) (given-within visible given vis u shown refl refl)))
    ] in
    c.greater.ensures _ _ own (c.selected_bounds.ensures known h))
