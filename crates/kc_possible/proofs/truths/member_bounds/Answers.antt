use denote.Enum.Bare.{same_true}
use Rattle.std.proofs.Common.{Some, rules, subst, sym, ◌∙◌, ◌≡◌}
use Rattle.kc_language.specs.{Values.{choice_at, conditions, mode_of}, contracts.expressions.Tri.the_type, declared.expressions.Tri.TheVariants.N}
use Rattle.kc_possible.specs.{Bounds.IsWithin, PartsOfPossible.{facts_in, member_value}}
use Rattle.kc_values.proofs.Laid.{symbol_found}
use Rattle.kc_possible.proofs.MemberLemmas.{hidden-n, not-visible, unmoded-n, within-n}
use Rattle.kc_possible.proofs.truths.member_bounds.Goals as goal
use Rattle.kc_possible.proofs.truths.member_bounds.Goals.{else-eq, then-eq}

pub returns-then-eq-2 : goal.returns-then-eq-2
returns-then-eq-2 c user known allowed =
    let p = c.args.p.now in
    let tree = p.laid.tree.now in
    let id = c.args.id in
    let k = c.args.choice.0 in
    let f = facts_in p id c.args.row.now in
    let is-n : member_value tree known id k user ≡ N = elim c.if-eq.branch [
      | then-eq w ↦
          let high : c.prompts_bounds.result.high ≡ N = same_true the_type (search rules) _ _ (sym c.eq.ensures ∙ w.if-eq.true) in
          let none = within-n c.prompts_bounds.result (conditions tree known f.prompts) high (c.prompts_bounds.ensures known allowed) in
          hidden-n tree known id k user (not-visible tree known id f (sym (symbol_found tree p.laid.layout.now p.laid.laid id.0 (Some c.args.row.now) (sym c.requires))) none)
      | else-eq w ↦
          let high : w.mode.result.high ≡ N = same_true the_type (search rules) _ _ (sym w.eq-else-eq.ensures ∙ sym w.value-is ∙ c.if-eq-2.true) in
          unmoded-n tree known id k user (within-n w.mode.result (mode_of tree known (choice_at tree k)) high (w.mode.ensures known allowed))
    ] in
    subst (λ t. IsWithin c.exactly.result t) (sym is-n) c.exactly.ensures.within
