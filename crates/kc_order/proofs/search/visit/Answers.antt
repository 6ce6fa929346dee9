use Rattle.std.proofs.{Common.{[], arith, get_or, length, subst, sym, take, vec_len, ℕ, ◌++◌, ◌+◌, ◌-◌, ◌∙◌, ◌∷◌, ◌≡◌}, lemmas.{Grind.common_steps, List.{Elements.Contains-push, get_or_read}}}
use Rattle.std.specs.List.{Contains, slice_index}
use Rattle.kc_order.specs.declared.search.NodeState.TheVariants.{New}
use Rattle.kc_language.specs.Needs.{needs_in}
use Rattle.kc_order.proofs.SearchSteps.{opens_met, opens_sound, opens_there, open≢new}
use Rattle.kc_order.proofs.search.visit.Goals as goal

pub advance-requires-clause-top : goal.advance-requires-clause-top
advance-requires-clause-top c =
    let path = c.loop-top.search.path in
    let split : path.items ≡ take (vec_len path - 1) path.items ++ c.in-Some.top.now ∷ [] = grind (arith, common_steps) in
    ((c.loop-top.invariant.sound.keeps.path_is c.in-Some.top.now (subst (λ xs. Contains xs c.in-Some.top.now) (sym split) (Contains-push (take (vec_len path - 1) path.items) c.in-Some.top.now))).0, split)

pub loop-top-init : goal.loop-top-init
loop-top-init c =
    let path : (k : ℕ) → k + 1 ≡ length c.args.search.now.path.items → Contains (needs_in c.args.rows.now (slice_index c.args.search.now.path.items k)) c.args.root =
    λ k e. absurd (omega (arith, c.requires.idle)) in
    let new = sym (get_or_read c.args.search.now.states.items c.args.root c.index.result.now (omega (arith, c.requires.sound.states_len, c.requires.below)) c.index.ensures New) ∙ c.in-New.is in
    let opens = c.in_ok-open.ensures in
    record {
      sound = opens_sound c.args.rows.now c.args.search.now c.open.new.search c.args.root c.requires.sound c.requires.below new path opens;
      visited = opens_met c.args.rows.now c.args.search.now c.open.new.search c.args.root c.requires.sound c.requires.below opens;
      root_met = open≢new (get_or c.open.new.search.states.items c.args.root New)
          (opens_there c.args.rows.now c.args.search.now c.open.new.search c.args.root c.requires.sound c.requires.below opens);
    }
