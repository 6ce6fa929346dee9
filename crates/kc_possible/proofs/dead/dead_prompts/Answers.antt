use Rattle.std.proofs.{Common.{All, [], ap, get_or, length, subst, sym, take, ◌++◌, ◌+◌, ◌<◌, ◌∙◌, ◌∷◌, ◌≡◌}, lemmas.List.{Elements.All-append, take_more}}
use Rattle.std.specs.declared.{alloc.Global.Global, vec.Vec.Vec}
use Rattle.kc_language.specs.declared.expressions.SymId.{SymId}
use Rattle.kc_possible.specs.Possible.{AreSomeOf, IsDead}
use Rattle.kc_possible.proofs.SomeLemmas.{all-one, some-kept, some-left}
use Rattle.kc_possible.proofs.dead.dead_prompts.Goals as goal
use Rattle.kc_possible.proofs.dead.dead_prompts.Goals.{else-is_dead, then-is_dead+in_ok-push}

pub loop-id-preserved : goal.loop-id-preserved
loop-id-preserved c =
    let P : SymId → Type 0 = IsDead c.args.p.now.laid.tree.now in
    let ids = c.defined-id-items.result.now in
    let i = c.loop-id.id-index in
    let id : SymId = get_or ids i (record { 0 = 0 }) in
    let lt : i < length ids = c.loop-id-test.true in
    let more = take_more ids i (record { 0 = 0 }) lt in
    let old = c.loop-id.dead.items in
    elim c.if-is_dead.branch [
      | then-is_dead+in_ok-push w ↦
          let items : c.if-is_dead.dead.items ≡ old ++ id ∷ [] = ap (λ (v : Vec SymId Global). v.items) w.dead-is ∙ w.in_ok-push.ensures.items in
          record {
            dead = subst (λ xs. All P xs) (sym items) (All-append P old (id ∷ []) c.loop-id.invariant.dead (all-one P id (c.is_dead.ensures w.if-is_dead.true)));
            in_order = subst (λ xs. AreSomeOf xs (take (i + 1) ids)) (sym items) (subst (λ ys. AreSomeOf (old ++ id ∷ []) ys) (sym more) (some-kept old (take i ids) id c.loop-id.invariant.in_order));
          }
      | else-is_dead w ↦
          let items : c.if-is_dead.dead.items ≡ old = ap (λ (v : Vec SymId Global). v.items) w.dead-is in
          record {
            dead = subst (λ xs. All P xs) (sym items) c.loop-id.invariant.dead;
            in_order = subst (λ xs. AreSomeOf xs (take (i + 1) ids)) (sym items) (subst (λ ys. AreSomeOf old ys) (sym more) (some-left old (take i ids) id c.loop-id.invariant.in_order));
          }
    ]
