use Rattle.std.proofs.{Common.{None, Some, [], ap, arith, length, length-append, map, slice_index_or, slice_set, suc, sym, ◌++◌, ◌+◌, ◌-◌, ◌∙◌, ◌∷◌, ◌≡◌}, lemmas.List.map-set}
use Rattle.kc_user.specs.Sparse.{numbered}
use Rattle.kc_user.proofs.SparseLemmas.{emptied_own, filled, filled_own, its_number, replaced, set_there}
use Rattle.kc_user.proofs.sparse.SparseVec.set.Goals as goal

pub invariant_of-self : goal.invariant_of-self
invariant_of-self g c =
    emptied_own c.self.inside.numbers.items (length c.self.inside.values.items) c.args.place c.self.invariant (set_there _ _ _ _ c.self.view_is c.requires)

pub returns-in_default-clause-done : goal.returns-in_default-clause-done
returns-in_default-clause-done g c =
    map-set (numbered c.self.inside.values.items) c.self.inside.numbers.items c.args.place 0
    ∙ ap (λ xs. slice_set xs c.args.place None) c.self.view_is ∙ ap (slice_set c.args.self.now c.args.place) (sym c.in_default.is)

pub index_mut-requires-then-number-gt0 : goal.index_mut-requires-then-number-gt0
index_mut-requires-then-number-gt0 g c =
    let e = its_number _ _ _ _ _ c.self.view_is c.requires c.index-number.ensures in
    omega (arith, c.if-number-gt0.true, e, c.self.invariant.within c.args.place)

pub returns-then-number-gt0-clause-done : goal.returns-then-number-gt0-clause-done
returns-then-number-gt0-clause-done g c =
    let there = set_there _ _ _ _ c.self.view_is c.requires in
    let e = its_number _ _ _ _ _ c.self.view_is c.requires c.index-number.ensures in
    let s : slice_index_or c.self.inside.numbers.items c.args.place 0 ≡ suc (c.index-number.result.now - 1) = omega (arith, c.if-number-gt0.true, e) in
    replaced c.self.inside.values.items c.in-Some.value c.self.inside.numbers.items c.args.place (c.index-number.result.now - 1) c.self.invariant there s
    ∙ ap (λ xs. slice_set xs c.args.place (Some c.in-Some.value)) c.self.view_is ∙ ap (slice_set c.args.self.now c.args.place) (sym c.in-Some.is)

pub invariant_of-self-2 : goal.invariant_of-self-2
invariant_of-self-2 g c =
    let ns = c.self.inside.numbers.items in
    let vs = c.self.inside.values.items in
    let next : c.in_ok-next.next ≡ length vs + 1 = omega (arith, c.in_ok-next.ensures, c.len.ensures) in
    let count : length c.push.new.self.items ≡ length vs + 1 = ap length c.in_ok-push.ensures.items ∙ length-append vs (c.in-Some.value ∷ []) in
    rw (next, count) (filled_own ns (length vs) c.args.place c.self.invariant (set_there _ _ _ _ c.self.view_is c.requires))

pub returns-clause-done : goal.returns-clause-done
returns-clause-done g c =
    let ns = c.self.inside.numbers.items in
    let vs = c.self.inside.values.items in
    let next : c.in_ok-next.next ≡ length vs + 1 = omega (arith, c.in_ok-next.ensures, c.len.ensures) in
    ap (λ xs. map (numbered xs) (slice_set ns c.args.place c.in_ok-next.next)) c.in_ok-push.ensures.items
    ∙ ap (λ k. map (numbered (vs ++ c.in-Some.value ∷ [])) (slice_set ns c.args.place k)) next
    ∙ filled vs c.in-Some.value ns c.args.place c.self.invariant
    ∙ ap (λ xs. slice_set xs c.args.place (Some c.in-Some.value)) c.self.view_is ∙ ap (slice_set c.args.self.now c.args.place) (sym c.in-Some.is)
