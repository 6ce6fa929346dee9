use Rattle.std.proofs.Common.{[], ap, arith, length, length-append, map, Some, slice_index_or, slice_set, ◌++◌, ◌+◌, ◌-◌, ◌∙◌, ◌∷◌, ◌≡◌}
use Rattle.kc_values.specs.{ValueLists.value_of_number, declared.table.Value.TheVariants.Text}
use Rattle.kc_values.proofs.ValueLists.{filled, filled_own, its_number, replaced, set_there}
use Rattle.kc_values.proofs.value_list.ValueList.set_text.Goals as goal

pub returns-then-number-ge-FIRST_TEXT-clause-done : goal.returns-then-number-ge-FIRST_TEXT-clause-done
returns-then-number-ge-FIRST_TEXT-clause-done c =
    let there = set_there _ _ _ _ c.self.view_is c.requires in
    let e = its_number _ _ _ _ _ c.self.view_is c.requires c.index-number.ensures in
    let s : slice_index_or c.self.inside.places.items c.args.place 0 ≡ (c.index-number.result.now - 4) + 4 = omega (arith, c.if-number-ge-FIRST_TEXT.true, e) in
    replaced c.self.inside.texts.items c.args.text c.self.inside.places.items c.args.place (c.index-number.result.now - 4) c.self.invariant there s
    ∙ ap (λ xs. slice_set xs c.args.place (Some (Text c.args.text))) c.self.view_is

pub invariant_of-self-2 : goal.invariant_of-self-2
invariant_of-self-2 c =
    let ns = c.self.inside.places.items in
    let ts = c.self.inside.texts.items in
    let next : c.in_ok-next.next ≡ length ts + 4 = omega (arith, c.in_ok-next.ensures, c.len.ensures) in
    let count : length c.push.new.self.items ≡ length ts + 1 = ap length c.in_ok-push.ensures.items ∙ length-append ts (c.args.text ∷ []) in
    rw (next, count) (filled_own ns (length ts) c.args.place c.self.invariant (set_there _ _ _ _ c.self.view_is c.requires))

pub returns-clause-done : goal.returns-clause-done
returns-clause-done c =
    let ns = c.self.inside.places.items in
    let ts = c.self.inside.texts.items in
    let next : c.in_ok-next.next ≡ length ts + 4 = omega (arith, c.in_ok-next.ensures, c.len.ensures) in
    ap (λ xs. map (value_of_number xs) (slice_set ns c.args.place c.in_ok-next.next)) c.in_ok-push.ensures.items
    ∙ ap (λ k. map (value_of_number (ts ++ c.args.text ∷ [])) (slice_set ns c.args.place k)) next
    ∙ filled ts c.args.text ns c.args.place c.self.invariant
    ∙ ap (λ xs. slice_set xs c.args.place (Some (Text c.args.text))) c.self.view_is
