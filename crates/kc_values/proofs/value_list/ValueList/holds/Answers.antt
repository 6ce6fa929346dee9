use Rattle.std.proofs.Common.{ap, rules, slice_index_or, ◌∙◌}
use Rattle.kc_values.proofs.ValueLists.{nothing_held, truth_held}
use Rattle.kc_values.proofs.value_list.ValueList.holds.Goals as goal

pub returns-in-None : goal.returns-in-None
returns-in-None c =
    let number = c.number_at.ensures ∙ ap (λ xs. slice_index_or xs c.args.place 0) c.deref.ensures.value in
    nothing_held c.self.inside.texts.items _ _ c.args.place c.number_at.result c.args.value.now c.self.invariant c.self.view_is number c.in-None.is

pub returns-in-Some-Truth : goal.returns-in-Some-Truth
returns-in-Some-Truth c =
    let number = c.number_at-in-Some-Truth.ensures ∙ ap (λ xs. slice_index_or xs c.args.place 0) c.deref-in-Some-Truth.ensures.value in
    truth_held c.self.inside.texts.items _ _ c.args.place c.number_at-in-Some-Truth.result c.number_of.result c.args.value.now c.in-Some-Truth.tri c.self.view_is number c.number_of.ensures (search rules)
