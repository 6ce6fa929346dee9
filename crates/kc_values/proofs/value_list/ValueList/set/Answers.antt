use Rattle.std.proofs.{Common.{None, Some, ap, arith, rules, slice_set, sym, ◌∙◌, ◌≡◌}, lemmas.List.map-set}
use Rattle.kc_values.specs.{ValueLists.value_of_number, declared.table.Value.TheVariants.Truth}
use Rattle.kc_values.proofs.ValueLists.{set_there, textless_own, truth_few, truth_of_number}
use Rattle.kc_values.proofs.value_list.ValueList.set.Goals as goal

pub invariant_of-self : goal.invariant_of-self
invariant_of-self c = textless_own _ _ c.args.place 0 c.self.invariant (set_there _ _ _ _ c.self.view_is c.requires) (omega arith)

pub invariant_of-self-in-Some-Truth : goal.invariant_of-self-in-Some-Truth
invariant_of-self-in-Some-Truth c =
    let self = c.self-in-Some-Truth in
    textless_own _ _ c.args.place c.number_of.result self.invariant (set_there _ _ _ _ self.view_is c.requires) (omega (arith, c.number_of.ensures, truth_few c.in-Some-Truth.tri))

pub returns-in-None-clause-done : goal.returns-in-None-clause-done
returns-in-None-clause-done c =
    map-set (value_of_number c.self.inside.texts.items) c.self.inside.places.items c.args.place 0
    ∙ ap (λ xs. slice_set xs c.args.place None) c.self.view_is ∙ ap (slice_set c.args.self.now c.args.place) (sym c.in-None.is)

pub returns-in-Some-Truth-clause-done : goal.returns-in-Some-Truth-clause-done
returns-in-Some-Truth-clause-done c =
    let self = c.self-in-Some-Truth in
    let value = value_of_number self.inside.texts.items in
    let truth : c.args.value ≡ Some (Truth c.in-Some-Truth.tri) = search rules in
    map-set value self.inside.places.items c.args.place c.number_of.result
    ∙ ap (λ xs. slice_set xs c.args.place (value c.number_of.result)) self.view_is
    ∙ ap (slice_set c.args.self.now c.args.place) (ap value c.number_of.ensures ∙ truth_of_number self.inside.texts.items c.in-Some-Truth.tri ∙ sym truth)
