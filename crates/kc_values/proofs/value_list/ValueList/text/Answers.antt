use Rattle.std.proofs.{Common.{Some, ap, arith, length, refl, slice_get, slice_index_or, sym, ◌-◌, ◌≤◌, ◌∙◌}, lemmas.Option.slice_get_read}
use Rattle.kc_values.proofs.ValueLists.{text_held}
use Rattle.kc_values.proofs.value_list.ValueList.text.Goals as goal

pub returns-in-Some : goal.returns-in-Some
returns-in-Some c =
    let texts = c.deref-2.result.now in
    let n = c.number_at-number.result - 4 in
    let text = c.in-Some.text.now in
    let number = c.number_at-number.ensures ∙ ap (λ xs. slice_index_or xs c.args.place 0) c.deref.ensures.value in
    let read = c.in-Some.ensures.lookup in
    let found = ap (λ xs. slice_get xs n) (sym c.deref-2.ensures.value) ∙ slice_get_read texts (length texts) n text refl read.3.0 read.1 in
    let few : 4 ≤ c.number_at-number.result = omega (arith, c.if-number-lt-FIRST_TEXT.false) in
    ap Some c.deref-in-Some.ensures.value ∙ sym (text_held _ _ _ c.args.place c.number_at-number.result text c.self.view_is number few found)
