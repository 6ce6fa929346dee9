use Rattle.std.proofs.Common.{None, Some, ap, sym, ◌∙◌}
use Rattle.kc_language.specs.Values.{is_n}
use Rattle.kc_user.specs.PartsOfConfigFile.{member_place}
use Rattle.kc_values.specs.AtTable.{selected_by}
use Rattle.kc_values.proofs.{ChoiceRows.{selected-free, selected-member, selected-stranger}, choices.selected.Goals.{in_default-via-in-Some+else-visible_member, in_default-via-in_default}}
use Rattle.kc_values.proofs.choices.selected.Goals as goal

pub returns-in-Some : goal.returns-in-Some
returns-in-Some c =
    let t = c.args.table.now in
    let k = c.args.id.0 in
    let row = c.args.choice.now in
    let on = sym (c.is_n.ensures ∙ ap is_n c.mode_of.ensures) ∙ c.if-is_n.false in
    sym (ap (λ u. selected_by t k row (member_place u)) c.in-Some.is ∙ selected-member t k row c.requires on c.in-Some.member (sym c.visible_member.ensures ∙ c.if-visible_member.true))

pub returns-in_default : goal.returns-in_default
returns-in_default c =
    let t = c.args.table.now in
    let k = c.args.id.0 in
    let row = c.args.choice.now in
    let on = sym (c.is_n.ensures ∙ ap is_n c.mode_of.ensures) ∙ c.if-is_n.false in
    elim c.in_default.branch [
      | in_default-via-in-Some+else-visible_member w ↦
          c.unselected.ensures
          ∙ sym (ap (λ u. selected_by t k row (member_place u)) w.in-Some.is ∙ selected-stranger t k row c.requires on w.in-Some.member (sym w.visible_member.ensures ∙ w.if-visible_member.false))
      | in_default-via-in_default w ↦ c.unselected.ensures ∙ sym (ap (λ u. selected_by t k row (member_place u)) w.in_default.is ∙ selected-free t k row c.requires on)
    ]
