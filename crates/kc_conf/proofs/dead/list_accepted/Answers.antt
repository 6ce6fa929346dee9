-- There is not enough memory, or the list is delivered or refused.
use Rattle.std.proofs.Common.{map, option_map}
use Rattle.std.proofs.lemmas.Result.{err_from_is_err_and}
use Rattle.kc_io.specs.Delivered.{text_view}
use Rattle.kc_conf.proofs.DeadLemmas.{LeavesList-listed, LeavesList-memory}
use Rattle.kc_conf.proofs.dead.list_accepted.Goals as goal

pub returns-in_err-text : goal.returns-in_err-text
returns-in_err-text g c =
    let p = err_from_is_err_and c.from_residual.result c.from_residual.ensures.1 in
    rw (p.1, p.2) (λ files accepted. LeavesList-memory files c.args.options.now c.args.file.now c.args.accepted.now.laid.tree.now accepted (g.D.Device.log c.args.device.now))

pub returns-in_err-add_lines : goal.returns-in_err-add_lines
returns-in_err-add_lines g c =
    let p = err_from_is_err_and c.from_residual-in_err-add_lines.result c.from_residual-in_err-add_lines.ensures.1 in
    rw (p.1, p.2) (λ files accepted. LeavesList-memory files c.args.options.now c.args.file.now c.args.accepted.now.laid.tree.now accepted (g.D.Device.log c.args.device.now))

pub returns-in_err-texts : goal.returns-in_err-texts
returns-in_err-texts g c =
    let p = err_from_is_err_and c.from_residual-in_err-texts.result c.from_residual-in_err-texts.ensures.1 in
    rw (p.1, p.2) (λ files accepted. LeavesList-memory files c.args.options.now c.args.file.now c.args.accepted.now.laid.tree.now accepted (g.D.Device.log c.args.device.now))

pub returns : goal.returns
returns g c = λ files accepted.
    LeavesList-listed files c.args.options.now c.args.file.now c.args.accepted.now.laid.tree.now c.in_ok-text.text.items c.add_lines.new.text.items
    (option_map (λ t. map text_view t.items) c.in_ok-texts.texts) c.finish.result _ _ accepted c.in_ok-text.ensures
    (rw (c.new-warnings.ensures.items, c.parse_warnings.ensures) at c.in_ok-add_lines.ensures) (rw c.deref.ensures.value at c.in_ok-texts.ensures)
    (rw c.deref-2.ensures.value at c.finish.ensures)
