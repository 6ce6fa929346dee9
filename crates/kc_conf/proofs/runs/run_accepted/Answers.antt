-- A name is refused; or warnings of the tree are said, and the input files follow.
use Rattle.std.proofs.Common.{◌∙◌, ap, sym, option_map}
use Rattle.std.proofs.lemmas.Result.{err_from_is_err_and}
use Rattle.kc_io.proofs.LogLemmas.{leads_nothing}
use Rattle.kc_conf.specs.RefusedNames.{refused_line}
use Rattle.kc_conf.proofs.InputParts.{Leaves-name, Leaves-unread, left-goes}
use Rattle.kc_conf.proofs.ReadParts.{Leaves-unsaid}
use Rattle.kc_conf.proofs.RefusedNames.{none_refused}
use Rattle.kc_conf.proofs.runs.run_accepted.Goals as goal

pub returns-in_err-names-clause-leaves : goal.returns-in_err-names-clause-leaves
returns-in_err-names-clause-leaves g c =
    let p = err_from_is_err_and c.from_residual.result c.from_residual.ensures.1 in
    rw (p.1, p.2) (λ files before told tells is. Leaves-unread c.one_answer.ensures c.exactly_one_outcome.ensures tells (leads_nothing (g.D.Device.log c.args.device.now)))

pub returns-in_err-refused-clause-leaves : goal.returns-in_err-refused-clause-leaves
returns-in_err-refused-clause-leaves g c =
    let p = err_from_is_err_and c.from_residual-in_err-refused.result c.from_residual-in_err-refused.ensures.1 in
    rw (p.1, p.2) (λ files before told tells is. Leaves-unread c.one_answer.ensures c.exactly_one_outcome.ensures tells (leads_nothing (g.D.Device.log c.args.device.now)))

pub returns-in-Some-clause-leaves : goal.returns-in-Some-clause-leaves
returns-in-Some-clause-leaves g c = λ files before told tells is.
    Leaves-name c.one_answer.ensures c.exactly_one_outcome.ensures tells c.in-Some.name c.refuse_name.result _ _
    (sym (c.in_ok-refused.ensures c.args.accepted.now.opened.now c.in_ok-names.ensures) ∙ ap (option_map refused_line) c.in-Some.is) c.refuse_name.ensures

pub run_inputs-requires-clause-taken : goal.run_inputs-requires-clause-taken
run_inputs-requires-clause-taken g c =
    none_refused c.args.options.now c.args.accepted.now.opened.now c.args.accepted.now.laid.tree.now
    (sym (c.in_ok-refused.ensures c.args.accepted.now.opened.now c.in_ok-names.ensures) ∙ ap (option_map refused_line) c.in_default.is)

pub returns-in-Ok-clause-leaves : goal.returns-in-Ok-clause-leaves
returns-in-Ok-clause-leaves g c = λ files before told tells is. c.run_inputs.ensures.leaves files before told (g.D.Device.log c.args.device.now) tells (rw is c.in-Ok.ensures)

pub returns-clause-leaves : goal.returns-clause-leaves
returns-clause-leaves g c = λ files before told tells is.
    Leaves-unsaid (left-goes c.one_answer.ensures c.exactly_one_outcome.ensures tells
    (none_refused c.args.options.now c.args.accepted.now.opened.now c.args.accepted.now.laid.tree.now
    (sym (c.in_ok-refused.ensures c.args.accepted.now.opened.now c.in_ok-names.ensures) ∙ ap (option_map refused_line) c.in_default.is))) c.in-Err.stop _ _ is c.in-Err.ensures
