-- What follows from the input files is left of the run.
use Rattle.std.proofs.Common.{◌∙◌, map, sym, subst, option_map}
use Rattle.std.proofs.lemmas.Result.{err_from_is_err_and}
use Rattle.kc_io.specs.Delivered.{text_view}
use Rattle.kc_conf.specs.Faults.{AreLines}
use Rattle.kc_conf.specs.Reads.{stop_of}
use Rattle.kc_conf.proofs.InputParts.{Leaves-long, Leaves-whole, left-goes}
use Rattle.kc_conf.proofs.ReadParts.{AreLines-waiting, Leaves-broken, Leaves-nothing, Leaves-uncomputed}
use Rattle.kc_conf.proofs.runs.run_inputs.Goals as goal

pub returns-in_err-names_told-clause-leaves : goal.returns-in_err-names_told-clause-leaves
returns-in_err-names_told-clause-leaves g c =
    let p = err_from_is_err_and c.from_residual.result c.from_residual.ensures.1 in
    rw (p.1, p.2) (λ files before told start tells h. Leaves-nothing (left-goes c.one_answer.ensures c.exactly_one_outcome.ensures tells c.requires.taken) h)

pub returns-in_err-user-clause-leaves : goal.returns-in_err-user-clause-leaves
returns-in_err-user-clause-leaves g c =
    let p = err_from_is_err_and c.from_residual-in_err-user.result c.from_residual-in_err-user.ensures.1 in
    rw (p.1, p.2) (λ files before told start tells h. Leaves-nothing (left-goes c.one_answer.ensures c.exactly_one_outcome.ensures tells c.requires.taken) h)

pub returns-in-Err-clause-leaves : goal.returns-in-Err-clause-leaves
returns-in-Err-clause-leaves g c = λ files before told start tells h.
    Leaves-broken (left-goes c.one_answer.ensures c.exactly_one_outcome.ensures tells c.requires.taken) c.in_ok-user.ensures h c.in-Err.stop c.in-Err.ensures.err

pub finish_long-requires : goal.finish_long-requires
finish_long-requires g c = subst AreLines (sym c.deref-in-Some.ensures.value) (AreLines-waiting c.in_ok-user.ensures c.in-Ok.ensures.ok)

pub returns-in-Some-clause-leaves : goal.returns-in-Some-clause-leaves
returns-in-Some-clause-leaves g c = λ files before told start tells h.
    Leaves-long c.one_answer.ensures c.exactly_one_outcome.ensures tells c.requires.taken c.in_ok-user.ensures h (stop_of c.in-Some.long) c.finish_long.result _
    (rw c.in-Some.is at c.in-Ok.ensures.ok) (rw c.deref-in-Some.ensures.value at c.finish_long.ensures c.args.options.now)

pub returns-in_err-texts-clause-leaves : goal.returns-in_err-texts-clause-leaves
returns-in_err-texts-clause-leaves g c =
    let p = err_from_is_err_and c.from_residual-in_err-texts.result c.from_residual-in_err-texts.ensures.1 in
    rw (p.1, p.2) (λ files before told start tells h.
    Leaves-uncomputed (left-goes c.one_answer.ensures c.exactly_one_outcome.ensures tells c.requires.taken) c.in_ok-user.ensures h (rw c.in_default.is at c.in-Ok.ensures.ok))

pub finish-requires : goal.finish-requires
finish-requires g c = subst AreLines (sym c.deref-2.ensures.value) (c.in_ok-texts.ensures.lines (AreLines-waiting c.in_ok-user.ensures c.in-Ok.ensures.ok))

pub returns-clause-leaves : goal.returns-clause-leaves
returns-clause-leaves g c = λ files before told start tells h.
    Leaves-whole c.one_answer.ensures c.exactly_one_outcome.ensures tells c.requires.taken c.in_ok-user.ensures h c.compute.new.waiting.items (option_map (λ t. map text_view t.items) c.in_ok-texts.texts)
    c.finish.result _ (rw c.in_default.is at c.in-Ok.ensures.ok) (c.in-Ok.ensures.kept.0 ∙ c.holds_warnings.ensures)
    (c.in_ok-texts.ensures.computes files c.args.accepted.now.opened.now c.requires.names tells.accepts.kept) (rw c.deref-2.ensures.value at c.finish.ensures)
