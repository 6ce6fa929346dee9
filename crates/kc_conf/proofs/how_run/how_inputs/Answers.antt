-- What follows from the input files, behind the tree's warnings.
use Rattle.std.proofs.Common.{◌∙◌, ◌++◌, map, sym, subst, option_map}
use Rattle.std.proofs.lemmas.Result.{err_from_is_err_and}
use Rattle.kc_io.specs.Delivered.{text_view}
use Rattle.kc_outcome.specs.Outcome.{lead}
use Rattle.kc_conf.specs.Faults.{AreLines}
use Rattle.kc_conf.specs.Reads.{IsWholeEnd, stop_of}
use Rattle.kc_conf.proofs.HowLemmas.{Leaves-how-long, Leaves-how-refused, Leaves-how-told, how-goes}
use Rattle.kc_conf.proofs.ReadParts.{AreLines-waiting, Leaves-broken, Leaves-nothing, Leaves-uncomputed}
use Rattle.kc_conf.proofs.how_run.how_inputs.Goals as goal

pub returns-in_err-names_told : goal.returns-in_err-names_told
returns-in_err-names_told g c =
    let p = err_from_is_err_and c.from_residual.result c.from_residual.ensures.1 in
    rw (p.1, p.2) (λ files before told start tells h. Leaves-nothing (how-goes c.one_answer.ensures c.exactly_one_outcome.ensures tells c.args.inquiry.now.asked.now c.requires.taken) h)

pub returns-in_err-user : goal.returns-in_err-user
returns-in_err-user g c =
    let p = err_from_is_err_and c.from_residual-in_err-user.result c.from_residual-in_err-user.ensures.1 in
    rw (p.1, p.2) (λ files before told start tells h. Leaves-nothing (how-goes c.one_answer.ensures c.exactly_one_outcome.ensures tells c.args.inquiry.now.asked.now c.requires.taken) h)

pub returns-in-Err : goal.returns-in-Err
returns-in-Err g c = λ files before told start tells h.
    Leaves-broken (how-goes c.one_answer.ensures c.exactly_one_outcome.ensures tells c.args.inquiry.now.asked.now c.requires.taken) c.in_ok-user.ensures h c.in-Err.stop c.in-Err.ensures.err

pub finish_long-requires : goal.finish_long-requires
finish_long-requires g c = subst AreLines (sym c.deref-in-Some.ensures.value) (AreLines-waiting c.in_ok-user.ensures c.in-Ok.ensures.ok)

pub returns-in-Some : goal.returns-in-Some
returns-in-Some g c = λ files before told start tells h.
    Leaves-how-long c.one_answer.ensures c.exactly_one_outcome.ensures tells c.args.inquiry.now.asked.now c.requires.taken c.in_ok-user.ensures h (stop_of c.in-Some.long) c.finish_long.result _
    (rw c.in-Some.is at c.in-Ok.ensures.ok) (rw c.deref-in-Some.ensures.value at c.finish_long.ensures c.args.options.now)

pub returns-in_err-reply : goal.returns-in_err-reply
returns-in_err-reply g c =
    let p = err_from_is_err_and c.from_residual-in_err-reply.result c.from_residual-in_err-reply.ensures.1 in
    rw (p.1, p.2) (λ files before told start tells h.
    Leaves-uncomputed (how-goes c.one_answer.ensures c.exactly_one_outcome.ensures tells c.args.inquiry.now.asked.now c.requires.taken) c.in_ok-user.ensures h (rw c.in_default.is at c.in-Ok.ensures.ok))

pub returns-in_err-texts-in-Text : goal.returns-in_err-texts-in-Text
returns-in_err-texts-in-Text g c =
    let p = err_from_is_err_and c.from_residual-in_err-texts-in-Text.result c.from_residual-in_err-texts-in-Text.ensures.1 in
    rw (p.1, p.2) (λ files before told start tells h.
    Leaves-uncomputed (how-goes c.one_answer.ensures c.exactly_one_outcome.ensures tells c.args.inquiry.now.asked.now c.requires.taken) c.in_ok-user.ensures h (rw c.in_default.is at c.in-Ok.ensures.ok))

pub finish-requires : goal.finish-requires
finish-requires g c = subst AreLines (sym c.deref-in-Text-3.ensures.value) (AreLines-waiting c.in_ok-user.ensures c.in-Ok.ensures.ok)

pub returns-in-Text : goal.returns-in-Text
returns-in-Text g c = λ files before told start tells h.
    let reply = rw c.in-Text.is at c.in_ok-reply.ensures in
    Leaves-how-told c.one_answer.ensures c.exactly_one_outcome.ensures tells c.args.inquiry.now.asked.now c.requires.taken c.in_ok-user.ensures h c.in-Text.text.items
    (option_map (λ t. map text_view t.items) c.in_ok-texts-in-Text.texts) c.finish.result _ (rw c.in_default.is at c.in-Ok.ensures.ok) (c.in-Ok.ensures.kept.0 ∙ c.holds_warnings.ensures) reply.solution reply.solution_is reply.told
    (rw (c.deref-in-Text.ensures.value, c.deref-in-Text-2.ensures.value) at c.in_ok-texts-in-Text.ensures) (rw c.deref-in-Text-3.ensures.value at c.finish.ensures)

pub finish_refused-requires-clause-waiting : goal.finish_refused-requires-clause-waiting
finish_refused-requires-clause-waiting g c = subst AreLines (sym c.deref-in-Refusal.ensures.value) (AreLines-waiting c.in_ok-user.ensures c.in-Ok.ensures.ok)

pub finish_refused-requires-clause-lines : goal.finish_refused-requires-clause-lines
finish_refused-requires-clause-lines g c = let reply = rw c.in-Refusal.is at c.in_ok-reply.ensures in subst IsWholeEnd (sym c.deref-in-Refusal-2.ensures.value) reply.ends

pub returns : goal.returns
returns g c = λ files before told start tells h.
    let reply = rw c.in-Refusal.is at c.in_ok-reply.ensures in
    Leaves-how-refused c.one_answer.ensures c.exactly_one_outcome.ensures tells c.args.inquiry.now.asked.now c.requires.taken c.in_ok-user.ensures h (lead c.args.options.now ++ c.in-Refusal.lines.items) c.finish_refused.result _
    (rw c.in_default.is at c.in-Ok.ensures.ok) reply.solution reply.solution_is reply.told
    (rw (c.deref-in-Refusal.ensures.value, c.deref-in-Refusal-2.ensures.value) at c.finish_refused.ensures)
