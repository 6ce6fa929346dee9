use Rattle.std.proofs.Common.{ap, ◌∙◌}
use Rattle.kc_read.specs.{LineReads.cause_of, Progress.context_in}
use Rattle.kc_read.proofs.StepLemmas.{line_fault}
use Rattle.kc_read.proofs.step.next_joined.Goals as goal

pub returns-in-Err-clause-refused : goal.returns-in-Err-clause-refused
returns-in-Err-clause-refused c =
    let why = c.in-Err.fault in
    line_fault c.args.position.now.is_flat c.args.position.now.frame.now.file.value.items (context_in c.args.position.now.frame.now c.args.position.now.progress.now)
    c.args.lines.now why c.refuse.result c.long_line.result (cause_of c.text_fault-cause.result)
    c.requires c.in-Err.ensures.cause c.long_line.ensures c.text_fault-cause.ensures
    (rw (c.deref-in-Err.ensures.value ∙ ap (λ v. v.items) c.deref.ensures) at c.refuse.ensures.refused)
