use Rattle.std.proofs.Common.{IfOk, subst}
use Rattle.kc_read.specs.{NextStep.IsStep, Progress.context_in}
use Rattle.kc_read.proofs.step.next_step.Goals as goal

-- nothing was lent, so the lines are as they were
pub returns-in-None-clause-step : goal.returns-in-None-clause-step
returns-in-None-clause-step c =
    let position = c.args.position.now in
    subst (λ l. IfOk c.next_joined.result (IsStep position.is_flat position.frame.now.file.value.items c.args.names.now c.next_joined.new.names (context_in position.frame.now position.progress.now) l c.next_joined.new.lines))
    c.in-None.ensures.none.0 c.next_joined.ensures.step
