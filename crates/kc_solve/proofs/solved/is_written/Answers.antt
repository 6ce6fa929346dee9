use Rattle.std.proofs.Common.{sym, ◌∙◌}
use Rattle.kc_solve.proofs.WrittenSteps.{on_has_line}
use Rattle.kc_solve.proofs.solved.is_written.Goals as goal

pub returns-then-is_on : goal.returns-then-is_on
returns-then-is_on c =
    c.if-is_on.true ∙ sym (on_has_line c.args.table.now c.args.id c.in-Some.symbol.now (sym c.in-Some.ensures) c.requires (sym c.is_on.ensures ∙ c.if-is_on.true))
