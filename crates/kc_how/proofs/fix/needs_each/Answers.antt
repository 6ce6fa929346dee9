use Rattle.std.proofs.Common.{drop, length, subst, take, ◌++◌, ◌+◌, ◌-◌}
use Rattle.kc_how.specs.Fragments.{EndsIn, lines_in}
use Rattle.kc_how.proofs.LeftOutLemmas.{one-more-needed}
use Rattle.kc_how.proofs.fix.needs_each.Goals as goal

pub loop-number-preserved : goal.loop-number-preserved
loop-number-preserved c =
    let q = c.args.question.now in
    let lines = c.args.lines.now in
    let n = c.loop-number.number in
    one-more-needed q lines n c.loop-number.invariant
    (subst (λ is_reached. EndsIn q is_reached (lines_in (take n lines) ++ lines_in (take (length lines - (n + 1)) (drop (n + 1) lines)))) c.if-branch.false c.in_ok-is_reached.ensures)
