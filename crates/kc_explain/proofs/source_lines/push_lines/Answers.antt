use Rattle.std.proofs.Common.{◌∙◌, ap, arith}
use Rattle.std.specs.Option.{option_copied}
use Rattle.kc_explain.specs.SourceLines.{lines_left}
use Rattle.kc_explain.proofs.SourceLineLemmas.{one_pushed}
use Rattle.kc_explain.proofs.source_lines.push_lines.Goals as goal

pub loop-i-preserved : goal.loop-i-preserved
loop-i-preserved c =
    let is = ap (λ r. lines_left (option_copied r)) c.in-Some.is ∙ c.next_line.ensures in
    rw c.in_ok-push-in-Some.ensures.items (one_pushed (λ x. x.now) c.loop-i.all.items c.next_line.result.0 _ _ _ c.loop-i._i c.args.count (omega arith) is c.loop-i.invariant)
