use Rattle.std.proofs.Common.{◌∙◌, ap}
use Rattle.std.specs.Option.{option_copied}
use Rattle.kc_explain.specs.SourceLines.{lines_left}
use Rattle.kc_explain.proofs.SourceLineLemmas.{rests-begin, rests-end, rests-go, rests-less}
use Rattle.kc_explain.proofs.source_lines.rests_of.Goals as goal

pub lines-init : goal.lines-init
lines-init c = rests-begin (lines_left (option_copied c.args.text)) _ c.new-rests.ensures.items

pub lines-smaller : goal.lines-smaller
lines-smaller c = rests-less (lines_left (option_copied c.lines.next)) _ _ (ap (λ r. lines_left (option_copied r)) c.in-Some.is ∙ c.next_line.ensures)

pub lines-preserved : goal.lines-preserved
lines-preserved c =
    let is = ap (λ r. lines_left (option_copied r)) c.in-Some.is ∙ c.next_line.ensures in
    rw c.in_ok-push.ensures.items
    (rests-go (lines_left (option_copied c.args.text)) c.lines.rests.items c.in-Some.rest (lines_left (option_copied c.lines.next)) _ _ c.next_line.ensures is c.lines.invariant)

pub returns : goal.returns
returns c =
    rests-end (lines_left (option_copied c.args.text)) c.lines.rests.items (lines_left (option_copied c.lines.next)) (ap (λ r. lines_left (option_copied r)) c.in_default.is) c.lines.invariant
