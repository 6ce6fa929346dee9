use Rattle.std.proofs.Common.{◌∙◌, sym, arith}
use Rattle.kc_explain.proofs.SourceLineLemmas.{textless_more, textless_ends}
use Rattle.kc_explain.proofs.source_lines.lines_with_text.Goals as goal

pub loop-end-preserved : goal.loop-end-preserved
loop-end-preserved c =
    (omega arith, textless_more (λ x. x.now) c.args.lines.now c.loop-end.end _ c.loop-end-test.true c.loop-end.invariant.0 (sym c.is_without_text.ensures ∙ c.if-is_without_text.true) c.loop-end.invariant.1)

pub returns-else-is_without_text : goal.returns-else-is_without_text
returns-else-is_without_text c =
    textless_ends (λ x. x.now) c.args.lines.now c.loop-end.end _ c.loop-end-test.true c.loop-end.invariant.0 (sym c.is_without_text.ensures ∙ c.if-is_without_text.false) c.loop-end.invariant.1
