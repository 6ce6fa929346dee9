-- The first line feed ends the line, or all is one line.
use Rattle.std.proofs.{Common.{ap, eq-eqb, length, refl, sym, ◌+◌, ◌∙◌}, Math.Seq.drop-length, lemmas.List.{take_all, take_rest}}
use Rattle.std.specs.List.{list_any}
use Rattle.kc_display.specs.Difference.{is_line_feed}
use Rattle.kc_display.proofs.LineLemmas.{first-cut, first-whole}
use Rattle.kc_display.proofs.edits.first_line.Goals as goal

pub returns-then-text-i-eq10 : goal.returns-then-text-i-eq10
returns-then-text-i-eq10 c =
    first-cut c.args.text.now c.loop-i.i c.loop-i-test.true c.loop-i.invariant (eq-eqb _ _ c.if-text-i-eq10.true) _ _ refl (take_rest c.args.text.now (c.loop-i.i + 1))

pub returns : goal.returns
returns c =
    first-whole c.args.text.now c.requires (ap (list_any is_line_feed) (sym (take_all c.loop-i.i c.args.text.now c.loop-i-test.false)) ∙ c.loop-i.invariant) _
    (take_rest c.args.text.now (length c.args.text.now) ∙ drop-length c.args.text.now)
