-- Why `line_count` keeps its contract.
use Rattle.std.proofs.{Common.{arith, sym, ◌∙◌}, lemmas.Bool.{both_ways, eqb-false, eqb-true}}
use Rattle.kc_text.proofs.{Counts.{lines_of_ended, lines_of_none, lines_of_open}, physical.line_count.Goals.{else-is_empty, then-is_empty}}
use Rattle.kc_text.proofs.physical.line_count.Goals as goal

pub returns-then-file-eq10 : goal.returns-then-file-eq10
returns-then-file-eq10 c =
    c.line_feeds-ended.ensures.count ∙ elim c.if-is_empty.branch [
      | then-is_empty w ↦ lines_of_none c.args.file.now (eqb-true _ 0 (sym c.is_empty.ensures ∙ w.if-is_empty.true))
      | else-is_empty w ↦ lines_of_ended c.args.file.now (omega (arith, eqb-false _ 0 (sym c.is_empty.ensures ∙ w.if-is_empty.false))) (eqb-true _ 10 (sym w.value-is ∙ c.if-file-eq10.true))
    ]

pub returns-else-file-eq10 : goal.returns-else-file-eq10
returns-else-file-eq10 c = rw c.line_feeds-ended.ensures.count (elim c.if-is_empty.branch [
  | then-is_empty w ↦ absurd (both_ways _ c.if-file-eq10.false (w.value-is ∙ w.if-is_empty.true))
  | else-is_empty w ↦ lines_of_open c.args.file.now (omega (arith, eqb-false _ 0 (sym c.is_empty.ensures ∙ w.if-is_empty.false))) (eqb-false _ 10 (sym w.value-is ∙ c.if-file-eq10.false))
])
