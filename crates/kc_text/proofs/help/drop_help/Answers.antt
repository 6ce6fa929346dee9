-- Why `drop_help` keeps its contract.
use Rattle.std.proofs.{Common.{arith, false, sym, ◌∙◌, ◌≡◌}, lemmas.Bool.eqb-true}
use Rattle.std.specs.Prelude.{None, Some}
use Rattle.kc_language.specs.Lines.{Physical, column, is_help_line}
use Rattle.kc_text.proofs.{Helps.{column-ge, dropping_ends, dropping_stops, drops_first, first_is_help, help_ends, help_none, help_text, not_before}, LongLineLemmas.{end_of_end, long_in_end}, help.drop_help.Goals.{else-blank-test, then-blank-test+then-not-start+then-start-eq0}}
use Rattle.kc_text.proofs.help.drop_help.Goals as goal

pub drop_text-requires-clause-blanks : goal.drop_text-requires-clause-blanks
drop_text-requires-clause-blanks c more = rw (c.line_start-start.ensures.passed more) (column-ge _ more)

pub returns-then-not-start-clause-drops : goal.returns-then-not-start-clause-drops
returns-then-not-start-clause-drops c =
    let mid = c.blank.after.now in
    let line : Physical = record { text = c.first_seen-seen.result.line.text.now; ended = c.first_seen-seen.result.line.ended } in
    let first = c.first_seen-seen.ensures.first in
    let other : c.line_start-start.result.is_blank ≡ false = grind (arith, c.if-not-start.true) in
    let start = dropping_stops c.args.rest.now mid (is_help_line None) c.args.number c.blank.next line _ c.blank.invariant.0 first
    (not_before line (sym c.line_start-start.ensures.blank ∙ other)) in
    let indent = c.line_start-start.ensures.column_is in
    let after = c.drop_text.result.rest.now in
    let dropped = drops_first mid c.first_seen-seen.result.line.after.now after (is_help_line (Some (column 0 line.text))) c.blank.next c.drop_text.result.number line first (first_is_help line)
    (rw indent at rw c.saturating_add.ensures at c.drop_text.ensures.drops) in
    help_text c.args.rest.now mid after c.args.number c.blank.next c.drop_text.result.number line _ start first (rw indent at c.if-start-eq0.false) dropped

pub returns-clause-drops : goal.returns-clause-drops
returns-clause-drops c =
    let file = c.args.rest.now in
    let mid = c.blank.after.now in
    elim c.blank-test.branch [
      | else-blank-test w ↦
          let empty = eqb-true _ 0 (sym c.is_empty.ensures ∙ w.blank-test.false) in
          help_ends file mid c.args.number c.blank.next (dropping_ends file mid (is_help_line None) c.args.number c.blank.next c.blank.invariant.0 empty) empty
      | then-blank-test+then-not-start+then-start-eq0 w ↦
          let line : Physical = record { text = w.first_seen-seen.result.line.text.now; ended = w.first_seen-seen.result.line.ended } in
          let first = w.first_seen-seen.ensures.first in
          let other : w.line_start-start.result.is_blank ≡ false = grind (arith, w.if-not-start.true) in
          let start = dropping_stops file mid (is_help_line None) c.args.number c.blank.next line _ c.blank.invariant.0 first
          (not_before line (sym w.line_start-start.ensures.blank ∙ other)) in
          help_none file mid c.args.number c.blank.next line _ start first (sym w.line_start-start.ensures.column_is ∙ w.if-start-eq0.true)
    ]

pub first_seen-seen-requires-clause-long : goal.first_seen-seen-requires-clause-long
first_seen-seen-requires-clause-long c = long_in_end c.args.rest.now c.blank.after.now c.args.long.now c.blank.invariant.1 c.requires

pub drop_text-requires-clause-long : goal.drop_text-requires-clause-long
drop_text-requires-clause-long c =
    long_in_end c.args.rest.now c.first_seen-seen.result.line.after.now c.args.long.now
    (end_of_end c.args.rest.now c.blank.after.now c.first_seen-seen.result.line.after.now c.blank.invariant.1 c.first_seen-seen.ensures.end) c.requires

pub returns-then-not-start-clause-end : goal.returns-then-not-start-clause-end
returns-then-not-start-clause-end c =
    let mid = c.blank.after.now in
    let behind = c.first_seen-seen.result.line.after.now in
    end_of_end c.args.rest.now mid c.drop_text.result.rest.now c.blank.invariant.1
    (end_of_end mid behind c.drop_text.result.rest.now c.first_seen-seen.ensures.end c.drop_text.ensures.end)
