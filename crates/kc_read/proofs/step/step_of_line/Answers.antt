use Rattle.std.proofs.{Common.{[], ap, arith, cond, length, rules, sym, ◌∙◌, ◌≡◌}, lemmas.{Bool.eqb-true, List.nil_from_length, Result.{IfErr-weaker, IfOk-weaker}}}
use Rattle.kc_read.proofs.{StepLemmas.{left_help, left_other, lex_fault, next_statement, no_step_refusal, read_refused, step_of_marked}, step.step_of_line.Goals.{else-begins_help, then-begins_help}}
use Rattle.kc_read.specs.{LineReads.cause_of, Progress.context_in}
use Rattle.kc_read.proofs.step.step_of_line.Goals as goal
use Rattle.kc_language.specs.Expansion.{without_help}
use Rattle.kc_entries.specs.PartsOfExpansion.{is_help}
use Rattle.kc_text.specs.Lexemes.{lexemes}

pub returns-in-Err-clause-refused : goal.returns-in-Err-clause-refused
returns-in-Err-clause-refused c = λ before same taken.
    lex_fault c.args.position.now.is_flat c.args.position.now.frame.now.file.value.items (context_in c.args.position.now.frame.now c.args.position.now.progress.now)
    before c.args.lines.now c.args.line.now c.in-Err.fault c.refuse.result c.args.number (cause_of c.text_fault.result)
    taken c.in-Err.ensures.refused same c.text_fault.ensures
    (rw (c.deref-in-Err.ensures.value ∙ ap (λ v. v.items) c.deref.ensures) at c.refuse.ensures.refused)

pub returns-in-Ok-read_line-clause-step : goal.returns-in-Ok-read_line-clause-step
returns-in-Ok-read_line-clause-step c = λ before same taken.
    let read = rw c.deref-3.ensures.value at c.in-Ok-read_line.ensures.read in
    let mid = c.args.lines.now in
    let ts = c.lex.new.out.items in
    let ls = lexemes ts in
    let first = rw c.deref-2.ensures.value at c.begins_help.ensures in
    let left : c.if-begins_help.lines ≡ cond (is_help ls) (without_help mid) mid =
    elim c.if-begins_help.branch [
      | then-begins_help w ↦ left_help ls mid _ (sym first ∙ w.if-begins_help.true) (rw w.lines-is (w.skip_help.ensures.dropped c.requires))
      | else-begins_help w ↦ left_other ls mid _ (sym first ∙ w.if-begins_help.false) w.lines-is
    ] in (
      read.0,
      same,
      next_statement c.args.position.now.is_flat (context_in c.args.position.now.frame.now c.args.position.now.progress.now)
          before mid c.if-begins_help.lines c.args.line.now ts _ taken c.in-Ok.ensures.cut (search rules) read.1 left,
      read.2,
    )

pub returns-in-Err-read_line-clause-refused : goal.returns-in-Err-read_line-clause-refused
returns-in-Err-read_line-clause-refused c = λ before same taken.
    let read = rw c.deref-3.ensures.value at c.in-Err-read_line.ensures.read in
    let mid = c.args.lines.now in
    let ts = c.lex.new.out.items in
    let ls = lexemes ts in
    let first = rw c.deref-2.ensures.value at c.begins_help.ensures in
    let left : c.if-begins_help.lines ≡ cond (is_help ls) (without_help mid) mid =
    elim c.if-begins_help.branch [
      | then-begins_help w ↦ left_help ls mid _ (sym first ∙ w.if-begins_help.true) (rw w.lines-is (w.skip_help.ensures.dropped c.requires))
      | else-begins_help w ↦ left_other ls mid _ (sym first ∙ w.if-begins_help.false) w.lines-is
    ] in
    read_refused c.args.position.now.is_flat c.args.position.now.frame.now.file.value.items (context_in c.args.position.now.frame.now c.args.position.now.progress.now)
    before mid c.if-begins_help.lines c.args.line.now ts c.in-Err-read_line.fault c.refuse-in-Err-read_line.result c.args.number taken c.in-Ok.ensures.cut
    (search rules) left read same (rw (c.deref-in-Err-read_line-2.ensures.value ∙ ap (λ v. v.items) c.deref-in-Err-read_line.ensures)
    at c.refuse-in-Err-read_line.ensures.refused)

pub returns-then-is_empty-clause-step : goal.returns-then-is_empty-clause-step
returns-then-is_empty-clause-step c =
    let position = c.args.position.now in
    let mid = c.args.lines.now in
    let ts = c.lex.new.out.items in
    let ls = lexemes ts in
    let first = rw c.deref-2.ensures.value at c.begins_help.ensures in
    let left : c.if-begins_help.lines ≡ cond (is_help ls) (without_help mid) mid =
    elim c.if-begins_help.branch [
      | then-begins_help w ↦ left_help ls mid _ (sym first ∙ w.if-begins_help.true) (rw w.lines-is (w.skip_help.ensures.dropped c.requires))
      | else-begins_help w ↦ left_other ls mid _ (sym first ∙ w.if-begins_help.false) w.lines-is
    ] in
    let none : ts ≡ [] = nil_from_length ts (let counted : length ts ≡ c.lex.new.out.len = omega (arith, c.lex.new.out.ok.0) in counted ∙ eqb-true _ 0 (sym c.if-is_empty.ensures)) in
    IfOk-weaker c.marked.result _ _ (λ s is before same taken.
    step_of_marked position.is_flat position.frame.now.file.value.items c.args.names.now (context_in position.frame.now position.progress.now) before mid c.if-begins_help.lines
    c.args.line.now ts s taken c.in-Ok.ensures.cut none left is) c.marked.ensures.marked

pub returns-then-is_empty-clause-refused : goal.returns-then-is_empty-clause-refused
returns-then-is_empty-clause-refused c =
    let position = c.args.position.now in
    IfErr-weaker c.marked.result _ _ (λ r e before same taken.
    no_step_refusal position.is_flat position.frame.now.file.value.items (context_in position.frame.now position.progress.now) before r e) c.marked.ensures.memory

pub returns-then-is_empty-clause-memory : goal.returns-then-is_empty-clause-memory
returns-then-is_empty-clause-memory c = IfErr-weaker c.marked.result _ _ (λ r e known. e) c.marked.ensures.memory
