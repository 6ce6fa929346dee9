use Rattle.std.proofs.Common.{Ok, [], ap, arith, map, refl, subst, sym, ◌∙◌, ◌≡◌}
use Rattle.kc_language.specs.{Expansion.{NextStatement, context_of, inside, with_file}, Expressions.{all_mentioned, number_of}, Lines.unread_lines, Statements.{SourceLine, names_in_statement}}
use Rattle.kc_read.specs.{Files.files_in, LineReads.cause_of, Progress.{HasAdvanced, IsEnded, IsLineTaken, IsState, context_in}}
use Rattle.kc_language.specs.declared.statements.EntryKind.TheVariants as entry
use Rattle.kc_entries.specs.declared.statement.Statement.TheVariants as made
use Rattle.kc_expr.proofs.NamesLemmas.{extends_on}
use Rattle.kc_read.proofs.{HeadLemmas.{is_no_source, no_limit, no_source}, NameLemmas.extends_none, RestLemmas.{blank_goes, effect_refused, end_refused, ended, file_read, file_refused, inside_refused, last_is, lines_go_on, moved_goes, next_passed, next_taken, no_memory, popped, reading_passed, renumbered_goes, source_goes, source_refused, statement_goes, statement_passed, step_refused}, ShapeLemmas.source_is, StateLemmas.{context_same, state_inside}}
use Rattle.kc_read.proofs.files.+files.Goals as goal

pub read_file-returns-in_err-read_next-clause-read : goal.read_file-returns-in_err-read_next-clause-read
read_file-returns-in_err-read_next-clause-read t c = λ first a log i.
    let files = files_in c.args.reader.now.map.now in
    let go = c.loop-tokens.invariant.read first a log i in
    reading_passed files first c.read_next.new.names a (unread_lines c.args.file.now 1)
    log c.read_next.new.progress c.from_residual.result c.in_err-read_next.field-0.0 c.from_residual.ensures.1
    (file_refused files first c.loop-tokens.names a (unread_lines c.args.file.now 1) c.loop-tokens.lines log c.loop-tokens.progress c.loop-tokens.frame c.in_err-read_next.field-0.0 go
    (c.in_err-read_next.ensures.read first go.context_now go.own_now go.log_now go.state))

pub read_file-loop-tokens-preserved : goal.read_file-loop-tokens-preserved
read_file-loop-tokens-preserved t c = record {
  read = λ first a log i.
      let files = files_in c.args.reader.now.map.now in
      let go = c.loop-tokens.invariant.read first a log i in
      lines_go_on files first c.loop-tokens.names c.read_next.new.names a (unread_lines c.args.file.now 1)
      c.loop-tokens.lines c.read_next.new.lines log c.loop-tokens.progress c.read_next.new.progress c.loop-tokens.frame c.read_next.new.frame go
      (rw c.if-branch.true at (c.in_ok-read_next.ensures.read first go.context_now go.own_now go.log_now go.state));
  clear = (c.in_ok-read_next.ensures.taken c.if-branch.true).1;
  within = c.in_ok-read_next.ensures.back.1;
  same_open = c.in_ok-read_next.ensures.back.0 ∙ c.loop-tokens.invariant.same_open;
  names = extends_on _ _ _ c.loop-tokens.invariant.names c.read_next.ensures.names;
}

pub read_file-returns-clause-read : goal.read_file-returns-clause-read
read_file-returns-clause-read t c = λ first a log i.
    let files = files_in c.args.reader.now.map.now in
    let go = c.loop-tokens.invariant.read first a log i in
    file_read files first c.loop-tokens.names c.read_next.new.names a (unread_lines c.args.file.now 1)
    c.loop-tokens.lines log c.loop-tokens.progress c.read_next.new.progress c.loop-tokens.frame go
    (rw c.if-branch.false at (c.in_ok-read_next.ensures.read first go.context_now go.own_now go.log_now go.state))

pub read_next-returns-in_err-next_step-clause-read : goal.read_next-returns-in_err-next_step-clause-read
read_next-returns-in_err-next_step-clause-read t c = λ first a own log i.
    let files = files_in c.args.reader.now.map.now in
    let same = context_same first c.args.names.now a own log c.args.frame.now c.args.progress.now (context_in c.args.frame.now c.args.progress.now) i refl refl refl refl in
    next_passed files first c.next_step.new.names a c.args.lines.now c.next_step.new.lines own log c.args.progress.now c.args.frame.now
    c.from_residual.result c.in_err-next_step.field-0.0 c.from_residual.ensures.1
    (step_refused files a c.args.lines.now own log (context_in c.args.frame.now c.args.progress.now)
    c.args.frame.now.file.value.items c.in_err-next_step.field-0.0 same i.frame.file (rw c.is_flat.ensures at c.in_err-next_step.ensures.refused))

pub read_next-returns-in_err-end-in-End-clause-read : goal.read_next-returns-in_err-end-in-End-clause-read
read_next-returns-in_err-end-in-End-clause-read t c = λ first a own log i.
    let files = files_in c.args.reader.now.map.now in
    let step = rw c.in-End.is at (rw c.is_flat.ensures at c.in_ok-next_step.ensures.step) in
    next_passed files first c.next_step.new.names a c.args.lines.now c.next_step.new.lines own log c.args.progress.now c.args.frame.now
    c.from_residual-in_err-end-in-End.result c.in_err-end-in-End.field-0.0 c.from_residual-in_err-end-in-End.ensures.1
    (λ ne. end_refused files first c.args.names.now a c.args.lines.now own log c.args.progress.now c.args.frame.now c.in_err-end-in-End.field-0.0 i
    step.0 (c.in_err-end-in-End.ensures.open ne))

pub read_next-returns-in_ok-end-in-End-clause-read : goal.read_next-returns-in_ok-end-in-End-clause-read
read_next-returns-in_ok-end-in-End-clause-read t c = λ first a own log i.
    let files = files_in c.args.reader.now.map.now in
    let step = rw c.in-End.is at (rw c.is_flat.ensures at c.in_ok-next_step.ensures.step) in
    subst (λ ns. IsEnded files first ns a c.args.lines.now own log c.args.progress.now) (sym step.1)
    (ended files first c.args.names.now a c.args.lines.now own log c.args.progress.now c.args.frame.now i step.0 c.in_ok-end-in-End.ensures.closed)

pub read_next-returns-in-Blank-clause-read : goal.read_next-returns-in-Blank-clause-read
read_next-returns-in-Blank-clause-read t c = λ first a own log i.
    let files = files_in c.args.reader.now.map.now in
    let step = rw c.in-Blank.is at (rw c.is_flat.ensures at c.in_ok-next_step.ensures.step) in
    subst (λ ns. HasAdvanced files first ns a c.args.lines.now c.next_step.new.lines own log c.args.progress.now c.args.frame.now) (sym step.1)
    (blank_goes files first c.args.names.now a c.args.lines.now c.next_step.new.lines own log c.args.progress.now c.args.frame.now i step.0)

pub read_next-returns-in-Blank-clause-taken : goal.read_next-returns-in-Blank-clause-taken
read_next-returns-in-Blank-clause-taken t c = λ more.
    let step = rw c.in-Blank.is at (rw c.is_flat.ensures at c.in_ok-next_step.ensures.step) in
    next_taken c.args.lines.now c.next_step.new.lines [] step.0.0

pub read_next-returns-in-Renumbered-clause-read : goal.read_next-returns-in-Renumbered-clause-read
read_next-returns-in-Renumbered-clause-read t c = λ first a own log i.
    let files = files_in c.args.reader.now.map.now in
    let step = rw c.in-Renumbered.is at (rw c.is_flat.ensures at c.in_ok-next_step.ensures.step) in
    subst (λ ns. HasAdvanced files first ns a c.args.lines.now c.renumber.new.self own log c.args.progress.now c.args.frame.now) (sym step.1)
    (subst (λ m. HasAdvanced files first c.args.names.now a c.args.lines.now m own log c.args.progress.now c.args.frame.now) (sym c.renumber.ensures)
    (renumbered_goes files first c.args.names.now a c.args.lines.now c.next_step.new.lines own log c.args.progress.now c.args.frame.now c.in-Renumbered.number
    c.args.frame.now.file.value.items i i.frame.file step.0))

pub read_next-returns-in-Renumbered-clause-taken : goal.read_next-returns-in-Renumbered-clause-taken
read_next-returns-in-Renumbered-clause-taken t c = λ more.
    let step = rw c.in-Renumbered.is at (rw c.is_flat.ensures at c.in_ok-next_step.ensures.step) in
    subst (IsLineTaken c.args.lines.now) (sym c.renumber.ensures) (next_taken c.args.lines.now c.next_step.new.lines [] step.0.0)

pub read_next-returns-in-Ok-clause-read : goal.read_next-returns-in-Ok-clause-read
read_next-returns-in-Ok-clause-read t c = λ first a own log i.
    let files = files_in c.args.reader.now.map.now in
    let step = rw c.in-Moved.is at (rw c.is_flat.ensures at c.in_ok-next_step.ensures.step) in
    subst (λ ns. HasAdvanced files first ns a c.args.lines.now c.renumber-in-Moved.new.self own log c.move_to.new.progress c.move_to.new.frame) (sym step.2)
    (subst (λ m. HasAdvanced files first c.args.names.now a c.args.lines.now m own log c.move_to.new.progress c.move_to.new.frame) (sym c.renumber-in-Moved.ensures)
    (moved_goes files first c.args.names.now a c.args.lines.now c.next_step.new.lines own log c.args.progress.now c.move_to.new.progress c.args.frame.now c.move_to.new.frame
    c.in-Moved.number c.in-Moved.name.items c.args.frame.now.file.value.items i i.frame.file step.0 step.1 c.in-Ok.ensures.frame c.in-Ok.ensures.progress))

pub read_next-returns-in_err-read_statement-in-Next-clause-read : goal.read_next-returns-in_err-read_statement-in-Next-clause-read
read_next-returns-in_err-read_statement-in-Next-clause-read t c = λ first a own log i.
    let files = files_in c.args.reader.now.map.now in
    let same = context_same first c.args.names.now a own log c.args.frame.now c.args.progress.now (context_in c.args.frame.now c.args.progress.now) i refl refl refl refl in
    let step = rw c.in-Next.is at (rw c.is_flat.ensures at c.in_ok-next_step.ensures.step) in
    next_passed files first c.read_statement.new.names a c.args.lines.now c.next_step.new.lines own log c.read_statement.new.progress
    c.read_statement.new.frame c.from_residual-in_err-read_statement-in-Next.result c.in_err-read_statement-in-Next.field-0.0
    c.from_residual-in_err-read_statement-in-Next.ensures.1
    (c.in_err-read_statement-in-Next.ensures.read first c.args.names.now a own log step.0 c.args.lines.now c.next_step.new.lines i step.3
    (subst (λ k. NextStatement c.args.reader.now.map.now.flat c.args.lines.now c.next_step.new.lines k (Ok step.0)) same step.2) step.1)

pub read_next-returns-in_ok-read_statement-in-Next-clause-read : goal.read_next-returns-in_ok-read_statement-in-Next-clause-read
read_next-returns-in_ok-read_statement-in-Next-clause-read t c = λ first a own log i.
    let same = context_same first c.args.names.now a own log c.args.frame.now c.args.progress.now (context_in c.args.frame.now c.args.progress.now) i refl refl refl refl in
    let step = rw c.in-Next.is at (rw c.is_flat.ensures at c.in_ok-next_step.ensures.step) in
    c.in_ok-read_statement-in-Next.ensures.read first c.args.names.now a own log step.0 c.args.lines.now c.next_step.new.lines i step.3
    (subst (λ k. NextStatement c.args.reader.now.map.now.flat c.args.lines.now c.next_step.new.lines k (Ok step.0)) same step.2) step.1

pub read_next-returns-in_ok-read_statement-in-Next-clause-taken : goal.read_next-returns-in_ok-read_statement-in-Next-clause-taken
read_next-returns-in_ok-read_statement-in-Next-clause-taken t c = λ more.
    let step = rw c.in-Next.is at (rw c.is_flat.ensures at c.in_ok-next_step.ensures.step) in
    next_taken c.args.lines.now c.next_step.new.lines step.2.tokens step.2.next

pub read_statement-returns-in-Source-clause-read : goal.read_statement-returns-in-Source-clause-read
read_statement-returns-in-Source-clause-read t c = λ first known a own log x l m i is next line.
    let name = c.in-Source.name.items in
    let view = rw c.in-Source.is at (is.form c.args.names.now (extends_none c.args.names.now)) in
    let e : x ≡ SourceLine name = source_is (number_of c.args.names.now) name x view in
    let same : c.args.names.now ≡ known = is.mentions ∙ ap (λ y. all_mentioned known (names_in_statement y)) e in
    c.source.ensures.read first a own log l m (subst (λ ns. IsState first ns a own log c.args.progress.now c.args.frame.now) (sym same) i)
    (subst (λ y. NextStatement c.args.reader.now.map.now.flat l m (context_of a own log) (Ok y)) e next) line

pub read_statement-returns-in-Ok-clause-read : goal.read_statement-returns-in-Ok-clause-read
read_statement-returns-in-Ok-clause-read t c = λ first known a own log x l m i is next line.
    let files = files_in c.args.reader.now.map.now in
    let head = c.in-Head.head in
    statement_goes files first known c.args.names.now a l m own log c.args.frame.now c.take_head.new.frame c.args.progress.now c.take_head.new.progress
    (made.Head head) x c.args.line i (rw c.in-Head.is at is) next line (no_source head) c.in-Ok.ensures.taken c.in-Ok.ensures.allowed

pub read_statement-returns-in-Err-clause-read : goal.read_statement-returns-in-Err-clause-read
read_statement-returns-in-Err-clause-read t c = λ first known a own log x l m i is next line ne.
    let files = files_in c.args.reader.now.map.now in
    effect_refused files first known c.args.names.now a l m own log c.args.frame.now c.args.progress.now (made.Head c.in-Head.head) x c.args.line
    c.deref-in-Err.result.now (cause_of c.in-Err.fault) c.refuse.result i (rw c.in-Head.is at is) next line
    (c.deref-in-Err.ensures.value ∙ ap (λ v. v.items) c.deref.ensures ∙ ap (λ r. r.value.items) c.in-Err.ensures.file)
    (c.in-Err.ensures.fault (no_memory c.refuse.result c.in-Err.fault c.deref-in-Err.result.now c.args.line ne c.refuse.ensures.refused)) (c.refuse.ensures.refused ne)

pub read_statement-returns-in-Ok-take_attribute-clause-read : goal.read_statement-returns-in-Ok-take_attribute-clause-read
read_statement-returns-in-Ok-take_attribute-clause-read t c = λ first known a own log x l m i is next line.
    let files = files_in c.args.reader.now.map.now in
    let attribute = c.in-Attribute.attribute in
    let read = rw c.in-Attribute.is at is in
    statement_goes files first known c.args.names.now a l m own log c.args.frame.now c.args.frame.now c.args.progress.now c.take_attribute.new.progress
    (made.Attribute attribute) x c.args.line i read next line (is_no_source attribute)
    (c.in-Ok-take_attribute.ensures.taken c.args.frame.now (last_is files first known c.args.names.now a l m own log c.args.frame.now c.args.progress.now attribute x i read next))
    (no_limit attribute c.args.frame.now c.args.progress.now)

pub source-returns-in-Err-clause-read : goal.source-returns-in-Err-clause-read
source-returns-in-Err-clause-read t c = λ first a own log l m i next line ne.
    let files = files_in c.args.reader.now.map.now in
    source_refused files first c.args.names.now a l m own log c.args.frame.now c.args.progress.now c.args.name.items c.args.line
    c.deref-in-Err-2.result.now (cause_of c.in-Err.fault) c.refuse.result i next line
    (c.deref-in-Err-2.ensures.value ∙ ap (λ v. v.items) c.deref-in-Err.ensures) (rw c.deref.ensures.value at c.in-Err.ensures.fault) (c.refuse.ensures.refused ne)

pub source-returns-in_err-read_file-clause-read : goal.source-returns-in_err-read_file-clause-read
source-returns-in_err-read_file-clause-read t c = λ first a own log l m i next line.
    let files = files_in c.args.reader.now.map.now in
    let name = c.args.name.items in
    let bytes = c.in-Ok.opened.0.now in
    let within = state_inside first c.args.names.now a own log c.args.frame.now c.in-Ok-enter.inside c.args.progress.now c.enter.new.progress name bytes
    c.in-Ok.opened.1 i c.in-Ok-enter.ensures.frame c.in-Ok-enter.ensures.progress c.in-Ok.ensures.total_lines.0 in
    statement_passed files first c.read_file.new.names a l m own log c.read_file.new.progress c.args.frame.now c.from_residual.result c.in_err-read_file.field-0.0 c.from_residual.ensures.1
    (inside_refused files first c.args.names.now a l m own log c.args.frame.now c.args.progress.now name bytes c.in_err-read_file.field-0.0 i next
    (rw c.deref.ensures.value at c.in-Ok.ensures.allowed) (rw c.deref.ensures.value at c.in-Ok.ensures.bytes)
    (c.in_err-read_file.ensures.read first (inside a own name) (with_file log name bytes) within))

pub source-returns-clause-read : goal.source-returns-clause-read
source-returns-clause-read t c = λ first a own log l m i next line.
    let files = files_in c.args.reader.now.map.now in
    let name = c.args.name.items in
    let bytes = c.in-Ok.opened.0.now in
    let q = c.read_file.new.progress in
    let entered = c.in-Ok-enter.ensures.progress in
    let within = state_inside first c.args.names.now a own log c.args.frame.now c.in-Ok-enter.inside c.args.progress.now c.enter.new.progress name bytes
    c.in-Ok.opened.1 i c.in-Ok-enter.ensures.frame entered c.in-Ok.ensures.total_lines.0 in
    let same_files = popped c.args.progress.now.open_files.items q.open_files.items c.pop.new.self.items q.open_files.len entered.open_files.0
    c.pop.ensures.rest (omega (arith, q.open_files.ok.0)) (c.in_ok-read_file.ensures.open ∙ entered.open_files.2) in
    source_goes files first c.args.names.now c.read_file.new.names a l m own log c.args.frame.now (record c.args.frame.now { entry = entry.Nothing })
    c.args.progress.now q (record q { open_files = c.pop.new.self }) name bytes c.args.line i next line
    (rw c.deref.ensures.value at c.in-Ok.ensures.allowed) (rw c.deref.ensures.value at c.in-Ok.ensures.bytes)
    (c.in_ok-read_file.ensures.read first (inside a own name) (with_file log name bytes) within) refl (ap (map (λ f. f.value.items)) same_files) refl

pub read_file-returns-in_err-read_next-clause-names : goal.read_file-returns-in_err-read_next-clause-names
read_file-returns-in_err-read_next-clause-names t c = extends_on _ _ _ c.loop-tokens.invariant.names c.in_err-read_next.ensures.names

pub read_file-returns-clause-names : goal.read_file-returns-clause-names
read_file-returns-clause-names t c = extends_on _ _ _ c.loop-tokens.invariant.names c.in_ok-read_next.ensures.names

pub read_next-returns-in_err-read_statement-in-Next-clause-names : goal.read_next-returns-in_err-read_statement-in-Next-clause-names
read_next-returns-in_err-read_statement-in-Next-clause-names t c = extends_on _ _ _ c.in_ok-next_step.ensures.names c.in_err-read_statement-in-Next.ensures.names

pub read_next-returns-in_ok-read_statement-in-Next-clause-names : goal.read_next-returns-in_ok-read_statement-in-Next-clause-names
read_next-returns-in_ok-read_statement-in-Next-clause-names t c = extends_on _ _ _ c.in_ok-next_step.ensures.names c.in_ok-read_statement-in-Next.ensures.names
