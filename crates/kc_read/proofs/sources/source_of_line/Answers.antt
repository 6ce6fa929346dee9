use Rattle.std.proofs.Common.{cond, sym, ◌∙◌, ◌≡◌}
use Rattle.kc_text.specs.Lexemes.{lexemes}
use Rattle.kc_language.specs.Expansion.{without_help}
use Rattle.kc_entries.specs.PartsOfExpansion.{is_help}
use Rattle.kc_read.specs.LineReads.{cause_of}
use Rattle.kc_read.proofs.{SourceLemmas.{SaysSource, begins_pieces, cut_ends, ended_found, source_bad, source_found, taken_line}, StepLemmas.{left_help, left_other}, sources.source_of_line.Goals.{else-begins_help, then-begins_help}}
use Rattle.kc_read.proofs.sources.source_of_line.Goals as goal

pub returns-in-Err : goal.returns-in-Err
returns-in-Err c =
    let mid = c.args.lines.now in
    let text = c.args.line.now in
    ended_found (SaysSource mid mid text) c.ended.result c.in-Err.fault c.ended.ensures
    (λ ne before taken. cut_ends before mid text c.in-Err.fault taken c.in-Err.ensures.refused ne)

pub returns-then-not-begins_with : goal.returns-then-not-begins_with
returns-then-not-begins_with c = λ before taken.
    let mid = c.args.lines.now in
    let ts = c.lex.new.out.items in
    let ls = lexemes ts in
    let first = rw c.deref.ensures.value at c.begins_help.ensures in
    let left : c.if-begins_help.lines ≡ cond (is_help ls) (without_help mid) mid =
    elim c.if-begins_help.branch [
      | then-begins_help w ↦ left_help ls mid _ (sym first ∙ w.if-begins_help.true) (rw w.lines-is (w.skip_help.ensures.dropped c.requires))
      | else-begins_help w ↦ left_other ls mid _ (sym first ∙ w.if-begins_help.false) w.lines-is
    ] in
    let line = taken_line before mid c.if-begins_help.lines c.args.line.now ts taken c.in-Ok.ensures.cut left in
    let begins = begins_pieces ts c.begins_with.result (rw c.deref-2.ensures.value at c.begins_with.ensures.word) in
    (lexemes ts, line, begins ∙ c.if-not-begins_with.true)

pub returns-in-Ok-source_name : goal.returns-in-Ok-source_name
returns-in-Ok-source_name c = λ before taken.
    let mid = c.args.lines.now in
    let ts = c.lex.new.out.items in
    let ls = lexemes ts in
    let first = rw c.deref.ensures.value at c.begins_help.ensures in
    let left : c.if-begins_help.lines ≡ cond (is_help ls) (without_help mid) mid =
    elim c.if-begins_help.branch [
      | then-begins_help w ↦ left_help ls mid _ (sym first ∙ w.if-begins_help.true) (rw w.lines-is (w.skip_help.ensures.dropped c.requires))
      | else-begins_help w ↦ left_other ls mid _ (sym first ∙ w.if-begins_help.false) w.lines-is
    ] in
    let line = taken_line before mid c.if-begins_help.lines c.args.line.now ts taken c.in-Ok.ensures.cut left in
    let begins = begins_pieces ts c.begins_with.result (rw c.deref-2.ensures.value at c.begins_with.ensures.word) in
    (lexemes ts, line, begins ∙ c.if-not-begins_with.false, source_found ts c.in-Ok-source_name.name.items (rw c.deref-3.ensures.value at c.in-Ok-source_name.ensures.name))

pub returns-in_default : goal.returns-in_default
returns-in_default c = λ before taken.
    let mid = c.args.lines.now in
    let ts = c.lex.new.out.items in
    let ls = lexemes ts in
    let first = rw c.deref.ensures.value at c.begins_help.ensures in
    let left : c.if-begins_help.lines ≡ cond (is_help ls) (without_help mid) mid =
    elim c.if-begins_help.branch [
      | then-begins_help w ↦ left_help ls mid _ (sym first ∙ w.if-begins_help.true) (rw w.lines-is (w.skip_help.ensures.dropped c.requires))
      | else-begins_help w ↦ left_other ls mid _ (sym first ∙ w.if-begins_help.false) w.lines-is
    ] in
    let line = taken_line before mid c.if-begins_help.lines c.args.line.now ts taken c.in-Ok.ensures.cut left in
    let begins = begins_pieces ts c.begins_with.result (rw c.deref-2.ensures.value at c.begins_with.ensures.word) in
    source_bad before c.if-begins_help.lines ts (cause_of c.in-Err-source_name.fault) line (begins ∙ c.if-not-begins_with.false)
    ((rw c.deref-3.ensures.value at c.in-Err-source_name.ensures.fault) c.in_default.not-Memory)
