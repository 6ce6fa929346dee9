-- A root file has an expansion: by the files that may still be opened, and the lines that are left.
use Rattle.std.proofs.{Common.{Bool, Err, List, MatchOption, None, Ok, Option, Result, Some, [], ap, arith, cond, false, length, map, nat_le, refl, subst, suc, sym, true, zero, ℕ, ◌-◌, ◌<◌, ◌∙◌, ◌∷◌, ◌≡◌, ◌≤◌}, lemmas.{Bool.{Decides.nat_tests, false≢true}, List.length-append}}
use Rattle.std.specs.List.{list_any}
use Rattle.kc_language.specs.{Expansion.{FileContext, Files, NextLine, NextStatement, OpensFile, ReadSoFar, Refused, Rest, at_end, at_root, bad_line, bad_source, blank, bytes_cause, context_of, first_log, goes_on, inside, last_of, limit_cause, moved, no_tokens, over_limit, refusal_at, refused, refused_inside, renumbered, source, sourced, sourcing_cause, statement, text_cause, too_long, unclosed, with_file, with_line, without_help}, Expressions.{mention, same_name}, Lines.{TakesLine, UnreadLines, unread_lines}, Statements.{Cause, ChoiceLine, CommentLine, ConfigLine, DefLine, DefaultLine, DependsLine, EndChoiceLine, EndIfLine, EndMenuLine, HelpLine, IfLine, IgnoredLine, ImplyLine, Located, MainMenuLine, MenuLine, ModulesLine, Named, PromptLine, RangeLine, SelectLine, SourceLine, TypeLine, VisibleLine}, Tokens.Lexeme, declared.tokens.TextFault.TextFault}
use Rattle.kc_text.specs.Lines.{Ended, IsNextLine, Next, Taken, TooLong}
use Rattle.kc_text.proofs.{Joins.one_next_line_law, There.one_cutting_law}
use Rattle.kc_language.specs.declared.diagnostics.Cause.TheVariants as cause
use Rattle.kc_entries.specs.PartsOfExpansion.{is_help, is_source, logged, reading, root_context, source_cause}
use Rattle.kc_read.specs.{Existing.HasOneExpansion, Progress.{Opener, located_blocks}}
use Rattle.kc_read.proofs.BlockLemmas as blocks
use Rattle.kc_read.proofs.{LineThere.line_there, OneExpansion.{IsMark, Mark, NoMark, Number, Place, mark_there, one_expansion_law}, RestLemmas.next_less}

abbrev RestThere : Files → FileContext → UnreadLines → List (Located Named) → ReadSoFar → Type 0
RestThere files a l own log = (r : Result ReadSoFar Refused) × Rest files (reading a l own log) r

last_there : (o : Opener) (os : List Opener) → (p : Opener) × (last_of (o ∷ os) ≡ Some p)
last_there o [] = (o, refl)
last_there o (q ∷ os) = last_there q os

source_named : (s : Named) → is_source s ≡ true → (name : List ℕ) × (s ≡ SourceLine name)
source_named (SourceLine t) h = (t, refl)
source_named (ConfigLine n) h = absurd (false≢true h)
source_named (IfLine e) h = absurd (false≢true h)
source_named EndIfLine h = absurd (false≢true h)
source_named (CommentLine t) h = absurd (false≢true h)
source_named (MenuLine t) h = absurd (false≢true h)
source_named EndMenuLine h = absurd (false≢true h)
source_named ChoiceLine h = absurd (false≢true h)
source_named EndChoiceLine h = absurd (false≢true h)
source_named (MainMenuLine t) h = absurd (false≢true h)
source_named (TypeLine k p) h = absurd (false≢true h)
source_named (PromptLine p) h = absurd (false≢true h)
source_named (DefaultLine v w) h = absurd (false≢true h)
source_named (DefLine k v w) h = absurd (false≢true h)
source_named (DependsLine e) h = absurd (false≢true h)
source_named (VisibleLine e) h = absurd (false≢true h)
source_named (SelectLine n w) h = absurd (false≢true h)
source_named (ImplyLine n w) h = absurd (false≢true h)
source_named (RangeLine x y w) h = absurd (false≢true h)
source_named HelpLine h = absurd (false≢true h)
source_named ModulesLine h = absurd (false≢true h)
source_named IgnoredLine h = absurd (false≢true h)

-- a file that may be opened has bytes, and fewer than 64 are open
record MayOpen (files : Files) (names : List (List ℕ)) (name : List ℕ) : Type 0 where
  pub bytes : List ℕ
  pub there : sourced files name ≡ Some bytes
  pub fewer : length names < 64

may_open : (files : Files) (names : List (List ℕ)) (n : ℕ) (name : List ℕ) → sourcing_cause files names n name ≡ None → MayOpen files names name
may_open files names n name h = by (list_any (same_name name) names) (nat_le 64 (length names)) (sourced files name) refl refl h
  where
    by : (open_now full : Bool) (o : Option (List ℕ)) → nat_le 64 (length names) ≡ full → sourced files name ≡ o →
        cond open_now (Some (cause.InclusionLoop name)) (cond full (Some cause.TooDeep) (bytes_cause name n o)) ≡ None →
        MayOpen files names name
    by true full o e f g = absurd cc
    by false true o e f g = absurd cc
    by false false None e f g = absurd cc
    by false false (Some bytes) e f g = record { bytes = bytes; there = f; fewer = grind (arith, nat_tests) }

module _ (files : Files) (a : FileContext) (deeper : (own : List (Located Named)) (log : ReadSoFar) (name bytes : List ℕ) → length a.open_files < 64 →
    RestThere files (inside a own name) (unread_lines bytes 1) [] (with_file log name bytes)) where
  module _ (l : UnreadLines) (own : List (Located Named)) (log : ReadSoFar)
      (on : (m : UnreadLines) (own' : List (Located Named)) (log' : ReadSoFar) → length m.lines < length l.lines → RestThere files a m own' log')
      (elsewhere : (name : List ℕ) (m : UnreadLines) (own' : List (Located Named)) (log' : ReadSoFar) → length m.lines < length l.lines →
      RestThere files (record a { file = name }) m own' log') where
    end_there : l.lines ≡ [] → (os : List Opener) → located_blocks own ≡ os → RestThere files a l own log
    end_there none [] e = (Ok log, at_end (reading a l own log) none (sym (blocks.blocks_of_located own) ∙ ap (map (λ o. o.block)) e))
    end_there none (o ∷ os) e =
        let x = last_there o os in
        let (opener, is_open, file, line) = blocks.unclosed own x.0 (ap last_of e ∙ x.1) in
        (Err (refusal_at cause.Block opener.file opener.line), unclosed (reading a l own log) opener none is_open)

    plain_there : (m : UnreadLines) (s : Named) → NextStatement files.flat l m (context_of a own log) (Ok s) → is_source s ≡ false → length m.lines < length l.lines →
        (o : Option Cause) → limit_cause a own log s ≡ o → RestThere files a l own log
    plain_there m s n plain less (Some c) e = (Err (refusal_at c a.file l.number), refused (reading a l own log) c (over_limit m s c n e))
    plain_there m s n plain less None e =
        let x = on m (with_line own a l.number s) (logged log a l.number s) less in
        (x.0, goes_on (reading a l own log) _ x.0 (statement m s n plain e) x.1)

    abbrev opens : (m : UnreadLines) (name bytes : List ℕ) → NextStatement files.flat l m (context_of a own log) (Ok (SourceLine name)) →
        source_cause files a log.total_lines name ≡ None → sourced files name ≡ Some bytes → OpensFile files (reading a l own log)
    opens m name bytes n free there = record { after = m; name = name; bytes = bytes; next = n; allowed = free; found = there }

    opened_there : (m : UnreadLines) (name bytes : List ℕ) → NextStatement files.flat l m (context_of a own log) (Ok (SourceLine name)) → length m.lines < length l.lines →
        source_cause files a log.total_lines name ≡ None → sourced files name ≡ Some bytes →
        RestThere files (inside a own name) (unread_lines bytes 1) [] (with_file log name bytes) → RestThere files a l own log
    opened_there m name bytes n less free there (Err e, d) = (Err e, refused_inside (reading a l own log) (opens m name bytes n free there) e d)
    opened_there m name bytes n less free there (Ok more, d) =
        let x = on m (with_line own a l.number (SourceLine name)) more less in
        (x.0, source (reading a l own log) (opens m name bytes n free there) more x.0 d x.1)

    source_there : (m : UnreadLines) (name : List ℕ) → NextStatement files.flat l m (context_of a own log) (Ok (SourceLine name)) → length m.lines < length l.lines →
        (o : Option Cause) → source_cause files a log.total_lines name ≡ o → RestThere files a l own log
    source_there m name n less (Some c) e = (Err (refusal_at c a.file l.number), refused (reading a l own log) c (bad_source m name c n e))
    source_there m name n less None e =
        let x = may_open files a.open_files log.total_lines name e in
        opened_there m name x.bytes n less e x.there (deeper own log name x.bytes x.fewer)

    said_there : (m : UnreadLines) (s : Result Named Cause) → NextStatement files.flat l m (context_of a own log) s → length m.lines < length l.lines → RestThere files a l own log
    said_there m (Err c) n less = (Err (refusal_at c a.file l.number), refused (reading a l own log) c (bad_line m c n))
    said_there m (Ok s) n less = by (is_source s) refl
      where
        by : (b : Bool) → is_source s ≡ b → RestThere files a l own log
        by false e = plain_there m s n e less (limit_cause a own log s) refl
        by true e =
            let x = source_named s e in
            source_there m x.0 (subst (λ y. NextStatement files.flat l m (context_of a own log) (Ok y)) x.1 n) less (source_cause files a log.total_lines x.0) refl

    marked_there : (m : UnreadLines) → length m.lines < length l.lines → (x : Mark) → IsMark files.flat a.file l m x → RestThere files a l own log
    marked_there m less NoMark is = let x = on m own log less in (x.0, goes_on (reading a l own log) _ x.0 (blank m is) x.1)
    marked_there m less (Number n) is = let x = on (record m { number = n }) own log less in (x.0, goes_on (reading a l own log) _ x.0 (renumbered m n is) x.1)
    marked_there m less (Place n name) is =
        let x = elsewhere name (record m { number = n }) (with_line own a l.number (SourceLine name)) (record log { opened = mention log.opened name }) less in
        (x.0, goes_on (reading a l own log) _ x.0 (moved m n name is.0 is.1) x.1)

    cut_there : (m : UnreadLines) (ts : List Lexeme) (out : Option TextFault) → NextLine files.flat l m ts out → RestThere files a l own log
    cut_there m ts (Some why) n = (Err (refusal_at (text_cause why) a.file l.number), refused (reading a l own log) (text_cause why) (no_tokens m ts why n))
    cut_there m [] None n = let (mark, is) = mark_there files.flat a.file l m n in marked_there m (next_less l m [] None n) mark is
    cut_there m (t ∷ ts) None n =
        let s = line_there (context_of a own log) (t ∷ ts) in
        said_there m s.0 (record { tokens = t ∷ ts; some = λ e. absurd cc; next = n; reads = s.1 }) (next_less l m (t ∷ ts) None n)

    taken_there : (m : UnreadLines) (text : List ℕ) → TakesLine l m text → RestThere files a l own log
    taken_there m text taken =
        let c = one_cutting_law files.flat text in
        cut_there (cond (is_help c.0) (without_help m) m) c.0 c.1.0 (record { middle = m; text = text; taken = taken; cut = c.1.1; left_after = refl })

    next_there : (next : Next) → IsNextLine l next → RestThere files a l own log
    next_there Ended g = end_there g (located_blocks own) refl
    next_there (Taken m text) g = taken_there m text g
    next_there TooLong g = (Err (refusal_at cause.LineTooLong a.file l.number), refused (reading a l own log) cause.LineTooLong (too_long g))

    turn_there : RestThere files a l own log
    turn_there = let next = one_next_line_law l in next_there next.0 next.1

-- The context's file may change on the way, and its open files do not.
lines_there : (files : Files) (fuel : ℕ) (a : FileContext) (l : UnreadLines) (own : List (Located Named)) (log : ReadSoFar) →
    ((file : List ℕ) (own : List (Located Named)) (log : ReadSoFar) (name bytes : List ℕ) → length a.open_files < 64 →
    RestThere files (inside (record a { file = file }) own name) (unread_lines bytes 1) [] (with_file log name bytes)) → length l.lines ≤ fuel → RestThere files a l own log
lines_there files zero a l own log deeper le =
    turn_there files a (deeper a.file) l own log (λ m own' log' less. absurd (omega arith)) (λ name m own' log' less. absurd (omega arith))
lines_there files (suc fuel) a l own log deeper le =
    turn_there files a (deeper a.file) l own log (λ m own' log' less. lines_there files fuel a m own' log' deeper (omega arith))
    (λ name m own' log' less. lines_there files fuel (record a { file = name }) m own' log' deeper (omega arith))

file_there : (files : Files) (depth : ℕ) (a : FileContext) → 64 - length a.open_files ≤ depth → (l : UnreadLines) (own : List (Located Named)) (log : ReadSoFar) → RestThere files a l own log
file_there files zero a few l own log = lines_there files (length l.lines) a l own log (λ file own' log' name bytes lt. absurd (omega arith)) (omega arith)
file_there files (suc depth) a few l own log =
    lines_there files (length l.lines) a l own log
    (λ file own' log' name bytes lt. file_there files depth (inside (record a { file = file }) own' name) (omega (arith, length-append a.open_files (name ∷ [])))
    (unread_lines bytes 1) [] (with_file log' name bytes)) (omega arith)

root_there : (files : Files) (root : List ℕ) (o : Option (List ℕ)) (c : Option Cause) → files.bytes root ≡ o → bytes_cause root 0 o ≡ c → (r : Result ReadSoFar Refused)
    × MatchOption c ((bytes : List ℕ) × (files.bytes root ≡ Some bytes) × Rest files (at_root files root bytes) r)
    (λ w. r ≡ Err (refusal_at w root 0))
root_there files root o (Some w) e f = (Err (refusal_at w root 0), refl)
root_there files root None None e f = absurd cc
root_there files root (Some bytes) None e f =
    let x = file_there files 64 (root_context root) (omega arith) (unread_lines bytes 1) [] (first_log files root bytes) in
    (x.0, (bytes, e, x.1))

pub has_one_expansion : HasOneExpansion
has_one_expansion files root =
    let x = root_there files root (files.bytes root) (bytes_cause root 0 (files.bytes root)) refl refl in
    (x.0, x.1, λ other h. one_expansion_law files root x.0 other x.1 h)
