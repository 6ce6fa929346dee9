-- The expanded list is the list of the root file.
use Rattle.std.proofs.Common.{Err, List, None, Ok, Option, Result, Some, [], ap, append-nil, append_assoc, refl, subst, sym, ℕ, ◌++◌, ◌∙◌, ◌∷◌, ◌≡◌}
use Rattle.std.specs.Prelude.{MatchOption, false}
use Rattle.kc_language.specs.{Expansion.{Files, IsBlankNext, MarksNext, NextStatement, ReadSoFar, Reading, Refused, Rest, at_end, at_root, blank, bytes_cause, context_of, goes_on, moved, refusal_at, refused, refused_inside, renumbered, source, sourced, statement, unclosed}, Expressions.same_name, Lines.{UnreadLines, unread_lines}, Statements.{Cause, LineContext, Located, Named, SourceLine}}
use Rattle.kc_entries.specs.PartsOfExpansion.{is_source}
use Rattle.kc_read.specs.Replaced as r
use Rattle.kc_read.specs.Replaced.{ExpandedIsListOf, IsListOf, Owns, Replaces, located}

-- what the rest of a file adds to the list
record Adds (files : Files) (file : List ℕ) (l : UnreadLines) (before after : List (Located Named)) : Type 0 where
  pub own : List (Located Named)
  pub list : List (Located Named)
  pub owns : Owns files.flat file l own
  pub replaces : Replaces files own list
  pub lines : after ≡ before ++ list

abbrev Made : Files → List ℕ → UnreadLines → List (Located Named) → Result ReadSoFar Refused → Type 0
Made files file l before (Ok log) = Adds files file l before log.lines
Made files file l before (Err e) = Unit {0}

blank_made : (files : Files) (file : List ℕ) (l m : UnreadLines) (before : List (Located Named)) (o : Result ReadSoFar Refused) → IsBlankNext files.flat l m →
    Made files file m before o → Made files file l before o
blank_made files file l m before (Ok log) next h = record { own = h.own; list = h.list; owns = r.no_tokens file l m h.own next h.owns; replaces = h.replaces; lines = h.lines }
blank_made files file l m before (Err e) next h = tt

-- behind a marker
same_file_made : (files : Files) (file : List ℕ) (l m : UnreadLines) (n : ℕ) (before : List (Located Named)) (o : Result ReadSoFar Refused) → MarksNext files.flat l m n file →
    Made files file (record m { number = n }) before o → Made files file l before o
same_file_made files file l m n before (Ok log) marks h = record { own = h.own; list = h.list; owns = r.same_file file l m n h.own marks h.owns; replaces = h.replaces; lines = h.lines }
same_file_made files file l m n before (Err e) marks h = tt

other_file_made : (files : Files) (file : List ℕ) (l m : UnreadLines) (n : ℕ) (name : List ℕ) (before : List (Located Named)) (o : Result ReadSoFar Refused) →
    MarksNext files.flat l m n name → same_name name file ≡ false → Made files name (record m { number = n }) before o → Made files file l before o
other_file_made files file l m n name before (Ok log) marks differs h = record {
  own = h.own;
  list = h.list;
  owns = r.other_file file l m n name h.own marks differs h.owns;
  replaces = h.replaces;
  lines = h.lines;
}
other_file_made files file l m n name before (Err e) marks differs h = tt

statement_made : (files : Files) (file : List ℕ) (l m : UnreadLines) (c : LineContext) (before : List (Located Named)) (s : Named) (o : Result ReadSoFar Refused) →
    NextStatement files.flat l m c (Ok s) → is_source s ≡ false → Made files file m (before ++ located file l.number s ∷ []) o → Made files file l before o
statement_made files file l m c before s (Ok log) n plain h = record {
  own = located file l.number s ∷ h.own;
  list = located file l.number s ∷ h.list;
  owns = r.one_more file l m c s h.own n h.owns;
  replaces = r.kept (located file l.number s) h.own h.list plain h.replaces;
  lines = h.lines ∙ append_assoc before (located file l.number s ∷ []) h.list;
}
statement_made files file l m c before s (Err e) n plain h = tt

source_made : (files : Files) (file : List ℕ) (l m : UnreadLines) (c : LineContext) (before : List (Located Named)) (more : ReadSoFar) (name bytes : List ℕ)
    (o : Result ReadSoFar Refused) → NextStatement files.flat l m c (Ok (SourceLine name)) → sourced files name ≡ Some bytes → Adds files name (unread_lines bytes 1) before more.lines →
    Made files file m more.lines o → Made files file l before o
source_made files file l m c before more name bytes (Ok log) n there i h = record {
  own = located file l.number (SourceLine name) ∷ h.own;
  list = i.list ++ h.list;
  owns = r.one_more file l m c (SourceLine name) h.own n h.owns;
  replaces = r.replaced (located file l.number (SourceLine name)) name bytes h.own i.own i.list h.list refl there i.owns i.replaces h.replaces;
  lines = h.lines ∙ ap (λ x. x ++ h.list) i.lines ∙ append_assoc before i.list h.list;
}
source_made files file l m c before more name bytes (Err e) n there i h = tt

made : {files : Files} {at : Reading} {o : Result ReadSoFar Refused} → Rest files at o → Made files at.context.file at.unread at.log.lines o
made (at_end at none closed) = record { own = []; list = []; owns = r.no_line at.context.file at.unread none; replaces = r.nothing; lines = sym (append-nil at.log.lines) }
made (unclosed at line none unmatched) = tt
made (refused at c here) = tt
made {files} (goes_on at next o (blank m n) d) = blank_made files at.context.file at.unread m at.log.lines o n (made d)
made {files} (goes_on at next o (renumbered m n marks) d) = same_file_made files at.context.file at.unread m n at.log.lines o marks (made d)
made {files} (goes_on at next o (moved m n name marks differs) d) =
    other_file_made files at.context.file at.unread m n name at.log.lines o marks differs (made d)
made {files} (goes_on at next o (statement m s n plain f) d) =
    statement_made files at.context.file at.unread m (context_of at.context at.own at.log) at.log.lines s o n plain (made d)
made (refused_inside at f e d) = tt
made {files} (source at f more o d after) =
    source_made files at.context.file at.unread f.after (context_of at.context at.own at.log) at.log.lines more f.name f.bytes o f.next f.found (made d) (made after)

pub expanded_is_list_of : ExpandedIsListOf
expanded_is_list_of files root log h = by (bytes_cause root 0 (files.bytes root)) h
  where
    by : (o : Option Cause) → MatchOption o ((bytes : List ℕ) × (files.bytes root ≡ Some bytes)
        × Rest files (at_root files root bytes) (Ok log)) (λ c. Ok log ≡ Err (refusal_at c root 0)) →
        IsListOf files root log.lines
    by None x =
        let m : Adds files root (unread_lines x.0 1) [] log.lines = made x.2 in
        record { bytes = x.0; there = x.1; own = m.own; owns = m.owns; replaces = subst (λ ls. Replaces files m.own ls) (sym m.lines) m.replaces }
    by (Some c) e = absurd (let f : Ok log ≡ Err (refusal_at c root 0) = e in cc)
