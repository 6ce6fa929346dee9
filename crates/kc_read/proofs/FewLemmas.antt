-- An expanded list has no more lines than there may be physical lines: each statement takes one at least.
use Rattle.std.proofs.{Common.{Bool, Err, List, MatchOption, None, Ok, Option, Result, Some, [], ap, arith, cond, false, length, length-append, nat_le, nat_lt, refl, sym, true, ℕ, ◌++◌, ◌+◌, ◌<◌, ◌∙◌, ◌∷◌, ◌≡◌, ◌≤◌}, lemmas.Bool.Decides.nat_tests}
use Rattle.std.specs.List.{list_any}
use Rattle.kc_language.specs.{Expansion.{Expands, Files, ReadSoFar, Reading, Refused, Rest, at_end, at_root, blank, bytes_cause, goes_on, moved, refusal_at, refused, refused_inside, renumbered, source, sourced, sourcing_cause, statement, unclosed}, Expressions.{mention, same_name}, Lines.{UnreadLines, unread_lines}, Statements.{Cause, Located, Named}, Text.most_lines}
use Rattle.kc_language.specs.declared.diagnostics.Cause.TheVariants as cause
use Rattle.kc_entries.specs.PartsOfExpansion.{lines_of}
use Rattle.kc_text.specs.PartsOfText.{most_files}
use Rattle.kc_read.proofs.RestLemmas.{next_less}

-- a file that may be opened adds no more lines than there may be
few_opened : (name : List ℕ) (n : ℕ) (bytes : List ℕ) → bytes_cause name n (Some bytes) ≡ None → n + lines_of bytes ≤ most_lines
few_opened name n bytes h = by (nat_lt most_lines (n + lines_of bytes)) refl h
  where
    by : (b : Bool) → nat_lt most_lines (n + lines_of bytes) ≡ b → ◌≡◌ {A = Option Cause} (cond b (Some cause.TooManyLines) None) None → n + lines_of bytes ≤ most_lines
    by true e f = absurd cc
    by false e f = grind (arith, nat_tests)

few_sourced : (files : Files) (names : List (List ℕ)) (n : ℕ) (name bytes : List ℕ) → sourcing_cause files names n name ≡ None → sourced files name ≡ Some bytes → n + lines_of bytes ≤ most_lines
few_sourced files names n name bytes h there = by (list_any (same_name name) names) (nat_le most_files (length names)) h
  where
    by : (open_now full : Bool) →
        cond open_now (Some (cause.InclusionLoop name)) (cond full (Some cause.TooDeep) (bytes_cause name n (sourced files name))) ≡ None → n + lines_of bytes ≤ most_lines
    by true full f = absurd cc
    by false true f = absurd cc
    by false false f = few_opened name n bytes (ap (bytes_cause name n) (sym there) ∙ f)

-- What the rest of a file adds: no more lines than are left of it, and than the files have that it opens.
abbrev Adds : ℕ → ReadSoFar → Result ReadSoFar Refused → Type 0
Adds left_lines log (Ok more) = (length more.lines + log.total_lines ≤ length log.lines + left_lines + more.total_lines) × (log.total_lines ≤ most_lines → more.total_lines ≤ most_lines)
Adds left_lines log (Err r) = Unit {0}

later : (m l : ℕ) (log next : ReadSoFar) (r : Result ReadSoFar Refused) → m < l → length next.lines ≤ length log.lines + 1 → next.total_lines ≡ log.total_lines → Adds m next r → Adds l log r
later m l log next (Ok more) less one same h = (omega (arith, h.0), λ few. h.1 (omega arith))
later m l log next (Err r) less one same h = tt

behind : (m l opened n : ℕ) (log more : ReadSoFar) (names : List (List ℕ)) (r : Result ReadSoFar Refused) → m < l → opened ≡ n → (log.total_lines + n ≤ most_lines) →
    Adds opened (record { lines = log.lines; total_lines = log.total_lines + n; opened = names }) (Ok more) → Adds m more r → Adds l log r
behind m l opened n log more names (Ok last) less size few h g = (omega (arith, h.0, g.0), λ _. g.1 (h.1 few))
behind m l opened n log more names (Err r) less size few h g = tt

rest_adds : {files : Files} {at : Reading} {r : Result ReadSoFar Refused} → Rest files at r → Adds (length at.unread.lines) at.log r
rest_adds (at_end at e none) = (omega arith, λ few. few)
rest_adds (unclosed at line e u) = tt
rest_adds (refused at c here) = tt
rest_adds (goes_on at next r (blank m n) rest) =
    later (length m.lines) (length at.unread.lines) at.log at.log r (next_less at.unread m [] None n.0) (omega arith) refl (rest_adds rest)
rest_adds (goes_on at next r (renumbered m n marks) rest) =
    later (length m.lines) (length at.unread.lines) at.log at.log r (next_less at.unread m [] None marks.0) (omega arith) refl (rest_adds rest)
rest_adds (goes_on at next r (moved m n name marks differs) rest) =
    later (length m.lines) (length at.unread.lines) at.log next.log r (next_less at.unread m [] None marks.0) (omega arith) refl (rest_adds rest)
rest_adds (goes_on at next r (statement m s n e f) rest) =
    let added : Located Named = record { file = at.context.file; line = at.unread.number; statement = s } in
    later (length m.lines) (length at.unread.lines) at.log next.log r (next_less at.unread m n.tokens None n.next)
    (omega (arith, length-append at.log.lines (added ∷ []))) refl (rest_adds rest)
rest_adds (refused_inside at f e inner) = tt
rest_adds {files} (source at f more r inner rest) =
    behind (length f.after.lines) (length at.unread.lines) (lines_of f.bytes) (lines_of f.bytes) at.log more (mention at.log.opened f.name) r
    (next_less at.unread f.after f.next.tokens None f.next.next) refl
    (few_sourced files at.context.open_files at.log.total_lines f.name f.bytes f.allowed f.found) (rest_adds inner) (rest_adds rest)

pub expansion_few : (files : Files) (root : List ℕ) (log : ReadSoFar) → Expands files root (Ok log) → length log.lines ≤ most_lines
expansion_few files root log x = by (bytes_cause root 0 (files.bytes root)) refl x
  where
    by : (o : Option Cause) → bytes_cause root 0 (files.bytes root) ≡ o →
        MatchOption o ((bytes : List ℕ) × (files.bytes root ≡ Some bytes) × Rest files (at_root files root bytes) (Ok log))
        (λ c. Ok log ≡ Err (refusal_at c root 0)) → length log.lines ≤ most_lines
    by None none e =
        let few : lines_of e.0 ≤ most_lines = omega (arith, few_opened root 0 e.0 (ap (bytes_cause root 0) (sym e.1) ∙ none)) in
        let h = rest_adds e.2 in
        omega (arith, h.0, h.1 few)
    by (Some c) none e = absurd cc
