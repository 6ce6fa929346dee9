-- A file in which no line begins with the bytes of `source`, and none ends with a `\`, has no `source` line.
use Rattle.std.proofs.{Common.{Bool, List, None, Option, [], ap, append-nil, append_assoc, arith, codes, cond, drop, drop-cons, eqb, false, get_or, get_or-drop, inl, inr, length, length-append, length-drop, refl, subst, suc, sym, take, true, zero, ℕ, ◌&&◌, ◌++◌, ◌+◌, ◌-◌, ◌<◌, ◌∙◌, ◌∷◌, ◌≡◌, ◌≤◌}, Math.Seq.take-append_seam, lemmas.{Bool.{both_ways, cases_Bool, eqb-true}, List.{Splits.join_with_byte-slice_split, take-append-drop}}}
use Rattle.std.specs.{List.{join_with_byte, slice_split}, Prelude.Some, Str.Lines.strip_carriage_return}
use Rattle.bstr.specs.Find.{OccursAt, Passes, is_byte}
use Rattle.kc_language.specs.{Expansion.{IsSource, NextLine, SourceNames, here, none, past, without_help}, Lines.{IsFirstLine, Physical, UnreadLines, after_text, column, continues, from_other, is_help_line, joined_text, lines_of_parts, physical_lines, unread_lines}, Statements.begins_with, Tokens.{AQuoted, AWord, AnOp, IsCut, Lexeme, Spells, ended as cut_ends, skipped, stuck, taken}, declared.tokens.TextFault.TextFault}
use Rattle.kc_text.specs.PartsOfTokens.{IsAtBlank}
use Rattle.kc_text.proofs.Physicals.{lf}
use Rattle.kc_entries.specs.PartsOfExpansion.{is_help}
use Rattle.kc_read.specs.QuietFiles.{AreAllBlank, BeginsLine, EndsLine, EndsLineBefore, HasNoJoin, HasNoSource, IsQuiet}
use Rattle.kc_language.specs.Expansion as spec
use Rattle.kc_read.proofs.FileLemmas.{same_name_eq}

-- ---- What a search that finds something says

front_read : (text bytes : List ℕ) → length bytes ≤ length text → ((j : ℕ) → j < length bytes → get_or text j 0 ≡ get_or bytes j 0) → text ≡ bytes ++ drop (length bytes) text
front_read text [] fits reads = refl
front_read [] (b ∷ bytes) fits reads = absurd (omega arith)
front_read (a ∷ text) (b ∷ bytes) fits reads = λ i. reads 0 (omega arith) i ∷ front_read text bytes (omega arith) (λ j lt. reads (suc j) (omega arith)) i

stands_at : (text bytes : List ℕ) (k : ℕ) → OccursAt text bytes k → text ≡ take k text ++ bytes ++ drop (length bytes) (drop k text)
stands_at text bytes k o =
    let long = length-drop k text in
    let fits = o.fits in
    let front = front_read (drop k text) bytes (omega arith) (λ j lt. get_or-drop k text j 0 ∙ o.reads j lt) in
    sym (take-append-drop k text) ∙ ap (λ l. take k text ++ l) front ∙ sym (append_assoc (take k text) bytes _)

byte_at : (text : List ℕ) (b k : ℕ) → k < length text → get_or text k 0 ≡ b → text ≡ take k text ++ b ∷ drop (k + 1) text
byte_at text b k lt same =
    let next : k + 1 ≡ suc k = omega arith in
    sym (take-append-drop k text) ∙ ap (λ l. take k text ++ l) (drop-cons text k 0 lt ∙ ap (λ x. x ∷ drop (suc k) text) same ∙ ap (λ n. b ∷ drop n text) (sym next))

-- what stands in the rest of a file stands in the file
occurs_whole : (file word : List ℕ) (at k : ℕ) → at ≤ length file → OccursAt (drop at file) word k → OccursAt file word (at + k)
occurs_whole file word at k le o =
    let short = length-drop at file in
    let fits = o.fits in
    let place : (j : ℕ) → at + k + j ≡ at + (k + j) = λ j. omega arith in
    record {
      fits = omega arith;
      reads = λ j lt. ap (λ i. get_or file i 0) (place j) ∙ sym (get_or-drop at file (k + j) 0) ∙ o.reads j lt;
    }

-- a line begins with the word that is found
pub source_found : (file : List ℕ) (at k : ℕ) → at ≤ length file → OccursAt (drop at file) (codes "source") k → BeginsLine (take (at + k) file) → HasNoSource file → ⊥
source_found file at k le o begins quiet = quiet (take (at + k) file) _ (stands_at file (codes "source") (at + k) (occurs_whole file (codes "source") at k le o)) begins

-- a line ends with the backslash that is found
pub backslash_found : (file : List ℕ) (at k : ℕ) → at ≤ length file → k < length (drop at file) → Passes (is_byte 92) (drop at file) k → EndsLine (drop (at + (k + 1)) file) →
    HasNoJoin file → ⊥
backslash_found file at k le lt p ends quiet =
    let short = length-drop at file in
    let next : at + (k + 1) ≡ at + k + 1 = omega arith in
    let same : get_or file (at + k) 0 ≡ 92 = sym (get_or-drop at file k 0) ∙ eqb-true (get_or (drop at file) k 0) 92 p in
    quiet (take (at + k) file) (drop (at + k + 1) file) (byte_at file 92 (at + k) (omega arith) same) (subst (λ n. EndsLine (drop n file)) next ends)

-- ---- The physical lines

-- no more than blanks stand before no `source`
abbrev NoSourceFirst : List ℕ → Type 0
NoSourceFirst text = (blanks after : List ℕ) → text ≡ blanks ++ codes "source" ++ after → AreAllBlank blanks → ⊥

abbrev AreQuiet : List Physical → Type 0
AreQuiet [] = Unit {0}
AreQuiet (l ∷ ls) = ((continues l ≡ false) × NoSourceFirst l.text) × AreQuiet ls

-- what stands before a part of a file, and what stands behind it
no_source_in : (before text after : List ℕ) → EndsLineBefore before → IsQuiet (before ++ text ++ after) → NoSourceFirst text
no_source_in before text after ends q blanks rest e blank =
    q.no_source (before ++ blanks) (rest ++ after) (ap (λ t. before ++ t ++ after) e ∙ simp append_assoc refl) (before, blanks, refl, ends, blank)

last_split : (text : List ℕ) (b : ℕ) → 0 < b → get_or text (length text - 1) 0 ≡ b → (front : List ℕ) × (text ≡ front ++ b ∷ [])
last_split [] b some e = absurd (omega arith)
last_split (c ∷ []) b some e = ([], ap (λ x. x ∷ []) e)
last_split (c ∷ d ∷ text) b some e =
    let place : length (c ∷ d ∷ text) - 1 ≡ suc (length (d ∷ text) - 1) = omega arith in
    let (front, f) = last_split (d ∷ text) b some (rw place at e) in
    (c ∷ front, ap (λ t. c ∷ t) f)

both_or_none : (a : Bool) → (a && false) ≡ false
both_or_none true = refl
both_or_none false = refl

not_joined : (before text after : List ℕ) → EndsLine after → IsQuiet (before ++ text ++ after) → (ended : Bool) → continues (record { text = text; ended = ended }) ≡ false
not_joined before text after ends q ended = elim (cases_Bool (eqb (get_or text (length text - 1) 0) 92)) [
  | inl e ↦
      let (front, f) = last_split text 92 (omega arith) (eqb-true _ 92 e) in
      absurd (q.no_join (before ++ front) after (ap (λ t. before ++ t ++ after) f ∙ simp append_assoc refl) ends)
  | inr e ↦ rw e (both_or_none ended)
]

-- a line's text and the carriage return that was dropped
stripped_split : (text : List ℕ) → (end : List ℕ) × (text ≡ strip_carriage_return text ++ end) × ((rest : List ℕ) → EndsLine (end ++ 10 ∷ rest))
stripped_split text = elim (cases_Bool (eqb (get_or text (length text - 1) 0) 13)) [
  | inl e ↦
      let (front, f) = last_split text 13 (omega arith) (eqb-true _ 13 e) in
      let long : length text - 1 ≡ length front = omega (arith, ap length f, length-append front (13 ∷ [])) in
      let kept : take (length text - 1) text ≡ front = ap (λ n. take n text) long ∙ ap (take (length front)) f ∙ take-append_seam front (13 ∷ []) in
      rw e (13 ∷ [], f ∙ ap (λ t. t ++ 13 ∷ []) (sym kept), λ rest. inr (rest, refl))
  | inr e ↦ rw e ([], sym (append-nil text), λ rest. inl (rest, refl))
]

parts_quiet : (before : List ℕ) (parts : List (List ℕ)) → EndsLineBefore before → IsQuiet (before ++ join_with_byte 10 parts) → AreQuiet (lines_of_parts parts)
parts_quiet before [] ends q = tt
parts_quiet before (x ∷ []) ends q = elim (cases_Bool (eqb (length x) 0)) [
  | inl e ↦ rw e tt
  | inr e ↦ rw e ((refl, no_source_in before x [] ends (subst IsQuiet (sym (append-nil (before ++ x))) q)), tt)
]
parts_quiet before (x ∷ y ∷ more) ends q =
    let rest = join_with_byte 10 (y ∷ more) in
    let whole : IsQuiet (before ++ (x ++ 10 ∷ rest)) = q in
    let (end, split, closes) = stripped_split x in
    let text = strip_carriage_return x in
    let apart : before ++ (x ++ 10 ∷ rest) ≡ before ++ text ++ (end ++ 10 ∷ rest) = ap (λ t. before ++ (t ++ 10 ∷ rest)) split ∙ simp append_assoc refl in
    let own : IsQuiet (before ++ text ++ (end ++ 10 ∷ rest)) = subst IsQuiet apart whole in
    let later : before ++ (x ++ 10 ∷ rest) ≡ (before ++ x ++ 10 ∷ []) ++ rest = simp append_assoc refl in (
      (not_joined before text (end ++ 10 ∷ rest) (closes rest) own true, no_source_in before text (end ++ 10 ∷ rest) ends own),
      parts_quiet (before ++ x ++ 10 ∷ []) (y ∷ more) (inr (before ++ x, refl)) (subst IsQuiet later whole),
    )

file_quiet : (file : List ℕ) → IsQuiet file → AreQuiet (physical_lines file)
unfolding physical_lines
file_quiet file q = parts_quiet [] (slice_split lf file) (inl refl) (subst IsQuiet (sym (join_with_byte-slice_split 10 file)) q)

-- ---- Help lines

other_quiet : (p : Physical → Bool) (ls : List Physical) → AreQuiet ls → AreQuiet (from_other p ls)
other_quiet p [] s = tt
other_quiet p (l ∷ ls) s = elim (cases_Bool (p l)) [
  | inl e ↦ rw e (other_quiet p ls s.1)
  | inr e ↦ rw e s
]

text_quiet : (ls : List Physical) → AreQuiet ls → AreQuiet (after_text ls)
text_quiet [] s = tt
text_quiet (l ∷ ls) s = elim (cases_Bool (eqb (column 0 l.text) 0)) [
  | inl e ↦ rw e s
  | inr e ↦ rw e (other_quiet (is_help_line (Some (column 0 l.text))) (l ∷ ls) s)
]

help_quiet : (b : Bool) (m : UnreadLines) → AreQuiet m.lines → AreQuiet (cond b (without_help m) m).lines
help_quiet true m s = text_quiet (from_other (is_help_line None) m.lines) (other_quiet (is_help_line None) m.lines s)
help_quiet false m s = s

-- ---- The next line

-- one physical line is the next line
first_quiet : (lines front after : List Physical) → AreQuiet lines → IsFirstLine lines front after → NoSourceFirst (joined_text front) × AreQuiet after
first_quiet lines [] after s f = absurd f.joined
first_quiet lines (l ∷ []) after s f =
    let all : AreQuiet (l ∷ after) = subst AreQuiet f.split s in
    let stops : continues l ≡ false = all.0.0 in
    let text : joined_text (l ∷ []) ≡ l.text = rw stops (append-nil l.text) in
    (subst NoSourceFirst (sym text) all.0.1, all.1)
first_quiet lines (l ∷ m ∷ more) after s f =
    let all : AreQuiet (l ∷ m ∷ (more ++ after)) = subst AreQuiet f.split s in
    absurd (both_ways (continues l) all.0.0 f.joined.0)

word_first : (text : List ℕ) (n : ℕ) (x : Lexeme) (xs : List Lexeme) → NoSourceFirst text → Spells (take n text) x → begins_with (codes "source") (x ∷ xs) ≡ true → ⊥
word_first text n (AWord w) xs q spelled b =
    let word : take n text ≡ codes "source" = spelled.0 ∙ same_name_eq w (codes "source") b in
    q [] (drop n text) (sym (take-append-drop n text) ∙ ap (λ t. t ++ drop n text) word) (λ j lt. absurd (omega arith))
word_first text n (AQuoted t) xs q spelled b = absurd cc
word_first text n (AnOp o) xs q spelled b = absurd cc

-- behind a blank
after_blank : (text : List ℕ) → IsAtBlank text → NoSourceFirst text → NoSourceFirst (drop 1 text)
after_blank [] b q = absurd cc
after_blank (c ∷ text) b q = λ blanks after whole all. q (c ∷ blanks) after (ap (λ t. c ∷ t) whole) (all_blank blanks all)
  where
    all_blank : (blanks : List ℕ) → AreAllBlank blanks → AreAllBlank (c ∷ blanks)
    all_blank blanks all zero lt = b
    all_blank blanks all (suc k) lt = all k (omega arith)

no_source_word : {text : List ℕ} {ts : List Lexeme} {out : Option TextFault} → NoSourceFirst text → IsCut text ts out → begins_with (codes "source") ts ≡ true → ⊥
no_source_word q (cut_ends e) b = absurd cc
no_source_word q (stuck s) b = absurd cc
no_source_word {text} q (skipped blank c) b = no_source_word (after_blank text blank q) c b
no_source_word {text} q (taken {n = n} {x = x} {ts = ts} h c) b = word_first text n x ts q h.spelled b

quiet_after : (l m : UnreadLines) (ts : List Lexeme) → AreQuiet l.lines → NextLine false l m ts None → AreQuiet m.lines
quiet_after l m ts s n =
    let after = (first_quiet l.lines n.taken.0 n.middle.lines s n.taken.1).1 in
    subst (λ (k : UnreadLines). AreQuiet k.lines) (sym n.left_after) (help_quiet (is_help ts) n.middle after)

no_source_line : (l m : UnreadLines) (name : List ℕ) → AreQuiet l.lines → IsSource l m name → ⊥
no_source_line l m name s line =
    let (ts, next, begins, reads) = line in
    let text = (first_quiet l.lines next.taken.0 next.middle.lines s next.taken.1).0 in
    no_source_word (subst NoSourceFirst (sym next.taken.2) text) next.cut.cut begins

nothing_passed : (l m n : UnreadLines) (name : List ℕ) → AreQuiet l.lines → spec.Passes l m → IsSource m n name → ⊥
nothing_passed l m n name s (here k) line = no_source_line l n name s line
nothing_passed l m n name s (past k j i o p) line = nothing_passed j m n name (quiet_after l j o.0 s o.1) p line

pub no_names : (file : List ℕ) → IsQuiet file → SourceNames (unread_lines file 1) []
no_names file s = none (unread_lines file 1) (λ m n name p line. nothing_passed (unread_lines file 1) m n name (file_quiet file s) p line)
