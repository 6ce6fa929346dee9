-- What a search for lines that begin with `source`, or end with a `\`, says as far as it has come.
use Rattle.std.proofs.{Common.{List, [], ap, append_assoc, arith, codes, drop, eqb, false, get_or, get_or-drop, inl, inr, length, length-append, length-drop, refl, subst, suc, sym, take, true, ℕ, ◌++◌, ◌+◌, ◌-◌, ◌<◌, ◌∙◌, ◌∷◌, ◌≡◌, ◌≤◌}, Math.Seq.{drop-append_seam, get_or-append_seam, take-append_seam, take-length}, lemmas.{Bool.{both_ways, cases_lt, cases_order, eq-eqb}, List.{get_or-append-add, get_or_append_left, take-append-drop, take_more}}}
use Rattle.bstr.specs.{Bytes.not_in, Find.{NoneAfter, Nowhere, OccursAt, Passes, is_byte}}
use Rattle.kc_language.specs.Tokens.{is_blank}
use Rattle.kc_text.proofs.Blanks.{blanks, fails_not, not_in_is, passes_not}
use Rattle.kc_read.specs.QuietFiles.{BeginsLine, EndsLine}

-- what is looked at is the rest of the file
pub rest_whole : (file : List ℕ) (at : ℕ) → take (length file - at) (drop at file) ≡ drop at file
rest_whole file at = ap (λ n. take n (drop at file)) (sym (length-drop at file)) ∙ take-length (drop at file)

-- ---- The word

-- no line begins with `source` before place n
abbrev pub NoSourceBelow : List ℕ → ℕ → Type 0
NoSourceBelow file n = (before after : List ℕ) → file ≡ before ++ codes "source" ++ after → length before < n → BeginsLine before → ⊥

word_at : (file word before after : List ℕ) → file ≡ before ++ word ++ after → (j : ℕ) → j < length word → get_or file (length before + j) 0 ≡ get_or word j 0
word_at file word before after e j lt =
    ap (λ t. get_or t (length before + j) 0) (e ∙ append_assoc before word after) ∙ get_or-append-add before (word ++ after) j 0 ∙ get_or_append_left word after 0 j lt

occurs_in_rest : (file word before after : List ℕ) (at : ℕ) → file ≡ before ++ word ++ after → at ≤ length before → OccursAt (drop at file) word (length before - at)
occurs_in_rest file word before after at e le =
    let many : length file ≡ length before + length word + length after = omega (arith, ap length e, length-append (before ++ word) after, length-append before word) in
    let short = length-drop at file in
    let place : (j : ℕ) → at + (length before - at + j) ≡ length before + j = λ j. omega arith in
    record {
      fits = omega arith;
      reads = λ j lt. get_or-drop at file (length before - at + j) 0 ∙ ap (λ i. get_or file i 0) (place j) ∙ word_at file word before after e j lt;
    }

pub source_passed : (file : List ℕ) (at found : ℕ) → NoSourceBelow file at → Nowhere (OccursAt (drop at file) (codes "source")) 0 found →
    (BeginsLine (take (at + found) file) → ⊥) → NoSourceBelow file (at + found + 1)
source_passed file at found below none here before after e lt line = elim (cases_lt (length before) at) [
  | inl l ↦ below before after e l line
  | inr l ↦ elim (cases_lt (length before) (at + found)) [
    | inl m ↦ none (length before - at) (omega arith) (omega arith) (occurs_in_rest file (codes "source") before after at e l)
    | inr m ↦
        let same : length before ≡ at + found = omega arith in
        let front : take (at + found) file ≡ before = ap (λ n. take n file) (sym same) ∙ ap (take (length before)) (e ∙ append_assoc before (codes "source") after)
        ∙ take-append_seam before (codes "source" ++ after) in
        here (subst BeginsLine (sym front) line)
  ]
]

pub source_nowhere : (file : List ℕ) (at : ℕ) → NoSourceBelow file at → Nowhere (OccursAt (drop at file) (codes "source")) 0 (length (drop at file) + 1) →
    (before after : List ℕ) → file ≡ before ++ codes "source" ++ after → BeginsLine before → ⊥
source_nowhere file at below none before after e line = elim (cases_lt (length before) at) [
  | inl l ↦ below before after e l line
  | inr l ↦
      let o = occurs_in_rest file (codes "source") before after at e l in
      let fits = o.fits in
      none (length before - at) (omega arith) (omega arith) o
]

-- ---- The backslash

-- no line ends with a `\` before place n
abbrev pub NoJoinBelow : List ℕ → ℕ → Type 0
NoJoinBelow file n = (before after : List ℕ) → file ≡ before ++ 92 ∷ after → length before < n → EndsLine after → ⊥

backslash_in_rest : (file before after : List ℕ) (at : ℕ) → file ≡ before ++ 92 ∷ after → at ≤ length before → Passes (is_byte 92) (drop at file) (length before - at)
backslash_in_rest file before after at e le =
    let place : at + (length before - at) ≡ length before = omega arith in
    eq-eqb _ 92 (get_or-drop at file (length before - at) 0 ∙ ap (λ i. get_or file i 0) place ∙ ap (λ t. get_or t (length before) 0) e ∙ get_or-append_seam before 92 after 0)

behind : (before after : List ℕ) (b : ℕ) → drop (length before + 1) (before ++ b ∷ after) ≡ after
behind before after b =
    let long : length (before ++ b ∷ []) ≡ length before + 1 = length-append before (b ∷ []) in
    ap (λ n. drop n (before ++ b ∷ after)) (sym long) ∙ ap (drop (length (before ++ b ∷ []))) (sym (append_assoc before (b ∷ []) after)) ∙ drop-append_seam (before ++ b ∷ []) after

pub join_passed : (file : List ℕ) (at found : ℕ) → NoJoinBelow file at → Nowhere (Passes (is_byte 92) (drop at file)) 0 found →
    (EndsLine (drop (at + (found + 1)) file) → ⊥) → NoJoinBelow file (at + (found + 1))
join_passed file at found below none here before after e lt line = elim (cases_lt (length before) at) [
  | inl l ↦ below before after e l line
  | inr l ↦ elim (cases_lt (length before) (at + found)) [
    | inl m ↦ none (length before - at) (omega arith) (omega arith) (backslash_in_rest file before after at e l)
    | inr m ↦
        let same : at + (found + 1) ≡ length before + 1 = omega arith in
        let rest : drop (at + (found + 1)) file ≡ after = ap (λ n. drop n file) same ∙ ap (drop (length before + 1)) e ∙ behind before after 92 in
        here (subst EndsLine (sym rest) line)
  ]
]

pub join_nowhere : (file : List ℕ) (at : ℕ) → NoJoinBelow file at → Nowhere (Passes (is_byte 92) (drop at file)) 0 (length (drop at file)) →
    (before after : List ℕ) → file ≡ before ++ 92 ∷ after → EndsLine after → ⊥
join_nowhere file at below none before after e line = elim (cases_lt (length before) at) [
  | inl l ↦ below before after e l line
  | inr l ↦
      let many : length file ≡ length before + suc (length after) = omega (arith, ap length e, length-append before (92 ∷ after)) in
      let short = length-drop at file in
      none (length before - at) (omega arith) (omega arith) (backslash_in_rest file before after at e l)
]

-- ---- The beginning of a line

line_feed_is_none : not_in blanks 10 ≡ true
line_feed_is_none = not_in_is 10

pub not_begun : (before : List ℕ) (last : ℕ) → NoneAfter (Passes (not_in blanks) before) 0 (length before) last → Passes (not_in blanks) before last →
    eqb (get_or before last 0) 10 ≡ false → BeginsLine before → ⊥
not_begun before last after here other (start, blank, e, inl none, all) =
    let same : before ≡ blank = e ∙ ap (λ s. s ++ blank) none in
    let high : last < length before = after.high in
    let is : is_blank (get_or blank last 0) ≡ true = all last (omega (arith, ap length same)) in
    both_ways _ (passes_not _ here) (ap (λ t. is_blank (get_or t last 0)) same ∙ is)
not_begun before last after here other (start, blank, e, inr (front, f), all) =
    let high : last < length before = after.high in
    let same : before ≡ front ++ 10 ∷ blank = e ∙ ap (λ s. s ++ blank) f ∙ append_assoc front (10 ∷ []) blank in
    let many : length before ≡ length front + suc (length blank) = omega (arith, ap length same, length-append front (10 ∷ blank)) in
    let seam : get_or before (length front) 0 ≡ 10 = ap (λ t. get_or t (length front) 0) same ∙ get_or-append_seam front 10 blank 0 in
    elim (cases_order last (length front)) [
      | inl m ↦ both_ways _ other (eq-eqb _ 10 (ap (λ k. get_or before k 0) m ∙ seam))
      | inr (inl m) ↦ after.after (length front) (omega arith) (omega arith) (ap (not_in blanks) seam ∙ line_feed_is_none)
      | inr (inr m) ↦
          let place : length front + suc (last - (length front + 1)) ≡ last = omega arith in
          let is : is_blank (get_or blank (last - (length front + 1)) 0) ≡ true = all (last - (length front + 1)) (omega arith) in
          let read : get_or before last 0 ≡ get_or blank (last - (length front + 1)) 0 =
          ap (λ k. get_or before k 0) (sym place) ∙ ap (λ t. get_or t (length front + suc (last - (length front + 1))) 0) same
          ∙ get_or-append-add front (10 ∷ blank) (suc (last - (length front + 1))) 0 in
          both_ways _ (passes_not _ here) (ap is_blank read ∙ is)
    ]

-- nothing but blanks
pub begun_at_first : (before : List ℕ) → Nowhere (Passes (not_in blanks) before) 0 (length before) → BeginsLine before
begun_at_first before none = ([], before, refl, inl refl, λ k lt. fails_not (get_or before k 0) (none k (omega arith) lt))

-- nothing but blanks behind a line feed
pub begun_behind : (before : List ℕ) (last : ℕ) → NoneAfter (Passes (not_in blanks) before) 0 (length before) last → get_or before last 0 ≡ 10 → BeginsLine before
begun_behind before last after feed =
    let high : last < length before = after.high in
    let long = length-drop (last + 1) before in (
      take (last + 1) before,
      drop (last + 1) before,
      sym (take-append-drop (last + 1) before),
      inr (take last before, take_more before last 0 high ∙ ap (λ b. take last before ++ b ∷ []) feed),
      λ k lt.
          ap is_blank (get_or-drop (last + 1) before k 0) ∙ fails_not (get_or before (last + 1 + k) 0) (after.after (last + 1 + k) (omega arith) (omega arith)),
    )
