-- The parts of a text, line by line.
use Rattle.std.proofs.{Common.{List, None, Option, Some, [], ap, append-nil, append_assoc, arith, codes, drop, false, get_or, inl, inr, length, refl, sym, take, ℕ, ◌++◌, ◌+◌, ◌-◌, ◌∙◌, ◌∷◌, ◌≡◌, ◌≤◌}, Math.Seq.take-add, lemmas.{Bool.{cases_Bool, eqb-true, false_from_ne_true}, List.{Elements.All-from_get_or, Splits.{slice_split-cons_no, slice_split-cons_yes, slice_split_first, slice_split_none}, Sums.position_or_len_is, drop-drop, drop_all, take_all, take_more}}}
use Rattle.std.specs.List.{after_first, before_first, onto_first, position_or_len, slice_split}
use Rattle.bstr.specs.Find.{NoneBefore, Nowhere, Passes, is_byte}
use Rattle.kc_language.specs.Lines.{is_line_feed}
use Rattle.kc_include.specs.{Included.{Includes, Lines, Name, Part, cut_by, included_name, parts_from, parts_of}, PartView.{BeginsWithLine, IsCut, parts_behind, parts_by}}

-- there is a first part
split_form : (bytes : List ℕ) → (part : List ℕ) × (parts : List (List ℕ)) × (slice_split is_line_feed bytes ≡ part ∷ parts)
split_form [] = ([], [], refl)
split_form (b ∷ bytes) = elim (cases_Bool (is_line_feed b)) [
  | inl e ↦ ([], slice_split is_line_feed bytes, slice_split-cons_yes is_line_feed b bytes e)
  | inr e ↦
      let (part, parts, is) = split_form bytes in
      (b ∷ part, parts, slice_split-cons_no is_line_feed b bytes e ∙ ap (onto_first b) is)
]

nothing_named : included_name [] ≡ None
unfolding included_name
nothing_named = refl

-- no line is left
pub parts-end : (first : ℕ) (bytes : List ℕ) (n : ℕ) → parts_by first bytes n [] ≡ Lines first bytes ∷ []
parts-end first bytes n =
    ap (λ o. cut_by o first bytes (Lines first (bytes ++ []) ∷ []) (Lines (n + 1) [] ∷ [])) nothing_named ∙ ap (λ l. Lines first l ∷ []) (append-nil bytes)

-- a line that a line feed ends, and the last one
step_on : (first : ℕ) (bytes : List ℕ) (n : ℕ) (line after part : List ℕ) (parts : List (List ℕ)) (o : Option Name) → slice_split is_line_feed after ≡ part ∷ parts →
    cut_by o first bytes (parts_from first (bytes ++ (line ++ codes "\n")) (n + 1) (part ∷ parts)) (parts_from (n + 1) [] (n + 1) (part ∷ parts))
    ≡ parts_behind first bytes n o (line ++ 10 ∷ []) after
step_on first bytes n line after part parts None is = ap (parts_from first (bytes ++ (line ++ 10 ∷ [])) (n + 1)) (sym is)
step_on first bytes n line after part parts (Some name) is = ap (λ ps. Lines first bytes ∷ Includes name ∷ parts_from (n + 1) [] (n + 1) ps) (sym is)

step_end : (first : ℕ) (bytes : List ℕ) (n : ℕ) (line : List ℕ) (o : Option Name) →
    cut_by o first bytes (Lines first (bytes ++ line) ∷ []) (Lines (n + 1) [] ∷ []) ≡ parts_behind first bytes n o line []
step_end first bytes n line None = sym (parts-end first (bytes ++ line) (n + 1))
step_end first bytes n line (Some name) = ap (λ ps. Lines first bytes ∷ Includes name ∷ ps) (sym (parts-end (n + 1) [] (n + 1)))

pub line-found : (rest : List ℕ) (count : ℕ) → NoneBefore (Passes (is_byte 10) rest) 0 (length rest) count → Passes (is_byte 10) rest count →
    BeginsWithLine rest (take count rest) (count + 1)
line-found rest count none at first bytes n =
    let line = take count rest in
    let after = drop (count + 1) rest in
    let pos : position_or_len is_line_feed rest ≡ count = position_or_len_is is_line_feed rest count 0 (omega (arith, none.high)) (λ k lt. false_from_ne_true _ (none.before k (omega arith) lt)) (λ _. at) in
    let split : slice_split is_line_feed rest ≡ before_first is_line_feed rest ∷ slice_split is_line_feed (after_first is_line_feed rest) = slice_split_first is_line_feed rest 0 (rw pos none.high) in
    let feed : get_or rest count 0 ≡ 10 = eqb-true (get_or rest count 0) 10 at in
    let whole : line ++ 10 ∷ [] ≡ take (count + 1) rest = sym (take_more rest count 0 none.high ∙ ap (λ b. line ++ b ∷ []) feed) in
    let (part, parts, is) = split_form after in
    let cut : slice_split is_line_feed rest ≡ line ∷ part ∷ parts = split ∙ ap (λ k. take k rest ∷ slice_split is_line_feed (drop (k + 1) rest)) pos ∙ ap (λ ps. line ∷ ps) is in
    ap (parts_from first bytes n) cut
    ∙ step_on first bytes n line after part parts (included_name line) is
    ∙ ap (λ t. parts_behind first bytes n (included_name line) t after) whole

pub line-alone : (rest : List ℕ) → Nowhere (Passes (is_byte 10) rest) 0 (length rest) → BeginsWithLine rest rest (length rest)
line-alone rest none first bytes n =
    let split : slice_split is_line_feed rest ≡ rest ∷ [] = slice_split_none is_line_feed rest (All-from_get_or (λ b. is_line_feed b ≡ false) rest 0 (λ k lt. false_from_ne_true _ (none k (omega arith) lt))) in
    ap (parts_from first bytes n) split ∙ step_end first bytes n rest (included_name rest)
    ∙ ap (λ t. parts_behind first bytes n (included_name rest) t []) (sym (take_all (length rest) rest (omega arith)))
    ∙ ap (parts_behind first bytes n (included_name rest) (take (length rest) rest)) (sym (drop_all (length rest) rest (omega arith)))

-- A line that includes no file, and one that does.
module _ (text : List ℕ) (start at whole first n : ℕ) (line : List ℕ) (begins : start ≤ at) (within : whole ≤ length (drop at text))
    (is_line : BeginsWithLine (drop at text) line whole) where
  abbrev so_far : List ℕ
  so_far = take (at - start) (drop start text)

  longer : so_far ++ take whole (drop at text) ≡ take (at + whole - start) (drop start text)
  longer =
      let there : start + (at - start) ≡ at = omega arith in
      let count : (at - start) + whole ≡ at + whole - start = omega arith in
      ap (λ t. so_far ++ take whole t) (sym (ap (λ k. drop k text) there) ∙ sym (drop-drop (at - start) start text))
      ∙ sym (take-add (at - start) whole (drop start text)) ∙ ap (λ k. take k (drop start text)) count

  pub goes-on : included_name line ≡ None → parts_by first so_far n (drop at text) ≡ parts_by first (take (at + whole - start) (drop start text)) (n + 1) (drop (at + whole) text)
  goes-on none =
      is_line first so_far n
      ∙ ap (λ o. parts_behind first so_far n o (take whole (drop at text)) (drop whole (drop at text))) none
      ∙ ap (λ t. parts_by first t (n + 1) (drop whole (drop at text))) longer
      ∙ ap (λ t. parts_by first (take (at + whole - start) (drop start text)) (n + 1) t) (drop-drop whole at text)

  pub breaks : (name : Name) → included_name line ≡ Some name → parts_by first so_far n (drop at text)
      ≡ Lines first so_far ∷ Includes name ∷ parts_by (n + 1) (take (at + whole - (at + whole)) (drop (at + whole) text)) (n + 1) (drop (at + whole) text)
  breaks name some =
      let none : at + whole - (at + whole) ≡ 0 = omega arith in
      is_line first so_far n
      ∙ ap (λ o. parts_behind first so_far n o (take whole (drop at text)) (drop whole (drop at text))) some
      ∙ ap (λ t. Lines first so_far ∷ Includes name ∷ parts_by (n + 1) [] (n + 1) t) (drop-drop whole at text)
      ∙ ap (λ k. Lines first so_far ∷ Includes name ∷ parts_by (n + 1) (take k (drop (at + whole) text)) (n + 1) (drop (at + whole) text)) (sym none)

-- ---- what was cut so far

module _ (text : List ℕ) (parts : List Part) (start first at n whole : ℕ) (line : List ℕ) (is : IsCut text parts start first at n)
    (within : whole ≤ length (drop at text)) (is_line : BeginsWithLine (drop at text) line whole) where
  pub cut-on : included_name line ≡ None → IsCut text parts start first (at + whole) (n + 1)
  cut-on none =
      let begins : start ≤ at = is.begins in
      record {
        begins = omega arith;
        so_far = ap (λ ps. parts ++ ps) (sym (goes-on text start at whole first n line begins within is_line none)) ∙ is.so_far;
      }

  pub cut-there : (name : Name) → included_name line ≡ Some name →
      IsCut text (parts ++ Lines first (take (at - start) (drop start text)) ∷ Includes name ∷ []) (at + whole) (n + 1) (at + whole) (n + 1)
  cut-there name some = record {
    begins = omega arith;
    so_far =
        append_assoc parts (Lines first (take (at - start) (drop start text)) ∷ Includes name ∷ []) _
        ∙ ap (λ ps. parts ++ ps) (sym (breaks text start at whole first n line is.begins within is_line name some)) ∙ is.so_far;
  }

pub cut-none : (text : List ℕ) → IsCut text [] 0 0 0 0
unfolding parts_of
cut-none text = record { begins = omega arith; so_far = refl }

pub cut-whole : (text : List ℕ) (parts : List Part) (start first n : ℕ) → IsCut text parts start first (length text) n →
    parts ++ Lines first (take (length text - start) (drop start text)) ∷ [] ≡ parts_of text
cut-whole text parts start first n is =
    ap (λ ps. parts ++ ps) (sym (parts-end first (take (length text - start) (drop start text)) n))
    ∙ ap (λ rest. parts ++ parts_by first (take (length text - start) (drop start text)) n rest) (sym (drop_all (length text) text (omega arith)))
    ∙ is.so_far
