-- The lines of a statement in its file.
use Rattle.std.proofs.Common.{◌≡◌, ℕ, zero, suc, List, [], ◌∷◌, ◌++◌, ◌+◌, ◌-◌, Bool, true, false, cond, drop, take, length, refl, ap, sym, ◌∙◌, arith}
use Rattle.std.proofs.Math.Seq.{drop-nil}
use Rattle.std.specs.List.{flat_map}
use Rattle.std.specs.Prelude.{None, Option, Some, ◌==◌}
use Rattle.kc_language.specs.Lines.{Physical, after_help, after_text, continues, from_other, is_help_line, lines_of_parts, physical_lines}
use Rattle.kc_outcome.specs.Explanations.{help_count, joined_count, statement_count}
use Rattle.kc_entries.proofs.PlaceLemmas.{drop-dropped}
use Rattle.kc_text.proofs.Physicals.{lines_at_end}
use Rattle.kc_explain.specs.Excerpts.{excerpt_of}
use Rattle.kc_explain.specs.SourceLines.{comment, lines_left, read_left, with_text}

-- one line more is read
pub one_more : (whole rest more : List Physical) (count : ℕ) (l : Physical) → rest ≡ drop count whole → rest ≡ l ∷ more → more ≡ drop (count + 1) whole
one_more whole rest more count l stands first = sym (drop-dropped whole count l more (sym stands ∙ first))

-- it is joined with the next
pub one_joined : (rest more : List Physical) (count n : ℕ) (l : Physical) → rest ≡ l ∷ more → continues l ≡ true → count + joined_count rest ≡ n →
    count + 1 + joined_count more ≡ n
one_joined rest more count n l first joins counted =
    let e : joined_count rest ≡ suc (joined_count more) = ap joined_count first ∙ ap (λ b. suc (cond b (joined_count more) 0)) joins in
    omega (arith, e, counted)

-- no line is left
pub none_joined : (rest : List ℕ) (count n : ℕ) → length rest ≡ 0 → count + joined_count (physical_lines rest) ≡ n → count ≡ n
none_joined rest count n none counted = omega (arith, counted, ap joined_count (lines_at_end rest none))

-- a help text without a line that has text
pub none_indented : (from : List Physical) (rest : List ℕ) (count : ℕ) → length rest ≡ 0 → physical_lines rest ≡ from_other (is_help_line None) from →
    count + length (physical_lines rest) ≡ length from → count ≡ help_count from
none_indented from rest count none is counted =
    let empty = lines_at_end rest none in
    let behind : length (after_help from) ≡ 0 = ap (λ ls. length (after_text ls)) (sym is ∙ empty) in
    omega (arith, counted, ap length empty, behind)

-- ---- the lines of a definition in its file
read-is : (rest : Option (List ℕ)) → read_left rest ≡ lines_of_parts (lines_left rest)
unfolding physical_lines
read-is None = refl
read-is (Some rest) = refl

parts-behind : (n : ℕ) (parts : List (List ℕ)) → lines_of_parts (drop n parts) ≡ drop n (lines_of_parts parts)
parts-behind zero parts = refl
parts-behind (suc n) [] = refl
parts-behind (suc n) (x ∷ y ∷ more) = parts-behind n (y ∷ more)
parts-behind (suc n) (x ∷ []) = ap lines_of_parts (drop-nil n) ∙ sym (by (length x == 0))
  where
    by : (b : Bool) → drop {A = Physical} (suc n) (cond b [] (record { text = x; ended = false } ∷ [])) ≡ []
    by true = refl
    by false = drop-nil n

-- those before its last statement, and those of that statement
pub definition-shown : (lines before all : List (List ℕ)) (start at : Option (List ℕ)) (first last n : ℕ) (has_text : Bool) →
    lines_left start ≡ drop (first - 1) lines → lines_left at ≡ drop (last - 1) lines → n ≡ statement_count has_text (read_left at) →
    before ≡ take (last - first) (lines_left start) → all ≡ before ++ take n (lines_left at) →
    flat_map comment (with_text all) ≡ excerpt_of lines first last has_text
definition-shown lines before all start at first last n has_text started stands counted fronts is =
    let count : n ≡ statement_count has_text (drop (last - 1) (lines_of_parts lines)) =
    counted ∙ ap (statement_count has_text) (read-is at ∙ ap lines_of_parts stands ∙ parts-behind (last - 1) lines) in
    let front : before ≡ take (last - first) (drop (first - 1) lines) = fronts ∙ ap (take (last - first)) started in
    ap (λ ls. flat_map comment (with_text ls)) (is ∙ (λ i. front i ++ take (count i) (stands i)))
