-- Trusted: How two texts differ, line by line, and how the difference is printed (our own; the format is that of `diff -u`).
use Rattle.std.specs.{Prelude.{◌≡◌, ◌==◌, ◌+◌, ◌-◌, ◌^◌, ◌||◌, ℕ, zero, suc, Bool, true, false, not, List, [], ◌∷◌, ◌++◌, None, Some, codes, count_by, decimal, filter, if◌then◌else◌, length, map, min, nat_le, take}, List.{enumerate_from, flat_map, last_or, list_any, slice_range}}
use Rattle.kc_display.specs.declared.edits.{Edit.Edit, Mark.{Mark, TheVariants.{Kept, Removed, Added}}}

-- ---- The difference
-- The lines of a text, each with the line feed at its end. The last one may have none.
abbrev pub is_line_feed : ℕ → Bool
is_line_feed b = b == 10

abbrev pub put_first : ℕ → List (List ℕ) → List (List ℕ)
put_first b [] = (b ∷ []) ∷ []
put_first b (line ∷ lines) = (b ∷ line) ∷ lines

abbrev pub lines : List ℕ → List (List ℕ)
lines [] = []
lines (b ∷ rest) = if is_line_feed b then (b ∷ []) ∷ lines rest else put_first b (lines rest)

-- A kept line belongs to both texts, a removed one to the old text and an added one to the new text.
abbrev pub is_old : Mark → Bool
is_old Added = false
is_old _ = true

abbrev pub is_new : Mark → Bool
is_new Removed = false
is_new _ = true

abbrev pub is_kept : Mark → Bool
is_kept Kept = true
is_kept _ = false

abbrev pub old_lines : List Edit → List (List ℕ)
old_lines edits = map (λ e. e.line.now) (filter (λ e. is_old e.mark) edits)

abbrev pub new_lines : List Edit → List (List ℕ)
new_lines edits = map (λ e. e.line.now) (filter (λ e. is_new e.mark) edits)

-- The edits turn the old text into the new one: their old lines are all lines of the old text, and their new lines all lines of the new text.
pub record IsDifference (old new : List ℕ) (edits : List Edit) : Type 0 where
  pub old_are : old_lines edits ≡ lines old
  pub new_are : new_lines edits ≡ lines new

-- ---- How it is printed
-- An edit is printed if it, one of the three before it or one of the three after it is a change. Printed edits in a row are a hunk.
abbrev pub is_shown : List Edit → ℕ → Bool
is_shown edits k = list_any (λ e. not (is_kept e.mark)) (slice_range edits (k - 3) (min (k + 4) (length edits)))

abbrev pub starts_hunk : List Edit → ℕ → Bool
starts_hunk edits k = k == 0 || not (is_shown edits (k - 1))

-- The position after the printed edits in a row from k on, of which there are at most n.
abbrev pub hunk_end : List Edit → ℕ → ℕ → ℕ
hunk_end edits zero k = k
hunk_end edits (suc n) k = if is_shown edits k then hunk_end edits n (k + 1) else k

-- The line before a hunk: its first line and its number of lines, in the old text and in the new one.
abbrev pub range_text : ℕ → ℕ → List ℕ
range_text before count = decimal (if count == 0 then before else before + 1) ++ codes "," ++ decimal count

abbrev pub header : List Edit → ℕ → List ℕ
header edits k =
    let before = take k edits in
    let hunk = slice_range edits k (hunk_end edits (length edits - k) k) in
    codes "@@ -" ++ range_text (count_by (λ e. is_old e.mark) before) (count_by (λ e. is_old e.mark) hunk)
    ++ codes " +" ++ range_text (count_by (λ e. is_new e.mark) before) (count_by (λ e. is_new e.mark) hunk) ++ codes " @@"

-- A line with its mark, and whether a line feed ends it.
abbrev pub mark_text : Mark → List ℕ
mark_text Kept = codes " "
mark_text Removed = codes "-"
mark_text Added = codes "+"

abbrev pub is_ended : List ℕ → Bool
is_ended line = elim (last_or None line) [ None ↦ false | Some b ↦ is_line_feed b ]

abbrev pub no_end_text : List ℕ
no_end_text = codes "\\ No newline at end of file"

abbrev pub edit_lines : Edit → List (List ℕ)
edit_lines e = if is_ended e.line.now then (mark_text e.mark ++ take (length e.line.now - 1) e.line.now) ∷ []
    else (mark_text e.mark ++ e.line.now) ∷ no_end_text ∷ []

-- The lines printed for one edit; and all lines printed for the file of this name.
abbrev pub lines_at : List Edit → ℕ → Edit → List (List ℕ)
lines_at edits k e = if is_shown edits k then (if starts_hunk edits k then header edits k ∷ [] else []) ++ edit_lines e else []

abbrev pub shown_lines : List ℕ → List Edit → List (List ℕ)
shown_lines name edits = (codes "--- " ++ name) ∷ (codes "+++ " ++ name ++ codes " (expected)") ∷ flat_map (λ (k, e). lines_at edits k e) (enumerate_from 0 edits)

-- At most 50 lines are printed, then the number of the others. The total is limited to 2^64 - 1.
abbrev pub most_lines : ℕ
most_lines = 50

abbrev pub lines_text : List (List ℕ) → List ℕ
lines_text lines = flat_map (λ line. line ++ codes "\n") lines

abbrev pub more_text : ℕ → List ℕ
more_text count = if nat_le count most_lines then [] else codes "and " ++ decimal (count - most_lines) ++ codes " more lines\n"

abbrev pub page_text : List (List ℕ) → List ℕ
page_text lines = lines_text (take most_lines lines) ++ more_text (min (length lines) (2 ^ 64 - 1))

-- The text shows a difference of the two texts.
abbrev pub ShowsDifference : List ℕ → List ℕ → List ℕ → List ℕ → Type 0
ShowsDifference name old new text = (edits : List Edit) × IsDifference old new edits × (text ≡ page_text (shown_lines name edits))
