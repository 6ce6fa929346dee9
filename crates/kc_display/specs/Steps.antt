-- For proofs: The steps of finding edits.
use Rattle.std.specs.Prelude.{List, [], if◌then◌else◌, length, ℕ, ◌++◌, ◌<◌, ◌∷◌, ◌≡◌}
use Rattle.kc_display.specs.{Difference.{is_new, is_old, lines, new_lines, old_lines}, declared.edits.{Edit.Edit, Mark.Mark}}

-- the first line of a text, and the rest
pub record IsFirstLine (text line rest : List ℕ) : Type 0 where
  pub lines_are : lines text ≡ line ∷ lines rest
  pub shorter : length rest < length text

-- lines with this mark were added
pub record Adds (mark : Mark) (added : List (List ℕ)) (old new : List Edit) : Type 0 where
  pub old_are : old_lines new ≡ old_lines old ++ (if is_old mark then added else [])
  pub new_are : new_lines new ≡ new_lines old ++ (if is_new mark then added else [])

-- these lines were removed from both texts
pub record Takes (old_taken new_taken : List (List ℕ)) (before after : List Edit) : Type 0 where
  pub old_are : old_lines after ≡ old_lines before ++ old_taken
  pub new_are : new_lines after ≡ new_lines before ++ new_taken
