-- For proofs: Lines of a file.
use Rattle.std.specs.Borrow.{Bor}
use Rattle.std.specs.List.{slice_split, suffix_len}
use Rattle.std.specs.Prelude.{List, None, Option, Some, [], codes, length, map, take, ℕ, ◌++◌, ◌-◌, ◌∷◌, ◌≡◌}
use Rattle.kc_language.specs.Expansion.{Files}
use Rattle.kc_language.specs.Lines.{Physical, is_line_feed, physical_lines}
use Rattle.kc_outcome.specs.Explanations.{without_text}
use Rattle.kc_explain.specs.declared.statement_lines.ReadLine.{ReadLine}

-- the lines of the rest of a file
abbrev pub lines_left : Option (List ℕ) → List (List ℕ)
lines_left None = []
lines_left (Some rest) = slice_split is_line_feed rest

-- the lines of a file, or no lines if it does not exist
abbrev pub lines_of : Files → List ℕ → List (List ℕ)
lines_of files file = lines_left (files.bytes file)

-- the same as they are read
abbrev pub read_left : Option (List ℕ) → List Physical
read_left None = []
read_left (Some rest) = physical_lines rest

-- a line as it is read
abbrev pub read_view : ReadLine → Physical
read_view l = record { text = l.text.now; ended = l.ended }

-- the lines from each line on
abbrev pub lines_from_each : List (List ℕ) → List (List (List ℕ))
lines_from_each [] = []
lines_from_each (line ∷ lines) = (line ∷ lines) ∷ lines_from_each lines

-- the rests of a file, of which each begins at the next of these lines
abbrev pub StandAtLines : List (List ℕ) → List (Bor (List ℕ)) → Type 0
StandAtLines lines rests = map (λ r. slice_split is_line_feed r.now) rests ≡ lines_from_each lines

abbrev pub comment : List ℕ → List ℕ
comment line = codes "# " ++ line ++ codes "\n"

-- these lines without those at the end that have no text
abbrev pub with_text : List (List ℕ) → List (List ℕ)
with_text all = take (length all - suffix_len without_text all) all
