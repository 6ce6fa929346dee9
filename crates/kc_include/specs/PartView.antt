-- Trusted: The meaning of a part in the code, and a step from line to line.
use Rattle.std.specs.{List.slice_split, Prelude.{List, None, Option, Some, [], drop, take, ℕ, ◌++◌, ◌+◌, ◌-◌, ◌∷◌, ◌≡◌, ◌≤◌}}
use Rattle.kc_language.specs.Lines.{is_line_feed}
use Rattle.kc_include.specs.{Included.{Includes, Lines, Name, Part, included_name, parts_from, parts_of}, NameView.name_of, declared.parts.Part.Part as CodePart}
use Rattle.kc_include.specs.declared.parts.Part.TheVariants as code

abbrev pub part_of : CodePart → Part
part_of (code.Lines first bytes) = Lines first bytes.now
part_of (code.Include name) = Includes (name_of name)

-- the parts of the lines of these bytes; the same after a line that includes no file or this one
abbrev pub parts_by : ℕ → List ℕ → ℕ → List ℕ → List Part
parts_by first bytes n rest = parts_from first bytes n (slice_split is_line_feed rest)

abbrev pub parts_behind : ℕ → List ℕ → ℕ → Option Name → List ℕ → List ℕ → List Part
parts_behind first bytes n None taken after = parts_by first (bytes ++ taken) (n + 1) after
parts_behind first bytes n (Some name) taken after = Lines first bytes ∷ Includes name ∷ parts_by (n + 1) [] (n + 1) after

-- This is the first line of the bytes, and it has this many bytes with its line end.
abbrev pub BeginsWithLine : List ℕ → List ℕ → ℕ → Type 0
BeginsWithLine rest line whole = (first : ℕ) (bytes : List ℕ) (n : ℕ) →
    parts_by first bytes n rest ≡ parts_behind first bytes n (included_name line) (take whole rest) (drop whole rest)

-- the parts so far, and those of the current lines and of the remaining lines
pub record IsCut (text : List ℕ) (parts : List Part) (start first at n : ℕ) : Type 0 where
  pub begins : start ≤ at
  pub so_far : parts ++ parts_by first (take (at - start) (drop start text)) n (drop at text) ≡ parts_of text
