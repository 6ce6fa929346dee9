-- For proofs: Places where definitions begin.
use Rattle.std.specs.List.{list_any}
use Rattle.std.specs.Prelude.{Bool, List, [], if◌then◌else◌, ℕ, ◌&&◌, ◌++◌, ◌==◌, ◌∷◌}
use Rattle.kc_language.specs.Expressions.{same_name}
use Rattle.kc_entries.specs.declared.entries.Entry.{Entry}

-- A place is a line of a file. The place where an entry begins.
pub record Place : Type 0 where
  pub file : List ℕ
  pub line : ℕ

abbrev pub place_of : Entry → Place
place_of first = record { file = first.file.value.items; line = first.line }

-- whether two places are the same; whether the place is in the list; the list with it
abbrev pub is_same : Place → Place → Bool
is_same p q = same_name p.file q.file && (p.line == q.line)

abbrev pub has_place : List Place → Place → Bool
has_place places p = list_any (is_same p) places

abbrev pub with_place : List Place → Place → List Place
with_place places p = if has_place places p then places else places ++ p ∷ []
