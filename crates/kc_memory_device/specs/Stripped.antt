-- For proofs: The rest of bytes after a prefix.
use Rattle.std.specs.Prelude.{List, None, Option, Some, [], if◌then◌else◌, nat_eq, ℕ, ◌∷◌}
use Rattle.kc_io.specs.{Log.Spot, declared.device.{Action.{Action, TheVariants.{Create, Move, Write}}, Site.TheVariants.{Beside, Place}}}

-- the rest of these bytes after that prefix, or nothing if they do not start with it
abbrev pub stripped : List ℕ → List ℕ → Option (List ℕ)
stripped bytes [] = Some bytes
stripped [] (x ∷ xs) = None
stripped (b ∷ bytes) (x ∷ xs) = if nat_eq x b then stripped bytes xs else None

abbrev pub stripped_of : Option (List ℕ) → List ℕ → Option (List ℕ)
stripped_of None written = None
stripped_of (Some bytes) written = stripped bytes written

-- for the file, and for the temporary file beside it
pub record Seen : Type 0 where
  pub held : Option (List ℕ)
  pub beside : Option (List ℕ)

abbrev pub to_come : List ℕ → Option (List ℕ) → Option (List ℕ)
to_come bytes None = None
to_come bytes (Some written) = stripped bytes written

-- the remaining bytes after the content of this file
abbrev pub seen_at : List ℕ → Spot → Seen
seen_at bytes spot = record { held = to_come bytes spot.held; beside = stripped bytes spot.beside }

abbrev pub acted_seen : List ℕ → Action → List ℕ → Seen → Seen
acted_seen bytes (Create Place) written s = record s { held = Some bytes }
acted_seen bytes (Create Beside) written s = record s { beside = Some bytes }
acted_seen bytes (Write Place) written s = record s { held = stripped_of s.held written }
acted_seen bytes (Write Beside) written s = record s { beside = stripped_of s.beside written }
acted_seen bytes Move written s = record s { held = s.beside }
acted_seen bytes _ written s = s
