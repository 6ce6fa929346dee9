-- For proofs: The results of the checks of many configurations.
use Rattle.std.specs.Prelude.{◌≡◌, ◌<◌, ◌&&◌, ℕ, List, [], Bool, true, false, not, length, take, slice_index_or, string_bytes}
use Rattle.std.specs.List.{flat_map, list_any}
use Rattle.clap.specs.Words.{Text}
use Rattle.kc_words.specs.CommandLine.{IsWrittenTwice, is_among, writes, written_and_read_text, written_twice_text}
use Rattle.kc_words.specs.declared.each.Each.{Each}
use Rattle.kc_words.specs.declared.usage.UsageError.{UsageError}
use Rattle.kc_words.specs.declared.usage.UsageError.TheVariants as usage

-- the table holds the names that the first n configurations write, by `f`; no name is written twice
pub record Holds (f : Text → List Text) (configs : List Text) (n : ℕ) (table : List Text) : Type 0 where
  pub held : (name : Text) → is_among name table ≡ is_among name (flat_map f (take n configs))
  pub once : (k : ℕ) → k < n → (j : ℕ) (name : Text) → j < k → is_among name (f (slice_index_or configs j [])) ≡ true → is_among name (f (slice_index_or configs k [])) ≡ true → ⊥

-- the table holds the names that the configurations write
abbrev pub AreNamesWritten : Each → List Text → List Text → Type 0
AreNamesWritten each configs table = Holds (writes each) configs (length configs) table

-- the table holds none of these names
abbrev pub NoneIsAmong : List Text → List Text → Type 0
NoneIsAmong table names = list_any (λ name. is_among name table) names ≡ false

-- the configuration's own file is in the table, and this configuration does not write it
abbrev pub is_overwritten : Each → List Text → Text → Bool
is_overwritten each table config = is_among config table && not (is_among config (writes each config))

-- out of memory, or the report of a file that two configurations write
abbrev pub IsTwice : Each → List Text → UsageError → Type 0
IsTwice each configs (usage.Help _) = ⊥
IsTwice each configs usage.Version = ⊥
IsTwice each configs (usage.Bad told) = (name : Text) × IsWrittenTwice each configs name × (string_bytes told ≡ written_twice_text name)
IsTwice each configs usage.Memory = Unit {0}

-- out of memory, or the report of a configuration that another one writes
abbrev pub IsOverwrite : Each → List Text → List Text → UsageError → Type 0
IsOverwrite each table configs (usage.Help _) = ⊥
IsOverwrite each table configs usage.Version = ⊥
IsOverwrite each table configs (usage.Bad told) = (i : ℕ) × (i < length configs) × (is_overwritten each table (slice_index_or configs i []) ≡ true)
    × (string_bytes told ≡ written_and_read_text (slice_index_or configs i []))
IsOverwrite each table configs usage.Memory = Unit {0}
