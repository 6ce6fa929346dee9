-- Trusted: Files in which no line can be a `source` line, as seen without cutting lines into tokens.
use Rattle.std.specs.Prelude.{IsTrue, List, [], length, slice_index, ℕ, ◌++◌, ◌<◌, ◌∷◌, ◌≡◌, ◌⊎◌}
use Rattle.kc_language.specs.{Text.byte, Tokens.is_blank}
use Rattle.kc_entries.specs.PartsOfStatements.{source_word}

-- only blanks
abbrev pub AreAllBlank : List ℕ → Type 0
AreAllBlank bytes = (k : ℕ) → k < length bytes → IsTrue (is_blank (slice_index bytes k))

-- the bytes before the start of a line: none, or the last byte is a line feed
abbrev pub EndsLineBefore : List ℕ → Type 0
EndsLineBefore start = (start ≡ []) ⊎ ((front : List ℕ) × (start ≡ front ++ byte "\n" ∷ []))

-- the bytes before the first byte of a line that is no blank
abbrev pub BeginsLine : List ℕ → Type 0
BeginsLine before = (start blanks : List ℕ) × (before ≡ start ++ blanks) × EndsLineBefore start × AreAllBlank blanks

-- the bytes after the last byte of a line
abbrev pub EndsLine : List ℕ → Type 0
EndsLine after = ((rest : List ℕ) × (after ≡ byte "\n" ∷ rest)) ⊎ ((rest : List ℕ) × (after ≡ byte "\r" ∷ (byte "\n" ∷ rest)))

-- no line begins with `source`
abbrev pub HasNoSource : List ℕ → Type 0
HasNoSource file = (before after : List ℕ) → file ≡ before ++ source_word ++ after → BeginsLine before → ⊥

-- no line ends with a `\`
abbrev pub HasNoJoin : List ℕ → Type 0
HasNoJoin file = (before after : List ℕ) → file ≡ before ++ byte "\\" ∷ after → EndsLine after → ⊥

-- no line ends with a `\`, and none begins with `source`
pub record IsQuiet (file : List ℕ) : Type 0 where
  pub no_source : HasNoSource file
  pub no_join : HasNoJoin file
