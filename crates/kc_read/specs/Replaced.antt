-- Trusted: The expanded list in one sentence: a file's own statements, with the list of the named file in place of each `source`
-- statement.
use Rattle.std.specs.Prelude.{Bool, List, Ok, Some, [], false, ℕ, ◌++◌, ◌∷◌, ◌≡◌}
use Rattle.kc_language.specs.{Expansion.{Expands, Files, IsBlankNext, MarksNext, NextStatement, ReadSoFar, sourced}, Expressions.same_name, Lines.{UnreadLines, unread_lines}, Statements.{LineContext, Located, Named, SourceLine}}
use Rattle.kc_entries.specs.PartsOfExpansion.{is_source}

abbrev pub located : List ℕ → ℕ → Named → Located Named
located file n s = record { file = file; line = n; statement = s }

-- These are a file's own statements from here on, each with its line number. A line without tokens has none. After a marker, the lines have the file
-- and the number that it gives.
pub data Owns (flat : Bool) : List ℕ → UnreadLines → List (Located Named) → Type 0 where
  no_line : (file : List ℕ) (l : UnreadLines) → l.lines ≡ [] → Owns flat file l []
  no_tokens : (file : List ℕ) (l m : UnreadLines) (own : List (Located Named)) → IsBlankNext flat l m → Owns flat file m own → Owns flat file l own
  same_file : (file : List ℕ) (l m : UnreadLines) (n : ℕ) (own : List (Located Named)) → MarksNext flat l m n file → Owns flat file (record m { number = n }) own →
      Owns flat file l own
  other_file : (file : List ℕ) (l m : UnreadLines) (n : ℕ) (name : List ℕ) (own : List (Located Named)) → MarksNext flat l m n name → same_name name file ≡ false →
      Owns flat name (record m { number = n }) own → Owns flat file l own
  one_more : (file : List ℕ) (l m : UnreadLines) (c : LineContext) (s : Named) (own : List (Located Named)) → NextStatement flat l m c (Ok s) → Owns flat file m own →
      Owns flat file l (located file l.number s ∷ own)

-- Each `source` statement is replaced by the statements of the file that it names, after the same replacement there. Each other
-- statement stays.
pub data Replaces (files : Files) : List (Located Named) → List (Located Named) → Type 0 where
  nothing : Replaces files [] []
  kept : (s : Located Named) (own list : List (Located Named)) → is_source s.statement ≡ false → Replaces files own list → Replaces files (s ∷ own) (s ∷ list)
  replaced : (s : Located Named) (name bytes : List ℕ) (own inner inside list : List (Located Named)) → s.statement ≡ SourceLine name →
      sourced files name ≡ Some bytes → Owns files.flat name (unread_lines bytes 1) inner → Replaces files inner inside → Replaces files own list →
      Replaces files (s ∷ own) (inside ++ list)

-- the list of a file
pub record IsListOf (files : Files) (name : List ℕ) (list : List (Located Named)) : Type 0 where
  pub bytes : List ℕ
  pub there : files.bytes name ≡ Some bytes
  pub own : List (Located Named)
  pub owns : Owns files.flat name (unread_lines bytes 1) own
  pub replaces : Replaces files own list

-- a file has at most one list
abbrev pub OneListOf : Type 0
OneListOf = (files : Files) (name : List ℕ) (list other : List (Located Named)) → IsListOf files name list → IsListOf files name other → list ≡ other

-- the expanded list is the list of the root file
abbrev pub ExpandedIsListOf : Type 0
ExpandedIsListOf = (files : Files) (root : List ℕ) (log : ReadSoFar) → Expands files root (Ok log) → IsListOf files root log.lines
