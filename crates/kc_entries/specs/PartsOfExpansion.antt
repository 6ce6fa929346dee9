-- Trusted: Parts of the definitions of Expansion, with names of their own.
use Rattle.std.specs.Prelude.{Bool, List, None, Option, Some, [], codes, drop, false, filter, if◌then◌else◌, is_some, length, nat_le, nat_lt, suc, true, zero, ℕ, ◌&&◌, ◌||◌, ◌∷◌, ◌≡◌}
use Rattle.kc_language.specs.{Expansion.{Bracket, Closes, FileContext, Files, NextLine, NoBracket, Opens, ReadSoFar, Reading, bracket, bracket_at, definitions, is_no_attribute, last_of, mentioned_names, open_block_indices, opened, sourcing_cause, stays_open, with_line}, Expressions.{all_mentioned, mention, number_of, same_name}, Lines.{UnreadLines, physical_lines}, Statements.{Cause, Located, Named, Numbered, SourceLine, Statement, begins_with, numbered, statements}, Text.most_symbols, Tokens.Lexeme}
use Rattle.kc_text.specs.PartsOfText.{most_blocks}
use Rattle.kc_language.specs.declared.diagnostics.Cause.TheVariants as cause

module _ {E L S : Type 0} where
  abbrev pub bracket_of : Option (Statement E L S) → Bracket
  bracket_of None = NoBracket
  bracket_of (Some s) = bracket s

  -- whether a block stays open through one more statement and these, if d blocks are open inside it
  abbrev pub stays_after : Bracket → ℕ → List (Statement E L S) → Bool
  stays_after b d ss =
      elim b [ Opens k ↦ stays_open (suc d) ss | Closes ↦ elim d [ zero ↦ false | suc n ↦ stays_open n ss ] | NoBracket ↦ stays_open d ss ]

  -- whether statement j opens a block that is still open after the last statement
  abbrev pub is_open : List (Statement E L S) → ℕ → Bool
  is_open ss j = is_some (opened (bracket_at ss j)) && stays_open 0 (drop (suc j) ss)

  -- whether it is a `source` line
  abbrev pub is_source : Statement E L S → Bool
  is_source s = elim s [ SourceLine t ↦ true | _ ↦ false ]

  -- the last statement that is no attribute
  abbrev pub last_no_attribute : List (Statement E L S) → Option (Statement E L S)
  last_no_attribute ss = last_of (filter is_no_attribute ss)

-- a line with its names numbered
abbrev pub located_numbered : (List ℕ → ℕ) → Located Named → Located Numbered
located_numbered number l = record { file = l.file; line = l.line; statement = numbered number l.statement }

abbrev pub number_line : List Named → Located Named → Located Numbered
number_line ss = located_numbered (number_of (mentioned_names ss))

-- the defined names, in order of their first definition
abbrev pub defined : List Named → List (List ℕ)
defined ss = all_mentioned [] (definitions ss)

abbrev pub nesting_cause : ℕ → Bracket → Option Cause
nesting_cause depth (Opens b) = if nat_le most_blocks depth then Some cause.TooDeep else None
nesting_cause depth Closes = None
nesting_cause depth NoBracket = None

-- there was no `modules` line, or the symbol defined last is the modules symbol
abbrev pub names_match : Option (List ℕ) → Option (List ℕ) → Bool
names_match m n = elim m [ None ↦ true | Some a ↦ elim n [ None ↦ false | Some b ↦ same_name a b ] ]

-- why a name cannot be defined after these names: there are too many
abbrev pub symbol_cause : List (List ℕ) → List ℕ → Option Cause
symbol_cause names n = if nat_lt most_symbols (length (mention names n)) then Some cause.TooManySymbols else None

abbrev pub source_cause : Files → FileContext → ℕ → List ℕ → Option Cause
source_cause files a n name = sourcing_cause files a.open_files n name

-- the index of the line that opens the innermost open block
abbrev pub innermost : List (Located Named) → Option ℕ
innermost own = last_of (open_block_indices (statements own))

-- the number of a file's physical lines
abbrev pub lines_of : List ℕ → ℕ
lines_of bytes = length (physical_lines bytes)

-- a statement is added to the log
abbrev pub logged : ReadSoFar → FileContext → ℕ → Named → ReadSoFar
logged log a n s = record { lines = with_line log.lines a n s; total_lines = log.total_lines; opened = log.opened }

-- the context of the root file: no other file is open
abbrev pub root_context : List ℕ → FileContext
root_context root = record { open_files = root ∷ []; file = root; blocks = [] }

-- the state of reading a file
abbrev pub reading : FileContext → UnreadLines → List (Located Named) → ReadSoFar → Reading
reading a l own log = record { context = a; unread = l; own = own; log = log }

-- whether the line is a `help` line
abbrev pub is_help : List Lexeme → Bool
is_help ts = begins_with (codes "help") ts || begins_with (codes "---help---") ts

-- the next line is no `source` line, and m is left after it
abbrev pub IsOther : UnreadLines → UnreadLines → Type 0
IsOther l m = (ts : List Lexeme) × NextLine false l m ts None × (begins_with (codes "source") ts ≡ false)
