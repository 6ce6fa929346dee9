-- Trusted: 6. Expansion: the statements of a tree of Kconfig files in the order of reading, or the first error of a line.
-- Source: the kernel's kconfig-language document (`source`, blocks, entries). The limits are our own. Begin with `Expands`.
use Rattle.std.specs.{List.{before_first, filter_map, flat_map, last_or, list_any, take_while}, Map.{lookup}, Prelude.{All, Bool, Err, List, MatchOption, None, Ok, Option, Result, Some, [], codes, drop, false, filter, if◌then◌else◌, is_some, length, map, min, nat_le, nat_lt, option_and_then, slice_get, suc, take, true, zero, ℕ, ◌&&◌, ◌++◌, ◌+◌, ◌-◌, ◌^◌, ◌||◌, ◌∷◌, ◌≡◌, ◌≢◌}}
use Rattle.kc_language.specs.{Expressions.{all_mentioned, mention, number_of, same_name}, Lines.{IsTooLong, TakesLine, UnreadLines, after_help, physical_lines, unread_lines}, Statements.{Cause, ChoiceLine, CommentLine, ConfigLine, EndChoiceLine, EndIfLine, EndMenuLine, IfLine, LineContext, Located, MainMenuLine, MenuLine, ModulesLine, Named, Numbered, ReadsLine, ReadsSource, SourceLine, Statement, begins_with, names_in_statement, numbered, statements}, Text.{byte, most_lines, most_open, most_symbols, natural_of}, Tokens.{IsCutIn, Lexeme}, declared.{statements.{Block.Block, EntryKind.{EntryKind, TheVariants.{Choice, Comment, Config, Menu, Nothing}}}, tokens.TextFault.{TextFault, TheVariants.{BadToken, LineTooLong, Macro, Memory}}}}
use Rattle.kc_language.specs.declared.diagnostics.Cause.TheVariants as cause

-- The bytes of each file that exists, by its name, and whether the root file is flat, that is, holds the whole tree. `bytes_in` searches a list.
pub record Files : Type 0 where
  pub bytes : List ℕ → Option (List ℕ)
  pub flat : Bool

abbrev pub bytes_in : List (List ℕ × List ℕ) → List ℕ → Option (List ℕ)
bytes_in files name = lookup (same_name name) files

-- The bytes of the file that a `source` line names. A flat file sources none.
abbrev pub sourced : Files → List ℕ → Option (List ℕ)
sourced files name = if files.flat then None else files.bytes name

-- The numbers below n, and the last element of a list.
abbrev pub numbers : ℕ → List ℕ
numbers zero = []
numbers (suc n) = numbers n ++ n ∷ []

abbrev pub last_of : {A : Type 0} → List A → Option A
last_of xs = last_or None xs

-- ---- Blocks and entries in a list of statements
-- What a statement does to the blocks.
pub data Bracket : Type 0 where
  Opens : Block → Bracket
  Closes NoBracket : Bracket

abbrev pub opened : Bracket → Option Block
opened b = elim b [ Opens k ↦ Some k | _ ↦ None ]

module _ {E L S : Type 0} where
  -- `if`, `menu` and `choice` open a block.
  abbrev pub bracket : Statement E L S → Bracket
  bracket s = elim s [
    | IfLine e ↦ Opens Block.If
    | MenuLine t ↦ Opens Block.Menu
    | ChoiceLine ↦ Opens Block.Choice
    | EndIfLine ↦ Closes
    | EndMenuLine ↦ Closes
    | EndChoiceLine ↦ Closes
    | _ ↦ NoBracket
  ]

  -- What statement j does to the blocks.
  abbrev pub bracket_at : List (Statement E L S) → ℕ → Bracket
  bracket_at ss j = elim (slice_get ss j) [ None ↦ NoBracket | Some s ↦ bracket s ]

  -- Whether a block stays open through these statements, if d blocks are open inside it at first.
  abbrev pub stays_open : ℕ → List (Statement E L S) → Bool
  stays_open d [] = true
  stays_open d (s ∷ ss) =
      elim (bracket s) [ Opens k ↦ stays_open (suc d) ss | Closes ↦ elim d [ zero ↦ false | suc n ↦ stays_open n ss ] | NoBracket ↦ stays_open d ss ]

  -- The indices of the statements whose blocks are still open after the last statement, the outermost first; and these blocks.
  abbrev pub open_block_indices : List (Statement E L S) → List ℕ
  open_block_indices ss = filter (λ j. is_some (opened (bracket_at ss j)) && stays_open 0 (drop (suc j) ss)) (numbers (length ss))

  abbrev pub open_blocks : List (Statement E L S) → List Block
  open_blocks ss = filter_map (λ j. opened (bracket_at ss j)) (open_block_indices ss)

  -- The indices of the statements whose blocks enclose statement i. A closing line is inside the block that it closes.
  abbrev pub enclosing : List (Statement E L S) → ℕ → List ℕ
  enclosing ss i = open_block_indices (take i ss)

  -- An attribute is no line of a block and no `config`, `comment`, `source` or `mainmenu` line. It belongs to the entry before it. `attributes`: all of entry j.
  abbrev pub is_attribute : Statement E L S → Bool
  is_attribute s =
      elim (bracket s) [ NoBracket ↦ elim s [ ConfigLine n ↦ false | CommentLine t ↦ false | SourceLine t ↦ false | MainMenuLine t ↦ false | _ ↦ true ] | _ ↦ false ]

  abbrev pub is_no_attribute : Statement E L S → Bool
  is_no_attribute s = if is_attribute s then false else true

  abbrev pub attributes : List (Statement E L S) → ℕ → List (Statement E L S)
  attributes ss j = take_while is_attribute (drop (suc j) ss)

  -- The kind of entry that an attribute would belong to, after this last statement that is no attribute.
  abbrev pub entry_of : Option (Statement E L S) → EntryKind
  entry_of = elim [ Some (ConfigLine n) ↦ Config | Some ChoiceLine ↦ Choice | Some (MenuLine t) ↦ Menu | Some (CommentLine t) ↦ Comment | _ ↦ Nothing ]

  -- The names of the `config` lines, in order.
  abbrev pub defined_name : Statement E L S → Option S
  defined_name s = elim s [ ConfigLine n ↦ Some n | _ ↦ None ]

  abbrev pub definitions : List (Statement E L S) → List S
  definitions = filter_map defined_name

  -- The name of the modules symbol: that of the last `config` line before the first `modules` line.
  abbrev pub is_modules : Statement E L S → Bool
  is_modules s = elim s [ ModulesLine ↦ true | _ ↦ false ]

  abbrev pub modules_of : List (Statement E L S) → Option S
  modules_of ss = if list_any is_modules ss then last_of (definitions (before_first is_modules ss)) else None

-- The names of a tree, each once, in the order of their first mention, and its lines with each name as its number in that order.
abbrev pub mentioned_names : List Named → List (List ℕ)
mentioned_names ss = all_mentioned [] (flat_map names_in_statement ss)

abbrev pub numbered_lines : List (Located Named) → List (Located Numbered)
numbered_lines ls = map (λ l. record { file = l.file; line = l.line; statement = numbered (number_of (mentioned_names (statements ls))) l.statement }) ls

-- ---- What a line is read with
-- An error with its file and line. A dependency loop has no location.
pub record Refused : Type 0 where
  pub cause : Cause
  pub location : Option (List ℕ × ℕ)

abbrev pub refusal_at : Cause → List ℕ → ℕ → Refused
refusal_at c file line = record { cause = c; location = Some (file, line) }

-- The context of a file: the open files, of which it is the last, and the blocks that are open in the files that source it.
pub record FileContext : Type 0 where
  pub open_files : List (List ℕ)
  pub file : List ℕ
  pub blocks : List Block

-- What was read of all files: their statements, the number of their physical lines, and the names of the files, each once, in the order of opening.
pub record ReadSoFar : Type 0 where
  pub lines : List (Located Named)
  pub total_lines : ℕ
  pub opened : List (List ℕ)

-- The next line may be a `modules` line: there was none before, or the symbol defined last is the modules symbol.
abbrev pub may_be_modules : List Named → Bool
may_be_modules ss = elim (modules_of ss) [ None ↦ true | Some n ↦ elim (last_of (definitions ss)) [ None ↦ false | Some m ↦ same_name n m ] ]

-- The context of a file's next line. `own` are the file's statements so far.
abbrev pub is_choice_block : Block → Bool
is_choice_block b = elim b [ Block.Choice ↦ true | _ ↦ false ]

abbrev pub context_of : FileContext → List (Located Named) → ReadSoFar → LineContext
context_of a own log = record {
  entry = entry_of (last_of (filter is_no_attribute (statements own)));
  own = last_of (open_blocks (statements own));
  in_choice = list_any is_choice_block a.blocks || list_any is_choice_block (open_blocks (statements own));
  modules = may_be_modules (statements log.lines);
}

-- The limit that this statement exceeds: too many symbols are defined (E16), or too many blocks are open (E12).
abbrev pub limit_cause : FileContext → List (Located Named) → ReadSoFar → Named → Option Cause
limit_cause a own log (ConfigLine n) =
    if nat_lt most_symbols (length (mention (all_mentioned [] (definitions (statements log.lines))) n)) then Some cause.TooManySymbols else None
limit_cause a own log s =
    option_and_then (λ b. if nat_le most_open (length a.blocks + length (open_blocks (statements own))) then Some cause.TooDeep else None) (opened (bracket s))

-- Why a file cannot be opened after n physical lines were read: it does not exist (E1), or the lines are too many (E3).
abbrev pub bytes_cause : List ℕ → ℕ → Option (List ℕ) → Option Cause
bytes_cause name n None = Some (cause.NoFile name)
bytes_cause name n (Some bytes) = if nat_lt most_lines (n + length (physical_lines bytes)) then Some cause.TooManyLines else None

-- Why a file cannot be sourced while these files are open: it is one of them (E2), they are too many (E12), or it cannot be opened.
abbrev pub sourcing_cause : Files → List (List ℕ) → ℕ → List ℕ → Option Cause
sourcing_cause files names n name = if list_any (same_name name) names then Some (cause.InclusionLoop name)
    else if nat_le most_open (length names) then Some cause.TooDeep else bytes_cause name n (sourced files name)

-- The context of a sourced file, and the log once the file is opened.
abbrev pub inside : FileContext → List (Located Named) → List ℕ → FileContext
inside a own name = record { open_files = a.open_files ++ name ∷ []; file = name; blocks = a.blocks ++ open_blocks (statements own) }

abbrev pub with_file : ReadSoFar → List ℕ → List ℕ → ReadSoFar
with_file log name bytes = record log { total_lines = log.total_lines + length (physical_lines bytes); opened = mention log.opened name }

-- A statement of the file is added to lines.
abbrev pub with_line : List (Located Named) → FileContext → ℕ → Named → List (Located Named)
with_line ls a n s = ls ++ record { file = a.file; line = n; statement = s } ∷ []

-- ---- The next line
-- The lines of the help text are skipped.
abbrev pub without_help : UnreadLines → UnreadLines
without_help l = record l { lines = after_help l.lines; number = min (l.number + (length l.lines - length (after_help l.lines))) (2 ^ 32 - 1) }

-- The next logical line of l is cut into these tokens, up to a position that cannot be cut if `out` is a fault. m is left after it and its help text.
pub record NextLine (flat : Bool) (l m : UnreadLines) (ts : List Lexeme) (out : Option TextFault) : Type 0 where
  pub middle : UnreadLines
  pub text : List ℕ
  pub taken : TakesLine l middle text
  pub cut : IsCutIn flat text ts out
  pub left_after : m ≡ (if begins_with (codes "help") ts || begins_with (codes "---help---") ts then without_help middle else middle)

-- A marker `# 27 "drivers/net/Kconfig"` gives the next line's file and number. `MarksNext`: the next line is a marker. `IsBlankNext`: it is blank and no marker.
abbrev pub IsMarker : List ℕ → ℕ → List ℕ → Type 0
IsMarker text n name = (digits : List ℕ) × (text ≡ codes "# " ++ digits ++ codes " \"" ++ name ++ codes "\"") × (natural_of 10 (2 ^ 32) digits ≡ Some n)
    × All (λ b. b ≢ byte "\"") name

abbrev pub MarksNext : Bool → UnreadLines → UnreadLines → ℕ → List ℕ → Type 0
MarksNext flat l m n name = (x : NextLine flat l m [] None) × (flat ≡ true) × IsMarker x.text n name

abbrev pub IsBlankNext : Bool → UnreadLines → UnreadLines → Type 0
IsBlankNext flat l m = (x : NextLine flat l m [] None) × (flat ≡ true → (n : ℕ) (name : List ℕ) → IsMarker x.text n name → ⊥)

-- The next line has tokens, and reads as s.
pub record NextStatement (flat : Bool) (l m : UnreadLines) (c : LineContext) (s : Result Named Cause) : Type 0 where
  pub tokens : List Lexeme
  pub some : tokens ≢ []
  pub next : NextLine flat l m tokens None
  pub reads : ReadsLine c tokens s

-- The error of a line that cannot be cut into tokens.
abbrev pub text_cause : TextFault → Cause
text_cause = elim [ Macro ↦ cause.Macro | BadToken ↦ cause.BadToken | LineTooLong n ↦ cause.LineTooLong | Memory ↦ cause.Memory ]

-- A block is open at the end of a file. This line opened the innermost one.
abbrev pub IsUnclosed : List (Located Named) → Located Named → Type 0
IsUnclosed own opener = (j : ℕ) × (last_of (open_block_indices (statements own)) ≡ Some j) × (slice_get own j ≡ Some opener)

-- ---- A whole file
-- The state of reading a file: its context, what is unread of it, its statements so far, and what was read of all files.
pub record Reading : Type 0 where
  pub context : FileContext
  pub unread : UnreadLines
  pub own : List (Located Named)
  pub log : ReadSoFar

-- The next line is read as s, and m is left after it.
abbrev pub Says : Files → Reading → UnreadLines → Result Named Cause → Type 0
Says files at m s = NextStatement files.flat at.unread m (context_of at.context at.own at.log) s

abbrev pub limit_at : Reading → Named → Option Cause
limit_at at s = limit_cause at.context at.own at.log s

abbrev pub source_fault : Files → Reading → List ℕ → Option Cause
source_fault files at name = sourcing_cause files at.context.open_files at.log.total_lines name

-- The next line has an error with this cause.
pub data IsRefusedHere (files : Files) (at : Reading) : Cause → Type 0 where
  too_long : IsTooLong at.unread → IsRefusedHere files at cause.LineTooLong
  no_tokens : (m : UnreadLines) (ts : List Lexeme) (why : TextFault) → NextLine files.flat at.unread m ts (Some why) → IsRefusedHere files at (text_cause why)
  bad_line : (m : UnreadLines) (c : Cause) → Says files at m (Err c) → IsRefusedHere files at c
  over_limit : (m : UnreadLines) (s : Named) (c : Cause) → Says files at m (Ok s) → limit_at at s ≡ Some c → IsRefusedHere files at c
  bad_source : (m : UnreadLines) (name : List ℕ) (c : Cause) → Says files at m (Ok (SourceLine name)) → source_fault files at name ≡ Some c → IsRefusedHere files at c

-- A statement that is no `source` line is read, and m is left after it.
abbrev pub with_statement : Reading → UnreadLines → Named → Reading
with_statement at m s = record at {
  unread = m;
  own = with_line at.own at.context at.unread.number s;
  log = record at.log { lines = with_line at.log.lines at.context at.unread.number s };
}

-- A marker says that line n of this file follows. It acts like a `source` line whose file's lines follow here.
abbrev pub moved_to : Reading → UnreadLines → ℕ → List ℕ → Reading
moved_to at m n name = record {
  context = record at.context { file = name };
  unread = record m { number = n };
  own = with_line at.own at.context at.unread.number (SourceLine name);
  log = record at.log { opened = mention at.log.opened name };
}

-- The next line is read and opens no file; the second state is the one after it. A marker of the same file changes only the line number.
pub data GoesOn (files : Files) (at : Reading) : Reading → Type 0 where
  blank : (m : UnreadLines) → IsBlankNext files.flat at.unread m → GoesOn files at (record at { unread = m })
  renumbered : (m : UnreadLines) (n : ℕ) → MarksNext files.flat at.unread m n at.context.file → GoesOn files at (record at { unread = record m { number = n } })
  moved : (m : UnreadLines) (n : ℕ) (name : List ℕ) → MarksNext files.flat at.unread m n name → same_name name at.context.file ≡ false →
      GoesOn files at (moved_to at m n name)
  statement : (m : UnreadLines) (s : Named) → Says files at m (Ok s) → elim s [ SourceLine t ↦ true | _ ↦ false ] ≡ false → limit_at at s ≡ None →
      GoesOn files at (with_statement at m s)

-- The next line is a `source` line, and its file is opened. The state in that file; the state after the line, if `more` was read by the end of that file.
pub record OpensFile (files : Files) (at : Reading) : Type 0 where
  pub after : UnreadLines
  pub name : List ℕ
  pub bytes : List ℕ
  pub next : Says files at after (Ok (SourceLine name))
  pub allowed : source_fault files at name ≡ None
  pub found : sourced files name ≡ Some bytes

abbrev pub in_file : {files : Files} (at : Reading) → OpensFile files at → Reading
in_file at f = record { context = inside at.context at.own f.name; unread = unread_lines f.bytes 1; own = []; log = with_file at.log f.name f.bytes }

abbrev pub after_file : {files : Files} (at : Reading) → OpensFile files at → ReadSoFar → Reading
after_file at f more = record at { unread = f.after; own = with_line at.own at.context at.unread.number (SourceLine f.name); log = more }

-- The result of the rest of a file: what was read up to its end, or the first error.
pub data Rest (files : Files) : Reading → Result ReadSoFar Refused → Type 0 where
  at_end : (at : Reading) → at.unread.lines ≡ [] → open_blocks (statements at.own) ≡ [] → Rest files at (Ok at.log)
  unclosed : (at : Reading) (opener : Located Named) → at.unread.lines ≡ [] → IsUnclosed at.own opener →
      Rest files at (Err (refusal_at cause.Block opener.file opener.line))
  refused : (at : Reading) (c : Cause) → IsRefusedHere files at c → Rest files at (Err (refusal_at c at.context.file at.unread.number))
  goes_on : (at next : Reading) (r : Result ReadSoFar Refused) → GoesOn files at next → Rest files next r → Rest files at r
  refused_inside : (at : Reading) (f : OpensFile files at) (e : Refused) → Rest files (in_file at f) (Err e) → Rest files at (Err e)
  source : (at : Reading) (f : OpensFile files at) (more : ReadSoFar) (r : Result ReadSoFar Refused) → Rest files (in_file at f) (Ok more) →
      Rest files (after_file at f more) r → Rest files at r

-- The root file expands to this log or to the first error. At first no other file is open. In a flat tree only the files of markers count as opened.
abbrev pub first_log : Files → List ℕ → List ℕ → ReadSoFar
first_log files root bytes = record { lines = []; total_lines = length (physical_lines bytes); opened = if files.flat then [] else root ∷ [] }

abbrev pub at_root : Files → List ℕ → List ℕ → Reading
at_root files root bytes = record {
  context = record { open_files = root ∷ []; file = root; blocks = [] };
  unread = unread_lines bytes 1;
  own = [];
  log = first_log files root bytes;
}

abbrev pub Expands : Files → List ℕ → Result ReadSoFar Refused → Type 0
Expands files root r = MatchOption (bytes_cause root 0 (files.bytes root))
    ((bytes : List ℕ) × (files.bytes root ≡ Some bytes) × Rest files (at_root files root bytes) r)
    (λ c. r ≡ Err (refusal_at c root 0))

-- If the root file is accepted, these are the files that it opens, each once, in the order of first opening.
abbrev pub AreOpened : Files → List ℕ → List (List ℕ) → Type 0
AreOpened files root names = (log : ReadSoFar) → Expands files root (Ok log) → names ≡ log.opened

-- ---- The files that one file names, if it is read alone and is not flat
-- The next line is a `source` line with this name. After it m is left.
abbrev pub IsSource : UnreadLines → UnreadLines → List ℕ → Type 0
IsSource l m name = (ts : List Lexeme) × NextLine false l m ts None × (begins_with (codes "source") ts ≡ true) × ReadsSource (drop 1 ts) (Ok (SourceLine name))

-- Each line from l to m can be cut and is no `source` line.
pub data Passes : UnreadLines → UnreadLines → Type 0 where
  here : (l : UnreadLines) → Passes l l
  past : (l m n : UnreadLines) → (ts : List Lexeme) × NextLine false l m ts None × (begins_with (codes "source") ts ≡ false) → Passes m n → Passes l n

-- The names of the `source` lines, in order, up to a line that is too long or cannot be cut, or a `source` line that is refused.
pub data SourceNames : UnreadLines → List (List ℕ) → Type 0 where
  none : (l : UnreadLines) → ((m n : UnreadLines) (name : List ℕ) → Passes l m → IsSource m n name → ⊥) → SourceNames l []
  next : (l m n : UnreadLines) (name : List ℕ) (names : List (List ℕ)) → Passes l m → IsSource m n name → SourceNames n names → SourceNames l (name ∷ names)
