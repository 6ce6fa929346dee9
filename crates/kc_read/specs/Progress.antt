-- For proofs: The state of the reader of files.
use Rattle.std.specs.{List.{filter_map, flat_map, list_any}, Option.option_or, Prelude.{Bool, Err, List, None, Ok, Option, Result, Some, [], false, if◌then◌else◌, is_some, length, map, nat_lt, option_map, slice_get, take, true, ℕ, ⊤, ◌++◌, ◌+◌, ◌-◌, ◌<◌, ◌||◌, ◌∷◌, ◌≡◌, ◌≢◌, ◌≤◌}, declared.{alloc.Global.Global, rc.Rc.Rc, vec.Vec.Vec}}
use Rattle.kc_language.specs.{Expansion.{Bracket, Closes, FileContext, Files, NoBracket, Opens, ReadSoFar, Refused, Rest, bracket, defined_name, definitions, entry_of, goes_on, is_attribute, is_choice_block, is_modules, last_of, modules_of, open_block_indices, opened, refusal_at, statement}, Expressions.{all_mentioned, mention, same_symbol}, Lines.UnreadLines, Statements.{Cause, LineContext, Located, Named, Numbered, Statement, is_config, names_in_statement, statements}, Text.{most_lines, most_symbols}, declared.{expressions.SymId.SymId, statements.{Block.Block, EntryKind.EntryKind}}}
use Rattle.kc_text.specs.PartsOfText.{most_blocks, most_files}
use Rattle.kc_expr.specs.PartsOfSymbols.{added}
use Rattle.kc_read.specs.{Expanded.{AreNumbers, IsNamed}, RefusalView.refusal_view, declared.{frame.Frame.Frame, progress.Progress.Progress, refusal.Refusal.Refusal}}
use Rattle.kc_language.specs.declared.diagnostics.Cause.TheVariants as cause
use Rattle.kc_language.specs.declared.statements.EntryKind.TheVariants as entry
use Rattle.kc_entries.specs.{Entries.{IsLastFile, lines_in}, PartsOfExpansion.{defined, last_no_attribute, located_numbered, nesting_cause, reading, symbol_cause}, PartsOfStatements.is_entry, StatementViews.ForLater, declared.statement.OpenBlock.OpenBlock}

-- the last defined name after one more statement
abbrev pub name_after : {E L S : Type 0} → Option S → Statement E L S → Option S
name_after now s = option_or (defined_name s) now

-- an open block, with the file and line that opened it
pub record Opener : Type 0 where
  pub block : Block
  pub file : List ℕ
  pub line : ℕ

-- the block that the line opens, if it opens one
abbrev pub open_block_of : Option (Located Named) → Option Opener
open_block_of None = None
open_block_of (Some l) = option_map (λ b. record { block = b; file = l.file; line = l.line }) (opened (bracket l.statement))

-- the blocks that are open after these lines, each with the line that opened it, the outermost first
abbrev pub located_blocks : List (Located Named) → List Opener
located_blocks ls = filter_map (λ j. open_block_of (slice_get ls j)) (open_block_indices (statements ls))

abbrev pub is_closer : Bracket → Bool
is_closer (Opens b) = false
is_closer Closes = true
is_closer NoBracket = false

-- the open blocks after one more line
abbrev pub open_blocks_after : Bracket → List ℕ → ℕ → List Opener → List Opener
open_blocks_after (Opens b) file n bs = bs ++ record { block = b; file = file; line = n } ∷ []
open_blocks_after Closes file n bs = take (length bs - 1) bs
open_blocks_after NoBracket file n bs = bs

-- the open blocks in the state of a file's reader
abbrev pub opener_of : OpenBlock → Opener
opener_of o = record { block = o.block; file = o.file.value.items; line = o.line }

abbrev pub openers : Frame → List Opener
openers f = map opener_of f.blocks.items

-- the kind of the current entry after one more statement
abbrev pub entry_after : {E L S : Type 0} → EntryKind → Statement E L S → EntryKind
entry_after now s = if is_attribute s then now else entry_of (Some s)

-- the number of open blocks is within the limit
abbrev pub IsShallow : Frame → Type 0
IsShallow f = f.depth + length f.blocks.items ≤ most_blocks

-- the state of a file's reader; own are the file's statements so far
pub record IsFrame (a : FileContext) (own : List (Located Named)) (f : Frame) : Type 0 where
  pub file : f.file.value.items ≡ a.file
  pub depth : f.depth ≡ length a.blocks
  pub in_choice : f.in_choice ≡ list_any is_choice_block a.blocks
  pub blocks : openers f ≡ located_blocks own
  pub entry : f.entry ≡ entry_of (last_no_attribute (statements own))

-- whether both are the same symbol, or there is no first symbol
abbrev pub ids_match : Option SymId → Option SymId → Bool
ids_match None now = true
ids_match (Some i) None = false
ids_match (Some i) (Some j) = same_symbol i j

-- the context of the next line of a file
abbrev pub context_in : Frame → Progress → LineContext
context_in f p = record {
  entry = f.entry;
  own = option_map (λ o. o.block) (last_of f.blocks.items);
  in_choice = f.in_choice || list_any (λ o. is_choice_block o.block) f.blocks.items;
  modules = ids_match p.modules p.config;
}

-- the state that all files share; `first` are the names before, and `names` those now
pub record IsProgress (first : List (List ℕ)) (names : List (List ℕ)) (log : ReadSoFar) (p : Progress) : Type 0 where
  pub lines : ForLater names (λ number. lines_in p.entries ≡ map (located_numbered number) log.lines)
  pub mentions : names ≡ all_mentioned first (flat_map names_in_statement (statements log.lines))
  pub total_lines : p.total_lines ≡ log.total_lines
  pub opened : p.opened ≡ log.opened
  pub defined_is : AreNumbers names p.defined (defined (statements log.lines))
  pub config : IsNamed names p.config (last_of (definitions (statements log.lines)))
  pub modules_is : IsNamed names p.modules (modules_of (statements log.lines))
  -- each `modules` line is in the entry of a symbol
  pub marked : is_some (modules_of (statements log.lines)) ≡ list_any is_modules (statements log.lines)

abbrev pub open_names : Progress → List (List ℕ)
open_names p = map (λ f. f.value.items) p.open_files.items

pub record IsState (first : List (List ℕ)) (names : List (List ℕ)) (a : FileContext) (own : List (Located Named)) (log : ReadSoFar) (p : Progress) (f : Frame) : Type 0 where
  pub progress : IsProgress first names log p
  pub frame : IsFrame a own f
  pub files : open_names p ≡ a.open_files
  -- in the entry of a `config` line some symbol is defined
  pub entered : is_config (entry_of (last_no_attribute (statements own))) ≡ true → is_some (last_of (definitions (statements log.lines))) ≡ true
  -- the current entry is the last one
  pub goes_on : is_entry (entry_of (last_no_attribute (statements own))) ≡ true → IsLastFile p.entries a.file

-- the number of defined symbols is within the limit
abbrev pub HasSymbolsWithin : Progress → Type 0
HasSymbolsWithin p = length p.defined ≤ most_symbols

-- the numbers of physical lines, symbols and open files are within their limits
pub record IsBounded (p : Progress) : Type 0 where
  pub lines : p.total_lines ≤ most_lines
  pub symbols : HasSymbolsWithin p
  pub files : length p.open_files.items ≤ most_files

-- the line that begins an entry is taken: it may open or close a block, and the current entry changes
abbrev pub IsTurned : {E L S : Type 0} → Statement E L S → ℕ → Frame → Frame → Type 0
IsTurned s line old new = (openers new ≡ open_blocks_after (bracket s) old.file.value.items line (openers old)) × (new.entry ≡ entry_of (Some s))

-- all limits hold in this state
abbrev pub AreWithinLimits : Frame → Progress → Type 0
AreWithinLimits f p = IsShallow f × IsBounded p

-- one more file may be opened if this is then the number of physical lines
abbrev pub MayEnter : ℕ → Progress → Type 0
MayEnter total_lines p = (total_lines ≤ most_lines) × (length p.open_files.items < most_files)

-- reading is back in a file: the same files are open as before, and the limits hold
abbrev pub IsBack : Progress → Frame → Progress → Type 0
IsBack old f new = (new.open_files.items ≡ old.open_files.items) × AreWithinLimits f new

-- a line is taken from the unread lines, and there is no error
abbrev pub IsLineTaken : UnreadLines → UnreadLines → Type 0
IsLineTaken old new = (length new.lines < length old.lines) × (new.refusal ≡ None)

-- a symbol is defined, and may get a `modules` line
abbrev pub IsDefined : SymId → Progress → Progress → Type 0
IsDefined id old new = (new.defined ≡ added old.defined id) × (new.config ≡ Some id)

-- the defined names after this one, if there is one, is defined; and why it cannot be defined
abbrev pub defined_after : List (List ℕ) → Option (List ℕ) → List (List ℕ)
defined_after ds None = ds
defined_after ds (Some n) = mention ds n

abbrev pub naming_cause : List (List ℕ) → Option (List ℕ) → Option Cause
naming_cause ds None = None
naming_cause ds (Some n) = symbol_cause ds n

-- the same for symbols
abbrev pub order_after : List SymId → Option SymId → List SymId
order_after ids None = ids
order_after ids (Some id) = added ids id

abbrev pub symbol_limit_cause : List SymId → SymId → Option Cause
symbol_limit_cause ids id = if nat_lt most_symbols (length (added ids id)) then Some cause.TooManySymbols else None

abbrev pub defining_cause : List SymId → Option SymId → Option Cause
defining_cause ids None = None
defining_cause ids (Some id) = symbol_limit_cause ids id

-- a statement was recorded: what it changes in the state
pub record IsRemembered (s : Numbered) (old new : Progress) : Type 0 where
  pub defined_is : new.defined ≡ order_after old.defined (defined_name s)
  pub config : new.config ≡ name_after old.config s
  pub modules_is : new.modules ≡ option_or old.modules (if is_modules s then old.config else None)
  pub entries : new.entries ≡ old.entries
  pub total_lines : new.total_lines ≡ old.total_lines
  pub opened : new.opened ≡ old.opened
  pub open_files : new.open_files ≡ old.open_files

-- a statement was taken
pub record IsTaken (s : Numbered) (line : ℕ) (f g : Frame) (old new : Progress) : Type 0 where
  pub defined_is : new.defined ≡ order_after old.defined (defined_name s)
  pub config : new.config ≡ name_after old.config s
  pub modules_is : new.modules ≡ option_or old.modules (if is_modules s then old.config else None)
  pub lines : lines_in new.entries ≡ lines_in old.entries ++ record { file = f.file.value.items; line = line; statement = s } ∷ []
  pub last : IsLastFile new.entries f.file.value.items
  pub total_lines : new.total_lines ≡ old.total_lines
  pub opened : new.opened ≡ old.opened
  pub open_files : new.open_files ≡ old.open_files
  pub file : g.file ≡ f.file
  pub depth : g.depth ≡ f.depth
  pub in_choice : g.in_choice ≡ f.in_choice
  pub blocks : openers g ≡ open_blocks_after (bracket s) f.file.value.items line (openers f)
  pub entry : g.entry ≡ entry_after f.entry s

-- the limit that a statement exceeds, if it defines a symbol too many or opens a block too many
abbrev pub limit_view : Numbered → Frame → Progress → Option Cause
limit_view s f p = option_or (defining_cause p.defined (defined_name s)) (nesting_cause (f.depth + length f.blocks.items) (bracket s))

-- the state inside a file that another file sources
pub record IsSourcedFrame (f : Frame) (name : List ℕ) (g : Frame) : Type 0 where
  pub file : g.file.value.items ≡ name
  pub depth : g.depth ≡ f.depth + length f.blocks.items
  pub in_choice : g.in_choice ≡ (f.in_choice || list_any (λ o. is_choice_block o.block) f.blocks.items)
  pub blocks : g.blocks.items ≡ []
  pub entry : g.entry ≡ entry.Nothing

-- a file is opened
pub record IsEntered (name : List ℕ) (total_lines : ℕ) (old new : Progress) : Type 0 where
  pub open_files : (f : Rc (Vec ℕ Global) Global) × (f.value.items ≡ name) × (new.open_files.items ≡ old.open_files.items ++ f ∷ [])
  pub total_lines_is : new.total_lines ≡ total_lines
  pub opened_is : new.opened ≡ mention old.opened name
  pub entries : new.entries ≡ old.entries
  pub defined_is : new.defined ≡ old.defined
  pub config : new.config ≡ old.config
  pub modules_is : new.modules ≡ old.modules

-- the next lines are those of another file
pub record IsMovedFrame (name : List ℕ) (f g : Frame) : Type 0 where
  pub file : g.file.value.items ≡ name
  pub kept : g ≡ record f { file = g.file; entry = entry.Nothing }

pub record IsMarkedOpened (name : List ℕ) (old new : Progress) : Type 0 where
  pub opened_is : new.opened ≡ mention old.opened name
  pub kept : new ≡ record old { opened = new.opened }

-- a block of the file is open at its end
abbrev pub IsOpenAtEnd : Frame → Refused → Type 0
IsOpenAtEnd f r = (o : OpenBlock) × (last_of f.blocks.items ≡ Some o) × (r ≡ refusal_at cause.Block o.file.value.items o.line)

-- the rest of a file is refused
abbrev pub IsRestRefusal : Files → FileContext → UnreadLines → List (Located Named) → ReadSoFar → Refusal → Type 0
IsRestRefusal files a l own log r = r.cause ≢ cause.Memory → Rest files (reading a l own log) (Err (refusal_view r))

module _ (files : Files) (first : List (List ℕ)) (names : List (List ℕ)) (a : FileContext) where
  -- the reader has advanced in a file: the result of the rest of the file is the same as that of the rest before
  pub record HasAdvanced (old new : UnreadLines) (own : List (Located Named)) (log : ReadSoFar) (p : Progress) (f : Frame) : Type 0 where
    pub context_now : FileContext
    pub own_now : List (Located Named)
    pub log_now : ReadSoFar
    pub state : IsState first names context_now own_now log_now p f
    pub follows : (r : Result ReadSoFar Refused) → Rest files (reading context_now new own_now log_now) r → Rest files (reading a old own log) r

  -- a whole file was read
  pub record IsFileRead (l : UnreadLines) (log : ReadSoFar) (p : Progress) : Type 0 where
    pub log_now : ReadSoFar
    pub rest : Rest files (reading a l [] log) (Ok log_now)
    pub progress : IsProgress first names log_now p

  -- a file has ended
  pub record IsEnded (l : UnreadLines) (own : List (Located Named)) (log : ReadSoFar) (p : Progress) : Type 0 where
    pub rest : Rest files (reading a l own log) (Ok log)
    pub progress : IsProgress first names log p

  abbrev pub IsReading : UnreadLines → ReadSoFar → Progress → Result ⊤ Refusal → Type 0
  IsReading l log p (Ok u) = IsFileRead l log p
  IsReading l log p (Err r) = IsRestRefusal files a l [] log r

  abbrev pub IsStatementRead : UnreadLines → UnreadLines → List (Located Named) → ReadSoFar → Progress → Frame → Result ⊤ Refusal → Type 0
  IsStatementRead l m own log p f (Ok u) = HasAdvanced l m own log p f
  IsStatementRead l m own log p f (Err r) = IsRestRefusal files a l own log r

  abbrev pub IsNextRead : UnreadLines → UnreadLines → List (Located Named) → ReadSoFar → Progress → Frame → Result Bool Refusal → Type 0
  IsNextRead l m own log p f (Ok true) = HasAdvanced l m own log p f
  IsNextRead l m own log p f (Ok false) = IsEnded l own log p
  IsNextRead l m own log p f (Err r) = IsRestRefusal files a l own log r

-- the state when the root file is opened
pub record IsBegun (root : List ℕ) (flat : Bool) (total_lines : ℕ) (f : Frame) (p : Progress) : Type 0 where
  pub file : f.file.value.items ≡ root
  pub depth : f.depth ≡ 0
  pub in_choice : f.in_choice ≡ false
  pub blocks : f.blocks.items ≡ []
  pub entry : f.entry ≡ entry.Nothing
  pub lines : lines_in p.entries ≡ []
  pub total_lines_is : p.total_lines ≡ total_lines
  pub opened_is : p.opened ≡ (if flat then [] else root ∷ [])
  pub defined_is : p.defined ≡ []
  pub config : p.config ≡ None
  pub modules_is : p.modules ≡ None
  pub open_files : open_names p ≡ root ∷ []

-- what a `config` line leaves unchanged
abbrev pub KeepsWhenDefining : Progress → Progress → Type 0
KeepsWhenDefining old new =
    (new.entries ≡ old.entries) × (new.total_lines ≡ old.total_lines) × (new.modules ≡ old.modules) × (new.opened ≡ old.opened) × (new.open_files ≡ old.open_files)

-- what a `modules` line leaves unchanged
abbrev pub KeepsWhenMarking : Progress → Progress → Type 0
KeepsWhenMarking old new =
    (new.entries ≡ old.entries) × (new.total_lines ≡ old.total_lines) × (new.defined ≡ old.defined) × (new.config ≡ old.config) × (new.opened ≡ old.opened)
    × (new.open_files ≡ old.open_files)
