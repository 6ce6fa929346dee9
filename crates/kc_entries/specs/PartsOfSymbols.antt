-- Trusted: Parts of the definitions of Symbols, with names of their own.
use Rattle.std.specs.{List.{filter_map, flat_map, list_any, take_while}, Option.option_and_then, Prelude.{Bool, Err, List, None, Ok, Option, Result, Some, [], count_by, false, filter, if◌then◌else◌, is_none, is_some, map, not, option_map, reverse, slice_get, take, true, unwrap_or, ℕ, ◌&&◌, ◌++◌, ◌==◌, ◌||◌, ◌∷◌}}
use Rattle.kc_language.specs.{Expansion.{ReadSoFar, Refused, attributes, bracket_at, enclosing, is_attribute, is_no_attribute, last_of, mentioned_names, numbered_lines, numbers, opened}, Expressions.{Form, Single, same_symbol}, Statements.{ConfigLine, DependsLine, ImplyLine, InputPrompt, Located, MainMenuLine, Named, Numbered, RangeLine, SelectLine, VisibleLine, statements}, Symbols.{Bounds, ChoiceFacts, Condition, Guarded, Shown, StatedDefault, TreeFacts, bad_defaults, bad_members, begun, can_be_target, choice_facts, choice_number, dependency, enclosing_choice, entry_choice, entry_symbol, holds_text, indices, is_first_definition, line_warnings, listed, located_warning, members_of, named, naming_at, of_block, own_visible, prompt_of, refused_at, same_type, shown_at, shows_entry, single_symbol, stated_default, stated_type, symbol_at, target_of, tree_with, when}, declared.{expressions.{SymId.SymId, SymbolType.SymbolType}, statements.Block.Block, symbols.{LineWarning.LineWarning, MenuEntry.MenuEntry}}}
use Rattle.kc_language.specs.declared.expressions.SymbolType.TheVariants as symbol_type
use Rattle.kc_language.specs.declared.statements.Block.TheVariants as block
use Rattle.kc_language.specs.declared.symbols.MenuEntry.TheVariants as menu_entry
use Rattle.kc_language.specs.declared.symbols.LineWarning.TheVariants as line_warning
use Rattle.kc_language.specs.declared.diagnostics.Cause.TheVariants as cause

abbrev pub first_of : {A : Type 0} → List A → Option A
first_of xs = slice_get xs 0

-- What one line says: its dependency, its `visible if`, its symbol.
abbrev pub depends_form : Numbered → Option Form
depends_form (DependsLine e) = Some e
depends_form _ = None

abbrev pub visible_form : Numbered → Option Form
visible_form (VisibleLine e) = Some e
visible_form _ = None

abbrev pub symbol_of : Option Numbered → Option SymId
symbol_of (Some (ConfigLine s)) = Some s
symbol_of _ = None

abbrev pub is_single : Form → Bool
is_single (Single l) = true
is_single _ = false

abbrev pub title_of : Numbered → Option (List ℕ)
title_of (MainMenuLine t) = Some t
title_of _ = None

-- the condition of a line that selects t; that implies t
abbrev pub select_of : SymId → Numbered → Option (Option Form)
select_of t (SelectLine n w) = if same_symbol n t then Some w else None
select_of t _ = None

abbrev pub imply_of : SymId → Numbered → Option (Option Form)
imply_of t (ImplyLine n w) = if same_symbol n t then Some w else None
imply_of t _ = None

module _ (ss : List Numbered) where
  abbrev pub block_at : ℕ → Option Block
  block_at i = opened (bracket_at ss i)

  -- the index of the statement that begins the innermost block around statement i; for a closing line, the block that it closes
  abbrev pub enclosing_block : ℕ → Option ℕ
  enclosing_block i = last_of (enclosing ss i)

  abbrev pub is_member : ℕ → SymId → Bool
  is_member k s = list_any (same_symbol s) (members_of ss k)

  abbrev pub choices : List ChoiceFacts
  choices = map (choice_facts ss) (filter (of_block ss block.Choice) (indices ss))

  -- the number of entries of the menu before statement i; all entries
  abbrev pub shown_number : ℕ → ℕ
  shown_number i = count_by (λ j. shows_entry ss j (slice_get ss j)) (numbers i)

  abbrev pub entries : List Shown
  entries = filter_map (λ i. shown_at ss i (slice_get ss i)) (indices ss)

  -- the statements that begin choices, in order
  abbrev pub choice_lines : List ℕ
  choice_lines = filter (of_block ss block.Choice) (indices ss)

  -- the condition of a line of entry i; of a prompt; of a menu
  abbrev pub line_condition : ℕ → Option Form → Condition
  line_condition i w = record { conjuncts = (dependency ss i).conjuncts ++ listed w; mode = (dependency ss i).mode }

  abbrev pub enclosing_visible : ℕ → List Form
  enclosing_visible i = flat_map (own_visible ss) (filter (of_block ss block.Menu) (enclosing ss i))

  abbrev pub prompt_condition : ℕ → InputPrompt Form → Condition
  prompt_condition i p = record { conjuncts = (dependency ss i).conjuncts ++ enclosing_visible i ++ listed p.when; mode = (dependency ss i).mode }

  abbrev pub shown_when : ℕ → Condition
  shown_when i = record { conjuncts = (dependency ss i).conjuncts ++ enclosing_visible i ++ own_visible ss i; mode = (dependency ss i).mode }

  abbrev pub guarded_default : ℕ → StatedDefault → Guarded Form
  guarded_default i g = record { what = g.value; when = line_condition i g.when }

  abbrev pub defaults_at : ℕ → List (Guarded Form)
  defaults_at i = map (guarded_default i) (filter_map stated_default (attributes ss i))

  abbrev pub guarded_range : ℕ → Numbered → Option (Guarded Bounds)
  guarded_range i (RangeLine a b w) = Some (record { what = record { low = a; high = b }; when = line_condition i w })
  guarded_range i _ = None

  abbrev pub guarded_symbol : ℕ → SymId → Option Form → Guarded SymId
  guarded_symbol i s w = record { what = s; when = line_condition i w }

  abbrev pub selectors_of : SymId → List (Guarded SymId)
  selectors_of t = if can_be_target ss t then flat_map (naming_at ss (select_of t)) (indices ss) else []

  abbrev pub impliers_of : SymId → List (Guarded SymId)
  impliers_of t = if can_be_target ss t then flat_map (naming_at ss (imply_of t)) (indices ss) else []

  -- whether statement i defines a member of choice k
  abbrev pub is_member_index : ℕ → ℕ → Bool
  is_member_index k i = is_some (symbol_at ss i) && list_any (λ j. j == k) (listed (enclosing_choice ss i))

  -- a default of the choice that statement i begins, if it names a member
  abbrev pub member_default : ℕ → StatedDefault → Option (Guarded SymId)
  member_default i g = option_and_then (λ s. if is_member (choice_number ss i) s then Some (guarded_symbol i s g.when) else None) (single_symbol g.value)

abbrev pub first_of_symbol : List Numbered → ℕ → Option SymId → Bool
first_of_symbol ss i None = false
first_of_symbol ss i (Some s) = is_first_definition ss i s

abbrev pub is_some_other : Option Numbered → Bool
is_some_other None = false
is_some_other (Some s) = is_no_attribute s

module _ (ss : List Numbered) where
  -- the entry that statement j begins
  abbrev pub begun_at : ℕ → MenuEntry
  begun_at j = unwrap_or (option_map (begun (choice_number ss j)) (slice_get ss j)) menu_entry.Other

  -- the last statement before statement i that is no attribute
  abbrev pub entry_before : ℕ → Option ℕ
  entry_before i = last_of (filter (λ j. is_some_other (slice_get ss j)) (numbers i))

  abbrev pub menu_entry_before : ℕ → MenuEntry
  menu_entry_before i = unwrap_or (option_map begun_at (entry_before i)) menu_entry.Other

  -- whether there is a prompt among the attributes directly before statement i
  abbrev pub prompt_before : ℕ → Bool
  prompt_before i = list_any (λ s. is_some (prompt_of s)) (take_while is_attribute (reverse (take i ss)))

-- a type line with another type than the symbol's
abbrev pub type_redefined : (SymId → SymbolType) → MenuEntry → Numbered → List LineWarning
type_redefined types o s = flat_map (λ t. flat_map (λ k. when (not (same_type k (types t))) (line_warning.TypeRedefined t)) (listed (stated_type s))) (listed (entry_symbol o))

-- a second prompt in one entry
abbrev pub prompt_redefined : MenuEntry → Bool → Numbered → List LineWarning
prompt_redefined o before s = when (is_some (prompt_of s) && before) (line_warning.PromptRedefined (entry_symbol o))

abbrev pub has_type : SymbolType → Option ℕ → Bool
has_type k c = is_some c || not (same_type k symbol_type.Undefined)

-- the first definition of a symbol without a type
abbrev pub without_type : (SymId → SymbolType) → (SymId → Option ℕ) → Bool → Numbered → List LineWarning
without_type types choices first s = flat_map (λ t. when (first && not (has_type (types t) (choices t))) (line_warning.WithoutType t)) (listed (symbol_of (Some s)))

-- a line that selects or implies a symbol whose value is a text
abbrev pub text_target : (SymId → SymbolType) → Numbered → List LineWarning
text_target types s = flat_map (λ t. when (holds_text (types (t.1))) (line_warning.TextTarget (t.1) (t.0))) (listed (target_of s))

-- a default of a choice that names a symbol that is not a member
abbrev pub default_not_member : (ℕ → SymId → Bool) → MenuEntry → Numbered → List LineWarning
default_not_member members o s = flat_map (λ k. flat_map
    (λ g. flat_map (λ t. when (not (members k t)) (line_warning.DefaultNotMember t)) (listed (single_symbol g.value))) (listed (stated_default s)))
    (listed (entry_choice o))

-- a line that selects or implies a member of a choice
abbrev pub member_target : (SymId → Option ℕ) → Numbered → List LineWarning
member_target choices s = flat_map (λ t. when (is_some (choices (t.1))) (line_warning.MemberTarget (t.1) (t.0))) (listed (target_of s))

-- all of them, given these facts
abbrev pub line_warnings_by : (SymId → SymbolType) → (SymId → Option ℕ) → (ℕ → SymId → Bool) → MenuEntry → Bool → Bool → Numbered → List LineWarning
line_warnings_by types choices members o before first s =
    type_redefined types o s ++ prompt_redefined o before s ++ without_type types choices first s ++ text_target types s ++ default_not_member members o s ++ member_target choices s

-- A second `config` line of a symbol that is a member; a `config` in a choice whose type is not bool.
abbrev pub is_bad_member : (SymId → SymbolType) → (SymId → Option ℕ) → Bool → Option ℕ → Numbered → Bool
is_bad_member types choices first within_choice s =
    list_any (λ t. (is_some (choices t) && not first) || (is_some within_choice && not (same_type (types t) symbol_type.Bool))) (listed (symbol_of (Some s)))

-- A default of a string, int or hex symbol that is not one operand; a default of a choice that is not one name.
abbrev pub is_bad_default : (SymId → SymbolType) → MenuEntry → Numbered → Bool
is_bad_default types o s =
    list_any (λ g. (list_any (λ t. holds_text (types t)) (listed (entry_symbol o)) && not (is_single g.value)) ||
    (is_some (entry_choice o) && is_none (single_symbol g.value))) (listed (stated_default s))

module _ (names : List (List ℕ)) where
  -- the whole line of a warning about a line
  abbrev pub line_of : List ℕ → ℕ → LineWarning → List ℕ
  line_of file line w = located_warning file line (named names w)

-- For these lines, and names with these numbers.
module _ (names : List (List ℕ)) (ls : List (Located Numbered)) where
  abbrev pub warned_at : ℕ → Option (Located Numbered) → List (List ℕ)
  warned_at i None = []
  warned_at i (Some l) = map (line_of names l.file l.line) (line_warnings (statements ls) i l.statement)

  -- the warnings about all statements, as lines
  abbrev pub warnings : List (List ℕ)
  warnings = flat_map (λ i. elim (slice_get ls i) [
    | None ↦ []
    | Some l ↦
        map (λ w. located_warning l.file l.line (named names w)) (line_warnings (statements ls) i l.statement)
  ]) (indices (statements ls))

  abbrev pub whole_list_refusals : List Refused
  whole_list_refusals = flat_map (refused_at names ls cause.ChoiceMember) (bad_members (statements ls)) ++
      flat_map (refused_at names ls cause.BadDefault) (bad_defaults (statements ls))

-- the first of these refusals or, if there is none, the facts
abbrev pub unless_refused : List Refused → TreeFacts → Result TreeFacts Refused
unless_refused refusals tree = elim refusals [ [] ↦ Ok tree | r ∷ rs ↦ Err r ]

-- the tree of an expanded list once its names have numbers, or its refusal
abbrev pub tree_of_log : Result ReadSoFar Refused → Result TreeFacts Refused
tree_of_log e = elim e [ Ok log ↦ tree_with (mentioned_names (statements log.lines)) (numbered_lines log.lines) | Err r ↦ Err r ]

-- a symbol, if there is one and it passes the test
abbrev pub symbol_if : (SymId → Bool) → Option SymId → Option SymId
symbol_if p None = None
symbol_if p (Some s) = if p s then Some s else None

-- the tree of lines with written names, once these have numbers
abbrev pub tree_of_lines : List (Located Named) → Result TreeFacts Refused
tree_of_lines ls = tree_with (mentioned_names (statements ls)) (numbered_lines ls)
