-- Trusted: 7. Symbols: what the lines of a tree say about its symbols, its choices and its menu, and the warnings and refusals about them.
-- The rules are those of the kernel's kconfig-language document ("Menu attributes", "Menu dependencies") and of kconfiglib. The texts are our own.
use Rattle.std.specs.{List.list_any, Option.option_or, Prelude.{Bool, Err, List, None, Ok, Option, Result, Some, [], codes, count_by, decimal, false, filter, filter_map, flat_map, if◌then◌else◌, is_none, is_some, length, map, not, option_and_then, option_map, position, reverse, slice_get, slice_index_or, suc, take, take_while, true, unwrap_or, ℕ, ◌&&◌, ◌++◌, ◌==◌, ◌||◌, ◌∷◌, ◌≡◌}}
pub use Rattle.std.specs.Option.{option_to_list as listed}
use Rattle.kc_language.specs.{Expansion.{Expands, Files, ReadSoFar, Refused, attributes, bracket_at, defined_name, definitions, enclosing, is_attribute, is_no_attribute, last_of, modules_of, mentioned_names, numbered_lines, numbers, opened, refusal_at}, Expressions.{Form, Leaf, Single, Symbol, same_name, same_symbol, symbol}, Statements.{Cause, ChoiceLine, CommentLine, ConfigLine, DefLine, DefaultLine, DependsLine, EndMenuLine, IfLine, ImplyLine, InputPrompt, Located, MainMenuLine, MenuLine, Numbered, PromptLine, RangeLine, SelectLine, TypeLine, VisibleLine, statements}, declared.{diagnostics.Cause.TheVariants.{BadDefault, ChoiceMember}, diagnostics.Warning.{TheVariants.{Changed, DefaultNotMember, DefaultOutside, Lost, LostWithoutPrompt, MalformedLine, MemberTarget, NotAllowed, PromptRedefined, Selected, SetAgain, TextTarget, TextUnset, TypeRedefined, UnknownSymbol, UserOutside, WithoutType}, Warning as WarningAbout}, expressions.SymId.SymId, expressions.SymbolType.SymbolType, statements.Block.Block, symbols.LineWarning.LineWarning, symbols.MenuEntry.MenuEntry, symbols.SelectOrImply.SelectOrImply}}

-- A condition: the least value of these expressions and of the mode of this choice, if there is one.
pub record Condition : Type 0 where
  pub conjuncts : List Form
  pub mode : Option ℕ

-- what counts only under a condition
pub record Guarded (X : Type 0) : Type 0 where
  pub what : X
  pub when : Condition

pub record Bounds : Type 0 where
  pub low : Leaf
  pub high : Leaf

-- What all definitions of a symbol say, in order. The selectors are the symbols that select it, the impliers those that imply it.
pub record SymbolFacts : Type 0 where
  pub symbol_type : SymbolType
  pub choice : Option ℕ
  pub dependencies : List Condition
  pub prompts : List Condition
  pub defaults : List (Guarded Form)
  pub ranges : List (Guarded Bounds)
  pub selectors : List (Guarded SymId)
  pub impliers : List (Guarded SymId)

-- what a choice says: its prompt's condition, its defaults that name a member, and its members
pub record ChoiceFacts : Type 0 where
  pub prompt : Option Condition
  pub defaults : List (Guarded SymId)
  pub members : List SymId

-- An entry of the menu: a symbol, at its first definition; a menu or a comment, shown under a condition; the end of the menu with this index.
pub data Shown : Type 0 where
  SymbolShown : SymId → Shown
  MenuShown : List ℕ → Condition → Shown
  EndShown : ℕ → Shown
  CommentShown : List ℕ → Condition → Shown

-- Name i has facts i. A symbol is a name that a `config` line defines, with a type or without one. A name that is only mentioned has no type.
-- `defined` has the symbols, in the order of their first definition. `modules` is the modules symbol if it is defined. `lines` are all lines, of which
-- explanations show some.
pub record TreeFacts : Type 0 where
  pub names : List (List ℕ)
  pub symbols : List SymbolFacts
  pub defined : List SymId
  pub choices : List ChoiceFacts
  pub entries : List Shown
  pub warnings : List (List ℕ)
  pub main_menu : List ℕ
  pub modules : Option SymId
  pub lines : List (Located Numbered)

-- ---- What one line says: its type; its prompt
abbrev pub stated_type : Numbered → Option SymbolType
stated_type s = elim s [ TypeLine k p ↦ Some k | DefLine k v w ↦ Some k | _ ↦ None ]

abbrev pub prompt_of : Numbered → Option (InputPrompt Form)
prompt_of s = elim s [ TypeLine k p ↦ p | PromptLine p ↦ Some p | _ ↦ None ]

-- its default and the default's condition
pub record StatedDefault : Type 0 where
  pub value : Form
  pub when : Option Form

abbrev pub stated_default : Numbered → Option StatedDefault
stated_default s = elim s [ DefaultLine v w ↦ Some (record { value = v; when = w }) | DefLine k v w ↦ Some (record { value = v; when = w }) | _ ↦ None ]

-- What one line says: its `depends on`, its `visible if`, its range, and the condition under which it selects or implies the symbol s.
abbrev pub dependency_in : Numbered → Option Form
dependency_in l = elim l [ DependsLine e ↦ Some e | _ ↦ None ]

abbrev pub visible_in : Numbered → Option Form
visible_in l = elim l [ VisibleLine e ↦ Some e | _ ↦ None ]

abbrev pub range_in : Numbered → Option (Bounds × Option Form)
range_in l = elim l [ RangeLine a b w ↦ Some (record { low = a; high = b }, w) | _ ↦ None ]

abbrev pub targets : SelectOrImply → SymId → Numbered → Option (Option Form)
targets word s l = elim word [
  | SelectOrImply.Select ↦ elim l [ SelectLine t w ↦ if same_symbol t s then Some w else None | _ ↦ None ]
  | SelectOrImply.Imply ↦ elim l [ ImplyLine t w ↦ if same_symbol t s then Some w else None | _ ↦ None ]
]

-- whether it selects or implies, which symbol, and under which condition
abbrev pub target_of : Numbered → Option (SelectOrImply × SymId × Option Form)
target_of s = elim s [ SelectLine n w ↦ Some (SelectOrImply.Select, n, w) | ImplyLine n w ↦ Some (SelectOrImply.Imply, n, w) | _ ↦ None ]

-- the entry that it begins, with n choices before it; that entry's symbol; its choice
abbrev pub begun : ℕ → Numbered → MenuEntry
begun n s = elim s [ ConfigLine s ↦ MenuEntry.Symbol s | ChoiceLine ↦ MenuEntry.Choice (record { 0 = n }) | _ ↦ MenuEntry.Other ]

abbrev pub entry_symbol : MenuEntry → Option SymId
entry_symbol e = elim e [ MenuEntry.Symbol s ↦ Some s | _ ↦ None ]

abbrev pub entry_choice : MenuEntry → Option ℕ
entry_choice e = elim e [ MenuEntry.Choice k ↦ Some k.0 | _ ↦ None ]

-- ---- Symbols and types. Whether the option holds this symbol
abbrev pub is_symbol_of : SymId → Option SymId → Bool
is_symbol_of s o = elim o [ None ↦ false | Some t ↦ same_symbol s t ]

-- the first list and then the second, each symbol once; the defined symbols, in the order of their first definition
abbrev pub all_added : List SymId → List SymId → List SymId
all_added ids [] = ids
all_added ids (s ∷ ss) = all_added (if list_any (same_symbol s) ids then ids else ids ++ s ∷ []) ss

abbrev pub defined_symbols : List Numbered → List SymId
defined_symbols ss = all_added [] (definitions ss)

-- the symbol that an expression names, if the expression is one name (parentheses do not count)
abbrev pub single_symbol : Form → Option SymId
single_symbol e = elim e [ Single (Symbol s) ↦ Some s | _ ↦ None ]

abbrev pub same_type : SymbolType → SymbolType → Bool
same_type SymbolType.Undefined SymbolType.Undefined = true
same_type SymbolType.Bool SymbolType.Bool = true
same_type SymbolType.Tristate SymbolType.Tristate = true
same_type SymbolType.Str SymbolType.Str = true
same_type SymbolType.Int SymbolType.Int = true
same_type SymbolType.Hex SymbolType.Hex = true
same_type _ _ = false

-- A `select` or `imply` has no effect on a string, int or hex symbol.
abbrev pub is_selectable : SymbolType → Bool
is_selectable k = elim k [ SymbolType.Str ↦ false | SymbolType.Int ↦ false | SymbolType.Hex ↦ false | _ ↦ true ]

abbrev pub holds_text : SymbolType → Bool
holds_text k = if is_selectable k then false else true

abbrev pub is_block : Block → Option Block → Bool
is_block Block.If (Some Block.If) = true
is_block Block.Menu (Some Block.Menu) = true
is_block Block.Choice (Some Block.Choice) = true
is_block _ _ = false

-- the value in a list if the test holds
abbrev pub when : {A : Type 0} → Bool → A → List A
when b x = if b then x ∷ [] else []

-- ---- What all lines say. `ss` are all statements, in the order in which they are read. `i` and `j` are indices in it, `k` is the number of a choice.
module _ (ss : List Numbered) where
  abbrev pub indices : List ℕ
  indices = numbers (length ss)

  -- the symbol that a `config` line defines; whether the statement begins such a block
  abbrev pub symbol_at : ℕ → Option SymId
  symbol_at i = option_and_then defined_name (slice_get ss i)

  abbrev pub of_block : Block → ℕ → Bool
  of_block b i = is_block b (opened (bracket_at ss i))

  -- the number of the choice that begins here; that of the innermost choice around a statement
  abbrev pub choice_number : ℕ → ℕ
  choice_number i = count_by (of_block Block.Choice) (numbers i)

  abbrev pub enclosing_choice : ℕ → Option ℕ
  enclosing_choice i = option_map choice_number (last_of (filter (of_block Block.Choice) (enclosing ss i)))

  -- the `depends on` lines of an entry; its `visible if` lines
  abbrev pub own_dependencies : ℕ → List Form
  own_dependencies i = filter_map (λ s. elim s [ DependsLine e ↦ Some e | _ ↦ None ]) (attributes ss i)

  abbrev pub own_visible : ℕ → List Form
  own_visible i = filter_map (λ s. elim s [ VisibleLine e ↦ Some e | _ ↦ None ]) (attributes ss i)

  -- the conditions that a block adds to its entries: a menu its `depends on` lines, an `if` its condition, a choice none (`dependency` adds its mode)
  abbrev pub block_conjuncts : ℕ → List Form
  block_conjuncts i = if of_block Block.Menu i then own_dependencies i else elim (slice_get ss i) [ Some (IfLine e) ↦ e ∷ [] | _ ↦ [] ]

  -- what an entry depends on: the conditions of the blocks around it, its own `depends on` lines, and the mode of the choice around it
  abbrev pub dependency : ℕ → Condition
  dependency i = record { conjuncts = flat_map block_conjuncts (enclosing ss i) ++ own_dependencies i; mode = enclosing_choice i }

  -- what a line of the entry at i says, under the entry's dependency and the line's own condition
  abbrev pub guarded : {X : Type 0} → ℕ → X → Option Form → Guarded X
  guarded i x w = record { what = x; when = record { conjuncts = (dependency i).conjuncts ++ listed w; mode = (dependency i).mode } }

  -- A prompt or a menu is shown under its entry's dependency, the `visible if` lines of the menus around it, and `own`.
  abbrev pub shown_under : ℕ → List Form → Condition
  shown_under i own = let asked = flat_map own_visible (filter (of_block Block.Menu) (enclosing ss i)) in
      record { conjuncts = (dependency i).conjuncts ++ asked ++ own; mode = (dependency i).mode }

  -- Of several prompts of one entry the last counts.
  abbrev pub prompt_at : ℕ → Option Condition
  prompt_at i = option_map (λ p. shown_under i (listed p.when)) (last_of (filter_map prompt_of (attributes ss i)))

  -- the indices of a symbol's definitions; the choice of a symbol that is a member in any of them
  abbrev pub definitions_of : SymId → List ℕ
  definitions_of s = filter (λ i. is_symbol_of s (symbol_at i)) indices

  abbrev pub choice_of : SymId → Option ℕ
  choice_of s = slice_get (filter_map enclosing_choice (definitions_of s)) 0

  -- its first type; a member of a choice without a type is bool
  abbrev pub type_of : SymId → SymbolType
  type_of s = unwrap_or (slice_get (filter_map stated_type (flat_map (attributes ss) (definitions_of s))) 0)
      (if is_some (choice_of s) then SymbolType.Bool else SymbolType.Undefined)

  -- A `select` or `imply` of a member of a choice has no effect.
  abbrev pub can_be_target : SymId → Bool
  can_be_target t = is_none (choice_of t) && is_selectable (type_of t)

  -- the symbol that statement i defines, once for each line of its entry for which `condition_in` gives a condition, under that condition
  abbrev pub naming_at : (Numbered → Option (Option Form)) → ℕ → List (Guarded SymId)
  naming_at condition_in i = flat_map (λ s. map (guarded i s) (filter_map condition_in (attributes ss i))) (listed (symbol_at i))

  abbrev pub symbol_facts : SymId → SymbolFacts
  symbol_facts s = record {
    symbol_type = type_of s;
    choice = choice_of s;
    dependencies = map dependency (definitions_of s);
    prompts = filter_map prompt_at (definitions_of s);
    defaults = flat_map (λ i. map (λ g. guarded i g.value g.when) (filter_map stated_default (attributes ss i))) (definitions_of s);
    ranges = flat_map (λ i. filter_map (λ l. elim l [ RangeLine a b w ↦ Some (guarded i (record { low = a; high = b }) w) | _ ↦ None ])
        (attributes ss i)) (definitions_of s);
    selectors = if can_be_target s then flat_map (naming_at (λ l. elim l [ SelectLine t w ↦ if same_symbol t s then Some w else None | _ ↦ None ])) indices else [];
    impliers = if can_be_target s then flat_map (naming_at (λ l. elim l [ ImplyLine t w ↦ if same_symbol t s then Some w else None | _ ↦ None ])) indices else [];
  }

  -- the members of choice k: the symbols that are defined in it
  abbrev pub members_of : ℕ → List SymId
  members_of k = filter_map symbol_at (filter (λ i. is_some (symbol_at i) && list_any (λ j. j == k) (listed (enclosing_choice i))) indices)

  -- A default of a choice counts if it names a member.
  abbrev pub choice_facts : ℕ → ChoiceFacts
  choice_facts i = record {
    prompt = prompt_at i;
    defaults = filter_map (λ g. option_and_then (λ s. if list_any (same_symbol s) (members_of (choice_number i))
        then Some (guarded i s g.when) else None) (single_symbol g.value)) (filter_map stated_default (attributes ss i));
    members = members_of (choice_number i);
  }

  -- whether no statement before i defines the symbol; whether statement i is the first `config` line of its symbol
  abbrev pub is_first_definition : ℕ → SymId → Bool
  is_first_definition i s = is_none (position (same_symbol s) (definitions (take i ss)))

  abbrev pub is_first_definition_at : ℕ → Bool
  is_first_definition_at i = elim (symbol_at i) [ None ↦ false | Some s ↦ is_first_definition i s ]

  -- whether statement i, which is o, makes an entry of the menu
  abbrev pub shows_entry : ℕ → Option Numbered → Bool
  shows_entry i (Some (ConfigLine s)) = is_first_definition i s
  shows_entry i o = elim o [ Some (MenuLine t) ↦ true | Some EndMenuLine ↦ true | Some (CommentLine t) ↦ true | _ ↦ false ]

  -- the entry of the menu; an `endmenu` closes the innermost block, whose index is the number of entries before that block
  abbrev pub shown_at : ℕ → Option Numbered → Option Shown
  shown_at i (Some (ConfigLine s)) = if is_first_definition i s then Some (SymbolShown s) else None
  shown_at i (Some (MenuLine t)) = Some (MenuShown t (shown_under i (own_visible i)))
  shown_at i (Some EndMenuLine) = option_map (λ j. EndShown (count_by (λ k. shows_entry k (slice_get ss k)) (numbers j))) (last_of (enclosing ss i))
  shown_at i (Some (CommentLine t)) = Some (CommentShown t (dependency i))
  shown_at i _ = None

  -- ---- Warnings and refusals. The entry that a statement belongs to: the one that begins with the last statement, up to this one, that is no attribute
  abbrev pub menu_entry_at : ℕ → MenuEntry
  menu_entry_at i = unwrap_or (option_map (λ j. unwrap_or (option_map (begun (choice_number j)) (slice_get ss j)) MenuEntry.Other)
      (last_of (filter (λ j. elim (slice_get ss j) [ None ↦ false | Some s ↦ is_no_attribute s ]) (numbers (suc i))))) MenuEntry.Other

  -- The warnings about statement i, which is s. K1: a type that is not the symbol's. K2: a prompt after another one of the entry.
  abbrev pub types_redefined : ℕ → Numbered → List LineWarning
  types_redefined i s = flat_map (λ t. flat_map (λ k. when (not (same_type k (type_of t))) (LineWarning.TypeRedefined t)) (listed (stated_type s)))
      (listed (entry_symbol (menu_entry_at i)))

  abbrev pub prompts_redefined : ℕ → Numbered → List LineWarning
  prompts_redefined i s = when (is_some (prompt_of s) && list_any (λ p. is_some (prompt_of p)) (take_while is_attribute (reverse (take i ss))))
      (LineWarning.PromptRedefined (entry_symbol (menu_entry_at i)))

  -- K3: the first definition of a symbol without a type that is in no choice. K4: a `select` or `imply` of a string, int or hex symbol. K6: of a choice member.
  abbrev pub types_missing : ℕ → Numbered → List LineWarning
  types_missing i s = flat_map (λ t. when (is_first_definition_at i && not (is_some (choice_of t) || not (same_type (type_of t) SymbolType.Undefined)))
      (LineWarning.WithoutType t)) (listed (defined_name s))

  abbrev pub text_targets : Numbered → List LineWarning
  text_targets s = flat_map (λ t. when (holds_text (type_of (t.1))) (LineWarning.TextTarget (t.1) (t.0))) (listed (target_of s))

  abbrev pub member_targets : Numbered → List LineWarning
  member_targets s = flat_map (λ t. when (is_some (choice_of (t.1))) (LineWarning.MemberTarget (t.1) (t.0))) (listed (target_of s))

  -- K5: a choice's default that is not a member of it.
  abbrev pub defaults_outside : ℕ → Numbered → List LineWarning
  defaults_outside i s = flat_map (λ k. flat_map (λ g. flat_map (λ t. when (not (list_any (same_symbol t) (members_of k))) (LineWarning.DefaultNotMember t))
      (listed (single_symbol g.value))) (listed (stated_default s))) (listed (entry_choice (menu_entry_at i)))

  -- all of them, in this order
  abbrev pub line_warnings : ℕ → Numbered → List LineWarning
  line_warnings i s = types_redefined i s ++ prompts_redefined i s ++ types_missing i s ++ text_targets s ++ defaults_outside i s ++ member_targets s

  -- E13: a second `config` line of a member of a choice; a `config` line in a choice, of a symbol that is not bool
  abbrev pub is_member_again : ℕ → SymId → Bool
  is_member_again i t = is_some (choice_of t) && not (is_first_definition_at i)

  abbrev pub is_member_not_bool : ℕ → SymId → Bool
  is_member_not_bool i t = is_some (enclosing_choice i) && not (same_type (type_of t) SymbolType.Bool)

  abbrev pub bad_members : List ℕ
  bad_members = filter (λ i. list_any (λ s. list_any (λ t. is_member_again i t || is_member_not_bool i t) (listed (defined_name s))) (listed (slice_get ss i))) indices

  -- E14: a default of a string, int or hex symbol that is not one operand; a default of a choice that is not the name of a symbol
  abbrev pub is_no_operand : ℕ → Form → Bool
  is_no_operand i value = list_any (λ t. holds_text (type_of t)) (listed (entry_symbol (menu_entry_at i))) && not (elim value [ Single l ↦ true | _ ↦ false ])

  abbrev pub is_no_member : ℕ → Form → Bool
  is_no_member i value = is_some (entry_choice (menu_entry_at i)) && is_none (single_symbol value)

  abbrev pub bad_defaults : List ℕ
  bad_defaults = filter (λ i. list_any (λ s. list_any (λ g. is_no_operand i g.value || is_no_member i g.value)
      (listed (stated_default s))) (listed (slice_get ss i))) indices

-- a warning with its names and values as texts; its number and text
abbrev pub Warning : Type 0
Warning = WarningAbout (List ℕ)

abbrev pub warning_text : Warning → List ℕ
warning_text (TypeRedefined name) = codes "K1: type of " ++ name ++ codes " redefined, the first is kept"
warning_text (PromptRedefined name) = codes "K2: prompt of " ++ name ++ codes " redefined, the last is kept"
warning_text (WithoutType name) = codes "K3: " ++ name ++ codes " has no type"
warning_text (TextTarget name word) = codes "K4: " ++ name ++ codes " is not bool or tristate, the " ++ word ++ codes " has no effect"
warning_text (DefaultNotMember name) = codes "K5: " ++ name ++ codes " is not a member of the choice"
warning_text (MemberTarget name word) = codes "K6: " ++ name ++ codes " is a choice member, the " ++ word ++ codes " has no effect"
warning_text (UnknownSymbol name) = codes "K7: unknown symbol " ++ name
warning_text (NotAllowed name) = codes "K8: value not allowed for " ++ name
warning_text MalformedLine = codes "K9: malformed line"
warning_text (SetAgain name) = codes "K10: " ++ name ++ codes " is set again"
warning_text (Selected name to direct) = codes "K11: " ++ name ++ codes " is selected to " ++ to ++ codes " while its dependency is " ++ direct
warning_text (UserOutside name value low high) = codes "K12: user value " ++ value ++ codes " of " ++ name ++ codes " is outside " ++ low ++ codes " to " ++ high
warning_text (DefaultOutside name value low high used) =
    codes "K13: default " ++ value ++ codes " of " ++ name ++ codes " is outside " ++ low ++ codes " to " ++ high ++ codes ", " ++ used ++ codes " is used"
warning_text (Lost name given value) = codes "K14: " ++ name ++ codes " was given " ++ given ++ codes " and is " ++ value
warning_text (LostWithoutPrompt name given value) =
    codes "K14: " ++ name ++ codes " has no prompt; it was given " ++ given ++ codes " and is " ++ value
warning_text (Changed name old file line new) =
    codes "K15: " ++ name ++ codes " was " ++ old ++ codes " (" ++ file ++ codes ":" ++ decimal line ++ codes ") and is now " ++ new
warning_text (TextUnset name) = codes "K16: " ++ name ++ codes " is not bool or tristate, the line has no effect"

-- `warning TEXT`; `FILE:LINE: warning TEXT`; both without the line feed
abbrev pub warning_line : Warning → List ℕ
warning_line w = codes "warning " ++ warning_text w

abbrev pub located_warning : List ℕ → ℕ → Warning → List ℕ
located_warning file line w = file ++ codes ":" ++ decimal line ++ codes ": warning " ++ warning_text w

abbrev pub keyword_text : SelectOrImply → List ℕ
keyword_text w = elim w [ SelectOrImply.Select ↦ codes "select" | SelectOrImply.Imply ↦ codes "imply" ]

module _ (names : List (List ℕ)) where
  -- the name of a symbol; the name of an entry's symbol, and `choice` for a choice; a warning with these names
  abbrev pub name_by : SymId → List ℕ
  name_by s = slice_index_or names s.0 []

  abbrev pub entry_name : Option SymId → List ℕ
  entry_name o = unwrap_or (option_map name_by o) (codes "choice")

  abbrev pub named : LineWarning → Warning
  named (LineWarning.TypeRedefined t) = TypeRedefined (name_by t)
  named (LineWarning.PromptRedefined o) = PromptRedefined (entry_name o)
  named (LineWarning.WithoutType t) = WithoutType (name_by t)
  named (LineWarning.TextTarget t r) = TextTarget (name_by t) (keyword_text r)
  named (LineWarning.DefaultNotMember t) = DefaultNotMember (name_by t)
  named (LineWarning.MemberTarget t r) = MemberTarget (name_by t) (keyword_text r)

  -- The modules symbol: the symbol of the first `modules` line. Without such a line it is the one named `MODULES`, if a line mentions it.
  abbrev pub modules_symbol : List Numbered → Option SymId
  modules_symbol ss = option_or (modules_of ss) (option_map symbol (position (same_name (codes "MODULES")) names))

-- ---- The tree. `ls` are the statements with their files and lines, `names` the names of their symbols.
module _ (names : List (List ℕ)) (ls : List (Located Numbered)) where
  -- a refusal at statement i, which names its entry
  abbrev pub refused_at : (List ℕ → Cause) → ℕ → List Refused
  refused_at c i = map (λ l. refusal_at (c (entry_name names (entry_symbol (menu_entry_at (statements ls) i)))) l.file l.line) (listed (slice_get ls i))

  -- the tree, if no statement is refused; the first refusal or, without one, this tree
  abbrev pub facts_with : TreeFacts
  facts_with = let ss = statements ls in record {
    names = names;
    symbols = map (λ i. symbol_facts ss (symbol i)) (numbers (length names));
    defined = defined_symbols ss;
    choices = map (choice_facts ss) (filter (of_block ss Block.Choice) (indices ss));
    entries = filter_map (λ i. shown_at ss i (slice_get ss i)) (indices ss);
    warnings = flat_map (λ i. elim (slice_get ls i) [
      | None ↦ []
      | Some l ↦ map (λ w. located_warning l.file l.line (named names w)) (line_warnings ss i l.statement)
    ]) (indices ss);
    main_menu = unwrap_or (last_of (filter_map (λ s. elim s [ MainMenuLine t ↦ Some t | _ ↦ None ]) ss)) (codes "Main menu");
    modules = option_and_then (λ s. if list_any (same_symbol s) (defined_symbols ss) then Some s else None) (modules_symbol names ss);
    lines = ls;
  }

  abbrev pub tree_with : Result TreeFacts Refused
  tree_with = elim (flat_map (refused_at ChoiceMember) (bad_members (statements ls)) ++
      flat_map (refused_at BadDefault) (bad_defaults (statements ls))) [ [] ↦ Ok facts_with | r ∷ rs ↦ Err r ]

-- the tree of a root file, or the first refusal; names get their numbers once all files are expanded
abbrev pub IsTreeOf : Files → List ℕ → Result TreeFacts Refused → Type 0
IsTreeOf files root r = (e : Result ReadSoFar Refused) × Expands files root e ×
    (r ≡ elim e [ Ok log ↦ tree_with (mentioned_names (statements log.lines)) (numbered_lines log.lines) | Err refusal ↦ Err refusal ])
