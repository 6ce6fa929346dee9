-- Trusted: The symbols, choices and entries of a tree, as its layout gives them.
use Rattle.std.specs.{List.{filter_map, flat_map, list_any}, Option.option_and_then, Prelude.{Bool, List, None, Option, Some, [], count_by, false, if◌then◌else◌, length, map, option_map, position, slice_get, suc, true, ℕ, ◌++◌, ◌==◌, ◌∷◌, ◌≡◌}}
use Rattle.kc_language.specs.{Expansion.{attributes, enclosing, numbers}, Expressions.{Form, symbol}, Statements.{ChoiceLine, CommentLine, ConfigLine, EndMenuLine, IfLine, InputPrompt, MenuLine, Numbered}, Symbols.{Bounds, ChoiceFacts, CommentShown, Condition, EndShown, Guarded, MenuShown, Shown, StatedDefault, SymbolFacts, SymbolShown, TreeFacts, block_conjuncts, choice_number, dependency_in, enclosing_choice, listed, own_visible, prompt_of, range_in, single_symbol, stated_default, target_of}, declared.{expressions.{SymId.SymId, SymbolType.SymbolType}, symbols.SelectOrImply.SelectOrImply}}
use Rattle.kc_language.specs.declared.symbols.SelectOrImply.TheVariants as word
use Rattle.kc_entries.specs.{Entries.lines_in, PartsOfSymbols.enclosing_visible, StatementViews.attribute_view, declared.{entries.{AttributeLine.AttributeLine, Entry.Entry}, statement.Attribute.Attribute}}
use Rattle.kc_tree.specs.{LineParts.default_symbol, Places.{line_in, lines_before, mode_view, place_at}, Stored.unstored, declared.{layout.Layout.Layout, rows.{Choice.Choice, EntryPlace.EntryPlace, Selector.Selector, Symbol.Symbol}}}
use Rattle.kc_tree.specs.EntryViews as entries

-- ---- Conditions
-- no condition
abbrev pub top : Condition
top = record { conjuncts = []; mode = None }

-- a condition and an `if`; a condition and further conjuncts
abbrev pub with_when : Condition → Option Form → Condition
with_when c w = record { conjuncts = c.conjuncts ++ listed w; mode = c.mode }

abbrev pub with_conjuncts : Condition → List Form → Condition
with_conjuncts c fs = record { conjuncts = c.conjuncts ++ fs; mode = c.mode }

-- the conjuncts that an entry adds for what is in it: an `if` its expression, a choice none (only its mode), any other entry its `depends on` lines
abbrev pub asked_by : Option Numbered → List Numbered → List Form
asked_by (Some (IfLine e)) own = e ∷ []
asked_by (Some ChoiceLine) own = []
asked_by _ own = filter_map dependency_in own

-- the mode that counts in an entry with this first line; `around` is the mode around it, and k the number of the choice if it begins one
abbrev pub mode_in : Option Numbered → ℕ → Option ℕ → Option ℕ
mode_in (Some ChoiceLine) k around = Some k
mode_in _ k around = around

-- ---- Lines under the dependency of their entry
module _ (dependency : Condition) where
  abbrev pub prompt_view : List Form → InputPrompt Form → Condition
  prompt_view visible p = with_when (with_conjuncts dependency visible) p.when

  abbrev pub default_view : StatedDefault → Guarded Form
  default_view d = record { what = d.value; when = with_when dependency d.when }

  abbrev pub range_view : Bounds × Option Form → Guarded Bounds
  range_view r = record { what = r.0; when = with_when dependency r.1 }

-- The facts of one `config` entry.
pub record DefinitionFacts : Type 0 where
  pub dependency : Condition
  pub prompt : Option Condition
  pub defaults : List (Guarded Form)
  pub ranges : List (Guarded Bounds)

-- the facts of a symbol, from those of its definitions
abbrev pub facts_by : SymbolType → Option ℕ → List DefinitionFacts → List (Guarded SymId) → List (Guarded SymId) → SymbolFacts
facts_by symbol_type choice ds selectors impliers = record {
  symbol_type = symbol_type;
  choice = choice;
  dependencies = map (λ d. d.dependency) ds;
  prompts = filter_map (λ d. d.prompt) ds;
  defaults = flat_map (λ d. d.defaults) ds;
  ranges = flat_map (λ d. d.ranges) ds;
  selectors = selectors;
  impliers = impliers;
}

module _ (l : Layout) where
  -- ---- Entries, by their numbers: from 0, or as they are stored
  abbrev pub statements_in : List Numbered
  statements_in = entries.statements_in l.entries

  abbrev pub index_of : ℕ → ℕ
  index_of e = entries.index_of l.entries e

  abbrev pub index_at : ℕ → Option ℕ
  index_at at = entries.index_at l.entries at

  abbrev pub place_of : ℕ → EntryPlace
  place_of at = place_at l.places.items at

  -- an entry; its attributes; their statements; the attribute with this number
  abbrev pub entry_at : ℕ → Option Entry
  entry_at at = option_and_then (slice_get l.entries.first_lines.items) (unstored at)

  abbrev pub own_at : ℕ → List AttributeLine
  own_at at = elim (unstored at) [ None ↦ [] | Some e ↦ entries.own_attributes l.entries e ]

  abbrev pub said_at : ℕ → List Numbered
  said_at at = entries.statements_of (own_at at)

  abbrev pub attribute_in : ℕ → Option Attribute
  attribute_in id = option_map (λ (a : AttributeLine). a.attribute) (option_and_then (slice_get l.entries.attributes.items) (unstored id))

  abbrev pub symbol_at : ℕ → Option SymId
  symbol_at at = option_and_then (entries.entry_symbol l.entries) (unstored at)

  -- the nearest entry with a condition among the blocks around an entry; the nearest menu with a `visible if` line among them
  abbrev pub outer_context : ℕ → ℕ
  outer_context at = (place_of (place_of at).outer.0).context.0

  abbrev pub outer_visible : ℕ → ℕ
  outer_visible at = (place_of (place_of at).outer.0).visible.0

  -- ---- The conditions of entries
  -- the condition of statement i as a context: the whole condition of what is in its block, or of itself if it begins no block
  abbrev pub condition_of : ℕ → Condition
  condition_of i = record {
    conjuncts = flat_map (block_conjuncts statements_in) (enclosing statements_in i) ++ asked_by (slice_get statements_in i) (attributes statements_in i);
    mode = mode_in (slice_get statements_in i) (choice_number statements_in i) (enclosing_choice statements_in i);
  }

  abbrev pub condition_at : ℕ → Condition
  condition_at at = elim (index_at at) [ None ↦ top | Some i ↦ condition_of i ]

  -- the menu with this number among those with a `visible if` line; the `visible if` conditions of it and of the menus around it
  abbrev pub visible_menu : ℕ → ℕ
  visible_menu v = elim (option_and_then (slice_get l.visibles.items) (unstored v)) [ None ↦ 0 | Some menu ↦ menu.0 ]

  abbrev pub visible_at : ℕ → List Form
  visible_at v = elim (index_at (visible_menu v)) [ None ↦ [] | Some i ↦ enclosing_visible statements_in i ++ own_visible statements_in i ]

  -- ---- Symbols
  -- the prompt of an entry with this place; the condition of this prompt
  abbrev pub prompt_in : EntryPlace → Option (InputPrompt Form)
  prompt_in p = option_and_then prompt_of (option_map attribute_view (attribute_in p.prompt.0))

  abbrev pub prompt_when : Condition → EntryPlace → Option Condition
  prompt_when dependency p = option_map (prompt_view dependency (visible_at p.visible.0)) (prompt_in p)

  -- the facts of the entry with this number
  abbrev pub definition_facts : ℕ → DefinitionFacts
  definition_facts e = let p = place_of (suc e) in let dependency = condition_at p.context.0 in record {
    dependency = dependency;
    prompt = prompt_when dependency p;
    defaults = map (default_view dependency) (filter_map stated_default (entries.said_by l.entries e));
    ranges = map (range_view dependency) (filter_map range_in (entries.said_by l.entries e));
  }

  -- the definitions of a symbol from an entry on, given by its number as it is stored; for 0 there are none
  abbrev pub definitions_at : SymId → ℕ → List ℕ
  definitions_at s at = elim (unstored at) [ None ↦ [] | Some e ↦ entries.definitions_from l.entries s e ]

  abbrev pub definitions_of : SymId → List DefinitionFacts
  definitions_of s = map definition_facts (entries.definitions_from l.entries s 0)

  -- a line that selects or implies: its target; the symbol in whose definition it is, with its condition
  abbrev pub target_in : Selector → Option (SelectOrImply × SymId × Option Form)
  target_in r = option_and_then target_of (line_in l.entries r)

  abbrev pub selector_facts : Selector → Option (Guarded SymId)
  selector_facts r = option_and_then (λ s.
      option_map (λ t. record { what = s; when = with_when (condition_at (place_of r.entry.0).context.0) (t.2) }) (target_in r)) (symbol_at r.entry.0)

  -- the lines that select or imply a symbol, before line number `at`; the facts of such lines
  abbrev pub lines_up_to : SelectOrImply → SymId → ℕ → List ℕ
  lines_up_to w s at = lines_before l.entries l.selectors.items w s at

  abbrev pub selectors_up_to : SelectOrImply → SymId → ℕ → List (Guarded SymId)
  selectors_up_to w s at = filter_map (λ j. option_and_then selector_facts (slice_get l.selectors.items j)) (lines_up_to w s at)

  abbrev pub selectors_at : ℕ → List (Guarded SymId)
  selectors_at s = selectors_up_to word.Select (symbol s) (length l.selectors.items)

  abbrev pub impliers_at : ℕ → List (Guarded SymId)
  impliers_at s = selectors_up_to word.Imply (symbol s) (length l.selectors.items)

  -- the facts of the symbol with this number and this row
  abbrev pub facts_of : ℕ → Symbol → SymbolFacts
  facts_of i row = facts_by row.symbol_type (mode_view row.choice) (definitions_of (symbol i)) (selectors_at i) (impliers_at i)

  -- ---- Choices
  -- the number of the choice that an entry begins
  abbrev pub choice_at : ℕ → Option ℕ
  choice_at at = position (λ (c : Choice). c.entry.0 == at) l.choices.items

  -- whether the row of a symbol says that it is a member of choice k
  abbrev pub is_member : ℕ → SymId → Bool
  is_member k s = list_any (λ (row : Symbol). list_any (λ j. j == k) (listed (mode_view row.choice))) (listed (slice_get l.symbols.items s.0))

  -- the member of choice k that a default names
  abbrev pub member_named : ℕ → Numbered → Option SymId
  member_named k line = option_and_then (λ s. if is_member k s then Some s else None) (default_symbol line)

  -- what the choice itself depends on, unlike its members
  abbrev pub choice_dependency : Choice → Condition
  choice_dependency c = record { conjuncts = (condition_at (outer_context c.entry.0)).conjuncts ++ filter_map dependency_in (said_at c.entry.0); mode = None }

  -- a default of choice k, if it names a member
  abbrev pub member_default : ℕ → Condition → StatedDefault → Option (Guarded SymId)
  member_default k dependency d = option_and_then (λ s. if is_member k s then Some (record { what = s; when = with_when dependency d.when }) else None) (single_symbol d.value)

  abbrev pub choice_facts : ℕ → Choice → ChoiceFacts
  choice_facts k c = let dependency = choice_dependency c in record {
    prompt = prompt_when dependency (place_of c.entry.0);
    defaults = filter_map (member_default k dependency) (filter_map stated_default (said_at c.entry.0));
    members = c.members.items;
  }

  -- ---- Entries of the menu
  abbrev pub is_first : ℕ → SymId → Bool
  is_first at s = list_any (λ (row : Symbol). row.first.0 == at) (listed (slice_get l.symbols.items s.0))

  -- the condition under which the title of an entry is shown
  abbrev pub title_condition : ℕ → Condition
  title_condition at = with_conjuncts (condition_at (place_of at).context.0) (visible_at (place_of at).visible.0)

  -- whether an entry, given by its number as it is stored, is shown in the menu
  abbrev pub is_shown : ℕ → Option Numbered → Bool
  is_shown at (Some (ConfigLine s)) = is_first at s
  is_shown at (Some (MenuLine t)) = true
  is_shown at (Some EndMenuLine) = true
  is_shown at (Some (CommentLine t)) = true
  is_shown at _ = false

  -- the number of entries of the menu before entry e
  abbrev pub shown_before : ℕ → ℕ
  shown_before e = count_by (λ k. is_shown (suc k) (entries.head_at l.entries k)) (numbers e)

  abbrev pub shown_of : ℕ → Option Numbered → Option Shown
  shown_of at (Some (ConfigLine s)) = if is_first at s then Some (SymbolShown s) else None
  shown_of at (Some (MenuLine t)) = Some (MenuShown t (title_condition at))
  shown_of at (Some EndMenuLine) = option_map (λ menu. EndShown (shown_before menu)) (unstored (place_of at).outer.0)
  shown_of at (Some (CommentLine t)) = Some (CommentShown t (condition_at (place_of at).context.0))
  shown_of at _ = None

  abbrev pub entries_in : List Shown
  entries_in = filter_map (λ e. shown_of (suc e) (entries.head_at l.entries e)) (entries.entry_numbers l.entries)

-- the layout gives the facts of the tree
pub record IsLayoutOf (t : TreeFacts) (l : Layout) : Type 0 where
  pub symbol_count : length t.symbols ≡ length l.symbols.items
  pub symbols : (i : ℕ) → slice_get t.symbols i ≡ option_map (facts_of l i) (slice_get l.symbols.items i)
  pub defined : t.defined ≡ l.defined.items
  pub choice_count : length t.choices ≡ length l.choices.items
  pub choices : (k : ℕ) → slice_get t.choices k ≡ option_map (choice_facts l k) (slice_get l.choices.items k)
  pub entries : t.entries ≡ entries_in l
  pub modules : t.modules ≡ l.modules
  pub lines : t.lines ≡ lines_in l.entries
