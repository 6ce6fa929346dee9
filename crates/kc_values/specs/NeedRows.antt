-- Trusted: The rows of the graph of needs: for each node the nodes that it needs, and the names.
use Rattle.std.specs.{List.{flat_map, range_with_len}, Prelude.{Bool, List, None, Option, Some, [], false, filter, if◌then◌else◌, length, map, nat_lt, reverse, slice_get, suc, true, ℕ, ◌&&◌, ◌++◌, ◌==◌, ◌||◌, ◌∷◌, ◌≡◌}}
use Rattle.kc_language.specs.{Expressions.{Form, leaf_symbols, symbol, symbols}, Statements.{ChoiceLine, IfLine, InputPrompt, Numbered}, Symbols.{Bounds, StatedDefault, TreeFacts, dependency_in, range_in, stated_default, visible_in}, declared.{expressions.{SymId.SymId, SymbolType.{SymbolType, TheVariants.{Bool as IsBool, Hex, Int, Str, Tristate, Undefined}}}, symbols.{ChoiceId.ChoiceId, SelectOrImply.SelectOrImply}}}
use Rattle.kc_language.specs.declared.symbols.SelectOrImply.TheVariants as word
use Rattle.kc_order.specs.Graph.{Nodes}
use Rattle.kc_entries.specs.{StatementViews.head_view, declared.entries.Entry.Entry}
use Rattle.kc_tree.specs.{Layouts.{definitions_at, entry_at, lines_up_to, member_named, outer_context, outer_visible, place_of, prompt_in, said_at, symbol_at, target_in}, Places.says, declared.{layout.Layout.Layout, rows.{Choice.Choice, EntryId.EntryId, EntryPlace.EntryPlace, Selector.Selector, Symbol.Symbol}}}
use Rattle.kc_values.specs.{Nodes.{choice_number, context_number, dependency_number, node_count, visible_number}, PartsOfNeeds.type_names}

-- Nodes that are needed, by number, and names.
pub record Needed : Type 0 where
  pub nodes : List ℕ
  pub names : List SymId

abbrev pub nothing : Needed
nothing = record { nodes = []; names = [] }

abbrev pub node : ℕ → Needed
node t = record { nodes = t ∷ []; names = [] }

abbrev pub named : List SymId → Needed
named ss = record { nodes = []; names = ss }

abbrev pub both : Needed → Needed → Needed
both a b = record { nodes = a.nodes ++ b.nodes; names = a.names ++ b.names }

abbrev pub where_true : Bool → Needed → Needed
where_true true n = n
where_true false n = nothing

-- what each element needs, one after another
abbrev pub each : {X : Type 0} → (X → Needed) → List X → Needed
each f xs = record { nodes = flat_map (λ x. (f x).nodes) xs; names = flat_map (λ x. (f x).names) xs }

abbrev pub is_number : SymbolType → Bool
is_number Undefined = false
is_number IsBool = false
is_number Tristate = false
is_number Str = false
is_number Int = true
is_number Hex = true

abbrev pub is_truth : SymbolType → Bool
is_truth Undefined = false
is_truth IsBool = true
is_truth Tristate = true
is_truth Str = false
is_truth Int = false
is_truth Hex = false

-- names, if this is the modules symbol
module _ (modules : Option SymId) where
  abbrev pub when_names : Option Form → List SymId
  when_names None = []
  when_names (Some f) = symbols modules f

  abbrev pub default_names : StatedDefault → List SymId
  default_names d = symbols modules d.value ++ when_names d.when

  abbrev pub range_names : Bounds × Option Form → List SymId
  range_names r = leaf_symbols r.0.low ++ leaf_symbols r.0.high ++ when_names r.1

  -- the names in a line of a definition; those in a range, if ranges count
  abbrev pub names_of_range : Bool → Option (Bounds × Option Form) → List SymId
  names_of_range counts None = []
  names_of_range counts (Some r) = if counts then range_names r else []

  abbrev pub names_of_line : Bool → Option StatedDefault → Option (Bounds × Option Form) → List SymId
  names_of_line counts None r = names_of_range counts r
  names_of_line counts (Some d) r = default_names d

  abbrev pub line_names : Bool → Numbered → List SymId
  line_names counts line = names_of_line counts (stated_default line) (range_in line)

-- the last line that selects or implies a symbol with this row, by its number as it is stored
abbrev pub last_line : Symbol → SelectOrImply → ℕ
last_line row word.Select = row.last_select.0
last_line row word.Imply = row.last_imply.0

module _ (l : Layout) where
  -- ---- Parts of rows
  -- what an entry depends on, but for the top; what a menu asks of what is visible, if there is such a menu
  abbrev pub context : ℕ → Needed
  context at = record { nodes = if at == 0 then [] else context_number l at ∷ []; names = [] }

  abbrev pub visible : ℕ → Needed
  visible v = record { nodes = if v == 0 then [] else visible_number l v ∷ []; names = [] }

  -- the names in these `depends on` lines
  abbrev pub depends : List Numbered → Needed
  depends own = named (flat_map (λ line. when_names l.modules (dependency_in line)) own)

  -- a prompt of an entry with this place, but for what the entry depends on
  abbrev pub prompt : EntryPlace → InputPrompt Form → Needed
  prompt p q = both (visible p.visible.0) (named (when_names l.modules q.when))

  -- ---- Menus, contexts, and what choices depend on themselves
  abbrev pub visible_row : ℕ → Needed
  visible_row menu = both (visible (outer_visible l menu)) (named (flat_map (λ line. when_names l.modules (visible_in line)) (said_at l menu)))

  -- the mode of a choice, as an entry with these attributes; the nodes of choices come after it, so it repeats the `depends on` lines
  abbrev pub mode_by : EntryPlace → List Numbered → Option (InputPrompt Form) → Needed
  mode_by p own None = nothing
  mode_by p own (Some q) = both (depends own) (prompt p q)

  -- what an entry with this first line and these attributes asks for itself
  abbrev pub asked : EntryPlace → Numbered → List Numbered → Needed
  asked p (IfLine e) own = named (symbols l.modules e)
  asked p ChoiceLine own = mode_by p own (prompt_in l p)
  asked p _ own = depends own

  abbrev pub context_by : ℕ → Option Entry → Needed
  context_by at None = nothing
  context_by at (Some x) = both (context (outer_context l at)) (asked (place_of l at) (head_view x.head) (said_at l at))

  -- an entry that is not its own context needs nothing
  abbrev pub context_row : ℕ → Needed
  context_row at = where_true ((place_of l at).context.0 == at) (context_by at (entry_at l at))

  abbrev pub dependency_row : Choice → Needed
  dependency_row c = both (context (outer_context l c.entry.0)) (depends (said_at l c.entry.0))

  -- ---- Symbols
  -- a definition's prompt with what the definition depends on
  abbrev pub own_prompt : EntryPlace → Option (InputPrompt Form) → Needed
  own_prompt p None = nothing
  own_prompt p (Some q) = both (context p.context.0) (prompt p q)

  -- the same, but without a prompt too, if something else is read under what the definition depends on
  abbrev pub asking : Bool → EntryPlace → Option (InputPrompt Form) → Needed
  asking read p None = where_true read (context p.context.0)
  asking read p (Some q) = both (context p.context.0) (prompt p q)

  -- a line of a definition of a symbol of this type counts; or its equation reads what the definition depends on
  abbrev pub is_read : SymbolType → List Numbered → Bool
  is_read symbol_type own = is_truth symbol_type || (says stated_default own || (says range_in own && is_number symbol_type))

  -- the entry with a number as it is stored, as a definition of a symbol of this type
  abbrev pub definition : SymbolType → ℕ → Needed
  definition symbol_type at =
      let p = place_of l at in
      let own = said_at l at in
      both (asking (is_read symbol_type own) p (prompt_in l p)) (named (flat_map (line_names l.modules (is_number symbol_type)) own))

  -- the definitions of a symbol from one on; their prompts alone
  abbrev pub definitions : SymbolType → SymId → ℕ → Needed
  definitions symbol_type s at = each (λ e. definition symbol_type (suc e)) (definitions_at l s at)

  abbrev pub prompts : SymId → ℕ → Needed
  prompts s at = each (λ e. let p = place_of l (suc e) in own_prompt p (prompt_in l p)) (definitions_at l s at)

  -- a line that selects or implies: the symbol that it stands at, and its condition
  abbrev pub selector_by : EntryPlace → Option SymId → Option (SelectOrImply × SymId × Option Form) → Needed
  selector_by p None t = nothing
  selector_by p (Some s) None = nothing
  selector_by p (Some s) (Some t) = both (both (named (s ∷ [])) (context p.context.0)) (named (when_names l.modules (t.2)))

  abbrev pub selector : Selector → Needed
  selector r = selector_by (place_of l r.entry.0) (symbol_at l r.entry.0) (target_in l r)

  abbrev pub selector_at : Option Selector → Needed
  selector_at None = nothing
  selector_at (Some r) = selector r

  -- the lines that select or imply a symbol up to one, from the last on
  abbrev pub selectors : SelectOrImply → SymId → ℕ → Needed
  selectors w s at = each (λ j. selector_at (slice_get l.selectors.items j)) (reverse (lines_up_to l w s at))

  -- ---- Choices
  abbrev pub member_by : SymId → Option Symbol → Needed
  member_by s None = nothing
  member_by s (Some row) = prompts s row.first.0

  -- the prompts of members
  abbrev pub members : List SymId → Needed
  members ms = each (λ m. member_by m (slice_get l.symbols.items m.0)) ms

  abbrev pub choice_mode : ℕ → EntryPlace → Option (InputPrompt Form) → Needed
  choice_mode k p None = nothing
  choice_mode k p (Some q) = both (node (dependency_number l k)) (prompt p q)

  -- the condition of a default that names a member
  abbrev pub names_of_default : Option SymId → Option StatedDefault → List SymId
  names_of_default member None = []
  names_of_default None (Some d) = []
  names_of_default (Some m) (Some d) = when_names l.modules d.when

  abbrev pub choice_default_names : ℕ → Numbered → List SymId
  choice_default_names k line = names_of_default (member_named l k line) (stated_default line)

  abbrev pub choice_defaults : ℕ → List Numbered → Needed
  choice_defaults k own = both (named (flat_map (choice_default_names k) own)) (where_true (says (member_named l k) own) (node (dependency_number l k)))

  abbrev pub choice : ℕ → Choice → Needed
  choice k c =
      let p = place_of l c.entry.0 in
      both (both (members c.members.items) (choice_mode k p (prompt_in l p))) (choice_defaults k (said_at l c.entry.0))

  -- ---- Rows
  -- the numbers of the symbols among these names
  abbrev pub numbers : List SymId → List ℕ
  numbers names = map (λ (s : SymId). s.0) (filter (λ (s : SymId). nat_lt s.0 (length l.symbols.items)) names)

  abbrev pub row_of : Needed → List ℕ
  row_of n = n.nodes ++ numbers n.names

  -- none comes first, and needs nothing
  abbrev pub visible_rows : List (List ℕ)
  visible_rows = [] ∷ map (λ (menu : EntryId). row_of (visible_row menu.0)) l.visibles.items

  abbrev pub context_rows : List (List ℕ)
  context_rows = map (λ at. row_of (context_row at)) (range_with_len 0 (suc (length l.places.items)))

  abbrev pub dependency_rows : List (List ℕ)
  dependency_rows = map (λ c. row_of (dependency_row c)) l.choices.items

  abbrev pub choice_by : ℕ → Option Choice → Needed
  choice_by k None = nothing
  choice_by k (Some c) = choice k c

  abbrev pub choice_rows : List (List ℕ)
  choice_rows = map (λ k. row_of (choice_by k (slice_get l.choices.items k))) (range_with_len 0 (length l.choices.items))

module _ (tree : TreeFacts) (l : Layout) where
  -- a bool or tristate outside a choice
  abbrev pub truth : SymId → Symbol → Needed
  truth s row =
      both (both (both (definitions l row.symbol_type s row.first.0) (selectors l word.Select s (last_line row word.Select))) (selectors l word.Imply s (last_line row word.Imply)))
      (named (type_names tree row.symbol_type))

  abbrev pub by_type : SymId → Symbol → SymbolType → Needed
  by_type s row Undefined = nothing
  by_type s row IsBool = truth s row
  by_type s row Tristate = truth s row
  by_type s row Str = definitions l row.symbol_type s row.first.0
  by_type s row Int = definitions l row.symbol_type s row.first.0
  by_type s row Hex = definitions l row.symbol_type s row.first.0

  -- a member needs what the selection of its choice does
  abbrev pub by_choice : SymId → Symbol → Option ChoiceId → Needed
  by_choice s row (Some k) = node (choice_number l k.0)
  by_choice s row None = by_type s row row.symbol_type

  abbrev pub symbol_by : ℕ → Option Symbol → Needed
  symbol_by i None = nothing
  symbol_by i (Some row) = by_choice (symbol i) row row.choice

  abbrev pub symbol_rows : List (List ℕ)
  symbol_rows = map (λ i. row_of l (symbol_by i (slice_get l.symbols.items i))) (range_with_len 0 (length l.symbols.items))

-- The graph of a tree's needs: its symbols; the menus with a `visible if` line; the entries; what the choices depend on themselves; and the choices.
pub record AreNodeRows (tree : TreeFacts) (l : Layout) (g : Nodes) : Type 0 where
  pub symbols_are : g.symbols ≡ length l.symbols.items
  pub count : length g.rows ≡ node_count l
  pub rows_are : g.rows ≡ (((symbol_rows tree l ++ visible_rows l) ++ context_rows l) ++ dependency_rows l) ++ choice_rows l
