-- Trusted: The places of the entries of a tree: each field can be found in the entries.
use Rattle.std.specs.{List.{Sorted.{IsNonDecreasingBy, IsPartitionPoint}, flat_map, list_any}, Option.option_and_then, Prelude.{Bool, List, Option, Some, [], count_by, false, filter, if◌then◌else◌, is_some, length, map, nat_lt, option_map, slice_get, slice_index_or, suc, true, zero, ℕ, ◌+◌, ◌<◌, ◌==◌, ◌≡◌, ◌≤◌}}
use Rattle.kc_language.specs.{Expansion.{last_of, numbers}, Expressions.symbol, Statements.{ChoiceLine, IfLine, MenuLine, Numbered}, Symbols.{can_be_target, choice_of, dependency_in, listed, members_of, prompt_of, range_in, stated_default, target_of, targets, type_of, visible_in}, declared.{expressions.SymId.SymId, symbols.{ChoiceId.ChoiceId, SelectOrImply.SelectOrImply}}}
use Rattle.kc_language.specs.declared.symbols.SelectOrImply.TheVariants as word
use Rattle.kc_entries.specs.{Entries.start_at, PartsOfSymbols.{enclosing_block, first_of, is_member}, declared.entries.Entries.Entries}
use Rattle.kc_tree.specs.{EntryViews.{attribute_at, begins_choice, definitions_from, entry_numbers, entry_symbol, head_at, index_at, index_of, said_by, statements_in}, Stored.{stored, unstored}, declared.rows.{Choice.Choice, EntryId.EntryId, EntryPlace.EntryPlace, Selector.Selector, Symbol.Symbol}}

-- the place of the top of the tree
abbrev pub top_place : EntryPlace
top_place = record {
  outer = record { 0 = 0 };
  context = record { 0 = 0 };
  visible = record { 0 = 0 };
  prompt = record { 0 = 0 };
  next = record { 0 = 0 };
  has_default = false;
  has_range = false;
  has_target = false;
}

-- the place of an entry, given by its number as it is stored
abbrev pub place_at : List EntryPlace → ℕ → EntryPlace
place_at places zero = top_place
place_at places (suc e) = slice_index_or places e top_place

-- the number of a choice, if there is one
abbrev pub mode_view : Option ChoiceId → Option ℕ
mode_view = option_map (λ (k : ChoiceId). k.0)

-- whether `read` accepts a statement of a list; the index of the last statement that it accepts
abbrev pub says : {X : Type 0} → (Numbered → Option X) → List Numbered → Bool
says read = list_any (λ s. is_some (read s))

abbrev pub last_said : {X : Type 0} → (Numbered → Option X) → List Numbered → Option ℕ
last_said read ss = last_of (filter (λ j. is_some (option_and_then read (slice_get ss j))) (numbers (length ss)))

-- whether an entry with this first line and these attributes has a condition; whether it is a menu with a `visible if` line
abbrev pub asks : Option Numbered → List Numbered → Bool
asks (Some (IfLine e)) own = true
asks (Some ChoiceLine) own = true
asks _ own = says dependency_in own

abbrev pub shows : Option Numbered → List Numbered → Bool
shows (Some (MenuLine t)) own = says visible_in own
shows _ own = false

-- the entries of choices are in ascending order; this many of them are before an entry
abbrev pub AreRising : List Choice → Type 0
AreRising = IsNonDecreasingBy (λ (c : Choice). c.entry.0)

abbrev pub IsPointAt : ℕ → List Choice → ℕ → Type 0
IsPointAt at = IsPartitionPoint (λ (c : Choice). nat_lt c.entry.0 at ≡ true) (λ (c : Choice). nat_lt c.entry.0 at ≡ false)

module _ (es : Entries) where
  abbrev pub asks_at : ℕ → Bool
  asks_at e = asks (head_at es e) (said_by es e)

  abbrev pub shows_at : ℕ → Bool
  shows_at e = shows (head_at es e) (said_by es e)

  -- the number of menus with a `visible if` line before an entry
  abbrev pub shows_before : ℕ → ℕ
  shows_before e = count_by shows_at (numbers e)

  -- the place of an entry
  pub record IsPlace (places : List EntryPlace) (e : ℕ) (p : EntryPlace) : Type 0 where
    -- `outer` is the innermost block around the entry; it begins before the entry
    pub outer : index_at es p.outer.0 ≡ enclosing_block (statements_in es) (index_of es e)
    pub before : p.outer.0 ≤ e
    -- an entry with a condition is its own context; any other entry has the context of the block around it
    pub context : p.context.0 ≡ (if asks_at e then suc e else (place_at places p.outer.0).context.0)
    pub visible : p.visible.0 ≡ (if shows_at e then suc (shows_before e) else (place_at places p.outer.0).visible.0)
    pub prompt : p.prompt.0 ≡ stored (option_map (λ j. start_at es e + j) (last_said prompt_of (said_by es e)))
    pub has_default : p.has_default ≡ says stated_default (said_by es e)
    pub has_range : p.has_range ≡ says range_in (said_by es e)
    pub has_target : p.has_target ≡ says target_of (said_by es e)
    -- a definition leads to the next definition of the same symbol
    pub next : (s : SymId) → entry_symbol es e ≡ Some s → p.next.0 ≡ stored (first_of (definitions_from es s (suc e)))

  abbrev pub ArePlaces : List EntryPlace → Type 0
  ArePlaces places = (e : ℕ) (p : EntryPlace) → slice_get places e ≡ Some p → IsPlace places e p

  abbrev pub AreVisibles : List EntryId → Type 0
  AreVisibles visibles = map (λ (v : EntryId). v.0) visibles ≡ map suc (filter shows_at (entry_numbers es))

  -- choice k has the members of the k-th choice; the entries of choices
  abbrev pub AreMembers : List Choice → Type 0
  AreMembers choices = (k : ℕ) (c : Choice) → slice_get choices k ≡ Some c → c.members.items ≡ members_of (statements_in es) k

  abbrev pub AreChoiceEntries : List Choice → Type 0
  AreChoiceEntries choices = map (λ (c : Choice). c.entry.0) choices ≡ map suc (filter (begins_choice es) (entry_numbers es))

  -- the lines of an entry that select or imply with an effect: the entry and the attribute, as numbers that are stored plus 1
  abbrev pub has_effect : Numbered → Bool
  has_effect l = list_any (λ t. can_be_target (statements_in es) (t.1)) (listed (target_of l))

  abbrev pub has_effect_at : ℕ → ℕ → Bool
  has_effect_at e j = list_any has_effect (listed (slice_get (said_by es e) j))

  abbrev pub effects_at : ℕ → List (ℕ × ℕ)
  effects_at e = if is_some (entry_symbol es e)
      then map (λ j. (suc e, suc (start_at es e + j))) (filter (has_effect_at e) (numbers (length (said_by es e)))) else []

  abbrev pub AreEffects : List Selector → Type 0
  AreEffects lines = map (λ (r : Selector). (r.entry.0, r.attribute.0)) lines ≡ flat_map effects_at (entry_numbers es)

  -- the statement of a line that selects or implies
  abbrev pub line_in : Selector → Option Numbered
  line_in r = option_and_then (attribute_at es) (unstored r.attribute.0)

  -- whether line j selects or implies (as w says) a symbol; the lines before line j that do
  abbrev pub names : List Selector → SelectOrImply → SymId → ℕ → Bool
  names lines w s j = is_some (option_and_then (targets w s) (option_and_then line_in (slice_get lines j)))

  abbrev pub lines_before : List Selector → SelectOrImply → SymId → ℕ → List ℕ
  lines_before lines w s j = filter (names lines w s) (numbers j)

  -- each line leads to the one before it of the same kind for the same symbol
  abbrev pub AreChained : List Selector → Type 0
  AreChained lines = (j : ℕ) (r : Selector) (w : SelectOrImply) (s : SymId) → slice_get lines j ≡ Some r → names lines w s j ≡ true →
      r.next.0 ≡ stored (last_of (lines_before lines w s j))

  -- the row of symbol i
  pub record IsSymbolRow (lines : List Selector) (i : ℕ) (row : Symbol) : Type 0 where
    pub symbol_type : row.symbol_type ≡ type_of (statements_in es) (symbol i)
    pub choice : mode_view row.choice ≡ choice_of (statements_in es) (symbol i)
    pub first : row.first.0 ≡ stored (first_of (definitions_from es (symbol i) 0))
    pub last_select : row.last_select.0 ≡ stored (last_of (lines_before lines word.Select (symbol i) (length lines)))
    pub last_imply : row.last_imply.0 ≡ stored (last_of (lines_before lines word.Imply (symbol i) (length lines)))

  abbrev pub AreSymbolRows : List Selector → List Symbol → Type 0
  AreSymbolRows lines rows = (i : ℕ) (row : Symbol) → slice_get rows i ≡ Some row → IsSymbolRow lines i row

  -- each symbol that an entry defines has a row
  abbrev pub AreRowsThere : List Symbol → Type 0
  AreRowsThere rows = (e : ℕ) (s : SymId) → entry_symbol es e ≡ Some s → s.0 < length rows

  -- a symbol is a member of its choice, and of no other
  abbrev pub AreMembersOnce : Type 0
  AreMembersOnce = (k : ℕ) (s : SymId) → is_member (statements_in es) k s ≡ list_any (λ j. j == k) (listed (choice_of (statements_in es) s))
