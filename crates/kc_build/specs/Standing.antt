-- For proofs: The places of the entries before a number, and the choices with their members.
use Rattle.std.specs.{List.filter_map, Prelude.{Bool, List, Some, [], false, filter, if◌then◌else◌, is_some, length, map, nat_lt, option_map, slice_get, suc, true, zero, ℕ, ◌++◌, ◌+◌, ◌-◌, ◌||◌, ◌∷◌, ◌≡◌, ◌≤◌}}
use Rattle.kc_language.specs.{Expansion.{Bracket, Closes, NoBracket, Opens, bracket, numbers}, Statements.{ChoiceLine, ConfigLine, EndChoiceLine, IfLine, MenuLine, Numbered}, Symbols.{dependency_in, enclosing_choice, prompt_of, range_in, stated_default, symbol_at, target_of, visible_in}, declared.expressions.SymId.SymId}
use Rattle.kc_entries.specs.{Entries.start_at, PartsOfSymbols.{enclosing_block, is_member_index}, StatementViews.head_view, declared.entries.{Entries.Entries, EntryLines.EntryLines}}
use Rattle.kc_tree.specs.{EntryViews.{begins_choice, entry_count, index_at, index_of, said_by, statements_in, statements_of}, Places.{AreChoiceEntries, AreMembers, AreVisibles, asks_at, last_said, place_at, says, shows_at, shows_before}, Stored.stored, declared.rows.{Choice.Choice, EntryId.EntryId, EntryPlace.EntryPlace, VisibleId.VisibleId}}
use Rattle.kc_build.specs.declared.blocks.Blocks.{Blocks}

-- the list with the element at index k changed
abbrev pub change : {A : Type 0} → (A → A) → ℕ → List A → List A
change g k [] = []
change g zero (x ∷ xs) = g x ∷ xs
change g (suc k) (x ∷ xs) = x ∷ change g k xs

-- ---- One entry
-- the place of an entry with this first line in a block, without its attributes
abbrev pub opens_condition : Numbered → Bool
opens_condition (IfLine e) = true
opens_condition ChoiceLine = true
opens_condition _ = false

abbrev pub bare_place : EntryPlace → EntryId → EntryId → Numbered → EntryPlace
bare_place around block at head = record {
  outer = block;
  context = if opens_condition head then at else around.context;
  visible = around.visible;
  prompt = record { 0 = 0 };
  next = record { 0 = 0 };
  has_default = false;
  has_range = false;
  has_target = false;
}

-- the number that an entry gets if it has a `visible if` line: for a menu one more than the count, for any other entry the one that it has
abbrev pub shown_number : EntryPlace → ℕ → Numbered → VisibleId
shown_number around count (MenuLine t) = record { 0 = suc count }
shown_number around count _ = around.visible

-- the place with one more attribute, which has number j of all
abbrev pub noted : EntryId → VisibleId → ℕ → Numbered → EntryPlace → EntryPlace
noted at visible j s p = record {
  outer = p.outer;
  context = if is_some (dependency_in s) then at else p.context;
  visible = if is_some (visible_in s) then visible else p.visible;
  prompt = if is_some (prompt_of s) then record { 0 = suc j } else p.prompt;
  next = p.next;
  has_default = p.has_default || is_some (stated_default s);
  has_range = p.has_range || is_some (range_in s);
  has_target = p.has_target || is_some (target_of s);
}

-- the place with all these attributes, of which the first has number j
abbrev pub all_noted : EntryId → VisibleId → ℕ → List Numbered → EntryPlace → EntryPlace
all_noted at visible j [] p = p
all_noted at visible j (s ∷ own) p = all_noted at visible (suc j) own (noted at visible j s p)

-- the place of the next entry
abbrev pub own_place : Blocks → EntryId → EntryLines → EntryPlace
own_place b at x =
    let around = place_at b.places.items b.block.0 in
    let head = head_view x.first.now.head in
    all_noted at (shown_number around (length b.visibles.items) head) x.first.now.start (statements_of x.attributes.now) (bare_place around b.block at head)

-- ---- Steps
-- a choice: its entry and its members; the same with one more member
abbrev pub ChoiceRow : Type 0
ChoiceRow = ℕ × List SymId

abbrev pub choice_row : Choice → ChoiceRow
choice_row c = (c.entry.0, c.members.items)

abbrev pub with_member : SymId → ChoiceRow → ChoiceRow
with_member s r = (r.0, r.1 ++ s ∷ [])

abbrev pub rows_of : Blocks → List ChoiceRow
rows_of b = map choice_row b.choices.items

-- the last choice gets one more member, if it is open
abbrev pub with_last_member : Bool → SymId → List ChoiceRow → List ChoiceRow
with_last_member true s rows = change (with_member s) (length rows - 1) rows
with_last_member false s rows = rows

-- no entry has been read
pub record AreNone (b : Blocks) : Type 0 where
  pub places : b.places.items ≡ []
  pub visibles : b.visibles.items ≡ []
  pub choices : b.choices.items ≡ []
  pub block : b.block.0 ≡ 0
  pub is_in_choice : b.is_in_choice ≡ false

-- the entry got its place
pub record HasPlace (old : Blocks) (at : EntryId) (x : EntryLines) (new : Blocks) : Type 0 where
  pub places : new.places.items ≡ old.places.items ++ own_place old at x ∷ []
  pub visibles : new.visibles.items ≡ (if nat_lt (length old.visibles.items) (own_place old at x).visible.0 then old.visibles.items ++ at ∷ [] else old.visibles.items)
  pub choices : new.choices ≡ old.choices
  pub block : new.block ≡ old.block
  pub is_in_choice : new.is_in_choice ≡ old.is_in_choice

-- the places, and the menus with a `visible if` line, are unchanged
pub record KeepsPlaces (old new : Blocks) : Type 0 where
  pub places : new.places ≡ old.places
  pub visibles : new.visibles ≡ old.visibles

-- a choice opens; a symbol becomes a member; the innermost block closes
pub record HasOpened (at : EntryId) (old new : Blocks) : Type 0 where
  pub keeps : KeepsPlaces old new
  pub rows : rows_of new ≡ rows_of old ++ (at.0, []) ∷ []
  pub block : new.block ≡ at
  pub is_in_choice : new.is_in_choice ≡ true

pub record HasMember (s : SymId) (old new : Blocks) : Type 0 where
  pub keeps : KeepsPlaces old new
  pub rows : rows_of new ≡ with_last_member old.is_in_choice s (rows_of old)
  pub block : new.block ≡ old.block
  pub is_in_choice : new.is_in_choice ≡ old.is_in_choice

pub record HasClosed (old new : Blocks) : Type 0 where
  pub keeps : KeepsPlaces old new
  pub choices : new.choices ≡ old.choices
  pub block : new.block ≡ (place_at old.places.items old.block.0).outer
  pub is_in_choice : new.is_in_choice ≡ old.is_in_choice

-- how an entry changes the blocks, from its first line
abbrev pub turned_rows : EntryId → Numbered → Bool → List ChoiceRow → List ChoiceRow
turned_rows at (ConfigLine s) within rows = with_last_member within s rows
turned_rows at ChoiceLine within rows = rows ++ (at.0, []) ∷ []
turned_rows at _ within rows = rows

abbrev pub turned_block : EntryId → EntryId → EntryId → Bracket → EntryId
turned_block at outer block (Opens b) = at
turned_block at outer block Closes = outer
turned_block at outer block NoBracket = block

abbrev pub turned_choice : Numbered → Bool → Bool
turned_choice ChoiceLine within = true
turned_choice EndChoiceLine within = false
turned_choice _ within = within

pub record HasTurned (at : EntryId) (head : Numbered) (old new : Blocks) : Type 0 where
  pub keeps : KeepsPlaces old new
  pub rows : rows_of new ≡ turned_rows at head old.is_in_choice (rows_of old)
  pub block : new.block ≡ turned_block at (place_at old.places.items old.block.0).outer old.block (bracket head)
  pub is_in_choice : new.is_in_choice ≡ turned_choice head old.is_in_choice

-- ---- All entries before a number
module _ (es : Entries) where
  -- the place of an entry, except for the next definition
  pub record Stands (places : List EntryPlace) (e : ℕ) (p : EntryPlace) : Type 0 where
    pub outer : index_at es p.outer.0 ≡ enclosing_block (statements_in es) (index_of es e)
    pub before : p.outer.0 ≤ e
    pub context : p.context.0 ≡ (if asks_at es e then suc e else (place_at places p.outer.0).context.0)
    pub visible : p.visible.0 ≡ (if shows_at es e then suc (shows_before es e) else (place_at places p.outer.0).visible.0)
    pub prompt : p.prompt.0 ≡ stored (option_map (λ j. start_at es e + j) (last_said prompt_of (said_by es e)))
    pub has_default : p.has_default ≡ says stated_default (said_by es e)
    pub has_range : p.has_range ≡ says range_in (said_by es e)
    pub has_target : p.has_target ≡ says target_of (said_by es e)

  abbrev pub AreStanding : List EntryPlace → Type 0
  AreStanding places = (e : ℕ) (p : EntryPlace) → slice_get places e ≡ Some p → Stands places e p

  -- all places, menus with a `visible if` line, and choices
  pub record AreBlocksOf (b : Blocks) : Type 0 where
    pub count : length b.places.items ≡ entry_count es
    pub standing : AreStanding b.places.items
    pub visibles : AreVisibles es b.visibles.items
    pub choice_entries : AreChoiceEntries es b.choices.items
    pub members : AreMembers es b.choices.items

  -- the symbols that the entries before entry i define in choice k
  abbrev pub members_before : ℕ → ℕ → List SymId
  members_before i k = filter_map (symbol_at (statements_in es)) (filter (is_member_index (statements_in es) k) (numbers (index_of es i)))

  -- the same before entry i, and which blocks are open there
  pub record AreBlocksBefore (i : ℕ) (b : Blocks) : Type 0 where
    pub count : length b.places.items ≡ i
    pub standing : AreStanding b.places.items
    pub within : (e : ℕ) (p : EntryPlace) → slice_get b.places.items e ≡ Some p → p.visible.0 ≤ length b.visibles.items
    pub visibles : map (λ (v : EntryId). v.0) b.visibles.items ≡ map suc (filter (shows_at es) (numbers i))
    pub choice_entries : map (λ (c : Choice). c.entry.0) b.choices.items ≡ map suc (filter (begins_choice es) (numbers i))
    pub members : (k : ℕ) (c : Choice) → slice_get b.choices.items k ≡ Some c → c.members.items ≡ members_before i k
    pub block : index_at es b.block.0 ≡ enclosing_block (statements_in es) (index_of es i)
    pub before : b.block.0 ≤ i
    pub is_in_choice : b.is_in_choice ≡ is_some (enclosing_choice (statements_in es) (index_of es i))
