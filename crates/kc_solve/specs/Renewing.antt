-- For proofs: The table while it is renewed, node by node.
use Rattle.std.specs.{List.Contains, Prelude.{Bool, List, None, Option, Some, [], false, get_or, length, replicate, slice_index_or, suc, take, true, ℕ, ◌<◌, ◌≡◌, ◌≤◌, ◌∷◌}}
use Rattle.kc_language.specs.{Expressions.symbol, Needs.needs_in, Symbols.TreeFacts, Values.{GivenValue, UserPlace, equations, name_count}, declared.expressions.{SymId.SymId, Tri.TheVariants.Y}}
use Rattle.kc_order.specs.Graph.{Nodes}
use Rattle.kc_tree.specs.{Places.mode_view, declared.{laid_tree.LaidTree.LaidTree, layout.Layout.Layout, rows.Symbol.Symbol}}
use Rattle.kc_user.specs.declared.value.UserValue.{UserValue}
use Rattle.kc_values.specs.{NodeWorth.IsWorthAlike, Nodes.IsNode, PartsOfValues.user_place_by, Selections.member_given, Table.known_in, TableFacts.{AreSelected, IsRowOf}, declared.{nodes.Node.Node, table.{Table.Table, Value.Value}}}
use Rattle.kc_solve.specs.{Computing.{IsUnread, Slots}, Kept.valuation, PlaceLists.places, declared.{asked.UserLists.UserLists, slots.KeptSlots.KeptSlots}}

-- what the user gives in the place that the equation of a symbol reads, by its row
abbrev pub asked_of : List (Option UserValue) → List (Option SymId) → ℕ → Symbol → Option GivenValue
asked_of given chosen s row = places given chosen (user_place_by s (mode_view row.choice))

-- the value of the symbol is the one that its equation gives under the values
abbrev pub SolvesAt : TreeFacts → (UserPlace → Option GivenValue) → List (Option Value) → ℕ → Type 0
SolvesAt tree user values s = known_in tree values (symbol s) ≡ equations tree user s (valuation tree values)

-- the symbol can be computed next: nothing that is computed reads it
pub record IsNextSymbol (given : List (Option UserValue)) (chosen : List (Option SymId)) (id : SymId) (t : Table) : Type 0 where
  pub there : id.0 < length t.values
  pub given_count : length given ≡ length t.values
  pub full : length t.values ≡ name_count t.tree.now
  pub selected : AreSelected t chosen
  pub unread : IsUnread t id.0

-- a table with these values, where nothing else is computed but the top
pub record IsTableFrom (laid : LaidTree) (values : List (Option Value)) (t : Table) : Type 0 where
  pub tree : t.tree.now ≡ laid.tree.now
  pub layout : t.layout.now ≡ laid.layout.now
  pub values_are : t.values ≡ values
  pub contexts : t.contexts.items ≡ Some Y ∷ replicate (length laid.layout.now.places.items) None
  pub visibles : t.visibles.items ≡ replicate (suc (length laid.layout.now.visibles.items)) None
  pub dependencies : t.dependencies.items ≡ replicate (length laid.layout.now.choices.items) None
  pub selections : t.selections.items ≡ replicate (length laid.layout.now.choices.items) None

-- the user values are the same that the equation of this symbol reads
abbrev pub IsAskedAlike : UserLists → UserLists → SymId → Table → Type 0
IsAskedAlike before now id t = (row : Symbol) → IsRowOf t id row → asked_of before.values.now before.members.now id.0 row ≡ asked_of now.values.now now.members.now id.0 row

-- what is kept in a place, if anything is, is this
abbrev pub HoldsAt : {A : Type 0} → ℕ → List (Option A) → A → Type 0
HoldsAt {A} i slots worth = (x : A) → slice_index_or slots i None ≡ Some x → x ≡ worth

-- two places hold the same
abbrev pub IsSameAt : {A : Type 0} → ℕ → List (Option A) → List (Option A) → Type 0
IsSameAt {A} i kept now = (x : A) × (slice_index_or kept i None ≡ Some x) × (slice_index_or now i None ≡ Some x)

abbrev pub kept_slots : KeptSlots → Slots
kept_slots kept = record { contexts = kept.contexts.items; visibles = kept.visibles.items; dependencies = kept.dependencies.items; selections = kept.selections.items }

-- these lists have a node more: those of the nodes in this row have it, and none has less than before
pub record HaveReader (row : List ℕ) (node : ℕ) (old new : List (List ℕ)) : Type 0 where
  pub count : length new ≡ length old
  pub kept : (t n : ℕ) → Contains (get_or old t []) n → Contains (get_or new t []) n
  pub added : (t : ℕ) → Contains row t → Contains (get_or new t []) node

-- these nodes are marked, and those that were
pub record AreMarked (nodes : List ℕ) (old new : List Bool) : Type 0 where
  pub count : length new ≡ length old
  pub kept : (n : ℕ) → slice_index_or new n true ≡ false → slice_index_or old n true ≡ false
  pub marked : (n : ℕ) → slice_index_or new n true ≡ false → Contains nodes n → ⊥

-- What is known after the first k nodes: what a node reads that is not marked is worth what it was.
abbrev pub AreMarks : TreeFacts → Layout → Nodes → List ℕ → ℕ → List (Option SymId) → List (Option Value) → List (Option Value) → List Bool → Type 0
AreMarks tree l g nodes k chosen base values marks =
    (m n : ℕ) (x : Node) → Contains (take k nodes) m → IsNode l m x → Contains (needs_in g.rows n) m → slice_index_or marks n true ≡ false → IsWorthAlike tree l (member_given chosen) (valuation tree base) (valuation tree values) x

-- the first i places hold what those of a list do, the others nothing
pub record IsCopiedTo {A : Type 0} (i : ℕ) (of copy : List (Option A)) : Type 0 where
  pub count : length copy ≡ length of
  pub before : (j : ℕ) → j < i → slice_index_or copy j None ≡ slice_index_or of j None
  pub after : (j : ℕ) → i ≤ j → slice_index_or copy j None ≡ None
