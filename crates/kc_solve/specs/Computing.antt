-- For proofs: The table while it is computed, node by node.
use Rattle.std.specs.{List.Contains, Prelude.{List, None, Option, Some, length, slice_index_or, suc, take, ℕ, ◌<◌, ◌≡◌, ◌≢◌}}
use Rattle.kc_language.specs.{Expressions.{SymbolValue, symbol}, Needs.{condition_names, names_of_choice}, Symbols.TreeFacts, Values.{GivenValue, Solves, UserPlace, choice_at, equations, name_count, rhs, selected, user_place}, declared.expressions.{SymId.SymId, SymbolType.SymbolType, Tri.Tri}}
use Rattle.kc_expr.specs.Value.{value_by_type}
use Rattle.kc_solve.specs.{Kept.valuation, Orders.{IsNodeOrder, own_condition, visible_condition}, PlaceLists.places}
use Rattle.kc_tree.specs.{Layouts.{IsLayoutOf, condition_at}, declared.{layout.Layout.Layout, rows.Symbol.Symbol}}
use Rattle.kc_values.specs.{Nodes.{choice_number, context_number, dependency_number, visible_number}, PartsOfValues.by_choice, Selections.given_for, Table.{known_in, text_in, tri_in}, TableFacts.{AreSelected, facts_in, known_at}, declared.table.{Table.Table, Value.Value}}
use Rattle.kc_user.specs.{PartsOfConfigFile.member_place, declared.value.UserValue.UserValue}

-- the places of a table for what is no symbol, as far as it is computed
pub record Slots : Type 0 where
  pub contexts : List (Option Tri)
  pub visibles : List (Option Tri)
  pub dependencies : List (Option Tri)
  pub selections : List (Option (Option SymId))

abbrev pub slots_of : Table → Slots
slots_of t = record { contexts = t.contexts.items; visibles = t.visibles.items; dependencies = t.dependencies.items; selections = t.selections.items }

-- nothing that is computed in these places names the symbol of this number
abbrev pub AreUnread : {A : Type 0} → (ℕ → List SymId) → List (Option A) → ℕ → Type 0
AreUnread {A} names slots s = (i : ℕ) (x : A) → slice_index_or slots i None ≡ Some x → Contains (names i) (symbol s) → ⊥

pub record IsUnreadIn (tree : TreeFacts) (l : Layout) (slots : Slots) (s : ℕ) : Type 0 where
  pub contexts : AreUnread (λ at. condition_names tree (condition_at l at)) slots.contexts s
  pub visibles : AreUnread (λ v. condition_names tree (visible_condition l v)) slots.visibles s
  pub dependencies : AreUnread (λ k. condition_names tree (own_condition l k)) slots.dependencies s
  pub selections : AreUnread (λ k. names_of_choice tree (choice_at tree k)) slots.selections s

abbrev pub IsUnread : Table → ℕ → Type 0
IsUnread t s = IsUnreadIn t.tree.now t.layout.now (slots_of t) s

-- the tree and the layout stay the same
pub record KeepsTree (old new : Table) : Type 0 where
  pub tree : new.tree ≡ old.tree
  pub layout : new.layout ≡ old.layout

-- the value in a place, for a symbol of this type and name
abbrev pub place_value : SymbolType → List ℕ → Option Value → SymbolValue
place_value symbol_type name x = value_by_type symbol_type (tri_in x) (text_in x name)

-- what the equation of a symbol gives under the values of a table, read from its row
abbrev pub equation_at : Table → SymId → Symbol → Option GivenValue → List (Option SymId) → SymbolValue
equation_at t id row given chosen = by_choice t.tree.now (known_at t) id (facts_in t id row) (facts_in t id row).choice (given_for row.choice given chosen)

-- the symbol has the value of its equation, and no other place changes
pub record AreComputedValues (tree : TreeFacts) (given : List (Option UserValue)) (chosen : List (Option SymId)) (id : SymId) (old new : List (Option Value)) : Type 0 where
  pub here : known_in tree new id ≡ rhs tree id.0 (places given chosen (user_place tree id.0)) (valuation tree old)
  pub others : (s : SymId) → s.0 ≢ id.0 → known_in tree new s ≡ known_in tree old s
  pub count : length new ≡ length old

pub record IsComputedSymbol (given : List (Option UserValue)) (chosen : List (Option SymId)) (id : SymId) (old new : Table) : Type 0 where
  pub keeps : KeepsTree old new
  pub values : AreComputedValues old.tree.now given chosen id old.values new.values
  pub contexts : new.contexts ≡ old.contexts
  pub visibles : new.visibles ≡ old.visibles
  pub dependencies : new.dependencies ≡ old.dependencies
  pub selections : new.selections ≡ old.selections

-- only the place of this number changes
pub record OnlyAt {A : Type 0} (i : ℕ) (old new : List (Option A)) : Type 0 where
  pub others : (j : ℕ) → j ≢ i → slice_index_or new j None ≡ slice_index_or old j None
  pub count : length new ≡ length old

-- what a menu asks of what is visible is computed, and nothing else changes
pub record IsComputedVisible (i : ℕ) (old new : Table) : Type 0 where
  pub keeps : KeepsTree old new
  pub values : new.values ≡ old.values
  pub contexts : new.contexts ≡ old.contexts
  pub visibles : OnlyAt i old.visibles.items new.visibles.items
  pub dependencies : new.dependencies ≡ old.dependencies
  pub selections : new.selections ≡ old.selections

-- what an entry depends on is computed, and nothing else changes
pub record IsComputedContext (i : ℕ) (old new : Table) : Type 0 where
  pub keeps : KeepsTree old new
  pub values : new.values ≡ old.values
  pub contexts : OnlyAt i old.contexts.items new.contexts.items
  pub visibles : new.visibles ≡ old.visibles
  pub dependencies : new.dependencies ≡ old.dependencies
  pub selections : new.selections ≡ old.selections

-- what a choice depends on itself is computed, and nothing else changes
pub record IsComputedDependency (i : ℕ) (old new : Table) : Type 0 where
  pub keeps : KeepsTree old new
  pub values : new.values ≡ old.values
  pub contexts : new.contexts ≡ old.contexts
  pub visibles : new.visibles ≡ old.visibles
  pub dependencies : OnlyAt i old.dependencies.items new.dependencies.items
  pub selections : new.selections ≡ old.selections

-- if the selection of a choice is computed, it is the selection for this user's member
abbrev pub IsSelection : TreeFacts → List (Option Value) → List (Option (Option SymId)) → ℕ → Option SymId → Type 0
IsSelection tree values selections c user =
    (x : Option SymId) → slice_index_or selections c None ≡ Some x → x ≡ selected tree (known_in tree values) (choice_at tree c) (member_place user)

-- the selection of a choice is computed, and nothing else changes
pub record IsComputedSelection (chosen : List (Option SymId)) (c : ℕ) (old new : Table) : Type 0 where
  pub keeps : KeepsTree old new
  pub values : new.values ≡ old.values
  pub contexts : new.contexts ≡ old.contexts
  pub visibles : new.visibles ≡ old.visibles
  pub dependencies : new.dependencies ≡ old.dependencies
  pub here : IsSelection old.tree.now old.values new.selections.items c (slice_index_or chosen c None)
  pub selections : OnlyAt c old.selections.items new.selections.items

-- what is computed in these places stands among these nodes
abbrev pub AreAmong : {A : Type 0} → (ℕ → ℕ) → List ℕ → List (Option A) → Type 0
AreAmong {A} number nodes slots = (i : ℕ) (x : A) → slice_index_or slots i None ≡ Some x → Contains nodes (number i)

-- the top is computed from the start
abbrev pub AreContextsAmong : Layout → List ℕ → List (Option Tri) → Type 0
AreContextsAmong l nodes slots = (i : ℕ) (x : Tri) → 0 < i → slice_index_or slots i None ≡ Some x → Contains nodes (context_number l i)

-- after the first k nodes, from these values on: each symbol among them has its value, and only nodes among them are computed
pub record IsComputedTo (tree : TreeFacts) (l : Layout) (given : List (Option UserValue)) (chosen : List (Option SymId)) (base : List (Option Value)) (nodes : List ℕ) (k : ℕ)
    (values : List (Option Value)) (slots : Slots) : Type 0 where
  pub laid : IsLayoutOf tree l
  pub order : IsNodeOrder tree l nodes
  pub value_count : length values ≡ length l.symbols.items
  pub context_count : length slots.contexts ≡ suc (length l.places.items)
  pub visible_count : length slots.visibles ≡ suc (length l.visibles.items)
  pub dependency_count : length slots.dependencies ≡ length l.choices.items
  pub choice_count : length slots.selections ≡ length l.choices.items
  pub symbols_are : (s : ℕ) → s < length values → Contains (take k nodes) s → known_in tree values (symbol s) ≡ equations tree (places given chosen) s (valuation tree values)
  -- the others have the value that they had at first
  pub others_kept : (s : ℕ) → (Contains (take k nodes) s → ⊥) → known_in tree values (symbol s) ≡ known_in tree base (symbol s)
  pub contexts_among : AreContextsAmong l (take k nodes) slots.contexts
  pub visibles_among : AreAmong (visible_number l) (take k nodes) slots.visibles
  pub dependencies_among : AreAmong (dependency_number l) (take k nodes) slots.dependencies
  pub choices_among : AreAmong (choice_number l) (take k nodes) slots.selections
  pub selected_are : (c : ℕ) → IsSelection tree values slots.selections c (slice_index_or chosen c None)

abbrev pub IsComputedTable : TreeFacts → Layout → List (Option UserValue) → List (Option SymId) → List (Option Value) → List ℕ → ℕ → Table → Type 0
IsComputedTable tree l given chosen base nodes k t = (t.tree.now ≡ tree) × IsComputedTo tree t.layout.now given chosen base nodes k t.values (slots_of t) × (t.layout.now ≡ l)

-- a full table that solves the equations for these user values, and selects for the members chosen
pub record IsSolvedTable (tree : TreeFacts) (user : UserPlace → Option GivenValue) (chosen : List (Option SymId)) (t : Table) : Type 0 where
  pub tree_is : t.tree.now ≡ tree
  pub full : length t.values ≡ name_count tree
  pub selected : AreSelected t chosen
  pub solves : Solves (name_count tree) (equations tree user) (valuation tree t.values)
