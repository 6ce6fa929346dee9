-- For proofs: What a node of the graph of needs is worth. It depends only on what the nodes in its row are worth.
use Rattle.std.specs.{List.Contains, Prelude.{Option, length, ℕ, ◌<◌, ◌≡◌, ◌≤◌}}
use Rattle.kc_language.specs.{Expressions.SymbolValue, Needs.needs_in, Symbols.TreeFacts, Values.{ChoicePlace, GivenValue, UserPlace, and_value, choice_at, condition, equations, known_from, name_count, selected, user_place}, declared.symbols.ChoiceId.ChoiceId}
use Rattle.kc_order.specs.Graph.{Nodes}
use Rattle.kc_tree.specs.Layouts as layout
use Rattle.kc_tree.specs.declared.{layout.Layout.Layout, rows.{EntryId.EntryId, VisibleId.VisibleId}}
use Rattle.kc_values.specs.{Computed.choice_dependency, Nodes.{IsNode, choice_number, context_number, dependency_number, visible_number}, declared.nodes.Node.Node}
use Rattle.kc_values.specs.declared.nodes.Node.TheVariants as node

-- A node is worth the same under two valuations: a symbol its value, a menu what it asks of what is visible, an entry its condition if it is its own context (another entry
-- needs nothing), a choice what it depends on itself, and what it selects for the member that the user chose.
module _ (tree : TreeFacts) (l : Layout) (chosen : ℕ → Option GivenValue) (V W : ℕ → SymbolValue) where
  abbrev pub IsWorthAlike : Node → Type 0
  IsWorthAlike (node.Symbol s) = V s.0 ≡ W s.0
  IsWorthAlike (node.Visible v) = and_value tree (known_from tree V) (layout.visible_at l v.0) ≡ and_value tree (known_from tree W) (layout.visible_at l v.0)
  IsWorthAlike (node.Context at) =
      (layout.place_of l at.0).context.0 ≡ at.0 → condition tree (known_from tree V) (layout.condition_at l at.0) ≡ condition tree (known_from tree W) (layout.condition_at l at.0)
  IsWorthAlike (node.Dependency k) = choice_dependency tree l (known_from tree V) k.0 ≡ choice_dependency tree l (known_from tree W) k.0
  IsWorthAlike (node.Choice k) = selected tree (known_from tree V) (choice_at tree k.0) (chosen k.0) ≡ selected tree (known_from tree W) (choice_at tree k.0) (chosen k.0)

  -- all nodes in the row of the node with a number are worth the same
  abbrev pub IsRowAlike : Nodes → ℕ → Type 0
  IsRowAlike g n = (t : ℕ) (m : Node) → Contains (needs_in g.rows n) t → IsNode l t m → IsWorthAlike m

  -- What a node is worth that is no symbol depends only on what the nodes in its row are worth. So does what the equation of a symbol gives, for two that give user values, if both
  -- give the same for it, and for a choice the member that the user chose.
  pub record ReadRows (g : Nodes) : Type 0 where
    pub visible : (v : VisibleId) → v.0 ≤ length l.visibles.items → IsRowAlike g (visible_number l v.0) → IsWorthAlike (node.Visible v)
    pub context : (at : EntryId) → at.0 ≤ length l.places.items → IsRowAlike g (context_number l at.0) → IsWorthAlike (node.Context at)
    pub dependency : (k : ChoiceId) → k.0 < length l.choices.items → IsRowAlike g (dependency_number l k.0) → IsWorthAlike (node.Dependency k)
    pub choice : (k : ChoiceId) → IsRowAlike g (choice_number l k.0) → IsWorthAlike (node.Choice k)
    pub equation : (P Q : UserPlace → Option GivenValue) (s : ℕ) → s < name_count tree → IsRowAlike g s → P (user_place tree s) ≡ Q (user_place tree s) →
        ((k : ℕ) → user_place tree s ≡ ChoicePlace k → P (ChoicePlace k) ≡ chosen k) → equations tree P s V ≡ equations tree Q s W
