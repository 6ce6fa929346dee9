-- Trusted: An order of the nodes of a tree for which something is computed.
use Rattle.std.specs.{List.{All, Contains, IsDistinct}, Prelude.{List, None, Option, Some, [], length, nat_eq, slice_get, slice_index_or, take, ℕ, ◌<◌, ◌≡◌}}
use Rattle.kc_language.specs.{Expressions.symbol, Needs.{IsAccepted, condition_names, names_of_choice, needs, needs_in}, Symbols.{Condition, TreeFacts}, Values.{choice_at, name_count}, declared.expressions.SymId.SymId}
use Rattle.kc_tree.specs.{Layouts.{choice_dependency, condition_at, visible_at}, declared.{laid_tree.LaidTree.LaidTree, layout.Layout.Layout}}
use Rattle.kc_values.specs.{Nodes.{IsNode, node_count}, declared.nodes.Node.Node}
use Rattle.kc_values.specs.declared.nodes.Node.TheVariants as node

-- what a menu and the menus around it ask of what is visible, and what a choice depends on itself, as conditions
abbrev pub visible_condition : Layout → ℕ → Condition
visible_condition l v = record { conjuncts = visible_at l v; mode = None }

abbrev pub own_condition : Layout → ℕ → Condition
own_condition l k = elim (slice_get l.choices.items k) [ None ↦ record { conjuncts = []; mode = None } | Some c ↦ choice_dependency l c ]

-- the names in what a node stands for that is no symbol
abbrev pub names_of_node : TreeFacts → Layout → Node → List SymId
names_of_node tree l (node.Symbol s) = []
names_of_node tree l (node.Visible v) = condition_names tree (visible_condition l v.0)
names_of_node tree l (node.Context at) = condition_names tree (condition_at l at.0)
names_of_node tree l (node.Dependency k) = condition_names tree (own_condition l k.0)
names_of_node tree l (node.Choice k) = names_of_choice tree (choice_at tree k.0)

-- All defined symbols, each node once. What a symbol needs, or another node names, stands before it if it stands there at all.
pub record IsNodeOrder (tree : TreeFacts) (l : Layout) (nodes : List ℕ) : Type 0 where
  pub below : All (λ n. n < node_count l) nodes
  pub apart : IsDistinct nat_eq nodes
  pub defined_there : All (λ (s : SymId). Contains nodes s.0) tree.defined
  pub needs_first : (k t : ℕ) → k < length nodes → slice_index_or nodes k 0 < name_count tree → Contains (needs_in (needs tree) (slice_index_or nodes k 0)) t → Contains nodes t → Contains (take k nodes) t
  pub names_first : (k : ℕ) (n : Node) (s : ℕ) → k < length nodes → IsNode l (slice_index_or nodes k 0) n → s < name_count tree → Contains (names_of_node tree l n) (symbol s) → Contains nodes s →
      Contains (take k nodes) s

-- so the tree has such an order, and is accepted
pub record IsOrderOf (laid : LaidTree) (nodes : List ℕ) : Type 0 where
  pub accepted : IsAccepted laid.tree.now
  pub nodes_are : IsNodeOrder laid.tree.now laid.layout.now nodes
