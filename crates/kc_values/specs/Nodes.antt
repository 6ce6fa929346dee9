-- Trusted: The nodes of the graph of needs, by number: symbols, menus with a `visible if` line (none first), entries (the top first), what choices depend on themselves, choices.
use Rattle.std.specs.Prelude.{◌≡◌, ◌<◌, ◌≤◌, ◌+◌, ℕ, suc, length}
use Rattle.kc_tree.specs.declared.layout.Layout.{Layout}
use Rattle.kc_values.specs.declared.nodes.Node.{Node}
use Rattle.kc_values.specs.declared.nodes.Node.TheVariants as node

abbrev pub visible_number : Layout → ℕ → ℕ
visible_number l v = length l.symbols.items + v

abbrev pub first_context : Layout → ℕ
first_context l = length l.symbols.items + suc (length l.visibles.items)

abbrev pub context_number : Layout → ℕ → ℕ
context_number l at = first_context l + at

abbrev pub first_dependency : Layout → ℕ
first_dependency l = first_context l + suc (length l.places.items)

abbrev pub dependency_number : Layout → ℕ → ℕ
dependency_number l k = first_dependency l + k

abbrev pub first_choice : Layout → ℕ
first_choice l = first_dependency l + length l.choices.items

abbrev pub choice_number : Layout → ℕ → ℕ
choice_number l k = first_choice l + k

abbrev pub node_count : Layout → ℕ
node_count l = first_choice l + length l.choices.items

-- the node that has this number
abbrev pub IsNode : Layout → ℕ → Node → Type 0
IsNode l n (node.Symbol s) = (n ≡ s.0) × (s.0 < length l.symbols.items)
IsNode l n (node.Visible v) = (n ≡ visible_number l v.0) × (v.0 ≤ length l.visibles.items)
IsNode l n (node.Context at) = (n ≡ context_number l at.0) × (at.0 ≤ length l.places.items)
IsNode l n (node.Dependency k) = (n ≡ dependency_number l k.0) × (k.0 < length l.choices.items)
IsNode l n (node.Choice k) = (n ≡ choice_number l k.0) × (first_choice l ≤ n)
