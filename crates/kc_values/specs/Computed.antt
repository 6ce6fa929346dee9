-- Trusted: What a table has already computed, besides the values of symbols.
use Rattle.std.specs.Prelude.{List, None, Option, Some, slice_get, slice_index_or, ℕ, ◌≡◌}
use Rattle.kc_language.specs.{Expressions.{Form, SymbolValue, value}, Symbols.TreeFacts, Values.{and_value, condition}, declared.expressions.{SymId.SymId, Tri.{TheVariants.{M, N, Y}, Tri}}}
use Rattle.kc_tree.specs.declared.{layout.Layout.Layout, rows.Choice.Choice}
use Rattle.kc_tree.specs.Layouts as layout
use Rattle.kc_values.specs.{Table.known_in, declared.table.Value.Value}

-- the value of an `if` condition; y if there is no `if`
abbrev pub when_value : TreeFacts → (SymId → SymbolValue) → Option Form → Tri
when_value tree known None = Y
when_value tree known (Some f) = value known tree.modules f

-- a truth value as a number, to compare computed truth values
abbrev pub rank : Tri → ℕ
rank N = 0
rank M = 1
rank Y = 2

-- what a choice depends on itself, by its row and by its number; n without such a choice
abbrev pub dependency_of : TreeFacts → Layout → (SymId → SymbolValue) → Option Choice → Tri
dependency_of tree l known o = elim o [ None ↦ N | Some c ↦ condition tree known (layout.choice_dependency l c) ]

abbrev pub choice_dependency : TreeFacts → Layout → (SymId → SymbolValue) → ℕ → Tri
choice_dependency tree l known k = dependency_of tree l known (slice_get l.choices.items k)

-- each place that is not empty has the value that belongs there
abbrev pub AreWorth : (ℕ → Tri) → List (Option Tri) → Type 0
AreWorth worth places = (i : ℕ) (t : Tri) → slice_index_or places i None ≡ Some t → rank t ≡ rank (worth i)

module _ (tree : TreeFacts) (l : Layout) (values : List (Option Value)) where
  -- what entries ask for, what menus ask of what is visible, and what choices depend on
  abbrev pub AreContextsComputed : List (Option Tri) → Type 0
  AreContextsComputed = AreWorth (λ at. condition tree (known_in tree values) (layout.condition_at l at))

  abbrev pub AreVisiblesComputed : List (Option Tri) → Type 0
  AreVisiblesComputed = AreWorth (λ v. and_value tree (known_in tree values) (layout.visible_at l v))

  abbrev pub AreDependenciesComputed : List (Option Tri) → Type 0
  AreDependenciesComputed = AreWorth (choice_dependency tree l (known_in tree values))
