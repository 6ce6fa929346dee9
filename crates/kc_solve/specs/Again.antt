-- Trusted: What is kept of a solution for the next one of the same tree.
use Rattle.std.specs.{List.Contains, Prelude.{IfSome, List, None, Option, Some, [], get_or, length, slice_index_or, take, ℕ, ◌++◌, ◌<◌, ◌≡◌, ◌≤◌}}
use Rattle.kc_language.specs.{ConfigFile.{ArePlacesOf, place_at}, Expressions.SymbolValue, Needs.needs_in, Symbols.TreeFacts, Texts.{Solution, known}, Values.{Solves, and_value, choice_at, condition, equations, name_count, selected}, declared.expressions.SymId.SymId}
use Rattle.kc_order.specs.Graph.{Nodes}
use Rattle.kc_solve.specs.{Kept.valuation, Orders.IsNodeOrder, declared.{again.{Again.Again, Stage.Stage}, plan.Plan.Plan, renewing.Kept.Kept, slots.KeptSlots.KeptSlots}}
use Rattle.kc_solve.specs.declared.again.Stage.TheVariants as stage
use Rattle.kc_tree.specs.declared.{laid_tree.LaidTree.LaidTree, layout.Layout.Layout}
use Rattle.kc_tree.specs.Layouts as layout
use Rattle.kc_user.specs.PartsOfConfigFile.{member_place}
use Rattle.kc_values.specs.{Computed.{AreWorth, choice_dependency}, NeedRows.{choice_rows, context_rows, dependency_rows, symbol_rows, visible_rows}, Nodes.node_count, Table.known_in}

-- the graph of what the nodes of a tree need
abbrev pub graph_of : LaidTree → Nodes
graph_of laid =
    let l = laid.layout.now in record {
      symbols = length l.symbols.items;
      rows = (((symbol_rows laid.tree.now l ++ visible_rows l) ++ context_rows l) ++ dependency_rows l) ++ choice_rows l;
    }

-- each group in the row of a node stands before the node
abbrev pub IsOrderedBy : Nodes → List ℕ → Type 0
IsOrderedBy g nodes = (k t : ℕ) → k < length nodes → g.symbols ≤ t → Contains (needs_in g.rows (slice_index_or nodes k 0)) t → Contains (take k nodes) t

-- the list of each node has the nodes in whose rows it is
abbrev pub AreReaders : Nodes → List (List ℕ) → Type 0
AreReaders g readers = (n t : ℕ) → Contains (needs_in g.rows n) t → Contains (get_or readers t []) n

-- an order of the nodes of a tree, and for each node those that read it
pub record IsPlanOf (laid : LaidTree) (plan : Plan) : Type 0 where
  pub count : length (graph_of laid).rows ≡ node_count laid.layout.now
  pub order : IsNodeOrder laid.tree.now laid.layout.now plan.nodes.items
  pub ordered : IsOrderedBy (graph_of laid) plan.nodes.items
  pub readers : AreReaders (graph_of laid) plan.readers

-- what entries, menus and choices are worth, as far as it is kept, under what is known of the symbols and for the members chosen
pub record AreSlotsFor (tree : TreeFacts) (l : Layout) (known : SymId → SymbolValue) (chosen : List (Option SymId)) (slots : KeptSlots) : Type 0 where
  pub contexts : AreWorth (λ at. condition tree known (layout.condition_at l at)) slots.contexts.items
  pub visibles : AreWorth (λ v. and_value tree known (layout.visible_at l v)) slots.visibles.items
  pub dependencies : AreWorth (choice_dependency tree l known) slots.dependencies.items
  pub selections : (c : ℕ) (x : Option SymId) → slice_index_or slots.selections.items c None ≡ Some x → x ≡ selected tree known (choice_at tree c) (member_place (slice_index_or chosen c None))

-- values that solve the equations of a tree for these user values, and what else is computed for them
pub record IsKeptOf (laid : LaidTree) (kept : Kept) : Type 0 where
  pub user : ArePlacesOf laid.tree.now kept.user
  pub full : length kept.values ≡ name_count laid.tree.now
  pub solves : Solves (name_count laid.tree.now) (equations laid.tree.now (place_at kept.user)) (valuation laid.tree.now kept.values)
  pub slots : AreSlotsFor laid.tree.now laid.layout.now (known_in laid.tree.now kept.values) kept.user.choices kept.slots

-- what was computed for a solution
abbrev pub AreSlotsOf : LaidTree → Solution → KeptSlots → Type 0
AreSlotsOf laid s slots = AreSlotsFor laid.tree.now laid.layout.now (known s) s.places.choices slots

abbrev pub IsStageOf : LaidTree → Stage → Type 0
IsStageOf laid stage.Nothing = Unit {0}
IsStageOf laid (stage.Lent slots) = Unit {0}
IsStageOf laid (stage.Whole kept) = IsKeptOf laid kept

-- the rest of this solution, if it is kept while the caller has the solution
abbrev pub IsRestOf : LaidTree → Solution → Stage → Type 0
IsRestOf laid s stage.Nothing = Unit {0}
IsRestOf laid s (stage.Lent slots) = AreSlotsOf laid s slots
IsRestOf laid s (stage.Whole kept) = Unit {0}

abbrev pub IsStageFor : LaidTree → Again → Solution → Type 0
IsStageFor laid again s = IsRestOf laid s again.stage

-- the plan of this tree, and what is kept of a solution of it, if they are kept
pub record IsAgainOf (laid : LaidTree) (again : Again) : Type 0 where
  pub plan : IfSome again.plan (IsPlanOf laid)
  pub stage : IsStageOf laid again.stage
