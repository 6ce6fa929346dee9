-- The table renewed, along an order of the nodes of a tree: what is not marked is worth what it was.
use Rattle.std.proofs.{Common.{Bool, List, Option, ap, arith, false, get_or, inl, inr, length, refl, subst, sym, take, true, ℕ, ◌+◌, ◌<◌, ◌∙◌, ◌≡◌, ◌≤◌, ◌⊎◌}, lemmas.Bool.{cases_eq, true≢false}}
use Rattle.std.specs.{List.{AllByRecursion, Contains}, Prelude.{None, Some, [], slice_get, slice_index_or}}
use Rattle.kc_language.specs.{Expressions.{SymbolValue, symbol}, Needs.{condition_names, names_of_choice, needs_in}, Symbols.{Condition, TreeFacts}, Values.{GivenValue, Solves, UserPlace, and_value, choice_at, condition, equations, known_from, name_count, selected, user_place}, declared.expressions.{SymId.SymId, Tri.Tri}}
use Rattle.kc_expr.proofs.AgreeLemmas.{depends_on_symbols}
use Rattle.kc_language.specs.declared.symbols.ChoiceId.{ChoiceId}
use Rattle.kc_order.specs.Graph.{Nodes}
use Rattle.kc_entries.proofs.PlaceLemmas.{there_in}
use Rattle.kc_tree.specs.{Places.mode_view, Layouts.{IsLayoutOf, choice_dependency, condition_at, place_of, visible_at}, declared.{laid_tree.LaidTree.LaidTree, layout.Layout.Layout, rows.{Choice.Choice, EntryId.EntryId, Symbol.Symbol, VisibleId.VisibleId}}}
use Rattle.kc_user.specs.{PartsOfConfigFile.member_place, declared.value.UserValue.UserValue}
use Rattle.kc_values.specs.{Computed.{AreContextsComputed, AreDependenciesComputed, AreVisiblesComputed, AreWorth, choice_dependency as dependency_worth, dependency_of}, NeedRows.AreNodeRows, NodeWorth.{IsRowAlike, IsWorthAlike, ReadRows}, Nodes.{IsNode, choice_number, context_number, dependency_number, visible_number}, PartsOfValues.{user_place_by, user_place_of}, Selections.member_given, Table.known_in, TableFacts.{IsRowOf, known_at}, declared.{nodes.Node.Node, table.{Table.Table, Value.Value}}}
use Rattle.kc_values.specs.declared.nodes.Node.TheVariants as node
use Rattle.kc_values.proofs.{AnyLemmas.{in_stands, stands, stands_in}, NodeWorth.reads, OnlyNamed.{same_condition, same_selected}, TriLemmas.rank-same}
use Rattle.kc_solve.specs.{Again.{IsKeptOf, IsOrderedBy, IsPlanOf, graph_of}, Computing.{AreComputedValues, IsComputedContext, IsComputedDependency, IsComputedSelection, IsComputedSymbol, IsComputedTable, IsComputedTo, IsComputedVisible, IsSelection, KeepsTree, Slots, slots_of}, Kept.valuation, Orders.{IsNodeOrder, names_of_node, visible_condition}, PlaceLists.places, Renewing.{AreMarked, AreMarks, HoldsAt, IsSameAt, SolvesAt}, declared.{plan.Plan.Plan, renewing.Kept.Kept}}
use Rattle.kc_solve.proofs.{ComputeSteps.{choice_next, context_next, dependency_next, front_cases, known_but, lesser_all, not_before, not_named, symbol_next, visible_next}, TableSteps.{row_count, row_facts}, WarningSteps.tables_known}

-- a node stands among the first ones, or not
among_cases : (xs : List ℕ) (t : ℕ) → Contains xs t ⊎ (Contains xs t → ⊥)
among_cases xs t = by (stands t xs) refl
  where
    by : (b : Bool) → stands t xs ≡ b → Contains xs t ⊎ (Contains xs t → ⊥)
    by true e = inl (stands_in t xs e)
    by false e = inr (λ c. true≢false (sym (in_stands t xs c) ∙ e))

module _ (tree : TreeFacts) (l : Layout) (chosen : ℕ → Option GivenValue) (V W X : ℕ → SymbolValue) where
  -- what is worth the same twice
  alike_twice : (x : Node) → IsWorthAlike tree l chosen V W x → IsWorthAlike tree l chosen W X x → IsWorthAlike tree l chosen V X x
  alike_twice (node.Symbol s) p q = p ∙ q
  alike_twice (node.Visible v) p q = p ∙ q
  alike_twice (node.Context at) p q = λ own. p own ∙ q own
  alike_twice (node.Dependency k) p q = p ∙ q
  alike_twice (node.Choice k) p q = p ∙ q

alike_itself : (tree : TreeFacts) (l : Layout) (chosen : ℕ → Option GivenValue) (V : ℕ → SymbolValue) (x : Node) → IsWorthAlike tree l chosen V V x
alike_itself tree l chosen V (node.Symbol s) = refl
alike_itself tree l chosen V (node.Visible v) = refl
alike_itself tree l chosen V (node.Context at) = λ own. refl
alike_itself tree l chosen V (node.Dependency k) = refl
alike_itself tree l chosen V (node.Choice k) = refl

-- a number is that of one node
one_node : (l : Layout) (n : ℕ) (x y : Node) → IsNode l n x → IsNode l n y → x ≡ y
one_node l n (node.Symbol a) (node.Symbol b) p q = ap (λ i. node.Symbol (record { 0 = i })) (omega (arith, p.0, q.0))
one_node l n (node.Symbol a) (node.Visible b) p q = absurd (omega (arith, p.0, p.1, q.0, q.1))
one_node l n (node.Symbol a) (node.Context b) p q = absurd (omega (arith, p.0, p.1, q.0, q.1))
one_node l n (node.Symbol a) (node.Dependency b) p q = absurd (omega (arith, p.0, p.1, q.0, q.1))
one_node l n (node.Symbol a) (node.Choice b) p q = absurd (omega (arith, p.0, p.1, q.0, q.1))
one_node l n (node.Visible a) (node.Symbol b) p q = absurd (omega (arith, p.0, p.1, q.0, q.1))
one_node l n (node.Visible a) (node.Visible b) p q = ap (λ i. node.Visible (record { 0 = i })) (omega (arith, p.0, q.0))
one_node l n (node.Visible a) (node.Context b) p q = absurd (omega (arith, p.0, p.1, q.0, q.1))
one_node l n (node.Visible a) (node.Dependency b) p q = absurd (omega (arith, p.0, p.1, q.0, q.1))
one_node l n (node.Visible a) (node.Choice b) p q = absurd (omega (arith, p.0, p.1, q.0, q.1))
one_node l n (node.Context a) (node.Symbol b) p q = absurd (omega (arith, p.0, p.1, q.0, q.1))
one_node l n (node.Context a) (node.Visible b) p q = absurd (omega (arith, p.0, p.1, q.0, q.1))
one_node l n (node.Context a) (node.Context b) p q = ap (λ i. node.Context (record { 0 = i })) (omega (arith, p.0, q.0))
one_node l n (node.Context a) (node.Dependency b) p q = absurd (omega (arith, p.0, p.1, q.0, q.1))
one_node l n (node.Context a) (node.Choice b) p q = absurd (omega (arith, p.0, p.1, q.0, q.1))
one_node l n (node.Dependency a) (node.Symbol b) p q = absurd (omega (arith, p.0, p.1, q.0, q.1))
one_node l n (node.Dependency a) (node.Visible b) p q = absurd (omega (arith, p.0, p.1, q.0, q.1))
one_node l n (node.Dependency a) (node.Context b) p q = absurd (omega (arith, p.0, p.1, q.0, q.1))
one_node l n (node.Dependency a) (node.Dependency b) p q = ap (λ i. node.Dependency (record { 0 = i })) (omega (arith, p.0, q.0))
one_node l n (node.Dependency a) (node.Choice b) p q = absurd (omega (arith, p.0, p.1, q.0, q.1))
one_node l n (node.Choice a) (node.Symbol b) p q = absurd (omega (arith, p.0, p.1, q.0, q.1))
one_node l n (node.Choice a) (node.Visible b) p q = absurd (omega (arith, p.0, p.1, q.0, q.1))
one_node l n (node.Choice a) (node.Context b) p q = absurd (omega (arith, p.0, p.1, q.0, q.1))
one_node l n (node.Choice a) (node.Dependency b) p q = absurd (omega (arith, p.0, p.1, q.0, q.1))
one_node l n (node.Choice a) (node.Choice b) p q = ap (λ i. node.Choice (record { 0 = i })) (omega (arith, p.0, q.0))

-- before any node is renewed
pub marks_begin : (tree : TreeFacts) (l : Layout) (g : Nodes) (nodes : List ℕ) (chosen : List (Option SymId)) (base values : List (Option Value)) (marks : List Bool) → AreMarks tree l g nodes 0 chosen base values marks
marks_begin tree l g nodes chosen base values marks m n x c = absurd (omega (arith, c.1))

-- what a choice depends on itself, as a condition
abbrev condition_by : Layout → Option Choice → Condition
condition_by l o = elim o [ None ↦ record { conjuncts = []; mode = None } | Some c ↦ choice_dependency l c ]

module _ (tree : TreeFacts) (l : Layout) (laid : IsLayoutOf tree l) (g : Nodes) (rows : AreNodeRows tree l g) (given : List (Option UserValue)) (chosen : List (Option SymId)) (base : List (Option Value))
    (nodes : List ℕ) (order : IsNodeOrder tree l nodes) (ordered : IsOrderedBy g nodes) (k : ℕ) (b : k < length nodes) (values : List (Option Value)) (slots : Slots)
    (now : IsComputedTo tree l given chosen base nodes k values slots) (marks : List Bool) (are : AreMarks tree l g nodes k chosen base values marks) where
  abbrev n : ℕ
  n = get_or nodes k 0

  abbrev V : ℕ → SymbolValue
  V = valuation tree base

  abbrev W : ℕ → SymbolValue
  W = valuation tree values

  abbrev IsAlike : Node → Type 0
  IsAlike = IsWorthAlike tree l (member_given chosen) V W

  -- a node that stands in the row of this one, which is not marked, is worth what it was
  in_row : slice_index_or marks n true ≡ false → (t : ℕ) (x : Node) → Contains (needs_in g.rows n) t → IsNode l t x → (g.symbols ≤ t → Contains (take k nodes) t) → (Contains (take k nodes) t ⊎ (Contains (take k nodes) t → ⊥)) → IsAlike x
  in_row free t x c is group (inl before) = are t n x before is c free
  in_row free t (node.Symbol s) c is group (inr not) = sym (now.others_kept s.0 (λ m. not (subst (Contains (take k nodes)) (sym is.0) m)))
  in_row free t (node.Visible v) c is group (inr not) = absurd (not (group (omega (arith, is.0, rows.symbols_are))))
  in_row free t (node.Context at) c is group (inr not) = absurd (not (group (omega (arith, is.0, rows.symbols_are))))
  in_row free t (node.Dependency d) c is group (inr not) = absurd (not (group (omega (arith, is.0, rows.symbols_are))))
  in_row free t (node.Choice d) c is group (inr not) = absurd (not (group (omega (arith, is.0, rows.symbols_are))))

  pub row_alike : slice_index_or marks n true ≡ false → IsRowAlike tree l (member_given chosen) V W g n
  row_alike free t x c is = in_row free t x c is (λ past. ordered k t b past c) (among_cases (take k nodes) t)

  abbrev pub law : ReadRows tree l (member_given chosen) V W g
  law = reads depends_on_symbols tree l laid (member_given chosen) V W g rows

  -- the equation of a symbol that is not marked still holds, for the same user value
  pub still_solves : (P : UserPlace → Option GivenValue) (s : ℕ) → Solves (name_count tree) (equations tree P) V → n ≡ s → s < name_count tree → slice_index_or marks n true ≡ false →
      P (user_place tree s) ≡ places given chosen (user_place tree s) → SolvesAt tree (places given chosen) values s
  still_solves P s solves at below free asked =
      now.others_kept s (λ m. not_before tree l nodes order k s b m at) ∙ solves s below
      ∙ law.equation P (places given chosen) s below (subst (IsRowAlike tree l (member_given chosen) V W g) at (row_alike free)) asked (λ c is. ap P (sym is) ∙ asked ∙ ap (places given chosen) is)

  -- What was worth the same as before stays so, as a symbol is renewed, since no node before it names it.
  module _ (id : SymId) (values' : List (Option Value)) (at : n ≡ id.0) (below : id.0 < name_count tree) (full : length values ≡ name_count tree) (count : length values' ≡ length values)
      (others : (s : SymId) → (s.0 ≡ id.0 → ⊥) → known_in tree values' s ≡ known_in tree values s) where
    abbrev K : SymId → SymbolValue
    K = known_from tree W

    abbrev L : SymId → SymbolValue
    L = known_from tree (valuation tree values')

    apart : (s : SymId) → (s.0 ≡ id.0 → ⊥) → L s ≡ K s
    apart s other = sym (ap (λ f. f s) (tables_known tree values' (count ∙ full))) ∙ others s other ∙ ap (λ f. f s) (tables_known tree values full)

    same_worth : (c : Condition) → (Contains (condition_names tree c) id → ⊥) → condition tree K c ≡ condition tree L c
    same_worth c none = same_condition depends_on_symbols tree K L c (known_but K L id apart (condition_names tree c) none)

    own_worth : (o : Option Choice) → (Contains (condition_names tree (condition_by l o)) id → ⊥) → dependency_of tree l K o ≡ dependency_of tree l L o
    own_worth None none = refl
    own_worth (Some c) none = same_worth (choice_dependency l c) none

    pub symbol_stays : (m : ℕ) (x : Node) → Contains (take k nodes) m → IsNode l m x → IsWorthAlike tree l (member_given chosen) W (valuation tree values') x
    symbol_stays m x before is = by x is (not_named tree l nodes order k m id.0 x b before is at below)
      where
        by : (y : Node) → IsNode l m y → (Contains (names_of_node tree l y) id → ⊥) → IsWorthAlike tree l (member_given chosen) W (valuation tree values') y
        by (node.Symbol s) here none = sym (others s (λ e. not_before tree l nodes order k m b before (at ∙ sym e ∙ sym here.0)))
        by (node.Visible v) here none = sym (lesser_all (and_value tree K (visible_at l v.0))) ∙ same_worth (visible_condition l v.0) none ∙ lesser_all (and_value tree L (visible_at l v.0))
        by (node.Context c) here none = λ own. same_worth (condition_at l c.0) none
        by (node.Dependency d) here none = own_worth (slice_get l.choices.items d.0) none
        by (node.Choice c) here none =
            same_selected depends_on_symbols tree K L (choice_at tree c.0) (member_given chosen c.0) (known_but K L id apart (names_of_choice tree (choice_at tree c.0)) none)

  -- one more node is renewed: it may be worth something else only if it is said to differ, and then its readers are marked
  module _ (values' : List (Option Value)) (stay : (m : ℕ) (x : Node) → Contains (take k nodes) m → IsNode l m x → IsWorthAlike tree l (member_given chosen) W (valuation tree values') x) (readers : List ℕ)
      (read : (m : ℕ) → Contains (needs_in g.rows m) n → Contains readers m) (marks' : List Bool) (kept : (m : ℕ) → slice_index_or marks' m true ≡ false → slice_index_or marks m true ≡ false)
      (differs : Bool) (marked : differs ≡ true → (m : ℕ) → slice_index_or marks' m true ≡ false → Contains readers m → ⊥)
      (y : Node) (this : IsNode l n y) (same : differs ≡ false → IsWorthAlike tree l (member_given chosen) V (valuation tree values') y) where
    here_alike : (d : Bool) → differs ≡ d → (r : ℕ) (x : Node) → IsNode l n x → Contains (needs_in g.rows r) n → slice_index_or marks' r true ≡ false → IsWorthAlike tree l (member_given chosen) V (valuation tree values') x
    here_alike true e r x is row free = absurd (marked e r free (read r row))
    here_alike false e r x is row free = subst (IsWorthAlike tree l (member_given chosen) V (valuation tree values')) (one_node l n y x this is) (same e)

    pub marks_next : AreMarks tree l g nodes (k + 1) chosen base values' marks'
    marks_next m r x c is row free =
        elim (front_cases nodes k m b c) [
          | inl before ↦ alike_twice tree l (member_given chosen) V W (valuation tree values') x (are m r x before is row (kept r free)) (stay m x before is)
          | inr here ↦ here_alike differs refl r x (subst (λ t. IsNode l t x) (sym here) is) (subst (Contains (needs_in g.rows r)) (sym here) row) free
        ]

  -- the values stay as another node is renewed
  pub values_stay : (m : ℕ) (x : Node) → Contains (take k nodes) m → IsNode l m x → IsWorthAlike tree l (member_given chosen) W W x
  values_stay m x before is = alike_itself tree l (member_given chosen) W x

  module _ (full0 : length base ≡ name_count tree) (full : length values ≡ name_count tree) (free : slice_index_or marks n true ≡ false) where
    -- what is the same under what both valuations say is the same under what both lists of values say
    in_values : {A : Type 0} (f : (SymId → SymbolValue) → A) → f (known_from tree V) ≡ f (known_from tree W) → f (known_in tree base) ≡ f (known_in tree values)
    in_values f e = ap f (tables_known tree base full0) ∙ e ∙ sym (ap f (tables_known tree values full))

    row_at : (m : ℕ) → n ≡ m → IsRowAlike tree l (member_given chosen) V W g m
    row_at m at = subst (IsRowAlike tree l (member_given chosen) V W g) at (row_alike free)

    -- what is kept of a node that is not marked still holds
    pub visible_held : (kept : List (Option Tri)) → AreWorth (λ v. and_value tree (known_in tree base) (visible_at l v)) kept → (v : VisibleId) → IsNode l n (node.Visible v) →
        HoldsAt v.0 kept (and_value tree (known_in tree values) (visible_at l v.0))
    visible_held kept right v is x e = rank-same x _ (right v.0 x e) ∙ in_values (λ known. and_value tree known (visible_at l v.0)) (law.visible v is.1 (row_at (visible_number l v.0) is.0))

    pub context_held : (kept : List (Option Tri)) → AreWorth (λ i. condition tree (known_in tree base) (condition_at l i)) kept → (at : EntryId) → IsNode l n (node.Context at) → (place_of l at.0).context.0 ≡ at.0 →
        HoldsAt at.0 kept (condition tree (known_in tree values) (condition_at l at.0))
    context_held kept right at is own x e = rank-same x _ (right at.0 x e) ∙ in_values (λ known. condition tree known (condition_at l at.0)) (law.context at is.1 (row_at (context_number l at.0) is.0) own)

    pub dependency_held : (kept : List (Option Tri)) → AreWorth (dependency_worth tree l (known_in tree base)) kept → (d : ChoiceId) → IsNode l n (node.Dependency d) →
        HoldsAt d.0 kept (dependency_worth tree l (known_in tree values) d.0)
    dependency_held kept right d is x e = rank-same x _ (right d.0 x e) ∙ in_values (λ known. dependency_worth tree l known d.0) (law.dependency d is.1 (row_at (dependency_number l d.0) is.0))

    pub selection_held : (kept : List (Option (Option SymId))) (before : List (Option SymId)) →
        ((c : ℕ) (x : Option SymId) → slice_index_or kept c None ≡ Some x → x ≡ selected tree (known_in tree base) (choice_at tree c) (member_given before c)) → (c : ChoiceId) → IsNode l n (node.Choice c) →
        slice_index_or before c.0 None ≡ slice_index_or chosen c.0 None → HoldsAt c.0 kept (selected tree (known_in tree values) (choice_at tree c.0) (member_given before c.0))
    selection_held kept before right c is same x e =
        right c.0 x e ∙ ap (λ m. selected tree (known_in tree base) (choice_at tree c.0) (member_place m)) same
        ∙ in_values (λ known. selected tree known (choice_at tree c.0) (member_given chosen c.0)) (law.choice c (row_at (choice_number l c.0) is.0))
        ∙ ap (λ m. selected tree (known_in tree values) (choice_at tree c.0) (member_place m)) (sym same)

-- two places that hold the same, each what belongs there
pub worth_same : (f h : ℕ → Tri) (i : ℕ) (xs ys : List (Option Tri)) → AreWorth f xs → AreWorth h ys → IsSameAt i xs ys → f i ≡ h i
worth_same f h i xs ys p q w = rank-same (f i) (h i) (sym (p i w.0 w.1) ∙ q i w.0 w.2)

-- The marks after one more node: its readers are marked if it differs.
pub record MarkNext (readers : List ℕ) (differs : Bool) (old new : List Bool) : Type 0 where
  pub marked : differs ≡ true → AreMarked readers old new
  pub same : differs ≡ false → new ≡ old

-- One more node of the table, by a plan of the tree, from what is kept.
module _ (laid : LaidTree) (plan : Plan) (is : IsPlanOf laid plan) (kept : Kept) (has : IsKeptOf laid kept) (given : List (Option UserValue)) (chosen : List (Option SymId)) (k : ℕ) (b : k < length plan.nodes.items)
    (t : Table) (at : IsComputedTable laid.tree.now laid.layout.now given chosen kept.values plan.nodes.items k t) (marks : List Bool)
    (are : AreMarks laid.tree.now laid.layout.now (graph_of laid) plan.nodes.items k chosen kept.values t.values marks) where
  abbrev tree : TreeFacts
  tree = laid.tree.now

  abbrev l : Layout
  l = laid.layout.now

  abbrev nodes : List ℕ
  nodes = plan.nodes.items

  abbrev this : ℕ
  this = get_or nodes k 0

  abbrev g : Nodes
  g = graph_of laid

  rows : AreNodeRows tree l g
  rows = record { symbols_are = refl; count = is.count; rows_are = refl }

  now : IsComputedTo tree l given chosen kept.values nodes k t.values (slots_of t)
  now = subst (λ m. IsComputedTo tree m given chosen kept.values nodes k t.values (slots_of t)) at.2 at.1

  full : length t.values ≡ name_count tree
  full = at.1.value_count ∙ row_count t ∙ ap name_count at.0

  -- the node, in the layout of the tree
  node_here : (x : Node) → IsNode t.layout.now this x → IsNode l this x
  node_here x here = subst (λ m. IsNode m this x) at.2 here

  -- what holds of this tree and its layout holds of those of the table
  of_table : (F : TreeFacts → Layout → Type 0) → F tree l → F t.tree.now t.layout.now
  of_table F holds = subst (λ m. F t.tree.now m) (sym at.2) (subst (λ u. F u l) (sym at.0) holds)

  pub symbol_kept : slice_index_or marks this true ≡ false → (id : SymId) → IsNode t.layout.now this (node.Symbol id) → (before : List (Option UserValue)) (members : List (Option SymId)) →
      Solves (name_count tree) (equations tree (places before members)) (valuation tree kept.values) → places before members (user_place tree id.0) ≡ places given chosen (user_place tree id.0) →
      SolvesAt t.tree.now (places given chosen) t.values id.0
  symbol_kept free id here before members solves asked =
      let own = node_here (node.Symbol id) here in
      of_table (λ u m. SolvesAt u (places given chosen) t.values id.0)
      (still_solves tree l laid.laid g rows given chosen kept.values nodes is.order is.ordered k b t.values (slots_of t) now marks are (places before members) id.0 solves own.0
      (omega (arith, own.1, laid.laid.symbol_count)) free asked)

  pub visible_kept : slice_index_or marks this true ≡ false → (v : VisibleId) → IsNode t.layout.now this (node.Visible v) → HoldsAt v.0 kept.slots.visibles.items (and_value t.tree.now (known_at t) (visible_at t.layout.now v.0))
  visible_kept free v here =
      of_table (λ u m. HoldsAt v.0 kept.slots.visibles.items (and_value u (known_in u t.values) (visible_at m v.0)))
      (visible_held tree l laid.laid g rows given chosen kept.values nodes is.order is.ordered k b t.values (slots_of t) now marks are has.full full free kept.slots.visibles.items has.slots.visibles v (node_here (node.Visible v) here))

  pub context_kept : slice_index_or marks this true ≡ false → (i : EntryId) → IsNode t.layout.now this (node.Context i) → (place_of t.layout.now i.0).context.0 ≡ i.0 →
      HoldsAt i.0 kept.slots.contexts.items (condition t.tree.now (known_at t) (condition_at t.layout.now i.0))
  context_kept free i here own =
      of_table (λ u m. HoldsAt i.0 kept.slots.contexts.items (condition u (known_in u t.values) (condition_at m i.0)))
      (context_held tree l laid.laid g rows given chosen kept.values nodes is.order is.ordered k b t.values (slots_of t) now marks are has.full full free kept.slots.contexts.items has.slots.contexts i (node_here (node.Context i) here)
      (subst (λ m. (place_of m i.0).context.0 ≡ i.0) at.2 own))

  pub dependency_kept : slice_index_or marks this true ≡ false → (d : ChoiceId) → IsNode t.layout.now this (node.Dependency d) →
      HoldsAt d.0 kept.slots.dependencies.items (dependency_worth t.tree.now t.layout.now (known_at t) d.0)
  dependency_kept free d here =
      of_table (λ u m. HoldsAt d.0 kept.slots.dependencies.items (dependency_worth u m (known_in u t.values) d.0))
      (dependency_held tree l laid.laid g rows given chosen kept.values nodes is.order is.ordered k b t.values (slots_of t) now marks are has.full full free kept.slots.dependencies.items has.slots.dependencies d
      (node_here (node.Dependency d) here))

  pub selection_kept : slice_index_or marks this true ≡ false → (c : ChoiceId) → IsNode t.layout.now this (node.Choice c) → slice_index_or kept.user.choices c.0 None ≡ slice_index_or chosen c.0 None →
      HoldsAt c.0 kept.slots.selections.items (selected t.tree.now (known_at t) (choice_at t.tree.now c.0) (member_place (slice_index_or kept.user.choices c.0 None)))
  selection_kept free c here same =
      of_table (λ u m. HoldsAt c.0 kept.slots.selections.items (selected u (known_in u t.values) (choice_at u c.0) (member_place (slice_index_or kept.user.choices c.0 None))))
      (selection_held tree l laid.laid g rows given chosen kept.values nodes is.order is.ordered k b t.values (slots_of t) now marks are has.full full free kept.slots.selections.items kept.user.choices has.slots.selections c
      (node_here (node.Choice c) here) same)

  module _ (t' : Table) (differs : Bool) (marks' : List Bool) (next : MarkNext (get_or plan.readers this []) differs marks marks') where
    abbrev IsNext : Type 0
    IsNext = IsComputedTable tree l given chosen kept.values nodes (k + 1) t' × AreMarks tree l g nodes (k + 1) chosen kept.values t'.values marks'

    kept_mark : (d : Bool) → differs ≡ d → (m : ℕ) → slice_index_or marks' m true ≡ false → slice_index_or marks m true ≡ false
    kept_mark true e m free = (next.marked e).kept m free
    kept_mark false e m free = sym (ap (λ xs. slice_index_or xs m true) (next.same e)) ∙ free

    alike_next : (values' : List (Option Value)) → ((m : ℕ) (x : Node) → Contains (take k nodes) m → IsNode l m x → IsWorthAlike tree l (member_given chosen) (valuation tree t.values) (valuation tree values') x) → (y : Node) → IsNode l this y →
        (differs ≡ false → IsWorthAlike tree l (member_given chosen) (valuation tree kept.values) (valuation tree values') y) → AreMarks tree l g nodes (k + 1) chosen kept.values values' marks'
    alike_next values' stay y here same =
        marks_next tree l laid.laid g rows given chosen kept.values nodes is.order is.ordered k b t.values (slots_of t) now marks are values' stay (get_or plan.readers this []) (λ m c. is.readers m this c)
        marks' (λ m. kept_mark differs refl m) differs (λ e. (next.marked e).marked) y here same

    -- the values stay as a node is renewed that is no symbol
    group_next : t'.values ≡ t.values → (y : Node) → IsNode t.layout.now this y → (differs ≡ false → IsWorthAlike tree l (member_given chosen) (valuation tree kept.values) (valuation tree t.values) y) →
        AreMarks tree l g nodes (k + 1) chosen kept.values t'.values marks'
    group_next stay y here same =
        subst (λ vs. AreMarks tree l g nodes (k + 1) chosen kept.values vs marks') (sym stay)
        (alike_next t.values (values_stay tree l laid.laid g rows given chosen kept.values nodes is.order is.ordered k b t.values (slots_of t) now marks are) y (node_here y here) same)

    from_values : {A : Type 0} (f : (SymId → SymbolValue) → A) → f (known_in tree kept.values) ≡ f (known_in tree t.values) → f (known_from tree (valuation tree kept.values)) ≡ f (known_from tree (valuation tree t.values))
    from_values f e = sym (ap f (tables_known tree kept.values has.full)) ∙ e ∙ ap f (tables_known tree t.values full)

    -- what the new table has computed is right
    computed_now : KeepsTree t t' → t'.values ≡ t.values →
        AreContextsComputed tree l t.values t'.contexts.items × AreVisiblesComputed tree l t.values t'.visibles.items × AreDependenciesComputed tree l t.values t'.dependencies.items
    computed_now keeps stay =
        let u : t'.tree.now ≡ tree = ap (λ x. x.now) keeps.tree ∙ at.0 in
        let m : t'.layout.now ≡ l = ap (λ x. x.now) keeps.layout ∙ at.2 in (
          subst (λ vs. AreContextsComputed tree l vs t'.contexts.items) stay (subst (λ x. AreContextsComputed tree x t'.values t'.contexts.items) m (subst (λ x. AreContextsComputed x t'.layout.now t'.values t'.contexts.items) u t'.contexts_computed)),
          subst (λ vs. AreVisiblesComputed tree l vs t'.visibles.items) stay (subst (λ x. AreVisiblesComputed tree x t'.values t'.visibles.items) m (subst (λ x. AreVisiblesComputed x t'.layout.now t'.values t'.visibles.items) u t'.visibles_computed)),
          subst (λ vs. AreDependenciesComputed tree l vs t'.dependencies.items) stay
              (subst (λ x. AreDependenciesComputed tree x t'.values t'.dependencies.items) m (subst (λ x. AreDependenciesComputed x t'.layout.now t'.values t'.dependencies.items) u t'.dependencies_computed)),
        )

    pub symbol_renewed : (id : SymId) → IsNode t.layout.now this (node.Symbol id) → IsComputedSymbol given chosen id t t' → (differs ≡ false → known_in t.tree.now t'.values id ≡ known_in t.tree.now t.values id) → IsNext
    symbol_renewed id here f same =
        let own = node_here (node.Symbol id) here in
        let below : id.0 < name_count tree = omega (arith, own.1, laid.laid.symbol_count) in
        let values = subst (λ (u : TreeFacts). AreComputedValues u given chosen id t.values t'.values) at.0 f.values in
        let first = now.others_kept id.0 (λ m. not_before tree l nodes is.order k id.0 b m own.0) in (
          symbol_next tree l given chosen kept.values nodes k t t' at b id own.0 below full f,
          alike_next t'.values
              (symbol_stays tree l laid.laid g rows given chosen kept.values nodes is.order is.ordered k b t.values (slots_of t) now marks are id t'.values own.0 below full values.count values.others)
              (node.Symbol id) own (λ e. sym (subst (λ (u : TreeFacts). known_in u t'.values id ≡ known_in u t.values id) at.0 (same e) ∙ first)),
        )

    pub visible_renewed : (v : VisibleId) → IsNode t.layout.now this (node.Visible v) → IsComputedVisible v.0 t t' → (differs ≡ false → IsSameAt v.0 kept.slots.visibles.items t'.visibles.items) → IsNext
    visible_renewed v here f same = (
      visible_next tree l given chosen kept.values nodes k t t' at b v.0 here.0 f,
      group_next f.values (node.Visible v) here (λ e.
          from_values (λ known. and_value tree known (visible_at l v.0))
          (worth_same (λ i. and_value tree (known_in tree kept.values) (visible_at l i)) (λ i. and_value tree (known_in tree t.values) (visible_at l i)) v.0 kept.slots.visibles.items t'.visibles.items has.slots.visibles
          (computed_now f.keeps f.values).1 (same e))),
    )

    pub context_renewed : (i : EntryId) → IsNode t.layout.now this (node.Context i) → IsComputedContext i.0 t t' → (differs ≡ false → IsSameAt i.0 kept.slots.contexts.items t'.contexts.items) → IsNext
    context_renewed i here f same = (
      context_next tree l given chosen kept.values nodes k t t' at b i.0 here.0 f,
      group_next f.values (node.Context i) here (λ e own.
          from_values (λ known. condition tree known (condition_at l i.0))
          (worth_same (λ j. condition tree (known_in tree kept.values) (condition_at l j)) (λ j. condition tree (known_in tree t.values) (condition_at l j)) i.0 kept.slots.contexts.items t'.contexts.items has.slots.contexts
          (computed_now f.keeps f.values).0 (same e))),
    )

    pub dependency_renewed : (d : ChoiceId) → IsNode t.layout.now this (node.Dependency d) → IsComputedDependency d.0 t t' → (differs ≡ false → IsSameAt d.0 kept.slots.dependencies.items t'.dependencies.items) → IsNext
    dependency_renewed d here f same = (
      dependency_next tree l given chosen kept.values nodes k t t' at b d.0 here.0 f,
      group_next f.values (node.Dependency d) here (λ e.
          from_values (λ known. dependency_worth tree l known d.0)
          (worth_same (dependency_worth tree l (known_in tree kept.values)) (dependency_worth tree l (known_in tree t.values)) d.0 kept.slots.dependencies.items t'.dependencies.items has.slots.dependencies
          (computed_now f.keeps f.values).2 (same e))),
    )

    pub selection_renewed : (c : ChoiceId) → IsNode t.layout.now this (node.Choice c) → IsComputedSelection chosen c.0 t t' →
        (differs ≡ false → (slice_index_or kept.user.choices c.0 None ≡ slice_index_or chosen c.0 None) × IsSameAt c.0 kept.slots.selections.items t'.selections.items) → IsNext
    selection_renewed c here f same = (
      choice_next tree l given chosen kept.values nodes k t t' at b c.0 here.0 f,
      group_next f.values (node.Choice c) here (λ e.
          let w = same e in
          let then = subst (λ (u : TreeFacts). IsSelection u t.values t'.selections.items c.0 (slice_index_or chosen c.0 None)) at.0 f.here in
          from_values (λ known. selected tree known (choice_at tree c.0) (member_given chosen c.0))
          (ap (λ m. selected tree (known_in tree kept.values) (choice_at tree c.0) (member_place m)) (sym w.0) ∙ sym (has.slots.selections c.0 w.1.0 w.1.1) ∙ then w.1.0 w.1.2)),
    )

-- the place where an equation asks for the user value is the one that the row of the symbol says
pub asked_place : (laid : LaidTree) (t : Table) → t.tree.now ≡ laid.tree.now → (id : SymId) → id.0 < length t.layout.now.symbols.items → (P Q : UserPlace → Option GivenValue) →
    ((row : Symbol) → IsRowOf t id row → P (user_place_by id.0 (mode_view row.choice)) ≡ Q (user_place_by id.0 (mode_view row.choice))) → P (user_place laid.tree.now id.0) ≡ Q (user_place laid.tree.now id.0)
asked_place laid t at id below P Q asked =
    let w = there_in t.layout.now.symbols.items id.0 below in
    let place : user_place laid.tree.now id.0 ≡ user_place_by id.0 (mode_view w.0.choice) = ap (λ (u : TreeFacts). user_place u id.0) (sym at) ∙ ap (user_place_of id.0) (row_facts t id w.0 w.1) in
    ap P place ∙ asked w.0 w.1 ∙ ap Q (sym place)
