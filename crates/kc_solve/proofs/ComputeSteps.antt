-- One more node of the table computed, along an order of the nodes of a tree.
use Rattle.std.proofs.{Common.{Bool, Err, List, None, Ok, Option, Result, Some, [], ap, arith, eqb, false, get_or, get_or-set_other, get_or-set_same, inl, inr, length, refl, subst, suc, sym, take, true, zero, ℕ, ◌+◌, ◌<◌, ◌∙◌, ◌∷◌, ◌≡◌, ◌≢◌, ◌≤◌, ◌⊎◌}, Math.Logic.∥∥₁_elim, lemmas.{Bool.{cases_Bool, cases_eq, cases_lt, eqb-false, true≢false}, List.{Elements.{All-contains, All-get_or, Contains-append_right, Contains-get_or, Contains-push_cases}, get_or-replicate, get_or-take, get_or_default, get_or_past, length-map, length-replicate, length-take-le, take_all, take_more}, Map.Keys.apart_from_distinct}}
use base.Stored.{Coded-set}
use Rattle.kc_expr.specs.SymbolValueCode.{symbol_value_code}
use Rattle.std.specs.{List.{AllByRecursion, Contains, list_any}, Prelude.{replicate, slice_get, slice_index_or, slice_set}, Result.{OnErr, OnOk}}
use Rattle.kc_language.specs.{Expressions.{SymbolValue, lesser, symbol}, Needs.{condition_names, names_of_choice, needs, needs_in}, Symbols.{Condition, SymbolFacts, TreeFacts}, Values.{GivenValue, Solves, UserPlace, and_value, choice_at, condition, equation, equations, facts, known_from, name, name_count, type_in, user_place}, declared.expressions.{SymId.SymId, SymbolType.{SymbolType, TheVariants.{Bool as IsBool, Hex, Int, Str, Tristate, Undefined}}, Tri.{TheVariants.{M, N, Y}, Tri}}}
use Rattle.kc_expr.proofs.AgreeLemmas.{depends_on_symbols}
use Rattle.kc_tree.specs.{Layouts.{IsLayoutOf, choice_dependency, condition_at, visible_at}, declared.{layout.Layout.Layout, rows.Choice.Choice}}
use Rattle.kc_entries.specs.WellFormed.{IsWellFormed}
use Rattle.kc_user.specs.{PartsOfConfigFile.member_place, declared.value.UserValue.UserValue}
use Rattle.kc_values.specs.{Computed.{AreContextsComputed, AreDependenciesComputed, AreVisiblesComputed, AreWorth, choice_dependency as dependency_worth, rank}, Nodes.{IsNode, choice_number, context_number, dependency_number, first_choice, node_count, visible_number}, Table.known_in, declared.{nodes.Node.Node, table.{Table.Table, Value.Value}}}
use Rattle.kc_values.specs.declared.nodes.Node.TheVariants as node
use Rattle.kc_entries.proofs.PlaceLemmas.{there_in}
use Rattle.kc_values.proofs.{AnyLemmas.{in_stands, stands, stands_in}, ModeLaws.members_are_bools, OnlyNamed.{same_condition, same_selected}, TreeNeeds.reads_rows}
use Rattle.kc_solve.specs.{Computing.{AreAmong, AreComputedValues, AreUnread, IsComputedContext, IsComputedDependency, IsComputedSelection, IsComputedSymbol, IsComputedTable, IsComputedTo, IsComputedVisible, IsSelection, IsUnreadIn, KeepsTree, OnlyAt, Slots, place_value, slots_of}, Kept.valuation, Orders.{IsNodeOrder, names_of_node, own_condition, visible_condition}, PlaceLists.places}
use Rattle.kc_solve.proofs.TableSteps.{row_count, untyped}

-- a front of a list
pub in_front : (xs : List ℕ) (k t : ℕ) → k ≤ length xs → Contains (take k xs) t → (i : ℕ) × (i < k) × (get_or xs i 0 ≡ t)
in_front xs k t l c =
    let i_lt : c.0 < k = omega (arith, c.1, length-take-le k xs l) in
    (c.0, i_lt, get_or_default xs c.0 0 t (omega arith) ∙ sym (get_or-take k xs c.0 t i_lt) ∙ c.2)

pub front_has : (xs : List ℕ) (k i : ℕ) → i < k → k ≤ length xs → Contains (take k xs) (get_or xs i 0)
front_has xs k i l b =
    let len = length-take-le k xs b in
    let c = Contains-get_or (take k xs) i 0 (omega (arith, len)) in
    subst (Contains (take k xs)) (get_or-take k xs i 0 l) c

pub front_longer : (xs : List ℕ) (j k t : ℕ) → j ≤ k → k ≤ length xs → Contains (take j xs) t → Contains (take k xs) t
front_longer xs j k t l b c =
    let w = in_front xs j t (omega arith) c in
    subst (Contains (take k xs)) w.2 (front_has xs k w.0 (omega (arith, w.1)) b)

pub front_cases : (xs : List ℕ) (k t : ℕ) → k < length xs → Contains (take (k + 1) xs) t → Contains (take k xs) t ⊎ (get_or xs k 0 ≡ t)
front_cases xs k t l c = Contains-push_cases (take k xs) (get_or xs k 0) t (subst (λ ys. Contains ys t) (take_more xs k 0 l) c)

-- what is known stays but for one symbol
pub known_but : (k m : SymId → SymbolValue) (id : SymId) → ((s : SymId) → (s.0 ≡ id.0 → ⊥) → m s ≡ k s) → (names : List SymId) → (Contains names id → ⊥) → AllByRecursion (λ s. k s ≡ m s) names
known_but k m id others [] without = tt
known_but k m id others (s ∷ names) without =
    let numbered : ℕ → SymId = λ n. record { 0 = n } in
    let here : k s ≡ m s =
    elim (cases_eq s.0 id.0) [
      | inl same ↦ absurd (without (0, omega arith, ap numbered same))
      | inr other ↦ sym (others s other)
    ] in (here, known_but k m id others names (λ c. without (Contains-append_right (s ∷ []) names id c)))

-- a place that is filled is there
there : {A : Type 0} (xs : List (Option A)) (i : ℕ) (x : A) → slice_index_or xs i None ≡ Some x → i < length xs
there xs i x e =
    elim (cases_lt i (length xs)) [
      | inl l ↦ l
      | inr past ↦ let n = get_or_past xs i None past in cc
    ]

module _ (tree : TreeFacts) (l : Layout) (nodes : List ℕ) (order : IsNodeOrder tree l nodes) where
  -- two places hold two nodes
  differ : (i j : ℕ) → i < j → j < length nodes → get_or nodes i 0 ≢ get_or nodes j 0
  differ i j b c = eqb-false (get_or nodes i 0) (get_or nodes j 0) (apart_from_distinct eqb nodes i j 0 order.apart b c)

  pub not_before : (k t : ℕ) → k < length nodes → Contains (take k nodes) t → get_or nodes k 0 ≡ t → ⊥
  not_before k t b c e =
      let w = in_front nodes k t (omega arith) c in
      differ w.0 k w.1 b (w.2 ∙ sym e)

  -- a node does not need a later one
  not_needed : (j k s t : ℕ) → j ≤ k → k < length nodes → get_or nodes j 0 ≡ s → s < name_count tree → get_or nodes k 0 ≡ t → Contains (needs_in (needs tree) s) t → ⊥
  not_needed j k s t up b at below here c =
      let there : Contains nodes t = subst (Contains nodes) here (Contains-get_or nodes k 0 b) in
      let first = order.needs_first j t (omega (arith, up, b)) (subst (λ n. n < name_count tree) (sym at) below) (subst (λ n. Contains (needs_in (needs tree) n) t) (sym at) c) there in
      not_before k t b (front_longer nodes j k t up (omega (arith, b)) first) here

  -- an earlier node does not name a later one
  pub not_named : (k m s : ℕ) (n : Node) → k < length nodes → Contains (take k nodes) m → IsNode l m n → get_or nodes k 0 ≡ s → s < name_count tree →
      Contains (names_of_node tree l n) (symbol s) → ⊥
  not_named k m s n b before is here below c =
      let w = in_front nodes k m (omega (arith, b)) before in
      let there : Contains nodes s = subst (Contains nodes) here (Contains-get_or nodes k 0 b) in
      let first = order.names_first w.0 n s (omega (arith, w.1, b)) (subst (λ x. IsNode l x n) (sym w.2) is) below c there in
      not_before k s b (front_longer nodes w.0 k s (omega (arith, w.1)) (omega (arith, b)) first) here

module _ (tree : TreeFacts) (l : Layout) (given : List (Option UserValue)) (chosen : List (Option SymId)) (base : List (Option Value)) (nodes : List ℕ) (k : ℕ) (values : List (Option Value)) (slots : Slots)
    (now : IsComputedTo tree l given chosen base nodes k values slots) (b : k < length nodes) where
  abbrev P : UserPlace → Option GivenValue
  P = places given chosen

  abbrev IsNext : List (Option Value) → Slots → Type 0
  IsNext values' slots' = IsComputedTo tree l given chosen base nodes (k + 1) values' slots'

  longer : (t : ℕ) → Contains (take k nodes) t → Contains (take (k + 1) nodes) t
  longer t c = front_longer nodes k (k + 1) t (omega arith) (omega (arith, b)) c

  here_now : (t : ℕ) → get_or nodes k 0 ≡ t → Contains (take (k + 1) nodes) t
  here_now t at = subst (Contains (take (k + 1) nodes)) at (front_has nodes (k + 1) k (omega arith) (omega (arith, b)))

  -- nothing that is computed names the next symbol
  context_unread : (s : ℕ) → get_or nodes k 0 ≡ s → s < name_count tree → AreUnread (λ at. condition_names tree (condition_at l at)) slots.contexts s
  context_unread s at below zero x e c = absurd (omega (arith, c.1))
  context_unread s at below (suc i) x e c =
      let within = there slots.contexts (suc i) x e in
      not_named tree l nodes now.order k (context_number l (suc i)) s (node.Context (record { 0 = suc i })) b (now.contexts_among (suc i) x (omega arith) e)
      (refl, omega (arith, within, now.context_count)) at below c

  pub unread : (s : ℕ) → get_or nodes k 0 ≡ s → s < name_count tree → IsUnreadIn tree l slots s
  unread s at below = record {
    contexts = context_unread s at below;
    visibles = λ v x e c.
        let within = there slots.visibles v x e in
        not_named tree l nodes now.order k (visible_number l v) s (node.Visible (record { 0 = v })) b (now.visibles_among v x e)
        (refl, omega (arith, within, now.visible_count)) at below c;
    dependencies = λ i x e c.
        let within = there slots.dependencies i x e in
        not_named tree l nodes now.order k (dependency_number l i) s (node.Dependency (record { 0 = i })) b (now.dependencies_among i x e)
        (refl, omega (arith, within, now.dependency_count)) at below c;
    selections = λ i x e c.
        not_named tree l nodes now.order k (choice_number l i) s (node.Choice (record { 0 = i })) b (now.choices_among i x e)
        (refl, omega arith) at below c;
  }

  -- a symbol is computed
  pub symbol_computed : (id : SymId) (values' : List (Option Value)) → get_or nodes k 0 ≡ id.0 → id.0 < name_count tree → length values ≡ name_count tree → IsUnreadIn tree l slots id.0 →
      AreComputedValues tree given chosen id values values' → IsNext values' slots
  symbol_computed id values' at below full free f =
      let same : (j s : ℕ) → j ≤ k → get_or nodes j 0 ≡ s → s < name_count tree → equations tree P s (valuation tree values) ≡ equations tree P s (valuation tree values') =
      λ j s up is lt. reads_rows depends_on_symbols tree P s (valuation tree values) (valuation tree values') (λ t c.
      sym (f.others (symbol t) (λ e. not_needed tree l nodes now.order j k s t up b is lt (at ∙ sym e) c)))
      in
      record {
        laid = now.laid;
        order = now.order;
        value_count = f.count ∙ now.value_count;
        context_count = now.context_count;
        visible_count = now.visible_count;
        dependency_count = now.dependency_count;
        choice_count = now.choice_count;
        symbols_are = λ s lt c.
            let count = f.count in
            elim (front_cases nodes k s b c) [
              | inl before ↦
                  let w = in_front nodes k s (omega (arith, b)) before in
                  let other : s ≡ id.0 → ⊥ = λ e. not_before tree l nodes now.order k s b before (at ∙ sym e) in
                  f.others (symbol s) other ∙ now.symbols_are s (omega (arith, lt, count)) before ∙ same w.0 s (omega (arith, w.1)) w.2 (omega (arith, lt, count, full))
              | inr here ↦
                  let is : id.0 ≡ s = sym at ∙ here in
                  ap (λ n. known_in tree values' (symbol n)) (sym is) ∙ f.here
                  ∙ ap (λ n. equations tree P n (valuation tree values)) is ∙ same k s (omega arith) here (omega (arith, lt, count, full))
            ];
        others_kept = λ s none.
            f.others (symbol s) (λ e. none (here_now s (at ∙ sym e))) ∙ now.others_kept s (λ c. none (longer s c));
        contexts_among = λ i x some e. longer (context_number l i) (now.contexts_among i x some e);
        visibles_among = λ i x e. longer (visible_number l i) (now.visibles_among i x e);
        dependencies_among = λ i x e. longer (dependency_number l i) (now.dependencies_among i x e);
        choices_among = λ i x e. longer (choice_number l i) (now.choices_among i x e);
        selected_are = λ c x e.
            now.selected_are c x e
            ∙ same_selected depends_on_symbols tree (known_in tree values) (known_in tree values') (choice_at tree c) (member_place (slice_index_or chosen c None))
            (known_but (known_in tree values) (known_in tree values') id f.others (names_of_choice tree (choice_at tree c)) (free.selections c x e));
      }

  -- Another node is computed: the values stay.
  symbols_stay : length l.symbols.items ≤ get_or nodes k 0 → (s : ℕ) → s < length values → Contains (take (k + 1) nodes) s → known_in tree values (symbol s) ≡ equations tree P s (valuation tree values)
  symbols_stay past s lt c =
      elim (front_cases nodes k s b c) [
        | inl before ↦ now.symbols_are s lt before
        | inr here ↦ absurd (omega (arith, past, here, lt, now.value_count))
      ]

  -- what is computed besides stands among the nodes
  among_more : {A : Type 0} (number : ℕ → ℕ) (old new : List (Option A)) (i : ℕ) → get_or nodes k 0 ≡ number i → OnlyAt i old new →
      (j : ℕ) → (P : ℕ → Type 0) → ((j : ℕ) (x : A) → P j → slice_index_or old j None ≡ Some x → Contains (take k nodes) (number j)) → (x : A) → P j → slice_index_or new j None ≡ Some x → Contains (take (k + 1) nodes) (number j)
  among_more number old new i at only j P among x p e =
      elim (cases_eq j i) [
        | inl same ↦ here_now (number j) (at ∙ ap number (sym same))
        | inr other ↦ longer (number j) (among j x p (sym (only.others j other) ∙ e))
      ]

  abbrev Always : ℕ → Type 0
  Always _ = Unit {0}

  pub visible_computed : (v : ℕ) (new : List (Option Tri)) → get_or nodes k 0 ≡ visible_number l v → OnlyAt v slots.visibles new → IsNext values (record slots { visibles = new })
  visible_computed v new at only = record {
    laid = now.laid;
    order = now.order;
    value_count = now.value_count;
    context_count = now.context_count;
    visible_count = only.count ∙ now.visible_count;
    dependency_count = now.dependency_count;
    choice_count = now.choice_count;
    symbols_are = symbols_stay (omega (arith, at));
    others_kept = λ s none. now.others_kept s (λ c. none (longer s c));
    contexts_among = λ i x some e. longer (context_number l i) (now.contexts_among i x some e);
    visibles_among = λ i x e. among_more (visible_number l) slots.visibles new v at only i Always (λ j y _ f. now.visibles_among j y f) x tt e;
    dependencies_among = λ i x e. longer (dependency_number l i) (now.dependencies_among i x e);
    choices_among = λ i x e. longer (choice_number l i) (now.choices_among i x e);
    selected_are = now.selected_are;
  }

  pub context_computed : (i : ℕ) (new : List (Option Tri)) → get_or nodes k 0 ≡ context_number l i → OnlyAt i slots.contexts new → IsNext values (record slots { contexts = new })
  context_computed i new at only = record {
    laid = now.laid;
    order = now.order;
    value_count = now.value_count;
    context_count = only.count ∙ now.context_count;
    visible_count = now.visible_count;
    dependency_count = now.dependency_count;
    choice_count = now.choice_count;
    symbols_are = symbols_stay (omega (arith, at));
    others_kept = λ s none. now.others_kept s (λ c. none (longer s c));
    contexts_among = λ j x some e. among_more (context_number l) slots.contexts new i at only j (λ n. 0 < n) now.contexts_among x some e;
    visibles_among = λ i x e. longer (visible_number l i) (now.visibles_among i x e);
    dependencies_among = λ i x e. longer (dependency_number l i) (now.dependencies_among i x e);
    choices_among = λ i x e. longer (choice_number l i) (now.choices_among i x e);
    selected_are = now.selected_are;
  }

  pub dependency_computed : (i : ℕ) (new : List (Option Tri)) → get_or nodes k 0 ≡ dependency_number l i → OnlyAt i slots.dependencies new → IsNext values (record slots { dependencies = new })
  dependency_computed i new at only = record {
    laid = now.laid;
    order = now.order;
    value_count = now.value_count;
    context_count = now.context_count;
    visible_count = now.visible_count;
    dependency_count = only.count ∙ now.dependency_count;
    choice_count = now.choice_count;
    symbols_are = symbols_stay (omega (arith, at));
    others_kept = λ s none. now.others_kept s (λ c. none (longer s c));
    contexts_among = λ i x some e. longer (context_number l i) (now.contexts_among i x some e);
    visibles_among = λ i x e. longer (visible_number l i) (now.visibles_among i x e);
    dependencies_among = λ j x e. among_more (dependency_number l) slots.dependencies new i at only j Always (λ n y _ f. now.dependencies_among n y f) x tt e;
    choices_among = λ i x e. longer (choice_number l i) (now.choices_among i x e);
    selected_are = now.selected_are;
  }

  pub selection_computed : (c : ℕ) (new : List (Option (Option SymId))) → get_or nodes k 0 ≡ choice_number l c → IsSelection tree values new c (slice_index_or chosen c None) →
      OnlyAt c slots.selections new → IsNext values (record slots { selections = new })
  selection_computed c new at right only = record {
    laid = now.laid;
    order = now.order;
    value_count = now.value_count;
    context_count = now.context_count;
    visible_count = now.visible_count;
    dependency_count = now.dependency_count;
    choice_count = only.count ∙ now.choice_count;
    symbols_are = symbols_stay (omega (arith, at));
    others_kept = λ s none. now.others_kept s (λ m. none (longer s m));
    contexts_among = λ i x some e. longer (context_number l i) (now.contexts_among i x some e);
    visibles_among = λ i x e. longer (visible_number l i) (now.visibles_among i x e);
    dependencies_among = λ i x e. longer (dependency_number l i) (now.dependencies_among i x e);
    choices_among = λ j x e. among_more (choice_number l) slots.selections new c at only j Always (λ n y _ f. now.choices_among n y f) x tt e;
    selected_are = λ d.
        elim (cases_eq d c) [
          | inl same ↦ subst (λ n. IsSelection tree values new n (slice_index_or chosen n None)) (sym same) right
          | inr other ↦ λ x e. now.selected_are d x (sym (only.others d other) ∙ e)
        ];
  }

  -- the node of a choice is that of one that there is
  pub choice_there : (c : ℕ) → get_or nodes k 0 ≡ choice_number l c → c < length slots.selections
  choice_there c at =
      let n = All-get_or (λ m. m < node_count l) nodes k 0 b now.order.below in
      omega (arith, n, at, now.choice_count)

-- an empty list of places holds nothing
pub empty_at : {A : Type 0} (n i : ℕ) (x : A) → get_or (replicate n None) i None ≡ Some x → ⊥
empty_at {A} n i x e =
    let len : length (replicate {A = Option A} n None) ≡ n = length-replicate n None in
    let l = there (replicate n None) i x e in
    let none = get_or-replicate {A = Option A} n i None None (omega (arith, l, len)) in
    cc

-- nothing is computed yet, and the values are those at first
pub begins : (tree : TreeFacts) (l : Layout) (given : List (Option UserValue)) (chosen : List (Option SymId)) (base : List (Option Value)) (nodes : List ℕ) (values : List (Option Value)) → IsLayoutOf tree l → IsNodeOrder tree l nodes →
    length values ≡ length l.symbols.items → ((s : ℕ) → known_in tree values (symbol s) ≡ known_in tree base (symbol s)) →
    IsComputedTo tree l given chosen base nodes 0 values
    (record {
      contexts = Some Y ∷ replicate (length l.places.items) None;
      visibles = replicate (suc (length l.visibles.items)) None;
      dependencies = replicate (length l.choices.items) None;
      selections = replicate (length l.choices.items) None;
    })
begins tree l given chosen base nodes values laid order count same = record {
  laid = laid;
  order = order;
  value_count = count;
  context_count = ap suc (length-replicate _ None);
  visible_count = length-replicate _ None;
  dependency_count = length-replicate _ None;
  choice_count = length-replicate _ None;
  symbols_are = λ s lt m. absurd (omega (arith, m.1));
  others_kept = λ s none. same s;
  contexts_among = context_none;
  visibles_among = λ i x e. absurd (empty_at (suc (length l.visibles.items)) i x e);
  dependencies_among = λ i x e. absurd (empty_at (length l.choices.items) i x e);
  choices_among = λ i x e. absurd (empty_at (length l.choices.items) i x e);
  selected_are = λ i x e. absurd (empty_at (length l.choices.items) i x e);
}
  where
    context_none : (i : ℕ) (x : Tri) → 0 < i → slice_index_or (Some Y ∷ replicate (length l.places.items) None) i None ≡ Some x → Contains (take 0 nodes) (context_number l i)
    context_none zero x some e = absurd (omega (arith, some))
    context_none (suc i) x some e = absurd (empty_at (length l.places.items) i x e)

-- an empty place tells nothing
pub nothing_known : (tree : TreeFacts) (s : ℕ) → known_in tree (replicate (length tree.symbols) None) (symbol s) ≡ known_in tree [] (symbol s)
nothing_known tree s = ap (place_value (type_in (facts tree (symbol s))) (name tree (symbol s))) empty_place
  where
    empty_place : slice_index_or (replicate {A = Option Value} (length tree.symbols) None) s None ≡ None
    empty_place =
        elim (cases_lt s (length tree.symbols)) [
          | inl l ↦ get_or-replicate {A = Option Value} (length tree.symbols) s None None l
          | inr past ↦ get_or_past (replicate {A = Option Value} (length tree.symbols) None) s None (omega (arith, past, length-replicate {A = Option Value} (length tree.symbols) None))
        ]

-- a symbol that is not defined has no type, and is worth its name
module _ (tree : TreeFacts) (formed : IsWellFormed tree) (P : UserPlace → Option GivenValue) (V : ℕ → SymbolValue) (s : ℕ) where
  worth_by : (f : SymbolFacts) (k : SymbolType) → f.symbol_type ≡ k → facts tree (symbol s) ≡ Some f → (Contains tree.defined (symbol s) → ⊥) →
      known_in tree [] (symbol s) ≡ equations tree P s V
  worth_by f Undefined e at none =
      let user = P (user_place tree s) in
      let known = known_from tree V in
      ap (λ o. place_value (type_in o) (name tree (symbol s)) None) at
      ∙ untyped tree known (symbol s) f f.choice user e (λ c h. members_are_bools tree formed (symbol s) f c at h)
      ∙ ap (λ o. equation tree known (symbol s) o user) (sym at)
  worth_by f IsBool e at none = absurd (none (formed.typed_defined (symbol s) f at (λ u. let no = sym e ∙ u in cc)))
  worth_by f Tristate e at none = absurd (none (formed.typed_defined (symbol s) f at (λ u. let no = sym e ∙ u in cc)))
  worth_by f Str e at none = absurd (none (formed.typed_defined (symbol s) f at (λ u. let no = sym e ∙ u in cc)))
  worth_by f Int e at none = absurd (none (formed.typed_defined (symbol s) f at (λ u. let no = sym e ∙ u in cc)))
  worth_by f Hex e at none = absurd (none (formed.typed_defined (symbol s) f at (λ u. let no = sym e ∙ u in cc)))

  pub undefined_worth : s < name_count tree → (Contains tree.defined (symbol s) → ⊥) → known_in tree [] (symbol s) ≡ equations tree P s V
  undefined_worth lt none = let f = there_in tree.symbols s lt in worth_by f.0 f.0.symbol_type refl f.1 none

-- each symbol that is not defined has at first the value of its equation, whatever the other values are
abbrev pub AreUndefinedWorth : TreeFacts → (UserPlace → Option GivenValue) → List (Option Value) → Type 0
AreUndefinedWorth tree P base = (s : ℕ) (V : ℕ → SymbolValue) → s < name_count tree → (Contains tree.defined (symbol s) → ⊥) → known_in tree base (symbol s) ≡ equations tree P s V

-- after all nodes the equations hold
pub solves : (tree : TreeFacts) (l : Layout) (given : List (Option UserValue)) (chosen : List (Option SymId)) (base : List (Option Value)) (nodes : List ℕ) (values : List (Option Value)) (slots : Slots) →
    AreUndefinedWorth tree (places given chosen) base → length values ≡ name_count tree → IsComputedTo tree l given chosen base nodes (length nodes) values slots →
    Solves (name_count tree) (equations tree (places given chosen)) (valuation tree values)
solves tree l given chosen base nodes values slots undefined count done s lt = by (stands s nodes) refl
  where
    all : take (length nodes) nodes ≡ nodes
    all = take_all (length nodes) nodes (omega arith)

    by : (b : Bool) → stands s nodes ≡ b → valuation tree values s ≡ equations tree (places given chosen) s (valuation tree values)
    by true e = done.symbols_are s (omega (arith, lt, count)) (subst (λ ns. Contains ns s) (sym all) (stands_in s nodes e))
    by false e =
        let none : Contains nodes s → ⊥ = λ c. true≢false (sym (in_stands s nodes c) ∙ e) in
        done.others_kept s (λ c. none (subst (λ ns. Contains ns s) all c))
        ∙ undefined s (valuation tree values) lt (λ c. none (All-contains (λ (t : SymId). Contains nodes t.0) tree.defined (symbol s) done.order.defined_there c))

-- What is computed stays right as a symbol that it does not name is computed.
pub lesser_all : (t : Tri) → lesser t Y ≡ t
lesser_all N = refl
lesser_all M = refl
lesser_all Y = refl

module _ (tree : TreeFacts) (l : Layout) (values values' : List (Option Value)) (slots : Slots) (id : SymId) (free : IsUnreadIn tree l slots id.0)
    (others : (s : SymId) → (s.0 ≡ id.0 → ⊥) → known_in tree values' s ≡ known_in tree values s) where
  worth_stays : (c : Condition) → (Contains (condition_names tree c) id → ⊥) → condition tree (known_in tree values) c ≡ condition tree (known_in tree values') c
  worth_stays c none =
      same_condition depends_on_symbols tree (known_in tree values) (known_in tree values') c (known_but (known_in tree values) (known_in tree values') id others (condition_names tree c) none)

  pub contexts_stay : AreContextsComputed tree l values slots.contexts → AreContextsComputed tree l values' slots.contexts
  contexts_stay right i t e = right i t e ∙ ap rank (worth_stays (condition_at l i) (free.contexts i t e))

  pub visibles_stay : AreVisiblesComputed tree l values slots.visibles → AreVisiblesComputed tree l values' slots.visibles
  visibles_stay right i t e =
      right i t e
      ∙ ap rank (sym (lesser_all (and_value tree (known_in tree values) (visible_at l i))) ∙ worth_stays (visible_condition l i) (free.visibles i t e)
      ∙ lesser_all (and_value tree (known_in tree values') (visible_at l i)))

  abbrev row_worth : List (Option Value) → Option Choice → Tri
  row_worth vs o = elim o [ None ↦ N | Some c ↦ condition tree (known_in tree vs) (choice_dependency l c) ]

  abbrev row_condition : Option Choice → Condition
  row_condition o = elim o [ None ↦ record { conjuncts = []; mode = None } | Some c ↦ choice_dependency l c ]

  dependency_by : (o : Option Choice) → (Contains (condition_names tree (row_condition o)) id → ⊥) → row_worth values o ≡ row_worth values' o
  dependency_by None none = refl
  dependency_by (Some c) none = worth_stays (choice_dependency l c) none

  pub dependencies_stay : AreDependenciesComputed tree l values slots.dependencies → AreDependenciesComputed tree l values' slots.dependencies
  dependencies_stay right i t e = right i t e ∙ ap rank (dependency_by (slice_get l.choices.items i) (free.dependencies i t e))

-- a place that is filled with what belongs there
pub worth_put : (worth : ℕ → Tri) (slots : List (Option Tri)) (i : ℕ) (x : Tri) → i < length slots → x ≡ worth i → AreWorth worth slots → AreWorth worth (slice_set slots i (Some x))
worth_put worth slots i x lt is right j t e =
    elim (cases_eq j i) [
      | inl same ↦
          let here : Some x ≡ Some t = sym (get_or-set_same slots i (Some x) None lt) ∙ ap (λ n. slice_index_or (slice_set slots i (Some x)) n None) (sym same) ∙ e in
          let value : x ≡ t = cc in
          ap rank (sym value ∙ is ∙ ap worth (sym same))
      | inr other ↦ right j t (sym (get_or-set_other slots i j (Some x) None other) ∙ e)
    ]

-- what holds of a value that is put and of the one that stood there holds after a call that puts it, or fails
pub either_way : {A X E : Type 0} (r : Result X E) (P : A → Type 0) (old put new : A) → OnOk r (new ≡ put) → OnErr r (new ≡ old) → P put → P old → P new
either_way (Ok x) P old put new done failed p q = subst P (sym done) p
either_way (Err e) P old put new done failed p q = subst P (sym failed) q

-- one more node of a table
module _ (tree : TreeFacts) (l : Layout) (given : List (Option UserValue)) (chosen : List (Option SymId)) (base : List (Option Value)) (nodes : List ℕ) (k : ℕ) (old new : Table) (now : IsComputedTable tree l given chosen base nodes k old)
    (b : k < length nodes) where
  abbrev IsNextOf : List (Option Value) → Slots → Type 0
  IsNextOf values slots = IsComputedTo tree old.layout.now given chosen base nodes (k + 1) values slots

  next_of : KeepsTree old new → (values : List (Option Value)) (slots : Slots) → new.values ≡ values → slots_of new ≡ slots → IsNextOf values slots → IsComputedTable tree l given chosen base nodes (k + 1) new
  next_of keeps values slots v s next =
      let a = subst (λ x. IsNextOf x slots) (sym v) next in
      let c = subst (IsNextOf new.values) (sym s) a in (
        ap (λ t. t.now) keeps.tree ∙ now.0,
        subst (λ m. IsComputedTo tree m.now given chosen base nodes (k + 1) new.values (slots_of new)) (sym keeps.layout) c,
        ap (λ m. m.now) keeps.layout ∙ now.2,
      )

  pub symbol_next : (id : SymId) → get_or nodes k 0 ≡ id.0 → id.0 < name_count tree → length old.values ≡ name_count tree → IsComputedSymbol given chosen id old new → IsComputedTable tree l given chosen base nodes (k + 1) new
  symbol_next id at below full f =
      let free = unread tree old.layout.now given chosen base nodes k old.values (slots_of old) now.1 b id.0 at below in
      let values = subst (λ u. AreComputedValues u given chosen id old.values new.values) now.0 f.values in
      next_of f.keeps new.values (slots_of old) refl
      (λ j. record { contexts = (f.contexts j).items; visibles = (f.visibles j).items; dependencies = (f.dependencies j).items; selections = (f.selections j).items })
      (symbol_computed tree old.layout.now given chosen base nodes k old.values (slots_of old) now.1 b id new.values at below full free values)

  pub visible_next : (v : ℕ) → get_or nodes k 0 ≡ visible_number old.layout.now v → IsComputedVisible v old new → IsComputedTable tree l given chosen base nodes (k + 1) new
  visible_next v at f =
      next_of f.keeps old.values (record (slots_of old) { visibles = new.visibles.items }) f.values
      (λ j. record { contexts = (f.contexts j).items; visibles = new.visibles.items; dependencies = (f.dependencies j).items; selections = (f.selections j).items })
      (visible_computed tree old.layout.now given chosen base nodes k old.values (slots_of old) now.1 b v new.visibles.items at f.visibles)

  pub context_next : (i : ℕ) → get_or nodes k 0 ≡ context_number old.layout.now i → IsComputedContext i old new → IsComputedTable tree l given chosen base nodes (k + 1) new
  context_next i at f =
      next_of f.keeps old.values (record (slots_of old) { contexts = new.contexts.items }) f.values
      (λ j. record { contexts = new.contexts.items; visibles = (f.visibles j).items; dependencies = (f.dependencies j).items; selections = (f.selections j).items })
      (context_computed tree old.layout.now given chosen base nodes k old.values (slots_of old) now.1 b i new.contexts.items at f.contexts)

  pub dependency_next : (i : ℕ) → get_or nodes k 0 ≡ dependency_number old.layout.now i → IsComputedDependency i old new → IsComputedTable tree l given chosen base nodes (k + 1) new
  dependency_next i at f =
      next_of f.keeps old.values (record (slots_of old) { dependencies = new.dependencies.items }) f.values
      (λ j. record { contexts = (f.contexts j).items; visibles = (f.visibles j).items; dependencies = new.dependencies.items; selections = (f.selections j).items })
      (dependency_computed tree old.layout.now given chosen base nodes k old.values (slots_of old) now.1 b i new.dependencies.items at f.dependencies)

  pub choice_next : (i : ℕ) → get_or nodes k 0 ≡ choice_number old.layout.now i → IsComputedSelection chosen i old new → IsComputedTable tree l given chosen base nodes (k + 1) new
  choice_next i at f =
      let here = subst (λ u. IsSelection u old.values new.selections.items i (slice_index_or chosen i None)) now.0 f.here in
      next_of f.keeps old.values (record (slots_of old) { selections = new.selections.items }) f.values
      (λ j. record { contexts = (f.contexts j).items; visibles = (f.visibles j).items; dependencies = (f.dependencies j).items; selections = new.selections.items })
      (selection_computed tree old.layout.now given chosen base nodes k old.values (slots_of old) now.1 b i new.selections.items at here f.selections)

-- a table in which nothing is computed yet
pub begins_at : (tree : TreeFacts) (l : Layout) (given : List (Option UserValue)) (chosen : List (Option SymId)) (base : List (Option Value)) (nodes : List ℕ) (t : Table) → IsLayoutOf tree l → IsNodeOrder tree l nodes → t.tree.now ≡ tree → t.layout.now ≡ l →
    length t.values ≡ length l.symbols.items → ((s : ℕ) → known_in tree t.values (symbol s) ≡ known_in tree base (symbol s)) →
    t.contexts.items ≡ Some Y ∷ replicate (length l.places.items) None → t.visibles.items ≡ replicate (suc (length l.visibles.items)) None →
    t.dependencies.items ≡ replicate (length l.choices.items) None → t.selections.items ≡ replicate (length l.choices.items) None → IsComputedTable tree l given chosen base nodes 0 t
begins_at tree l given chosen base nodes t laid order same at count v c w d s =
    let slots : slots_of t
    ≡ record {
      contexts = Some Y ∷ replicate (length l.places.items) None;
      visibles = replicate (suc (length l.visibles.items)) None;
      dependencies = replicate (length l.choices.items) None;
      selections = replicate (length l.choices.items) None;
    } = λ j. record { contexts = c j; visibles = w j; dependencies = d j; selections = s j } in (
      same,
      subst (λ m. IsComputedTo tree m given chosen base nodes 0 t.values (slots_of t)) (sym at)
          (subst (λ x. IsComputedTo tree l given chosen base nodes 0 t.values x) (sym slots) (begins tree l given chosen base nodes t.values laid order count v)),
      at,
    )

-- a table after all nodes
pub solves_at : (tree : TreeFacts) (l : Layout) (given : List (Option UserValue)) (chosen : List (Option SymId)) (base : List (Option Value)) (nodes : List ℕ) (t : Table) →
    (IsWellFormed tree → AreUndefinedWorth tree (places given chosen) base) → IsComputedTable tree l given chosen base nodes (length nodes) t →
    Solves (name_count tree) (equations tree (places given chosen)) (valuation tree t.values)
solves_at tree l given chosen base nodes t undefined done s lt =
    ∥∥₁_elim t.formed (Coded-set symbol_value_code _ _) (λ formed.
    solves tree t.layout.now given chosen base nodes t.values (slots_of t) (undefined (subst IsWellFormed done.0 formed)) (done.1.value_count ∙ row_count t ∙ ap name_count done.0) done.1 s lt)
