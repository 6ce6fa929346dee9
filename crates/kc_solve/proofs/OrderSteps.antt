-- An order of the nodes of the graph of needs, without those for which nothing is computed.
use Rattle.std.proofs.{Common.{Bool, List, None, Option, Some, [], ap, arith, cond, drop, eq-eqb, eqb, false, filter, flat_map, get_or, length, map, nat_lt, refl, subst, suc, sym, take, true, zero, ℕ, ◌&&◌, ◌+◌, ◌-◌, ◌<◌, ◌==◌, ◌||◌, ◌∙◌, ◌∷◌, ◌≡◌, ◌≤◌}, lemmas.{Bool.{and_from, lt-ltb}, List.{Elements.Contains-get_or, Folds.list_any_at, get_or_default}, Option.slice_get_within}}
use Rattle.std.specs.{List.{AllByRecursion, Contains, IsDistinct, count_by, list_any, slice_get}, Option.option_and_then}
use Rattle.kc_language.specs.{Expansion.{defined_name, numbers}, Expressions.symbol, Needs.{needs, needs_in}, Statements.Numbered, Symbols.{TreeFacts, definitions_of, is_symbol_of, listed, symbol_at}, Values.name_count, declared.expressions.SymId.SymId}
use Rattle.kc_order.specs.{Graph.{IsGraph, Nodes, groups_of, needs_of, stands_for}, Needs.AreAlike, Order.Orders}
use Rattle.kc_order.proofs.{Alike.symbols_first, Groups.{group_stands, needs_stand}}
use Rattle.kc_entries.specs.{PartsOfSymbols.first_of, WellFormed.IsWellFormed}
use Rattle.kc_entries.proofs.{PlaceLemmas.there_in, SymbolListLemmas.defined_line}
use Rattle.kc_tree.specs.{EntryViews.{definitions_from, index_of, statements_in}, Layouts.IsLayoutOf, Stored.stored, declared.{layout.Layout.Layout, rows.Symbol.Symbol}}
use Rattle.kc_tree.proofs.{EntryListLemmas.definitions-at, ListLemmas.kept-there}
use Rattle.kc_values.specs.{NeedRows.AreNodeRows, Nodes.{IsNode, first_context, first_dependency, node_count}, declared.nodes.Node.Node}
use Rattle.kc_values.specs.declared.nodes.Node.TheVariants as node
use Rattle.kc_values.proofs.AnyLemmas.{any_filter, stands_in}
use Rattle.kc_solve.specs.{Busy.{asks_itself, is_busy, is_defined}, Orders.{IsNodeOrder, names_of_node}}

-- Lists without some of their numbers.
module _ (p : ℕ → Bool) where
  -- the place in a list of what stands at a place of the shorter list
  pub record IsKeptAt (xs ys : List ℕ) (k : ℕ) : Type 0 where
    pub at : ℕ
    pub within : at < length xs
    pub same : get_or xs at 0 ≡ get_or ys k 0
    pub before : take k ys ≡ filter p (take at xs)
    pub passes : p (get_or xs at 0) ≡ true

  kept-by : (x : ℕ) (xs : List ℕ) → ((k : ℕ) → k < length (filter p xs) → IsKeptAt xs (filter p xs) k) → (b : Bool) → p x ≡ b → (k : ℕ) → k < length (cond b (x ∷ filter p xs) (filter p xs)) →
      IsKeptAt (x ∷ xs) (cond b (x ∷ filter p xs) (filter p xs)) k
  kept-by x xs ih true e zero h = record { at = 0; within = omega arith; same = refl; before = refl; passes = e }
  kept-by x xs ih true e (suc k) h =
      let i = ih k (omega (arith, h)) in
      let front = filter p (take i.at xs) in
      record {
        at = suc i.at;
        within = omega (arith, i.within);
        same = i.same;
        before = ap (λ ys. x ∷ ys) i.before ∙ sym (ap (λ (b : Bool). cond b (x ∷ front) front) e);
        passes = i.passes;
      }
  kept-by x xs ih false e k h =
      let i = ih k h in
      let front = filter p (take i.at xs) in
      record {
        at = suc i.at;
        within = omega (arith, i.within);
        same = i.same;
        before = i.before ∙ sym (ap (λ (b : Bool). cond b (x ∷ front) front) e);
        passes = i.passes;
      }

  pub kept-at : (xs : List ℕ) (k : ℕ) → k < length (filter p xs) → IsKeptAt xs (filter p xs) k
  kept-at [] k h = absurd (omega (arith, h))
  kept-at (x ∷ xs) k h = kept-by x xs (kept-at xs) (p x) refl k h

  pub kept-passes : (xs : List ℕ) (t : ℕ) → Contains (filter p xs) t → p t ≡ true
  kept-passes xs t c =
      let i = kept-at xs c.0 c.1 in
      subst (λ n. p n ≡ true) (i.same ∙ get_or_default (filter p xs) c.0 0 t c.1 ∙ c.2) i.passes

  pub kept : (xs : List ℕ) (t : ℕ) → Contains xs t → p t ≡ true → Contains (filter p xs) t
  kept xs t c e =
      let same = eq-eqb t t refl in
      stands_in t (filter p xs)
      (any_filter (λ m. m == t) p xs ∙ list_any_at (λ m. p m && (m == t)) xs c.0 t c.1 (ap (λ m. p m && (m == t)) c.2 ∙ and_from (p t) (t == t) e same))

  all-by : (P : ℕ → Type 0) (b : Bool) (x : ℕ) (ys : List ℕ) → P x → AllByRecursion P ys → AllByRecursion P (cond b (x ∷ ys) ys)
  all-by P true x ys h a = (h, a)
  all-by P false x ys h a = a

  all-kept : (P : ℕ → Type 0) (xs : List ℕ) → AllByRecursion P xs → AllByRecursion P (filter p xs)
  all-kept P [] a = tt
  all-kept P (x ∷ xs) a = all-by P (p x) x (filter p xs) a.0 (all-kept P xs a.1)

  apart-by : (eq : ℕ → ℕ → Bool) (b : Bool) (x : ℕ) (ys : List ℕ) → AllByRecursion (λ y. eq x y ≡ false) ys → IsDistinct eq ys → IsDistinct eq (cond b (x ∷ ys) ys)
  unfolding IsDistinct
  apart-by eq true x ys a h = (a, h)
  apart-by eq false x ys a h = h

  pub apart-kept : (eq : ℕ → ℕ → Bool) (xs : List ℕ) → IsDistinct eq xs → IsDistinct eq (filter p xs)
  unfolding IsDistinct
  apart-kept eq [] h = tt
  apart-kept eq (x ∷ xs) h = apart-by eq (p x) x (filter p xs) (all-kept (λ y. eq x y ≡ false) xs h.0) (apart-kept eq xs h.1)

-- A defined symbol has a first definition.
module _ (l : Layout) (s : ℕ) where
  abbrev ss : List Numbered
  ss = statements_in l.entries

  some-first : (places ds : List ℕ) → places ≡ map (index_of l.entries) ds → 0 < length places → nat_lt 0 (stored (first_of ds)) ≡ true
  some-first places [] e h = let none = ap length e in absurd (omega (arith, none, h))
  some-first places (d ∷ ds) e h = lt-ltb 0 (suc d) (omega arith)

  line-within : (i : ℕ) (o : Option Numbered) → slice_get ss i ≡ o → option_and_then defined_name o ≡ Some (symbol s) → i < length ss
  line-within i None e h = absurd cc
  line-within i (Some x) e h = slice_get_within ss i x e

  defined-somewhere : Contains l.defined.items (symbol s) → 0 < length (definitions_of ss (symbol s))
  defined-somewhere c =
      let line = defined_line ss (symbol s) (subst (λ (xs : List SymId). Contains xs (symbol s)) l.laid.defined_are c) in
      let is_here = λ (i : ℕ). is_symbol_of (symbol s) (symbol_at ss i) in
      let here = kept-there is_here (length ss) line.place (line-within line.place (slice_get ss line.place) refl line.at) (ap (is_symbol_of (symbol s)) line.at ∙ eq-eqb s s refl) in
      let within = slice_get_within (definitions_of ss (symbol s)) (count_by is_here (numbers line.place)) line.place here in
      omega (arith, within)

  or-false : (b : Bool) → (b || false) ≡ b
  or-false true = refl
  or-false false = refl

  row-defined : (row : Symbol) → slice_get l.symbols.items s ≡ Some row → Contains l.defined.items (symbol s) → is_defined l s ≡ true
  row-defined row at c =
      ap (λ o. list_any (λ (r : Symbol). nat_lt 0 r.first.0) (listed o)) at
      ∙ or-false (nat_lt 0 row.first.0)
      ∙ ap (nat_lt 0) (l.laid.symbols_are s row at).first
      ∙ some-first (definitions_of ss (symbol s)) (definitions_from l.entries (symbol s) 0) (definitions-at l.entries (symbol s)) (defined-somewhere c)

  defined-busy : s < length l.symbols.items → Contains l.defined.items (symbol s) → is_busy l s ≡ true
  defined-busy below c =
      let row = there_in l.symbols.items s below in
      ap (λ b. cond b (is_defined l s) (cond (nat_lt s (first_context l)) (nat_lt (length l.symbols.items) s) (cond (nat_lt s (first_dependency l)) (asks_itself l (s - first_context l)) true)))
      (lt-ltb s (length l.symbols.items) below)
      ∙ row-defined row.0 row.1 c

-- what these nodes of a graph name, they stand for
abbrev pub AreNamesThere : TreeFacts → Layout → Nodes → Type 0
AreNamesThere tree l g = (n : Node) (m s : ℕ) → IsNode l m n → m < node_count l → is_busy l m ≡ true → s < length l.symbols.items → Contains (names_of_node tree l n) (symbol s) →
    Contains (stands_for g.symbols (groups_of g) m) s

module _ (tree : TreeFacts) (formed : IsWellFormed tree) (l : Layout) (laid : IsLayoutOf tree l) (g : Nodes) (is : IsGraph g) (alike : AreAlike (needs_of g) (needs tree)) (made : AreNodeRows tree l g)
    (names : AreNamesThere tree l g) (all : List ℕ) (orders : Orders g.rows all) where
  abbrev busy : List ℕ
  busy = filter (is_busy l) all

  -- what the row of a node stands for stands before the node
  before : (k t : ℕ) → k < length busy → Contains (flat_map (stands_for g.symbols (groups_of g)) (needs_in g.rows (get_or busy k 0))) t → Contains busy t → Contains (take k busy) t
  before k t h c here =
      let i = kept-at (is_busy l) all k h in
      let row = subst (λ n. Contains (flat_map (stands_for g.symbols (groups_of g)) (needs_in g.rows n)) t) (sym i.same) c in
      subst (λ xs. Contains xs t) (sym i.before) (kept (is_busy l) (take i.at all) t (symbols_first g all is orders i.at t i.within row) (kept-passes (is_busy l) all t here))

  node_below : (k : ℕ) → k < length busy → get_or busy k 0 < length g.rows
  node_below k h = let i = kept-at (is_busy l) all k h in subst (λ n. n < length g.rows) i.same (orders.all_below (get_or all i.at 0) (Contains-get_or all i.at 0 i.within))

  names_by : (n : Node) (k s : ℕ) → k < length busy → IsNode l (get_or busy k 0) n → length l.symbols.items ≤ get_or busy k 0 → s < name_count tree → Contains (names_of_node tree l n) (symbol s) → Contains busy s →
      Contains (take k busy) s
  names_by n k s h is_node past below c here =
      let m = get_or busy k 0 in
      let within = node_below k h in
      let counts = kept-passes (is_busy l) all m (Contains-get_or busy k 0 h) in
      let stood = names n m s is_node (omega (arith, within, made.count)) counts (omega (arith, below, laid.symbol_count)) c in
      before k s h (subst (λ ns. Contains ns s) (group_stands g is m (omega (arith, past, made.symbols_are)) within) stood) here

  names_first : (k : ℕ) (n : Node) (s : ℕ) → k < length busy → IsNode l (get_or busy k 0) n → s < name_count tree → Contains (names_of_node tree l n) (symbol s) → Contains busy s → Contains (take k busy) s
  names_first k (node.Symbol t) s h is_node below c here = absurd (omega (arith, c.1))
  names_first k (node.Visible v) s h is_node below c here = names_by (node.Visible v) k s h is_node (omega (arith, is_node.0)) below c here
  names_first k (node.Context at) s h is_node below c here = names_by (node.Context at) k s h is_node (omega (arith, is_node.0)) below c here
  names_first k (node.Dependency d) s h is_node below c here = names_by (node.Dependency d) k s h is_node (omega (arith, is_node.0)) below c here
  names_first k (node.Choice d) s h is_node below c here = names_by (node.Choice d) k s h is_node (omega (arith, is_node.0)) below c here

  pub node_order : IsNodeOrder tree l busy
  node_order = record {
    below = λ k d h. let within = node_below k h in omega (arith, within, made.count, get_or_default busy k d 0 h);
    apart = apart-kept (is_busy l) eqb all orders.apart;
    defined_there = λ k d h.
        let s = get_or tree.defined k d in
        let there = formed.defined_there k d h in
        let row : s.0 < length l.symbols.items = omega (arith, there, laid.symbol_count) in
        let symbols : s.0 < length g.rows = omega (arith, row, made.symbols_are, is.symbols_there) in
        kept (is_busy l) all s.0 (orders.all_there s.0 symbols)
        (defined-busy l s.0 row (subst (λ (xs : List SymId). Contains xs s) laid.defined (Contains-get_or tree.defined k d h)));
    needs_first = λ k t h below c here.
        let s = get_or busy k 0 in
        let symbols : s < g.symbols = omega (arith, below, laid.symbol_count, made.symbols_are) in
        before k t h (subst (λ ns. Contains ns t) (needs_stand g is s symbols) (alike.back s t c)) here;
    names_first = names_first;
  }
