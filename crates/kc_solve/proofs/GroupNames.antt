-- What the nodes for which something is computed name, they stand for.
use Rattle.std.proofs.{Common.{Bool, List, None, Option, Some, [], ap, arith, cond, false, length, nat_lt, refl, subst, suc, sym, true, zero, ℕ, ◌&&◌, ◌-◌, ◌<◌, ◌==◌, ◌||◌, ◌∙◌, ◌∷◌, ◌≡◌, ◌≤◌}, lemmas.{Bool.{eq-eqb, eqb-true, le-ltb, lt-ltb}, List.{Folds.list_any_at, append-nil}}}
use Rattle.std.specs.List.{Contains, flat_map, list_any}
use Rattle.kc_language.specs.{Expressions.{symbol, symbols}, Needs.{condition_names, names_of_choice}, Symbols.TreeFacts, Values.choice_at, declared.expressions.SymId.SymId}
use Rattle.kc_order.specs.Graph.{IsGraph, Nodes, groups_of, stands_for}
use Rattle.kc_entries.proofs.PlaceLemmas.{there_in}
use Rattle.kc_tree.specs.{Layouts.{IsLayoutOf, choice_dependency, condition_at, place_of, visible_at}, declared.layout.Layout.Layout}
use Rattle.kc_values.specs.{NeedRows.AreNodeRows, Nodes.{IsNode, choice_number, context_number, dependency_number, first_context, first_dependency, node_count, visible_number}, declared.nodes.Node.Node}
use Rattle.kc_values.specs.declared.nodes.Node.TheVariants as node
use Rattle.kc_values.proofs.{AnyLemmas.{stands, stands_in}, NeedsAlike.{choice_stands, contexts_stand, dependencies_stand, visibles_stand}, RowNeeds.{hit, names}}
use Rattle.kc_solve.specs.{Busy.{asks_itself, is_busy, is_defined}, Orders.{names_of_node, own_condition, visible_condition}}
use Rattle.kc_solve.proofs.OrderSteps.{AreNamesThere}

-- a node that stands alone in a row
alone : (b : Bool) → ((b || false) || false) ≡ b
alone true = refl
alone false = refl

later : (i : ℕ) → (suc i == 0) ≡ false
later i = grind arith

one_node : (f : ℕ → Bool) (i t : ℕ) → (list_any f (cond (suc i == 0) [] (t ∷ [])) || false) ≡ f t
one_node f i t = ap (λ b. list_any f (cond b [] (t ∷ [])) || false) (later i) ∙ alone (f t)

both_true : (a b : Bool) → (a && b) ≡ true → b ≡ true
both_true true b e = e
both_true false b e = absurd cc

-- an entry for which something is computed asks for something itself
busy-context : (l : Layout) (at : ℕ) → at ≤ length l.places.items → is_busy l (context_number l at) ≡ true → (place_of l at).context.0 ≡ at
busy-context l at b e =
    let m = context_number l at in
    let less : m - first_context l ≡ at = omega arith in
    let symbols = le-ltb m (length l.symbols.items) (omega arith) in
    let menus = le-ltb m (first_context l) (omega arith) in
    let entries = lt-ltb m (first_dependency l) (omega (arith, b)) in
    let asks : is_busy l m ≡ asks_itself l at =
    ap (λ t. cond t (is_defined l m) (cond (nat_lt m (first_context l)) (nat_lt (length l.symbols.items) m) (cond (nat_lt m (first_dependency l)) (asks_itself l (m - first_context l)) true))) symbols
    ∙ ap (λ t. cond t (nat_lt (length l.symbols.items) m) (cond (nat_lt m (first_dependency l)) (asks_itself l (m - first_context l)) true)) menus
    ∙ ap (λ t. cond t (asks_itself l (m - first_context l)) true) entries
    ∙ ap (asks_itself l) less in
    eqb-true (place_of l at).context.0 at (both_true (nat_lt 0 at) ((place_of l at).context.0 == at) (sym asks ∙ e))

module _ (tree : TreeFacts) (l : Layout) (laid : IsLayoutOf tree l) (g : Nodes) (made : AreNodeRows tree l g) (is : IsGraph g) (s : ℕ) (below : s < length l.symbols.items) where
  -- a list that holds the symbol names it
  named : (ss : List SymId) → Contains ss (symbol s) → names tree l s ss ≡ true
  named ss c =
      let here : hit tree l s (symbol s) ≡ true = ap (λ x. x && (s == s)) (lt-ltb s (length l.symbols.items) below) ∙ eq-eqb s s refl in
      list_any_at (hit tree l s) ss c.0 (symbol s) c.1 (ap (hit tree l s) c.2 ∙ here)

  abbrev StandsFor : ℕ → Type 0
  StandsFor m = Contains (stands_for g.symbols (groups_of g) m) s

  abbrev st : ℕ → Bool
  st t = stands s (stands_for g.symbols (groups_of g) t)

  in_node : (m : ℕ) → st m ≡ true → StandsFor m
  in_node m e = stands_in s (stands_for g.symbols (groups_of g) m) e

  visible_there : (v : ℕ) → v ≤ length l.visibles.items → Contains (condition_names tree (visible_condition l v)) (symbol s) → StandsFor (visible_number l v)
  visible_there zero b c = absurd (omega (arith, c.1))
  visible_there (suc u) b c =
      let ss = flat_map (symbols tree.modules) (visible_at l (suc u)) in
      let here = subst (λ xs. Contains xs (symbol s)) (append-nil ss) c in
      in_node (visible_number l (suc u)) (sym (one_node st u (visible_number l (suc u))) ∙ visibles_stand tree l laid g made is s (suc u) b ∙ named ss here)

  context_there : (at : ℕ) → at ≤ length l.places.items → (place_of l at).context.0 ≡ at → Contains (condition_names tree (condition_at l at)) (symbol s) → StandsFor (context_number l at)
  context_there zero b own c = absurd (omega (arith, c.1))
  context_there (suc e) b own c =
      in_node (context_number l (suc e)) (sym (one_node st e (context_number l (suc e))) ∙ contexts_stand tree l laid g made is s (suc e) b own ∙ named (condition_names tree (condition_at l (suc e))) c)

  dependency_there : (k : ℕ) → k < length l.choices.items → Contains (condition_names tree (own_condition l k)) (symbol s) → StandsFor (dependency_number l k)
  dependency_there k b c =
      let row = there_in l.choices.items k b in
      let here = subst (λ o. Contains (condition_names tree (elim o [ None ↦ record { conjuncts = []; mode = None } | Some x ↦ choice_dependency l x ])) (symbol s)) row.1 c in
      in_node (dependency_number l k) (dependencies_stand tree l laid g made is s k row.0 row.1 ∙ named (condition_names tree (choice_dependency l row.0)) here)

  choice_there : (k : ℕ) → k < length l.choices.items → Contains (names_of_choice tree (choice_at tree k)) (symbol s) → StandsFor (choice_number l k)
  choice_there k b c = in_node (choice_number l k) (choice_stands tree l laid g made is s k b ∙ named (names_of_choice tree (choice_at tree k)) c)

  there : (n : Node) (m : ℕ) → IsNode l m n → m < node_count l → is_busy l m ≡ true → Contains (names_of_node tree l n) (symbol s) → StandsFor m
  there (node.Symbol t) m at within counts c = absurd (omega (arith, c.1))
  there (node.Visible v) m at within counts c = subst StandsFor (sym at.0) (visible_there v.0 at.1 c)
  there (node.Context e) m at within counts c =
      subst StandsFor (sym at.0) (context_there e.0 at.1 (busy-context l e.0 at.1 (ap (is_busy l) (sym at.0) ∙ counts)) c)
  there (node.Dependency k) m at within counts c = subst StandsFor (sym at.0) (dependency_there k.0 at.1 c)
  there (node.Choice k) m at within counts c = subst StandsFor (sym at.0) (choice_there k.0 (omega (arith, at.0, within)) c)

pub names_there : (tree : TreeFacts) (l : Layout) (g : Nodes) → IsLayoutOf tree l → IsGraph g → AreNodeRows tree l g → AreNamesThere tree l g
names_there tree l g laid is made n m s at within counts below c = there tree l laid g made is s below n m at within counts c
