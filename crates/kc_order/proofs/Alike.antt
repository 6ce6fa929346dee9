-- Needs that are alike, and orders of graphs.
use Rattle.std.proofs.{Common.{Bool, List, Some, ap, ap₂, arith, eqb, false, find, get_or, inl, inr, length, refl, subst, suc, sym, take, true, zero, ℕ, ◌&&◌, ◌<◌, ◌∙◌, ◌≡◌, ◌≤◌}, lemmas.{Bool.{Decides.same_from_decides, cases_lt}, List.{Elements.Contains-get_or, Folds.{Any-from_list_any, list_any_at}, get_or-take, get_or_default, length-take-le}}}
use Rattle.std.specs.List.{Contains, flat_map, list_any, slice_index}
use Rattle.kc_order.specs.{Graph.{IsGraph, Nodes, groups_of, needs_of, stands_for}, Needs.{AreAlike, AreWithin}, Order.Orders, PartsOfNeeds.{AreAccepted as IsAccepted, IsFirstUnordered, IsNext}}
use Rattle.kc_language.specs.Needs.{IsNamedLoop, needs_in, unordered_after}
use Rattle.kc_order.proofs.{FirstLemmas.same_found, Groups.{contains_flat, group_stands, needs_count, needs_within, one_is, stands_symbol}}

-- a test finds something in a list where it finds it in one that holds no more
any_in : (p q : ℕ → Bool) (xs ys : List ℕ) → ((t : ℕ) → Contains xs t → Contains ys t) → ((t : ℕ) → p t ≡ true → q t ≡ true) → list_any p xs ≡ true → list_any q ys ≡ true
any_in p q xs ys more same e =
    let a = Any-from_list_any p xs e in
    let c = more a.1 (a.0, a.2, a.3) in
    list_any_at q ys c.0 0 c.1 (ap q (get_or_default ys c.0 0 a.1 c.1 ∙ c.2) ∙ same a.1 a.4)

same_answer : (a b : Bool) → (a ≡ true → b ≡ true) → (b ≡ true → a ≡ true) → a ≡ b
same_answer a b onward back = same_from_decides {P = a ≡ true} a b ((λ e. e), (λ e. e)) (back, onward)

unordered_onward : (needs other : List (List ℕ)) → AreAlike needs other → (k s : ℕ) → unordered_after (needs_in needs) k s ≡ true → unordered_after (needs_in other) k s ≡ true
unordered_onward needs other alike zero s e = refl
unordered_onward needs other alike (suc k) s e =
    any_in (unordered_after (needs_in needs) k) (unordered_after (needs_in other) k) (needs_in needs s) (needs_in other s) (alike.onward s) (unordered_onward needs other alike k) e

pub turned : (needs other : List (List ℕ)) → AreAlike needs other → AreAlike other needs
turned needs other alike = record { count = sym alike.count; onward = alike.back; back = alike.onward }

-- the same symbols are unordered after each iteration
pub unordered_same : (needs other : List (List ℕ)) → AreAlike needs other → (k s : ℕ) → unordered_after (needs_in needs) k s ≡ unordered_after (needs_in other) k s
unordered_same needs other alike k s =
    same_answer _ _ (unordered_onward needs other alike k s) (unordered_onward other needs (turned needs other alike) k s)

-- and needed by a symbol
needed_same : (needs other : List (List ℕ)) → AreAlike needs other → (s t : ℕ) → list_any (eqb t) (needs_in needs s) ≡ list_any (eqb t) (needs_in other s)
needed_same needs other alike s t =
    same_answer _ _
    (any_in (eqb t) (eqb t) (needs_in needs s) (needs_in other s) (alike.onward s) (λ u e. e))
    (any_in (eqb t) (eqb t) (needs_in other s) (needs_in needs s) (alike.back s) (λ u e. e))

pub accepted_alike : (needs other : List (List ℕ)) → AreAlike needs other → IsAccepted needs → IsAccepted other
accepted_alike needs other alike is s l =
    subst (λ n. unordered_after (needs_in other) n s ≡ false) alike.count (sym (unordered_same needs other alike (length needs) s) ∙ is s (omega (arith, l, alike.count)))

module _ (sequence : List ℕ) (needs other : List (List ℕ)) (alike : AreAlike needs other) where
  first_alike : (t : ℕ) → IsFirstUnordered sequence (length needs) (needs_in needs) t → IsFirstUnordered sequence (length other) (needs_in other) t
  first_alike t first =
      subst (λ n. find (unordered_after (needs_in other) n) sequence ≡ Some t) alike.count
      (sym (same_found _ _ sequence (λ k d l. unordered_same needs other alike (length needs) (get_or sequence k d))) ∙ first)

  next_alike : (s t : ℕ) → IsNext sequence (length needs) (needs_in needs) s t → IsNext sequence (length other) (needs_in other) s t
  next_alike s t next =
      subst (λ n. find (λ u. unordered_after (needs_in other) n u && list_any (eqb u) (needs_in other s)) sequence ≡ Some t) alike.count
      (sym (same_found _ _ sequence (λ k d l.
      ap₂ (λ a b. a && b) (unordered_same needs other alike (length needs) (get_or sequence k d)) (needed_same needs other alike s (get_or sequence k d)))) ∙ next)

  pub loop_alike : (loop : List ℕ) → IsNamedLoop sequence (length needs) (needs_in needs) loop → IsNamedLoop sequence (length other) (needs_in other) loop
  loop_alike loop named = record {
    lead = named.lead;
    some = named.some;
    walk = record {
      begins = first_alike _ named.walk.begins;
      goes_on = λ k l. next_alike _ _ (named.walk.goes_on k l);
    };
    apart = named.apart;
  }

pub graph_within : (g : Nodes) → IsGraph g → AreWithin (needs_of g)
graph_within g is s t l c =
    let count = needs_count g is in
    omega (arith, count, needs_within g is s t (omega (arith, l, count)) c)

-- an element of a front stands at a place before its end
in_front : (xs : List ℕ) (k t : ℕ) → k ≤ length xs → Contains (take k xs) t → (i : ℕ) × (i < k) × (get_or xs i 0 ≡ t)
in_front xs k t l c =
    let i_lt : c.0 < k = omega (arith, c.1, length-take-le k xs l) in
    (c.0, i_lt, get_or_default xs c.0 0 t (omega arith) ∙ sym (get_or-take k xs c.0 t i_lt) ∙ c.2)

front_in : (xs : List ℕ) (j k t : ℕ) → j ≤ k → k ≤ length xs → Contains (take j xs) t → Contains (take k xs) t
front_in xs j k t l m c =
    let at = in_front xs j t (omega arith) c in
    (at.0, omega (arith, at.1, length-take-le k xs m), get_or-take k xs at.0 t (omega (arith, at.1)) ∙ get_or_default xs at.0 t 0 (omega (arith, at.1)) ∙ at.2)

-- each symbol that a node needs stands before it: of the nodes before a bound first
first_to : (g : Nodes) (nodes : List ℕ) → IsGraph g → Orders g.rows nodes → (bound k v : ℕ) → k < bound → k < length nodes →
    Contains (flat_map (stands_for g.symbols (groups_of g)) (needs_in g.rows (slice_index nodes k))) v → Contains (take k nodes) v
first_to g nodes is orders zero k v b l c = absurd (omega arith)
first_to g nodes is orders (suc bound) k v b l c =
    let node = slice_index nodes k in
    let w = contains_flat (stands_for g.symbols (groups_of g)) (needs_in g.rows (slice_index nodes k)) v c in
    let before = orders.needs_first k w.0 l w.1 in
    elim (cases_lt w.0 g.symbols) [
      | inl symbol ↦
          let same = one_is w.0 v (subst (λ xs. Contains xs v) (stands_symbol g.symbols (groups_of g) w.0 symbol) w.2) in
          subst (Contains (take k nodes)) same before
      | inr group ↦
          let j = in_front nodes k w.0 (omega arith) before in
          let there = is.within (slice_index nodes k) w.0 (orders.all_below (slice_index nodes k) (Contains-get_or nodes k 0 l)) w.1 in
          let row = subst (λ xs. Contains xs v) (group_stands g is w.0 group there) w.2 in
          let at : w.0 ≡ slice_index nodes j.0 = sym j.2 in
          let row' = subst (λ t. Contains (flat_map (stands_for g.symbols (groups_of g)) (needs_in g.rows t)) v) at row in
          front_in nodes j.0 k v (omega (arith, j.1)) (omega arith) (first_to g nodes is orders bound j.0 v (omega (arith, j.1)) (omega (arith, j.1)) row')
    ]

pub symbols_first : (g : Nodes) (nodes : List ℕ) → IsGraph g → Orders g.rows nodes → (k v : ℕ) → k < length nodes →
    Contains (flat_map (stands_for g.symbols (groups_of g)) (needs_in g.rows (slice_index nodes k))) v → Contains (take k nodes) v
symbols_first g nodes is orders k v l c = first_to g nodes is orders (suc k) k v (omega arith) l c
