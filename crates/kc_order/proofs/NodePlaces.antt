-- For each node of a graph the place of the first unordered symbol that it stands for.
use Rattle.std.proofs.{Common.{All, Bool, List, None, Option, [], ap, arith, eqb, false, find, flat_map, fold, get_or, inl, inr, length, sym, ℕ, ◌&&◌, ◌+◌, ◌<◌, ◌∙◌, ◌∷◌, ◌≡◌, ◌≤◌}, Math.ListN.set, lemmas.{Bool.{both_ways, cases_eq, false_from_ne_true}, Grind.get_or-set_at, List.{get_or-set_other, length-set}}}
use Rattle.std.specs.List.{list_any}
use Rattle.kc_order.specs.{FirstUnordered.{AreFirsts, ArePlaces, TellsUnordered, is_unordered_at, lesser_of, place_among}, Graph.{IsGraph, Nodes, groups_of, needs_of, stands_for}, Loop.HoldsNeeding, declared.search.NodeState.NodeState}
use Rattle.kc_language.specs.Needs.{needs_in, unordered_after}
use Rattle.kc_order.proofs.{FirstLemmas.{all_fail, row_place, same_place}, Groups.{group_stands, needs_stand, needs_within, stands_symbol, unordered_alike}, Held.{graph_down, row_nodes}, Stays.needs_unordered}

module _ (sequence : List ℕ) (g : Nodes) (is : IsGraph g) where
  abbrev unordered : ℕ → Bool
  unordered = unordered_after (needs_in (needs_of g)) g.symbols

  abbrev stands : ℕ → List ℕ
  stands = stands_for g.symbols (groups_of g)

  -- the marks tell which symbols of the sequence are unordered
  pub marks_tell : (states : List NodeState) → All (λ s. s < g.symbols) sequence → TellsUnordered g.rows states →
      All (λ u. is_unordered_at states u ≡ unordered u) sequence
  marks_tell states below tells k d l =
      let symbol = below k d l in
      tells.each (get_or sequence k d) (omega (arith, symbol, is.symbols_there)) ∙ unordered_alike g is (get_or sequence k d) symbol

  -- where none is found in the sequence, no symbol is unordered
  pub none_found : HoldsNeeding sequence (needs_of g) → find unordered sequence ≡ None → (s : ℕ) → s < g.symbols → unordered s ≡ false
  none_found holds none s l =
      false_from_ne_true (unordered s) (λ e.
      let (t, c, _) = needs_unordered g.symbols (needs_in (needs_of g)) s (needs_within g is) l e in
      both_ways (unordered s) (all_fail unordered sequence s none (holds s t c)) e)

  -- a symbol stands for itself
  pub firsts_of_symbols : (states : List NodeState) (places : List (Option ℕ)) → All (λ s. s < g.symbols) sequence → TellsUnordered g.rows states →
      ArePlaces sequence states places → AreFirsts sequence g g.symbols places
  firsts_of_symbols states places below tells are = record {
    count = are.count ∙ tells.count;
    each = λ t l.
        are.each t (omega (arith, l, is.symbols_there, tells.count))
        ∙ same_place (λ u. is_unordered_at states u && list_any (eqb u) (t ∷ [])) (λ u. unordered u && list_any (eqb u) (t ∷ [])) sequence (λ k d b.
        ap (λ b. b && list_any (eqb (get_or sequence k d)) (t ∷ [])) (marks_tell states below tells k d b))
        ∙ ap (place_among unordered sequence) (sym (stands_symbol g.symbols (groups_of g) t l));
  }

  -- the nodes of a row
  row_first : (bound : ℕ) (firsts : List (Option ℕ)) (row : List ℕ) → AreFirsts sequence g bound firsts → All (λ t. t < bound) row →
      fold (λ first t. lesser_of first (get_or firsts t None)) None row ≡ place_among unordered sequence (flat_map stands row)
  row_first bound firsts row are below =
      row_place unordered sequence (λ t. get_or firsts t None) stands row (λ k d l. are.each (get_or row k d) (below k d l))

  -- a group stands for what its row does
  pub firsts_more : (group : ℕ) (firsts : List (Option ℕ)) (first : Option ℕ) → AreFirsts sequence g group firsts → g.symbols ≤ group → group < length g.rows →
      first ≡ fold (λ first t. lesser_of first (get_or firsts t None)) None (needs_in g.rows group) → AreFirsts sequence g (group + 1) (set firsts group first)
  firsts_more group firsts first are from there e =
      let row = needs_in g.rows group in
      let below = graph_down g is group from there in
      record {
        count = length-set firsts group first ∙ are.count;
        each = λ t l.
            elim (cases_eq t group) [
              | inl same ↦
                  get_or-set_at firsts group t first None same (omega (arith, there, are.count)) ∙ e ∙ row_first group firsts row are below
                  ∙ ap (place_among unordered sequence) (sym (ap stands same ∙ group_stands g is group from there))
              | inr other ↦ get_or-set_other firsts group t first None other ∙ are.each t (omega (arith, l, other))
            ];
      }

  -- what a symbol needs
  pub next_place : (firsts : List (Option ℕ)) (s : ℕ) → AreFirsts sequence g (length g.rows) firsts → s < g.symbols →
      fold (λ first t. lesser_of first (get_or firsts t None)) None (needs_in g.rows s) ≡ place_among unordered sequence (needs_in (needs_of g) s)
  next_place firsts s are l =
      row_first (length g.rows) firsts (needs_in g.rows s) are (row_nodes g.rows s is.within (omega (arith, l, is.symbols_there)))
      ∙ ap (place_among unordered sequence) (sym (needs_stand g is s l))
