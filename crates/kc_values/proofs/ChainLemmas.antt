-- The lines that select or imply a symbol, one after another, from the last one on.
use Rattle.std.proofs.{Common.{List, None, Option, Some, [], ap, arith, false, length, map, refl, subst, suc, sym, zero, ℕ, ◌++◌, ◌<◌, ◌∙◌, ◌∷◌, ◌≡◌, ◌≤◌}, lemmas.List.{Elements.filter_map-append, map-append}}
use Rattle.std.specs.{List.{cons_option, filter_map, slice_get}, Option.{is_some, option_and_then}}
use Rattle.kc_entries.proofs.PlaceLemmas.{there_in}
use Rattle.kc_language.specs.{Expressions.{greater, greatest, lesser, truth_of_value}, Symbols.{Guarded, listed}, declared.{expressions.{SymId.SymId, Tri.{TheVariants.N, Tri}}, symbols.SelectOrImply.SelectOrImply}}
use Rattle.kc_language.specs.declared.symbols.SelectOrImply.TheVariants as word
use Rattle.kc_tree.specs.{Layouts.{impliers_at, lines_up_to, selector_facts, selectors_at, selectors_up_to}, Stored.unstored, declared.{layout.Layout.Layout, rows.{Selector.Selector, Symbol.Symbol}}}
use Rattle.kc_tree.proofs.LayoutWalks as walk
use Rattle.kc_tree.proofs.LayoutWalks.{IsLine, implies-last, line-before, line-last-at, line-next, line-next-at, selects-last}
use Rattle.kc_values.specs.AtTable as table
use Rattle.kc_values.specs.{TableFacts.{IsLineAt, IsRowOf, known_at}, declared.table.Table.Table}
use Rattle.kc_values.proofs.TriLemmas.{greater-step, greater_comm, greatest-append}

cons-listed : {X : Type 0} (o : Option X) → cons_option o [] ≡ listed o
cons-listed None = refl
cons-listed (Some x) = refl

module _ (t : Table) (w : SelectOrImply) (s : SymId) where
  abbrev l : Layout
  l = t.layout.now

  line-at : (at : ℕ) → IsLineAt t w s at → walk.IsLineAt l w s at
  line-at at h j u = let is = h j u in record { there = is.0; names_symbol = is.1 }

  at-line : (at : ℕ) → walk.IsLineAt l w s at → IsLineAt t w s at
  at-line at h j u = let is = h j u in (is.there, is.names_symbol)

  -- what the lines up to one are worth
  abbrev pub values_left : ℕ → Tri
  values_left at = table.selector_values t (selectors_up_to l w s at)

  abbrev worth : Guarded SymId → Tri
  worth g = lesser (truth_of_value (known_at t g.what)) (table.condition t g.when)

  -- one more line
  pub record IsNext (at : ℕ) (r : Selector) : Type 0 where
    pub values : values_left at ≡ greater (table.selector_values t (listed (selector_facts l r))) (values_left r.next.0)
    pub line : IsLineAt t w s r.next.0
    pub smaller : r.next.0 < at

  before-by : (j next : ℕ) → ((n : ℕ) → unstored next ≡ Some n → n < j) → next < suc j
  before-by j zero h = omega arith
  before-by j (suc n) h = let b = h n refl in omega (arith, b)

  next-there : (j : ℕ) (r : Selector) → slice_get l.selectors.items j ≡ Some r → IsLine l w s j → IsNext (suc j) r
  next-there j r h is =
      let facts : ℕ → Option (Guarded SymId) = λ i. option_and_then (selector_facts l) (slice_get l.selectors.items i) in
      let split : selectors_up_to l w s (suc j) ≡ selectors_up_to l w s r.next.0 ++ listed (selector_facts l r) =
      ap (filter_map facts) (line-next l w s j r h is)
      ∙ filter_map-append facts (lines_up_to l w s r.next.0) (j ∷ [])
      ∙ ap (λ o. selectors_up_to l w s r.next.0 ++ cons_option (option_and_then (selector_facts l) o) []) h
      ∙ ap (λ x. selectors_up_to l w s r.next.0 ++ x) (cons-listed (selector_facts l r)) in
      record {
        values =
            ap (table.selector_values t) split
            ∙ ap greatest (map-append worth (selectors_up_to l w s r.next.0) (listed (selector_facts l r)))
            ∙ greatest-append (map worth (selectors_up_to l w s r.next.0)) (map worth (listed (selector_facts l r)))
            ∙ greater_comm (values_left r.next.0) (table.selector_values t (listed (selector_facts l r)));
        line = at-line r.next.0 (line-next-at l w s j r h is);
        smaller = before-by j r.next.0 (λ n u. line-before l w s j n r h is u);
      }

  pub next-is : (at : ℕ) (r : Selector) → Some r ≡ option_and_then (slice_get l.selectors.items) (unstored at) → IsLineAt t w s at → IsNext at r
  next-is zero r h is = absurd cc
  next-is (suc j) r h is = next-there j r (sym h) (line-at (suc j) is j refl)

  pub chain-ends : (at : ℕ) → None ≡ option_and_then (slice_get l.selectors.items) (unstored at) → IsLineAt t w s at → values_left at ≡ N
  chain-ends zero h is = refl
  chain-ends (suc j) h is = let y = there_in l.selectors.items j ((is j refl).0) in absurd (let no : None ≡ Some (y.0) = h ∙ y.1 in cc)

  pub values-step : (at : ℕ) (r : Selector) (so_far found result : Tri) → IsNext at r → found ≡ table.selector_values t (listed (selector_facts l r)) →
      greater so_far (values_left at) ≡ result → greater (greater so_far found) (values_left r.next.0) ≡ result
  values-step at r so_far found result n is before =
      ap (λ x. greater (greater so_far x) (values_left r.next.0)) is
      ∙ greater-step so_far (table.selector_values t (listed (selector_facts l r))) (values_left r.next.0) (values_left at) result n.values before

-- from the row of a symbol
module _ (t : Table) (s : SymId) (row : Symbol) (h : IsRowOf t s row) where
  abbrev laid : Layout
  laid = t.layout.now

  pub select-at : IsLineAt t word.Select s row.last_select.0
  select-at = at-line t word.Select s row.last_select.0 (line-last-at laid word.Select s row.last_select.0 (laid.laid.symbols_are s.0 row h).last_select)

  pub imply-at : IsLineAt t word.Imply s row.last_imply.0
  imply-at = at-line t word.Imply s row.last_imply.0 (line-last-at laid word.Imply s row.last_imply.0 (laid.laid.symbols_are s.0 row h).last_imply)

  abbrev values : List ℕ → Tri
  values js = table.selector_values t (filter_map (λ j. option_and_then (selector_facts laid) (slice_get laid.selectors.items j)) js)

  pub selects-all : values_left t word.Select s row.last_select.0 ≡ table.selector_values t (selectors_at laid s.0)
  selects-all = ap values (selects-last laid s.0 row h)

  pub implies-all : values_left t word.Imply s row.last_imply.0 ≡ table.selector_values t (impliers_at laid s.0)
  implies-all = ap values (implies-last laid s.0 row h)

-- none
pub values-none : (t : Table) (w : SelectOrImply) (s : SymId) (at : ℕ) → is_some (unstored at) ≡ false → values_left t w s at ≡ N
values-none t w s zero h = refl
values-none t w s (suc j) h = absurd cc
