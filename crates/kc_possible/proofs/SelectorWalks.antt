-- The lines that select or imply a symbol, one after another, from the last one on, and what they are worth under any values.
use Rattle.std.proofs.{Common.{List, None, Option, Some, [], ap, arith, length, map, refl, suc, sym, true, zero, ℕ, ◌++◌, ◌<◌, ◌∙◌, ◌∷◌, ◌≡◌}, lemmas.List.{Elements.filter_map-append, map-append}}
use Rattle.std.specs.{List.{cons_option, filter_map, slice_get}, Option.option_and_then}
use Rattle.kc_entries.proofs.PlaceLemmas.{there_in}
use Rattle.kc_language.specs.{Expressions.{SymbolValue, greater, greatest, lesser, truth_of_value}, Symbols.{Guarded, TreeFacts, listed}, Values.{condition, selector_values}, declared.{expressions.{SymId.SymId, Tri.{TheVariants.N, Tri}}, symbols.SelectOrImply.SelectOrImply}}
use Rattle.kc_language.specs.declared.symbols.SelectOrImply.TheVariants as word
use Rattle.kc_tree.specs.{Layouts.{impliers_at, lines_up_to, selector_facts, selectors_at, selectors_up_to}, Places.names, Stored.unstored, declared.{layout.Layout.Layout, rows.{Selector.Selector, Symbol.Symbol}}}
use Rattle.kc_tree.proofs.LayoutWalks as walk
use Rattle.kc_tree.proofs.LayoutWalks.{IsLine, implies-last, line-before, line-last-at, line-next, line-next-at, selects-last}
use Rattle.kc_values.proofs.TriLemmas.{greater_comm, greatest-append}

cons-listed : {X : Type 0} (o : Option X) → cons_option o [] ≡ listed o
cons-listed None = refl
cons-listed (Some x) = refl

module _ (l : Layout) (w : SelectOrImply) (s : SymId) where
  -- the line with this number as it is stored, if there is one, selects or implies the symbol
  abbrev pub IsChain : ℕ → Type 0
  IsChain at = (j : ℕ) → unstored at ≡ Some j → (j < length l.selectors.items) × (names l.entries l.selectors.items w s j ≡ true)

  line-at : (at : ℕ) → IsChain at → walk.IsLineAt l w s at
  line-at at h j u = let is = h j u in record { there = is.0; names_symbol = is.1 }

  at-line : (at : ℕ) → walk.IsLineAt l w s at → IsChain at
  at-line at h j u = let is = h j u in (is.there, is.names_symbol)

  -- one more line
  pub record IsNext (at : ℕ) (r : Selector) : Type 0 where
    pub says : selectors_up_to l w s at ≡ selectors_up_to l w s r.next.0 ++ listed (selector_facts l r)
    pub line : IsChain r.next.0
    pub smaller : r.next.0 < at

  before-by : (j next : ℕ) → ((n : ℕ) → unstored next ≡ Some n → n < j) → next < suc j
  before-by j zero h = omega arith
  before-by j (suc n) h = let b = h n refl in omega (arith, b)

  next-there : (j : ℕ) (r : Selector) → slice_get l.selectors.items j ≡ Some r → IsLine l w s j → IsNext (suc j) r
  next-there j r h is =
      let facts : ℕ → Option (Guarded SymId) = λ i. option_and_then (selector_facts l) (slice_get l.selectors.items i) in
      record {
        says =
            ap (filter_map facts) (line-next l w s j r h is)
            ∙ filter_map-append facts (lines_up_to l w s r.next.0) (j ∷ [])
            ∙ ap (λ o. selectors_up_to l w s r.next.0 ++ cons_option (option_and_then (selector_facts l) o) []) h
            ∙ ap (λ x. selectors_up_to l w s r.next.0 ++ x) (cons-listed (selector_facts l r));
        line = at-line r.next.0 (line-next-at l w s j r h is);
        smaller = before-by j r.next.0 (λ n u. line-before l w s j n r h is u);
      }

  pub next-is : (at : ℕ) (r : Selector) → Some r ≡ option_and_then (slice_get l.selectors.items) (unstored at) → IsChain at → IsNext at r
  next-is zero r h is = absurd cc
  next-is (suc j) r h is = next-there j r (sym h) (line-at (suc j) is j refl)

  pub chain-ends : (at : ℕ) → None ≡ option_and_then (slice_get l.selectors.items) (unstored at) → IsChain at → selectors_up_to l w s at ≡ []
  chain-ends zero h is = refl
  chain-ends (suc j) h is = let y = there_in l.selectors.items j ((is j refl).0) in absurd (let no : None ≡ Some (y.0) = h ∙ y.1 in cc)

  -- what the lines up to one are worth
  module _ (tree : TreeFacts) (known : SymId → SymbolValue) where
    abbrev pub values_left : ℕ → Tri
    values_left at = selector_values tree known (selectors_up_to l w s at)

    abbrev worth : Guarded SymId → Tri
    worth g = lesser (truth_of_value (known g.what)) (condition tree known g.when)

    pub values-next : (at : ℕ) (r : Selector) → IsNext at r → values_left at ≡ greater (selector_values tree known (listed (selector_facts l r))) (values_left r.next.0)
    values-next at r n =
        ap (selector_values tree known) n.says
        ∙ ap greatest (map-append worth (selectors_up_to l w s r.next.0) (listed (selector_facts l r)))
        ∙ greatest-append (map worth (selectors_up_to l w s r.next.0)) (map worth (listed (selector_facts l r)))
        ∙ greater_comm (values_left r.next.0) (selector_values tree known (listed (selector_facts l r)))

    pub values-none : (at : ℕ) → None ≡ option_and_then (slice_get l.selectors.items) (unstored at) → IsChain at → values_left at ≡ N
    values-none at h is = ap (selector_values tree known) (chain-ends at h is)

-- from the row of a symbol
module _ (l : Layout) (s : SymId) (row : Symbol) (h : slice_get l.symbols.items s.0 ≡ Some row) where
  pub select-at : IsChain l word.Select s row.last_select.0
  select-at = at-line l word.Select s row.last_select.0 (line-last-at l word.Select s row.last_select.0 (l.laid.symbols_are s.0 row h).last_select)

  pub imply-at : IsChain l word.Imply s row.last_imply.0
  imply-at = at-line l word.Imply s row.last_imply.0 (line-last-at l word.Imply s row.last_imply.0 (l.laid.symbols_are s.0 row h).last_imply)

  abbrev facts : List ℕ → List (Guarded SymId)
  facts js = filter_map (λ j. option_and_then (selector_facts l) (slice_get l.selectors.items j)) js

  pub selects-all : selectors_up_to l word.Select s row.last_select.0 ≡ selectors_at l s.0
  selects-all = ap facts (selects-last l s.0 row h)

  pub implies-all : selectors_up_to l word.Imply s row.last_imply.0 ≡ impliers_at l s.0
  implies-all = ap facts (implies-last l s.0 row h)
