-- Walks along the layout: over the definitions of a symbol, forward, and over the lines that select or imply it, backward.
use Rattle.std.proofs.{Common.{Bool, Some, [], ap, arith, length, refl, suc, sym, true, ℕ, ◌++◌, ◌+◌, ◌<◌, ◌∙◌, ◌∷◌, ◌≡◌, ◌≤◌}, lemmas.Bool.eq-eqb}
use Rattle.std.specs.List.{slice_get}
use Rattle.kc_language.specs.{Expansion.last_of, Expressions.symbol, Symbols.is_symbol_of, declared.{expressions.SymId.SymId, symbols.SelectOrImply.SelectOrImply}}
use Rattle.kc_language.specs.declared.symbols.SelectOrImply.TheVariants as word
use Rattle.kc_entries.specs.{PartsOfSymbols.first_of, declared.entries.Entries.Entries}
use Rattle.kc_tree.specs.{EntryViews.{definitions_from, entry_count, entry_symbol}, Layouts.{definitions_at, lines_up_to, place_of}, Places.names, Stored.{stored, unstored}, declared.{layout.Layout.Layout, rows.{Selector.Selector, Symbol.Symbol}}}
use Rattle.kc_tree.proofs.{DefinitionLemmas.defines-is, ListLemmas.up_to-step, OuterLemmas.place-is, WalkLemmas.{IsFirst, IsLast, first-there, last-there, rest-at-first, rest-step, up_to-last}}

module _ (l : Layout) (s : SymId) where
  abbrev es : Entries
  es = l.entries

  abbrev defines : ℕ → Bool
  defines k = is_symbol_of s (entry_symbol es k)

  -- the entry with this number as it is stored, if there is one, defines the symbol
  pub record IsDefinition (k : ℕ) : Type 0 where
    pub there : k < entry_count es
    pub symbol_is : entry_symbol es k ≡ Some s

  abbrev pub IsDefinitionAt : ℕ → Type 0
  IsDefinitionAt at = (k : ℕ) → unstored at ≡ Some k → IsDefinition k

  first-is : (from at : ℕ) → at ≡ stored (first_of (definitions_from es s from)) → IsDefinitionAt at
  first-is from at e k u =
      let f : IsFirst defines (entry_count es) from k = first-there defines (entry_count es) from k (ap unstored (sym e) ∙ u) in
      record { there = f.below; symbol_is = defines-is s (entry_symbol es k) f.passes }

  rest-is : (from at : ℕ) → at ≡ stored (first_of (definitions_from es s from)) → definitions_at l s at ≡ definitions_from es s from
  rest-is from at e = ap (definitions_at l s) e ∙ rest-at-first defines (entry_count es) from

  -- One more: the rest from a definition on is that definition, and then the rest from where it leads to.
  pub definition-next : (k : ℕ) → IsDefinition k → definitions_at l s (suc k) ≡ k ∷ definitions_at l s (place_of l (suc k)).next.0
  definition-next k d =
      let next = (place-is l k d.there).next s d.symbol_is in
      rest-step defines (entry_count es) k d.there (ap (is_symbol_of s) d.symbol_is ∙ eq-eqb s.0 s.0 refl)
      ∙ ap (λ r. k ∷ r) (sym (rest-is (suc k) ((place_of l (suc k)).next.0) next))

  pub definition-next-at : (k : ℕ) → IsDefinition k → IsDefinitionAt (place_of l (suc k)).next.0
  definition-next-at k d = first-is (suc k) ((place_of l (suc k)).next.0) ((place-is l k d.there).next s d.symbol_is)

  -- it stands behind
  pub definition-behind : (k n : ℕ) → IsDefinition k → unstored (place_of l (suc k)).next.0 ≡ Some n → k < n
  definition-behind k n d u =
      let f = first-there defines (entry_count es) (suc k) n (ap unstored (sym ((place-is l k d.there).next s d.symbol_is)) ∙ u) in
      f.behind

-- from the row of a symbol
module _ (l : Layout) (i : ℕ) (row : Symbol) (h : slice_get l.symbols.items i ≡ Some row) where
  pub definitions-first : definitions_at l (symbol i) row.first.0 ≡ definitions_from l.entries (symbol i) 0
  definitions-first = rest-is l (symbol i) 0 row.first.0 ((l.laid.symbols_are i row h).first)

  pub definitions-first-at : IsDefinitionAt l (symbol i) row.first.0
  definitions-first-at = first-is l (symbol i) 0 row.first.0 ((l.laid.symbols_are i row h).first)

  pub selects-last : lines_up_to l word.Select (symbol i) row.last_select.0 ≡ lines_up_to l word.Select (symbol i) (length l.selectors.items)
  selects-last =
      ap (lines_up_to l word.Select (symbol i)) ((l.laid.symbols_are i row h).last_select)
      ∙ up_to-last (names l.entries l.selectors.items word.Select (symbol i)) (length l.selectors.items)

  pub implies-last : lines_up_to l word.Imply (symbol i) row.last_imply.0 ≡ lines_up_to l word.Imply (symbol i) (length l.selectors.items)
  implies-last =
      ap (lines_up_to l word.Imply (symbol i)) ((l.laid.symbols_are i row h).last_imply)
      ∙ up_to-last (names l.entries l.selectors.items word.Imply (symbol i)) (length l.selectors.items)

module _ (l : Layout) (w : SelectOrImply) (s : SymId) where
  abbrev names_it : ℕ → Bool
  names_it = names l.entries l.selectors.items w s

  -- the line with this number as it is stored, if there is one, names the symbol
  pub record IsLine (j : ℕ) : Type 0 where
    pub there : j < length l.selectors.items
    pub names_symbol : names_it j ≡ true

  abbrev pub IsLineAt : ℕ → Type 0
  IsLineAt at = (j : ℕ) → unstored at ≡ Some j → IsLine j

  last-is : (n at : ℕ) → n ≤ length l.selectors.items → at ≡ stored (last_of (lines_up_to l w s n)) → IsLineAt at
  last-is n at h e j u =
      let f : IsLast names_it n j = last-there names_it n j (ap unstored (sym e) ∙ u) in
      let below = f.below in
      record { there = omega (arith, below, h); names_symbol = f.passes }

  pub line-last-at : (at : ℕ) → at ≡ stored (last_of (lines_up_to l w s (length l.selectors.items))) → IsLineAt at
  line-last-at at e = last-is (length l.selectors.items) at (omega arith) e

  -- One more: the lines up to this one are those up to the one that it leads to, and this one.
  pub line-next : (j : ℕ) (r : Selector) → slice_get l.selectors.items j ≡ Some r → IsLine j → lines_up_to l w s (suc j) ≡ lines_up_to l w s r.next.0 ++ j ∷ []
  line-next j r h is =
      up_to-step names_it j is.names_symbol
      ∙ ap (λ xs. xs ++ j ∷ []) (sym (ap (lines_up_to l w s) (l.laid.chained j r w s h is.names_symbol) ∙ up_to-last names_it j))

  pub line-next-at : (j : ℕ) (r : Selector) → slice_get l.selectors.items j ≡ Some r → IsLine j → IsLineAt r.next.0
  line-next-at j r h is = let below = is.there in last-is j r.next.0 (omega (arith, below)) (l.laid.chained j r w s h is.names_symbol)

  -- it stands before
  pub line-before : (j n : ℕ) (r : Selector) → slice_get l.selectors.items j ≡ Some r → IsLine j → unstored r.next.0 ≡ Some n → n < j
  line-before j n r h is u = (last-there names_it j n (ap unstored (sym (l.laid.chained j r w s h is.names_symbol)) ∙ u)).below
