-- Walks over the definitions of a symbol, and over the lines that select or imply it, each of which adds to a row.
use Rattle.std.proofs.{Common.{None, Some, [], ap, arith, false, is_some, length, refl, reverse, subst, suc, sym, true, zero, ℕ, ◌-◌, ◌<◌, ◌∙◌, ◌∷◌, ◌≡◌}, lemmas.List.{length-append, reverse-append}}
use Rattle.std.specs.{List.slice_get, Option.option_and_then}
use Rattle.kc_language.specs.{Expressions.symbol, declared.{expressions.SymId.SymId, symbols.SelectOrImply.SelectOrImply}}
use Rattle.kc_language.specs.declared.symbols.SelectOrImply.TheVariants as word
use Rattle.kc_entries.proofs.PlaceLemmas.{there_in}
use Rattle.kc_tree.specs.{Layouts.{definitions_at, lines_up_to, place_of}, Stored.unstored, declared.{layout.Layout.Layout, rows.{Selector.Selector, Symbol.Symbol}}}
use Rattle.kc_tree.proofs.LayoutWalks.{IsDefinitionAt, IsLineAt, definition-next, definition-next-at, line-last-at, line-next, line-next-at}
use Rattle.kc_values.specs.{MadeRows.Adds, NeedRows.{Needed, each, last_line, selector, selector_at, selectors}, declared.needs.NeedRow.NeedRow}
use Rattle.kc_values.proofs.RowSteps.{IsLeft, left_less, left_none}

module _ (l : Layout) (s : SymId) where
  -- how many a walk has still before it
  pub definitions_less : (at : ℕ) → is_some (unstored at) ≡ true → IsDefinitionAt l s at → length (definitions_at l s (place_of l at).next.0) < length (definitions_at l s at)
  definitions_less zero t h = absurd cc
  definitions_less (suc e) t h = let many = ap length (definition-next l s e (h e refl)) in omega (arith, many)

  pub definitions_next_at : (at : ℕ) → is_some (unstored at) ≡ true → IsDefinitionAt l s at → IsDefinitionAt l s (place_of l at).next.0
  definitions_next_at zero t h = absurd cc
  definitions_next_at (suc e) t h = definition-next-at l s e (h e refl)

  -- each of them adds something
  module _ (g : ℕ → Needed) (start : NeedRow) (all : Needed) where
    abbrev pub from : ℕ → Needed
    from at = each (λ e. g (suc e)) (definitions_at l s at)

    pub definitions_next : (at : ℕ) (a b : NeedRow) → is_some (unstored at) ≡ true → IsDefinitionAt l s at → IsLeft start all a (from at) → Adds a b (g at) →
        IsLeft start all b (from (place_of l at).next.0)
    definitions_next zero a b t h left x = absurd cc
    definitions_next (suc e) a b t h left x =
        left_less start all a b (g (suc e)) (from (place_of l (suc e)).next.0)
        (subst (λ es. IsLeft start all a (each (λ k. g (suc k)) es)) (definition-next l s e (h e refl)) left) x

    pub definitions_none : (at : ℕ) (a : NeedRow) → is_some (unstored at) ≡ false → IsLeft start all a (from at) → Adds start a all
    definitions_none zero a t left = left_none start all a left
    definitions_none (suc e) a t left = absurd cc

-- from the row of a symbol
pub lines_last_at : (l : Layout) (w : SelectOrImply) (i : ℕ) (row : Symbol) → slice_get l.symbols.items i ≡ Some row → IsLineAt l w (symbol i) (last_line row w)
lines_last_at l word.Select i row h = line-last-at l word.Select (symbol i) row.last_select.0 ((l.laid.symbols_are i row h).last_select)
lines_last_at l word.Imply i row h = line-last-at l word.Imply (symbol i) row.last_imply.0 ((l.laid.symbols_are i row h).last_imply)

module _ (l : Layout) (w : SelectOrImply) (s : SymId) where
  line_there : (j : ℕ) → IsLineAt l w s (suc j) → (r : Selector) × (slice_get l.selectors.items j ≡ Some r)
  line_there j h = there_in l.selectors.items j ((h j refl).there)

  pub lines_less : (at : ℕ) (r : Selector) → option_and_then (slice_get l.selectors.items) (unstored at) ≡ Some r → IsLineAt l w s at →
      length (lines_up_to l w s r.next.0) < length (lines_up_to l w s at)
  lines_less zero r e h = absurd cc
  lines_less (suc j) r e h =
      let many = ap length (line-next l w s j r e (h j refl)) in
      omega (arith, many, length-append (lines_up_to l w s r.next.0) (j ∷ []))

  pub lines_next_at : (at : ℕ) (r : Selector) → option_and_then (slice_get l.selectors.items) (unstored at) ≡ Some r → IsLineAt l w s at → IsLineAt l w s r.next.0
  lines_next_at zero r e h = absurd cc
  lines_next_at (suc j) r e h = line-next-at l w s j r e (h j refl)

  lines_order : (j : ℕ) (r : Selector) → slice_get l.selectors.items j ≡ Some r → IsLineAt l w s (suc j) → reverse (lines_up_to l w s (suc j)) ≡ j ∷ reverse (lines_up_to l w s r.next.0)
  lines_order j r e h = ap reverse (line-next l w s j r e (h j refl)) ∙ reverse-append (lines_up_to l w s r.next.0) (j ∷ [])

  module _ (start : NeedRow) (all : Needed) where
    pub lines_next : (at : ℕ) (r : Selector) (a b : NeedRow) → option_and_then (slice_get l.selectors.items) (unstored at) ≡ Some r → IsLineAt l w s at → IsLeft start all a (selectors l w s at) →
        Adds a b (selector l r) → IsLeft start all b (selectors l w s r.next.0)
    lines_next zero r a b e h left x = absurd cc
    lines_next (suc j) r a b e h left x =
        left_less start all a b (selector_at l (slice_get l.selectors.items j)) (selectors l w s r.next.0)
        (subst (λ js. IsLeft start all a (each (λ k. selector_at l (slice_get l.selectors.items k)) js)) (lines_order j r e h) left)
        (subst (λ o. Adds a b (selector_at l o)) (sym e) x)

    -- no line is found only where the walk is at its end
    pub lines_none : (at : ℕ) (a : NeedRow) → option_and_then (slice_get l.selectors.items) (unstored at) ≡ None → IsLineAt l w s at → IsLeft start all a (selectors l w s at) → Adds start a all
    lines_none zero a e h left = left_none start all a left
    lines_none (suc j) a e h left = let r = line_there j h in absurd (let no : Some (r.0) ≡ None = sym (r.1) ∙ e in cc)
