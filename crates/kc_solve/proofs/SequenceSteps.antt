-- The defined symbols by number: each symbol whose row holds something is one of them.
use Rattle.std.proofs.{Common.{None, Option, Some, [], ap, arith, cond, inl, inr, is_some, length, map, refl, subst, sym, ℕ, ◌++◌, ◌<◌, ◌∙◌, ◌≡◌}, lemmas.List.Elements.All-map}
use Rattle.std.specs.{List.{All, Contains}, Prelude.option_map}
use Rattle.kc_language.specs.{Expressions.symbol, Needs.needs_in, Symbols.TreeFacts, Values.facts, declared.{expressions.{SymId.SymId, SymbolType.{SymbolType, TheVariants.Undefined}}, symbols.ChoiceId.ChoiceId}}
use Rattle.kc_order.specs.Graph.{Nodes}
use Rattle.kc_tree.specs.{Layouts.{IsLayoutOf, facts_of}, Places.mode_view, declared.{layout.Layout.Layout, rows.Symbol.Symbol}}
use Rattle.kc_entries.specs.WellFormed.{IsMentioned, IsWellFormed}
use Rattle.kc_values.specs.NeedRows as rows
use Rattle.kc_values.specs.NeedRows.{AreNodeRows}
use Rattle.kc_values.proofs.{DefinedNeeds.typed, GraphNeeds.row_of_symbol}
use Rattle.kc_entries.proofs.PlaceLemmas.{there_in}

module _ (tree : TreeFacts) (formed : IsWellFormed tree) (l : Layout) (laid : IsLayoutOf tree l) where
  -- each defined symbol has a row
  pub rows_there : All (λ (s : SymId). s.0 < length l.symbols.items) l.defined.items
  rows_there = subst (λ n. All (λ (s : SymId). s.0 < n) l.defined.items) laid.symbol_count (subst (All (IsMentioned tree)) laid.defined formed.defined_there)

  pub numbers_below : (g : Nodes) → AreNodeRows tree l g → All (λ s. s < g.symbols) (map (λ (s : SymId). s.0) l.defined.items)
  numbers_below g made =
      subst (λ n. All (λ s. s < n) (map (λ (s : SymId). s.0) l.defined.items)) (sym made.symbols_are)
      (All-map (λ s. s < length l.symbols.items) (λ (s : SymId). s.0) l.defined.items rows_there)

  choice_none : (o : Option ChoiceId) → mode_view o ≡ None → o ≡ None
  choice_none None e = refl
  choice_none (Some k) e = absurd cc

  -- a symbol whose row in the graph holds something is defined
  nothing_needed : (i : ℕ) (s : Symbol) → s.choice ≡ None → s.symbol_type ≡ Undefined → rows.row_of l (rows.symbol_by tree l i (Some s)) ≡ []
  nothing_needed i s none u =
      ap (λ (o : Option ChoiceId). rows.row_of l (rows.by_choice tree l (symbol i) s o)) none
      ∙ ap (λ (k : SymbolType). rows.row_of l (rows.by_type tree l (symbol i) s k)) u

  pub row_defined : (g : Nodes) → AreNodeRows tree l g → (i : ℕ) → i < g.symbols → 0 < length (needs_in g.rows i) → Contains (map (λ (t : SymId). t.0) tree.defined) i
  row_defined g made i below some =
      let h = there_in l.symbols.items i (omega (arith, below, made.symbols_are)) in
      let row : needs_in g.rows i ≡ rows.row_of l (rows.symbol_by tree l i (Some h.0)) = row_of_symbol tree l g made i h.0 (omega (arith, below, made.symbols_are)) h.1 in
      let at : facts tree (symbol i) ≡ Some (facts_of l i h.0) = laid.symbols i ∙ ap (option_map (facts_of l i)) h.1 in
      typed tree formed (symbol i) (facts_of l i h.0) at (λ none u.
      let no = ap length (row ∙ nothing_needed i h.0 (choice_none h.0.choice none) u) in
      absurd (omega (arith, some, no)))
