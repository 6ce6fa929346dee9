use Rattle.std.proofs.{Common.{List, Some, [], ap, inl, inr, length, refl, rules, subst, sym, ℕ, ◌++◌, ◌∙◌, ◌∷◌, ◌≡◌, ◌⊎◌}, lemmas.Option.slice_get_read}
use Rattle.std.specs.List.{slice_get}
use Rattle.kc_language.specs.{Expressions.symbol, Values.{and_value, choice_at, condition, known_from, mode_of, name}}
use Rattle.kc_entries.proofs.ElementLemmas.{get_snoc}
use Rattle.kc_tree.specs.{Layouts.{condition_at, visible_at}, declared.rows.Symbol.Symbol}
use Rattle.kc_values.specs.Computed.{choice_dependency}
use Rattle.kc_values.proofs.Laid.{type_laid, type_of_row}
use Rattle.kc_possible.specs.{PartsOfPossible.IsOfType, Possible.IsTyped, declared.bounds.Bounds.Bounds}
use Rattle.kc_possible.proofs.{PlaceLemmas.{within-alike, within-set}, SolvedLemmas.solution-typed}
use Rattle.kc_possible.proofs.possible.unknown.Goals as goal

pub returns-clause-sound : goal.returns-clause-sound
returns-clause-sound c user V under =
    let tree = c.args.laid.now.tree.now in
    let l = c.args.laid.now.layout.now in
    let known = known_from tree V in
    let typed = solution-typed tree c.name_count.ensures.formed user V under in
    record {
      typed = typed;
      symbols = λ i b g.
          let type = type_laid tree l c.args.laid.now.laid i (slice_get c.symbols-row-items.result.now i) (ap (λ rows. slice_get rows i) c.symbols-row-items.ensures) in
          c.loop-row.invariant.each i b g (name tree (symbol i)) (known (symbol i)) (subst (λ k. IsTyped k (name tree (symbol i)) (known (symbol i))) (sym type) (typed (symbol i)));
      contexts = within-set c.in_ok-contexts.contexts.items 0 c.exactly.result (λ at. condition tree known (condition_at l at))
          (within-alike c.place_count.result c.any.result c.in_ok-contexts.contexts.items (λ at. condition tree known (condition_at l at)) (search rules) c.any.ensures) c.exactly.ensures.within;
      visibles = within-set c.in_ok-visibles.visibles.items 0 c.exactly-2.result (λ v. and_value tree known (visible_at l v))
          (within-alike c.visible_count.result c.any-2.result c.in_ok-visibles.visibles.items (λ v. and_value tree known (visible_at l v)) (search rules) c.any-2.ensures) c.exactly-2.ensures.within;
      dependencies = within-alike (length c.choices.result.now) c.any-3.result c.in_ok-vec.field-0.items (choice_dependency tree l known) (search rules) c.any-3.ensures;
      modes = within-alike (length c.choices-2.result.now) c.any-4.result c.in_ok-vec-2.field-0.items (λ k. mode_of tree known (choice_at tree k)) (search rules) c.any-4.ensures;
    }

one-more : (items : List Bounds) (new : Bounds) (rows : List Symbol) (row : Symbol) (k : ℕ) → length items ≡ k → slice_get rows k ≡ Some row → IsOfType row.symbol_type new →
    ((i : ℕ) (b : Bounds) → slice_get items i ≡ Some b → IsOfType (type_of_row (slice_get rows i)) b) →
    (i : ℕ) (b : Bounds) → slice_get (items ++ new ∷ []) i ≡ Some b → IsOfType (type_of_row (slice_get rows i)) b
one-more items new rows row k count at here old i b g = by (get_snoc items new b i g)
  where
    by : (slice_get items i ≡ Some b) ⊎ ((i ≡ length items) × (new ≡ b)) → IsOfType (type_of_row (slice_get rows i)) b
    by (inl h) = old i b h
    by (inr h) =
        let type : type_of_row (slice_get rows i) ≡ row.symbol_type = ap type_of_row (ap (slice_get rows) (h.0 ∙ count) ∙ at) in
        subst (λ x. IsOfType (type_of_row (slice_get rows i)) x) h.1 (subst (λ t. IsOfType t new) (sym type) here)

pub loop-row-preserved : goal.loop-row-preserved
loop-row-preserved c =
    let rows = c.symbols-row-items.result.now in
    let at = slice_get_read rows (length rows) c.loop-row.row-index c.row-item.result refl c.loop-row-test.true c.row-item.is in
    record {
      count = search rules;
      each = λ i b g.
          one-more c.loop-row.symbols.items c.of_type.result rows c.row-item.result c.loop-row.row-index c.loop-row.invariant.count at c.of_type.ensures c.loop-row.invariant.each i b
          (sym (ap (λ xs. slice_get xs i) c.in_ok-push.ensures.items) ∙ g);
    }
