-- The selection of one more choice, and the flags of one more symbol.
use Rattle.std.proofs.{Common.{Bool, List, None, Option, Some, [], ap, arith, false, length, map, not, refl, sym, ℕ, ◌&&◌, ◌++◌, ◌+◌, ◌<◌, ◌∙◌, ◌∷◌, ◌≡◌}, lemmas.List.FromFn.{get_or-map-range_with_len, map-range_with_len_more}}
use Rattle.std.specs.{List.range_with_len, Option.is_some, Prelude.{slice_get, slice_index_or}}
use Rattle.kc_language.specs.{Expressions.{SymbolValue, symbol}, Symbols.{SymbolFacts, TreeFacts, is_symbol_of}, Values.{ChoicePlace, GivenValue, Solves, SymbolPlace, UserPlace, by_type, choice_at, default_selection, differs, differs_at, equation, equations, facts, is_n, name_count, rhs, selected, selection, user_place, visibility, written}, declared.expressions.{SymId.SymId, Tri.Tri}}
use Rattle.kc_values.specs.{PartsOfValues.{by_choice, same_value, user_place_by, user_place_of}, Table.known_in, declared.table.Value.Value}
use Rattle.kc_values.proofs.{SameValue.same_value_itself, Uncounted.uncounted}
use Rattle.kc_solve.specs.{Flags.{IsSolvedOwn, differs_by, is_written}, Kept.valuation}
use Rattle.kc_solve.proofs.WarningSteps.{tables_known}

one_more : {X : Type 0} (f : ℕ → X) (i : ℕ) (x : X) (old new : List X) → old ≡ map f (range_with_len 0 i) → new ≡ old ++ x ∷ [] → x ≡ f i → new ≡ map f (range_with_len 0 (i + 1))
one_more f i x old new e n h =
    n ∙ ap (λ xs. xs ++ x ∷ []) e ∙ ap (λ y. map f (range_with_len 0 i) ++ y ∷ []) h ∙ sym (map-range_with_len_more f 0 i i (omega arith))

pub one_more_selected : (tree : TreeFacts) (values : List (Option Value)) (U : UserPlace → Option GivenValue) (c : ℕ) (x : Option SymId) (old new : List (Option SymId)) →
    length values ≡ name_count tree → old ≡ map (selection tree U (valuation tree values)) (range_with_len 0 c) → new ≡ old ++ x ∷ [] →
    x ≡ selected tree (known_in tree values) (choice_at tree c) (U (ChoicePlace c)) → new ≡ map (selection tree U (valuation tree values)) (range_with_len 0 (c + 1))
one_more_selected tree values U c x old new l e n h =
    one_more (selection tree U (valuation tree values)) c x old new e n (h ∙ ap (λ k. selected tree k (choice_at tree c) (U (ChoicePlace c))) (tables_known tree values l))

pub one_more_default : (tree : TreeFacts) (values : List (Option Value)) (c : ℕ) (x : Option SymId) (old new : List (Option SymId)) →
    length values ≡ name_count tree → old ≡ map (default_selection tree (valuation tree values)) (range_with_len 0 c) → new ≡ old ++ x ∷ [] →
    x ≡ selected tree (known_in tree values) (choice_at tree c) None → new ≡ map (default_selection tree (valuation tree values)) (range_with_len 0 (c + 1))
one_more_default tree values c x old new l e n h =
    one_more (default_selection tree (valuation tree values)) c x old new e n (h ∙ ap (λ k. selected tree k (choice_at tree c) None) (tables_known tree values l))

pub one_more_written : (tree : TreeFacts) (values : List (Option Value)) (i : ℕ) (x : Bool) (old new : List Bool) → length values ≡ name_count tree →
    old ≡ map (is_written tree (valuation tree values)) (range_with_len 0 i) → new ≡ old ++ x ∷ [] → x ≡ written tree (known_in tree values) (symbol i) →
    new ≡ map (is_written tree (valuation tree values)) (range_with_len 0 (i + 1))
one_more_written tree values i x old new l e n h =
    one_more (is_written tree (valuation tree values)) i x old new e n (h ∙ ap (λ k. written tree k (symbol i)) (tables_known tree values l))

module _ (tree : TreeFacts) (values : List (Option Value)) (full : length values ≡ name_count tree) (U : UserPlace → Option GivenValue) (i : ℕ) (f : SymbolFacts)
    (at : slice_get tree.symbols i ≡ Some f) (selections defaults : List (Option SymId))
    (sel : selections ≡ map (selection tree U (valuation tree values)) (range_with_len 0 (length tree.choices)))
    (def : defaults ≡ map (default_selection tree (valuation tree values)) (range_with_len 0 (length tree.choices))) where
  abbrev V : ℕ → SymbolValue
  V = valuation tree values

  -- the equation without what was given
  without : (c : Option ℕ) → f.choice ≡ c → rhs tree i None V ≡ by_choice tree (known_in tree values) (symbol i) f c None
  without c e =
      ap (λ k. equation tree k (symbol i) (facts tree (symbol i)) None) (sym (tables_known tree values full))
      ∙ ap (λ o. equation tree (known_in tree values) (symbol i) o None) at
      ∙ ap (λ o. by_choice tree (known_in tree values) (symbol i) f o None) e

  by_place : (c : Option ℕ) → f.choice ≡ c → ((d : ℕ) → c ≡ Some d → d < length tree.choices) →
      differs_by tree (known_in tree values) (symbol i) f c selections defaults ≡ differs_at tree U V i (user_place_by i c)
  by_place None e below = ap (λ x. not (same_value (V i) x)) (sym (without None e))
  by_place (Some c) e below =
      let l = below c refl in
      let a : slice_index_or selections c None ≡ selection tree U V c =
      ap (λ xs. slice_index_or xs c None) sel ∙ get_or-map-range_with_len (selection tree U V) 0 (length tree.choices) c c None l (omega arith) in
      let b : slice_index_or defaults c None ≡ default_selection tree V c =
      ap (λ xs. slice_index_or xs c None) def ∙ get_or-map-range_with_len (default_selection tree V) 0 (length tree.choices) c c None l (omega arith) in
      ap (λ x. is_symbol_of (symbol i) x && not (is_symbol_of (symbol i) (slice_index_or defaults c None))) a
      ∙ ap (λ x. is_symbol_of (symbol i) (selection tree U V c) && not (is_symbol_of (symbol i) x)) b

  differs_is : ((d : ℕ) → f.choice ≡ Some d → d < length tree.choices) → differs_by tree (known_in tree values) (symbol i) f f.choice selections defaults ≡ differs tree U V i
  differs_is below = by_place f.choice refl below ∙ ap (differs_at tree U V i) (sym (ap (user_place_of i) at))

  pub one_more_differs : ((d : ℕ) → f.choice ≡ Some d → d < length tree.choices) → (x : Bool) (old new : List Bool) → old ≡ map (differs tree U V) (range_with_len 0 i) →
      new ≡ old ++ x ∷ [] → x ≡ differs_by tree (known_in tree values) (symbol i) f f.choice selections defaults → new ≡ map (differs tree U V) (range_with_len 0 (i + 1))
  one_more_differs below x old new e n h = one_more (differs tree U V) i x old new e n (h ∙ differs_is below)

  solved_by : Solves (name_count tree) (equations tree U) V → i < name_count tree → (own : Option GivenValue) → own ≡ U (SymbolPlace i) → (c : Option ℕ) → f.choice ≡ c →
      IsSolvedOwn tree (known_in tree values) (symbol i) f c own
  solved_by solves l own given (Some c) e = tt
  solved_by solves l own given None e =
      let place : user_place tree i ≡ SymbolPlace i = ap (user_place_of i) at ∙ ap (user_place_by i) e in
      solves i l
      ∙ ap (λ p. rhs tree i (U p) V) place
      ∙ ap (λ g. rhs tree i g V) (sym given)
      ∙ ap (λ k. equation tree k (symbol i) (facts tree (symbol i)) own) (sym (tables_known tree values full))
      ∙ ap (λ o. equation tree (known_in tree values) (symbol i) o own) at
      ∙ ap (λ o. by_choice tree (known_in tree values) (symbol i) f o own) e

  -- the value of a symbol outside a choice is what its equation gives
  pub solved_here : Solves (name_count tree) (equations tree U) V → i < name_count tree → (own : Option GivenValue) → own ≡ U (SymbolPlace i) →
      IsSolvedOwn tree (known_in tree values) (symbol i) f f.choice own
  solved_here solves l own given = solved_by solves l own given f.choice refl

-- a symbol for which nothing counts that was given does not differ
module _ (tree : TreeFacts) (known : SymId → SymbolValue) (s : SymId) (f : SymbolFacts) (own : Option GivenValue) (selections defaults : List (Option SymId))
    (nothing : (is_some own && not (is_n (visibility tree known f))) ≡ false) where
  pub does_not_differ : (c : Option ℕ) → c ≡ None → IsSolvedOwn tree known s f c own → false ≡ differs_by tree known s f c selections defaults
  does_not_differ (Some c) e solved = cc
  does_not_differ None e solved =
      let same : known s ≡ by_type tree known s f f.symbol_type None = solved ∙ uncounted tree known s f f.symbol_type own nothing in
      sym (ap (λ x. not (same_value (known s) x)) (sym same) ∙ ap not (same_value_itself (known s)))
