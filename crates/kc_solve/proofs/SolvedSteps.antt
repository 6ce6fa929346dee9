-- What a full table tells, as a solution.
use Rattle.std.proofs.{Common.{Bool, List, None, Option, Some, [], ap, arith, cond, false, inl, inr, is_some, length, map, not, refl, subst, sym, ℕ, ◌&&◌, ◌<◌, ◌∙◌, ◌≡◌, ◌≤◌}, lemmas.{Bool.{cases_Bool, ltb-false, ltb-true}, List.{FromFn.{get_or-map-range_with_len, length-map-range_with_len}, get_or_past}, Option.slice_get_past}}
use Rattle.std.specs.{List.{flat_map, range_with_len}, Prelude.{IfSome, slice_index_or}}
use Rattle.kc_language.specs.{ConfigFile.{Places, place_at}, Expressions.{SymbolValue, TextValue, symbol, truth_of_value}, Symbols.{SymbolFacts, TreeFacts, Warning, is_symbol_of}, Texts.{IsSolution, Solution, known, value_of, value_warnings, warnings_of}, Values.{ChoicePlace, GivenValue, IsOnlySolution, Solves, SymbolPlace, UserPlace, choice_at, default_selection, differs, differs_at, equation, equations, facts, is_new, is_new_by, known_from, name, name_count, rhs, selected, selection, type_in, user_place}, declared.expressions.{SymId.SymId, SymbolType.{SymbolType, TheVariants.{Bool as IsBool, Hex, Int, Str, Tristate, Undefined}}, Tri.{TheVariants.N, Tri}}}
use Rattle.kc_expr.specs.{PartsOfExpressions.text_of_value, Value.value_by_type}
use Rattle.kc_values.specs.{Laws.{IdempotentWhere as Law, MinimalHasNothingToSpare, MinimalRestores}, PartsOfValues.{is_mentioned, same_value}, Table.{known_in, text_in, tri_in, value_in}, declared.table.{Table.Table, Value.Value}}
use Rattle.kc_entries.specs.WellFormed.{IsWellFormed}
use Rattle.kc_language.specs.Values as language
use Rattle.kc_values.specs.PartsOfValues as writing
use Rattle.kc_solve.proofs.WarningSteps.{tables_known}
use Rattle.kc_solve.specs.Answers as solved
use Rattle.kc_solve.specs.{Answers.TellsKnown, Kept.{IsSolved, solution_in, valuation}, SolvedLaws.{IdempotentWhere, IsMinimal}, Tables.IsTableOf}

-- what is known, by its type, truth value and text
shape : (k : SymbolType) (t : Tri) (x : List ℕ) → value_by_type k (truth_of_value (value_by_type k t x)) (text_of_value (value_by_type k t x)) ≡ value_by_type k t x
shape Undefined t x = refl
shape IsBool t x = refl
shape Tristate t x = refl
shape Str t x = refl
shape Int t x = refl
shape Hex t x = refl

module _ (tree : TreeFacts) (places : Places) (values : List (Option Value)) where
  abbrev V : ℕ → SymbolValue
  V = valuation tree values

  abbrev W : ℕ → SymbolValue
  W = value_of (solution_in tree places values)

  same_value_at : (i : ℕ) → i < name_count tree → W i ≡ V i
  same_value_at i l = get_or-map-range_with_len V 0 (name_count tree) i i (TextValue Undefined []) l (omega arith)

  same_known_at : (s : SymId) → known_from tree W s ≡ known_from tree V s
  same_known_at s =
      elim (cases_Bool (is_mentioned tree s)) [
        | inl t ↦
            let e = same_value_at s.0 (ltb-true s.0 (name_count tree) t) in
            ap (λ x. cond (is_mentioned tree s) x (TextValue Undefined (name tree s))) e
        | inr f ↦
            ap (λ b. cond b (W s.0) (TextValue Undefined (name tree s))) f ∙ sym (ap (λ b. cond b (V s.0) (TextValue Undefined (name tree s))) f)
      ]

  pub same_known : known_from tree W ≡ known_from tree V
  same_known = λ i s. same_known_at s i

  -- what the table tells is what is known in the solution
  pub table_tells : length values ≡ name_count tree → known_in tree values ≡ known (solution_in tree places values)
  table_tells full = tables_known tree values full ∙ sym same_known

  same_rhs : (i : ℕ) (given : Option GivenValue) → rhs tree i given W ≡ rhs tree i given V
  same_rhs i given = ap (λ k. equation tree k (symbol i) (facts tree (symbol i)) given) same_known

  same_differs : (i : ℕ) (p : UserPlace) → i < name_count tree → differs_at tree (place_at places) W i p ≡ differs_at tree (place_at places) V i p
  same_differs i (SymbolPlace j) l = ap (λ x. not (same_value x (rhs tree i None W))) (same_value_at i l) ∙ ap (λ x. not (same_value (V i) x)) (same_rhs i None)
  same_differs i (ChoicePlace c) l =
      ap (λ (k : SymId → SymbolValue). is_symbol_of (symbol i) (selected tree k (choice_at tree c) (place_at places (ChoicePlace c))) && not
      (is_symbol_of (symbol i) (selected tree k (choice_at tree c) None))) same_known

  solves_too : Solves (name_count tree) (equations tree (place_at places)) V → Solves (name_count tree) (equations tree (place_at places)) W
  solves_too solves s l = same_value_at s l ∙ solves s l ∙ sym (same_rhs s (place_at places (user_place tree s)))

  only_too : IsOnlySolution (name_count tree) (equations tree (place_at places)) V → IsOnlySolution (name_count tree) (equations tree (place_at places)) W
  only_too only X solves s l = only X solves s l ∙ sym (same_value_at s l)

  -- these three tell what is known
  tells : length values ≡ name_count tree → TellsKnown (solution_in tree places values)
  tells full id =
      subst (λ (k : SymId → SymbolValue). value_by_type (type_in (facts tree id)) (truth_of_value (k id)) (text_of_value (k id)) ≡ k id) (table_tells full)
      (shape (type_in (facts tree id)) (tri_in (value_in values id)) (text_in (value_in values id) (name tree id)))

  -- one thing that the table tells of a symbol, and what it says at a solution that is this one
  pub told : {X : Type 0} (full : length values ≡ name_count tree) (s : Solution) (e : solution_in tree places values ≡ s) (f : TreeFacts → (SymId → SymbolValue) → X) (x : X) →
      x ≡ f tree (known_in tree values) → x ≡ f s.tree (known s)
  told {X} full s e f x h =
      subst (λ (y : Solution). x ≡ f y.tree (known y)) e (h ∙ ap (f tree) (table_tells full))

  -- what is kept of each symbol, by number: past the last one there are no facts
  kept_at : {X : Type 0} (f : (SymId → SymbolValue) → Option SymbolFacts → X) (d : X) → f (known_from tree W) None ≡ d → (xs : List X) →
      xs ≡ map (λ i. f (known_from tree V) (facts tree (symbol i))) (range_with_len 0 (name_count tree)) → (s : SymId) → slice_index_or xs s.0 d ≡ f (known_from tree W) (facts tree s)
  kept_at f d none xs e s =
      let at = λ (i : ℕ). f (known_from tree V) (facts tree (symbol i)) in
      elim (cases_Bool (is_mentioned tree s)) [
        | inl t ↦
            let l = ltb-true s.0 (name_count tree) t in
            ap (λ ys. slice_index_or ys s.0 d) e
            ∙ get_or-map-range_with_len at 0 (name_count tree) s.0 s.0 d l (omega arith)
            ∙ ap (λ (k : SymId → SymbolValue). f k (facts tree s)) (sym same_known)
        | inr o ↦
            let past = ltb-false s.0 (name_count tree) o in
            let long = ap length e ∙ length-map-range_with_len at 0 (name_count tree) in
            get_or_past xs s.0 d (subst (λ n. n ≤ s.0) (sym long) past)
            ∙ sym none
            ∙ sym (ap (f (known_from tree W)) (slice_get_past tree.symbols s.0 past))
      ]

  module _ (selections defaults : List (Option SymId)) (differing : List Bool) (written : Option (List Bool)) (kept_warnings : List Warning)
      (is : IsSolved tree places values selections defaults differing written kept_warnings) where
    pub is_solution : IsSolution (solution_in tree places values)
    is_solution = record {
      places = is.user;
      count = length-map-range_with_len V 0 (name_count tree);
      solves = solves_too is.solves;
      only = only_too is.only;
    }

    pub tells_known : TellsKnown (solution_in tree places values)
    tells_known = tells is.full

    pub is_minimal : MinimalRestores → MinimalHasNothingToSpare → IsWellFormed tree → IsMinimal (solution_in tree places values)
    is_minimal restores nothing formed = record {
      restores = λ keep is_kept. restores tree (place_at places) W keep is.accepted formed (solves_too is.solves) is_kept;
      nothing_to_spare = λ keep is_kept. nothing tree (place_at places) W keep formed (solves_too is.solves) is_kept;
    }

    pub idempotent : Law → IsWellFormed tree → IdempotentWhere (solution_in tree places values)
    idempotent law formed allowed = law tree (place_at places) W formed allowed (solves_too is.solves)

    pub selection_at : (c : ℕ) → c < length tree.choices → slice_index_or selections c None ≡ solved.selection (solution_in tree places values) c
    selection_at c l =
        ap (λ xs. slice_index_or xs c None) is.selections_are
        ∙ get_or-map-range_with_len (selection tree (place_at places) V) 0 (length tree.choices) c c None l (omega arith)
        ∙ ap (λ (k : SymId → SymbolValue). selected tree k (choice_at tree c) (place_at places (ChoicePlace c))) (sym same_known)

    pub default_at : (c : ℕ) → c < length tree.choices → slice_index_or defaults c None ≡ solved.default_selection (solution_in tree places values) c
    default_at c l =
        ap (λ xs. slice_index_or xs c None) is.defaults_are
        ∙ get_or-map-range_with_len (default_selection tree V) 0 (length tree.choices) c c None l (omega arith)
        ∙ ap (λ (k : SymId → SymbolValue). selected tree k (choice_at tree c) None) (sym same_known)

    pub differing_at : (s : SymId) → s.0 < name_count tree → slice_index_or differing s.0 false ≡ solved.differs (solution_in tree places values) s
    differing_at s l =
        ap (λ xs. slice_index_or xs s.0 false) is.differing_are
        ∙ get_or-map-range_with_len (differs tree (place_at places) V) 0 (name_count tree) s.0 s.0 false l (omega arith)
        ∙ sym (same_differs s.0 (user_place tree s.0) l)

    written_at : (list : List Bool) → written ≡ Some list → (s : SymId) → slice_index_or list s.0 false ≡ solved.written (solution_in tree places values) s
    written_at list kept = kept_at (writing.written_facts tree) false refl list (subst (λ o. IfSome o (λ w. w ≡ map (λ i. language.written tree (known_from tree V) (symbol i)) (range_with_len 0 (name_count tree)))) kept is.written_are)

    pub warnings_too : kept_warnings ≡ value_warnings (solution_in tree places values)
    warnings_too =
        is.warnings_are
        ∙ ap (λ (k : SymId → SymbolValue). flat_map (λ (s : SymId). warnings_of tree k (name tree (symbol s.0)) (facts tree (symbol s.0)) (place_at places (SymbolPlace s.0))) tree.defined)
        (sym same_known)

    pub selections_long : length selections ≡ length tree.choices
    selections_long = ap length is.selections_are ∙ length-map-range_with_len (selection tree (place_at places) V) 0 (length tree.choices)

    pub defaults_long : length defaults ≡ length tree.choices
    defaults_long = ap length is.defaults_are ∙ length-map-range_with_len (default_selection tree V) 0 (length tree.choices)

    -- the same at a solution that is this one
    module _ (s : Solution) (e : solution_in tree places values ≡ s) where
      pub selection_within : (c : ℕ) → c < length s.tree.choices → c < length selections
      selection_within c l = subst (λ n. c < n) (sym selections_long) (subst (λ (x : Solution). c < length x.tree.choices) (sym e) l)

      pub selection_is : (c : ℕ) → c < length s.tree.choices → slice_index_or selections c None ≡ solved.selection s c
      selection_is c l =
          subst (λ (x : Solution). slice_index_or selections c None ≡ solved.selection x c) e (selection_at c (subst (λ (x : Solution). c < length x.tree.choices) (sym e) l))

      pub defaults_within : (c : ℕ) → c < length s.tree.choices → c < length defaults
      defaults_within c l = subst (λ n. c < n) (sym defaults_long) (subst (λ (x : Solution). c < length x.tree.choices) (sym e) l)

      pub default_is : (c : ℕ) → c < length s.tree.choices → slice_index_or defaults c None ≡ solved.default_selection s c
      default_is c l =
          subst (λ (x : Solution). slice_index_or defaults c None ≡ solved.default_selection x c) e (default_at c (subst (λ (x : Solution). c < length x.tree.choices) (sym e) l))

      pub differing_is : (i : SymId) → i.0 < name_count s.tree → slice_index_or differing i.0 false ≡ solved.differs s i
      differing_is i l =
          subst (λ (x : Solution). slice_index_or differing i.0 false ≡ solved.differs x i) e (differing_at i (subst (λ (x : Solution). i.0 < name_count x.tree) (sym e) l))

      pub new_is : length values ≡ name_count tree → (x : Bool) (i : SymId) (f : SymbolFacts) → facts tree i ≡ Some f →
          x ≡ (not (is_some (place_at places (SymbolPlace i.0))) && is_new_by tree (known_in tree values) (place_at places) i f f.choice) → x ≡ solved.is_new s i
      new_is full x i f at is_x =
          let by_facts : (not (is_some (place_at places (SymbolPlace i.0))) && is_new_by tree (known_in tree values) (place_at places) i f f.choice)
          ≡ is_new tree (known_in tree values) (place_at places) i =
          rw at refl in
          subst (λ (y : Solution). x ≡ solved.is_new y i) e (is_x ∙ by_facts ∙ ap (λ k. is_new tree k (place_at places) i) (table_tells full))

      pub written_is : (list : List Bool) → written ≡ Some list → (i : SymId) → slice_index_or list i.0 false ≡ solved.written s i
      written_is list kept i = subst (λ (x : Solution). slice_index_or list i.0 false ≡ solved.written x i) e (written_at list kept i)

-- the table of a solution
pub table_is : (t : Table) (places : Places) (s : Solution) → solution_in t.tree.now places t.values ≡ s → length t.values ≡ name_count t.tree.now → IsTableOf s t
table_is t places s e full =
    subst (λ (y : Solution). IsTableOf y t) e (record { tree = refl; full = full; known_is = table_tells t.tree.now places t.values full })
