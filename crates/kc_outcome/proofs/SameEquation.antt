-- The equation of a symbol gives the same value where its parts have the same values.
use Rattle.std.proofs.Common.{◌≡◌, refl, ap, sym, ◌∙◌, false, length, subst, ◌<◌}
use Rattle.std.specs.Prelude.{List, None, Option, Some, if◌then◌else◌, unwrap_or, ◌||◌, ◌≡◌, ℕ}
use Rattle.kc_language.specs.{ConfigFile.{UserInput, place_at}, Expressions.{SymbolValue, Truth, greater, lesser}, Statements.{Located, Numbered, statements}, Symbols.{SymbolFacts, TreeFacts, choice_of, facts_with, is_symbol_of, symbol_facts, type_of}, Texts.{Solution, value_of}, Values.{ChoicePlace, GivenValue, Solves, SymbolPlace, active_range, by_type, choice_at, clamped, conditions, default_text, default_value, direct, equation, equations, first_met, if_within_range, implied_to, implied_value, is_n, known_from, name_count, number_equation, selected, selected_to, selector_values, truth_equation, upgraded, user_or, visibility, visible_text}, declared.expressions.{SymId.{SymId}, SymbolType.{SymbolType}, Tri.{Tri, TheVariants.{N, Y}}}}
use Rattle.kc_outcome.specs.Explanations.{IsSolved, is_users, is_y}
use Rattle.kc_outcome.proofs.SameParts.{base_same}
use Rattle.kc_outcome.proofs.TreeParts.{facts_are, symbol_count}

-- What is used, else what the default gives.
pub unwrapped : (a b : Option (List ℕ)) (x y : List ℕ) → a ≡ b → (a ≡ None → x ≡ y) → unwrap_or a x ≡ unwrap_or b y
unwrapped None b x y e h = h refl ∙ ap (λ o. unwrap_or o y) e
unwrapped (Some t) b x y e h = ap (λ o. unwrap_or o y) e

module _ (tree : TreeFacts) (k w : SymId → SymbolValue) (f : SymbolFacts) (mine others : Option GivenValue) where
  -- Values are upgraded alike for this type.
  abbrev pub Even : SymbolType → Type 0
  Even kind = (t : Tri) → upgraded tree k kind t ≡ upgraded tree w kind t

  pub of_type : (kind : SymbolType) → f.symbol_type ≡ kind → Even kind → Even f.symbol_type
  of_type kind e even t = ap (λ type. upgraded tree k type t) e ∙ even t ∙ ap (λ type. upgraded tree w type t) (sym e)

  module _ (even : Even f.symbol_type) where
    pub up : (t u : Tri) → t ≡ u → upgraded tree k f.symbol_type t ≡ upgraded tree w f.symbol_type u
    up t u e = even t ∙ ap (upgraded tree w f.symbol_type) e

    abbrev by : Tri → Tri → Tri → Tri
    by d i r = if is_n i then d else lesser (greater d i) r

    pub implied_by : default_value tree k (first_met tree k f.defaults) ≡ default_value tree w (first_met tree w f.defaults) →
        selector_values tree k f.impliers ≡ selector_values tree w f.impliers → conditions tree k f.dependencies ≡ conditions tree w f.dependencies →
        implied_value tree k f ≡ implied_value tree w f
    implied_by default impliers dependencies =
        ap (λ d. by d (implied_to tree k f) (direct tree k f)) default
        ∙ ap (λ i. by (default_value tree w (first_met tree w f.defaults)) i (direct tree k f)) (up _ _ impliers)
        ∙ ap (by (default_value tree w (first_met tree w f.defaults)) (implied_to tree w f)) (up _ _ dependencies)

    pub truth_by : selector_values tree k f.selectors ≡ selector_values tree w f.selectors → conditions tree k f.prompts ≡ conditions tree w f.prompts →
        ((t : Tri) → user_or mine (visibility tree k f) t ≡ user_or others (visibility tree k f) t) →
        ((is_users tree k f mine || is_y (selected_to tree k f)) ≡ false → implied_value tree k f ≡ implied_value tree w f) →
        truth_equation tree k f mine ≡ truth_equation tree w f others
    truth_by selectors prompts user implied =
        let selected = up _ _ selectors in
        up _ _ (base_same mine (visibility tree k f) (selected_to tree k f) (implied_value tree k f) (implied_value tree w f) _ refl implied
        ∙ ap (λ t. greater t (selected_to tree k f)) (user (implied_value tree w f))
        ∙ ap (λ v. greater (user_or others v (implied_value tree w f)) (selected_to tree k f)) (up _ _ prompts)
        ∙ ap (greater (user_or others (visibility tree w f) (implied_value tree w f))) selected)

    pub shown_by : conditions tree k f.prompts ≡ conditions tree w f.prompts → visible_text mine (visibility tree k f) ≡ visible_text others (visibility tree k f) →
        visible_text mine (visibility tree k f) ≡ visible_text others (visibility tree w f)
    shown_by prompts user = user ∙ ap (visible_text others) (up _ _ prompts)

  -- The text of an int or hex that counts, else its default, in its range.
  abbrev pub used_by : (SymId → SymbolValue) → Option GivenValue → Option (List ℕ)
  used_by v given = if_within_range f.symbol_type (active_range tree v f) (visible_text given (visibility tree v f))

  pub used_same : active_range tree k f ≡ active_range tree w f → visible_text mine (visibility tree k f) ≡ visible_text others (visibility tree w f) →
      used_by k mine ≡ used_by w others
  used_same range shown = ap (λ r. if_within_range f.symbol_type r (visible_text mine (visibility tree k f))) range ∙ ap (if_within_range f.symbol_type (active_range tree w f)) shown

  pub number_by : active_range tree k f ≡ active_range tree w f → used_by k mine ≡ used_by w others →
      (used_by k mine ≡ None → default_text k (first_met tree k f.defaults) ≡ default_text w (first_met tree w f.defaults)) →
      number_equation tree k f mine ≡ number_equation tree w f others
  number_by range used default = unwrapped _ _ _ _ used (λ none. ap (λ r. clamped f.symbol_type r (default_text k (first_met tree k f.defaults))) range
      ∙ ap (clamped f.symbol_type (active_range tree w f)) (default none))

-- ---- The value that the equation gives, by type and choice
abbrev pub value_by : List Numbered → TreeFacts → (SymId → SymbolValue) → UserInput → SymId → SymbolType → Option ℕ → SymbolValue
value_by ss tree v input s kind choice =
    let value : Option GivenValue → SymbolValue = elim choice [
      | None ↦ by_type tree v s (symbol_facts ss s) kind
      | Some c ↦ λ u. Truth (if is_symbol_of s (selected tree v (choice_at tree c) u) then Y else N)
    ] in
    value (place_at input.places (elim choice [ None ↦ SymbolPlace s.0 | Some c ↦ ChoicePlace c ]))

module _ (names : List (List ℕ)) (lines : List (Located Numbered)) (s : SymId) (within : s.0 < length names) where
  abbrev tree : TreeFacts
  tree = facts_with names lines

  abbrev value_in : (ℕ → SymbolValue) → UserInput → SymbolValue
  value_in V input = value_by (statements lines) tree (known_from tree V) input s (type_of (statements lines) s) (choice_of (statements lines) s)

  pub equation_is : (V : ℕ → SymbolValue) (input : UserInput) → equations tree (place_at input.places) s.0 V ≡ value_in V input
  equation_is V input =
      let given : Option SymbolFacts → SymbolValue = λ o. equation tree (known_from tree V) s o (place_at input.places (elim o [
        | None ↦ SymbolPlace s.0
        | Some f ↦ elim f.choice [ None ↦ SymbolPlace s.0 | Some c ↦ ChoicePlace c ]
      ])) in
      ap given (facts_are names lines s within)

  -- It is the value in a solution.
  pub value_is : (input : UserInput) (solution : Solution) → IsSolved tree input solution → value_of solution s.0 ≡ value_in (value_of solution) input
  value_is input solution is =
      let V = value_of solution in
      let own : Solves (name_count tree) (equations tree (place_at solution.places)) V =
      subst (λ t. Solves (name_count t) (equations t (place_at solution.places)) V) is.tree_is (is.solved).solves in
      let solves : Solves (name_count tree) (equations tree (place_at input.places)) V = subst (λ p. Solves (name_count tree) (equations tree (place_at p)) V) is.given own in
      solves s.0 (subst (λ n. s.0 < n) (sym (symbol_count names lines)) within) ∙ equation_is V input
