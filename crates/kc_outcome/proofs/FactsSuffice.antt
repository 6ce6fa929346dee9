-- The facts of an explanation suffice: where they hold, the equation gives the symbol the value that it has.
use Rattle.std.proofs.Common.{◌≡◌, refl, ap, sym, subst, ◌∙◌, ℕ, [], ◌<◌, inl, inr, length, true, false, true≢false}
use Rattle.std.proofs.lemmas.Bool.{cases_Bool}
use Rattle.std.proofs.lemmas.Option.{none-some}
use Rattle.std.proofs.lemmas.List.Elements.{recursion_from_All}
use Rattle.std.specs.List.{AllByRecursion, flat_map}
use Rattle.std.specs.Prelude.{All, Bool, List, None, Option, Some, if◌then◌else◌, is_some, map, not, option_map, unwrap_or, ◌&&◌, ◌||◌, ◌⊎◌, ◌++◌, ◌≡◌}
use Rattle.kc_language.specs.{ConfigFile.{UserInput, place_at}, Expressions.{SymbolValue, TextValue, Truth, truth_of_value}, Statements.{Located, Numbered, statements}, Symbols.{SymbolFacts, TreeFacts, choice_facts, choice_of, definitions_of, facts_with, holds_text, is_symbol_of, same_type, symbol_facts, listed, type_of}, Texts.{value_of}, Values.{ChoicePlace, GivenValue, SymbolPlace, active_range, by_type, choice_at, conditions, default_text, equations, first_met, implied_value, known_from, number_equation, selected, selected_to, truth_equation, user_or, visibility, visible_text}, declared.{expressions.{SymId.{SymId}, SymbolType.{SymbolType, TheVariants.{Bool as IsBool, Hex, Int, Str, Tristate, Undefined}}, Tri.{Tri, TheVariants.{N, Y}}}, symbols.SelectOrImply.{SelectOrImply}}}
use Rattle.kc_outcome.specs.Explanations.{Fact, FactsSuffice, Holds, ModulesAre, choice_facts_at, default_facts, dependency_facts, facts_by, facts_of, is_users, is_without_facts, is_y, prompt_facts, prompt_lines, raise_facts, range_facts, text_facts, truth_facts, user_facts, value_facts}
use Rattle.kc_outcome.proofs.FactLists.{back, front}
use Rattle.kc_outcome.proofs.SameParts as parts
use Rattle.kc_outcome.proofs.SameParts.{text_at_n, user_at_n}
use Rattle.kc_outcome.proofs.SameEquation as equation
use Rattle.kc_outcome.proofs.SameEquation.{equation_is, unwrapped, value_by, value_is}
use Rattle.kc_outcome.proofs.FactsOfMembers.{selected_same}
use Rattle.kc_outcome.proofs.TreeParts.{choice_is, choice_start, facts_are}

module _ (ss : List Numbered) (tree : TreeFacts) (input other : UserInput) (k w : SymId → SymbolValue) (s : SymId) where
  abbrev H : Fact → Type 0
  H = Holds ss tree other w

  abbrev Each : List Fact → Type 0
  Each = AllByRecursion H

  abbrev said : SymbolFacts
  said = symbol_facts ss s

  abbrev mine : Option GivenValue
  mine = place_at input.places (SymbolPlace s.0)

  abbrev others : Option GivenValue
  others = place_at other.places (SymbolPlace s.0)

  abbrev IsUser : Type 0
  IsUser = (others ≡ mine) ⊎ (visibility tree k said ≡ N)

  user_or_same : IsUser → (t : Tri) → user_or mine (visibility tree k said) t ≡ user_or others (visibility tree k said) t
  user_or_same (inl e) t = ap (λ u. user_or u (visibility tree k said) t) (sym e)
  user_or_same (inr e) t = ap (λ v. user_or mine v t) e ∙ user_at_n mine t ∙ sym (ap (λ v. user_or others v t) e ∙ user_at_n others t)

  visible_text_same : IsUser → visible_text mine (visibility tree k said) ≡ visible_text others (visibility tree k said)
  visible_text_same (inl e) = ap (λ u. visible_text u (visibility tree k said)) (sym e)
  visible_text_same (inr e) = ap (visible_text mine) e ∙ text_at_n mine ∙ sym (ap (visible_text others) e ∙ text_at_n others)

  -- A type, where the modules symbol is the same if the type asks for it.
  abbrev Even : SymbolType → Type 0
  Even = equation.Even tree k w said mine others

  of_type : (kind : SymbolType) → said.symbol_type ≡ kind → Even kind → Even said.symbol_type
  of_type = equation.of_type tree k w said mine others

  module _ (even : Even said.symbol_type) (prompts : conditions tree k said.prompts ≡ conditions tree w said.prompts) where
    truth : holds_text said.symbol_type ≡ false → conditions tree k said.dependencies ≡ conditions tree w said.dependencies → IsUser →
        Each (truth_facts ss tree input k s said) → truth_equation tree k said mine ≡ truth_equation tree w said others
    truth plain dependencies user h =
        let select = raise_facts ss tree input k SelectOrImply.Select s in
        let counts = is_users tree k said mine || is_y (selected_to tree k said) in
        let last : Each (if counts then [] else default_facts ss tree input k s said.symbol_type ++ raise_facts ss tree input k SelectOrImply.Imply s) = back H select _ h in
        equation.truth_by tree k w said mine others even (parts.selects_same ss tree input other k w s (front H select _ h)) prompts (user_or_same user)
        (λ e. implied (rw e at last))
      where
        implied : Each (default_facts ss tree input k s said.symbol_type ++ raise_facts ss tree input k SelectOrImply.Imply s) →
            implied_value tree k said ≡ implied_value tree w said
        implied h =
            let defaults = default_facts ss tree input k s said.symbol_type in
            equation.implied_by tree k w said mine others even ((parts.defaults_same ss tree input other k w said.symbol_type s (front H defaults _ h)).0 plain)
            (parts.implies_same ss tree input other k w s (back H defaults _ h)) dependencies

    shown_same : IsUser → visible_text mine (visibility tree k said) ≡ visible_text others (visibility tree w said)
    shown_same user = equation.shown_by tree k w said mine others even prompts (visible_text_same user)

    texts : holds_text said.symbol_type ≡ true → (used : Option (List ℕ)) → Each (text_facts ss tree input k s said used) →
        (used ≡ None → default_text k (first_met tree k said.defaults) ≡ default_text w (first_met tree w said.defaults))
    texts plain None h e = (parts.defaults_same ss tree input other k w said.symbol_type s h).1 plain
    texts plain (Some t) h e = absurd (none-some t (sym e))

    text_same : holds_text said.symbol_type ≡ true → IsUser → Each (text_facts ss tree input k s said (visible_text mine (visibility tree k said))) →
        unwrap_or (visible_text mine (visibility tree k said)) (default_text k (first_met tree k said.defaults))
        ≡ unwrap_or (visible_text others (visibility tree w said)) (default_text w (first_met tree w said.defaults))
    text_same plain user h = unwrapped _ _ _ _ (shown_same user) (texts plain (visible_text mine (visibility tree k said)) h)

    number_same : holds_text said.symbol_type ≡ true → IsUser → Each (range_facts ss tree input k s said.symbol_type
        ++ text_facts ss tree input k s said (equation.used_by tree k w said mine others k mine)) → number_equation tree k said mine ≡ number_equation tree w said others
    number_same plain user h =
        let ranges = range_facts ss tree input k s said.symbol_type in
        let range : active_range tree k said ≡ active_range tree w said = parts.ranges_same ss tree input other k w said.symbol_type s (front H ranges _ h) in
        equation.number_by tree k w said mine others range (equation.used_same tree k w said mine others range (shown_same user)) (texts plain _ (back H ranges _ h))

  by_kind : (kind : SymbolType) → said.symbol_type ≡ kind → conditions tree k said.prompts ≡ conditions tree w said.prompts →
      conditions tree k said.dependencies ≡ conditions tree w said.dependencies → IsUser → Each (value_facts ss tree input k s said kind) →
      by_type tree k s said kind mine ≡ by_type tree w s said kind others
  by_kind Undefined e prompts dependencies user h = refl
  by_kind IsBool e prompts dependencies user h = ap Truth (truth (of_type IsBool e (λ t. refl)) prompts (ap holds_text e) dependencies user h)
  by_kind Tristate e prompts dependencies user h =
      let own = map (λ m. ModulesAre m (truth_of_value (k m))) (listed tree.modules) in
      let modules = parts.modules_same ss tree input other k w tree.modules (front H own _ h) in
      ap Truth (truth (of_type Tristate e (parts.upgraded_same ss tree input other k w modules Tristate)) prompts (ap holds_text e) dependencies user (back H own _ h))
  by_kind Str e prompts dependencies user h = ap (TextValue Str) (text_same (of_type Str e (λ t. refl)) prompts (ap holds_text e) user h)
  by_kind Int e prompts dependencies user h = ap (TextValue Int) (number_same (of_type Int e (λ t. refl)) prompts (ap holds_text e) user h)
  by_kind Hex e prompts dependencies user h = ap (TextValue Hex) (number_same (of_type Hex e (λ t. refl)) prompts (ap holds_text e) user h)

-- ---- The law, in the tree of these lines
module _ (names : List (List ℕ)) (lines : List (Located Numbered)) (input other : UserInput) (k w : SymId → SymbolValue) (s : SymId) where
  abbrev ss : List Numbered
  ss = statements lines

  abbrev tree : TreeFacts
  tree = facts_with names lines

  abbrev Listed : List Fact → Type 0
  Listed = AllByRecursion (Holds ss tree other w)

  abbrev f : SymbolFacts
  f = symbol_facts ss s

  abbrev own : List Fact
  own = user_facts ss tree input k s f

  abbrev dependencies : List Fact
  dependencies = flat_map (dependency_facts ss tree input k) (definitions_of ss s)

  abbrev prompts : List Fact
  prompts = flat_map (prompt_facts ss tree input k) (prompt_lines ss (definitions_of ss s))

  abbrev facts_for : Option ℕ → List Fact
  facts_for choice = if same_type f.symbol_type Undefined && not (is_some choice) then [] else own ++ dependencies ++ prompts ++ facts_by ss tree input k s f choice

  untyped : (kind : SymbolType) → same_type kind Undefined ≡ true → kind ≡ Undefined
  untyped Undefined e = refl
  untyped IsBool e = absurd (true≢false (sym e))
  untyped Tristate e = absurd (true≢false (sym e))
  untyped Str e = absurd (true≢false (sym e))
  untyped Int e = absurd (true≢false (sym e))
  untyped Hex e = absurd (true≢false (sym e))

  and_false : (b : Bool) → (b && false) ≡ false
  and_false true = refl
  and_false false = refl

  outside : choice_of ss s ≡ None → Listed (facts_for None) →
      by_type tree k s f f.symbol_type (place_at input.places (SymbolPlace s.0)) ≡ by_type tree w s f f.symbol_type (place_at other.places (SymbolPlace s.0))
  outside none h = elim (cases_Bool (same_type f.symbol_type Undefined)) [
    | inl e ↦ rw (untyped f.symbol_type e) refl
    | inr e ↦
        let P = Holds ss tree other w in
        let all : Listed (own ++ dependencies ++ prompts ++ facts_by ss tree input k s f None) = rw e at h in
        let before = front P (own ++ dependencies ++ prompts) _ all in let first = front P (own ++ dependencies) prompts before in
        by_kind ss tree input other k w s f.symbol_type refl (parts.visible_same ss tree input other k w s (back P (own ++ dependencies) prompts before))
        (parts.dependencies_same ss tree input other k w (definitions_of ss s) (back P own dependencies first))
        (parts.user_same ss tree input other k w s f none (front P own dependencies first)) (back P (own ++ dependencies ++ prompts) _ all)
  ]

  inside : (c : ℕ) → Listed (facts_for (Some c)) → selected tree k (choice_at tree c) (place_at input.places (ChoicePlace c))
      ≡ selected tree w (choice_at tree c) (place_at other.places (ChoicePlace c))
  inside c h =
      let P = Holds ss tree other w in
      let all : Listed (own ++ dependencies ++ prompts ++ facts_by ss tree input k s f (Some c)) = rw (and_false (same_type f.symbol_type Undefined)) at h in
      of (choice_start ss c) refl (back P (own ++ dependencies ++ prompts) _ all)
    where
      of : (o : Option ℕ) → choice_start ss c ≡ o → Listed (flat_map (choice_facts_at ss tree input k c) (listed o)) →
          selected tree k (choice_at tree c) (place_at input.places (ChoicePlace c)) ≡ selected tree w (choice_at tree c) (place_at other.places (ChoicePlace c))
      of None e h = let at : choice_at tree c ≡ None = choice_is names lines c ∙ ap (option_map (choice_facts ss)) e in rw at refl
      of (Some j) e h =
          let at : choice_at tree c ≡ Some (choice_facts ss j) = choice_is names lines c ∙ ap (option_map (choice_facts ss)) e in
          rw at (selected_same ss tree input other k w j c at (front (Holds ss tree other w) (choice_facts_at ss tree input k c j) [] h))

  abbrev facts_from : Option SymbolFacts → List Fact
  facts_from o = elim o [
    | None ↦ []
    | Some f ↦ if is_without_facts ss tree input k f then [] else user_facts ss tree input k s f ++ dependencies ++ prompts ++ facts_by ss tree input k s f f.choice
  ]

  same_value : s.0 < length names → Listed (facts_of ss tree input k s) → value_by ss tree k input s (type_of ss s) (choice_of ss s) ≡ value_by ss tree w other s (type_of ss s) (choice_of ss s)
  same_value h given = of (choice_of ss s) refl (subst (λ o. Listed (facts_from o)) (facts_are names lines s h) given)
    where
      of : (o : Option ℕ) → choice_of ss s ≡ o → Listed (facts_for o) → value_by ss tree k input s (type_of ss s) o ≡ value_by ss tree w other s (type_of ss s) o
      of None e all = outside e all
      of (Some c) e all = ap (λ x. Truth (if is_symbol_of s x then Y else N)) (inside c all)

pub facts_suffice : FactsSuffice
facts_suffice names lines input solution s is h other W given =
    let tree = facts_with names lines in
    let V = value_of solution in
    let here : All (Holds (statements lines) tree other (known_from tree W)) (facts_of (statements lines) tree input (known_from tree V) s) =
    subst (λ t. All (Holds (statements lines) t other (known_from t W)) (facts_of (statements t.lines) t input (known_from t V) s)) is.tree_is given in
    let all = recursion_from_All (Holds (statements lines) tree other (known_from tree W)) (facts_of (statements lines) tree input (known_from tree V) s) here in
    ap (λ t. equations t (place_at other.places) s.0 W) is.tree_is ∙ equation_is names lines s h W other
    ∙ sym (same_value names lines input other (known_from tree V) (known_from tree W) s h all) ∙ sym (value_is names lines s h input solution is)
