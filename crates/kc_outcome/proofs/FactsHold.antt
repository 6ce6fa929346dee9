-- Each fact of an explanation holds.
use Rattle.std.proofs.Common.{◌≡◌, refl, ap, sym, ◌∙◌, true, false, ℕ}
use Rattle.std.proofs.lemmas.List.Elements.{All-from_recursion}
use Rattle.std.specs.List.{AllByRecursion, filter, flat_map, list_any}
use Rattle.std.specs.Prelude.{Bool, IfSome, List, None, Option, Some, [], if◌then◌else◌, is_some, map, not, ◌&&◌, ◌++◌, ◌||◌, ◌∷◌, ◌≡◌}
use Rattle.kc_language.specs.{ConfigFile.{RefusedLine, UserInput, place_at, plain_refused}, Expressions.{Form, SymbolValue, lesser, truth_of_value}, Statements.{InputPrompt, Numbered}, Symbols.{Bounds, StatedDefault, SymbolFacts, TreeFacts, definitions_of, listed}, Values.{ChoicePlace, GivenText, GivenTruth, GivenValue, Member, SymbolPlace, choice_at, facts, is_n, is_visible, mode_of, selected_to}, declared.{expressions.{SymId.{SymId}, SymbolType.{SymbolType, TheVariants.{Bool as IsBool, Hex, Int, Str, Tristate, Undefined}}, Tri.{TheVariants.{N}}}, symbols.SelectOrImply.{SelectOrImply}}}
use Rattle.kc_outcome.specs.Explanations.{Asked, ConditionPart, Fact, FactsHold, Holds, default_given, bound_texts, ModulesAre, NotAllowed, NotRaised, PartIs, RaisedBy, Said, choice_facts_at, counts, default_fact, default_facts, default_members, dependency_facts, dependency_parts, facts_by, facts_of, is_shown_member, is_met, is_users, is_y, member_fact, member_default_fact, is_without_facts, part_facts, part_value, preset_facts, prompt_facts, prompt_lines, raise_facts, raise_value, raised_to, raising_lines, range_fact, range_facts, selection_facts, shown_parts, text_facts, through, truth_facts, user_facts, value_facts, choice_entry}
use Rattle.kc_outcome.proofs.ExplanationParts.{dependency_is, line_is, prompt_is}
use Rattle.kc_outcome.proofs.FactLists.{all_passing, both, flat, mapped}
use Rattle.kc_outcome.proofs.TriLemmas.{n_of}

module _ (ss : List Numbered) (tree : TreeFacts) (input : UserInput) (known : SymId → SymbolValue) where
  abbrev H : Fact → Type 0
  H = Holds ss tree input known

  abbrev Each : List Fact → Type 0
  Each = AllByRecursion H

  part_holds : (at : ℕ) (a : Asked) → H (PartIs (record { at = at; asks = a }) (part_value tree known (record { at = at; asks = a })))
  part_holds at a = refl

  parts_hold : (ps : List ConditionPart) → Each (part_facts ss tree input known ps)
  parts_hold ps = mapped H (λ p. PartIs p (part_value tree known p)) ps (λ p. part_holds p.at p.asks)

  pub dependencies_hold : (i : ℕ) → Each (dependency_facts ss tree input known i)
  dependencies_hold i = (sym (dependency_is ss tree known i), parts_hold (dependency_parts ss i))

  pub prompt_holds : (p : Said (InputPrompt Form)) → Each (prompt_facts ss tree input known p)
  prompt_holds p = (sym (prompt_is ss tree known p), parts_hold (shown_parts ss p))

  gives : (kind : SymbolType) (e : Form) (b : Bool) → IfSome (if b then Some (default_given tree known kind e) else None) (λ g. default_given tree known kind e ≡ g)
  gives kind e true = refl
  gives kind e false = tt

  default_holds : (kind : SymbolType) (d : Said StatedDefault) → H (default_fact ss tree input known kind d)
  default_holds kind d = (sym (line_is ss tree known (λ x. x.when) d d), gives kind (d.what).value (is_met ss tree input known (λ x. x.when) d))

  between : (kind : SymbolType) (b : Bounds) (c : Bool) → IfSome (if c then Some (bound_texts tree known kind b) else None) (λ r. bound_texts tree known kind b ≡ r)
  between kind b true = refl
  between kind b false = tt

  range_holds : (kind : SymbolType) (r : Said (Bounds × Option Form)) → H (range_fact ss tree input known kind r)
  range_holds kind r = (sym (line_is ss tree known (λ x. x.1) r r), between kind (r.what).0 (is_met ss tree input known (λ x. x.1) r))

  pub raised_is : (r : SymId × Said (Option Form)) → raised_to ss tree known r ≡ raise_value ss tree input known r
  raised_is r = ap (lesser (truth_of_value (known r.0))) (sym (line_is ss tree known (λ w. w) r.1 r.1))

  nothing : (word : SelectOrImply) (rs : List (SymId × Said (Option Form))) → AllByRecursion (λ r. raised_to ss tree known r ≡ N) rs →
      Each (elim rs [ [] ↦ [] | r ∷ more ↦ NotRaised word (r ∷ more) ∷ [] ])
  nothing word [] h = tt
  nothing word (r ∷ rs) h = (All-from_recursion (λ r. raised_to ss tree known r ≡ N) (r ∷ rs) h, tt)

  raises_hold : (word : SelectOrImply) (s : SymId) → Each (raise_facts ss tree input known word s)
  raises_hold word s =
      let rs = raising_lines ss word s in
      both H (map (λ r. RaisedBy word r (truth_of_value (known r.0)) (raise_value ss tree input known r)) (filter (λ r. not (is_n (raise_value ss tree input known r))) rs)) _
      (mapped H _ (filter (λ r. not (is_n (raise_value ss tree input known r))) rs) (λ r. (refl, raised_is r)))
      (nothing word (filter (λ r. is_n (raise_value ss tree input known r)) rs)
      (all_passing (λ r. is_n (raise_value ss tree input known r)) (λ r. raised_to ss tree known r ≡ N) rs
      (λ r e. raised_is r ∙ n_of (raise_value ss tree input known r) e)))

  pub defaults_hold : (s : SymId) (kind : SymbolType) → Each (default_facts ss tree input known s kind)
  defaults_hold s kind = mapped H (default_fact ss tree input known kind) _ (default_holds kind)

  pub ranges_hold : (s : SymId) (kind : SymbolType) → Each (range_facts ss tree input known s kind)
  ranges_hold s kind = mapped H (range_fact ss tree input known kind) _ (range_holds kind)

  refused_holds : (s : SymId) (o : Option RefusedLine) → plain_refused input s ≡ o → Each (map (NotAllowed s) (listed o))
  refused_holds s None e = tt
  refused_holds s (Some at) e = (e, tt)

  if_holds : (b : Bool) (xs ys : List Fact) → Each xs → Each ys → Each (if b then xs else ys)
  if_holds true xs ys h k = h
  if_holds false xs ys h k = k

  user_holds : (s : SymId) (f : SymbolFacts) → Each (user_facts ss tree input known s f)
  user_holds s f = both H _ _ (if_holds (is_some (place_at input.places (SymbolPlace s.0)) || (not (is_some f.choice) && is_visible tree known f)) _ _ (refl, tt) tt)
      (refused_holds s (plain_refused input s) refl)

  truth_holds : (s : SymId) (f : SymbolFacts) → Each (truth_facts ss tree input known s f)
  truth_holds s f = both H (raise_facts ss tree input known SelectOrImply.Select s) _ (raises_hold SelectOrImply.Select s)
      (if_holds (is_users tree known f (place_at input.places (SymbolPlace s.0)) || is_y (selected_to tree known f)) _ _ tt
      (both H (default_facts ss tree input known s f.symbol_type) _ (defaults_hold s f.symbol_type) (raises_hold SelectOrImply.Imply s)))

  texts_hold : (s : SymId) (f : SymbolFacts) (used : Option (List ℕ)) → Each (text_facts ss tree input known s f used)
  texts_hold s f used = if_holds (is_some used) _ _ tt (defaults_hold s f.symbol_type)

  values_hold : (s : SymId) (f : SymbolFacts) (kind : SymbolType) → Each (value_facts ss tree input known s f kind)
  values_hold s f Undefined = tt
  values_hold s f IsBool = truth_holds s f
  values_hold s f Tristate = both H (map (λ m. ModulesAre m (truth_of_value (known m))) (listed tree.modules)) _
      (mapped H (λ m. ModulesAre m (truth_of_value (known m))) (listed tree.modules) (λ m. refl)) (truth_holds s f)
  values_hold s f Str = texts_hold s f _
  values_hold s f Int = both H (range_facts ss tree input known s f.symbol_type) _ (ranges_hold s f.symbol_type) (texts_hold s f _)
  values_hold s f Hex = both H (range_facts ss tree input known s f.symbol_type) _ (ranges_hold s f.symbol_type) (texts_hold s f _)

  member_default_holds : (d : Said (SymId × Option Form)) → H (member_default_fact ss tree input known d)
  member_default_holds d = (sym (line_is ss tree known (λ x. x.1) d d), refl)

  pub presets_hold : (j : ℕ) → Each (preset_facts ss tree input known j)
  presets_hold j =
      let named = through (counts ss tree input known j) (default_members ss j) in
      both H (map (member_default_fact ss tree input known) named) _ (mapped H (member_default_fact ss tree input known) named member_default_holds)
      (if_holds (list_any (counts ss tree input known j) (default_members ss j)) [] _ tt (mapped H (member_fact ss tree input known) _ (λ m. refl)))

  selection_holds : (j : ℕ) (chosen : Option GivenValue) → Each (selection_facts ss tree input known j chosen)
  selection_holds j (Some (Member m)) = (refl, if_holds (is_shown_member ss tree input known j m) _ _ tt (presets_hold j))
  selection_holds j (Some (GivenTruth t)) = presets_hold j
  selection_holds j (Some (GivenText t)) = presets_hold j
  selection_holds j None = presets_hold j

  choice_holds : (k j : ℕ) → Each (choice_facts_at ss tree input known k j)
  choice_holds k j = (
    refl,
    both H (part_facts ss tree input known (dependency_parts ss j) ++ flat_map (prompt_facts ss tree input known) (prompt_lines ss (j ∷ []))) _
        (both H (part_facts ss tree input known (dependency_parts ss j)) _ (parts_hold (dependency_parts ss j))
        (flat H (prompt_facts ss tree input known) (prompt_lines ss (j ∷ [])) prompt_holds))
        (if_holds (is_n (mode_of tree known (choice_at tree k))) _ _ tt (refl, selection_holds j (place_at input.places (ChoicePlace k)))),
  )

  own_hold : (s : SymId) (f : SymbolFacts) (choice : Option ℕ) → Each (facts_by ss tree input known s f choice)
  own_hold s f (Some k) = flat H (choice_facts_at ss tree input known k) (choice_entry ss k) (choice_holds k)
  own_hold s f None = values_hold s f f.symbol_type

  typed_hold : (s : SymId) (f : SymbolFacts) → Each (user_facts ss tree input known s f ++ flat_map (dependency_facts ss tree input known) (definitions_of ss s)
      ++ flat_map (prompt_facts ss tree input known) (prompt_lines ss (definitions_of ss s)) ++ facts_by ss tree input known s f f.choice)
  typed_hold s f =
      let a = user_facts ss tree input known s f in let b = flat_map (dependency_facts ss tree input known) (definitions_of ss s) in
      let c = flat_map (prompt_facts ss tree input known) (prompt_lines ss (definitions_of ss s)) in
      both H (a ++ b ++ c) _ (both H (a ++ b) c (both H a b (user_holds s f)
      (flat H (dependency_facts ss tree input known) (definitions_of ss s) dependencies_hold))
      (flat H (prompt_facts ss tree input known) (prompt_lines ss (definitions_of ss s)) prompt_holds)) (own_hold s f f.choice)

  all_hold : (s : SymId) (o : Option SymbolFacts) → Each (elim o [
    | None ↦ []
    | Some f ↦ if is_without_facts ss tree input known f then [] else user_facts ss tree input known s f
        ++ flat_map (dependency_facts ss tree input known) (definitions_of ss s)
        ++ flat_map (prompt_facts ss tree input known) (prompt_lines ss (definitions_of ss s)) ++ facts_by ss tree input known s f f.choice
  ])
  all_hold s None = tt
  all_hold s (Some f) = if_holds (is_without_facts ss tree input known f) _ _ tt (typed_hold s f)

  pub holds : (s : SymId) → Each (facts_of ss tree input known s)
  holds s = all_hold s (facts tree s)

pub facts_hold : FactsHold
facts_hold ss tree input known s = All-from_recursion (Holds ss tree input known) (facts_of ss tree input known s) (holds ss tree input known s)
