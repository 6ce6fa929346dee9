-- Steps of the code, over plain values.
use Rattle.std.proofs.Common.{Bool, List, None, Option, Some, [], ap, append_assoc, cond, false, is_some, refl, sym, true, ℕ, ◌++◌, ◌∙◌, ◌∷◌, ◌≡◌}
use Rattle.kc_language.specs.{Expressions.SymbolValue, Symbols.{SymbolFacts, TreeFacts, Warning}, Values.{GivenValue, above, if_within_range}, declared.{expressions.{SymId.SymId, SymbolType.SymbolType, Tri.Tri}, symbols.ChoiceId.ChoiceId, values.Interval.Interval}}
use Rattle.kc_tree.specs.Places.{mode_view}
use Rattle.kc_language.specs.Values as v
use Rattle.kc_language.specs.Texts as w
use Rattle.kc_values.specs.PartsOfTexts as w_parts

pub no_choice : (o : Option ChoiceId) → is_some o ≡ false → mode_view o ≡ None
no_choice None e = refl
no_choice (Some c) e = absurd cc

module _ (tree : TreeFacts) (k : SymId → SymbolValue) where
  pub select_joined : (name : List ℕ) (f : SymbolFacts) (selected_to direct : Tri) (over : Bool) (warning : Warning) (old new : List Warning) → selected_to ≡ v.selected_to tree k f → direct ≡ v.direct tree k f →
      over ≡ above selected_to direct → over ≡ true → warning ≡ w_parts.selected_warning name selected_to direct → new ≡ old ++ warning ∷ [] → new ≡ old ++ w.select_warnings tree k name f
  select_joined name f selected_to direct over warning old new e1 e2 e3 e4 e5 e6 =
      let R = v.selected_to tree k f in
      let D = v.direct tree k f in
      let yes : above R D ≡ true = sym (e3 ∙ ap (λ x. above x direct) e1 ∙ ap (above R) e2) ∙ e4 in
      let this : warning ≡ w_parts.selected_warning name R D = e5 ∙ ap (λ x. w_parts.selected_warning name x direct) e1 ∙ ap (w_parts.selected_warning name R) e2 in
      e6 ∙ ap (λ x. old ++ x ∷ []) this ∙ ap (λ b. old ++ cond b (w_parts.selected_warning name R D ∷ []) []) (sym yes)

  -- a bool or tristate outside a choice
  pub truth_warned : (told : List ℕ) (f : SymbolFacts) (choice : Option ℕ) (user : Option GivenValue) (symbol_type : SymbolType) →
      w.warnings_by_type tree k told f symbol_type user ≡ w.select_warnings tree k told f → f.symbol_type ≡ symbol_type →
      choice ≡ None → w.select_warnings tree k told f ≡ w_parts.warnings_by_choice tree k told f choice user
  truth_warned told f choice user symbol_type by_type e1 e2 =
      sym by_type ∙ ap (λ x. w.warnings_by_type tree k told f x user) (sym e1) ∙ ap (λ c. w_parts.warnings_by_choice tree k told f c user) (sym e2)

  pub range_joined : (name : List ℕ) (f : SymbolFacts) (user : Option GivenValue) (range : Option Interval) (vis : Tri) (given used default : Option (List ℕ))
      (old mid new : List Warning) → range ≡ v.active_range tree k f → vis ≡ v.visibility tree k f → given ≡ v.visible_text user vis → used ≡ if_within_range f.symbol_type range given →
      default ≡ w_parts.met_text k (v.first_met tree k f.defaults) → mid ≡ old ++ w.user_warnings f.symbol_type name range given →
      new ≡ mid ++ w.default_warnings f.symbol_type name range used default → new ≡ old ++ w.range_warnings tree k name f user
  range_joined name f user range vis given used default old mid new e1 e2 e3 e4 e5 e6 e7 =
      let r = v.active_range tree k f in
      let t = v.visible_text user (v.visibility tree k f) in
      let given_is : given ≡ t = e3 ∙ ap (v.visible_text user) e2 in
      let used_is : used ≡ if_within_range f.symbol_type r t = e4 ∙ ap (λ x. if_within_range f.symbol_type x given) e1 ∙ ap (if_within_range f.symbol_type r) given_is in
      let first_is : w.user_warnings f.symbol_type name range given ≡ w.user_warnings f.symbol_type name r t =
      ap (λ x. w.user_warnings f.symbol_type name x given) e1 ∙ ap (w.user_warnings f.symbol_type name r) given_is
      in
      let second_is : w.default_warnings f.symbol_type name range used default ≡ w.default_warnings f.symbol_type name r (if_within_range f.symbol_type r t) (w_parts.met_text k (v.first_met tree k f.defaults)) =
      ap (λ x. w.default_warnings f.symbol_type name x used default) e1 ∙ ap (λ x. w.default_warnings f.symbol_type name r x default) used_is ∙ ap (w.default_warnings f.symbol_type name r (if_within_range f.symbol_type r t)) e5
      in
      e7 ∙ ap (λ x. x ++ w.default_warnings f.symbol_type name range used default) (e6 ∙ ap (λ x. old ++ x) first_is)
      ∙ ap (λ x. (old ++ w.user_warnings f.symbol_type name r t) ++ x) second_is
      ∙ append_assoc old (w.user_warnings f.symbol_type name r t) (w.default_warnings f.symbol_type name r (if_within_range f.symbol_type r t) (w_parts.met_text k (v.first_met tree k f.defaults)))
