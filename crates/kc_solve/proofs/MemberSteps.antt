-- A visible member that is not the default selection of its choice is another that could be selected.
use Rattle.std.proofs.{Common.{Bool, None, Some, ap, false, not, refl, sym, true, ℕ, ◌&&◌, ◌∙◌, ◌≡◌, ◌≢◌}, lemmas.{Bool.{and_from, false_from_ne_true, not_from_false, true≢false}, List.Folds.list_any_at}}
use Rattle.std.specs.{List.list_any, Option.option_map_or}
use Rattle.kc_language.specs.{Expressions.{SymbolValue, same_symbol}, Symbols.{SymbolFacts, TreeFacts}, declared.expressions.{SymId.SymId, SymbolType.SymbolType, Tri.{TheVariants.{M, N, Y}, Tri}}}
use Rattle.kc_language.specs.Values as v
use Rattle.kc_entries.specs.WellFormed.{IsWellFormed}
use Rattle.kc_values.proofs.{Same.same_symbol-true, UpgradeLemmas.n_stays}

module _ (tree : TreeFacts) (known : SymId → SymbolValue) where
  abbrev is_other : SymId → SymId → Bool
  is_other s m = not (same_symbol s m) && v.visible tree known m

  -- what is n stays n in each type
  shown : (k : SymbolType) (t : Tri) → not (v.is_n (v.upgraded tree known k t)) ≡ true → not (v.is_n t) ≡ true
  shown k N e = absurd (true≢false (sym e ∙ ap (λ t. not (v.is_n t)) (sym (n_stays tree known k))))
  shown k M e = refl
  shown k Y e = refl

  pub has_other_beside : (formed : IsWellFormed tree) (m s : SymId) (f : SymbolFacts) (k : ℕ) → v.facts tree m ≡ Some f → f.choice ≡ Some k → v.is_visible tree known f ≡ true →
      v.selected tree known (v.choice_at tree k) None ≡ Some s → s.0 ≢ m.0 → option_map_or (v.has_other tree known) (v.choice_at tree k) false ≡ true
  has_other_beside formed m s f k at member visible selected differs =
      let (c, is, among) = formed.members_listed m.0 f at k member in
      let seen : v.visible tree known m ≡ true =
      ap (λ o. elim o [ None ↦ false | Some f ↦ not (v.is_n (v.conditions tree known f.prompts)) ]) at ∙ shown f.symbol_type (v.conditions tree known f.prompts) visible in
      let other : same_symbol s m ≡ false = false_from_ne_true (same_symbol s m) (λ same. differs (ap (λ (x : SymId). x.0) (same_symbol-true s m same))) in
      let default : v.selected tree known (Some c) None ≡ Some s = ap (λ o. v.selected tree known o None) (sym is) ∙ selected in
      ap (λ o. option_map_or (v.has_other tree known) o false) is
      ∙ ap (λ o. elim o [ None ↦ false | Some s ↦ list_any (is_other s) c.members ]) default
      ∙ list_any_at (is_other s) c.members among.0 m among.1
      (ap (is_other s) among.2 ∙ and_from (not (same_symbol s m)) (v.visible tree known m) (not_from_false (same_symbol s m) other) seen)
