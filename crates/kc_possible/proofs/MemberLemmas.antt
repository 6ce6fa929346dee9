-- The value of a member of a choice: n if it is hidden or if the mode is n.
use Rattle.std.proofs.{Common.{Bool, None, Option, Some, ap, cond, false, not, refl, sym, true, ℕ, ◌∙◌, ◌≡◌}, lemmas.Bool.{and_parts, true≢false}}
use Rattle.std.specs.List.{list_any}
use Rattle.kc_language.specs.{Expressions.{SymbolValue, same_symbol}, Symbols.{ChoiceFacts, SymbolFacts, TreeFacts, is_symbol_of}, Values.{GivenValue, above, choice_at, conditions, facts, is_n, mode_of, selected, visible}, declared.expressions.{SymId.SymId, Tri.{TheVariants.{M, N, Y}, Tri}}}
use Rattle.kc_possible.specs.{Bounds.IsWithin, PartsOfPossible.member_value, declared.bounds.Bounds.Bounds}
use Rattle.kc_values.proofs.{Same.same_symbol-true, Selection.selected_visible}

-- what is not above n is n
pub within-n : (b : Bounds) (t : Tri) → b.high ≡ N → IsWithin b t → t ≡ N
within-n b N e w = refl
within-n b M e w = absurd (true≢false (sym (and_parts (not (above b.low M)) (not (above M b.high)) w).1 ∙ ap (λ h. not (above M h)) e))
within-n b Y e w = absurd (true≢false (sym (and_parts (not (above b.low Y)) (not (above Y b.high)) w).1 ∙ ap (λ h. not (above Y h)) e))

module _ (tree : TreeFacts) (known : SymId → SymbolValue) (s : SymId) (c : ℕ) (user : Option GivenValue) where
  of-selected : (o : Option SymId) → (o ≡ Some s → ⊥) → cond (is_symbol_of s o) Y N ≡ N
  of-selected None h = refl
  of-selected (Some m) h = by (same_symbol s m) refl
    where
      by : (b : Bool) → same_symbol s m ≡ b → cond b Y N ≡ N
      by true e = absurd (h (ap Some (sym (same_symbol-true s m e))))
      by false e = refl

  selected-seen : (o : Option ChoiceFacts) → selected tree known o user ≡ Some s → visible tree known s ≡ true
  selected-seen None e = absurd cc
  selected-seen (Some f) e = (and_parts (list_any (same_symbol s) f.members) (visible tree known s) (selected_visible tree known f user s e)).1

  selected-none : (o : Option ChoiceFacts) → mode_of tree known o ≡ N → selected tree known o user ≡ Some s → ⊥
  selected-none None m e = cc
  selected-none (Some f) m e = by (is_n (mode_of tree known (Some f))) (ap is_n m) _ e
    where
      by : (b : Bool) → b ≡ true → (x : Option SymId) → cond b None x ≡ Some s → ⊥
      by true q x h = cc
      by false q x h = true≢false (sym q)

  pub hidden-n : visible tree known s ≡ false → member_value tree known s c user ≡ N
  hidden-n h = of-selected (selected tree known (choice_at tree c) user) (λ e. true≢false (sym (selected-seen (choice_at tree c) e) ∙ h))

  pub unmoded-n : mode_of tree known (choice_at tree c) ≡ N → member_value tree known s c user ≡ N
  unmoded-n h = of-selected (selected tree known (choice_at tree c) user) (selected-none (choice_at tree c) h)

-- a symbol none of whose prompts is met is hidden
pub not-visible : (tree : TreeFacts) (known : SymId → SymbolValue) (s : SymId) (f : SymbolFacts) → facts tree s ≡ Some f → conditions tree known f.prompts ≡ N → visible tree known s ≡ false
not-visible tree known s f e h =
    ap (λ (o : Option SymbolFacts). elim o [ None ↦ false | Some g ↦ not (is_n (conditions tree known g.prompts)) ]) e
    ∙ ap (λ t. not (is_n t)) h
