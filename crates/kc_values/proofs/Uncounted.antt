-- What was given for a symbol that is not visible counts for nothing.
use Rattle.std.proofs.{Common.{None, Option, Some, ap, false, not, refl, unwrap_or, ◌&&◌, ◌≡◌}, lemmas.Bool.true≢false}
use Rattle.std.specs.Option.{is_some}
use Rattle.kc_language.specs.{Expressions.{SymbolValue, TextValue, Truth, greater}, Symbols.{SymbolFacts, TreeFacts}, Values.{GivenText, GivenTruth, GivenValue, Member, clamped, if_within_range}, declared.expressions.{SymId.SymId, SymbolType.{SymbolType, TheVariants.{Bool as IsBool, Hex, Int, Str, Tristate, Undefined}}, Tri.{TheVariants.{M, N, Y}, Tri}}}
use Rattle.kc_language.specs.Values as v
use Rattle.kc_values.specs.PartsOfValues as v_parts
use Rattle.kc_values.specs.PartsOfValues.{text_equation}

user_or_uncounted : (user : Option GivenValue) (vis other : Tri) → (is_some user && not (v.is_n vis)) ≡ false → v.user_or user vis other ≡ v.user_or None vis other
user_or_uncounted None vis other e = refl
user_or_uncounted (Some (GivenText t)) vis other e = refl
user_or_uncounted (Some (Member m)) vis other e = refl
user_or_uncounted (Some (GivenTruth u)) N other e = refl
user_or_uncounted (Some (GivenTruth u)) M other e = absurd (true≢false e)
user_or_uncounted (Some (GivenTruth u)) Y other e = absurd (true≢false e)

visible_text_uncounted : (user : Option GivenValue) (vis : Tri) → (is_some user && not (v.is_n vis)) ≡ false → v.visible_text user vis ≡ v.visible_text None vis
visible_text_uncounted None vis e = refl
visible_text_uncounted (Some (GivenTruth u)) vis e = refl
visible_text_uncounted (Some (Member m)) vis e = refl
visible_text_uncounted (Some (GivenText t)) N e = refl
visible_text_uncounted (Some (GivenText t)) M e = absurd (true≢false e)
visible_text_uncounted (Some (GivenText t)) Y e = absurd (true≢false e)

module _ (tree : TreeFacts) (known : SymId → SymbolValue) where
  truth_uncounted : (f : SymbolFacts) (user : Option GivenValue) → (is_some user && not (v.is_n (v.visibility tree known f))) ≡ false →
      v.truth_equation tree known f user ≡ v.truth_equation tree known f None
  truth_uncounted f user e =
      ap (λ b. v.upgraded tree known f.symbol_type (greater b (v.selected_to tree known f)))
      (user_or_uncounted user (v.visibility tree known f) (v_parts.implied (v.default_value tree known (v.first_met tree known f.defaults)) (v.implied_to tree known f) (v.direct tree known f)) e)

  text_uncounted : (f : SymbolFacts) (user : Option GivenValue) → (is_some user && not (v.is_n (v.visibility tree known f))) ≡ false →
      text_equation tree known f user ≡ text_equation tree known f None
  text_uncounted f user e =
      ap (λ t. unwrap_or t (v.default_text known (v.first_met tree known f.defaults))) (visible_text_uncounted user (v.visibility tree known f) e)

  number_uncounted : (f : SymbolFacts) (user : Option GivenValue) → (is_some user && not (v.is_n (v.visibility tree known f))) ≡ false →
      v.number_equation tree known f user ≡ v.number_equation tree known f None
  number_uncounted f user e =
      ap (λ t. unwrap_or (if_within_range f.symbol_type (v.active_range tree known f) t) (clamped f.symbol_type (v.active_range tree known f) (v.default_text known (v.first_met tree known f.defaults))))
      (visible_text_uncounted user (v.visibility tree known f) e)

  -- the equation of a symbol outside a choice gives the same without it
  pub uncounted : (s : SymId) (f : SymbolFacts) (symbol_type : SymbolType) (user : Option GivenValue) → (is_some user && not (v.is_n (v.visibility tree known f))) ≡ false →
      v.by_type tree known s f symbol_type user ≡ v.by_type tree known s f symbol_type None
  uncounted s f Undefined user e = refl
  uncounted s f IsBool user e = ap Truth (truth_uncounted f user e)
  uncounted s f Tristate user e = ap Truth (truth_uncounted f user e)
  uncounted s f Str user e = ap (TextValue Str) (text_uncounted f user e)
  uncounted s f Int user e = ap (TextValue Int) (number_uncounted f user e)
  uncounted s f Hex user e = ap (TextValue Hex) (number_uncounted f user e)
