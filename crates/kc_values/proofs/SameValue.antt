-- Values of one symbol that are told the same are the same.
use Rattle.std.proofs.{Common.{List, None, Option, Some, [], ap, refl, sym, true, ℕ, ◌∷◌, ◌≡◌}, lemmas.Bool.{and_from, eq-eqb, true≢false}}
use Rattle.std.specs.{Cmp.Lexicographic.{pointwise, same_text}, Prelude.nat_eq}
use Rattle.kc_language.specs.{Expressions.{SymbolValue, TextValue, Truth}, Symbols.{SymbolFacts, TreeFacts}, Values.{GivenValue, same_tri}, declared.expressions.{SymId.SymId, SymbolType.{SymbolType, TheVariants.{Bool as IsBool, Hex, Int, Str, Tristate, Undefined}}, Tri.{TheVariants.{M, N, Y}, Tri}}}
use Rattle.kc_language.specs.Values as v
use Rattle.kc_values.specs.PartsOfValues.{by_choice, same_value}

pub same_tri-true : (t u : Tri) → same_tri t u ≡ true → t ≡ u
same_tri-true N N e = refl
same_tri-true M M e = refl
same_tri-true Y Y e = refl
same_tri-true N M e = absurd (true≢false (sym e))
same_tri-true N Y e = absurd (true≢false (sym e))
same_tri-true M N e = absurd (true≢false (sym e))
same_tri-true M Y e = absurd (true≢false (sym e))
same_tri-true Y N e = absurd (true≢false (sym e))
same_tri-true Y M e = absurd (true≢false (sym e))

same_tri_itself : (t : Tri) → same_tri t t ≡ true
same_tri_itself N = refl
same_tri_itself M = refl
same_tri_itself Y = refl

pub same_text_itself : (t : List ℕ) → pointwise nat_eq t t ≡ true
same_text_itself [] = refl
same_text_itself (b ∷ t) = and_from (nat_eq b b) (pointwise nat_eq t t) (eq-eqb b b refl) (same_text_itself t)

pub same_value_itself : (x : SymbolValue) → same_value x x ≡ true
same_value_itself (Truth t) = same_tri_itself t
same_value_itself (TextValue k t) = same_text_itself t

same_truth : (t u : Tri) → same_value (Truth t) (Truth u) ≡ true → Truth t ≡ Truth u
same_truth t u e = ap Truth (same_tri-true t u e)

same_written : (k : SymbolType) (t u : List ℕ) → same_value (TextValue k t) (TextValue k u) ≡ true → TextValue k t ≡ TextValue k u
same_written k t u e = ap (TextValue k) (same_text t u (sym e))

module _ (tree : TreeFacts) (known : SymId → SymbolValue) where
  same_by_type : (s : SymId) (f : SymbolFacts) (symbol_type : SymbolType) (user other : Option GivenValue) →
      same_value (v.by_type tree known s f symbol_type user) (v.by_type tree known s f symbol_type other) ≡ true → v.by_type tree known s f symbol_type user ≡ v.by_type tree known s f symbol_type other
  same_by_type s f Undefined user other e = refl
  same_by_type s f IsBool user other e = same_truth _ _ e
  same_by_type s f Tristate user other e = same_truth _ _ e
  same_by_type s f Str user other e = same_written Str _ _ e
  same_by_type s f Int user other e = same_written Int _ _ e
  same_by_type s f Hex user other e = same_written Hex _ _ e

  same_by_choice : (s : SymId) (f : SymbolFacts) (c : Option ℕ) (user other : Option GivenValue) →
      same_value (by_choice tree known s f c user) (by_choice tree known s f c other) ≡ true → by_choice tree known s f c user ≡ by_choice tree known s f c other
  same_by_choice s f None user other e = same_by_type s f f.symbol_type user other e
  same_by_choice s f (Some c) user other e = same_truth _ _ e

  -- an equation's values under two places
  pub same_again : (s : SymId) (f : Option SymbolFacts) (user other : Option GivenValue) → same_value (v.equation tree known s f user) (v.equation tree known s f other) ≡ true →
      v.equation tree known s f user ≡ v.equation tree known s f other
  same_again s None user other e = refl
  same_again s (Some f) user other e = same_by_choice s f f.choice user other e
