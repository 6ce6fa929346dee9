-- What the values of a solution are: each is what its equation gives, so it has the type of its symbol.
use Rattle.std.proofs.{Common.{Bool, None, Option, Some, ap, cond, false, if◌then◌else◌, refl, subst, sym, true, ℕ, ◌≡◌}, lemmas.{Bool.{ltb-false, ltb-true}, Option.slice_get_past}}
use Rattle.std.specs.Prelude.{nat_lt}
use Rattle.kc_language.specs.{Expressions.{SymbolValue, TextValue, Truth}, Symbols.{SymbolFacts, TreeFacts, is_symbol_of}, Values.{GivenValue, UserPlace, by_type, choice_at, equation, facts, known_from, name, name_count, selected, type_in, user_place}, declared.expressions.{SymId.SymId, SymbolType.{SymbolType, TheVariants.{Bool as IsBool, Hex, Int, Str, Tristate, Undefined}}, Tri.TheVariants.{N, Y}}}
use Rattle.kc_entries.specs.WellFormed.{IsWellFormed}
use Rattle.kc_values.proofs.ModeLaws.{members_are_bools}
use Rattle.kc_possible.specs.Possible.{AreTyped, IsTyped, IsUnder}

module _ (tree : TreeFacts) (user : UserPlace → Option GivenValue) (V : ℕ → SymbolValue) (under : IsUnder tree user V) where
  pub known-solved : (s : SymId) → known_from tree V s ≡ equation tree (known_from tree V) s (facts tree s) (user (user_place tree s.0))
  known-solved s = by (nat_lt s.0 (name_count tree)) refl
    where
      by : (b : Bool) → nat_lt s.0 (name_count tree) ≡ b → cond b (V s.0) (TextValue Undefined (name tree s)) ≡ equation tree (known_from tree V) s (facts tree s) (user (user_place tree s.0))
      by true e = under s.0 (ltb-true s.0 (name_count tree) e)
      by false e = sym (ap (λ f. equation tree (known_from tree V) s f (user (user_place tree s.0))) (slice_get_past tree.symbols s.0 (ltb-false s.0 (name_count tree) e)))

module _ (tree : TreeFacts) (known : SymId → SymbolValue) (s : SymId) (u : Option GivenValue) where
  typed-by : (f : SymbolFacts) (k : SymbolType) → IsTyped k (name tree s) (by_type tree known s f k u)
  typed-by f Undefined = refl
  typed-by f IsBool = (_, refl)
  typed-by f Tristate = (_, refl)
  typed-by f Str = (_, refl)
  typed-by f Int = (_, refl)
  typed-by f Hex = (_, refl)

  abbrev of-choice : SymbolFacts → Option ℕ → Option GivenValue → SymbolValue
  of-choice f c = elim c [ None ↦ by_type tree known s f f.symbol_type | Some k ↦ λ g. Truth (if is_symbol_of s (selected tree known (choice_at tree k) g) then Y else N) ]

  typed-choice : (f : SymbolFacts) (c : Option ℕ) → f.choice ≡ c → ((k : ℕ) → f.choice ≡ Some k → f.symbol_type ≡ IsBool) → IsTyped f.symbol_type (name tree s) (of-choice f c u)
  typed-choice f None e h = typed-by f f.symbol_type
  typed-choice f (Some k) e h = subst (λ x. IsTyped x (name tree s) (Truth (if is_symbol_of s (selected tree known (choice_at tree k) u) then Y else N))) (sym (h k e)) (_, refl)

  pub typed-equation : (formed : IsWellFormed tree) (o : Option SymbolFacts) → facts tree s ≡ o → IsTyped (type_in o) (name tree s) (equation tree known s o u)
  typed-equation formed None e = refl
  typed-equation formed (Some f) e = typed-choice f f.choice refl (λ k h. members_are_bools tree formed s f k e h)

-- the values of a solution have their types
pub solution-typed : (tree : TreeFacts) → IsWellFormed tree → (user : UserPlace → Option GivenValue) (V : ℕ → SymbolValue) → IsUnder tree user V → AreTyped tree (known_from tree V)
solution-typed tree formed user V under s =
    subst (λ v. IsTyped (type_in (facts tree s)) (name tree s) v) (sym (known-solved tree user V under s))
    (typed-equation tree (known_from tree V) s (user (user_place tree s.0)) formed (facts tree s) refl)
