-- What a value is by the type of its symbol, and when its text fits a line.
use Rattle.std.proofs.{Common.{List, None, Option, Some, arith, inl, inr, length, not, refl, subst, sym, true, ℕ, ◌+◌, ◌≡◌, ◌⊎◌}, lemmas.Bool.{and_parts, leb-true, not-true}}
use Rattle.std.specs.{List.list_any, Prelude.{is_some, nat_le}}
use Rattle.kc_language.specs.{Expressions.{SymbolValue, TextValue, Truth}, Lines.is_line_feed, Symbols.{SymbolFacts, TreeFacts}, Text.{escape, hex_of, int_of}, Values.{GivenText, GivenValue, facts, given_of}, declared.expressions.{SymId.SymId, SymbolType.SymbolType}}
use Rattle.kc_language.specs.declared.expressions.SymbolType.TheVariants as symbol_type
use Rattle.kc_user.specs.Places.{allowed_by}
use Rattle.kc_values.specs.{Members.MembersAreBools, PartsOfValues.by_choice}
use Rattle.kc_language.specs.Values as v
use Rattle.kc_input.proofs.{LineLemmas.no_line_feed, SymbolLineLemmas.{FitsLine, IsOf}, TextBytes.{hex_bytes, int_bytes, number_no_lf, number_plain}}

module _ (tree : TreeFacts) (known : SymId → SymbolValue) (s : SymId) (f : SymbolFacts) where
  -- a symbol without a type, or a value of its type
  type_shape : (kd : SymbolType) (user : Option GivenValue) → (kd ≡ symbol_type.Undefined) ⊎ IsOf kd (v.by_type tree known s f kd user)
  type_shape symbol_type.Undefined user = inl refl
  type_shape symbol_type.Bool user = inr tt
  type_shape symbol_type.Tristate user = inr tt
  type_shape symbol_type.Str user = inr refl
  type_shape symbol_type.Int user = inr refl
  type_shape symbol_type.Hex user = inr refl

  choice_shape : (choice : Option ℕ) (user : Option GivenValue) → ((c : ℕ) → choice ≡ Some c → f.symbol_type ≡ symbol_type.Bool) → (f.symbol_type ≡ symbol_type.Undefined) ⊎ IsOf f.symbol_type (by_choice tree known s f choice user)
  choice_shape None user bools = type_shape f.symbol_type user
  choice_shape (Some c) user bools = inr (subst (λ k. IsOf k (by_choice tree known s f (Some c) user)) (sym (bools c refl)) tt)

  pub value_shape : (user : Option GivenValue) → facts tree s ≡ Some f → MembersAreBools tree → (f.symbol_type ≡ symbol_type.Undefined) ⊎ IsOf f.symbol_type (v.equation tree known s (facts tree s) user)
  value_shape user at bools = rw at (choice_shape f.choice user (λ c is. bools s f c at is))

-- an allowed text fits a line
text_fits : (kd l : SymbolType) (text : List ℕ) → IsOf kd (TextValue l text) → allowed_by kd (GivenText text) ≡ true → FitsLine (TextValue l text)
text_fits symbol_type.Undefined l text of ok = absurd of
text_fits symbol_type.Bool l text of ok = absurd of
text_fits symbol_type.Tristate l text of ok = absurd of
text_fits symbol_type.Str l text of ok =
    let (short, one) = and_parts (nat_le (length (escape text) + 2) 65000) (not (list_any is_line_feed text)) ok in
    let n = leb-true (length (escape text) + 2) 65000 short in
    subst (λ x. FitsLine (TextValue x text)) (sym of) (no_line_feed text (not-true _ one), omega arith)
text_fits symbol_type.Int l text of ok =
    let (short, number) = and_parts (nat_le (length text) 65000) (is_some (int_of text)) ok in
    let bytes = int_bytes text number in
    subst (λ x. FitsLine (TextValue x text)) (sym of) (number_no_lf text bytes, leb-true (length text) 65000 short, number_plain text bytes)
text_fits symbol_type.Hex l text of ok =
    let (short, number) = and_parts (nat_le (length text) 65000) (is_some (hex_of text)) ok in
    let bytes = hex_bytes text number in
    subst (λ x. FitsLine (TextValue x text)) (sym of) (number_no_lf text bytes, leb-true (length text) 65000 short, number_plain text bytes)

pub allowed_fits : (kd : SymbolType) (known : SymbolValue) → IsOf kd known → allowed_by kd (given_of known) ≡ true → FitsLine known
allowed_fits kd (Truth t) of ok = tt
allowed_fits kd (TextValue l text) of ok = text_fits kd l text of ok
