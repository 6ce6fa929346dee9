-- What an int or hex symbol can't be, by its ranges.
use Rattle.std.proofs.{Common.{Bool, List, None, Option, Some, [], ap, arith, cond, false, inl, inr, length, negsuc, not, pos, refl, subst, sym, true, unwrap_or, ℕ, ◌∙◌, ◌∷◌, ◌≡◌}, lemmas.Bool.{false_from_ne_true, ltb-true, true≢false}}
use Rattle.std.specs.{Cmp.Lexicographic.same_text, Prelude.{bytes_eq, int_lt, nat_lt, option_and_then, option_map, ℤ, ◌==◌, ◌&&◌, ◌||◌, ◌⊎◌}}
use Rattle.kc_language.specs.{Expressions.{SymbolValue, TextValue, Truth, text}, Symbols.{Bounds, Guarded, SymbolFacts, TreeFacts, is_symbol_of}, Values.{GivenText, GivenValue, active_range, by_type, choice_at, clamped, conditions, default_text, equation, first_met, given_of, if_within_range, is_within_range, number_equation, number_or_zero, number_text, same_given, selected, upgrade, upgraded, visibility, visible_text}, declared.{expressions.{SymId.SymId, SymbolType.{SymbolType, TheVariants.{Hex, Int}}, Tri.{TheVariants.{N, Y}, Tri}}, values.Interval.Interval}}
use Rattle.kc_possible.specs.Ranges.{interval, is_outside}
use Rattle.kc_possible.proofs.{NumberReads.read-again, TextLemmas.hidden-text}

-- ---- Numbers
not-below-itself : (m : ℕ) → nat_lt m m ≡ false
not-below-itself m = false_from_ne_true (nat_lt m m) (λ e. let below = ltb-true m m e in omega (arith, below))

not-less : (n : ℤ) → int_lt n n ≡ false
not-less (pos m) = not-below-itself m
not-less (negsuc m) = not-below-itself m

-- below both or above both, so neither inside nor a bound
nowhere : (a b c d : Bool) → ((a && b) || (c && d)) ≡ true → ((a ≡ false) × (d ≡ false)) ⊎ (((a ≡ false) × (c ≡ false)) ⊎ ((b ≡ false) × (d ≡ false))) → ⊥
nowhere a b c d h (inl e) = true≢false (sym h ∙ ap (λ x. (x && b) || (c && d)) (e.0) ∙ ap (λ x. c && x) (e.1) ∙ and-false c)
  where
    and-false : (x : Bool) → (x && false) ≡ false
    and-false true = refl
    and-false false = refl
nowhere a b c d h (inr (inl e)) = true≢false (sym h ∙ ap (λ x. (x && b) || (c && d)) (e.0) ∙ ap (λ x. x && d) (e.1))
nowhere a b c d h (inr (inr e)) = true≢false (sym h ∙ ap (λ x. (a && x) || (c && d)) (e.0) ∙ ap (λ x. (a && false) || (c && x)) (e.1) ∙ both-false a c)
  where
    both-false : (x y : Bool) → ((x && false) || (y && false)) ≡ false
    both-false true true = refl
    both-false true false = refl
    both-false false true = refl
    both-false false false = refl

not-inside : (a d : Bool) → (not a && not d) ≡ true → (a ≡ false) × (d ≡ false)
not-inside false false e = (refl, refl)
not-inside false true e = absurd cc
not-inside true d e = absurd cc

-- ---- What a range leaves
-- inside the range, or the text of a bound
abbrev IsLeft : SymbolType → Interval → List ℕ → Type 0
IsLeft k r v = (is_within_range k (Some r) v ≡ true) ⊎ ((v ≡ number_text k r.low) ⊎ (v ≡ number_text k r.high))

left-clamped : (k : SymbolType) (r : Interval) (v : List ℕ) → IsLeft k r (clamped k (Some r) v)
left-clamped k r v = by (int_lt (number_or_zero k v) r.low) (int_lt r.high (number_or_zero k v)) refl refl
  where
    by : (a b : Bool) → int_lt (number_or_zero k v) r.low ≡ a → int_lt r.high (number_or_zero k v) ≡ b → IsLeft k r (cond a (number_text k r.low) (cond b (number_text k r.high) v))
    by true b e h = inr (inl refl)
    by false true e h = inr (inr refl)
    by false false e h = inl (ap (λ x. not x && not (int_lt r.high (number_or_zero k v))) e ∙ ap not h)

left-given : (k : SymbolType) (r : Interval) (o : Option (List ℕ)) (v : List ℕ) → IsLeft k r v → IsLeft k r (unwrap_or (if_within_range k (Some r) o) v)
left-given k r None v h = h
left-given k r (Some t) v h = by (is_within_range k (Some r) t) refl
  where
    by : (b : Bool) → is_within_range k (Some r) t ≡ b → IsLeft k r (unwrap_or (cond b (Some t) None) v)
    by true e = inl e
    by false e = h

-- such a text is another than one outside
module _ (k : SymbolType) (low high : List ℕ) (t : List ℕ) where
  abbrev range : Interval
  range = record { low = number_or_zero k low; high = number_or_zero k high }

  not-left : is_outside k t range ≡ true → IsLeft k range t → ⊥
  not-left h (inl e) =
      nowhere (int_lt (number_or_zero k t) range.low) (int_lt (number_or_zero k t) range.high) (int_lt range.low (number_or_zero k t)) (int_lt range.high (number_or_zero k t)) h
      (inl (not-inside (int_lt (number_or_zero k t) range.low) (int_lt range.high (number_or_zero k t)) e))
  not-left h (inr (inl e)) =
      let same = ap (number_or_zero k) e ∙ read-again k low in
      nowhere (int_lt (number_or_zero k t) range.low) (int_lt (number_or_zero k t) range.high) (int_lt range.low (number_or_zero k t)) (int_lt range.high (number_or_zero k t)) h
      (inr (inl (ap (λ n. int_lt n range.low) same ∙ not-less range.low, ap (int_lt range.low) same ∙ not-less range.low)))
  not-left h (inr (inr e)) =
      let same = ap (number_or_zero k) e ∙ read-again k high in
      nowhere (int_lt (number_or_zero k t) range.low) (int_lt (number_or_zero k t) range.high) (int_lt range.low (number_or_zero k t)) (int_lt range.high (number_or_zero k t)) h
      (inr (inr (ap (λ n. int_lt n range.high) same ∙ not-less range.high, ap (int_lt range.high) same ∙ not-less range.high)))

  pub differs : (v : List ℕ) → is_outside k t range ≡ true → IsLeft k range v → bytes_eq t v ≡ false
  differs v h here = false_from_ne_true (bytes_eq t v) (λ e. not-left h (subst (IsLeft k range) (sym (same_text t v (sym e))) here))

-- ---- The equation
module _ (tree : TreeFacts) (known : SymId → SymbolValue) (s : SymId) (f : SymbolFacts) (user : Option GivenValue) (t : List ℕ) where
  abbrev value_with : Option Interval → Option (List ℕ) → List ℕ → List ℕ
  value_with range given default = unwrap_or (if_within_range f.symbol_type range given) (clamped f.symbol_type range default)

  abbrev given : Option (List ℕ)
  given = visible_text user (visibility tree known f)

  abbrev default : List ℕ
  default = default_text known (first_met tree known f.defaults)

  abbrev number : SymbolType → Bounds → Interval
  number k b = interval known k b

  pub record IsHeld : Type 0 where
    pub outside : (g : Guarded Bounds) → first_met tree known f.ranges ≡ Some g → is_outside f.symbol_type t (interval known f.symbol_type g.what) ≡ true
    pub silent : first_met tree known f.ranges ≡ None → (conditions tree known f.prompts ≡ N) × (first_met tree known f.defaults ≡ None)

  module _ (some : bytes_eq t [] ≡ false) (never : conditions tree known f.prompts ≡ N → visibility tree known f ≡ N) (held : IsHeld) where
    by-range : (o : Option (Guarded Bounds)) → first_met tree known f.ranges ≡ o → bytes_eq t (value_with (option_map (λ r. number f.symbol_type r.what) o) given default) ≡ false
    by-range None e =
        let quiet = held.silent e in
        ap (λ v. bytes_eq t (value_with None v default)) (hidden-text user (visibility tree known f) (never (quiet.0)))
        ∙ ap (λ d. bytes_eq t (default_text known d)) (quiet.1)
        ∙ some
    by-range (Some g) e =
        let k = f.symbol_type in
        let r = interval known k g.what in
        differs k (text known g.what.low) (text known g.what.high) t (value_with (Some r) given default) (held.outside g e) (left-given k r given (clamped k (Some r) default) (left-clamped k r default))

    pub number-differs : bytes_eq t (number_equation tree known f user) ≡ false
    number-differs = by-range (first_met tree known f.ranges) refl

  -- ---- By type
  abbrev of-choice : Option ℕ → Option GivenValue → SymbolValue
  of-choice c = elim c [ None ↦ by_type tree known s f f.symbol_type | Some k ↦ λ g. Truth (cond (is_symbol_of s (selected tree known (choice_at tree k) g)) Y N) ]

  outside-choice : (c : Option ℕ) → same_given (GivenText t) (given_of (by_type tree known s f f.symbol_type user)) ≡ false → same_given (GivenText t) (given_of (of-choice c user)) ≡ false
  outside-choice None h = h
  outside-choice (Some k) h = refl

  hidden : f.symbol_type ≡ Int ⊎ f.symbol_type ≡ Hex → conditions tree known f.prompts ≡ N → visibility tree known f ≡ N
  hidden (inl type) none = ap (λ k. upgraded tree known k (conditions tree known f.prompts)) type ∙ ap upgrade none
  hidden (inr type) none = ap (λ k. upgraded tree known k (conditions tree known f.prompts)) type ∙ ap upgrade none

  same-equation : f.symbol_type ≡ Int ⊎ f.symbol_type ≡ Hex → same_given (GivenText t) (given_of (by_type tree known s f f.symbol_type user)) ≡ bytes_eq t (number_equation tree known f user)
  same-equation (inl type) = ap (λ k. same_given (GivenText t) (given_of (by_type tree known s f k user))) type
  same-equation (inr type) = ap (λ k. same_given (GivenText t) (given_of (by_type tree known s f k user))) type

  pub never-text : f.symbol_type ≡ Int ⊎ f.symbol_type ≡ Hex → bytes_eq t [] ≡ false → IsHeld → same_given (GivenText t) (given_of (equation tree known s (Some f) user)) ≡ false
  never-text type some held = outside-choice f.choice (same-equation type ∙ number-differs some (hidden type) held)

pub not-empty : (t : List ℕ) → (length t == 0) ≡ false → bytes_eq t [] ≡ false
not-empty [] e = absurd cc
not-empty (x ∷ xs) e = refl
