-- The value of a symbol that differs is one that a user may give.
use Rattle.std.proofs.{Common.{Bool, List, None, Option, Some, ap, cond, false, inl, inr, not, refl, sym, true, unwrap_or, ℕ, ◌∙◌, ◌≡◌, ◌⊎◌}, lemmas.Bool.{and_parts, true≢false}}
use Rattle.kc_language.specs.{Expressions.{SymbolValue, TextValue, Truth, symbol}, Symbols.{SymbolFacts, TreeFacts, is_symbol_of}, Values.{ChoicePlace, GivenText, GivenTruth, GivenValue, Member, SymbolPlace, clamped, default_selection, facts, given_of, if_within_range, is_within_range, known_from, rhs}, declared.{expressions.{SymId.SymId, SymbolType.{SymbolType, TheVariants.{Bool as IsBool, Hex, Int, Str, Tristate, Undefined}}, Tri.{TheVariants.{M, N, Y}, Tri}}, values.Interval.Interval}}
use Rattle.kc_language.specs.Values as v
use Rattle.kc_user.specs.Places.{allowed, allowed_by, allowed_for, allowed_text, allowed_truth}
use Rattle.kc_values.specs.PartsOfValues as sol
use Rattle.kc_values.specs.{Laws.DifferingAreAllowed, Members.MembersAreBools, PartsOfValues.by_choice}
use Rattle.kc_values.proofs.{FixedLines.{Sel, differs-member, member_now, other_value, place_cases}, IdempotentLines.{is_truth_type, upgrade_allowed}, ModeLaws.members_are_bools}

-- a text is the user's, which was allowed, or is the one without it
text_allowed : (q : List ℕ → Bool) (u : Option GivenValue) (vis : Tri) (d : List ℕ) → ((t : List ℕ) → u ≡ Some (GivenText t) → q t ≡ true) →
    (unwrap_or (v.visible_text u vis) d ≡ d) ⊎ (q (unwrap_or (v.visible_text u vis) d) ≡ true)
text_allowed q None vis d given = inl refl
text_allowed q (Some (GivenTruth t)) vis d given = inl refl
text_allowed q (Some (Member m)) vis d given = inl refl
text_allowed q (Some (GivenText t)) N d given = inl refl
text_allowed q (Some (GivenText t)) M d given = inr (given t refl)
text_allowed q (Some (GivenText t)) Y d given = inr (given t refl)

inside_allowed : (q : List ℕ → Bool) (b : Bool) (t d : List ℕ) → q t ≡ true → (unwrap_or (cond b (Some t) None) d ≡ d) ⊎ (q (unwrap_or (cond b (Some t) None) d) ≡ true)
inside_allowed q true t d e = inr e
inside_allowed q false t d e = inl refl

number_allowed : (symbol_type : SymbolType) (range : Option Interval) (q : List ℕ → Bool) (u : Option GivenValue) (vis : Tri) (d : List ℕ) → ((t : List ℕ) → u ≡ Some (GivenText t) → q t ≡ true) →
    (unwrap_or (if_within_range symbol_type range (v.visible_text u vis)) d ≡ d) ⊎ (q (unwrap_or (if_within_range symbol_type range (v.visible_text u vis)) d) ≡ true)
number_allowed symbol_type range q None vis d given = inl refl
number_allowed symbol_type range q (Some (GivenTruth t)) vis d given = inl refl
number_allowed symbol_type range q (Some (Member m)) vis d given = inl refl
number_allowed symbol_type range q (Some (GivenText t)) N d given = inl refl
number_allowed symbol_type range q (Some (GivenText t)) M d given = inside_allowed q (is_within_range symbol_type range t) t d (given t refl)
number_allowed symbol_type range q (Some (GivenText t)) Y d given = inside_allowed q (is_within_range symbol_type range t) t d (given t refl)

module _ (tree : TreeFacts) (k : SymId → SymbolValue) where
  upgraded_allowed : (symbol_type : SymbolType) (t : Tri) → is_truth_type tree k symbol_type ≡ true → allowed_truth symbol_type (v.upgraded tree k symbol_type t) ≡ true
  upgraded_allowed IsBool t e = upgrade_allowed tree k t
  upgraded_allowed Tristate t e = refl
  upgraded_allowed Undefined t e = absurd (true≢false (sym e))
  upgraded_allowed Str t e = absurd (true≢false (sym e))
  upgraded_allowed Int t e = absurd (true≢false (sym e))
  upgraded_allowed Hex t e = absurd (true≢false (sym e))

  -- the same as without the user's, or allowed
  abbrev AllowedOr : (Option GivenValue → SymbolValue) → (GivenValue → Bool) → Option GivenValue → Type 0
  AllowedOr f allow u = (f u ≡ f None) ⊎ (allow (given_of (f u)) ≡ true)

  module _ (s : SymId) (f : SymbolFacts) (u : Option GivenValue) (given : (g : GivenValue) → u ≡ Some g → allowed_by f.symbol_type g ≡ true) where
    abbrev Default : List ℕ
    Default = v.default_text k (v.first_met tree k f.defaults)

    type_allowed : (symbol_type : SymbolType) → symbol_type ≡ f.symbol_type → AllowedOr (v.by_type tree k s f symbol_type) (allowed_by f.symbol_type) u
    type_allowed Undefined h = inl refl
    type_allowed IsBool h = inr (upgraded_allowed f.symbol_type _ (ap (is_truth_type tree k) (sym h)))
    type_allowed Tristate h = inr (upgraded_allowed f.symbol_type _ (ap (is_truth_type tree k) (sym h)))
    type_allowed Str h =
        elim (text_allowed (allowed_text f.symbol_type) u (v.visibility tree k f) Default (λ t e. given (GivenText t) e)) [
          | inl e ↦ inl (ap (TextValue Str) e)
          | inr e ↦ inr e
        ]
    type_allowed Int h =
        elim (number_allowed f.symbol_type (v.active_range tree k f) (allowed_text f.symbol_type) u (v.visibility tree k f) (clamped f.symbol_type (v.active_range tree k f) Default) (λ t e. given (GivenText t) e)) [
          | inl e ↦ inl (ap (TextValue Int) e)
          | inr e ↦ inr e
        ]
    type_allowed Hex h =
        elim (number_allowed f.symbol_type (v.active_range tree k f) (allowed_text f.symbol_type) u (v.visibility tree k f) (clamped f.symbol_type (v.active_range tree k f) Default) (λ t e. given (GivenText t) e)) [
          | inl e ↦ inl (ap (TextValue Hex) e)
          | inr e ↦ inr e
        ]

    choice_allowed : (i : ℕ) (c : Option ℕ) → sol.user_place_by i c ≡ SymbolPlace i → AllowedOr (by_choice tree k s f c) (allowed_by f.symbol_type) u
    choice_allowed i None e = type_allowed f.symbol_type refl
    choice_allowed i (Some c) e = cc

  facts_allowed : (s : SymId) (i : ℕ) (f : Option SymbolFacts) (u : Option GivenValue) → sol.user_place_of i f ≡ SymbolPlace i → ((g : GivenValue) → u ≡ Some g → allowed_for f g ≡ true) →
      AllowedOr (v.equation tree k s f) (allowed_for f) u
  facts_allowed s i None u e given = inl refl
  facts_allowed s i (Some f) u e given = choice_allowed s f u given i f.choice e

-- a member that is y
member_choice : (f : SymbolFacts) (i c : ℕ) (o : Option ℕ) → sol.user_place_by i o ≡ ChoicePlace c → o ≡ Some c
member_choice f i c None e = cc
member_choice f i c (Some d) e = let h : d ≡ c = cc in ap Some h

member_allowed : (tree : TreeFacts) (i c : ℕ) (f : Option SymbolFacts) → facts tree (symbol i) ≡ f → MembersAreBools tree → sol.user_place_of i f ≡ ChoicePlace c → allowed_for f (GivenTruth Y) ≡ true
member_allowed tree i c None at bools e = cc
member_allowed tree i c (Some f) at bools e =
    ap (λ symbol_type. allowed_truth symbol_type Y) (bools (symbol i) f c at (member_choice f i c f.choice e))

pub differing_allowed : DifferingAreAllowed
differing_allowed tree user V i l formed given solves t =
    let bools = members_are_bools tree formed in
    let K = known_from tree V in
    elim (place_cases tree i) [
      | inl at ↦
          let e = solves i l ∙ ap (λ p. rhs tree i (user p) V) at in
          elim (facts_allowed tree K (symbol i) i (facts tree (symbol i)) (user (SymbolPlace i)) at (given i)) [
            | inl same ↦ absurd (other_value tree user V solves i at t (e ∙ same))
            | inr ok ↦ ap (λ x. allowed tree (symbol i) (given_of x)) e ∙ ok
          ]
      | inr d ↦
          let c = d.0 in
          let both = and_parts (is_symbol_of (symbol i) (Sel tree user V solves c)) (not (is_symbol_of (symbol i) (default_selection tree V c)))
          (sym (differs-member tree user V solves i c d.1) ∙ t) in
          let now = member_now tree user V solves i c l d.1 ∙ ap (λ b. Truth (cond b Y N)) both.0 in
          ap (λ x. allowed tree (symbol i) (given_of x)) now ∙ member_allowed tree i c (facts tree (symbol i)) refl bools d.1
    ]
