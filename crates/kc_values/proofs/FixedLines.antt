-- The line of a value that differs gives the value again.
use Rattle.std.proofs.{Common.{Bool, List, None, Option, Some, ap, cond, false, inl, inr, not, refl, sym, true, unwrap_or, ℕ, ◌&&◌, ◌<◌, ◌∙◌, ◌≡◌, ◌⊎◌}, lemmas.Bool.{and_parts, both_ways, cases_Bool, not-false, not-true, true≢false}}
use Rattle.std.specs.Prelude.{option_map}
use Rattle.kc_language.specs.{Expressions.{SymbolValue, TextValue, Truth, greater, symbol}, Symbols.{ChoiceFacts, SymbolFacts, TreeFacts, is_symbol_of}, Values.{ChoicePlace, GivenText, GivenTruth, GivenValue, Member, Solves, SymbolPlace, UserPlace, choice_at, clamped, default_selection, differs, differs_at, equations, facts, given_of, if_within_range, is_n, is_within_range, known_from, name_count, rhs, selection, user_place}, declared.{expressions.{SymId.SymId, SymbolType.{SymbolType, TheVariants.{Bool as IsBool, Hex, Int, Str, Tristate, Undefined}}, Tri.{TheVariants.{N, Y}, Tri}}, values.Interval.Interval}}
use Rattle.kc_values.specs.{GivenLines.{TellsDiffering, minimal_line}, Members.MembersAreTheirs, PartsOfValues.{by_choice, same_value, text_equation}}
use Rattle.kc_order.specs.Minimal.{KeepsWhatDiffers}
use Rattle.kc_language.specs.Values as v
use Rattle.kc_values.specs.PartsOfValues as v_parts
use Rattle.kc_values.proofs.{Same.{same_symbol-true, same_symbol_itself}, SameValue.{same_again, same_value_itself}, Selection.{none_selected, selected_again, selected_member}, TruthLines.{line_fixed, upgrade_if}}

-- the equation with e's own line is e, or the user's place does not matter
abbrev Again : (Option GivenValue → SymbolValue) → SymbolValue → Type 0
Again f e = (e ≡ f None) ⊎ (f (Some (given_of e)) ≡ e)

module _ (tree : TreeFacts) (k : SymId → SymbolValue) where
  truth_again : (b : Bool) (vis selected_to o : Tri) (user : Option GivenValue) →
      Again (λ u. Truth (upgrade_if b (greater (v.user_or u (upgrade_if b vis) o) (upgrade_if b selected_to))))
      (Truth (upgrade_if b (greater (v.user_or user (upgrade_if b vis) o) (upgrade_if b selected_to))))
  truth_again b vis selected_to o None = inl refl
  truth_again b vis selected_to o (Some (GivenText t)) = inl refl
  truth_again b vis selected_to o (Some (Member m)) = inl refl
  truth_again b vis selected_to o (Some (GivenTruth u)) =
      elim (line_fixed b u vis selected_to o) [
        | inl e ↦ inl (ap Truth e)
        | inr e ↦ inr (ap Truth e)
      ]

  module _ (f : SymbolFacts) where
    truth_by_type : (symbol_type : SymbolType) (user : Option GivenValue) (vis selected_to o : Tri) →
        Again (λ u. Truth (v.upgraded tree k symbol_type (greater (v.user_or u (v.upgraded tree k symbol_type vis) o) (v.upgraded tree k symbol_type selected_to))))
        (Truth (v.upgraded tree k symbol_type (greater (v.user_or user (v.upgraded tree k symbol_type vis) o) (v.upgraded tree k symbol_type selected_to))))
    truth_by_type Undefined user vis selected_to o = truth_again true vis selected_to o user
    truth_by_type IsBool user vis selected_to o = truth_again true vis selected_to o user
    truth_by_type Tristate user vis selected_to o = truth_again (is_n (v.modules_value k tree.modules)) vis selected_to o user
    truth_by_type Str user vis selected_to o = truth_again true vis selected_to o user
    truth_by_type Int user vis selected_to o = truth_again true vis selected_to o user
    truth_by_type Hex user vis selected_to o = truth_again true vis selected_to o user

    truth_fixed : (user : Option GivenValue) → Again (λ u. Truth (v.truth_equation tree k f u)) (Truth (v.truth_equation tree k f user))
    truth_fixed user =
        truth_by_type f.symbol_type user (v.conditions tree k f.prompts) (v.selector_values tree k f.selectors)
        (v_parts.implied (v.default_value tree k (v.first_met tree k f.defaults)) (v.implied_to tree k f) (v.direct tree k f))

    text_again : (b : Bool) (t d : List ℕ) → (unwrap_or (cond b None (Some t)) d ≡ d) ⊎ (unwrap_or (cond b None (Some (unwrap_or (cond b None (Some t)) d))) d ≡ unwrap_or (cond b None (Some t)) d)
    text_again true t d = inl refl
    text_again false t d = inr refl

    text_fixed : (user : Option GivenValue) → Again (λ u. TextValue Str (text_equation tree k f u)) (TextValue Str (text_equation tree k f user))
    text_fixed None = inl refl
    text_fixed (Some (GivenTruth t)) = inl refl
    text_fixed (Some (Member m)) = inl refl
    text_fixed (Some (GivenText t)) =
        elim (text_again (is_n (v.visibility tree k f)) t (v.default_text k (v.first_met tree k f.defaults))) [
          | inl e ↦ inl (ap (TextValue Str) e)
          | inr e ↦ inr (ap (TextValue Str) e)
        ]

    number_again : (b : Bool) (symbol_type : SymbolType) (range : Option Interval) (t d : List ℕ) →
        (unwrap_or (if_within_range symbol_type range (cond b None (Some t))) d ≡ d) ⊎
        (unwrap_or (if_within_range symbol_type range (cond b None (Some (unwrap_or (if_within_range symbol_type range (cond b None (Some t))) d)))) d ≡ unwrap_or (if_within_range symbol_type range (cond b None (Some t))) d)
    number_again true symbol_type range t d = inl refl
    number_again false symbol_type range t d =
        let F = λ (x : List ℕ). unwrap_or (if_within_range symbol_type range (Some x)) d in
        elim (cases_Bool (is_within_range symbol_type range t)) [
          | inl y ↦ let e : F t ≡ t = ap (λ c. unwrap_or (cond c (Some t) None) d) y in inr (ap F e)
          | inr n ↦ inl (ap (λ c. unwrap_or (cond c (Some t) None) d) n)
        ]

    number_fixed : (symbol_type : SymbolType) (user : Option GivenValue) → Again (λ u. TextValue symbol_type (v.number_equation tree k f u)) (TextValue symbol_type (v.number_equation tree k f user))
    number_fixed symbol_type None = inl refl
    number_fixed symbol_type (Some (GivenTruth t)) = inl refl
    number_fixed symbol_type (Some (Member m)) = inl refl
    number_fixed symbol_type (Some (GivenText t)) =
        let range = v.active_range tree k f in
        elim (number_again (is_n (v.visibility tree k f)) f.symbol_type range t (clamped f.symbol_type range (v.default_text k (v.first_met tree k f.defaults)))) [
          | inl e ↦ inl (ap (TextValue symbol_type) e)
          | inr e ↦ inr (ap (TextValue symbol_type) e)
        ]

    fixed_by_type : (s : SymId) (symbol_type : SymbolType) (user : Option GivenValue) → Again (v.by_type tree k s f symbol_type) (v.by_type tree k s f symbol_type user)
    fixed_by_type s Undefined user = inl refl
    fixed_by_type s IsBool user = truth_fixed user
    fixed_by_type s Tristate user = truth_fixed user
    fixed_by_type s Str user = text_fixed user
    fixed_by_type s Int user = number_fixed Int user
    fixed_by_type s Hex user = number_fixed Hex user

    fixed_by_choice : (s : SymId) (i : ℕ) (c : Option ℕ) (user : Option GivenValue) → v_parts.user_place_by i c ≡ SymbolPlace i → Again (by_choice tree k s f c) (by_choice tree k s f c user)
    fixed_by_choice s i None user e = fixed_by_type s f.symbol_type user
    fixed_by_choice s i (Some c) user e = cc

  fixed_facts : (s : SymId) (i : ℕ) (f : Option SymbolFacts) (user : Option GivenValue) → v_parts.user_place_of i f ≡ SymbolPlace i → Again (v.equation tree k s f) (v.equation tree k s f user)
  fixed_facts s i None user e = inl refl
  fixed_facts s i (Some f) user e = fixed_by_choice f s i f.choice user e

  -- what solves is what its own line gives, or the user's place does not matter
  pub fixed_at : (i : ℕ) (user : Option GivenValue) (x : SymbolValue) → user_place tree i ≡ SymbolPlace i → x ≡ v.equation tree k (symbol i) (facts tree (symbol i)) user →
      (x ≡ v.equation tree k (symbol i) (facts tree (symbol i)) None) ⊎ (x ≡ v.equation tree k (symbol i) (facts tree (symbol i)) (Some (given_of x)))
  fixed_at i user x at e =
      elim (fixed_facts (symbol i) i (facts tree (symbol i)) user at) [
        | inl a ↦ inl (e ∙ a)
        | inr b ↦ inr (e ∙ sym b ∙ ap (λ y. v.equation tree k (symbol i) (facts tree (symbol i)) (Some (given_of y))) (sym e))
      ]

  -- the equation of a member
  member_choice : (s : SymId) (f : SymbolFacts) (i c : ℕ) (user : Option GivenValue) (o : Option ℕ) → v_parts.user_place_by i o ≡ ChoicePlace c →
      by_choice tree k s f o user ≡ Truth (cond (is_symbol_of s (v.selected tree k (choice_at tree c) user)) Y N)
  member_choice s f i c user None e = cc
  member_choice s f i c user (Some d) e = let h : d ≡ c = cc in ap (λ n. Truth (cond (is_symbol_of s (v.selected tree k (choice_at tree n) user)) Y N)) h

  member_facts : (s : SymId) (f : Option SymbolFacts) (i c : ℕ) (user : Option GivenValue) → v_parts.user_place_of i f ≡ ChoicePlace c →
      v.equation tree k s f user ≡ Truth (cond (is_symbol_of s (v.selected tree k (choice_at tree c) user)) Y N)
  member_facts s None i c user e = cc
  member_facts s (Some f) i c user e = member_choice s f i c user f.choice e

  pub member_at : (i c : ℕ) (user : Option GivenValue) → user_place tree i ≡ ChoicePlace c →
      v.equation tree k (symbol i) (facts tree (symbol i)) user ≡ Truth (cond (is_symbol_of (symbol i) (v.selected tree k (choice_at tree c) user)) Y N)
  member_at i c user e = member_facts (symbol i) (facts tree (symbol i)) i c user e

  reselected_to : (o : Option ChoiceFacts) (u : Option GivenValue) (r : Option SymId) → v.selected tree k o u ≡ r → v.selected tree k o (option_map Member r) ≡ r
  reselected_to o u None e = none_selected tree k o u e
  reselected_to o u (Some m) e = selected_again tree k o u m e

  pub reselected : (o : Option ChoiceFacts) (u : Option GivenValue) → v.selected tree k o (option_map Member (v.selected tree k o u)) ≡ v.selected tree k o u
  reselected o u = reselected_to o u (v.selected tree k o u) refl

place_cases_by : (i : ℕ) (c : Option ℕ) → (v_parts.user_place_by i c ≡ SymbolPlace i) ⊎ ((d : ℕ) × (v_parts.user_place_by i c ≡ ChoicePlace d))
place_cases_by i None = inl refl
place_cases_by i (Some c) = inr (c, refl)

place_cases_of : (i : ℕ) (f : Option SymbolFacts) → (v_parts.user_place_of i f ≡ SymbolPlace i) ⊎ ((d : ℕ) × (v_parts.user_place_of i f ≡ ChoicePlace d))
place_cases_of i None = inl refl
place_cases_of i (Some f) = place_cases_by i f.choice

pub place_cases : (tree : TreeFacts) (i : ℕ) → (user_place tree i ≡ SymbolPlace i) ⊎ ((d : ℕ) × (user_place tree i ≡ ChoicePlace d))
place_cases tree i = place_cases_of i (facts tree (symbol i))

pub place_of_member : (tree : TreeFacts) (m : SymId) (g : SymbolFacts) (c : ℕ) → facts tree m ≡ Some g → g.choice ≡ Some c → user_place tree m.0 ≡ ChoicePlace c
place_of_member tree m g c e h = ap (v_parts.user_place_of m.0) e ∙ ap (v_parts.user_place_by m.0) h

pub names_itself : (m : SymId) → is_symbol_of m (Some m) ≡ true
names_itself m = same_symbol_itself m

pub named : (r : Option SymId) (m : SymId) → is_symbol_of m r ≡ true → r ≡ Some m
named None m e = absurd (true≢false (sym e))
named (Some x) m e = ap Some (sym (same_symbol-true m x e))

-- a symbol's own place is no other's
own_place : (p : UserPlace) (j i : ℕ) → (p ≡ SymbolPlace j) ⊎ ((d : ℕ) × (p ≡ ChoicePlace d)) → p ≡ SymbolPlace i → j ≡ i
own_place p j i (inl e) at = let h : SymbolPlace j ≡ SymbolPlace i = sym e ∙ at in cc
own_place p j i (inr e) at = let h : ChoicePlace e.0 ≡ SymbolPlace i = sym e.1 ∙ at in cc

-- Under places and values that solve.
module _ (tree : TreeFacts) (user : UserPlace → Option GivenValue) (V : ℕ → SymbolValue) (solves : Solves (name_count tree) (equations tree user) V) where
  abbrev pub Sel : ℕ → Option SymId
  Sel c = selection tree user V c

  -- the value of a member
  pub member_now : (i c : ℕ) → i < name_count tree → user_place tree i ≡ ChoicePlace c → V i ≡ Truth (cond (is_symbol_of (symbol i) (Sel c)) Y N)
  member_now i c l d =
      solves i l
      ∙ member_at tree (known_from tree V) i c (user (user_place tree i)) d
      ∙ ap (λ p. Truth (cond (is_symbol_of (symbol i) (v.selected tree (known_from tree V) (choice_at tree c) (user p))) Y N)) d

  -- the value of a member under its own line
  member_line : (i c : ℕ) → user_place tree i ≡ ChoicePlace c → rhs tree i (minimal_line tree user V (user_place tree i)) V ≡ Truth (cond (is_symbol_of (symbol i) (Sel c)) Y N)
  member_line i c d =
      ap (λ p. rhs tree i (minimal_line tree user V p) V) d
      ∙ member_at tree (known_from tree V) i c (minimal_line tree user V (ChoicePlace c)) d
      ∙ ap (λ r. Truth (cond (is_symbol_of (symbol i) r) Y N)) (reselected tree (known_from tree V) (choice_at tree c) (user (ChoicePlace c)))

  -- a symbol outside a choice differs where its value is another
  differs-own : (i : ℕ) → user_place tree i ≡ SymbolPlace i → differs tree user V i ≡ not (same_value (V i) (rhs tree i None V))
  differs-own i at = ap (differs_at tree user V i) at

  pub differs-member : (i c : ℕ) → user_place tree i ≡ ChoicePlace c → differs tree user V i ≡ (is_symbol_of (symbol i) (Sel c) && not (is_symbol_of (symbol i) (default_selection tree V c)))
  differs-member i c d = ap (differs_at tree user V i) d

  pub other_value : (i : ℕ) → user_place tree i ≡ SymbolPlace i → differs tree user V i ≡ true → V i ≡ rhs tree i None V → ⊥
  other_value i at d e =
      both_ways (same_value (V i) (rhs tree i None V)) (not-true (same_value (V i) (rhs tree i None V)) (sym (differs-own i at) ∙ d))
      (sym (ap (same_value (V i)) e) ∙ same_value_itself (V i))

  pub same_without : (i : ℕ) → i < name_count tree → user_place tree i ≡ SymbolPlace i → differs tree user V i ≡ false → V i ≡ rhs tree i None V
  same_without i l at d =
      let e = solves i l in
      let same = not-false (same_value (V i) (rhs tree i None V)) (sym (differs-own i at) ∙ d) in
      let told : same_value (rhs tree i (user (user_place tree i)) V) (rhs tree i None V) ≡ true = sym (ap (λ x. same_value x (rhs tree i None V)) e) ∙ same in
      e ∙ same_again tree (known_from tree V) (symbol i) (facts tree (symbol i)) (user (user_place tree i)) None told

  -- a value that its own line gives again
  pub line_fixed_at : (i : ℕ) → i < name_count tree → differs tree user V i ≡ true → V i ≡ rhs tree i (minimal_line tree user V (user_place tree i)) V
  line_fixed_at i l t =
      elim (place_cases tree i) [
        | inl at ↦
            elim (fixed_at tree (known_from tree V) i (user (user_place tree i)) (V i) at (solves i l)) [
              | inl a ↦ absurd (other_value i at t a)
              | inr b ↦ b ∙ ap (λ p. rhs tree i (minimal_line tree user V p) V) (sym at)
            ]
        | inr d ↦ member_now i d.0 l d.1 ∙ sym (member_line i d.0 d.1)
      ]

  -- a member of a choice of which no member differs
  member_same : (i c : ℕ) (r d : Option SymId) → (r ≡ None → d ≡ None) → ((m : SymId) → r ≡ Some m → is_symbol_of m d ≡ true) → is_symbol_of (symbol i) r ≡ is_symbol_of (symbol i) d
  member_same i c None d none some = ap (λ x. is_symbol_of (symbol i) x) (sym (none refl))
  member_same i c (Some m) d none some = ap (λ x. is_symbol_of (symbol i) x) (sym (named d m (some m refl)))

  module _ (theirs : MembersAreTheirs tree) (keep : UserPlace → Bool) (tells : TellsDiffering tree user V keep) where
    unkept : (i : ℕ) → i < name_count tree → keep (user_place tree i) ≡ false → differs tree user V i ≡ false
    unkept i l f =
        elim (cases_Bool (differs tree user V i)) [
          | inl t ↦ absurd (both_ways (keep (user_place tree i)) f (tells.every i l t))
          | inr n ↦ n
        ]

    -- the selected member does not differ where the choice is not kept, so it is the default one
    default_too : (c : ℕ) (m : SymId) → keep (ChoicePlace c) ≡ false → Sel c ≡ Some m → is_symbol_of m (default_selection tree V c) ≡ true
    default_too c m f e =
        let at = selected_member tree (known_from tree V) (choice_at tree c) (user (ChoicePlace c)) m e in
        let mine = theirs c at.0 m at.1 at.2 in
        let place = place_of_member tree m mine.1.0 c mine.1.1 mine.1.2 in
        let same = sym (differs-member m.0 c place) ∙ unkept m.0 mine.0 (ap keep place ∙ f) in
        let sel : is_symbol_of m (Sel c) ≡ true = ap (λ r. is_symbol_of m r) e ∙ names_itself m in
        not-false (is_symbol_of m (default_selection tree V c))
        (sym (ap (λ b. b && not (is_symbol_of m (default_selection tree V c))) sel) ∙ same)

    same_for_member : (i c : ℕ) → i < name_count tree → user_place tree i ≡ ChoicePlace c → keep (ChoicePlace c) ≡ false → V i ≡ rhs tree i None V
    same_for_member i c l d f =
        member_now i c l d
        ∙ ap (λ b. Truth (cond b Y N)) (member_same i c (Sel c) (default_selection tree V c)
        (none_selected tree (known_from tree V) (choice_at tree c) (user (ChoicePlace c))) (λ m e. default_too c m f e))
        ∙ sym (member_at tree (known_from tree V) i c None d)

    -- a member that differs is y, and without the user's n
    member_other : (i c : ℕ) → i < name_count tree → user_place tree i ≡ ChoicePlace c → differs tree user V i ≡ true → V i ≡ rhs tree i None V → ⊥
    member_other i c l d t e =
        let both = and_parts (is_symbol_of (symbol i) (Sel c)) (not (is_symbol_of (symbol i) (default_selection tree V c))) (sym (differs-member i c d) ∙ t) in
        let now = member_now i c l d ∙ ap (λ b. Truth (cond b Y N)) both.0 in
        let then_ = member_at tree (known_from tree V) i c None d ∙ ap (λ b. Truth (cond b Y N)) (not-true (is_symbol_of (symbol i) (default_selection tree V c)) both.1) in
        let z : Truth Y ≡ Truth N = sym now ∙ e ∙ then_ in
        cc

    pub is_minimal : KeepsWhatDiffers (name_count tree) (user_place tree) (rhs tree) (minimal_line tree user V) V keep
    is_minimal = record {
      given = λ i l t. fixed_of i l t;
      same = λ i l f.
          elim (place_cases tree i) [
            | inl at ↦ same_without i l at (unkept i l f)
            | inr d ↦ same_for_member i d.0 l d.1 (ap keep (sym d.1) ∙ f)
          ];
      other = λ p on.
          let o = tells.differing p on in
          let i = o.0 in (
            i,
            o.1,
            o.2,
            elim (place_cases tree i) [
              | inl at ↦ λ e. other_value i at o.3 e
              | inr d ↦ λ e. member_other i d.0 o.1 d.1 o.3 e
            ],
          );
    }
      where
        fixed_of : (i : ℕ) → i < name_count tree → keep (user_place tree i) ≡ true → V i ≡ rhs tree i (minimal_line tree user V (user_place tree i)) V
        fixed_of i l t =
            elim (place_cases tree i) [
              | inl at ↦
                  let o = tells.differing (user_place tree i) t in
                  let same : o.0 ≡ i = own_place (user_place tree o.0) o.0 i (place_cases tree o.0) (o.2 ∙ at) in
                  line_fixed_at i l (sym (ap (differs tree user V) same) ∙ o.3)
              | inr d ↦ member_now i d.0 l d.1 ∙ sym (member_line i d.0 d.1)
            ]
