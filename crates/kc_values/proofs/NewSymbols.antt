-- A symbol is new exactly if its question can be answered.
use Rattle.std.proofs.{Common.{Bool, List, None, Option, Some, [], ap, arith, cond, false, inl, inr, is_some, length, not, pos, refl, subst, suc, sym, true, ℕ, ◌&&◌, ◌||◌, ◌↔◌, ◌∙◌, ◌∷◌, ◌≡◌, ◌≢◌}, lemmas.{Bool.{and_from, and_parts, cases_Bool, false_from_ne_true, lt-ltb, not_from_false, or_cases, or_left, or_right, true_from_ne_false, true≢false}, List.Folds.list_any_at}}
use Rattle.std.specs.{Cmp.Lexicographic.same_text, List.{Contains, find, list_any}, Option.{option_and_then, option_map_or, option_or}, Prelude.{bytes_eq, int_lt, nat_le, option_map, unwrap_or, ℤ}}
use Rattle.kc_language.specs.{Expressions.{SymbolValue, TextValue, Truth, same_symbol, symbol, text, truth_of_value}, Symbols.{Bounds, ChoiceFacts, Guarded, SymbolFacts, TreeFacts, is_symbol_of}, Text.longest_value, Values.{ChoicePlace, GivenText, GivenTruth, GivenValue, Member, SymbolPlace, UserPlace, given_of, is_n, known_from, name_count, number_or_zero, same_given, same_tri}, declared.{expressions.{SymId.SymId, SymbolType.{SymbolType, TheVariants.{Bool as IsBool, Hex, Int, Str, Tristate, Undefined}}, Tri.{TheVariants.{M, N, Y}, Tri}}, values.Interval.Interval}}
use Rattle.kc_language.specs.Values as v
use Rattle.kc_values.specs.{Laws.NewCanBeAnswered, PartsOfValues.{by_choice, chosen_member, text_equation, unselected, user_place_by, user_place_of, visible_facts}}
use Rattle.kc_user.specs.Places.{allowed_by, allowed_for, allowed_text, members_of}
use Rattle.kc_values.proofs.{NumberTexts.{TwoTexts, hex_texts_of, int_texts}, Same.{same_symbol-true, same_symbol_itself}, SameValue.same_text_itself, Selection.in_list}

-- ---- booleans and texts

is_false : (b : Bool) → not b ≡ true → b ≡ false
is_false false e = refl
is_false true e = absurd (true≢false (sym e))

-- one of two texts that differ is not this one
other_text : (a b w : List ℕ) → bytes_eq b a ≡ false → bytes_eq a w ≡ true → bytes_eq b w ≡ false
other_text a b w differ same = ap (bytes_eq b) (sym (same_text a w (sym same))) ∙ differ

upgraded_n : (tree : TreeFacts) (known : SymId → SymbolValue) (k : SymbolType) (t : Tri) → is_n (v.upgraded tree known k t) ≡ is_n t
upgraded_n tree known k t = by_type k
  where
    plain : (t : Tri) → is_n (v.upgrade t) ≡ is_n t
    plain N = refl
    plain M = refl
    plain Y = refl

    by_modules : (b : Bool) → is_n (cond b (v.upgrade t) t) ≡ is_n t
    by_modules true = plain t
    by_modules false = refl

    by_type : (k : SymbolType) → is_n (v.upgraded tree known k t) ≡ is_n t
    by_type Undefined = plain t
    by_type IsBool = plain t
    by_type Tristate = by_modules (is_n (v.modules_value known tree.modules))
    by_type Str = plain t
    by_type Int = plain t
    by_type Hex = plain t

-- ---- a symbol outside a choice

module _ (tree : TreeFacts) (known : SymId → SymbolValue) (s : SymId) (f : SymbolFacts) where
  -- an answer that gives another value than `w`
  abbrev Answer : SymbolType → SymbolValue → Type 0
  Answer kind w = (given : GivenValue) × (allowed_by kind given ≡ true) × (same_given (given_of (v.by_type tree known s f kind (Some given))) (given_of w) ≡ false)

  -- truth values
  abbrev truth : Tri → Tri
  truth t = v.truth_equation tree known f (Some (GivenTruth t))

  changed : (t w : Tri) → known s ≡ Truth w → v.changes tree known s f t ≡ true → same_tri (truth t) w ≡ false
  changed t w is e = is_false (same_tri (truth t) w) (subst (λ (x : SymbolValue). not (same_tri (truth t) (truth_of_value x)) ≡ true) is e)

  changes_by : (t w : Tri) → known s ≡ Truth w → same_tri (truth t) w ≡ false → v.changes tree known s f t ≡ true
  changes_by t w is e = ap (λ (x : SymbolValue). not (same_tri (truth t) (truth_of_value x))) is ∙ ap not e

  bool_answer : (w : Tri) → known s ≡ Truth w → v.can_change tree known s f IsBool ≡ true → Answer IsBool (Truth w)
  bool_answer w is e =
      elim (or_cases (v.changes tree known s f Y) (v.changes tree known s f N) e) [
        | inl y ↦ (GivenTruth Y, refl, changed Y w is y)
        | inr n ↦ (GivenTruth N, refl, changed N w is n)
      ]

  bool_changes : (w : Tri) → known s ≡ Truth w → Answer IsBool (Truth w) → v.can_change tree known s f IsBool ≡ true
  bool_changes w is (GivenTruth Y, allowed, e) = or_left (v.changes tree known s f Y) (v.changes tree known s f N) (changes_by Y w is e)
  bool_changes w is (GivenTruth N, allowed, e) = or_right (v.changes tree known s f Y) (v.changes tree known s f N) (changes_by N w is e)
  bool_changes w is (GivenTruth M, allowed, e) = absurd (true≢false (sym allowed))
  bool_changes w is (GivenText t, allowed, e) = absurd (true≢false (sym allowed))
  bool_changes w is (Member m, allowed, e) = absurd (true≢false (sym allowed))

  tristate_answer : (w : Tri) → known s ≡ Truth w → v.can_change tree known s f Tristate ≡ true → Answer Tristate (Truth w)
  tristate_answer w is e =
      elim (or_cases (v.changes tree known s f Y) (v.changes tree known s f M || v.changes tree known s f N) e) [
        | inl y ↦ (GivenTruth Y, refl, changed Y w is y)
        | inr rest ↦ elim (or_cases (v.changes tree known s f M) (v.changes tree known s f N) rest) [
          | inl m ↦ (GivenTruth M, refl, changed M w is m)
          | inr n ↦ (GivenTruth N, refl, changed N w is n)
        ]
      ]

  tristate_changes : (w : Tri) → known s ≡ Truth w → Answer Tristate (Truth w) → v.can_change tree known s f Tristate ≡ true
  tristate_changes w is (GivenTruth Y, allowed, e) = or_left (v.changes tree known s f Y) (v.changes tree known s f M || v.changes tree known s f N) (changes_by Y w is e)
  tristate_changes w is (GivenTruth M, allowed, e) =
      or_right (v.changes tree known s f Y) (v.changes tree known s f M || v.changes tree known s f N)
      (or_left (v.changes tree known s f M) (v.changes tree known s f N) (changes_by M w is e))
  tristate_changes w is (GivenTruth N, allowed, e) =
      or_right (v.changes tree known s f Y) (v.changes tree known s f M || v.changes tree known s f N)
      (or_right (v.changes tree known s f M) (v.changes tree known s f N) (changes_by N w is e))
  tristate_changes w is (GivenText t, allowed, e) = absurd (true≢false (sym allowed))
  tristate_changes w is (Member m, allowed, e) = absurd (true≢false (sym allowed))

  -- texts
  seen : (t : List ℕ) → v.is_visible tree known f ≡ true → v.visible_text (Some (GivenText t)) (v.visibility tree known f) ≡ Some t
  seen t e = ap (λ b. cond b None (Some t)) (is_false (is_n (v.visibility tree known f)) e)

  unseen : (t : List ℕ) → is_n (v.visibility tree known f) ≡ true → v.visible_text (Some (GivenText t)) (v.visibility tree known f) ≡ None
  unseen t e = ap (λ b. cond b None (Some t)) e

  -- what differs from what the equation gives without it
  text_given : (t : List ℕ) → v.is_visible tree known f ≡ true → text_equation tree known f (Some (GivenText t)) ≡ t
  text_given t e = ap (λ o. unwrap_or o (v.default_text known (v.first_met tree known f.defaults))) (seen t e)

  string_answer : (w : List ℕ) → v.can_change tree known s f Str ≡ true → Answer Str (TextValue Str w)
  string_answer [] e = (GivenText (120 ∷ []), refl, ap (λ t. bytes_eq t []) (text_given (120 ∷ []) e))
  string_answer (b ∷ w) e = (GivenText [], refl, ap (λ t. bytes_eq t (b ∷ w)) (text_given [] e))

  string_changes : (w : List ℕ) → w ≡ text_equation tree known f None → Answer Str (TextValue Str w) → v.can_change tree known s f Str ≡ true
  string_changes w is (GivenText t, allowed, e) =
      elim (cases_Bool (is_n (v.visibility tree known f))) [
        | inl hidden ↦
            let same : text_equation tree known f (Some (GivenText t)) ≡ w =
            ap (λ o. unwrap_or o (v.default_text known (v.first_met tree known f.defaults))) (unseen t hidden) ∙ sym is in
            absurd (true≢false (sym (same_text_itself w) ∙ ap (λ x. bytes_eq x w) (sym same) ∙ e))
        | inr visible ↦ not_from_false (is_n (v.visibility tree known f)) visible
      ]
  string_changes w is (GivenTruth t, allowed, e) = absurd (true≢false (sym allowed))
  string_changes w is (Member m, allowed, e) = absurd (true≢false (sym allowed))

-- ---- numbers

not_below_itself : (n : ℤ) → int_lt n n ≡ false
not_below_itself n = grind arith

crossed : (n low high : ℤ) → int_lt high low ≡ true → (not (int_lt n low) && not (int_lt high n)) ≡ false
crossed n low high e = grind arith

abbrev has_room : Option Interval → Bool
has_room range = option_map_or (λ (r : Interval). not (int_lt r.high r.low)) range true

-- two texts inside a range, which a line can give
record Inside (kind : SymbolType) (range : Option Interval) : Type 0 where
  pub one : List ℕ
  pub other : List ℕ
  pub one_allowed : allowed_text kind one ≡ true
  pub other_allowed : allowed_text kind other ≡ true
  pub one_inside : v.is_within_range kind range one ≡ true
  pub other_inside : v.is_within_range kind range other ≡ true
  pub differ : bytes_eq other one ≡ false

module _ (known : SymId → SymbolValue) (kind : SymbolType) (numbers : (t : List ℕ) → TwoTexts kind (number_or_zero kind t))
    (allows : (t : List ℕ) → nat_le (length t) longest_value ≡ true → is_some (v.number_as kind t) ≡ true → allowed_text kind t ≡ true) where
  abbrev bounds : Option (Guarded Bounds) → Option Interval
  bounds o = option_map (λ r. record { low = number_or_zero kind (text known r.what.low); high = number_or_zero kind (text known r.what.high) }) o

  inside : (o : Option (Guarded Bounds)) → has_room (bounds o) ≡ true → Inside kind (bounds o)
  inside None room =
      let two = numbers [] in
      record {
        one = two.one;
        other = two.other;
        one_allowed = allows two.one two.one_short (ap is_some two.one_is);
        other_allowed = allows two.other two.other_short (ap is_some two.other_is);
        one_inside = refl;
        other_inside = refl;
        differ = two.differ;
      }
  inside (Some r) room =
      let two = numbers (text known r.what.low) in
      let low = number_or_zero kind (text known r.what.low) in
      let high = number_or_zero kind (text known r.what.high) in
      let is_inside : (n : ℤ) → n ≡ low → (not (int_lt n low) && not (int_lt high n)) ≡ true =
      λ n is. ap (λ m. not (int_lt m low) && not (int_lt high m)) is
      ∙ and_from (not (int_lt low low)) (not (int_lt high low)) (not_from_false (int_lt low low) (not_below_itself low)) room in
      record {
        one = two.one;
        other = two.other;
        one_allowed = allows two.one two.one_short (ap is_some two.one_is);
        other_allowed = allows two.other two.other_short (ap is_some two.other_is);
        one_inside = is_inside (number_or_zero kind two.one) (ap (λ o. unwrap_or o (pos 0)) two.one_is);
        other_inside = is_inside (number_or_zero kind two.other) (ap (λ o. unwrap_or o (pos 0)) two.other_is);
        differ = two.differ;
      }

  outside : (o : Option (Guarded Bounds)) (t : List ℕ) → has_room (bounds o) ≡ false → v.is_within_range kind (bounds o) t ≡ false
  outside None t room = absurd (true≢false room)
  outside (Some r) t room =
      let low = number_or_zero kind (text known r.what.low) in
      let high = number_or_zero kind (text known r.what.high) in
      crossed (number_or_zero kind t) low high (true_from_ne_false (int_lt high low) (λ e. true≢false (sym (not_from_false (int_lt high low) e) ∙ room)))

module _ (tree : TreeFacts) (known : SymId → SymbolValue) (f : SymbolFacts) (numbers : (t : List ℕ) → TwoTexts f.symbol_type (number_or_zero f.symbol_type t))
    (allows : (t : List ℕ) → nat_le (length t) longest_value ≡ true → is_some (v.number_as f.symbol_type t) ≡ true → allowed_text f.symbol_type t ≡ true) where
  abbrev range : Option Interval
  range = v.active_range tree known f

  abbrev without : List ℕ
  without = v.clamped f.symbol_type range (v.default_text known (v.first_met tree known f.defaults))

  -- what counts of a text
  abbrev counted : Bool → List ℕ → List ℕ
  counted hidden t = unwrap_or (option_and_then (λ t. cond (v.is_within_range f.symbol_type range t) (Some t) None) (cond hidden None (Some t))) without

  number_given : (t : List ℕ) → v.is_visible tree known f ≡ true → v.is_within_range f.symbol_type range t ≡ true → v.number_equation tree known f (Some (GivenText t)) ≡ t
  number_given t visible is_inside =
      ap (λ b. counted b t) (is_false (is_n (v.visibility tree known f)) visible) ∙ ap (λ b. unwrap_or (cond b (Some t) None) without) is_inside

  number_hidden : (t : List ℕ) → is_n (v.visibility tree known f) ≡ true → v.number_equation tree known f (Some (GivenText t)) ≡ without
  number_hidden t hidden = ap (λ b. counted b t) hidden

  number_outside : (t : List ℕ) → is_n (v.visibility tree known f) ≡ false → v.is_within_range f.symbol_type range t ≡ false →
      v.number_equation tree known f (Some (GivenText t)) ≡ without
  number_outside t visible is_outside = ap (λ b. counted b t) visible ∙ ap (λ b. unwrap_or (cond b (Some t) None) without) is_outside

  -- a text that a line can give, and that gives another value
  abbrev NumberAnswer : List ℕ → Type 0
  NumberAnswer w = (t : List ℕ) × (allowed_text f.symbol_type t ≡ true) × (bytes_eq (v.number_equation tree known f (Some (GivenText t))) w ≡ false)

  number_answer : (w : List ℕ) → (v.is_visible tree known f && has_room range) ≡ true → NumberAnswer w
  number_answer w e =
      let (visible, room) = and_parts (v.is_visible tree known f) (has_room range) e in
      let two = inside known f.symbol_type numbers allows (v.first_met tree known f.ranges) room in
      elim (cases_Bool (bytes_eq two.one w)) [
        | inl same ↦ (two.other, two.other_allowed, ap (λ t. bytes_eq t w) (number_given two.other visible two.other_inside) ∙ other_text two.one two.other w two.differ same)
        | inr differs ↦ (two.one, two.one_allowed, ap (λ t. bytes_eq t w) (number_given two.one visible two.one_inside) ∙ differs)
      ]

  number_changes : (w t : List ℕ) → w ≡ v.number_equation tree known f None → bytes_eq (v.number_equation tree known f (Some (GivenText t))) w ≡ false →
      (v.is_visible tree known f && has_room range) ≡ true
  number_changes w t is e =
      elim (cases_Bool (is_n (v.visibility tree known f))) [
        | inl hidden ↦ absurd (clash (number_hidden t hidden))
        | inr visible ↦ elim (cases_Bool (has_room range)) [
          | inl room ↦ and_from (v.is_visible tree known f) (has_room range) (not_from_false (is_n (v.visibility tree known f)) visible) room
          | inr none ↦ absurd (clash (number_outside t visible (outside known f.symbol_type numbers allows (v.first_met tree known f.ranges) t none)))
        ]
      ]
    where
      clash : v.number_equation tree known f (Some (GivenText t)) ≡ without → ⊥
      clash same = true≢false (sym (same_text_itself w) ∙ ap (λ x. bytes_eq x w) (is ∙ sym same) ∙ e)

module _ (tree : TreeFacts) (known : SymId → SymbolValue) (s : SymId) (f : SymbolFacts) where
  allows_int : (t : List ℕ) → nat_le (length t) longest_value ≡ true → is_some (v.number_as Int t) ≡ true → allowed_text Int t ≡ true
  allows_int t = and_from (nat_le (length t) longest_value) (is_some (v.number_as Int t))

  allows_hex : (t : List ℕ) → nat_le (length t) longest_value ≡ true → is_some (v.number_as Hex t) ≡ true → allowed_text Hex t ≡ true
  allows_hex t = and_from (nat_le (length t) longest_value) (is_some (v.number_as Hex t))

  abbrev Numbers : SymbolType → Type 0
  Numbers kind = ((t : List ℕ) → TwoTexts kind (number_or_zero kind t))
      × ((t : List ℕ) → nat_le (length t) longest_value ≡ true → is_some (v.number_as kind t) ≡ true → allowed_text kind t ≡ true)

  -- an answer is one exactly if the value can change
  own_answer : (kind : SymbolType) (w : SymbolValue) → f.symbol_type ≡ kind → known s ≡ w → w ≡ v.by_type tree known s f kind None →
      v.can_change tree known s f kind ≡ true ↔ Answer tree known s f kind w
  own_answer Undefined w typed is solved = (λ e. absurd (true≢false (sym e)), λ (given, allowed, e). absurd (true≢false (sym allowed ∙ none given)))
    where
      none : (given : GivenValue) → allowed_by Undefined given ≡ false
      none (GivenTruth t) = refl
      none (GivenText t) = refl
      none (Member m) = refl
  own_answer IsBool w typed is solved =
      let x = v.truth_equation tree known f None in (
        λ e. subst (Answer tree known s f IsBool) (sym solved) (bool_answer tree known s f x (is ∙ solved) e),
        λ a. bool_changes tree known s f x (is ∙ solved) (subst (Answer tree known s f IsBool) solved a),
      )
  own_answer Tristate w typed is solved =
      let x = v.truth_equation tree known f None in (
        λ e. subst (Answer tree known s f Tristate) (sym solved) (tristate_answer tree known s f x (is ∙ solved) e),
        λ a. tristate_changes tree known s f x (is ∙ solved) (subst (Answer tree known s f Tristate) solved a),
      )
  own_answer Str w typed is solved =
      let x = text_equation tree known f None in (
        λ e. subst (Answer tree known s f Str) (sym solved) (string_answer tree known s f x e),
        λ a. string_changes tree known s f x refl (subst (Answer tree known s f Str) solved a),
      )
  own_answer Int w typed is solved =
      let x = v.number_equation tree known f None in
      let (numbers, allows) = subst Numbers (sym typed) (int_texts, allows_int) in (
        λ e.
            let (t, allowed, differs) = number_answer tree known f numbers allows x e in
            subst (Answer tree known s f Int) (sym solved) (GivenText t, ap (λ k. allowed_text k t) (sym typed) ∙ allowed, differs),
        λ a. number_back (subst (Answer tree known s f Int) solved a),
      )
    where
      number_back : Answer tree known s f Int (TextValue Int (v.number_equation tree known f None)) → v.can_change tree known s f Int ≡ true
      number_back (GivenText t, allowed, e) =
          let (numbers, allows) = subst Numbers (sym typed) (int_texts, allows_int) in
          number_changes tree known f numbers allows (v.number_equation tree known f None) t refl e
      number_back (GivenTruth t, allowed, e) = absurd (true≢false (sym allowed))
      number_back (Member m, allowed, e) = absurd (true≢false (sym allowed))
  own_answer Hex w typed is solved =
      let x = v.number_equation tree known f None in
      let (numbers, allows) = subst Numbers (sym typed) (hex_texts_of, allows_hex) in (
        λ e.
            let (t, allowed, differs) = number_answer tree known f numbers allows x e in
            subst (Answer tree known s f Hex) (sym solved) (GivenText t, ap (λ k. allowed_text k t) (sym typed) ∙ allowed, differs),
        λ a. number_back (subst (Answer tree known s f Hex) solved a),
      )
    where
      number_back : Answer tree known s f Hex (TextValue Hex (v.number_equation tree known f None)) → v.can_change tree known s f Hex ≡ true
      number_back (GivenText t, allowed, e) =
          let (numbers, allows) = subst Numbers (sym typed) (hex_texts_of, allows_hex) in
          number_changes tree known f numbers allows (v.number_equation tree known f None) t refl e
      number_back (GivenTruth t, allowed, e) = absurd (true≢false (sym allowed))
      number_back (Member m, allowed, e) = absurd (true≢false (sym allowed))

-- ---- members

module _ (tree : TreeFacts) (known : SymId → SymbolValue) where
  abbrev is_other : SymId → SymId → Bool
  is_other s m = not (same_symbol s m) && v.visible tree known m

  -- some other member could be selected in place of the one that is
  abbrev Selectable : Option ChoiceFacts → Type 0
  Selectable c = (m : SymId) × Contains (members_of c) m × (v.selected tree known c (Some (Member m)) ≢ v.selected tree known c None)

  any_found : (p : SymId → Bool) (ms : List SymId) → list_any p ms ≡ true → (m : SymId) × Contains ms m × (p m ≡ true)
  any_found p [] e = absurd (true≢false (sym e))
  any_found p (x ∷ ms) e =
      elim (cases_Bool (p x)) [
        | inl t ↦ (x, (0, omega arith, refl), t)
        | inr fails ↦
            let (m, at, t) = any_found p ms (sym (ap (λ b. b || list_any p ms) fails) ∙ e) in
            (m, (suc at.0, omega (arith, at.1), at.2), t)
      ]

  none_first : (b : Bool) (x : SymId) (o : Option SymId) (rest : Bool) → (o ≡ None → rest ≡ false) → cond b (Some x) o ≡ None → (b || rest) ≡ false
  none_first true x o rest h e = absurd (let clash : Some x ≡ None = e in cc)
  none_first false x o rest h e = h e

  nobody : (ms : List SymId) → find (v.visible tree known) ms ≡ None → list_any (v.visible tree known) ms ≡ false
  nobody [] e = refl
  nobody (x ∷ ms) e = none_first (v.visible tree known x) x (find (v.visible tree known) ms) (list_any (v.visible tree known) ms) (nobody ms) e

  some_visible : (ms : List SymId) (m : SymId) → Contains ms m → v.visible tree known m ≡ true → find (v.visible tree known) ms ≡ None → ⊥
  some_visible ms m at seen none = true≢false (sym (list_any_at (v.visible tree known) ms at.0 m at.1 (ap (v.visible tree known) at.2 ∙ seen)) ∙ nobody ms none)

  module _ (c : ChoiceFacts) where
    abbrev mode_is_n : Bool
    mode_is_n = is_n (v.mode_of tree known (Some c))

    -- the user's member
    chosen : (m : SymId) → mode_is_n ≡ false → v.visible_member tree known c m ≡ true → v.selected tree known (Some c) (Some (Member m)) ≡ Some m
    chosen m mode seen =
        ap (λ b. cond b None (option_or (chosen_member tree known c (Some (Member m))) (unselected tree known c))) mode
        ∙ ap (λ b. option_or (cond b (Some m) None) (unselected tree known c)) seen

    passed_over : (m : SymId) → v.visible_member tree known c m ≡ false → v.selected tree known (Some c) (Some (Member m)) ≡ v.selected tree known (Some c) None
    passed_over m unseen = ap (λ b. cond mode_is_n None (option_or (cond b (Some m) None) (unselected tree known c))) unseen

    off : (user : Option GivenValue) → mode_is_n ≡ true → v.selected tree known (Some c) user ≡ None
    off user mode = ap (λ b. cond b None (option_or (chosen_member tree known c user) (unselected tree known c))) mode

    on : mode_is_n ≡ false → v.selected tree known (Some c) None ≡ unselected tree known c
    on mode = ap (λ b. cond b None (unselected tree known c)) mode

    -- by what is selected without the user
    other_by : (o : Option SymId) → v.selected tree known (Some c) None ≡ o →
        elim o [ None ↦ false | Some s ↦ list_any (is_other s) c.members ] ≡ true → Selectable (Some c)
    other_by None is e = absurd (true≢false (sym e))
    other_by (Some s) is e =
        let (m, at, t) = any_found (is_other s) c.members e in
        let (differs, seen) = and_parts (not (same_symbol s m)) (v.visible tree known m) t in
        let mode : mode_is_n ≡ false = false_from_ne_true mode_is_n (λ n. let clash : None ≡ Some s = sym (off None n) ∙ is in cc) in
        let now = chosen m mode (and_from (list_any (same_symbol m) c.members) (v.visible tree known m) (in_list m c.members at) seen) in (
          m,
          at,
          λ same.
              let both : Some m ≡ Some s = sym now ∙ same ∙ is in
              let is_s : m ≡ s = cc in
              true≢false (sym (not_from_false (same_symbol s m) (is_false (same_symbol s m) differs)) ∙ ap not (ap (same_symbol s) is_s ∙ same_symbol_itself s)),
        )

    has_other_member : Selectable (Some c) → v.has_other tree known c ≡ true
    has_other_member (m, at, differs) = by_default (v.selected tree known (Some c) None) refl
      where
        seen : v.visible_member tree known c m ≡ true
        seen = true_from_ne_false (v.visible_member tree known c m) (λ unseen. differs (passed_over m unseen))

        mode : mode_is_n ≡ false
        mode = false_from_ne_true mode_is_n (λ n. differs (off (Some (Member m)) n ∙ sym (off None n)))

        is_visible : v.visible tree known m ≡ true
        is_visible = (and_parts (list_any (same_symbol m) c.members) (v.visible tree known m) seen).1

        nothing : (a : Option SymId) → option_or a (find (v.visible tree known) c.members) ≡ None → ⊥
        nothing None e = some_visible c.members m at is_visible e
        nothing (Some x) e = cc

        by_default : (o : Option SymId) → v.selected tree known (Some c) None ≡ o → elim o [ None ↦ false | Some s ↦ list_any (is_other s) c.members ] ≡ true
        by_default None is = absurd (nothing _ (sym (on mode) ∙ is))
        by_default (Some s) is =
            let others : same_symbol s m ≡ false =
            false_from_ne_true (same_symbol s m) (λ same. differs (chosen m mode seen ∙ ap Some (sym (same_symbol-true s m same)) ∙ sym is)) in
            list_any_at (is_other s) c.members at.0 m at.1
            (ap (is_other s) at.2 ∙ and_from (not (same_symbol s m)) (v.visible tree known m) (not_from_false (same_symbol s m) others) is_visible)

  -- where no line chose what is selected, the user's member does not count
  unchosen_member : (c : ChoiceFacts) (m : SymId) → is_symbol_of m (v.selected tree known (Some c) (Some (Member m))) ≡ false →
      v.selected tree known (Some c) (Some (Member m)) ≡ v.selected tree known (Some c) None
  unchosen_member c m e = elim (cases_Bool (mode_is_n c)) [
    | inl mode ↦ off c (Some (Member m)) mode ∙ sym (off c None mode)
    | inr mode ↦ elim (cases_Bool (v.visible_member tree known c m)) [
      | inl seen ↦ absurd (true≢false (sym (ap (is_symbol_of m) (chosen c m mode seen) ∙ same_symbol_itself m) ∙ e))
      | inr unseen ↦ passed_over c m unseen
    ]
  ]

  unchosen : (c : Option ChoiceFacts) (user : Option GivenValue) → v.is_chosen (v.selected tree known c user) user ≡ false → v.selected tree known c user ≡ v.selected tree known c None
  unchosen None user e = refl
  unchosen (Some c) None e = refl
  unchosen (Some c) (Some (GivenTruth t)) e = refl
  unchosen (Some c) (Some (GivenText t)) e = refl
  unchosen (Some c) (Some (Member m)) e = unchosen_member c m e

  choice_answer : (c : Option ChoiceFacts) → option_map_or (v.has_other tree known) c false ≡ true ↔ Selectable c
  choice_answer None = (λ e. absurd (true≢false (sym e)), λ (m, at, differs). absurd (differs refl))
  choice_answer (Some c) = (other_by c (v.selected tree known (Some c) None) refl, has_other_member c)

-- ---- any symbol

module _ (tree : TreeFacts) (user : UserPlace → Option GivenValue) (V : ℕ → SymbolValue) (i : ℕ) where
  abbrev known : SymId → SymbolValue
  known = known_from tree V

  none_given : (o : Option GivenValue) → not (is_some o) ≡ true → o ≡ None
  none_given None e = refl
  none_given (Some g) e = absurd (true≢false (sym e))

  -- what makes a symbol new, by its facts and its choice
  abbrev At : SymbolFacts → Option ℕ → UserPlace → Type 0
  At f c (SymbolPlace j) =
      (given : GivenValue) × (allowed_by f.symbol_type given ≡ true) × (same_given (given_of (by_choice tree known (symbol i) f c (Some given))) (given_of (V i)) ≡ false)
  At f c (ChoicePlace k) =
      (visible_facts tree known (Some f) ≡ true) × (v.is_chosen (v.selected tree known (v.choice_at tree k) (user (ChoicePlace k))) (user (ChoicePlace k)) ≡ false) × (m : SymId) × Contains (members_of (v.choice_at tree k)) m
      × (v.selected tree known (v.choice_at tree k) (Some (Member m)) ≢ v.selected tree known (v.choice_at tree k) (user (ChoicePlace k)))

  by_its_choice : (f : SymbolFacts) (c : Option ℕ) → V i ≡ by_choice tree known (symbol i) f c (user (user_place_by i c)) → known (symbol i) ≡ V i →
      (not (is_some (user (SymbolPlace i))) && v.is_new_by tree known user (symbol i) f c) ≡ true ↔ (user (SymbolPlace i) ≡ None) × At f c (user_place_by i c)
  by_its_choice f None solved is =
      let own : user (SymbolPlace i) ≡ None → v.can_change tree known (symbol i) f f.symbol_type ≡ true ↔ Answer tree known (symbol i) f f.symbol_type (V i) =
      λ none. own_answer tree known (symbol i) f f.symbol_type (V i) refl is (solved ∙ ap (v.by_type tree known (symbol i) f f.symbol_type) none) in (
        λ e.
            let (free, change) = and_parts (not (is_some (user (SymbolPlace i)))) (v.can_change tree known (symbol i) f f.symbol_type) e in
            let none = none_given (user (SymbolPlace i)) free in
            (none, (own none).0 change),
        λ (none, answer). and_from (not (is_some (user (SymbolPlace i)))) (v.can_change tree known (symbol i) f f.symbol_type)
            (ap (λ o. not (is_some o)) none) ((own none).1 answer),
      )
  by_its_choice f (Some k) solved is =
      let c = v.choice_at tree k in
      let free = not (is_some (user (SymbolPlace i))) in
      let chose = v.is_chosen (v.selected tree known c (user (ChoicePlace k))) (user (ChoicePlace k)) in
      let empty = not chose in
      let others = option_map_or (v.has_other tree known) c false in
      let hidden = upgraded_n tree known f.symbol_type (v.conditions tree known f.prompts) in (
        λ e.
            let (is_free, rest) = and_parts free (v.is_visible tree known f && (empty && others)) e in
            let (seen, more) = and_parts (v.is_visible tree known f) (empty && others) rest in
            let (is_empty, other) = and_parts empty others more in
            let none = is_false chose is_empty in
            let same = unchosen tree known c (user (ChoicePlace k)) none in
            let (m, at, differs) = (choice_answer tree known c).0 other in (
              none_given (user (SymbolPlace i)) is_free,
              (sym (ap not hidden) ∙ seen, none, m, at, subst (λ s. v.selected tree known c (Some (Member m)) ≢ s) (sym same) differs),
            ),
        λ (none, (seen, place, m, at, differs)).
            let same = unchosen tree known c (user (ChoicePlace k)) place in
            and_from free (v.is_visible tree known f && (empty && others)) (ap (λ o. not (is_some o)) none)
            (and_from (v.is_visible tree known f) (empty && others) (ap not hidden ∙ seen)
            (and_from empty others (ap not place)
            ((choice_answer tree known c).1 (m, at, subst (λ s. v.selected tree known c (Some (Member m)) ≢ s) same differs)))),
      )

  -- the same by its facts
  abbrev AtFacts : Option SymbolFacts → UserPlace → Type 0
  AtFacts o (SymbolPlace j) =
      (given : GivenValue) × (allowed_for o given ≡ true) × (same_given (given_of (v.equation tree known (symbol i) o (Some given))) (given_of (V i)) ≡ false)
  AtFacts o (ChoicePlace k) =
      (visible_facts tree known o ≡ true) × (v.is_chosen (v.selected tree known (v.choice_at tree k) (user (ChoicePlace k))) (user (ChoicePlace k)) ≡ false) × (m : SymId) × Contains (members_of (v.choice_at tree k)) m
      × (v.selected tree known (v.choice_at tree k) (Some (Member m)) ≢ v.selected tree known (v.choice_at tree k) (user (ChoicePlace k)))

  by_its_facts : (o : Option SymbolFacts) → V i ≡ v.equation tree known (symbol i) o (user (user_place_of i o)) → known (symbol i) ≡ V i →
      (not (is_some (user (SymbolPlace i))) && elim o [ None ↦ false | Some f ↦ v.is_new_by tree known user (symbol i) f f.choice ]) ≡ true
      ↔ (user (SymbolPlace i) ≡ None) × AtFacts o (user_place_of i o)
  by_its_facts None solved is =
      (λ e. absurd (true≢false (sym (and_parts (not (is_some (user (SymbolPlace i)))) false e).1)), λ (none, (given, allowed, differs)). absurd (true≢false (sym allowed)))
  by_its_facts (Some f) solved is = by_its_choice f f.choice solved is

pub new_symbols : NewCanBeAnswered
new_symbols tree user V i below solves =
    by_its_facts tree user V i (v.facts tree (symbol i)) (solves i below)
    (ap (λ b. cond b (V i) (TextValue Undefined (v.name tree (symbol i)))) (lt-ltb i (name_count tree) below))
