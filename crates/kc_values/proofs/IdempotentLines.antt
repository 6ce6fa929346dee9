-- The written values as the user's give the values again where no symbol changes on rereading.
use Rattle.std.proofs.{Common.{Bool, List, None, Option, Some, [], ap, arith, cond, false, inl, inr, not, refl, subst, suc, sym, true, unwrap_or, zero, ℕ, ◌&&◌, ◌<◌, ◌||◌, ◌∙◌, ◌∷◌, ◌≡◌, ◌⊎◌}, lemmas.Bool.{and_from, and_parts, and_right, cases_Bool, true≢false}}
use Rattle.std.specs.{List.{Contains, find}, Prelude.option_map}
use Rattle.kc_language.specs.{Expressions.{SymbolValue, TextValue, Truth, greater, lesser, symbol, truth_of_value}, Symbols.{ChoiceFacts, SymbolFacts, TreeFacts, is_symbol_of}, Values.{ChoicePlace, GivenText, GivenTruth, GivenValue, Member, Solves, SymbolPlace, UserPlace, above, changes_on_reread, changes_on_reread_truth, choice_at, clamped, equations, facts, given_of, if_within_range, is_n, is_within_range, is_yes, known_from, name_count, rhs, upgrade}, declared.{expressions.{SymId.SymId, SymbolType.{SymbolType, TheVariants.{Bool as IsBool, Hex, Int, Str, Tristate, Undefined}}, Tri.{TheVariants.{M, N, Y}, Tri}}, values.Interval.Interval}}
use Rattle.kc_language.specs.Values as v
use Rattle.kc_values.specs.PartsOfValues as v_parts
use Rattle.kc_user.specs.Places.{AllowedPlaces, allowed, allowed_by, allowed_for, allowed_text, allowed_truth, is_m, members_of}
use Rattle.kc_values.specs.{GivenLines.reread_places, Laws.IdempotentWhere, Members.MembersAreTheirs, PartsOfValues.{by_choice, changes_on_reread_by}}
use Rattle.kc_values.proofs.{FixedLines.{Sel, member_at, member_now, named, names_itself, place_cases, place_of_member}, ModeLaws.members_are_theirs, Selection.{found, none_selected, selected_again, selected_member, selected_visible}, TruthLines.{base_of, line_keeps, outcome, upgrade_if}}

-- the same, and unchanged on rereading; or another, and changed
abbrev pub Keeps : SymbolValue → SymbolValue → Bool → Type 0
Keeps x y b = ((x ≡ y) × (b ≡ false)) ⊎ (((x ≡ y) → ⊥) × (b ≡ true))

module _ (tree : TreeFacts) (k : SymId → SymbolValue) where
  pub user_or_hidden : (u : Option GivenValue) (vis o : Tri) → is_n vis ≡ true → v.user_or u vis o ≡ o
  user_or_hidden None vis o e = refl
  user_or_hidden (Some (GivenText t)) vis o e = refl
  user_or_hidden (Some (Member m)) vis o e = refl
  user_or_hidden (Some (GivenTruth u)) vis o e = ap (λ b. cond b o (lesser u vis)) e

  -- the value under a user's place
  abbrev Out : Bool → Tri → Tri → Tri → Option GivenValue → Tri
  Out b vis selected_to o u = upgrade_if b (greater (v.user_or u (upgrade_if b vis) o) (upgrade_if b selected_to))

  abbrev Line : Bool → Bool → Tri → Option GivenValue
  Line w a t = cond (w && a) (Some (GivenTruth t)) None

  upgrade_if_stays : (b : Bool) (allow : Tri → Bool) (u : Option GivenValue) (vis selected_to o : Tri) (w : Bool) → (is_n (upgrade_if b vis) ≡ false → w ≡ true) →
      ((y : Tri) → allow (upgrade_if b y) ≡ true) →
      Keeps (Truth (Out b vis selected_to o u)) (Truth (Out b vis selected_to o (Line w (allow (Out b vis selected_to o u)) (Out b vis selected_to o u))))
      (not b && (not (is_n (upgrade_if b vis)) && (above (Out b vis selected_to o u) (upgrade_if b vis) && above (Out b vis selected_to o u) (upgrade_if b selected_to))))
  upgrade_if_stays b allow u vis selected_to o w shown allowed =
      let t = Out b vis selected_to o u in
      let R = λ (x : Tri). upgrade_if b (greater x (upgrade_if b selected_to)) in
      elim (cases_Bool (is_n (upgrade_if b vis))) [
        | inl hidden ↦
            let e = ap R (user_or_hidden u (upgrade_if b vis) o hidden) ∙ sym (ap R (user_or_hidden (Line w (allow t) t) (upgrade_if b vis) o hidden)) in
            inl (
              ap Truth e,
              and_right (not b) (not (is_n (upgrade_if b vis)) && (above t (upgrade_if b vis) && above t (upgrade_if b selected_to)))
                  (ap (λ h. not h && (above t (upgrade_if b vis) && above t (upgrade_if b selected_to))) hidden),
            )
        | inr seen_now ↦
            let base = v.user_or u (upgrade_if b vis) o in
            let place : Line w (allow t) t ≡ Some (GivenTruth t) =
            ap (λ x. Line x (allow t) t) (shown seen_now) ∙ ap (λ x. Line true x t) (allowed (greater base (upgrade_if b selected_to)))
            in
            let new : Out b vis selected_to o (Line w (allow t) t) ≡ outcome b (base_of t (upgrade_if b vis) o) selected_to = ap (Out b vis selected_to o) place in
            let tell : (not b && (not (is_n (upgrade_if b vis)) && (above t (upgrade_if b vis) && above t (upgrade_if b selected_to)))) ≡
            (not b && (above t (upgrade_if b vis) && above t (upgrade_if b selected_to))) =
            ap (λ h. not b && (not h && (above t (upgrade_if b vis) && above t (upgrade_if b selected_to)))) seen_now
            in
            elim (line_keeps b base vis selected_to o seen_now) [
              | inl same ↦ inl (ap Truth (same.0 ∙ sym new), tell ∙ same.1)
              | inr other ↦ inr ((λ e. let h : t ≡ outcome b (base_of t (upgrade_if b vis) o) selected_to = ap truth_of_value e ∙ new in other.0 h), tell ∙ other.1)
            ]
      ]

  pub upgrade_allowed : (y : Tri) → not (is_m (upgrade y)) ≡ true
  upgrade_allowed N = refl
  upgrade_allowed M = refl
  upgrade_allowed Y = refl

  abbrev pub is_truth_type : SymbolType → Bool
  is_truth_type Undefined = false
  is_truth_type IsBool = true
  is_truth_type Tristate = true
  is_truth_type Str = false
  is_truth_type Int = false
  is_truth_type Hex = false

  abbrev OutBy : SymbolType → Tri → Tri → Tri → Option GivenValue → Tri
  OutBy symbol_type vis selected_to o u = v.upgraded tree k symbol_type (greater (v.user_or u (v.upgraded tree k symbol_type vis) o) (v.upgraded tree k symbol_type selected_to))

  truth_settles : (symbol_type : SymbolType) → is_truth_type symbol_type ≡ true → (u : Option GivenValue) (vis selected_to o : Tri) (w : Bool) → (is_n (v.upgraded tree k symbol_type vis) ≡ false → w ≡ true) →
      Keeps (Truth (OutBy symbol_type vis selected_to o u)) (Truth (OutBy symbol_type vis selected_to o (Line w (allowed_truth symbol_type (OutBy symbol_type vis selected_to o u)) (OutBy symbol_type vis selected_to o u))))
      (v.is_tristate tree k symbol_type &&
      (not (is_n (v.upgraded tree k symbol_type vis)) && (above (OutBy symbol_type vis selected_to o u) (v.upgraded tree k symbol_type vis) && above (OutBy symbol_type vis selected_to o u) (v.upgraded tree k symbol_type selected_to))))
  truth_settles IsBool e u vis selected_to o w shown = upgrade_if_stays true (allowed_truth IsBool) u vis selected_to o w shown upgrade_allowed
  truth_settles Tristate e u vis selected_to o w shown = upgrade_if_stays (is_n (v.modules_value k tree.modules)) (allowed_truth Tristate) u vis selected_to o w shown (λ y. refl)
  truth_settles Undefined e u vis selected_to o w shown = absurd (true≢false (sym e))
  truth_settles Str e u vis selected_to o w shown = absurd (true≢false (sym e))
  truth_settles Int e u vis selected_to o w shown = absurd (true≢false (sym e))
  truth_settles Hex e u vis selected_to o w shown = absurd (true≢false (sym e))

  -- Texts and numbers.
  abbrev TextLine : Bool → Bool → List ℕ → Option GivenValue
  TextLine w a t = cond (w && a) (Some (GivenText t)) None

  unused_text : (a : Bool) (vis : Tri) (d : List ℕ) → d ≡ unwrap_or (v.visible_text (cond a (Some (GivenText d)) None) vis) d
  unused_text true N d = refl
  unused_text true M d = refl
  unused_text true Y d = refl
  unused_text false vis d = refl

  text_settles : (q : List ℕ → Bool) (u : Option GivenValue) (vis : Tri) (d : List ℕ) (w : Bool) → (is_n vis ≡ false → w ≡ true) → ((t : List ℕ) → u ≡ Some (GivenText t) → q t ≡ true) →
      unwrap_or (v.visible_text u vis) d ≡ unwrap_or (v.visible_text (TextLine w (q (unwrap_or (v.visible_text u vis) d)) (unwrap_or (v.visible_text u vis) d)) vis) d
  text_settles q None vis d w shown given = unused_text (w && q d) vis d
  text_settles q (Some (GivenTruth t)) vis d w shown given = unused_text (w && q d) vis d
  text_settles q (Some (Member m)) vis d w shown given = unused_text (w && q d) vis d
  text_settles q (Some (GivenText t)) N d w shown given = unused_text (w && q d) N d
  text_settles q (Some (GivenText t)) M d w shown given = sym (ap (λ b. unwrap_or (v.visible_text (cond b (Some (GivenText t)) None) M) d) (and_from w (q t) (shown refl) (given t refl)))
  text_settles q (Some (GivenText t)) Y d w shown given = sym (ap (λ b. unwrap_or (v.visible_text (cond b (Some (GivenText t)) None) Y) d) (and_from w (q t) (shown refl) (given t refl)))

  module _ (symbol_type : SymbolType) (range : Option Interval) where
    abbrev Ranged : Tri → List ℕ → Option GivenValue → List ℕ
    Ranged vis d u = unwrap_or (if_within_range symbol_type range (v.visible_text u vis)) d

    either_way : (b : Bool) (d : List ℕ) → d ≡ unwrap_or (cond b (Some d) None) d
    either_way true d = refl
    either_way false d = refl

    unused_number : (a : Bool) (vis : Tri) (d : List ℕ) → d ≡ Ranged vis d (cond a (Some (GivenText d)) None)
    unused_number true N d = refl
    unused_number true M d = either_way (is_within_range symbol_type range d) d
    unused_number true Y d = either_way (is_within_range symbol_type range d) d
    unused_number false vis d = refl

    shown_number : (q : List ℕ → Bool) (t d : List ℕ) (w : Bool) → w ≡ true → q t ≡ true →
        unwrap_or (cond (is_within_range symbol_type range t) (Some t) None) d ≡ Ranged Y d
        (TextLine w (q (unwrap_or (cond (is_within_range symbol_type range t) (Some t) None) d)) (unwrap_or (cond (is_within_range symbol_type range t) (Some t) None) d))
    shown_number q t d w shown given =
        let T = λ (b : Bool). unwrap_or (cond b (Some t) None) d in
        let F = λ (x : List ℕ). Ranged Y d (TextLine w (q x) x) in
        elim (cases_Bool (is_within_range symbol_type range t)) [
          | inl y ↦
              let e : T (is_within_range symbol_type range t) ≡ t = ap T y in
              let f : F t ≡ t = ap (λ b. Ranged Y d (cond b (Some (GivenText t)) None)) (and_from w (q t) shown given) ∙ e in
              e ∙ sym f ∙ sym (ap F e)
          | inr n ↦
              let e : T (is_within_range symbol_type range t) ≡ d = ap T n in
              e ∙ unused_number (w && q d) Y d ∙ sym (ap F e)
        ]

    as_m : (d : List ℕ) (b : Bool) (x : List ℕ) → Ranged Y d (cond b (Some (GivenText x)) None) ≡ Ranged M d (cond b (Some (GivenText x)) None)
    as_m d true x = refl
    as_m d false x = refl

    pub number_settles : (q : List ℕ → Bool) (u : Option GivenValue) (vis : Tri) (d : List ℕ) (w : Bool) → (is_n vis ≡ false → w ≡ true) → ((t : List ℕ) → u ≡ Some (GivenText t) → q t ≡ true) →
        Ranged vis d u ≡ Ranged vis d (TextLine w (q (Ranged vis d u)) (Ranged vis d u))
    number_settles q None vis d w shown given = unused_number (w && q d) vis d
    number_settles q (Some (GivenTruth t)) vis d w shown given = unused_number (w && q d) vis d
    number_settles q (Some (Member m)) vis d w shown given = unused_number (w && q d) vis d
    number_settles q (Some (GivenText t)) N d w shown given = unused_number (w && q d) N d
    number_settles q (Some (GivenText t)) M d w shown given = shown_number q t d w (shown refl) (given t refl) ∙ as_m d (w && q (Ranged M d (Some (GivenText t)))) (Ranged M d (Some (GivenText t)))
    number_settles q (Some (GivenText t)) Y d w shown given = shown_number q t d w (shown refl) (given t refl)

  -- One symbol outside a choice.
  abbrev pub Settling : (Option GivenValue → SymbolValue) → Bool → (GivenValue → Bool) → (Tri → Bool) → SymbolValue → Type 0
  Settling f w allow uns x =
      Keeps x (f (cond (w && allow (given_of x)) (Some (given_of x)) None)) (uns (truth_of_value x))

  shown_first : (b c : Bool) → b ≡ false → (not b || c) ≡ true
  shown_first b c e = ap (λ x. not x || c) e

  module _ (s : SymId) (f : SymbolFacts) where
    pub not_tristate : (symbol_type : SymbolType) (t : Tri) → v.is_tristate tree k symbol_type ≡ false → symbol_type ≡ f.symbol_type → changes_on_reread_truth tree k f t ≡ false
    not_tristate symbol_type t n h =
        ap (λ x. v.is_tristate tree k x && (v.is_visible tree k f && (above t (v.visibility tree k f) && above t (v.selected_to tree k f)))) (sym h)
        ∙ ap (λ b. b && (v.is_visible tree k f && (above t (v.visibility tree k f) && above t (v.selected_to tree k f)))) n

    truth_line : (u : Option GivenValue) → is_truth_type f.symbol_type ≡ true →
        Settling (λ p. Truth (v.truth_equation tree k f p)) (v.written_truth tree k f) (allowed_by f.symbol_type) (changes_on_reread_truth tree k f) (Truth (v.truth_equation tree k f u))
    truth_line u e =
        truth_settles f.symbol_type e u (v.conditions tree k f.prompts) (v.selector_values tree k f.selectors)
        (v_parts.implied (v.default_value tree k (v.first_met tree k f.defaults)) (v.implied_to tree k f) (v.direct tree k f))
        (v.written_truth tree k f) (λ h. shown_first (is_n (v.visibility tree k f)) _ h)

    settles_by_type : (symbol_type : SymbolType) (u : Option GivenValue) → symbol_type ≡ f.symbol_type → ((g : GivenValue) → u ≡ Some g → allowed_by f.symbol_type g ≡ true) →
        Settling (v.by_type tree k s f symbol_type) (v.written_by_type tree k f symbol_type) (allowed_by f.symbol_type) (changes_on_reread_truth tree k f) (v.by_type tree k s f symbol_type u)
    settles_by_type Undefined u h given = inl (refl, not_tristate Undefined N refl h)
    settles_by_type IsBool u h given = truth_line u (ap is_truth_type (sym h))
    settles_by_type Tristate u h given = truth_line u (ap is_truth_type (sym h))
    settles_by_type Str u h given =
        inl (
          ap (TextValue Str) (text_settles (allowed_text f.symbol_type) u (v.visibility tree k f) (v.default_text k (v.first_met tree k f.defaults)) (v_parts.written_text tree k f)
              (λ e. shown_first (is_n (v.visibility tree k f)) _ e) (λ t e. given (GivenText t) e)),
          not_tristate Str N refl h,
        )
    settles_by_type Int u h given =
        inl (
          ap (TextValue Int) (number_settles f.symbol_type (v.active_range tree k f) (allowed_text f.symbol_type) u (v.visibility tree k f)
              (clamped f.symbol_type (v.active_range tree k f) (v.default_text k (v.first_met tree k f.defaults))) (v_parts.written_text tree k f)
              (λ e. shown_first (is_n (v.visibility tree k f)) _ e) (λ t e. given (GivenText t) e)),
          not_tristate Int N refl h,
        )
    settles_by_type Hex u h given =
        inl (
          ap (TextValue Hex) (number_settles f.symbol_type (v.active_range tree k f) (allowed_text f.symbol_type) u (v.visibility tree k f)
              (clamped f.symbol_type (v.active_range tree k f) (v.default_text k (v.first_met tree k f.defaults))) (v_parts.written_text tree k f)
              (λ e. shown_first (is_n (v.visibility tree k f)) _ e) (λ t e. given (GivenText t) e)),
          not_tristate Hex N refl h,
        )

    settles_by_choice : (i : ℕ) (c : Option ℕ) (u : Option GivenValue) → v_parts.user_place_by i c ≡ SymbolPlace i → ((g : GivenValue) → u ≡ Some g → allowed_by f.symbol_type g ≡ true) →
        Settling (by_choice tree k s f c) (v_parts.written_by_choice tree k f c) (allowed_by f.symbol_type) (changes_on_reread_by tree k f c) (by_choice tree k s f c u)
    settles_by_choice i None u at given = settles_by_type f.symbol_type u refl given
    settles_by_choice i (Some c) u at given = cc

  pub settles_facts : (s : SymId) (i : ℕ) (f : Option SymbolFacts) (u : Option GivenValue) → v_parts.user_place_of i f ≡ SymbolPlace i → ((g : GivenValue) → u ≡ Some g → allowed_for f g ≡ true) →
      Settling (v.equation tree k s f) (v_parts.written_facts tree k f) (allowed_for f) (v.changes_on_reread_facts tree k f) (v.equation tree k s f u)
  settles_facts s i None u at given = inl (refl, refl)
  settles_facts s i (Some f) u at given = settles_by_choice s f i f.choice u at given

  -- a member does not change on rereading
  kept_choice : (f : SymbolFacts) (i c : ℕ) (t : Tri) (o : Option ℕ) → v_parts.user_place_by i o ≡ ChoicePlace c → changes_on_reread_by tree k f o t ≡ false
  kept_choice f i c t None e = cc
  kept_choice f i c t (Some d) e = refl

  pub member_fixed : (i c : ℕ) (f : Option SymbolFacts) (t : Tri) → v_parts.user_place_of i f ≡ ChoicePlace c → v.changes_on_reread_facts tree k f t ≡ false
  member_fixed i c None t e = cc
  member_fixed i c (Some f) t e = kept_choice f i c t f.choice e

  is_n-upgrade : (t : Tri) → is_n (upgrade t) ≡ is_n t
  is_n-upgrade N = refl
  is_n-upgrade M = refl
  is_n-upgrade Y = refl

  is_n-if : (b : Bool) (t : Tri) → is_n (cond b (upgrade t) t) ≡ is_n t
  is_n-if true t = is_n-upgrade t
  is_n-if false t = refl

  is_n-upgraded : (symbol_type : SymbolType) (t : Tri) → is_n (v.upgraded tree k symbol_type t) ≡ is_n t
  is_n-upgraded Undefined t = is_n-upgrade t
  is_n-upgraded IsBool t = is_n-upgrade t
  is_n-upgraded Tristate t = is_n-if (is_n (v.modules_value k tree.modules)) t
  is_n-upgraded Str t = is_n-upgrade t
  is_n-upgraded Int t = is_n-upgrade t
  is_n-upgraded Hex t = is_n-upgrade t

  -- a visible member is written
  member_written : (m : SymId) (g : SymbolFacts) (c : ℕ) → facts tree m ≡ Some g → g.choice ≡ Some c → v.visible tree k m ≡ true → v.written tree k m ≡ true
  member_written m g c e h vis =
      ap (v_parts.written_facts tree k) e
      ∙ ap (v_parts.written_by_choice tree k g) h
      ∙ ap not (is_n-upgraded g.symbol_type (v.conditions tree k g.prompts))
      ∙ sym (ap (v_parts.visible_facts tree k) e)
      ∙ vis

yes_if : (b : Bool) → is_yes (given_of (Truth (cond b Y N))) ≡ true → b ≡ true
yes_if true e = refl
yes_if false e = e

missing_at : {X : Type 0} (p : X → Bool) (b : Bool) (x y : X) (xs : List X) → p x ≡ b → (find p xs ≡ None → Contains xs y → p y ≡ false) → cond b (Some x) (find p xs) ≡ None →
    Contains (x ∷ xs) y → p y ≡ false
missing_at p true x y xs t rec e c = cc
missing_at p false x y xs t rec e (zero, l, i) = ap p (sym i) ∙ t
missing_at p false x y xs t rec e (suc n, l, i) = rec e (n, omega arith, i)

missing : {X : Type 0} (p : X → Bool) (xs : List X) (y : X) → find p xs ≡ None → Contains xs y → p y ≡ false
missing p [] y e c = absurd (omega (arith, c.1))
missing p (x ∷ xs) y e c = missing_at p (p x) x y xs refl (missing p xs y) e c

module _ (tree : TreeFacts) (user : UserPlace → Option GivenValue) (V : ℕ → SymbolValue) (theirs : MembersAreTheirs tree) (solves : Solves (name_count tree) (equations tree user) V) where
  abbrev K : SymId → SymbolValue
  K = known_from tree V

  abbrev Wrote : SymId → Bool
  Wrote m = v.written tree K m && is_yes (given_of (V m.0))

  abbrev Selected : ℕ → Option SymId
  Selected c = Sel tree user V solves c

  value_of_member : (c : ℕ) (f : ChoiceFacts) (m : SymId) → choice_at tree c ≡ Some f → Contains f.members m → V m.0 ≡ Truth (cond (is_symbol_of m (Selected c)) Y N)
  value_of_member c f m e i =
      let mine = theirs c f m e i in
      member_now tree user V solves m.0 c mine.0 (place_of_member tree m mine.1.0 c mine.1.1 mine.1.2)

  -- the found member is the selected one, and none is found where none is selected
  found_one : (c : ℕ) (r : Option SymId) (x : SymId) (o : Option ChoiceFacts) → choice_at tree c ≡ o → Selected c ≡ r → find Wrote (members_of o) ≡ Some x → v.selected tree K o (Some (Member x)) ≡ r
  found_one c r x None at e d = cc
  found_one c r x (Some f) at e d =
      let h = found Wrote f.members x d in
      let now = value_of_member c f x at h.1 in
      let sel = named (Selected c) x (yes_if (is_symbol_of x (Selected c)) (sym (ap (λ k. is_yes (given_of k)) now) ∙ (and_parts (v.written tree K x) (is_yes (given_of (V x.0))) h.0).1)) in
      selected_again tree K (Some f) (user (ChoicePlace c)) x (sym (ap (λ o. v.selected tree K o (user (ChoicePlace c))) at) ∙ sel) ∙ sym sel ∙ e

  again_to : (c : ℕ) (r w : Option SymId) → Selected c ≡ r → find Wrote (members_of (choice_at tree c)) ≡ w → v.selected tree K (choice_at tree c) (option_map Member w) ≡ r
  again_to c None None e d = none_selected tree K (choice_at tree c) (user (ChoicePlace c)) e
  again_to c (Some m) None e d =
      let at = selected_member tree K (choice_at tree c) (user (ChoicePlace c)) m e in
      let f = at.0 in
      let mine = theirs c f m at.1 at.2 in
      let vis = selected_visible tree K f (user (ChoicePlace c)) m (sym (ap (λ o. v.selected tree K o (user (ChoicePlace c))) at.1) ∙ e) in
      let shown = (and_parts _ (v.visible tree K m) vis).1 in
      let w = member_written tree K m mine.1.0 c mine.1.1 mine.1.2 shown in
      let now = value_of_member c f m at.1 at.2 ∙ ap (λ r. Truth (cond (is_symbol_of m r) Y N)) e in
      let y : is_yes (given_of (V m.0)) ≡ true = ap (λ k. is_yes (given_of k)) now ∙ ap (λ b. is_yes (given_of (Truth (cond b Y N)))) (names_itself m) in
      absurd (true≢false (sym (and_from (v.written tree K m) (is_yes (given_of (V m.0))) w y) ∙ missing Wrote f.members m (sym (ap (λ o. find Wrote (members_of o)) at.1) ∙ d) at.2))
  again_to c r (Some x) e d = found_one c r x (choice_at tree c) refl e d

  one_keeps : AllowedPlaces tree user → (i : ℕ) → i < name_count tree → Keeps (V i) (equations tree (reread_places tree V) i V) (changes_on_reread tree V i)
  one_keeps given i l =
      elim (place_cases tree i) [
        | inl at ↦
            let e = solves i l ∙ ap (λ p. rhs tree i (user p) V) at in
            let z = settles_facts tree K (symbol i) i (facts tree (symbol i)) (user (SymbolPlace i)) at (given i) in
            let P = λ (x : SymbolValue). Settling tree K (v.equation tree K (symbol i) (facts tree (symbol i))) (v.written tree K (symbol i)) (allowed tree (symbol i))
            (v.changes_on_reread_facts tree K (facts tree (symbol i))) x in
            let y : P (V i) = subst P (sym e) z in
            subst (λ p. Keeps (V i) (rhs tree i (reread_places tree V p) V) (changes_on_reread tree V i)) (sym at) y
        | inr d ↦
            let c = d.0 in
            let now = member_now tree user V solves i c l d.1 in
            let then_ = ap (λ p. rhs tree i (reread_places tree V p) V) d.1 ∙ member_at tree K i c (reread_places tree V (ChoicePlace c)) d.1 in
            let same = again_to c (Selected c) _ refl refl in
            inl (now ∙ ap (λ r. Truth (cond (is_symbol_of (symbol i) r) Y N)) (sym same) ∙ sym then_, member_fixed tree K i c (facts tree (symbol i)) (truth_of_value (V i)) d.1)
      ]

pub idempotent_where : IdempotentWhere
idempotent_where tree user V formed given solves =
    let theirs = members_are_theirs tree formed in (
      λ w i l. elim (one_keeps tree user V theirs solves given i l) [ inl a ↦ a.1 | inr b ↦ absurd (b.0 (w i l)) ],
      λ all i l. elim (one_keeps tree user V theirs solves given i l) [ inl a ↦ a.0 | inr b ↦ absurd (true≢false (sym b.1 ∙ all i l)) ],
    )
