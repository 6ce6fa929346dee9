-- What the lines of the list of new symbols give to the values.
use Rattle.std.proofs.{Common.{Bool, None, Option, Some, ap, cond, false, inl, inr, is_some, not, refl, subst, sym, true, ℕ, ◌&&◌, ◌<◌, ◌||◌, ◌↔◌, ◌∙◌, ◌≡◌, ◌⊎◌}, lemmas.Bool.{and_from, and_parts, cases_Bool, lt-ltb, or_cases, true≢false}}
use Rattle.std.specs.{Option.option_map_or, Prelude.option_map}
use Rattle.kc_language.specs.{Expressions.{SymbolValue, TextValue, Truth, greater, symbol, truth_of_value}, Symbols.{SymbolFacts, TreeFacts, is_symbol_of}, Texts.has_value, Values.{ChoicePlace, GivenTruth, GivenValue, Member, Solves, SymbolPlace, UserPlace, changes_on_reread, changes_on_reread_truth, choice_at, equations, facts, given_of, is_chosen, is_n, known_from, name_count, rhs, same_tri, selection, user_place}, declared.expressions.{SymId.SymId, SymbolType.{SymbolType, TheVariants.{Bool as IsBool, Hex, Int, Str, Tristate, Undefined}}, Tri.{TheVariants.{M, N, Y}, Tri}}}
use Rattle.kc_language.specs.Values as v
use Rattle.kc_values.specs.PartsOfValues as v_parts
use Rattle.kc_values.specs.{GivenLines.{is_listed, listed_place}, Laws.NewLinesKeep, PartsOfValues.by_choice}
use Rattle.kc_user.specs.Places.{AllowedPlaces, allowed}
use Rattle.kc_values.proofs.{FixedLines.{member_at, member_now, names_itself, place_cases, place_of_member}, IdempotentLines.{Keeps, Settling, member_fixed, not_tristate, settles_facts, user_or_hidden}, Selection.selected_again}

none_given : (o : Option GivenValue) → not (is_some o) ≡ true → o ≡ None
none_given None e = refl
none_given (Some g) e = absurd (true≢false (sym e))

is_false : (b : Bool) → not b ≡ true → b ≡ false
is_false false e = refl
is_false true e = absurd (true≢false (sym e))

same_tri_itself : (t : Tri) → same_tri t t ≡ true
same_tri_itself N = refl
same_tri_itself M = refl
same_tri_itself Y = refl

-- ---- a new symbol outside a choice is visible, and so it is written

module _ (tree : TreeFacts) (known : SymId → SymbolValue) (s : SymId) (f : SymbolFacts) where
  abbrev truth : Option GivenValue → Tri
  truth user = v.truth_equation tree known f user

  visible_truth : (t : Tri) → known s ≡ Truth (truth None) → v.changes tree known s f t ≡ true → v.is_visible tree known f ≡ true
  visible_truth t is e = elim (cases_Bool (is_n (v.visibility tree known f))) [
    | inl hidden ↦
        let same : truth (Some (GivenTruth t)) ≡ truth None =
        ap (λ o. v.upgraded tree known f.symbol_type (greater o (v.selected_to tree known f)))
        (user_or_hidden tree known (Some (GivenTruth t)) (v.visibility tree known f) (v.implied_value tree known f) hidden) in
        let none : v.changes tree known s f t ≡ false =
        ap (λ (x : SymbolValue). not (same_tri (truth (Some (GivenTruth t))) (truth_of_value x))) is ∙ ap (λ x. not (same_tri x (truth None))) same
        ∙ ap not (same_tri_itself (truth None)) in
        absurd (true≢false (sym e ∙ none))
    | inr seen ↦ ap not seen
  ]

  visible_by : (kind : SymbolType) → known s ≡ v.by_type tree known s f kind None → v.can_change tree known s f kind ≡ true → v.is_visible tree known f ≡ true
  visible_by Undefined is e = absurd (true≢false (sym e))
  visible_by IsBool is e = elim (or_cases (v.changes tree known s f Y) (v.changes tree known s f N) e) [ inl y ↦ visible_truth Y is y | inr n ↦ visible_truth N is n ]
  visible_by Tristate is e = elim (or_cases (v.changes tree known s f Y) (v.changes tree known s f M || v.changes tree known s f N) e) [
    | inl y ↦ visible_truth Y is y
    | inr rest ↦ elim (or_cases (v.changes tree known s f M) (v.changes tree known s f N) rest) [ inl m ↦ visible_truth M is m | inr n ↦ visible_truth N is n ]
  ]
  visible_by Str is e = e
  visible_by Int is e = (and_parts (v.is_visible tree known f) _ e).0
  visible_by Hex is e = (and_parts (v.is_visible tree known f) _ e).0

  seen_first : (b : Bool) → v.is_visible tree known f ≡ true → (v.is_visible tree known f || b) ≡ true
  seen_first b e = ap (λ x. x || b) e

  written_by : (kind : SymbolType) → v.can_change tree known s f kind ≡ true → v.is_visible tree known f ≡ true → v.written_by_type tree known f kind ≡ true
  written_by Undefined e seen = absurd (true≢false (sym e))
  written_by IsBool e seen = seen_first _ seen
  written_by Tristate e seen = seen_first _ seen
  written_by Str e seen = seen_first _ seen
  written_by Int e seen = seen_first _ seen
  written_by Hex e seen = seen_first _ seen

  -- a value that no line can give is none of a tristate
  no_value_stays : (kind : SymbolType) (user : Option GivenValue) (t : Tri) → kind ≡ f.symbol_type → has_value (v.by_type tree known s f kind user) ≡ false →
      changes_on_reread_truth tree known f t ≡ false
  no_value_stays Undefined user t typed none = not_tristate tree known s f Undefined t refl typed
  no_value_stays IsBool user t typed none = not_tristate tree known s f IsBool t refl typed
  no_value_stays Tristate user t typed none = absurd (true≢false none)
  no_value_stays Str user t typed none = not_tristate tree known s f Str t refl typed
  no_value_stays Int user t typed none = not_tristate tree known s f Int t refl typed
  no_value_stays Hex user t typed none = not_tristate tree known s f Hex t refl typed

-- ---- any symbol

module _ (tree : TreeFacts) (user : UserPlace → Option GivenValue) (V : ℕ → SymbolValue) where
  abbrev K : SymId → SymbolValue
  K = known_from tree V

  known_is : (i : ℕ) → i < name_count tree → K (symbol i) ≡ V i
  known_is i lt = ap (λ b. cond b (V i) (TextValue Undefined (v.name tree (symbol i)))) (lt-ltb i (name_count tree) lt)

  -- what a new symbol is
  abbrev IsNewBy : SymId → Option SymbolFacts → Type 0
  IsNewBy s o = (f : SymbolFacts) × (o ≡ Some f) × (user (SymbolPlace s.0) ≡ None) × (v.is_new_by tree K user s f f.choice ≡ true)

  new_by : (s : SymId) (o : Option SymbolFacts) → (not (is_some (user (SymbolPlace s.0))) && elim o [ None ↦ false | Some f ↦ v.is_new_by tree K user s f f.choice ]) ≡ true → IsNewBy s o
  new_by s None e = absurd (true≢false (sym (and_parts (not (is_some (user (SymbolPlace s.0)))) false e).1))
  new_by s (Some f) e =
      let (free, new) = and_parts (not (is_some (user (SymbolPlace s.0)))) (v.is_new_by tree K user s f f.choice) e in
      (f, refl, none_given (user (SymbolPlace s.0)) free, new)

  pub new_parts : (s : SymId) → v.is_new tree K user s ≡ true → IsNewBy s (facts tree s)
  new_parts s e = new_by s (facts tree s) e

  pub new_from : (s : SymId) (f : SymbolFacts) → facts tree s ≡ Some f → user (SymbolPlace s.0) ≡ None → v.is_new_by tree K user s f f.choice ≡ true → v.is_new tree K user s ≡ true
  new_from s f at none new =
      ap (λ (o : Option SymbolFacts). not (is_some (user (SymbolPlace s.0))) && elim o [ None ↦ false | Some f ↦ v.is_new_by tree K user s f f.choice ]) at
      ∙ and_from (not (is_some (user (SymbolPlace s.0)))) (v.is_new_by tree K user s f f.choice) (ap (λ o. not (is_some o)) none) new

module _ (tree : TreeFacts) (user : UserPlace → Option GivenValue) (V : ℕ → SymbolValue) (solves : Solves (name_count tree) (equations tree user) V) where
  abbrev known : SymId → SymbolValue
  known = known_from tree V

  abbrev after : UserPlace → Option GivenValue
  after = listed_place tree user V

  abbrev Sel : ℕ → Option SymId
  Sel c = selection tree user V c

  module _ (i : ℕ) (lt : i < name_count tree) (at : user_place tree i ≡ SymbolPlace i) where
    no_choice : (f : SymbolFacts) → facts tree (symbol i) ≡ Some f → (c : Option ℕ) → f.choice ≡ c → f.choice ≡ None
    no_choice f found None e = e
    no_choice f found (Some c) e = absurd (let never : ChoicePlace c ≡ SymbolPlace i = sym (place_of_member tree (symbol i) f c found e) ∙ at in cc)

    own_value : (f : SymbolFacts) → facts tree (symbol i) ≡ Some f → V i ≡ v.by_type tree known (symbol i) f f.symbol_type (user (SymbolPlace i))
    own_value f found =
        solves i lt ∙ ap (λ p. rhs tree i (user p) V) at ∙ ap (λ o. v.equation tree known (symbol i) o (user (SymbolPlace i))) found
        ∙ ap (λ c. by_choice tree known (symbol i) f c (user (SymbolPlace i))) (no_choice f found f.choice refl)

    own_changes : (f : SymbolFacts) → facts tree (symbol i) ≡ Some f → changes_on_reread tree V i ≡ changes_on_reread_truth tree known f (truth_of_value (V i))
    own_changes f found =
        ap (λ o. v.changes_on_reread_facts tree known o (truth_of_value (V i))) found
        ∙ ap (λ c. v_parts.changes_on_reread_by tree known f c (truth_of_value (V i))) (no_choice f found f.choice refl)

    -- a new one is written
    new_written : v.is_new tree known user (symbol i) ≡ true → v.written tree known (symbol i) ≡ true
    new_written new =
        let (f, found, none, by) = new_parts tree user V (symbol i) new in
        let own = no_choice f found f.choice refl in
        let change : v.can_change tree known (symbol i) f f.symbol_type ≡ true = subst (λ c. v.is_new_by tree known user (symbol i) f c ≡ true) own by in
        let is : known (symbol i) ≡ v.by_type tree known (symbol i) f f.symbol_type None =
        known_is tree user V i lt ∙ own_value f found ∙ ap (v.by_type tree known (symbol i) f f.symbol_type) none in
        let seen = visible_by tree known (symbol i) f f.symbol_type is change in
        ap (v_parts.written_facts tree known) found ∙ ap (v_parts.written_by_choice tree known f) own ∙ written_by tree known (symbol i) f f.symbol_type change seen

    -- its line gives its value again, exactly where it does not change on rereading
    listed_keeps : AllowedPlaces tree user → v.is_new tree known user (symbol i) ≡ true → allowed tree (symbol i) (given_of (V i)) ≡ true →
        Keeps (V i) (rhs tree i (Some (given_of (V i))) V) (changes_on_reread tree V i)
    listed_keeps given new ok =
        let e = solves i lt ∙ ap (λ p. rhs tree i (user p) V) at in
        let z = settles_facts tree known (symbol i) i (facts tree (symbol i)) (user (SymbolPlace i)) at (given i) in
        let P = λ (x : SymbolValue). Settling tree known (v.equation tree known (symbol i) (facts tree (symbol i))) (v.written tree known (symbol i)) (allowed tree (symbol i))
        (v.changes_on_reread_facts tree known (facts tree (symbol i))) x in
        let y : P (V i) = subst P (sym e) z in
        subst (λ b. Keeps (V i) (rhs tree i (cond b (Some (given_of (V i))) None) V) (changes_on_reread tree V i))
        (and_from (v.written tree known (symbol i)) (allowed tree (symbol i) (given_of (V i))) (new_written new) ok) y

    -- without a line nothing changes
    unlisted_stays : v.is_new tree known user (symbol i) ≡ true → is_listed tree user V (symbol i) ≡ false → changes_on_reread tree V i ≡ false
    unlisted_stays new unlisted =
        let (f, found, none, by) = new_parts tree user V (symbol i) new in
        let no_value : has_value (V i) ≡ false = sym (ap (λ b. b && has_value (V i)) new) ∙ unlisted in
        own_changes f found
        ∙ no_value_stays tree known (symbol i) f f.symbol_type (user (SymbolPlace i)) (truth_of_value (V i)) refl (sym (ap has_value (own_value f found)) ∙ no_value)

  -- the selections stay
  stays_if : (c : ℕ) (r : Option SymId) (b : Bool) → Sel c ≡ r → (b ≡ true → (m : SymId) × (r ≡ Some m)) →
      v.selected tree known (choice_at tree c) (cond b (option_map Member r) (user (ChoicePlace c))) ≡ r
  stays_if c r false e some = e
  stays_if c r true e some =
      let (m, is) = some refl in
      ap (λ x. v.selected tree known (choice_at tree c) (option_map Member x)) is
      ∙ selected_again tree known (choice_at tree c) (user (ChoicePlace c)) m (e ∙ is) ∙ sym is

  listed_some : (r : Option SymId) → option_map_or (is_listed tree user V) r false ≡ true → (m : SymId) × (r ≡ Some m)
  listed_some None e = absurd (true≢false (sym e))
  listed_some (Some m) e = (m, refl)

  selection_stays : (c : ℕ) → v.selected tree known (choice_at tree c) (after (ChoicePlace c)) ≡ Sel c
  selection_stays c = stays_if c (Sel c) (option_map_or (is_listed tree user V) (Sel c) false) refl (listed_some (Sel c))

  -- ---- the values

  abbrev AtSymbol : ℕ → Type 0
  AtSymbol i = ((V i ≡ equations tree after i V) × (v.is_new tree known user (symbol i) ≡ true → changes_on_reread tree V i ≡ false))
      ⊎ ((V i ≡ equations tree after i V → ⊥) × (v.is_new tree known user (symbol i) ≡ true) × (changes_on_reread tree V i ≡ true))

  module _ (given : AllowedPlaces tree user) (allows : (s : SymId) → s.0 < name_count tree → is_listed tree user V s ≡ true → allowed tree s (given_of (V s.0)) ≡ true) where
    own_at : (i : ℕ) → i < name_count tree → user_place tree i ≡ SymbolPlace i → AtSymbol i
    own_at i lt at = elim (cases_Bool (is_listed tree user V (symbol i))) [
      | inl listed ↦
          let (new, value) = and_parts (v.is_new tree known user (symbol i)) (has_value (V i)) listed in
          let place : after (user_place tree i) ≡ Some (given_of (V i)) =
          ap after at ∙ ap (λ b. cond b (Some (given_of (V i))) (user (SymbolPlace i))) listed in
          let equal : rhs tree i (Some (given_of (V i))) V ≡ equations tree after i V = ap (λ g. rhs tree i g V) (sym place) in
          elim (listed_keeps i lt at given new (allows (symbol i) lt listed)) [
            | inl same ↦ inl (same.0 ∙ equal, λ n. same.1)
            | inr other ↦ inr (λ e. other.0 (e ∙ sym equal), new, other.1)
          ]
      | inr unlisted ↦
          let place : after (user_place tree i) ≡ user (user_place tree i) =
          ap after at ∙ ap (λ b. cond b (Some (given_of (V i))) (user (SymbolPlace i))) unlisted ∙ sym (ap user at) in
          inl (solves i lt ∙ ap (λ g. rhs tree i g V) (sym place), λ new. unlisted_stays i lt at new unlisted)
    ]

    member_is_at : (i c : ℕ) → i < name_count tree → user_place tree i ≡ ChoicePlace c → AtSymbol i
    member_is_at i c lt at =
        let now = member_now tree user V solves i c lt at in
        let later : equations tree after i V ≡ Truth (cond (is_symbol_of (symbol i) (Sel c)) Y N) =
        ap (λ p. rhs tree i (after p) V) at ∙ member_at tree known i c (after (ChoicePlace c)) at
        ∙ ap (λ r. Truth (cond (is_symbol_of (symbol i) r) Y N)) (selection_stays c) in
        inl (now ∙ sym later, λ new. member_fixed tree known i c (facts tree (symbol i)) (truth_of_value (V i)) at)

    each_at : (i : ℕ) → i < name_count tree → AtSymbol i
    each_at i lt = elim (place_cases tree i) [ inl at ↦ own_at i lt at | inr d ↦ member_is_at i d.0 lt d.1 ]

    solves_where : Solves (name_count tree) (equations tree after) V
        ↔ ((s : SymId) → s.0 < name_count tree → v.is_new tree known user s ≡ true → changes_on_reread tree V s.0 ≡ false)
    solves_where = (
      λ w s lt new. elim (each_at s.0 lt) [ inl a ↦ a.1 new | inr b ↦ absurd (b.0 (w s.0 lt)) ],
      λ all i lt. elim (each_at i lt) [ inl a ↦ a.0 | inr b ↦ absurd (true≢false (sym b.2 ∙ all (symbol i) lt b.1)) ],
    )

  -- ---- what is still new

  module _ (s : SymId) (lt : s.0 < name_count tree) where
    unlisted_of : after (SymbolPlace s.0) ≡ None → is_listed tree user V s ≡ false
    unlisted_of none = elim (cases_Bool (is_listed tree user V s)) [
      | inl listed ↦ absurd (let clash : Some (given_of (V s.0)) ≡ None = sym (ap (λ b. cond b (Some (given_of (V s.0))) (user (SymbolPlace s.0))) listed) ∙ none in cc)
      | inr unlisted ↦ unlisted
    ]

    -- a choice whose selection is listed is answered
    chosen_after : (c : ℕ) (r : Option SymId) → option_map_or (is_listed tree user V) r false ≡ true → is_chosen r (cond (option_map_or (is_listed tree user V) r false) (option_map Member r) (user (ChoicePlace c))) ≡ true
    chosen_after c None e = absurd (true≢false (sym e))
    chosen_after c (Some m) e = ap (λ b. is_chosen (Some m) (cond b (Some (Member m)) (user (ChoicePlace c)))) e ∙ names_itself m

    unchosen_before : (c : ℕ) → is_chosen (v.selected tree known (choice_at tree c) (after (ChoicePlace c))) (after (ChoicePlace c)) ≡ false → is_chosen (Sel c) (user (ChoicePlace c)) ≡ false
    unchosen_before c none =
        let here : is_chosen (Sel c) (after (ChoicePlace c)) ≡ false = sym (ap (λ r. is_chosen r (after (ChoicePlace c))) (selection_stays c)) ∙ none in
        elim (cases_Bool (option_map_or (is_listed tree user V) (Sel c) false)) [
          | inl listed ↦ absurd (true≢false (sym (chosen_after c (Sel c) listed) ∙ here))
          | inr unlisted ↦ sym (ap (λ b. is_chosen (Sel c) (cond b (option_map Member (Sel c)) (user (ChoicePlace c)))) unlisted) ∙ here
        ]

    new_before : (f : SymbolFacts) (c : Option ℕ) → v.is_new_by tree known after s f c ≡ true → v.is_new_by tree known user s f c ≡ true
    new_before f None e = e
    new_before f (Some c) e =
        let seen = v.is_visible tree known f in
        let others = option_map_or (v.has_other tree known) (choice_at tree c) false in
        let chose = is_chosen (v.selected tree known (choice_at tree c) (after (ChoicePlace c))) (after (ChoicePlace c)) in
        let (is_seen, rest) = and_parts seen (not chose && others) e in
        let (none, other) = and_parts (not chose) others rest in
        and_from seen (not (is_chosen (Sel c) (user (ChoicePlace c))) && others) is_seen
        (and_from (not (is_chosen (Sel c) (user (ChoicePlace c)))) others (ap not (unchosen_before c (is_false chose none))) other)

    still_new : v.is_new tree known after s ≡ true → (v.is_new tree known user s ≡ true) × (has_value (V s.0) ≡ false)
    still_new e =
        let (f, found, none, by) = new_parts tree after V s e in
        let unlisted = unlisted_of none in
        let free : user (SymbolPlace s.0) ≡ None = sym (ap (λ b. cond b (Some (given_of (V s.0))) (user (SymbolPlace s.0))) unlisted) ∙ none in
        let new = new_from tree user V s f found free (new_before f f.choice by) in
        (new, sym (ap (λ b. b && has_value (V s.0)) new) ∙ unlisted)

pub new_lines_keep : NewLinesKeep
new_lines_keep tree user V formed given solves allows = (solves_where tree user V solves given allows, still_new tree user V solves)
