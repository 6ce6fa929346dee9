-- What reading the minimal file, or some of its lines, leaves in empty places.
use Rattle.std.proofs.{Common.{Bool, List, None, Option, Some, [], ap, arith, cond, false, get_or, inl, inr, length, not, refl, subst, sym, true, ℕ, ◌++◌, ◌<◌, ◌∙◌, ◌∷◌, ◌≡◌}, lemmas.{Bool.{and_parts, cases_Bool, lt-ltb, ltb-true, true≢false}, Option.{slice_get-get_or, slice_get_within}}}
use Rattle.std.specs.{List.{Contains, cons_option, flat_map}, Option.option_and_then, Prelude.{nat_lt, option_map, slice_get, ◌&&◌}}
use Rattle.kc_language.specs.{ConfigFile.{Assignment, Notation, is_prefix, place_at, places_given}, Expressions.{SymbolValue, Truth, symbol}, Symbols.{SymbolFacts, TreeFacts, is_symbol_of}, Texts.{config_file_line, symbol_config, valuation_view}, Values.{ChoicePlace, GivenValue, Member, Solves, SymbolPlace, UserPlace, choice_at, default_selection, differs, equations, facts, given_of, is_yes, known_from, name as name_of, name_count, user_place}, declared.expressions.{SymId.SymId, Tri.TheVariants.{N, Y}}}
use Rattle.kc_order.specs.Minimal.{kept}
use Rattle.kc_entries.specs.WellFormed.{IsWellFormed}
use Rattle.kc_user.specs.{PartsOfConfigFile.no_places, Places.{AllowedPlaces, allowed, allowed_by, allowed_for}}
use Rattle.kc_input.specs.{HasNames.HasNames, PartsOfConfigFile.choice_of, PartsOfTexts.IsOneLine}
use Rattle.kc_values.specs.{GivenLines.{TellsDiffering, minimal_line}, Laws.DifferingAreAllowed, Members.{MembersAreBools, MembersAreTheirs}}
use Rattle.kc_values.specs.PartsOfValues as sol
use Rattle.kc_values.proofs.{FixedLines.{Sel, differs-member, member_now, named, names_itself, place_cases, place_of_member}, Selection.selected_member}
use Rattle.kc_config_file.specs.PartsOfTexts.{kept_lines}
use Rattle.kc_config_file.proofs.{FilledLemmas.{Holds, IsCandidate, contains_cases, contains_here, filled_member, filled_none, filled_symbol, in_flat_map, no_element, to_flat_map}, ShapeLemmas.{allowed_fits, value_shape}}
use Rattle.kc_input.proofs.{DefinedLemmas.{allowed_defined, mentioned, untyped_not}, GivesLemmas.{Gives, gives_all, gives_nothing}, SymbolLineLemmas.{FitsLine, IsOf, own, symbol_gives, symbol_line}}

-- Symbols by number.
pub there : {X : Type 0} (xs : List X) (i : ℕ) → i < length xs → (x : X) × (slice_get xs i ≡ Some x)
there [] i lt = absurd (omega arith)
there (x ∷ xs) i lt = (get_or (x ∷ xs) i x, slice_get-get_or (x ∷ xs) i x lt)

-- A symbol's choice and its place.
place_by_facts : (i c : ℕ) (o : Option SymbolFacts) → option_and_then (λ (f : SymbolFacts). f.choice) o ≡ Some c → sol.user_place_of i o ≡ ChoicePlace c
place_by_facts i c None e = cc
place_by_facts i c (Some f) e = ap (sol.user_place_by i) e

pub place_by_choice : (tree : TreeFacts) (x : SymId) (c : ℕ) → choice_of tree x ≡ Some c → user_place tree x.0 ≡ ChoicePlace c
place_by_choice tree x c e = place_by_facts x.0 c (facts tree x) e

choice_by : (i c : ℕ) (o : Option ℕ) → sol.user_place_by i o ≡ ChoicePlace c → o ≡ Some c
choice_by i c None e = cc
choice_by i c (Some d) e = let h : d ≡ c = cc in ap Some h

choice_facts : (i c : ℕ) (o : Option SymbolFacts) → sol.user_place_of i o ≡ ChoicePlace c → option_and_then (λ (f : SymbolFacts). f.choice) o ≡ Some c
choice_facts i c None e = cc
choice_facts i c (Some f) e = choice_by i c f.choice e

pub choice_by_place : (tree : TreeFacts) (x : SymId) (c : ℕ) → user_place tree x.0 ≡ ChoicePlace c → choice_of tree x ≡ Some c
choice_by_place tree x c e = choice_facts x.0 c (facts tree x) e

pub choice_there : (tree : TreeFacts) (x : SymId) (c : ℕ) → IsWellFormed tree → x.0 < length tree.symbols → choice_of tree x ≡ Some c → c < length tree.choices
choice_there tree x c formed lt is =
    let (f, at) = there tree.symbols x.0 lt in
    let e : f.choice ≡ Some c = sym (ap (option_and_then (λ (g : SymbolFacts). g.choice)) at) ∙ is in
    let (cf, found, listed) = formed.members_listed x.0 f at c e in
    slice_get_within tree.choices c cf found

-- the truth value of a member
yes_if : (b : Bool) → is_yes (given_of (Truth (cond b Y N))) ≡ true → b ≡ true
yes_if true e = refl
yes_if false e = e

module _ (tree : TreeFacts) (user : UserPlace → Option GivenValue) (V : ℕ → SymbolValue) (theirs : MembersAreTheirs tree) (solves : Solves (name_count tree) (equations tree user) V) where
  abbrev Selected : ℕ → Option SymId
  Selected c = Sel tree user V solves c

  -- a member is y where it is selected
  pub yes_selected : (x : SymId) (c : ℕ) → x.0 < length tree.symbols → choice_of tree x ≡ Some c → is_yes (given_of (V x.0)) ≡ true → Selected c ≡ Some x
  yes_selected x c lt is yes_now =
      let now = member_now tree user V solves x.0 c lt (place_by_choice tree x c is) in
      named (Selected c) x (yes_if (is_symbol_of x (Selected c)) (sym (ap (λ k. is_yes (given_of k)) now) ∙ yes_now))

  pub selected_yes : (x : SymId) (c : ℕ) → Selected c ≡ Some x → (x.0 < length tree.symbols) × (user_place tree x.0 ≡ ChoicePlace c) × (is_yes (given_of (V x.0)) ≡ true)
  selected_yes x c sel =
      let at = selected_member tree (known_from tree V) (choice_at tree c) (user (ChoicePlace c)) x sel in
      let mine = theirs c at.0 x at.1 at.2 in
      let place = place_of_member tree x mine.1.0 c mine.1.1 mine.1.2 in
      let now = member_now tree user V solves x.0 c mine.0 place ∙ ap (λ r. Truth (cond (is_symbol_of x r) Y N)) sel ∙ ap (λ b. Truth (cond b Y N)) (names_itself x) in
      (mine.0, place, ap (λ k. is_yes (given_of k)) now)

  -- the places of the symbols that differ
  abbrev pub is_own : UserPlace → Bool
  is_own (SymbolPlace i) = true
  is_own (ChoicePlace c) = false

  abbrev pub differing_member : Option SymId → Bool
  differing_member None = false
  differing_member (Some m) = differs tree user V m.0

  abbrev pub keeps_differing : UserPlace → Bool
  keeps_differing (SymbolPlace i) = nat_lt i (name_count tree) && (is_own (user_place tree i) && differs tree user V i)
  keeps_differing (ChoicePlace c) = differing_member (Selected c)

  kept_own : (i : ℕ) → user_place tree i ≡ SymbolPlace i → i < name_count tree → keeps_differing (SymbolPlace i) ≡ differs tree user V i
  kept_own i at lt = rw (lt-ltb i (name_count tree) lt, at) refl

  own_place_is : (i : ℕ) → is_own (user_place tree i) ≡ true → user_place tree i ≡ SymbolPlace i
  own_place_is i e = elim (place_cases tree i) [
    | inl at ↦ at
    | inr (c, at) ↦ let never : false ≡ true = sym (ap is_own at) ∙ e in cc
  ]

  tell_member : (c : ℕ) (r : Option SymId) → Selected c ≡ r → differing_member r ≡ true → (i : ℕ) × (i < name_count tree) × (user_place tree i ≡ ChoicePlace c) × (differs tree user V i ≡ true)
  tell_member c None sel e = absurd (true≢false (sym e))
  tell_member c (Some m) sel e = let (lt, place, is_y) = selected_yes m c sel in (m.0, lt, place, e)

  member_told : (i c : ℕ) → user_place tree i ≡ ChoicePlace c → differs tree user V i ≡ true → differing_member (Selected c) ≡ true
  member_told i c place e =
      let both = and_parts (is_symbol_of (symbol i) (Selected c)) (not (is_symbol_of (symbol i) (default_selection tree V c))) (sym (differs-member tree user V solves i c place) ∙ e) in
      ap differing_member (named (Selected c) (symbol i) both.0) ∙ e

  pub tells_differing : TellsDiffering tree user V keeps_differing
  tells_differing = record { differing = telling; every = told_each }
    where
      telling : (p : UserPlace) → keeps_differing p ≡ true → (i : ℕ) × (i < name_count tree) × (user_place tree i ≡ p) × (differs tree user V i ≡ true)
      telling (SymbolPlace i) e =
          let (below, rest) = and_parts (nat_lt i (name_count tree)) (is_own (user_place tree i) && differs tree user V i) e in
          let (its_own, other) = and_parts (is_own (user_place tree i)) (differs tree user V i) rest in
          (i, ltb-true i (name_count tree) below, own_place_is i its_own, other)
      telling (ChoicePlace c) e = tell_member c (Selected c) refl e

      told_each : (i : ℕ) → i < name_count tree → differs tree user V i ≡ true → keeps_differing (user_place tree i) ≡ true
      told_each i lt e = elim (place_cases tree i) [
        | inl at ↦ ap keeps_differing at ∙ kept_own i at lt ∙ e
        | inr (c, at) ↦ ap keeps_differing at ∙ member_told i c at e
      ]

-- Reading the lines of the symbols that differ and that a test keeps.
module _ (tree : TreeFacts) (user : UserPlace → Option GivenValue) (V : ℕ → SymbolValue) (formed : IsWellFormed tree) (theirs : MembersAreTheirs tree)
    (bools : MembersAreBools tree) (named_all : HasNames tree) (allowed_at : AllowedPlaces tree user) (law : DifferingAreAllowed)
    (solves : Solves (name_count tree) (equations tree user) V) (prefix : Notation) (is_pre : is_prefix prefix.prefix ≡ true) (keep : SymId → Bool) where
  abbrev pub value_of_symbol : SymId → GivenValue
  value_of_symbol s = given_of (V s.0)

  abbrev pub passes : SymId → Bool
  passes s = keep s && differs tree user V s.0

  abbrev assignment_to : SymId → Assignment
  assignment_to s = record { symbol = s; given = given_of (V s.0) }

  -- what differs is allowed, of its symbol's type, and fits a line
  differing_fits : (s : SymId) (f : SymbolFacts) → slice_get tree.symbols s.0 ≡ Some f → s.0 < length tree.symbols → differs tree user V s.0 ≡ true →
      (allowed tree s (given_of (V s.0)) ≡ true) × IsOf f.symbol_type (V s.0) × FitsLine (V s.0)
  differing_fits s f at lt e =
      let ok : allowed tree s (given_of (V s.0)) ≡ true = law tree user V s.0 lt formed allowed_at solves e in
      let ok_type : allowed_by f.symbol_type (given_of (V s.0)) ≡ true = sym (ap (λ o. allowed_for o (given_of (V s.0))) at) ∙ ok in
      let shape : IsOf f.symbol_type (V s.0) = elim (value_shape tree (known_from tree V) s f (user (user_place tree s.0)) at bools) [
        | inl untyped ↦ absurd (untyped_not f.symbol_type (given_of (V s.0)) untyped ok_type)
        | inr of ↦ rw (solves s.0 lt) of
      ] in
      (ok, shape, allowed_fits f.symbol_type (V s.0) shape ok_type)

  told_is : (s : SymId) → s.0 < length tree.symbols → known_from tree V s ≡ V s.0
  told_is s lt = rw (lt-ltb s.0 (length tree.symbols) lt) refl

  -- its line is one line
  pub differing_line : (s : SymId) → s.0 < length tree.symbols → differs tree user V s.0 ≡ true → IsOneLine (symbol_config tree prefix (valuation_view tree user V) s)
  differing_line s lt e =
      let (f, at) = there tree.symbols s.0 lt in
      let (ok, shape, fits) = differing_fits s f at lt e in
      let defined = allowed_defined tree formed s (given_of (V s.0)) ok in
      subst (λ k. IsOneLine (config_file_line prefix.is_raw (prefix.prefix ++ name_of tree s) k)) (sym (told_is s lt))
      (symbol_line tree prefix [] is_pre formed named_all s f at defined (V s.0) shape fits)

  differing_gives : (stream : List ℕ) (s : SymId) → s.0 < length tree.symbols → differs tree user V s.0 ≡ true →
      Gives tree prefix stream (symbol_config tree prefix (valuation_view tree user V) s) (assignment_to s ∷ [])
  differing_gives stream s lt e =
      let (f, at) = there tree.symbols s.0 lt in
      let (ok, shape, fits) = differing_fits s f at lt e in
      let defined = allowed_defined tree formed s (given_of (V s.0)) ok in
      let own_is : own tree prefix stream is_pre formed named_all s f at defined (V s.0) ≡ Some (assignment_to s) = rw ok refl in
      let line = symbol_gives tree prefix stream is_pre formed named_all s f at defined (V s.0) shape fits in
      subst (λ k. Gives tree prefix stream (config_file_line prefix.is_raw (prefix.prefix ++ name_of tree s) k) (assignment_to s ∷ [])) (sym (told_is s lt))
      (subst (λ o. Gives tree prefix stream (config_file_line prefix.is_raw (prefix.prefix ++ name_of tree s) (V s.0)) (cons_option o [])) own_is line)

  -- a symbol that differs is defined
  differing_defined : (s : SymId) → s.0 < length tree.symbols → passes s ≡ true → Contains tree.defined s
  differing_defined s lt pass =
      let (stay, other) = and_parts (keep s) (differs tree user V s.0) pass in
      allowed_defined tree formed s (given_of (V s.0)) (law tree user V s.0 lt formed allowed_at solves other)

  abbrev line_if : Bool → Bool → SymId → List ℕ
  line_if stay other s = cond stay (cond other (symbol_config tree prefix (valuation_view tree user V) s) []) []

  abbrev given_if : Bool → Bool → SymId → List Assignment
  given_if stay other s = cond stay (cond other (assignment_to s ∷ []) []) []

  gives_if : (stream : List ℕ) (s : SymId) → s.0 < length tree.symbols → (stay other : Bool) → differs tree user V s.0 ≡ other → Gives tree prefix stream (line_if stay other s) (given_if stay other s)
  gives_if stream s lt false other e = gives_nothing tree prefix stream
  gives_if stream s lt true false e = gives_nothing tree prefix stream
  gives_if stream s lt true true e = differing_gives stream s lt e

  abbrev pub all_given : List Assignment
  all_given = flat_map (λ s. given_if (keep s) (differs tree user V s.0) s) tree.defined

  pub minimal_gives : (stream : List ℕ) → Gives tree prefix stream (kept_lines tree prefix (valuation_view tree user V) keep) all_given
  minimal_gives stream =
      gives_all tree prefix stream (λ s. line_if (keep s) (differs tree user V s.0) s) (λ s. given_if (keep s) (differs tree user V s.0) s) tree.defined
      (λ s c. gives_if stream s (mentioned tree formed s c) (keep s) (differs tree user V s.0) refl)

  in_given : (s : SymId) (a : Assignment) (stay other : Bool) → Contains (given_if stay other s) a → ((stay && other) ≡ true) × (assignment_to s ≡ a)
  in_given s a false other c = absurd (no_element a c)
  in_given s a true false c = absurd (no_element a c)
  in_given s a true true c = elim (contains_cases (assignment_to s) a [] c) [ inl e ↦ (refl, e) | inr later ↦ absurd (no_element a later) ]

  to_given : (s : SymId) (stay other : Bool) → (stay && other) ≡ true → Contains (given_if stay other s) (assignment_to s)
  to_given s true true e = contains_here (assignment_to s) []
  to_given s true false e = absurd (true≢false (sym e))
  to_given s false other e = absurd (true≢false (sym e))

  pub minimal_holds : Holds tree value_of_symbol passes all_given
  minimal_holds = record {
    sound = λ a c.
        let (s, at, mine) = in_flat_map (λ s. given_if (keep s) (differs tree user V s.0) s) tree.defined a c in
        let (pass, is) = in_given s a (keep s) (differs tree user V s.0) mine in
        let same : s ≡ a.symbol = ap (λ (x : Assignment). x.symbol) is in (
          sym (ap passes same) ∙ pass,
          sym (ap (λ (x : Assignment). x.given) is) ∙ ap value_of_symbol same,
          subst (λ (x : SymId). x.0 < length tree.symbols) same (mentioned tree formed s at),
        );
    complete = λ s lt pass. (
      assignment_to s,
      to_flat_map (λ s. given_if (keep s) (differs tree user V s.0) s) tree.defined s (assignment_to s) (differing_defined s lt pass) (to_given s (keep s) (differs tree user V s.0) pass),
      refl,
    );
  }

  -- the places that were kept
  abbrev pub stays_member : Option SymId → Bool
  stays_member None = true
  stays_member (Some m) = keep m

  abbrev pub stays : UserPlace → Bool
  stays (SymbolPlace i) = keep (symbol i)
  stays (ChoicePlace c) = stays_member (Sel tree user V solves c)

  abbrev Lines : UserPlace → Option GivenValue
  Lines = kept stays (kept (keeps_differing tree user V theirs solves) (minimal_line tree user V))

  abbrev Left : UserPlace → Option GivenValue
  Left = place_at (places_given tree (no_places tree) all_given)

  both_if : (a b : Bool) (o : Option GivenValue) → cond (a && b) o None ≡ cond a (cond b o None) None
  both_if true b o = refl
  both_if false b o = refl

  left_own : (i : ℕ) → i < name_count tree → user_place tree i ≡ SymbolPlace i → Left (SymbolPlace i) ≡ Lines (SymbolPlace i)
  left_own i lt at =
      filled_symbol tree value_of_symbol passes all_given minimal_holds i lt
      ∙ both_if (keep (symbol i)) (differs tree user V i) (Some (given_of (V i)))
      ∙ ap (λ b. cond (keep (symbol i)) (cond b (Some (given_of (V i))) None) None) (sym (kept_own tree user V theirs solves i at lt))

  candidate_selected : (c : ℕ) (x : SymId) → IsCandidate tree value_of_symbol passes all_given minimal_holds c x → Sel tree user V solves c ≡ Some x
  candidate_selected c x (lt, pass, choice, is_y) = yes_selected tree user V theirs solves x c lt choice is_y

  left_member : (c : ℕ) (r : Option SymId) → c < length tree.choices → Sel tree user V solves c ≡ r →
      Left (ChoicePlace c) ≡ cond (stays_member r) (cond (differing_member tree user V theirs solves r) (option_map Member r) None) None
  left_member c None lt sel =
      filled_none tree value_of_symbol passes all_given minimal_holds c lt
      (λ x candidate. let never : None ≡ Some x = sym sel ∙ candidate_selected c x candidate in cc)
  left_member c (Some m) lt sel = elim (cases_Bool (passes m)) [
    | inl pass ↦
        let (below, place, is_y) = selected_yes tree user V theirs solves m c sel in
        let (stay, other) = and_parts (keep m) (differs tree user V m.0) pass in
        filled_member tree value_of_symbol passes all_given minimal_holds c m lt (below, pass, choice_by_place tree m c place, is_y)
        (λ x candidate. let e : Some m ≡ Some x = sym sel ∙ candidate_selected c x candidate in cc)
        ∙ rw (stay, other) refl
    | inr fails ↦
        filled_none tree value_of_symbol passes all_given minimal_holds c lt
        (λ x candidate.
        let e : Some m ≡ Some x = sym sel ∙ candidate_selected c x candidate in
        let same : m ≡ x = cc in
        absurd (true≢false (sym (candidate.1) ∙ sym (ap passes same) ∙ fails)))
        ∙ sym (sym (both_if (keep m) (differs tree user V m.0) (Some (Member m))) ∙ ap (λ b. cond b (Some (Member m)) None) fails)
  ]

  -- the places that these lines leave are those that the lines stand for
  pub left_at : (i : ℕ) → i < name_count tree → Left (user_place tree i) ≡ Lines (user_place tree i)
  left_at i lt = elim (place_cases tree i) [
    | inl at ↦ rw at (left_own i lt at)
    | inr (c, at) ↦ rw at (left_member c (Sel tree user V solves c) (choice_there tree (symbol i) c formed lt (choice_by_place tree (symbol i) c at)) refl)
  ]
