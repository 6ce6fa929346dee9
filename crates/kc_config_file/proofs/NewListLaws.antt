-- What reading the list of new symbols gives.
use Rattle.std.proofs.{Common.{Bool, List, None, Option, Some, [], ap, append-nil, append_assoc, arith, codes, cond, eqb, false, get_or, inl, inr, length, not, refl, subst, suc, sym, true, ℕ, ◌++◌, ◌+◌, ◌<◌, ◌↔◌, ◌∙◌, ◌∷◌, ◌≡◌, ◌≤◌}, lemmas.{Bool.{and_from, and_parts, cases_Bool, eq-eqb, eqb-false, eqb-true, le-leb, lt-ltb, true≢false}, List.{Elements.All-append, Folds.list_any_none, get_or-replicate, get_or-set_other, get_or-set_same, length-append, length-replicate}, Option.slice_get-get_or}}
use Rattle.std.specs.{List.{Contains, cons_option, filter_map, flat_map, last_or, list_any}, Option.{option_and_then, option_map_or}, Prelude.{is_some, nat_le, option_map, slice_get, slice_index_or, ◌&&◌}, Str.Lines.strip_carriage_return}
use Rattle.kc_language.specs.{ConfigFile.{ArePlacesOf, Assignment, Assigns, Effect, Line, Notation, Places, ReadResult, Silent, UserInput, Warns, effect, effect_of, input_after, is_prefix, is_within, lines_from, no_input, place_at, places_given, reading, reading_of, stream_location, unset_name, warning}, Expressions.{SymbolValue, TextValue, Truth, greater, symbol}, Lines.is_line_feed, Symbols.{SymbolFacts, TreeFacts}, Text.{escape, hex_of, int_of}, Texts.{HasShortStrings, IsOneSolution, config_file_line, has_value, new_text, symbol_new, valuation_view}, Values.{ChoicePlace, GivenText, GivenValue, Member, Solves, SymbolPlace, UserPlace, changes_on_reread, equations, facts, given_of, is_chosen, is_new, is_yes, known_from, name as name_of, name_count, rhs, user_place}, declared.expressions.{SymId.SymId, SymbolType.SymbolType, Tri.TheVariants.{N, Y}}}
use Rattle.kc_language.specs.declared.expressions.SymbolType.TheVariants as symbol_type
use Rattle.kc_language.specs.Values as v
use Rattle.kc_text.specs.PartsOfText.{one_more}
use Rattle.kc_user.specs.{PartsOfConfigFile.{member_place, no_places}, Places.{allowed, allowed_by, allowed_for, is_m}}
use Rattle.kc_values.specs.{GivenLines.{is_listed, listed_place}, Laws.{EquationsReadNeeds, NeedsAreSymbols, NewLinesKeep, SolutionsAgree}, Members.{MembersAreBools, MembersAreTheirs}, PartsOfValues.by_choice}
use Rattle.kc_values.specs.PartsOfValues as v_parts
use Rattle.kc_values.proofs.{FixedLines.{Sel, place_cases}, IdempotentLines.upgrade_allowed, ModeLaws.{members_are_bools, members_are_theirs}, NewLines.{new_from, new_parts}}
use Rattle.kc_input.specs.{HasNames.HasNames, PartsOfConfigFile.{assignment_of, choice_of, chosen_in, given_to, is_this_choice, line, trimmed}, PartsOfTexts.IsOneLine, Reading.with_warnings}
use Rattle.kc_config_file.specs.WrittenLaws.{IsSolutionOf, NewListGivesBack}
use Rattle.kc_config_file.proofs.{CommentLemmas.{comment_says, unset_not_last}, FilledLemmas.{contains_cases, contains_here, contains_later, get_each, in_flat_map, last_none, last_same, no_element, to_flat_map}, MinimalTextLemmas.{choice_by_place, choice_there, selected_yes, yes_selected}, ShapeLemmas.{allowed_fits, value_shape}, ValueTextLemmas.{fits_known, fits_parts, values_fit}}
use Rattle.kc_input.proofs.{DefinedLemmas.{has_names, mentioned, untyped_not}, EscapeLemmas.escape_longer, GivesLemmas.Gives, LineLemmas.{HasNoLf, is_within-line, lines_from-last, lines_from-lf}, PlaceLemmas.{places_given-append, places_given-nothing, places_given-one}, ReadingLemmas.{reading-nothing, reading_long, reading_within}, RoundTripLemmas.{strip_solid, trimmed-solid}, SymbolLineLemmas.{IsOf, full_no_lf, no_lf_check, own, short_prefix, symbol_gives, symbol_line}}

-- ---- assignments in places

same_assignment : (a b : Assignment) → a.symbol.0 ≡ b.symbol.0 → a.given ≡ b.given → a ≡ b
same_assignment a b s g = λ i. record { symbol = record { 0 = s i }; given = g i }

effect_is : (e : Effect) (a : Assignment) → assignment_of e ≡ Some a → e ≡ Assigns a.symbol a.given
effect_is Silent a is = absurd (let clash : None ≡ Some a = is in cc)
effect_is (Warns w) a is = absurd (let clash : None ≡ Some a = is in cc)
effect_is (Assigns s given) a is =
    let b : Assignment = record { symbol = s; given = given } in
    let both : Some b ≡ Some a = is in
    let same : b ≡ a = cc in
    ap (λ (x : Assignment). Assigns x.symbol x.given) same

abbrev at_symbol : ℕ → Places → Option GivenValue
at_symbol i p = place_at p (SymbolPlace i)

module _ (tree : TreeFacts) (places : Places) (a : Assignment) where
  given_at : a.symbol.0 < length places.symbols → at_symbol a.symbol.0 (places_given tree places (a ∷ [])) ≡ Some a.given
  given_at lt = ap (at_symbol a.symbol.0) (places_given-one tree places a.symbol a.given) ∙ get_or-set_same places.symbols a.symbol.0 (Some a.given) None lt

  given_elsewhere : (i : ℕ) → (i ≡ a.symbol.0 → ⊥) → at_symbol i (places_given tree places (a ∷ [])) ≡ at_symbol i places
  given_elsewhere i other = ap (at_symbol i) (places_given-one tree places a.symbol a.given) ∙ get_or-set_other places.symbols a.symbol.0 i (Some a.given) None other

abbrev no_given : Option GivenValue
no_given = None

module _ (tree : TreeFacts) where
  abbrev empty : Places
  empty = no_places tree

  empty_at : (i : ℕ) → i < length tree.symbols → at_symbol i empty ≡ None
  empty_at i lt = get_or-replicate (length tree.symbols) i no_given no_given lt

  empty_long : (i : ℕ) → i < length tree.symbols → i < length empty.symbols
  empty_long i lt = rw length-replicate lt

  -- the assignment that leaves the same as this one in empty places is this one
  only_one : (o : Option Assignment) (a : Assignment) → a.symbol.0 < length tree.symbols →
      places_given tree empty (cons_option o []) ≡ places_given tree empty (a ∷ []) → o ≡ Some a
  only_one None a lt e =
      let none : at_symbol a.symbol.0 (places_given tree empty []) ≡ None = ap (at_symbol a.symbol.0) (places_given-nothing tree empty) ∙ empty_at a.symbol.0 lt in
      absurd (let clash : None ≡ Some a.given = sym none ∙ ap (at_symbol a.symbol.0) e ∙ given_at tree empty a (empty_long a.symbol.0 lt) in cc)
  only_one (Some b) a lt e = elim (cases_Bool (eqb b.symbol.0 a.symbol.0)) [
    | inl same ↦
        let is : b.symbol.0 ≡ a.symbol.0 = eqb-true b.symbol.0 a.symbol.0 same in
        let first : at_symbol b.symbol.0 (places_given tree empty (b ∷ [])) ≡ Some b.given = given_at tree empty b (empty_long b.symbol.0 (omega (arith, is, lt))) in
        let here : Some b.given ≡ Some a.given =
        sym first ∙ ap (λ i. at_symbol i (places_given tree empty (b ∷ []))) is ∙ ap (at_symbol a.symbol.0) e ∙ given_at tree empty a (empty_long a.symbol.0 lt) in
        let given : b.given ≡ a.given = cc in
        ap Some (same_assignment b a is given)
    | inr other ↦
        let clash : None ≡ Some a.given =
        sym (given_elsewhere tree empty b a.symbol.0 (λ same. eqb-false b.symbol.0 a.symbol.0 other (sym same)) ∙ empty_at a.symbol.0 lt)
        ∙ ap (at_symbol a.symbol.0) e ∙ given_at tree empty a (empty_long a.symbol.0 lt) in
        cc
  ]

-- ---- what is read without a warning

module _ (tree : TreeFacts) (prefix : Notation) (stream : List ℕ) where
  -- a text of one line, which gives a symbol this value
  record DoesOne (text : List ℕ) (a : Assignment) : Type 0 where
    body : List ℕ
    is_line : text ≡ body ++ 10 ∷ []
    no_lf : HasNoLf body
    does : (n : ℕ) → (is_within (line stream n body true) ≡ true) × (effect tree prefix (line stream n body true) ≡ Assigns a.symbol a.given)

  abbrev start : UserInput
  start = no_input false tree

  no_bytes : HasNoLf []
  no_bytes = λ k d lt. absurd (let never : k < 0 = lt in omega arith)

  one_line_does : (text : List ℕ) (a : Assignment) → a.symbol.0 < length tree.symbols → Gives tree prefix stream text (a ∷ []) → IsOneLine text → DoesOne text a
  one_line_does text a lt gives (body, is, none) = record { body = body; is_line = is; no_lf = none; does = λ n. by n (is_within (line stream n body true)) refl }
    where
      lines_are : (n : ℕ) → lines_from stream n (text ++ []) ≡ line stream n body true ∷ []
      lines_are n =
          ap (lines_from stream n) (append-nil text ∙ is) ∙ lines_from-lf stream n body 10 [] none refl
          ∙ ap (λ ls. line stream n body true ∷ ls) (lines_from-last stream (one_more n) [] no_bytes)

      ends : (n : ℕ) → (after : UserInput) × (warned : List ℕ) × (after.places ≡ places_given tree start.places (a ∷ []))
          × (reading tree prefix start (line stream n body true ∷ []) ≡ record { input = after; warned = warned; stopped = None })
      ends n =
          let (next, (w, after, made, goes)) = gives n [] start in (
            after,
            w ++ [],
            made,
            sym (ap (reading tree prefix start) (lines_are n)) ∙ goes ∙ ap (λ ls. with_warnings w (reading tree prefix after ls)) (lines_from-last stream next [] no_bytes)
                ∙ ap (with_warnings w) (reading-nothing tree prefix after),
          )

      by : (n : ℕ) (b : Bool) → is_within (line stream n body true) ≡ b →
          (is_within (line stream n body true) ≡ true) × (effect tree prefix (line stream n body true) ≡ Assigns a.symbol a.given)
      by n false long =
          let (after, warned, made, whole) = ends n in
          absurd (let clash : Some (stream_location (line stream n body true)) ≡ None =
          sym (ap (λ (r : ReadResult). r.stopped) (reading_long tree prefix start (line stream n body true) [] long)) ∙ ap (λ (r : ReadResult). r.stopped) whole in cc)
      by n true short =
          let (after, warned, made, whole) = ends n in
          let l = line stream n body true in
          let read : (reading tree prefix start (l ∷ [])).input ≡ input_after tree prefix start (l ∷ []) =
          ap (λ (r : ReadResult). r.input) (reading_within tree prefix start l [] short)
          ∙ ap (λ (r : ReadResult). r.input) (reading-nothing tree prefix (input_after tree prefix start (l ∷ []))) in
          let same : places_given tree (no_places tree) (cons_option (assignment_of (effect tree prefix l)) []) ≡ places_given tree (no_places tree) (a ∷ []) =
          sym (ap (λ (i : UserInput). i.places) read) ∙ ap (λ (r : ReadResult). r.input.places) whole ∙ made in
          (short, effect_is (effect tree prefix l) a (only_one tree (assignment_of (effect tree prefix l)) a lt same))

  -- reading this text makes these assignments, and warns of nothing
  abbrev Quiet : List ℕ → List Assignment → UserInput → Type 0
  Quiet text given input =
      (n : ℕ) (rest : List ℕ) → (next : ℕ) × (after : UserInput) × (after.places ≡ places_given tree input.places given)
      × (reading tree prefix input (lines_from stream n (text ++ rest)) ≡ reading tree prefix after (lines_from stream next rest))

  quiet_nothing : (input : UserInput) → Quiet [] [] input
  quiet_nothing input n rest = (n, input, sym (places_given-nothing tree input.places), refl)

  quiet_append : (a b : List ℕ) (g h : List Assignment) (input : UserInput) → Quiet a g input →
      ((after : UserInput) → after.places ≡ places_given tree input.places g → Quiet b h after) → Quiet (a ++ b) (g ++ h) input
  quiet_append a b g h input first second n rest =
      let (mid, middle, made, is) = first n (b ++ rest) in
      let (next, after, more, then_) = second middle made mid rest in (
        next,
        after,
        more ∙ ap (λ (p : Places). places_given tree p h) made ∙ sym (places_given-append tree input.places g h),
        ap (λ t. reading tree prefix input (lines_from stream n t)) (append_assoc a b rest) ∙ is ∙ then_,
      )

  -- the warning of such a line
  quiet_warning : (input : UserInput) (l : Line) (s : SymId) (given : GivenValue) → effect tree prefix l ≡ Assigns s given → at_symbol s.0 input.places ≡ None →
      warning tree prefix input l ≡ []
  unfolding warning
  quiet_warning input l s given is none = rw (is, none) refl

  silent_warning : (input : UserInput) (l : Line) → effect tree prefix l ≡ Silent → warning tree prefix input l ≡ []
  unfolding warning
  silent_warning input l is = rw is refl

  -- one line that is not too long, and that is not warned of
  quiet_body : (body : List ℕ) (given : List Assignment) (input : UserInput) → HasNoLf body → ((n : ℕ) → is_within (line stream n body true) ≡ true) →
      ((n : ℕ) → warning tree prefix input (line stream n body true) ≡ []) →
      ((n : ℕ) → cons_option (assignment_of (effect tree prefix (line stream n body true))) [] ≡ given) → Quiet (body ++ 10 ∷ []) given input
  quiet_body body given input none short quiet gives n rest =
      let l = line stream n body true in
      let after : UserInput = input_after tree prefix input (l ∷ []) in (
        one_more n,
        after,
        ap (places_given tree input.places) (gives n),
        ap (λ t. reading tree prefix input (lines_from stream n t)) (append_assoc body (10 ∷ []) rest)
            ∙ ap (reading tree prefix input) (lines_from-lf stream n body 10 rest none refl)
            ∙ reading_within tree prefix input l (lines_from stream (one_more n) rest) (short n)
            ∙ ap (λ w. with_warnings w (reading tree prefix after (lines_from stream (one_more n) rest))) (quiet n),
      )

  quiet_line : (text : List ℕ) (a : Assignment) (input : UserInput) → DoesOne text a → at_symbol a.symbol.0 input.places ≡ None → Quiet text (a ∷ []) input
  quiet_line text a input one none =
      subst (λ t. Quiet t (a ∷ []) input) (sym one.is_line)
      (quiet_body one.body (a ∷ []) input one.no_lf (λ n. (one.does n).0) (λ n. quiet_warning input (line stream n one.body true) a.symbol a.given (one.does n).1 none)
      (λ n. ap (λ (e : Effect). cons_option (assignment_of e) []) (one.does n).1))

  quiet_comment : (body : List ℕ) (input : UserInput) → HasNoLf body → length body ≤ 65535 → ((n : ℕ) → effect tree prefix (line stream n body true) ≡ Silent) → Quiet (body ++ 10 ∷ []) [] input
  quiet_comment body input none short silent =
      quiet_body body [] input none (λ n. is_within-line stream n body true short) (λ n. silent_warning input (line stream n body true) (silent n))
      (λ n. ap (λ (e : Effect). cons_option (assignment_of e) []) (silent n))

  -- ---- one symbol after another

  -- no two are the same
  abbrev AreDistinct : List SymId → Type 0
  AreDistinct xs = (i j : ℕ) (s t : SymId) → slice_get xs i ≡ Some s → slice_get xs j ≡ Some t → s.0 ≡ t.0 → i ≡ j

  module _ (text : SymId → List ℕ) (value : SymId → GivenValue) (has : SymId → Bool) where
    abbrev assigned : SymId → Assignment
    assigned s = record { symbol = s; given = value s }

    abbrev given : SymId → List Assignment
    given s = cond (has s) (assigned s ∷ []) []

    abbrev AreFree : UserInput → List SymId → Type 0
    AreFree input xs = (s : SymId) → Contains xs s → has s ≡ true → at_symbol s.0 input.places ≡ None

    elsewhere : (places : Places) (s : SymId) (b : Bool) (i : ℕ) → (i ≡ s.0 → ⊥) → at_symbol i (places_given tree places (cond b (assigned s ∷ []) [])) ≡ at_symbol i places
    elsewhere places s true i other = given_elsewhere tree places (assigned s) i other
    elsewhere places s false i other = ap (at_symbol i) (places_given-nothing tree places)

    quiet_all : (xs : List SymId) (input : UserInput) → AreDistinct xs → AreFree input xs →
        ((s : SymId) → Contains xs s → (i : UserInput) → (has s ≡ true → at_symbol s.0 i.places ≡ None) → Quiet (text s) (given s) i) →
        Quiet (flat_map text xs) (flat_map given xs) input
    quiet_all [] input distinct free one = quiet_nothing input
    quiet_all (x ∷ xs) input distinct free one =
        quiet_append (text x) (flat_map text xs) (given x) (flat_map given xs) input (one x (contains_here x xs) input (free x (contains_here x xs)))
        (λ after made. quiet_all xs after (λ i j s t a b e. let both : suc i ≡ suc j = distinct (suc i) (suc j) s t a b e in omega (arith, both))
        (λ s c h. ap (at_symbol s.0) made ∙ elsewhere input.places x (has x) s.0 (other s c) ∙ free s (contains_later x s xs c) h)
        (λ s c i f. one s (contains_later x s xs c) i f))
      where
        other : (s : SymId) → Contains xs s → s.0 ≡ x.0 → ⊥
        other s (k, lt, is) same =
            let at : slice_get xs k ≡ Some s = slice_get-get_or xs k s lt ∙ ap Some is in
            let both : 0 ≡ suc k = distinct 0 (suc k) x s refl at (sym same) in
            absurd (omega (arith, both))

-- ---- the places that assignments leave behind others

module _ (tree : TreeFacts) (places : Places) (there : ArePlacesOf tree places) (given : List Assignment) where
  symbol_after : (i : ℕ) → i < length tree.symbols → at_symbol i (places_given tree places given) ≡ last_or (at_symbol i places) (filter_map (given_to i) given)
  unfolding places_given
  symbol_after i lt =
      let long : i < length places.symbols = omega (arith, lt, there.symbols) in
      get_each (λ j old. last_or old (filter_map (given_to j) given)) 0 places.symbols i no_given no_given long
      ∙ (let z : 0 + i ≡ i = omega arith in ap (λ k. last_or (get_or places.symbols i no_given) (filter_map (given_to k) given)) z)

  choice_after : (c : ℕ) → c < length tree.choices →
      place_at (places_given tree places given) (ChoicePlace c) ≡ member_place (last_or (slice_index_or places.choices c None) (filter_map (chosen_in tree c) given))
  unfolding places_given
  choice_after c lt =
      let long : c < length places.choices = omega (arith, lt, there.choices) in
      let no_member : Option SymId = None in
      ap member_place (get_each (λ j old. last_or old (filter_map (chosen_in tree j) given)) 0 places.choices c no_member no_member long
      ∙ (let z : 0 + c ≡ c = omega arith in ap (λ k. last_or (get_or places.choices c no_member) (filter_map (chosen_in tree k) given)) z))

this_choice : (c : ℕ) (o : Option ℕ) → is_this_choice c o ≡ true → o ≡ Some c
this_choice c None e = cc
this_choice c (Some d) e = ap Some (eqb-true d c e)

to_this_choice : (c : ℕ) (o : Option ℕ) → o ≡ Some c → is_this_choice c o ≡ true
to_this_choice c o e = rw e (eq-eqb c c refl)

-- ---- the values that the lines give are allowed

module _ (tree : TreeFacts) (known : SymId → SymbolValue) (s : SymId) (f : SymbolFacts) where
  abbrev value_of_type : SymbolType → Option GivenValue → SymbolValue
  value_of_type kd u = v.by_type tree known s f kd u

  text_allowed : (t : List ℕ) → length (34 ∷ escape t ++ 34 ∷ []) ≤ 65000 → fits_known (TextValue symbol_type.Str t) ≡ true → allowed_by symbol_type.Str (GivenText t) ≡ true
  text_allowed t short fits =
      let le : length (escape t) + 2 ≤ 65000 = omega (arith, short, length-append (escape t) (34 ∷ [])) in
      and_from (nat_le (length (escape t) + 2) 65000) (not (list_any is_line_feed t)) (le-leb (length (escape t) + 2) 65000 le)
      (ap not (list_any_none is_line_feed t (fits_parts t fits).0))

  number_allowed : (t : List ℕ) (is_number : Bool) → is_number ≡ true → fits_known (TextValue symbol_type.Int t) ≡ true → (nat_le (length t) 65000 && is_number) ≡ true
  number_allowed t is_number is fits =
      let short = (fits_parts t fits).1 in
      let long = escape_longer t in
      and_from (nat_le (length t) 65000) is_number (le-leb (length t) 65000 (omega (arith, short, long))) is

  value_allowed : (kd : SymbolType) (u : Option GivenValue) → f.symbol_type ≡ kd → v.can_change tree known s f kd ≡ true → has_value (value_of_type kd u) ≡ true →
      fits_known (value_of_type kd u) ≡ true → ((t : List ℕ) → value_of_type kd u ≡ TextValue symbol_type.Str t → length (34 ∷ escape t ++ 34 ∷ []) ≤ 65000) →
      allowed_by kd (given_of (value_of_type kd u)) ≡ true
  value_allowed symbol_type.Undefined u typed change value fits short = absurd (true≢false (sym change))
  value_allowed symbol_type.Bool u typed change value fits short =
      let x = greater (v.user_or u (v.visibility tree known f) (v.implied_value tree known f)) (v.selected_to tree known f) in
      ap (λ k. not (is_m (v.upgraded tree known k x))) typed ∙ upgrade_allowed tree known x
  value_allowed symbol_type.Tristate u typed change value fits short = refl
  value_allowed symbol_type.Str u typed change value fits short = text_allowed (v_parts.text_equation tree known f u) (short (v_parts.text_equation tree known f u) refl) fits
  value_allowed symbol_type.Int u typed change value fits short =
      let t = v.number_equation tree known f u in number_allowed t (is_some (int_of t)) value fits
  value_allowed symbol_type.Hex u typed change value fits short =
      let t = v.number_equation tree known f u in number_allowed t (is_some (hex_of t)) value fits

member_allowed : (b : Bool) → allowed_by symbol_type.Bool (given_of (Truth (cond b Y N))) ≡ true
member_allowed true = refl
member_allowed false = refl

module _ (tree : TreeFacts) (prefix : Notation) (stream : List ℕ) (is_pre : is_prefix prefix.prefix ≡ true) (input : UserInput) (V : ℕ → SymbolValue) (is : IsSolutionOf tree input.places V)
    (reads : EquationsReadNeeds) (within : NeedsAreSymbols) (keep : NewLinesKeep) (agree : SolutionsAgree)
    (short : HasShortStrings tree (valuation_view tree (place_at input.places) V) V) where
  abbrev user : UserPlace → Option GivenValue
  user = place_at input.places

  abbrev K : SymId → SymbolValue
  K = known_from tree V

  abbrev listed : SymId → Bool
  listed s = is_listed tree user V s

  abbrev value_to : SymId → GivenValue
  value_to s = given_of (V s.0)

  bools : MembersAreBools tree
  bools = members_are_bools tree is.formed

  theirs : MembersAreTheirs tree
  theirs = members_are_theirs tree is.formed

  names : HasNames tree
  names = has_names tree is.formed

  known_here : (s : SymId) → s.0 < name_count tree → K s ≡ V s.0
  known_here s lt = rw (lt-ltb s.0 (length tree.symbols) lt) refl

  fits : (s : SymId) → s.0 < name_count tree → fits_known (V s.0) ≡ true
  fits s lt = values_fit tree user V is.formed.texts is.held.allowed_all reads within is.solves is.accepted s.0 lt

  -- what is listed is allowed
  type_allowed : (s : SymId) → s.0 < name_count tree → (f : SymbolFacts) → facts tree s ≡ Some f → is_new tree K user s ≡ true → has_value (V s.0) ≡ true →
      v.is_new_by tree K user s f f.choice ≡ true → (c : Option ℕ) → f.choice ≡ c → allowed_by f.symbol_type (given_of (V s.0)) ≡ true
  type_allowed s lt f found new value by None e =
      let u = user (user_place tree s.0) in
      let now : V s.0 ≡ v.by_type tree K s f f.symbol_type u =
      is.solves s.0 lt ∙ ap (λ o. v.equation tree K s o u) found ∙ ap (λ c. by_choice tree K s f c u) e in
      let change : v.can_change tree K s f f.symbol_type ≡ true = subst (λ c. v.is_new_by tree K user s f c ≡ true) e by in
      ap (λ x. allowed_by f.symbol_type (given_of x)) now
      ∙ value_allowed tree K s f f.symbol_type u refl change (sym (ap has_value now) ∙ value) (sym (ap fits_known now) ∙ fits s lt) (λ t same. short s t lt new (now ∙ same))
  type_allowed s lt f found new value by (Some c) e =
      let u = user (user_place tree s.0) in
      let now = is.solves s.0 lt ∙ ap (λ o. v.equation tree K s o u) found ∙ ap (λ c. by_choice tree K s f c u) e in
      ap (λ k. allowed_by k (given_of (V s.0))) (bools s f c found e) ∙ ap (λ x. allowed_by symbol_type.Bool (given_of x)) now ∙ member_allowed _

  allows : (s : SymId) → s.0 < name_count tree → listed s ≡ true → allowed tree s (given_of (V s.0)) ≡ true
  allows s lt is_it =
      let (new, value) = and_parts (is_new tree K user s) (has_value (V s.0)) is_it in
      let (f, found, none, by) = new_parts tree user V s new in
      ap (λ o. allowed_for o (given_of (V s.0))) found ∙ type_allowed s lt f found new value by f.choice refl

  -- ---- the line of one symbol

  abbrev full : SymId → List ℕ
  full s = prefix.prefix ++ name_of tree s

  abbrev assignment_to : SymId → Assignment
  assignment_to s = record { symbol = s; given = given_of (V s.0) }

  shape_of : (s : SymId) → s.0 < name_count tree → (f : SymbolFacts) → facts tree s ≡ Some f → allowed_by f.symbol_type (given_of (V s.0)) ≡ true → IsOf f.symbol_type (V s.0)
  shape_of s lt f found ok_type = elim (value_shape tree K s f (user (user_place tree s.0)) found bools) [
    | inl untyped ↦ absurd (untyped_not f.symbol_type (given_of (V s.0)) untyped ok_type)
    | inr of ↦ subst (IsOf f.symbol_type) (sym (is.solves s.0 lt)) of
  ]

  listed_does : (s : SymId) → Contains tree.defined s → listed s ≡ true → DoesOne tree prefix stream (config_file_line prefix.is_raw (full s) (V s.0)) (assignment_to s)
  listed_does s defined is_it =
      let lt = mentioned tree is.formed s defined in
      let (new, value) = and_parts (is_new tree K user s) (has_value (V s.0)) is_it in
      let (f, found, none, by) = new_parts tree user V s new in
      let ok = allows s lt is_it in
      let ok_type : allowed_by f.symbol_type (given_of (V s.0)) ≡ true = sym (ap (λ o. allowed_for o (given_of (V s.0))) found) ∙ ok in
      let shape = shape_of s lt f found ok_type in
      let fit = allowed_fits f.symbol_type (V s.0) shape ok_type in
      let own_is : own tree prefix stream is_pre is.formed names s f found defined (V s.0) ≡ Some (assignment_to s) = ap (λ b. cond b (Some (assignment_to s)) None) ok in
      let gives : Gives tree prefix stream (config_file_line prefix.is_raw (full s) (V s.0)) (assignment_to s ∷ []) =
      subst (λ o. Gives tree prefix stream (config_file_line prefix.is_raw (full s) (V s.0)) (cons_option o [])) own_is (symbol_gives tree prefix stream is_pre is.formed names s f found defined (V s.0) shape fit) in
      one_line_does tree prefix stream (config_file_line prefix.is_raw (full s) (V s.0)) (assignment_to s) lt gives (symbol_line tree prefix stream is_pre is.formed names s f found defined (V s.0) shape fit)

  -- the comment of a symbol without a value
  abbrev front : SymId → List ℕ
  front s = codes "# " ++ (full s ++ codes " has no valu")

  comment_silent : (s : SymId) (n : ℕ) → effect tree prefix (line stream n (front s ++ 101 ∷ []) true) ≡ Silent
  unfolding effect
  comment_silent s n =
      let stripped : strip_carriage_return (front s ++ 101 ∷ []) ≡ front s ++ 101 ∷ [] = strip_solid (front s) 101 refl in
      elim (comment_says prefix.prefix (32 ∷ ((full s ++ codes " has no valu") ++ 101 ∷ []))) [
        | inl says ↦ ap (effect_of prefix.is_raw tree) says
        | inr (called, says, unset) ↦
            absurd (unset_not_last prefix.prefix (front s) 101 called refl
            (sym (ap (unset_name prefix.prefix) (ap trimmed stripped ∙ trimmed-solid (front s) 101 refl)) ∙ unset))
      ]

  comment_quiet : (s : SymId) → Contains tree.defined s → (f : SymbolFacts) → facts tree s ≡ Some f → (i : UserInput) →
      Quiet tree prefix stream (codes "# " ++ full s ++ codes " has no value\n") [] i
  comment_quiet s defined f found i =
      let is_text : codes "# " ++ full s ++ codes " has no value\n" ≡ (front s ++ 101 ∷ []) ++ 10 ∷ [] = simp append_assoc in
      let none : HasNoLf (front s ++ 101 ∷ []) =
      All-append (λ b. is_line_feed b ≡ false) (front s) (101 ∷ [])
      (All-append (λ b. is_line_feed b ≡ false) (codes "# ") (full s ++ codes " has no valu") (no_lf_check (codes "# ") refl)
      (All-append (λ b. is_line_feed b ≡ false) (full s) (codes " has no valu") (full_no_lf tree prefix stream is_pre is.formed names s f found defined) (no_lf_check (codes " has no valu") refl)))
      (no_lf_check (101 ∷ []) refl) in
      let first = short_prefix tree prefix stream is_pre is.formed names s f found defined in
      let second = (names s defined).1 in
      let few : length (front s ++ 101 ∷ []) ≤ 65535 =
      omega (arith, first, second, length-append (front s) (101 ∷ []), length-append (full s) (codes " has no valu"), length-append prefix.prefix (name_of tree s)) in
      subst (λ t. Quiet tree prefix stream t [] i) (sym is_text) (quiet_comment tree prefix stream (front s ++ 101 ∷ []) i none few (comment_silent s))

  abbrev text_to : SymId → List ℕ
  text_to s = cond (is_new tree K user s) (symbol_new tree prefix (valuation_view tree user V) s) []

  abbrev given_for : Bool → SymId → List Assignment
  given_for b s = cond b (assignment_to s ∷ []) []

  line_by : (s : SymId) (defined : Contains tree.defined s) (i : UserInput) → is_new tree K user s ≡ true → (h : Bool) → has_value (V s.0) ≡ h → (h ≡ true → at_symbol s.0 i.places ≡ None) →
      Quiet tree prefix stream (cond h (config_file_line prefix.is_raw (full s) (V s.0)) (codes "# " ++ full s ++ codes " has no value\n")) (given_for h s) i
  line_by s defined i new true value free =
      quiet_line tree prefix stream (config_file_line prefix.is_raw (full s) (V s.0)) (assignment_to s) i
      (listed_does s defined (and_from (is_new tree K user s) (has_value (V s.0)) new value)) (free refl)
  line_by s defined i new false value free = let (f, found, none, by) = new_parts tree user V s new in comment_quiet s defined f found i

  abbrev of_value : SymId → SymbolValue → List ℕ
  of_value s x = cond (has_value x) (config_file_line prefix.is_raw (full s) x) (codes "# " ++ full s ++ codes " has no value\n")

  quiet_by : (s : SymId) (defined : Contains tree.defined s) (i : UserInput) (b : Bool) → is_new tree K user s ≡ b → ((b && has_value (V s.0)) ≡ true → at_symbol s.0 i.places ≡ None) →
      Quiet tree prefix stream (cond b (symbol_new tree prefix (valuation_view tree user V) s) []) (given_for (b && has_value (V s.0)) s) i
  quiet_by s defined i false new free = quiet_nothing tree prefix stream i
  quiet_by s defined i true new free =
      let lt = mentioned tree is.formed s defined in
      subst (λ x. Quiet tree prefix stream (of_value s x) (given_for (has_value (V s.0)) s) i) (sym (known_here s lt)) (line_by s defined i new (has_value (V s.0)) refl free)

  one_quiet : (s : SymId) → Contains tree.defined s → (i : UserInput) → (listed s ≡ true → at_symbol s.0 i.places ≡ None) → Quiet tree prefix stream (text_to s) (given_for (listed s) s) i
  one_quiet s defined i free = quiet_by s defined i (is_new tree K user s) refl free

  -- ---- the whole list

  distinct : AreDistinct tree prefix stream tree.defined
  distinct i j s t at_s at_t same =
      let is_s : t ≡ s = λ k. record { 0 = sym same k } in
      is.formed.defined_once i j s at_s (at_t ∙ ap Some is_s)

  free_now : (s : SymId) → Contains tree.defined s → listed s ≡ true → at_symbol s.0 input.places ≡ None
  free_now s c is_it =
      let (new, value) = and_parts (is_new tree K user s) (has_value (V s.0)) is_it in
      let (f, found, none, by) = new_parts tree user V s new in none

  abbrev all_given : List Assignment
  all_given = flat_map (λ s. given_for (listed s) s) tree.defined

  list_quiet : Quiet tree prefix stream (flat_map text_to tree.defined) all_given input
  list_quiet = quiet_all tree prefix stream text_to value_to listed tree.defined input distinct free_now one_quiet

  abbrev Filled : Places
  Filled = places_given tree input.places all_given

  abbrev text : List ℕ
  text = flat_map text_to tree.defined

  list_read : let read = reading tree prefix input (lines_from stream 1 text) in (read.stopped ≡ None) × (read.warned ≡ []) × (read.input.places ≡ Filled)
  list_read =
      let (next, after, made, goes) = list_quiet 1 [] in
      let whole : reading tree prefix input (lines_from stream 1 text) ≡ record { input = after; warned = []; stopped = None } =
      sym (ap (λ t. reading tree prefix input (lines_from stream 1 t)) (append-nil text)) ∙ goes
      ∙ ap (reading tree prefix after) (lines_from-last stream next [] (no_bytes tree prefix stream)) ∙ reading-nothing tree prefix after in
      (ap (λ (r : ReadResult). r.stopped) whole, ap (λ (r : ReadResult). r.warned) whole, ap (λ (r : ReadResult). r.input.places) whole ∙ made)

  -- ---- the places that it leaves

  in_given : (s : SymId) (a : Assignment) (b : Bool) → Contains (given_for b s) a → (b ≡ true) × (assignment_to s ≡ a)
  in_given s a true c = elim (contains_cases (assignment_to s) a [] c) [ inl e ↦ (refl, e) | inr later ↦ absurd (no_element a later) ]
  in_given s a false c = absurd (no_element a c)

  to_given : (s : SymId) (b : Bool) → b ≡ true → Contains (given_for b s) (assignment_to s)
  to_given s true e = contains_here (assignment_to s) []
  to_given s false e = absurd (true≢false (sym e))

  sound : (a : Assignment) → Contains all_given a → (s : SymId) × (listed s ≡ true) × (s.0 < name_count tree) × (assignment_to s ≡ a)
  sound a c =
      let (s, at, mine) = in_flat_map (λ s. given_for (listed s) s) tree.defined a c in
      let (is_it, same) = in_given s a (listed s) mine in
      (s, is_it, mentioned tree is.formed s at, same)

  listed_defined : (s : SymId) → listed s ≡ true → s.0 < name_count tree → Contains tree.defined s
  listed_defined s is_it lt =
      let (new, value) = and_parts (is_new tree K user s) (has_value (V s.0)) is_it in
      let (f, found, none, by) = new_parts tree user V s new in
      let ok_type : allowed_by f.symbol_type (given_of (V s.0)) ≡ true = sym (ap (λ o. allowed_for o (given_of (V s.0))) found) ∙ allows s lt is_it in
      is.formed.typed_defined s f found (λ untyped. untyped_not f.symbol_type (given_of (V s.0)) untyped ok_type)

  complete : (s : SymId) → listed s ≡ true → s.0 < name_count tree → Contains all_given (assignment_to s)
  complete s is_it lt =
      to_flat_map (λ s. given_for (listed s) s) tree.defined s (assignment_to s) (listed_defined s is_it lt) (to_given s (listed s) is_it)

  -- a symbol's own
  to_symbol : (i : ℕ) (a : Assignment) → Contains all_given a → eqb a.symbol.0 i ≡ true → (listed (symbol i) ≡ true) × (given_to i a ≡ Some (given_of (V i)))
  to_symbol i a c e =
      let (s, is_it, lt, same) = sound a c in
      let at : s.0 ≡ i = ap (λ (x : Assignment). x.symbol.0) same ∙ eqb-true a.symbol.0 i e in
      let is_s : s ≡ symbol i = ap symbol at in
      (sym (ap listed is_s) ∙ is_it, rw e (ap Some (sym (ap (λ (x : Assignment). x.given) same) ∙ ap value_to is_s)))

  symbol_filled : (i : ℕ) → i < name_count tree → at_symbol i Filled ≡ listed_place tree user V (SymbolPlace i)
  symbol_filled i lt = symbol_after tree input.places is.held.there all_given i lt ∙ by (listed (symbol i)) refl
    where
      by : (b : Bool) → listed (symbol i) ≡ b → last_or (at_symbol i input.places) (filter_map (given_to i) all_given) ≡ cond (listed (symbol i)) (Some (given_of (V i))) (user (SymbolPlace i))
      by true e =
          last_same (given_to i) (given_of (V i)) all_given (at_symbol i input.places)
          (λ a c. elim (cases_Bool (eqb a.symbol.0 i)) [ inl same ↦ inr (to_symbol i a c same).1 | inr other ↦ inl (rw other refl) ])
          (inr (assignment_to (symbol i), complete (symbol i) e lt, rw (eq-eqb i i refl) refl))
          ∙ sym (ap (λ b. cond b (Some (given_of (V i))) (user (SymbolPlace i))) e)
      by false e =
          last_none (given_to i) all_given (at_symbol i input.places)
          (λ a c. elim (cases_Bool (eqb a.symbol.0 i)) [ inl same ↦ absurd (true≢false (sym (to_symbol i a c same).0 ∙ e)) | inr other ↦ rw other refl ])
          ∙ sym (ap (λ b. cond b (Some (given_of (V i))) (user (SymbolPlace i))) e)

  -- a choice's
  abbrev Chosen : ℕ → Option SymId
  Chosen c = Sel tree user V is.solves c

  candidate : (c : ℕ) (a : Assignment) → Contains all_given a → (is_yes a.given && is_this_choice c (choice_of tree a.symbol)) ≡ true →
      (listed a.symbol ≡ true) × (Chosen c ≡ Some a.symbol)
  candidate c a at e =
      let (s, is_it, lt, same) = sound a at in
      let is_s : s ≡ a.symbol = ap (λ (x : Assignment). x.symbol) same in
      let (is_y, choice) = and_parts (is_yes a.given) (is_this_choice c (choice_of tree a.symbol)) e in
      let lt_a : a.symbol.0 < name_count tree = subst (λ (x : SymId). x.0 < name_count tree) is_s lt in
      let value_is : a.given ≡ given_of (V a.symbol.0) = sym (ap (λ (x : Assignment). x.given) same) ∙ ap value_to is_s in (
        sym (ap listed is_s) ∙ is_it,
        yes_selected tree user V theirs is.solves a.symbol c lt_a (this_choice c (choice_of tree a.symbol) choice) (sym (ap is_yes value_is) ∙ is_y),
      )

  no_candidate : (c : ℕ) (r : Option SymId) → Chosen c ≡ r → option_map_or listed r false ≡ false → (a : Assignment) → Contains all_given a →
      (is_yes a.given && is_this_choice c (choice_of tree a.symbol)) ≡ true → ⊥
  no_candidate c r chosen none a at e =
      let (is_it, selects) = candidate c a at e in
      let r_is : r ≡ Some a.symbol = sym chosen ∙ selects in
      true≢false (sym is_it ∙ sym (ap (λ x. option_map_or listed x false) r_is) ∙ none)

  choice_by : (c : ℕ) (r : Option SymId) (b : Bool) → Chosen c ≡ r → option_map_or listed r false ≡ b →
      member_place (last_or (slice_index_or input.places.choices c None) (filter_map (chosen_in tree c) all_given)) ≡ cond b (option_map Member r) (user (ChoicePlace c))
  choice_by c r false chosen e =
      ap member_place (last_none (chosen_in tree c) all_given (slice_index_or input.places.choices c None)
      (λ a at. elim (cases_Bool (is_yes a.given && is_this_choice c (choice_of tree a.symbol))) [
        | inl one ↦ absurd (no_candidate c r chosen e a at one)
        | inr other ↦ rw other refl
      ]))
  choice_by c None true chosen e = absurd (true≢false (sym e))
  choice_by c (Some m) true chosen e =
      let (lt, place, is_y) = selected_yes tree user V theirs is.solves m c chosen in
      let choice : is_this_choice c (choice_of tree m) ≡ true = to_this_choice c (choice_of tree m) (choice_by_place tree m c place) in
      ap member_place (last_same (chosen_in tree c) m all_given (slice_index_or input.places.choices c None)
      (λ a at. elim (cases_Bool (is_yes a.given && is_this_choice c (choice_of tree a.symbol))) [
        | inl is_one ↦
            let (is_it, selects) = candidate c a at is_one in
            let both : Some a.symbol ≡ Some m = sym selects ∙ chosen in
            let same : a.symbol ≡ m = cc in
            inr (rw is_one (ap Some same))
        | inr other ↦ inl (rw other refl)
      ])
      (inr (assignment_to m, complete m e lt, rw (is_y, choice) refl)))

  choice_filled : (c : ℕ) → c < length tree.choices → place_at Filled (ChoicePlace c) ≡ listed_place tree user V (ChoicePlace c)
  choice_filled c lt = choice_after tree input.places is.held.there all_given c lt ∙ choice_by c (Chosen c) (option_map_or listed (Chosen c) false) refl refl

  place_filled : (i : ℕ) → i < name_count tree → place_at Filled (user_place tree i) ≡ listed_place tree user V (user_place tree i)
  place_filled i lt = elim (place_cases tree i) [
    | inl at ↦ rw at (symbol_filled i lt)
    | inr (c, at) ↦ rw at (choice_filled c (choice_there tree (symbol i) c is.formed lt (choice_by_place tree (symbol i) c at)))
  ]

  -- ---- what follows

  kept : (Solves (name_count tree) (equations tree (listed_place tree user V)) V
      ↔ ((s : SymId) → s.0 < name_count tree → is_new tree K user s ≡ true → changes_on_reread tree V s.0 ≡ false))
      × ((s : SymId) → s.0 < name_count tree → is_new tree K (listed_place tree user V) s ≡ true → (is_new tree K user s ≡ true) × (has_value (V s.0) ≡ false))
  kept = keep tree user V is.formed is.held.allowed_all is.solves allows

  values_stay : IsOneSolution tree Filled V ↔ ((s : SymId) → s.0 < name_count tree → is_new tree K user s ≡ true → changes_on_reread tree V s.0 ≡ false)
  values_stay = (
    λ one. kept.0.0 (λ i lt. one.solves i lt ∙ ap (λ g. rhs tree i g V) (place_filled i lt)),
    λ all.
        let again : Solves (name_count tree) (equations tree (place_at Filled)) V = λ i lt. kept.0.1 all i lt ∙ ap (λ g. rhs tree i g V) (sym (place_filled i lt)) in
        record { solves = again; only = agree tree (place_at Filled) is.accepted V again },
  )

  new_by_place : (s : SymId) → s.0 < name_count tree → (f : SymbolFacts) → facts tree s ≡ Some f → (c : Option ℕ) → f.choice ≡ c → v.is_new_by tree K (place_at Filled) s f c ≡ true →
      v.is_new_by tree K (listed_place tree user V) s f c ≡ true
  new_by_place s lt f found None e new = new
  new_by_place s lt f found (Some c) e new =
      let P : Option GivenValue → Type 0 = λ g. (v.is_visible tree K f && (not (is_chosen (v.selected tree K (v.choice_at tree c) g) g)
      && option_map_or (v.has_other tree K) (v.choice_at tree c) false)) ≡ true in
      subst P (choice_filled c (choice_there tree s c is.formed lt (ap (option_and_then (λ (g : SymbolFacts). g.choice)) found ∙ e))) new

  still_new : (s : SymId) → s.0 < name_count tree → is_new tree K (place_at Filled) s ≡ true → (is_new tree K user s ≡ true) × (has_value (V s.0) ≡ false)
  still_new s lt e =
      let (f, found, none, by) = new_parts tree (place_at Filled) V s e in
      kept.1 s lt (new_from tree (listed_place tree user V) V s f found (sym (symbol_filled s.0 lt) ∙ none) (new_by_place s lt f found f.choice refl by))

pub new_list_back : EquationsReadNeeds → NeedsAreSymbols → NewLinesKeep → SolutionsAgree → NewListGivesBack
unfolding new_text
new_list_back reads within keep agree tree prefix input V is_pre is short stream =
    let view = valuation_view tree (place_at input.places) V in
    let whole : reading_of tree prefix input (record { name = stream; bytes = new_text tree prefix view } ∷ []) ≡ reading tree prefix input (lines_from stream 1 (new_text tree prefix view)) =
    ap (reading tree prefix input) (append-nil (lines_from stream 1 (new_text tree prefix view))) in
    let (stopped, warned, places) = list_read tree prefix stream is_pre input V is reads within keep agree short in
    let left = ap (λ (r : ReadResult). r.input.places) whole ∙ places in (
      ap (λ (r : ReadResult). r.stopped) whole ∙ stopped,
      ap (λ (r : ReadResult). r.warned) whole ∙ warned,
      subst (λ (p : Places). IsOneSolution tree p V ↔ ((s : SymId) → s.0 < name_count tree → view.is_new s ≡ true → changes_on_reread tree V s.0 ≡ false))
          (sym left) (values_stay tree prefix stream is_pre input V is reads within keep agree short),
      subst (λ (p : Places). (s : SymId) → s.0 < name_count tree → is_new tree (known_from tree V) (place_at p) s ≡ true → (view.is_new s ≡ true) × (has_value (V s.0) ≡ false))
          (sym left) (still_new tree prefix stream is_pre input V is reads within keep agree short),
    )
