-- That --strict lets no line pass that was not taken as written.
use Rattle.std.proofs.Common.{◌≡◌, ◌≢◌, ℕ, zero, suc, ◌<◌, Bool, true, false, true≢false, List, [], ◌∷◌, ◌++◌, length, Some, None, refl, sym, ap, subst, ◌∙◌, arith, eqb}
use Rattle.std.specs.Prelude.{not, ◌&&◌, ◌||◌, ◌==◌, replicate, slice_index_or, if◌then◌else◌}
use Rattle.std.specs.List.{Contains, list_any}
use Rattle.std.proofs.Math.Dec.{eqb-suc-zero}
use Rattle.std.proofs.lemmas.Bool.{eqb-false, eqb-true}
use Rattle.std.proofs.lemmas.List.{get_or-set_same, get_or-set_other, length-replicate}
use Rattle.std.proofs.lemmas.Option.{slice_get_within}
use Rattle.kc_language.specs.declared.expressions.SymId.{SymId}
use Rattle.kc_language.specs.declared.expressions.SymbolType.TheVariants.{Undefined}
use Rattle.kc_language.specs.Expansion.{Files}
use Rattle.kc_entries.specs.WellFormed.{IsWellFormed}
use Rattle.kc_language.specs.Symbols.{SymbolFacts, TreeFacts, Warning}
use Rattle.kc_build.specs.Trees.{TreesAreWellFormed}
use Rattle.kc_language.specs.Values.{GivenValue, SymbolPlace, same_given, given_of, facts}
use Rattle.kc_language.specs.{ConfigFile.{ArePlacesOf, Assigns, Effect, Line, Notation, Places, Silent, StreamLocation, UserInput, Warns, effect, input_after, is_change, is_reported, is_taken as is_taken_by, lines_of, line_meaning, place_at, places_after, stream_location, untaken, untaken_line}, Texts.{Solution, known, lost_lines, value_warnings}}
use Rattle.kc_input.specs.ReadingLaws.{LinesGiveInTurn, LinesInTurn}
use Rattle.kc_conf.proofs.{EffectLemmas.{assigned_typed, effect_is, silent_says}, RerunLemmas.{has_its_texts}}
use Rattle.kc_outcome.specs.Outcome.{Options, Outcome, input_names, read_of, root_file, streams, is_outside, lost_warnings, refuses_input, wants}
use Rattle.kc_outcome.specs.declared.outcome.Output.{Output}
use Rattle.kc_conf.specs.PartsOfOutcome.{is_taken}
use Rattle.kc_outcome.specs.Outcome.{fresh_input}
use Rattle.kc_conf.proofs.{AccountedLemmas.{given_is, input_is, line_in, lost_if, no_line, number_of, places_are, same_symbol, value_in}}
use Rattle.kc_conf.specs.{Laws.{DoneAreWhole, IsTakenAsWritten, RefusesNothing, StrictTakesAll}}

-- ---- lists and truths

nothing_left : {A : Type 0} (xs : List A) → (length xs == 0) ≡ true → xs ≡ []
nothing_left [] e = refl
nothing_left (x ∷ xs) e = absurd (true≢false (sym e ∙ eqb-suc-zero (length xs)))

first_nothing : {A : Type 0} (xs ys : List A) → xs ++ ys ≡ [] → xs ≡ []
first_nothing [] ys e = refl
first_nothing (x ∷ xs) ys e = absurd (let clash : x ∷ (xs ++ ys) ≡ [] = e in cc)

second_nothing : {A : Type 0} (xs ys : List A) → xs ++ ys ≡ [] → ys ≡ []
second_nothing [] ys e = e
second_nothing (x ∷ xs) ys e = absurd (let clash : x ∷ (xs ++ ys) ≡ [] = e in cc)

and_left : (a b : Bool) → (a && b) ≡ true → a ≡ true
and_left true b e = refl
and_left false b e = e

and_right : (a b : Bool) → (a && b) ≡ true → b ≡ true
and_right true b e = e
and_right false b e = absurd (true≢false (sym e))

not_false : (b : Bool) → not b ≡ false → b ≡ true
not_false true e = refl
not_false false e = absurd (true≢false e)

not_is_true : (b : Bool) → not b ≡ true → b ≡ false
not_is_true true e = absurd (true≢false (sym e))
not_is_true false e = refl

-- ---- lines

module _ (tree : TreeFacts) (prefix : Notation) where
  -- each line was taken, given what was given before it
  abbrev pub AllTaken : UserInput → List Line → Type 0
  AllTaken p lines = untaken tree prefix p.asks_unset p.places lines ≡ []

  module _ (s : SymId) (given : GivenValue) where
    -- each of these lines that gives the symbol a value gives it this one
    abbrev GiveThis : List Line → Type 0
    GiveThis lines = (m : Line) (other : GivenValue) → Contains lines m → effect tree prefix m ≡ Assigns s other → other ≡ given

module _ (asked : Bool) where
  -- the symbol has this value, which some line gave where the lines are kept
  abbrev Keeps : UserInput → SymId → GivenValue → Type 0
  Keeps p s given = (place_at p.places (SymbolPlace s.0) ≡ Some given) × (asked ≡ true → (at : StreamLocation) × (slice_index_or p.lines s.0 None ≡ Some at))

  -- there is room for what is given to it
  abbrev Fits : UserInput → SymId → Type 0
  Fits p s = (s.0 < length p.places.symbols) × (asked ≡ true → s.0 < length p.lines)

module _ (tree : TreeFacts) (prefix : Notation) (turn : LinesInTurn tree prefix) (asked : Bool) where
  untaken-cons : (p : UserInput) (l : Line) (later : List Line) →
      untaken tree prefix p.asks_unset p.places (l ∷ later)
      ≡ untaken_line tree prefix p.asks_unset p.places l ++ untaken tree prefix p.asks_unset (places_after tree prefix p.places (l ∷ [])) later
  untaken-cons p l later =
      turn.add_up.are_untaken p.asks_unset p.places (l ∷ []) later
      ∙ ap (λ (ls : List Line). ls ++ untaken tree prefix p.asks_unset (places_after tree prefix p.places (l ∷ [])) later) (turn.add_up.one_untaken p.asks_unset p.places l)

  taken_here : (p : UserInput) (l : Line) (later : List Line) (e : Effect) → effect tree prefix l ≡ e → AllTaken tree prefix p (l ∷ later) → is_taken_by p.asks_unset p.places e ≡ true
  unfolding untaken_line
  taken_here p l later e is none = by (is_taken_by p.asks_unset p.places e) refl
    where
      line_is : untaken_line tree prefix p.asks_unset p.places l ≡ []
      line_is = first_nothing (untaken_line tree prefix p.asks_unset p.places l) (untaken tree prefix p.asks_unset (places_after tree prefix p.places (l ∷ [])) later) (sym (untaken-cons p l later) ∙ none)

      by : (b : Bool) → is_taken_by p.asks_unset p.places e ≡ b → is_taken_by p.asks_unset p.places e ≡ true
      by true t = t
      by false t =
          let listed : untaken_line tree prefix p.asks_unset p.places l ≡ l ∷ [] = ap (λ x. if is_taken_by p.asks_unset p.places x then [] else l ∷ []) is ∙ ap (λ b. if b then [] else l ∷ []) t in
          absurd (let clash : l ∷ [] ≡ [] = sym listed ∙ line_is in cc)

  taken_later : (p : UserInput) (l : Line) (later : List Line) → AllTaken tree prefix p (l ∷ later) → AllTaken tree prefix (input_after tree prefix p (l ∷ [])) later
  taken_later p l later none =
      second_nothing (untaken_line tree prefix p.asks_unset p.places l) (untaken tree prefix p.asks_unset (places_after tree prefix p.places (l ∷ [])) later) (sym (untaken-cons p l later) ∙ none)

  assigned_keeps : (p : UserInput) (l : Line) (s : SymId) (given : GivenValue) → effect tree prefix l ≡ Assigns s given → Fits asked p s → Keeps asked (input_after tree prefix p (l ∷ [])) s given
  assigned_keeps p l s given is fits = (
    ap (value_in s.0) (turn.says.value p l s given is) ∙ get_or-set_same p.places.symbols s.0 (Some given) None fits.0,
    λ on. (stream_location l, ap (line_in s.0) (turn.says.by_line p l s given is) ∙ get_or-set_same p.lines s.0 (Some (stream_location l)) None (fits.1 on)),
  )

  other_keeps : (p : UserInput) (l : Line) (t : SymId) (other : GivenValue) (s : SymId) (given : GivenValue) → effect tree prefix l ≡ Assigns t other → (s.0 ≡ t.0 → ⊥) →
      Keeps asked p s given → Keeps asked (input_after tree prefix p (l ∷ [])) s given
  other_keeps p l t other s given is differs keeps = (
    ap (value_in s.0) (turn.says.value p l t other is) ∙ get_or-set_other p.places.symbols t.0 s.0 (Some other) None differs ∙ keeps.0,
    λ on. let (at, by_line) = keeps.1 on in
        (at, ap (line_in s.0) (turn.says.by_line p l t other is) ∙ get_or-set_other p.lines t.0 s.0 (Some (stream_location l)) None differs ∙ by_line),
  )

  quiet_keeps : (p : UserInput) (l : Line) (s : SymId) (given : GivenValue) → effect tree prefix l ≡ Silent → Keeps asked p s given → Keeps asked (input_after tree prefix p (l ∷ [])) s given
  quiet_keeps p l s given is keeps =
      let here = turn.says.silent p l is in (
        ap (λ (q : UserInput). value_in s.0 q.places.symbols) here ∙ keeps.0,
        λ on. let (at, by_line) = keeps.1 on in (at, ap (λ (q : UserInput). line_in s.0 q.lines) here ∙ by_line),
      )

  warned_keeps : (p : UserInput) (l : Line) (line_warning : Warning) (s : SymId) (given : GivenValue) → effect tree prefix l ≡ Warns line_warning → Keeps asked p s given →
      Keeps asked (input_after tree prefix p (l ∷ [])) s given
  warned_keeps p l line_warning s given is keeps =
      let here = turn.says.warned p l line_warning is in (
        ap (λ (q : UserInput). value_in s.0 q.places.symbols) here ∙ keeps.0,
        λ on. let (at, by_line) = keeps.1 on in (at, ap (λ (q : UserInput). line_in s.0 q.lines) here ∙ by_line),
      )

  module _ (s : SymId) (given : GivenValue) where
    gives_first : (l : Line) (lines : List Line) → ((other : GivenValue) → effect tree prefix l ≡ Assigns s other → other ≡ given) → GiveThis tree prefix s given lines → GiveThis tree prefix s given (l ∷ lines)
    gives_first l lines first rest m other (zero, within, at) sets = first other (ap (effect tree prefix) at ∙ sets)
    gives_first l lines first rest m other (suc n, within, at) sets = rest m other (n, omega (arith, within), at) sets

    fits_later : (p : UserInput) (l : Line) → ArePlacesOf tree p.places → Fits asked p s → Fits asked (input_after tree prefix p (l ∷ [])) s
    fits_later p l there fits =
        let next = turn.counts.places p (l ∷ []) there in (
          subst (λ n. s.0 < n) (there.symbols ∙ sym next.symbols) fits.0,
          λ on. subst (λ n. s.0 < n) (sym (turn.counts.lines p (l ∷ []))) (fits.1 on),
        )

    abbrev given_in : GivenValue → Effect → GivenValue
    given_in d Silent = d
    given_in d (Warns line_warning) = d
    given_in d (Assigns u g) = g

    same_value : (g h : GivenValue) → Assigns s g ≡ Assigns s h → g ≡ h
    same_value g h e = ap (given_in g) e

    -- one line that is taken keeps the value, if the later ones do
    one_keeps : (p : UserInput) (l : Line) (lines : List Line) → AllTaken tree prefix p (l ∷ lines) → Fits asked p s → Keeps asked p s given →
        (Keeps asked (input_after tree prefix p (l ∷ [])) s given → GiveThis tree prefix s given lines × Keeps asked (input_after tree prefix (input_after tree prefix p (l ∷ [])) lines) s given) →
        GiveThis tree prefix s given (l ∷ lines) × Keeps asked (input_after tree prefix p (l ∷ lines)) s given
    one_keeps p l lines none fits keeps later = by (effect tree prefix l) refl
      where
        on : ((other : GivenValue) → effect tree prefix l ≡ Assigns s other → other ≡ given) → Keeps asked (input_after tree prefix p (l ∷ [])) s given →
            GiveThis tree prefix s given (l ∷ lines) × Keeps asked (input_after tree prefix p (l ∷ lines)) s given
        on first kept =
            let (rest, whole) = later kept in
            (gives_first l lines first rest, subst (λ (q : UserInput). Keeps asked q s given) (sym (turn.add_up.leave p (l ∷ []) lines)) whole)

        same_or : (t : SymId) (other : GivenValue) → effect tree prefix l ≡ Assigns t other → (b : Bool) → eqb t.0 s.0 ≡ b →
            GiveThis tree prefix s given (l ∷ lines) × Keeps asked (input_after tree prefix p (l ∷ lines)) s given
        same_or t other is true e =
            let is_s : effect tree prefix l ≡ Assigns s other = is ∙ ap (λ x. Assigns x other) (same_symbol t s (eqb-true t.0 s.0 e)) in
            let taken = taken_here p l lines (Assigns s other) is_s none in
            let equal : same_given given other ≡ true = not_false (same_given given other)
            (not_is_true (not (same_given given other)) (sym (ap (λ o. not (is_change o other)) keeps.0) ∙ taken)) in
            let same : given ≡ other = given_is given other equal in
            on (λ g sets. same_value g other (sym sets ∙ is_s) ∙ sym same) (subst (λ g. Keeps asked (input_after tree prefix p (l ∷ [])) s g) (sym same) (assigned_keeps p l s other is_s fits))
        same_or t other is false e =
            on (λ g sets. absurd (eqb-false t.0 s.0 e (ap number_of (sym is ∙ sets)))) (other_keeps p l t other s given is (λ same. eqb-false t.0 s.0 e (sym same)) keeps)

        by : (e : Effect) → effect tree prefix l ≡ e → GiveThis tree prefix s given (l ∷ lines) × Keeps asked (input_after tree prefix p (l ∷ lines)) s given
        by Silent is = on (λ g sets. absurd (let clash : Silent ≡ Assigns s g = sym is ∙ sets in cc)) (quiet_keeps p l s given is keeps)
        by (Warns line_warning) is = on (λ g sets. absurd (let clash : Warns line_warning ≡ Assigns s g = sym is ∙ sets in cc)) (warned_keeps p l line_warning s given is keeps)
        by (Assigns t other) is = same_or t other is (eqb t.0 s.0) refl

    -- lines that are all taken keep the value
    all_keep : (p : UserInput) (lines : List Line) → ArePlacesOf tree p.places → Fits asked p s → AllTaken tree prefix p lines → Keeps asked p s given → GiveThis tree prefix s given lines × Keeps asked (input_after tree prefix p lines) s given
    all_keep p [] there fits none keeps =
        (λ m other (n, within, at) sets. absurd (let never : n < 0 = within in omega arith), subst (λ (q : UserInput). Keeps asked q s given) (sym (turn.add_up.none_leave p)) keeps)
    all_keep p (l ∷ lines) there fits none keeps =
        one_keeps p l lines none fits keeps
        (all_keep (input_after tree prefix p (l ∷ [])) lines (turn.counts.places p (l ∷ []) there) (fits_later p l there fits) (taken_later p l lines none))

-- ---- a whole run

module _ (files : Files) (options : Options) (all : List (List ℕ)) (tree : TreeFacts) (solution : Solution)
    (is_whole : RefusesNothing files options all tree solution) (formed : IsWellFormed tree) (turn : LinesInTurn tree options.prefix) (strict : options.strict ≡ true) (passed : refuses_input options (read_of options tree all).input solution ≡ false) where
  abbrev lines : List Line
  lines = lines_of (streams (input_names options) all)

  abbrev prefix : Notation
  prefix = options.prefix

  abbrev empty : UserInput
  empty = fresh_input options tree

  -- whether the lines of values are kept
  abbrev keeps_lines : Bool
  keeps_lines = options.warn_lost || wants options Output.Explanation

  abbrev last : UserInput
  last = input_after tree prefix empty lines

  all_is_taken : is_taken options last solution ≡ true
  all_is_taken =
      not_false (is_taken options last solution)
      (sym (ap (λ b. b && not (is_taken options last solution)) strict) ∙ ap (λ (i : UserInput). refuses_input options i solution) (sym (input_is files options all tree solution is_whole)) ∙ passed)

  none_outside : list_any is_outside (value_warnings solution) ≡ false
  none_outside =
      not_is_true (list_any is_outside (value_warnings solution))
      (and_left (not (list_any is_outside (value_warnings solution))) (length (lost_warnings options last solution) == 0)
      (and_right last.all_taken (not (list_any is_outside (value_warnings solution)) && (length (lost_warnings options last solution) == 0)) all_is_taken))

  none_lost : options.warn_lost ≡ true → lost_lines options.prefix.is_raw last.lines solution ≡ []
  none_lost asked =
      sym (ap (λ b. if b then lost_lines options.prefix.is_raw last.lines solution else []) asked)
      ∙ nothing_left (lost_warnings options last solution)
      (and_right (not (list_any is_outside (value_warnings solution))) (length (lost_warnings options last solution) == 0)
      (and_right last.all_taken (not (list_any is_outside (value_warnings solution)) && (length (lost_warnings options last solution) == 0)) all_is_taken))

  none_untaken : untaken tree prefix empty.asks_unset empty.places lines ≡ []
  none_untaken =
      nothing_left (untaken tree prefix empty.asks_unset empty.places lines)
      (and_left last.all_taken (not (list_any is_outside (value_warnings solution)) && (length (lost_warnings options last solution) == 0)) all_is_taken)

  module _ (before later : List Line) (l : Line) (split : lines ≡ before ++ l ∷ later) where
    abbrev here : UserInput
    here = input_after tree prefix empty before

    from_here : AllTaken tree prefix here (l ∷ later)
    from_here =
        second_nothing (untaken tree prefix empty.asks_unset empty.places before) (untaken tree prefix empty.asks_unset (places_after tree prefix empty.places before) (l ∷ later))
        (sym (turn.add_up.are_untaken empty.asks_unset empty.places before (l ∷ later)) ∙ ap (untaken tree prefix empty.asks_unset empty.places) (sym split) ∙ none_untaken)

    counts : ArePlacesOf tree here.places
    counts = turn.counts.places empty before (record { symbols = length-replicate (length tree.symbols) None; choices = length-replicate (length tree.choices) None })

    module _ (s : SymId) (given : GivenValue) (assigns : effect tree prefix l ≡ Assigns s given) (f : SymbolFacts) (defined : facts tree s ≡ Some f) (typed : f.symbol_type ≢ Undefined) where
      within : s.0 < length tree.symbols
      within = slice_get_within tree.symbols s.0 f defined

      fits : Fits keeps_lines here s
      fits = (
        subst (λ n. s.0 < n) (sym counts.symbols) within,
        λ asked. subst (λ n. s.0 < n)
            (sym (turn.counts.lines empty before ∙ ap (λ b. length (if b then replicate (length tree.symbols) no_line else [])) asked ∙ length-replicate (length tree.symbols) no_line)) within,
      )

      after : GiveThis tree prefix s given later × Keeps keeps_lines (input_after tree prefix (input_after tree prefix here (l ∷ [])) later) s given
      after =
          all_keep tree prefix turn keeps_lines s given (input_after tree prefix here (l ∷ [])) later
          (turn.counts.places here (l ∷ []) counts) (fits_later tree prefix turn keeps_lines s given here l counts fits)
          (taken_later tree prefix turn keeps_lines here l later from_here)
          (assigned_keeps tree prefix turn keeps_lines here l s given assigns fits)

      at_end : last ≡ input_after tree prefix (input_after tree prefix here (l ∷ [])) later
      at_end =
          ap (input_after tree prefix empty) split ∙ turn.add_up.leave empty before (l ∷ later) ∙ turn.add_up.leave here (l ∷ []) later

      value_is : options.warn_lost ≡ true → given ≡ given_of (known solution s)
      value_is asked =
          let (at, by_line) = after.1.1 (ap (λ b. b || wants options Output.Explanation) asked) in
          lost_if options.prefix.is_raw last.lines solution s f given at (subst (λ (t : TreeFacts). facts t s ≡ Some f) (sym is_whole.solution_is.tree_is) defined)
          (subst (λ (t : TreeFacts). Contains t.defined s) (sym is_whole.solution_is.tree_is) (formed.typed_defined s f defined typed))
          (ap (λ (q : Places). place_at q (SymbolPlace s.0)) (places_are files options all tree solution is_whole) ∙ ap (λ (q : UserInput). place_at q.places (SymbolPlace s.0)) at_end ∙ after.1.0)
          (ap (λ (q : UserInput). slice_index_or q.lines s.0 None) at_end ∙ by_line) (none_lost asked)

    is_taken_as_written : IsTakenAsWritten tree prefix options.warn_lost solution l later (effect tree prefix l)
    is_taken_as_written = by (effect tree prefix l) refl
      where
        by : (e : Effect) → effect tree prefix l ≡ e → IsTakenAsWritten tree prefix options.warn_lost solution l later e
        by Silent is = silent_says prefix.is_raw tree (line_meaning tree prefix l) (effect_is tree prefix l ∙ is)
        by (Warns line_warning) is =
            not_is_true (is_reported options.warn_lost line_warning) (taken_here tree prefix turn keeps_lines here l later (Warns line_warning) is from_here)
        by (Assigns s given) is =
            let (f, defined, typed) = assigned_typed prefix.is_raw tree (line_meaning tree prefix l) s given (effect_is tree prefix l ∙ is) in
            ((after s given is f defined typed).0, value_is s given is f defined typed)

pub strict_takes_all : TreesAreWellFormed → DoneAreWhole → LinesGiveInTurn → StrictTakesAll
strict_takes_all trees wholes turns files options all outcome is_outcome done strict =
    let (tree, solution, is_whole, (opened, are, is), passed) = wholes files options all outcome is_outcome done in (
      tree,
      solution,
      is_whole,
      has_its_texts files options all outcome tree solution opened is_whole.solution_is.tree_is is,
      none_outside files options all tree solution is_whole (trees files (root_file options) tree is_whole.accepted.built) (turns tree options.prefix) strict passed,
      is_taken_as_written files options all tree solution is_whole (trees files (root_file options) tree is_whole.accepted.built) (turns tree options.prefix) strict passed,
    )
