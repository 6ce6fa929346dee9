-- That no line of the streams goes unaccounted for where lost values are warned of.
use Rattle.std.proofs.Common.{◌≡◌, ◌≢◌, ◌⊎◌, inl, inr, ℕ, ◌<◌, zero, suc, Bool, true, false, List, [], ◌∷◌, ◌++◌, length, Some, None, refl, sym, ap, subst, ◌∙◌, append_assoc, append-nil, codes, eqb, map, Option}
use Rattle.std.specs.Prelude.{◌&&◌, ◌||◌, ◌==◌, filter, not, find, is_some, replicate, slice_index_or, if◌then◌else◌, option_map}
use Rattle.std.specs.List.{All, Contains, flat_map, slice_get}
use Rattle.std.proofs.lemmas.Grind.{flat_map-append}
use Rattle.std.proofs.lemmas.List.{get_or-set_same, get_or-set_other, length-replicate}
use Rattle.std.proofs.lemmas.List.Elements.{All-cons, All-nil}
use Rattle.std.proofs.lemmas.List.Sums.{take_while-cons}
use Rattle.std.proofs.lemmas.Bool.{eqb-false, eqb-true}
use Rattle.std.proofs.lemmas.Option.{slice_get-get_or, slice_get_within}
use Rattle.std.proofs.lemmas.Slice.Eq.{bytes_eq-Decides}
use Rattle.kc_language.specs.declared.expressions.SymId.{SymId}
use Rattle.kc_language.specs.declared.expressions.SymbolType.TheVariants.{Undefined}
use Rattle.kc_language.specs.declared.expressions.Tri.{Tri}
use Rattle.kc_language.specs.declared.expressions.Tri.TheVariants.{N, M, Y}
use Rattle.kc_language.specs.Expansion.{Files}
use Rattle.kc_language.specs.Symbols.{SymbolFacts, TreeFacts, Warning}
use Rattle.kc_entries.specs.WellFormed.{IsWellFormed}
use Rattle.kc_build.specs.Trees.{TreesAreWellFormed}
use Rattle.kc_language.specs.Values.{GivenValue, GivenTruth, GivenText, Member, SymbolPlace, same_given, same_tri, given_of, facts, name, type_in}
use Rattle.kc_language.specs.{ConfigFile.{ArePlacesOf, Assigns, Effect, Line, Notation, Places, Silent, StreamLocation, UserInput, Warns, change_text, effect, input_after, is_reported, is_within, lines_of, line_meaning, place_at, plain_line, plain_location, reading, stream_location, warning, located_warning_line, warnings}}
use Rattle.kc_input.specs.PartsOfConfigFile.{change_line}
use Rattle.kc_input.specs.PartsOfConfigFile.{type_of, before_too_long, effect_text, warning_line_if}
use Rattle.kc_language.specs.Texts.{Solution, known, warnings as value_warnings, has_prompt, lost_at, lost_by, lost_lines, lost_of}
use Rattle.kc_conf.specs.PartsOfTexts.{lost_line}
use Rattle.kc_language.specs.declared.diagnostics.Warning.TheVariants.{SetAgain}
use Rattle.kc_input.specs.ReadingLaws.{LinesGiveInTurn, LinesInTurn}
use Rattle.kc_conf.specs.Laws.{DoneAreWhole, HoldsLine, IsAccountedFor, IsSetAgain, NothingIsLost, RefusesNothing}
use Rattle.kc_conf.specs.PartsOfLaws.{IsKeptOrWarned, LeavesAlone}
use Rattle.kc_outcome.specs.Outcome.{Options, lead, Outcome, done_outcome, lines_text, lost_symbols, lost_text, lost_warnings, input_names, reported, read_of, root_file, streams, wants}
use Rattle.kc_outcome.specs.Outcome.{fresh_input}
use Rattle.kc_outcome.specs.declared.outcome.Output.{Output}
use Rattle.kc_conf.specs.Faults.{AreLines}
use Rattle.kc_conf.proofs.{EffectLemmas.{all_reported, assigned_typed, effect_is, silent_says}, RerunLemmas.{has_its_texts}}
use Rattle.kc_conf.proofs.ExplainedLemmas.{AreLines-behind}
use Rattle.kc_conf.proofs.LostLemmas.{behind, causes_text, lost_text_if, question_after, told_at}
use Rattle.kc_conf.proofs.PartLemmas.{AreLines-append, AreLines-each, AreLines-nothing, AreLines-reading, AreLines-warning_if, AreLines-warnings}

-- ---- lines that stand in texts

abbrev StandsIn : List ℕ → List ℕ → Type 0
StandsIn part text = HoldsLine text part

stands_after : (front part text : List ℕ) → AreLines front → StandsIn part text → StandsIn part (front ++ text)
stands_after front part text whole (before, after, is, lines) = (front ++ before, after, ap (λ t. front ++ t) is ∙ simp append_assoc, AreLines-append front before whole lines)

stands_before : (back part text : List ℕ) → StandsIn part text → StandsIn part (text ++ back)
stands_before back part text (before, after, is, lines) = (before, after ++ back, ap (λ t. t ++ back) is ∙ append_assoc (before ++ part) after back, lines)

stands_first : (part back : List ℕ) → StandsIn part (part ++ back)
stands_first part back = ([], back, refl, AreLines-nothing)

-- a part that stands behind whole lines of what stands there
stands_within : (front part back text : List ℕ) → AreLines front → StandsIn (front ++ (part ++ back)) text → StandsIn part text
stands_within front part back text whole (before, after, is, lines) =
    (before ++ front, back ++ after, is ∙ simp append_assoc, AreLines-append before front lines whole)

-- one of whole texts that are kept stands among all of them
stands_in_kept : {X : Type 0} (g : X → List ℕ) (p : X → Bool) → ((x : X) → AreLines (g x)) → (xs : List X) (i : ℕ) (x : X) (part : List ℕ) → slice_get xs i ≡ Some x → p x ≡ true →
    StandsIn part (g x) → StandsIn part (flat_map g (filter p xs))
stands_in_kept g p whole [] i x part e kept stands = absurd (let clash : None ≡ Some x = e in cc)
stands_in_kept {X} g p whole (y ∷ xs) zero x part e kept stands =
    let same : y ≡ x = (let both : Some y ≡ Some x = e in cc) in
    subst (λ b. StandsIn part (flat_map g (if b then y ∷ filter p xs else filter p xs))) (sym (ap p same ∙ kept))
    (stands_before (flat_map g (filter p xs)) part (g y) (subst (λ z. StandsIn part (g z)) (sym same) stands))
stands_in_kept g p whole (y ∷ xs) (suc i) x part e kept stands = by (p y) (stands_in_kept g p whole xs i x part e kept stands) where
  by : (b : Bool) → StandsIn part (flat_map g (filter p xs)) → StandsIn part (flat_map g (if b then y ∷ filter p xs else filter p xs))
  by true rest = stands_after (g y) part (flat_map g (filter p xs)) (whole y) rest
  by false rest = rest

-- ---- one value

tri_is : (t u : Tri) → same_tri t u ≡ true → t ≡ u
tri_is N N e = refl
tri_is N M e = cc
tri_is N Y e = cc
tri_is M N e = cc
tri_is M M e = refl
tri_is M Y e = cc
tri_is Y N e = cc
tri_is Y M e = cc
tri_is Y Y e = refl

pub given_is : (a b : GivenValue) → same_given a b ≡ true → a ≡ b
given_is (GivenTruth t) (GivenTruth u) e = ap GivenTruth (tri_is t u e)
given_is (GivenTruth t) (GivenText b) e = cc
given_is (GivenTruth t) (Member m) e = cc
given_is (GivenText a) (GivenTruth u) e = cc
given_is (GivenText a) (GivenText b) e = ap GivenText ((bytes_eq-Decides a b).0 e)
given_is (GivenText a) (Member m) e = cc
given_is (Member m) b e = cc

-- ---- the lines that are told

-- what one symbol gives stands in what all give
one_of_all : {X : Type 0} (f : SymId → List X) (ids : List SymId) (i : ℕ) (id : SymId) → slice_get ids i ≡ Some id → (before after : List X) × (flat_map f ids ≡ before ++ (f id ++ after))
one_of_all f [] i id at = absurd cc
one_of_all f (x ∷ ids) zero id at = let same : x ≡ id = cc in ([], flat_map f ids, ap (λ y. f y ++ flat_map f ids) same)
one_of_all f (x ∷ ids) (suc i) id at =
    let (before, after, is) = one_of_all f ids i id at in
    (f x ++ before, after, ap (λ t. f x ++ t) is ∙ sym (append_assoc (f x) before (f id ++ after)))

line_stands : (line : List ℕ) (lines before after : List (List ℕ)) → lines ≡ before ++ ((line ∷ []) ++ after) → StandsIn (line ++ codes "\n") (lines_text lines)
line_stands line lines before after is = (
  lines_text before,
  lines_text after,
  ap lines_text is ∙ flat_map-append (λ l. l ++ codes "\n") before (line ∷ after) ∙ sym (append_assoc (lines_text before) (line ++ codes "\n") (lines_text after)),
  (before, refl),
)

module _ (is_raw : Bool) (lines : List (Option StreamLocation)) (s : Solution) (id : SymId) (f : SymbolFacts) (given : GivenValue) (at : StreamLocation) (defined : facts s.tree id ≡ Some f)
    (one : Contains s.tree.defined id) (there : place_at s.places (SymbolPlace id.0) ≡ Some given) (by_line : slice_index_or lines id.0 None ≡ Some at) where
  abbrev value : GivenValue
  value = given_of (known s id)

  abbrev line_of : List ℕ
  line_of = lost_line is_raw (has_prompt f.prompts) at (name s.tree id) f.symbol_type given value

  lost_here : lost_at is_raw lines s id ≡ (if same_given given value then [] else line_of ∷ [])
  lost_here =
      ap (λ o. lost_of is_raw (name s.tree id) o (slice_index_or lines id.0 None) (place_at s.places (SymbolPlace id.0)) value) defined
      ∙ ap (λ o. lost_by is_raw (has_prompt f.prompts) (name s.tree id) f.symbol_type (slice_index_or lines id.0 None) o value) there
      ∙ ap (λ l. lost_by is_raw (has_prompt f.prompts) (name s.tree id) f.symbol_type l (Some given) value) by_line

  kept_or_told : (given ≡ value) ⊎ StandsIn (line_of ++ codes "\n") (lines_text (lost_lines is_raw lines s))
  kept_or_told = by (same_given given value) refl where
    by : (b : Bool) → same_given given value ≡ b → (given ≡ value) ⊎ StandsIn (line_of ++ codes "\n") (lines_text (lost_lines is_raw lines s))
    by true e = inl (given_is given value e)
    by false e =
        let (before, after, is) = one_of_all (lost_at is_raw lines s) s.tree.defined one.0 id (slice_get-get_or s.tree.defined one.0 id one.1 ∙ ap Some one.2) in
        let here : lost_at is_raw lines s id ≡ line_of ∷ [] = lost_here ∙ ap (λ b. if b then [] else line_of ∷ []) e in
        inr (line_stands line_of (lost_lines is_raw lines s) before after (is ∙ ap (λ l. before ++ (l ++ after)) here))

  -- the same where whole lines follow those of each lost symbol
  module _ (behind : SymId → List ℕ) (whole : (x : SymId) → AreLines (behind x)) where
    abbrev told_all : SymId → List ℕ
    told_all x = lines_text (lost_at is_raw lines s x) ++ behind x

    abbrev is_lost : SymId → Bool
    is_lost x = not (length (lost_at is_raw lines s x) == 0)

    all_whole : (x : SymId) → AreLines (told_all x)
    all_whole x = AreLines-append (lines_text (lost_at is_raw lines s x)) (behind x) (lost_at is_raw lines s x, refl) (whole x)

    told_here : lost_at is_raw lines s id ≡ line_of ∷ [] → StandsIn (line_of ++ codes "\n") (told_all id)
    told_here is =
        stands_before (behind id) (line_of ++ codes "\n") (lines_text (lost_at is_raw lines s id))
        (subst (λ ls. StandsIn (line_of ++ codes "\n") (lines_text ls)) (sym is) (stands_first (line_of ++ codes "\n") []))

    kept_or_explained : (given ≡ value) ⊎ StandsIn (line_of ++ codes "\n") (flat_map told_all (filter is_lost s.tree.defined))
    kept_or_explained = by (same_given given value) refl where
      by : (b : Bool) → same_given given value ≡ b → (given ≡ value) ⊎ StandsIn (line_of ++ codes "\n") (flat_map told_all (filter is_lost s.tree.defined))
      by true e = inl (given_is given value e)
      by false e =
          let here : lost_at is_raw lines s id ≡ line_of ∷ [] = lost_here ∙ ap (λ b. if b then [] else line_of ∷ []) e in
          inr (stands_in_kept told_all is_lost all_whole s.tree.defined one.0 id (line_of ++ codes "\n") (slice_get-get_or s.tree.defined one.0 id one.1 ∙ ap Some one.2)
          (ap (λ ls. not (length ls == 0)) here) (told_here here))

  -- where no line is lost, what was given is the value
  pub lost_if : lost_lines is_raw lines s ≡ [] → given ≡ value
  lost_if none = by (same_given given value) refl where
    never : (before : List (List ℕ)) (x : List ℕ) (after : List (List ℕ)) → before ++ ((x ∷ []) ++ after) ≡ [] → ⊥
    never [] x after e = let clash : x ∷ after ≡ [] = e in cc
    never (y ∷ before) x after e = let clash : y ∷ (before ++ ((x ∷ []) ++ after)) ≡ [] = e in cc

    by : (b : Bool) → same_given given value ≡ b → given ≡ value
    by true e = given_is given value e
    by false e =
        let (before, after, is) = one_of_all (lost_at is_raw lines s) s.tree.defined one.0 id (slice_get-get_or s.tree.defined one.0 id one.1 ∙ ap Some one.2) in
        let here : lost_at is_raw lines s id ≡ line_of ∷ [] = lost_here ∙ ap (λ b. if b then [] else line_of ∷ []) e in
        absurd (never before line_of after (sym (ap (λ l. before ++ (l ++ after)) here) ∙ sym is ∙ none))

-- ---- the lines of the streams

-- no line is known
abbrev pub no_line : Option StreamLocation
no_line = None

-- the symbol of an assignment
abbrev pub number_of : Effect → ℕ
number_of Silent = 0
number_of (Warns line_warning) = 0
number_of (Assigns s given) = s.0

pub same_symbol : (a b : SymId) → a.0 ≡ b.0 → a ≡ b
same_symbol a b same = λ i. record { 0 = same i }

-- a symbol has this value, which this line gave
abbrev Has : UserInput → ℕ → GivenValue → StreamLocation → Type 0
Has p i given at = (place_at p.places (SymbolPlace i) ≡ Some given) × (slice_index_or p.lines i None ≡ Some at)

abbrev pub value_in : ℕ → List (Option GivenValue) → Option GivenValue
value_in i places = slice_index_or places i None

abbrev pub line_in : ℕ → List (Option StreamLocation) → Option StreamLocation
line_in i lines = slice_index_or lines i None

module _ (tree : TreeFacts) (prefix : Notation) where
  -- no line is too long: all count
  all_count : (lines : List Line) → option_map stream_location (find (λ l. not (is_within l)) lines) ≡ None → before_too_long lines ≡ lines
  all_count [] e = refl
  all_count (l ∷ lines) e = by (is_within l) refl (all_count lines) where
    by : (b : Bool) → is_within l ≡ b → (option_map stream_location (find (λ m. not (is_within m)) lines) ≡ None → before_too_long lines ≡ lines) → before_too_long (l ∷ lines) ≡ l ∷ lines
    by true w others = take_while-cons is_within l lines ∙ rw w (ap (λ ls. l ∷ ls) (others (rw w at e)))
    by false w others = absurd (let long : Some (stream_location l) ≡ None = rw w at e in cc)

  -- the next later line that sets the symbol
  abbrev SetsAgain : UserInput → SymId → GivenValue → StreamLocation → List Line → Type 0
  SetsAgain p s given at later =
      (before after : List Line) × (m : Line) × (other : GivenValue) × (later ≡ before ++ m ∷ after)
      × All (LeavesAlone tree prefix s) before × (effect tree prefix m ≡ Assigns s other) × Has (input_after tree prefix p before) s.0 given at

  abbrev StaysOrSet : UserInput → List Line → SymId → GivenValue → StreamLocation → Type 0
  StaysOrSet p later s given at = Has (input_after tree prefix p later) s.0 given at ⊎ SetsAgain p s given at later

  -- the same of the lines after one more
  abbrev Next : UserInput → Line → List Line → SymId → GivenValue → StreamLocation → Type 0
  Next p l later s given at = Has (input_after tree prefix p (l ∷ [])) s.0 given at → StaysOrSet (input_after tree prefix p (l ∷ [])) later s given at

module _ (tree : TreeFacts) (prefix : Notation) (turn : LinesInTurn tree prefix) where
  -- a line's warning, and then those of the others from the input after it
  warnings-cons : (p : UserInput) (l : Line) (lines : List Line) → warnings tree prefix p (l ∷ lines) ≡ warning tree prefix p l ++ warnings tree prefix (input_after tree prefix p (l ∷ [])) lines
  warnings-cons p l lines =
      turn.add_up.warn p (l ∷ []) lines ∙ ap (λ w. w ++ warnings tree prefix (input_after tree prefix p (l ∷ [])) lines) (turn.add_up.one_warns p l)

  -- the warning of a line stands in those of all lines
  warned_at : (p : UserInput) (before later : List Line) (l : Line) →
      StandsIn (warning tree prefix (input_after tree prefix p before) l) (warnings tree prefix p (before ++ l ∷ later))
  warned_at p before later l =
      let here = input_after tree prefix p before in
      let split : warnings tree prefix p (before ++ l ∷ later)
      ≡ warnings tree prefix p before ++ (warning tree prefix here l ++ warnings tree prefix (input_after tree prefix here (l ∷ [])) later) =
      turn.add_up.warn p before (l ∷ later) ∙ ap (λ w. warnings tree prefix p before ++ w) (warnings-cons here l later) in
      subst (StandsIn (warning tree prefix here l)) (sym split)
      (stands_after (warnings tree prefix p before) _ _ (AreLines-warnings tree prefix before p)
      (stands_first (warning tree prefix here l) (warnings tree prefix (input_after tree prefix here (l ∷ [])) later)))

  -- what a line assigns, the symbol has
  assigned : (p : UserInput) (l : Line) (s : SymId) (given : GivenValue) → effect tree prefix l ≡ Assigns s given → s.0 < length p.places.symbols → s.0 < length p.lines →
      Has (input_after tree prefix p (l ∷ [])) s.0 given (stream_location l)
  assigned p l s given is below line_below = (
    ap (value_in s.0) (turn.says.value p l s given is) ∙ get_or-set_same p.places.symbols s.0 (Some given) None below,
    ap (line_in s.0) (turn.says.by_line p l s given is) ∙ get_or-set_same p.lines s.0 (Some (stream_location l)) None line_below,
  )

  -- what another line assigns leaves it
  not_assigned : (p : UserInput) (l : Line) (s : SymId) (other : GivenValue) (i : ℕ) (given : GivenValue) (at : StreamLocation) → effect tree prefix l ≡ Assigns s other → (i ≡ s.0 → ⊥) →
      Has p i given at → Has (input_after tree prefix p (l ∷ [])) i given at
  not_assigned p l s other i given at is differs has = (
    ap (value_in i) (turn.says.value p l s other is) ∙ get_or-set_other p.places.symbols s.0 i (Some other) None differs ∙ has.0,
    ap (line_in i) (turn.says.by_line p l s other is) ∙ get_or-set_other p.lines s.0 i (Some (stream_location l)) None differs ∙ has.1,
  )

  silent : (p : UserInput) (l : Line) (i : ℕ) (given : GivenValue) (at : StreamLocation) → effect tree prefix l ≡ Silent → Has p i given at → Has (input_after tree prefix p (l ∷ [])) i given at
  silent p l i given at is has =
      let here = turn.says.silent p l is in
      (ap (λ (q : UserInput). value_in i q.places.symbols) here ∙ has.0, ap (λ (q : UserInput). line_in i q.lines) here ∙ has.1)

  warns : (p : UserInput) (l : Line) (line_warning : Warning) (i : ℕ) (given : GivenValue) (at : StreamLocation) → effect tree prefix l ≡ Warns line_warning → Has p i given at →
      Has (input_after tree prefix p (l ∷ [])) i given at
  warns p l line_warning i given at is has =
      let here = turn.says.warned p l line_warning is in
      (ap (λ (q : UserInput). value_in i q.places.symbols) here ∙ has.0, ap (λ (q : UserInput). line_in i q.lines) here ∙ has.1)

  -- what a symbol has stays, or a line sets it again
  stays_or_set : (p : UserInput) (later : List Line) (s : SymId) (given : GivenValue) (at : StreamLocation) → Has p s.0 given at → StaysOrSet tree prefix p later s given at
  stays_or_set p [] s given at has = inl (subst (λ (q : UserInput). Has q s.0 given at) (sym (turn.add_up.none_leave p)) has)
  stays_or_set p (l ∷ later) s given at has = by (effect tree prefix l) refl (stays_or_set (input_after tree prefix p (l ∷ [])) later s given at) where
    on : LeavesAlone tree prefix s l → Next tree prefix p l later s given at → Has (input_after tree prefix p (l ∷ [])) s.0 given at → StaysOrSet tree prefix p (l ∷ later) s given at
    on alone next here = elim (next here) [
      | inl stays ↦ inl (subst (λ (q : UserInput). Has q s.0 given at) (sym (turn.add_up.leave p (l ∷ []) later)) stays)
      | inr (before, after, m, other, is, leaves, sets, had) ↦
          inr (
            l ∷ before,
            after,
            m,
            other,
            ap (λ ls. l ∷ ls) is,
            All-cons (LeavesAlone tree prefix s) l before alone leaves,
            sets,
            subst (λ (q : UserInput). Has q s.0 given at) (sym (turn.add_up.leave p (l ∷ []) before)) had,
          )
    ]

    set_or : (t : SymId) (other : GivenValue) → effect tree prefix l ≡ Assigns t other → Next tree prefix p l later s given at → (b : Bool) → eqb t.0 s.0 ≡ b → StaysOrSet tree prefix p (l ∷ later) s given at
    set_or t other is next true e =
        inr (
          [],
          later,
          l,
          other,
          refl,
          All-nil (LeavesAlone tree prefix s),
          is ∙ ap (λ x. Assigns x other) (same_symbol t s (eqb-true t.0 s.0 e)),
          subst (λ (q : UserInput). Has q s.0 given at) (sym (turn.add_up.none_leave p)) has,
        )
    set_or t other is next false e =
        on (λ g sets. absurd (eqb-false t.0 s.0 e (ap number_of (sym is ∙ sets)))) next
        (not_assigned p l t other s.0 given at is (λ same. eqb-false t.0 s.0 e (sym same)) has)

    by : (e : Effect) → effect tree prefix l ≡ e → Next tree prefix p l later s given at → StaysOrSet tree prefix p (l ∷ later) s given at
    by Silent is next = on (λ g sets. absurd (let clash : Silent ≡ Assigns s g = sym is ∙ sets in cc)) next (silent p l s.0 given at is has)
    by (Warns line_warning) is next = on (λ g sets. absurd (let clash : Warns line_warning ≡ Assigns s g = sym is ∙ sets in cc)) next (warns p l line_warning s.0 given at is has)
    by (Assigns t other) is next = set_or t other is next (eqb t.0 s.0) refl

-- ---- a whole run

module _ (files : Files) (options : Options) (all : List (List ℕ)) (tree : TreeFacts) (solution : Solution)
    (is_whole : RefusesNothing files options all tree solution) where
  abbrev lines : List Line
  lines = lines_of (streams (input_names options) all)

  abbrev prefix : Notation
  prefix = options.prefix

  abbrev empty : UserInput
  empty = fresh_input options tree

  all_counted : before_too_long lines ≡ lines
  unfolding reading
  all_counted = all_count tree prefix lines is_whole.read_whole

  pub input_is : (read_of options tree all).input ≡ input_after tree prefix empty lines
  unfolding reading
  input_is = ap (input_after tree prefix empty) all_counted

  pub places_are : solution.places ≡ (input_after tree prefix empty lines).places
  places_are = is_whole.solution_is.places_are ∙ ap (λ (i : UserInput). i.places) input_is

  warned_are : (read_of options tree all).warned ≡ warnings tree prefix empty lines
  unfolding reading
  warned_are = ap (warnings tree prefix empty) all_counted

  abbrev last_lines : List (Option StreamLocation)
  last_lines = (input_after tree prefix empty lines).lines

  module _ (formed : IsWellFormed tree) (turn : LinesInTurn tree prefix) (asked : options.warn_lost ≡ true) (outcome : Outcome) (opened : List (List ℕ)) (is : outcome ≡ reported (lines_text tree.warnings)
      (reported (read_of options tree all).warned (done_outcome files options opened (read_of options tree all).input solution))) where
    abbrev last : UserInput
    last = input_after tree prefix empty lines

    diagnostics_are : outcome.warned ≡ lines_text tree.warnings ++ (warnings tree prefix empty lines ++ (lines_text (map (λ line. lead options ++ line) (value_warnings solution)) ++ lost_text options last solution))
    diagnostics_are =
        ap (λ (o : Outcome). o.warned) is
        ∙ ap (λ w. lines_text tree.warnings ++ (w ++ (lines_text (map (λ line. lead options ++ line) (value_warnings solution)) ++ lost_text options (read_of options tree all).input solution))) warned_are
        ∙ ap (λ (i : UserInput). lines_text tree.warnings ++ (warnings tree prefix empty lines ++ (lines_text (map (λ line. lead options ++ line) (value_warnings solution)) ++ lost_text options i solution))) input_is

    -- what is warned of as the streams are read stands in the notes, and so does what is lost
    of_streams : (part : List ℕ) → StandsIn part (warnings tree prefix empty lines) → StandsIn part outcome.warned
    of_streams part stands =
        subst (StandsIn part) (sym diagnostics_are)
        (stands_after (lines_text tree.warnings) part _ (tree.warnings, refl) (stands_before (lines_text (map (λ line. lead options ++ line) (value_warnings solution)) ++ lost_text options last solution) part _ stands))

    of_lost : (part : List ℕ) → StandsIn part (lost_text options last solution) → StandsIn part outcome.warned
    of_lost part stands =
        subst (StandsIn part) (sym diagnostics_are)
        (stands_after (lines_text tree.warnings) part _ (tree.warnings, refl)
        (stands_after (warnings tree prefix empty lines) part _ (subst AreLines warned_are (AreLines-reading tree prefix lines empty))
        (stands_after (lines_text (map (λ line. lead options ++ line) (value_warnings solution))) part _ (map (λ line. lead options ++ line) (value_warnings solution), refl) stands)))

    -- the warning of a line stands in the notes
    line_told : (before later : List Line) (l : Line) (e : Effect) → lines ≡ before ++ l ∷ later → effect tree prefix l ≡ e →
        StandsIn (effect_text prefix.is_raw tree (input_after tree prefix empty before) (stream_location l) e) outcome.warned
    unfolding warning
    line_told before later l e split is_effect =
        of_streams (effect_text prefix.is_raw tree (input_after tree prefix empty before) (stream_location l) e)
        (subst (λ ls. StandsIn (effect_text prefix.is_raw tree (input_after tree prefix empty before) (stream_location l) e) (warnings tree prefix empty ls)) (sym split)
        (subst (λ x. StandsIn (effect_text prefix.is_raw tree (input_after tree prefix empty before) (stream_location l) x) (warnings tree prefix empty (before ++ l ∷ later))) is_effect
        (warned_at tree prefix turn empty before later l)))

    module _ (before later : List Line) (l : Line) (split : lines ≡ before ++ l ∷ later) (s : SymId) (given : GivenValue) (assigns : effect tree prefix l ≡ Assigns s given)
        (f : SymbolFacts) (defined : facts tree s ≡ Some f) (typed : f.symbol_type ≢ Undefined) where
      abbrev here : UserInput
      here = input_after tree prefix empty (before ++ l ∷ [])

      abbrev from : StreamLocation
      from = plain_location (lead options) (stream_location l)

      counts : ArePlacesOf tree (input_after tree prefix empty before).places
      counts = turn.counts.places empty before (record { symbols = length-replicate (length tree.symbols) None; choices = length-replicate (length tree.choices) None })

      within : s.0 < length tree.symbols
      within = slice_get_within tree.symbols s.0 f defined

      below : s.0 < length (input_after tree prefix empty before).places.symbols
      below = subst (λ n. s.0 < n) (sym counts.symbols) within

      line_counts : length (input_after tree prefix empty before).lines ≡ length tree.symbols
      line_counts =
          turn.counts.lines empty before
          ∙ ap (λ b. length (if b || wants options Output.Explanation then replicate (length tree.symbols) no_line else [])) asked
          ∙ length-replicate (length tree.symbols) no_line

      line_below : s.0 < length (input_after tree prefix empty before).lines
      line_below = subst (λ n. s.0 < n) (sym line_counts) within

      has : Has here s.0 given (stream_location l)
      has =
          subst (λ (q : UserInput). Has q s.0 given (stream_location l)) (sym (turn.add_up.leave empty before (l ∷ [])))
          (assigned tree prefix turn (input_after tree prefix empty before) l s given assigns below line_below)

      -- what is told of lost values, with explanations or without
      abbrev line_told_of : TreeFacts → List ℕ
      line_told_of t = lost_line prefix.is_raw (has_prompt f.prompts) (stream_location l) (name t s) f.symbol_type given (given_of (known solution s)) ++ codes "\n"

      heard_in : (b : Bool) → (options.explain_lost && options.warn_lost) ≡ b → StandsIn (line_told_of solution.tree) (lost_text_if options last solution b) → IsKeptOrWarned prefix.is_raw tree solution outcome.warned l s f given
      heard_in b e told =
          inr (of_lost (line_told_of tree)
          (subst (λ (t : TreeFacts). StandsIn (line_told_of t) (lost_text options last solution)) is_whole.solution_is.tree_is
          (subst (λ c. StandsIn (line_told_of solution.tree) (lost_text_if options last solution c)) (sym e) told)))

      kept : Has (input_after tree prefix here later) s.0 given (stream_location l) → IsKeptOrWarned prefix.is_raw tree solution outcome.warned l s f given
      kept stays = by (options.explain_lost && options.warn_lost) refl
        where
          joined : lines ≡ (before ++ l ∷ []) ++ later
          joined = split ∙ sym (append_assoc before (l ∷ []) later)

          at_end : input_after tree prefix empty lines ≡ input_after tree prefix here later
          at_end = ap (input_after tree prefix empty) joined ∙ turn.add_up.leave empty (before ++ l ∷ []) later

          there : place_at solution.places (SymbolPlace s.0) ≡ Some given
          there = ap (λ (q : Places). place_at q (SymbolPlace s.0)) places_are ∙ ap (λ (q : UserInput). place_at q.places (SymbolPlace s.0)) at_end ∙ stays.0

          by_line : slice_index_or last_lines s.0 None ≡ Some (stream_location l)
          by_line = ap (λ (q : UserInput). slice_index_or q.lines s.0 None) at_end ∙ stays.1

          by : (b : Bool) → (options.explain_lost && options.warn_lost) ≡ b → IsKeptOrWarned prefix.is_raw tree solution outcome.warned l s f given
          by true e = elim (kept_or_explained prefix.is_raw last_lines solution s f given (stream_location l) (subst (λ (t : TreeFacts). facts t s ≡ Some f) (sym is_whole.solution_is.tree_is) defined)
              (subst (λ (t : TreeFacts). Contains t.defined s) (sym is_whole.solution_is.tree_is) (formed.typed_defined s f defined typed)) there by_line
              (behind options last solution) (AreLines-behind options last solution)) [
                | inl same ↦ inl same
                | inr told ↦
                    let lost = lost_symbols options last solution in
                    let causes = causes_text options last solution lost (length lost) in
                    heard_in true e (stands_before (question_after options last solution lost) (line_told_of solution.tree) (flat_map (told_at options last solution) lost ++ causes)
                    (stands_before causes (line_told_of solution.tree) (flat_map (told_at options last solution) lost) told))
              ]
          by false e = elim (kept_or_told prefix.is_raw last_lines solution s f given (stream_location l) (subst (λ (t : TreeFacts). facts t s ≡ Some f) (sym is_whole.solution_is.tree_is) defined)
              (subst (λ (t : TreeFacts). Contains t.defined s) (sym is_whole.solution_is.tree_is) (formed.typed_defined s f defined typed)) there by_line) [
                | inl same ↦ inl same
                | inr told ↦ heard_in false e (subst (λ c. StandsIn (line_told_of solution.tree) (lines_text (if c then lost_lines prefix.is_raw last_lines solution else []))) (sym asked) told)
              ]

      module _ (front back : List Line) (m : Line) (other : GivenValue) (is_later : later ≡ front ++ m ∷ back) (sets : effect tree prefix m ≡ Assigns s other)
          (had : Has (input_after tree prefix here front) s.0 given (stream_location l)) where
        joined : lines ≡ (before ++ l ∷ front) ++ m ∷ back
        joined = split ∙ ap (λ ls. before ++ l ∷ ls) is_later ∙ sym (append_assoc before (l ∷ front) (m ∷ back))

        abbrev mid : UserInput
        mid = input_after tree prefix empty (before ++ l ∷ front)

        mid_is : input_after tree prefix here front ≡ mid
        mid_is = sym (turn.add_up.leave empty (before ++ l ∷ []) front) ∙ ap (input_after tree prefix empty) (append_assoc before (l ∷ []) front)

        had_then : Has mid s.0 given (stream_location l)
        had_then = subst (λ (q : UserInput). Has q s.0 given (stream_location l)) mid_is had

        abbrev first : List ℕ
        first = located_warning_line m.stream m.number (SetAgain (name tree s))

        abbrev change : List ℕ
        change = change_text prefix.is_raw (stream_location m) (name tree s) (type_of tree s) (Some given) (Some from) other

        told : StandsIn (first ++ change) outcome.warned
        told =
            subst (λ x. StandsIn x outcome.warned)
            (ap (λ o. warning_line_if m.stream m.number (if is_some o then Some (SetAgain (name tree s)) else None)
            ++ change_text prefix.is_raw (stream_location m) (name tree s) (type_of tree s) o (plain_line mid mid.lines s) other) had_then.0
            ∙ ap (λ o. first ++ change_text prefix.is_raw (stream_location m) (name tree s) (type_of tree s) (Some given) (option_map (plain_location mid.lead) o) other) had_then.1)
            (line_told (before ++ l ∷ front) back m (Assigns s other) joined sets)

        set_again_told : StandsIn first outcome.warned
        set_again_told = stands_within [] first change outcome.warned AreLines-nothing told

        type_is : type_of tree s ≡ f.symbol_type
        type_is = ap type_in defined

        changed : same_given given other ≡ false → StandsIn (change_line prefix.is_raw (stream_location m) (name tree s) f.symbol_type given from other) outcome.warned
        changed differs =
            stands_within first (change_line prefix.is_raw (stream_location m) (name tree s) f.symbol_type given from other) [] outcome.warned
            (AreLines-warning_if m.stream m.number (Some (SetAgain (name tree s))))
            (subst (λ x. StandsIn (first ++ x) outcome.warned)
            (ap (λ k. change_text prefix.is_raw (stream_location m) (name tree s) k (Some given) (Some from) other) type_is
            ∙ ap (λ b. if b then [] else change_line prefix.is_raw (stream_location m) (name tree s) f.symbol_type given from other) differs
            ∙ sym (append-nil (change_line prefix.is_raw (stream_location m) (name tree s) f.symbol_type given from other))) told)

      again : SetsAgain tree prefix here s given (stream_location l) later → IsSetAgain tree prefix outcome.warned from s f.symbol_type given later
      again (front, back, m, other, is_later, leaves, sets, had) =
          (front, back, m, other, is_later, leaves, sets, set_again_told front back m other is_later sets had, changed front back m other is_later sets had)

      heard : IsSetAgain tree prefix outcome.warned from s f.symbol_type given later ⊎ IsKeptOrWarned prefix.is_raw tree solution outcome.warned l s f given
      heard = elim (stays_or_set tree prefix turn here later s given (stream_location l) has) [
        | inl stays ↦ inr (kept stays)
        | inr set ↦ inl (again set)
      ]

    each_accounted_for : (before later : List Line) (l : Line) → lines ≡ before ++ l ∷ later → IsAccountedFor tree prefix (lead options) solution outcome.warned l later (effect tree prefix l)
    each_accounted_for before later l split = by (effect tree prefix l) refl where
      by : (e : Effect) → effect tree prefix l ≡ e → IsAccountedFor tree prefix (lead options) solution outcome.warned l later e
      by Silent is_effect = silent_says prefix.is_raw tree (line_meaning tree prefix l) (effect_is tree prefix l ∙ is_effect)
      by (Warns line_warning) is_effect =
          stands_within [] (located_warning_line l.stream l.number line_warning) [] outcome.warned AreLines-nothing
          (subst (λ b. StandsIn (warning_line_if l.stream l.number (if b then Some line_warning else None) ++ []) outcome.warned)
          (ap (λ b. is_reported b line_warning) asked ∙ all_reported line_warning) (line_told before later l (Warns line_warning) split is_effect))
      by (Assigns s given) is_effect =
          let (f, defined, typed) = assigned_typed prefix.is_raw tree (line_meaning tree prefix l) s given (effect_is tree prefix l ∙ is_effect) in
          (f, defined, heard before later l split s given is_effect f defined typed)

pub nothing_lost : TreesAreWellFormed → DoneAreWhole → LinesGiveInTurn → NothingIsLost
nothing_lost trees wholes turns files options all outcome is_outcome done asked =
    let (tree, solution, is_whole, (opened, are, is), passed) = wholes files options all outcome is_outcome done in (
      tree,
      solution,
      is_whole,
      has_its_texts files options all outcome tree solution opened is_whole.solution_is.tree_is is,
      each_accounted_for files options all tree solution is_whole (trees files (root_file options) tree is_whole.accepted.built) (turns tree options.prefix) asked outcome opened is,
    )
