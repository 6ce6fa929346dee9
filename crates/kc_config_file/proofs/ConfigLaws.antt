-- What reading the .config that was written leaves in empty places.
use Rattle.std.proofs.{Common.{Bool, List, None, Option, Some, [], ap, arith, cond, false, get_or, inl, inr, length, refl, subst, suc, sym, true, zero, ℕ, ◌++◌, ◌<◌, ◌∙◌, ◌∷◌, ◌≡◌}, lemmas.{Bool.{and_from, and_parts, lt-ltb, true≢false}, Option.slice_get-get_or}}
use Rattle.std.specs.{List.{Contains, cons_option, find, flat_map}, Option.option_and_then, Prelude.{option_map, slice_get, ◌&&◌}}
use Rattle.kc_language.specs.{ConfigFile.{Assignment, Notation, Places, is_prefix, place_at, places_given}, Expressions.{SymbolValue, TextValue, Truth, symbol}, Symbols.{ChoiceFacts, CommentShown, EndShown, MenuShown, Shown, SymbolFacts, SymbolShown, TreeFacts}, Texts.{HasPlainTitles, config_file_line, config_text, read_alone, symbol_config, valuation_view}, Values.{ChoicePlace, GivenValue, Member, Solves, SymbolPlace, UserPlace, choice_at, equations, given_of, is_yes, known_from, name as name_of, name_count, user_place}, declared.expressions.{SymId.SymId, Tri.TheVariants.{M, N, Y}}}
use Rattle.kc_language.specs.declared.expressions.SymbolType.TheVariants as symbol_type
use Rattle.kc_entries.specs.WellFormed.{IsLineText, IsWellFormed, OfTitles, ShowsEach}
use Rattle.kc_user.specs.{PartsOfConfigFile.no_places, Places.{allowed, allowed_by, allowed_for, members_of}}
use Rattle.kc_values.specs.{GivenLines.reread_places, Members.{MembersAreBools, MembersAreTheirs}}
use Rattle.kc_language.specs.Values as ls
use Rattle.kc_values.specs.PartsOfValues as ls_parts
use Rattle.kc_values.proofs.{FixedLines.{Sel, place_cases, place_of_member}, Selection.found}
use Rattle.kc_input.specs.HasNames.{HasNames}
use Rattle.kc_config_file.proofs.{ConfigTextLemmas.{config_gives, entry_given}, FilledLemmas.{Holds, IsCandidate, contains_cases, contains_here, filled_member, filled_none, filled_symbol, in_flat_map, no_element, to_flat_map}, MinimalLaws.alone_whole, MinimalTextLemmas.{choice_by_place, choice_there, there, yes_selected}, ShapeLemmas.value_shape}
use Rattle.kc_input.proofs.{DefinedLemmas.{allowed_defined, mentioned}, GivesLemmas.Gives, SymbolLineLemmas.{FitsLine, IsOf, symbol_gives}}

-- what is found nowhere is no element
missing_at : {X : Type 0} (p : X → Bool) (b : Bool) (x y : X) (xs : List X) → p x ≡ b → (find p xs ≡ None → Contains xs y → p y ≡ false) →
    cond b (Some x) (find p xs) ≡ None → Contains (x ∷ xs) y → p y ≡ false
missing_at p true x y xs t rec e c = cc
missing_at p false x y xs t rec e (zero, l, i) = ap p (sym i) ∙ t
missing_at p false x y xs t rec e (suc n, l, i) = rec e (n, omega arith, i)

missing : {X : Type 0} (p : X → Bool) (xs : List X) (y : X) → find p xs ≡ None → Contains xs y → p y ≡ false
missing p [] y e c = absurd (no_element y c)
missing p (x ∷ xs) y e c = missing_at p (p x) x y xs refl (missing p xs y) e c

-- a symbol without a type is not written
not_written : (tree : TreeFacts) (known : SymId → SymbolValue) (f : SymbolFacts) (choice : Option ℕ) → ((c : ℕ) → choice ≡ Some c → f.symbol_type ≡ symbol_type.Bool) →
    f.symbol_type ≡ symbol_type.Undefined → ls_parts.written_by_choice tree known f choice ≡ false
not_written tree known f None bools e = ap (ls.written_by_type tree known f) e
not_written tree known f (Some c) bools e = let never : symbol_type.Bool ≡ symbol_type.Undefined = sym (bools c refl) ∙ e in cc

yes_allowed : (k : SymbolValue) → is_yes (given_of k) ≡ true → allowed_by symbol_type.Bool (given_of k) ≡ true
yes_allowed (Truth N) e = refl
yes_allowed (Truth M) e = absurd (true≢false (sym e))
yes_allowed (Truth Y) e = refl
yes_allowed (TextValue k bytes) e = absurd (true≢false (sym e))

module _ (tree : TreeFacts) (user : UserPlace → Option GivenValue) (V : ℕ → SymbolValue) (formed : IsWellFormed tree) (theirs : MembersAreTheirs tree)
    (bools : MembersAreBools tree) (named_all : HasNames tree) (shows : ShowsEach tree) (texts : OfTitles IsLineText tree)
    (solves : Solves (name_count tree) (equations tree user) V)
    (fits : (s : SymId) → s.0 < name_count tree → ls.written tree (known_from tree V) s ≡ true → FitsLine (V s.0)) (prefix : Notation)
    (is_pre : is_prefix prefix.prefix ≡ true) (plain : HasPlainTitles tree prefix.prefix (valuation_view tree user V)) where
  abbrev K : SymId → SymbolValue
  K = known_from tree V

  abbrev pub value_to : SymId → GivenValue
  value_to s = given_of (V s.0)

  abbrev pub has_line : SymId → Bool
  has_line s = ls.written tree K s && allowed tree s (given_of (V s.0))

  abbrev assignment_to : SymId → Assignment
  assignment_to s = record { symbol = s; given = given_of (V s.0) }

  abbrev own_if : Bool → SymId → Option Assignment
  own_if ok s = cond ok (Some (assignment_to s)) None

  abbrev given_to : SymId → List Assignment
  given_to s = cons_option (own_if (allowed tree s (given_of (V s.0))) s) []

  written_gives : (stream : List ℕ) (s : SymId) → Contains tree.entries (SymbolShown s) → ls.written tree K s ≡ true →
      Gives tree prefix stream (symbol_config tree prefix (valuation_view tree user V) s) (given_to s)
  written_gives stream s (n, at_n, is) w =
      let defined = formed.entries_sound n (SymbolShown s) (slice_there n (SymbolShown s) at_n is) in
      let lt : s.0 < length tree.symbols = mentioned tree formed s defined in
      let (f, at) = there tree.symbols s.0 lt in
      let value_is : known_from tree V s ≡ V s.0 = rw (lt-ltb s.0 (length tree.symbols) lt) refl in
      let shape : IsOf f.symbol_type (V s.0) = elim (value_shape tree (known_from tree V) s f (user (user_place tree s.0)) at bools) [
        | inl untyped ↦ absurd (true≢false (sym w ∙ ap (ls_parts.written_facts tree K) at ∙ not_written tree K f f.choice (λ c e. bools s f c at e) untyped))
        | inr of ↦ rw (solves s.0 lt) of
      ] in
      let line = symbol_gives tree prefix stream is_pre formed named_all s f at defined (V s.0) shape (fits s lt w) in
      subst (λ k. Gives tree prefix stream (config_file_line prefix.is_raw (prefix.prefix ++ name_of tree s) k) (given_to s)) (sym value_is) line
    where
      slice_there : (n : ℕ) (entry : Shown) → n < length tree.entries → get_or tree.entries n entry ≡ entry → slice_get tree.entries n ≡ Some entry
      slice_there n entry lt e = slice_get-get_or tree.entries n entry lt ∙ ap Some e

  abbrev pub config_given : List Assignment
  config_given = flat_map (entry_given tree prefix [] is_pre (valuation_view tree user V) given_to texts plain) tree.entries

  pub config_reads : (stream : List ℕ) → Gives tree prefix stream (config_text tree prefix (valuation_view tree user V)) config_given
  config_reads stream = config_gives tree prefix stream is_pre (valuation_view tree user V) given_to texts plain (λ s c w. written_gives stream s c w)

  in_own : (s : SymId) (a : Assignment) (ok : Bool) → Contains (cons_option (own_if ok s) []) a → (ok ≡ true) × (assignment_to s ≡ a)
  in_own s a true c = elim (contains_cases (assignment_to s) a [] c) [ inl e ↦ (refl, e) | inr later ↦ absurd (no_element a later) ]
  in_own s a false c = absurd (no_element a c)

  in_entry : (s : SymId) (a : Assignment) (w : Bool) → Contains (cond w (given_to s) []) a → ((w && allowed tree s (given_of (V s.0))) ≡ true) × (assignment_to s ≡ a)
  in_entry s a true c = in_own s a (allowed tree s (given_of (V s.0))) c
  in_entry s a false c = absurd (no_element a c)

  to_own : (s : SymId) (ok : Bool) → ok ≡ true → Contains (cons_option (own_if ok s) []) (assignment_to s)
  to_own s true e = contains_here (assignment_to s) []
  to_own s false e = absurd (true≢false (sym e))

  to_entry : (s : SymId) (w : Bool) → (w && allowed tree s (given_of (V s.0))) ≡ true → Contains (cond w (given_to s) []) (assignment_to s)
  to_entry s true e = to_own s (allowed tree s (given_of (V s.0))) e
  to_entry s false e = absurd (true≢false (sym e))

  in_shown : (entry : Shown) (a : Assignment) → Contains (entry_given tree prefix [] is_pre (valuation_view tree user V) given_to texts plain entry) a →
      (s : SymId) × (entry ≡ SymbolShown s) × (has_line s ≡ true) × (assignment_to s ≡ a)
  in_shown (SymbolShown s) a c = let (pass, is) = in_entry s a (ls.written tree K s) c in (s, refl, pass, is)
  in_shown (MenuShown text when) a c = absurd (no_element a c)
  in_shown (EndShown menu) a c = absurd (no_element a c)
  in_shown (CommentShown text when) a c = absurd (no_element a c)

  -- a symbol with a line is defined
  line_defined : (s : SymId) → has_line s ≡ true → Contains tree.defined s
  line_defined s pass =
      let (w, ok) = and_parts (ls.written tree K s) (allowed tree s (given_of (V s.0))) pass in
      allowed_defined tree formed s (given_of (V s.0)) ok

  pub config_holds : Holds tree value_to has_line config_given
  config_holds = record {
    sound = λ a c.
        let (entry, (n, lt, at), mine) = in_flat_map (entry_given tree prefix [] is_pre (valuation_view tree user V) given_to texts plain) tree.entries a c in
        let (s, shown, pass, is) = in_shown entry a mine in
        let same : s ≡ a.symbol = ap (λ (x : Assignment). x.symbol) is in
        let below = mentioned tree formed s (formed.entries_sound n (SymbolShown s) (slice_get-get_or tree.entries n entry lt ∙ ap Some (at ∙ shown))) in (
          sym (ap has_line same) ∙ pass,
          sym (ap (λ (x : Assignment). x.given) is) ∙ ap value_to same,
          subst (λ (x : SymId). x.0 < length tree.symbols) same below,
        );
    complete = λ s lt pass. (
      assignment_to s,
      to_flat_map (entry_given tree prefix [] is_pre (valuation_view tree user V) given_to texts plain) tree.entries (SymbolShown s) (assignment_to s)
          (shows s (line_defined s pass)) (to_entry s (ls.written tree K s) pass),
      refl,
    );
  }

  abbrev pub Reread : Places
  Reread = places_given tree (no_places tree) config_given

  reread_own : (i : ℕ) → i < name_count tree → place_at Reread (SymbolPlace i) ≡ reread_places tree V (SymbolPlace i)
  reread_own i lt = filled_symbol tree value_to has_line config_given config_holds i lt

  abbrev Wrote : SymId → Bool
  Wrote m = ls.written tree K m && is_yes (given_of (V m.0))

  candidate_selected : (c : ℕ) (x : SymId) → IsCandidate tree value_to has_line config_given config_holds c x → Sel tree user V solves c ≡ Some x
  candidate_selected c x (lt, pass, choice, is_y) = yes_selected tree user V theirs solves x c lt choice is_y

  -- a member that is written and y
  candidate : (c : ℕ) (f : ChoiceFacts) (m : SymId) → choice_at tree c ≡ Some f → Contains f.members m → Wrote m ≡ true → IsCandidate tree value_to has_line config_given config_holds c m
  candidate c f m at member wrote =
      let (lt, (g, found_g, choice)) = theirs c f m at member in
      let (w, is_y) = and_parts (ls.written tree K m) (is_yes (given_of (V m.0))) wrote in
      let bool : g.symbol_type ≡ symbol_type.Bool = bools m g c found_g choice in
      let ok : allowed tree m (given_of (V m.0)) ≡ true = ap (λ o. allowed_for o (given_of (V m.0))) found_g ∙ ap (λ k. allowed_by k (given_of (V m.0))) bool ∙ yes_allowed (V m.0) is_y in
      (lt, and_from (ls.written tree K m) (allowed tree m (given_of (V m.0))) w ok, choice_by_place tree m c (place_of_member tree m g c found_g choice), is_y)

  -- a candidate is a member that is written and y
  candidate_found : (c : ℕ) (x : SymId) → IsCandidate tree value_to has_line config_given config_holds c x → (f : ChoiceFacts) × (choice_at tree c ≡ Some f) × Contains f.members x × (Wrote x ≡ true)
  candidate_found c x (lt, pass, choice, is_y) =
      let (g, at) = there tree.symbols x.0 lt in
      let e : g.choice ≡ Some c = sym (ap (option_and_then (λ (h : SymbolFacts). h.choice)) at) ∙ choice in
      let (f, found_f, member) = formed.members_listed x.0 g at c e in
      let (w, ok) = and_parts (ls.written tree K x) (allowed tree x (given_of (V x.0))) pass in
      (f, found_f, member, and_from (ls.written tree K x) (is_yes (given_of (V x.0))) w is_y)

  reread_found : (c : ℕ) (o : Option ChoiceFacts) (r : Option SymId) → c < length tree.choices → choice_at tree c ≡ o → find Wrote (members_of o) ≡ r →
      place_at Reread (ChoicePlace c) ≡ option_map Member r
  reread_found c None (Some m) lt at e = let never : None ≡ Some m = e in cc
  reread_found c (Some f) (Some m) lt at e =
      let (wrote, member) = found Wrote f.members m e in
      let mine = candidate c f m at member wrote in
      filled_member tree value_to has_line config_given config_holds c m lt mine
      (λ x other. let same : Some m ≡ Some x = sym (candidate_selected c m mine) ∙ candidate_selected c x other in cc)
  reread_found c o None lt at e =
      filled_none tree value_to has_line config_given config_holds c lt
      (λ x other.
      let (f, found_f, member, wrote) = candidate_found c x other in
      let here : find Wrote f.members ≡ None = sym (ap (λ q. find Wrote (members_of q)) (sym at ∙ found_f)) ∙ e in
      true≢false (sym wrote ∙ missing Wrote f.members x here member))

  -- the places that the written text gives are those that the written lines stand for
  pub reread_at : (i : ℕ) → i < name_count tree → place_at Reread (user_place tree i) ≡ reread_places tree V (user_place tree i)
  reread_at i lt = elim (place_cases tree i) [
    | inl at ↦ rw at (reread_own i lt)
    | inr (c, at) ↦ rw at (reread_found c (choice_at tree c) (find Wrote (members_of (choice_at tree c))) (choice_there tree (symbol i) c formed lt (choice_by_place tree (symbol i) c at)) refl refl)
  ]

  pub config_read : (name : List ℕ) →
      let read = read_alone tree prefix name (config_text tree prefix (valuation_view tree user V)) in (read.stopped ≡ None) × (read.input.places ≡ Reread)
  config_read name = alone_whole tree prefix name (config_text tree prefix (valuation_view tree user V)) config_given (config_reads name)
