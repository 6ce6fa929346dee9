-- What lines have against them, from one line to the next and from one entry to the next.
use Rattle.std.proofs.{Common.{Bool, Err, List, None, Option, Some, [], add-one, ap, arith, drop, false, filter, if◌then◌else◌, inl, inr, length, map, nat_lt, refl, suc, sym, true, zero, ℕ, ◌++◌, ◌+◌, ◌<◌, ◌==◌, ◌||◌, ◌∙◌, ◌∷◌, ◌≡◌, ◌≤◌}, lemmas.{Bool.Decides.nat_tests, Grind.flat_map-append, List.{Elements.{All-cons, All-head, All-nil, All-same, All-tail, filter-append}, Sums.take_while-cons, append-nil, length-append, length-drop, length-map}, Option.{slice_get-map, slice_get_within}}}
use Rattle.std.specs.{List.{flat_map, list_any, slice_get, take_while}, Option.{is_some, option_or}, Prelude.{All, option_map, ◌⊎◌}}
use Rattle.kc_language.specs.{Expansion.{Refused, attributes, is_attribute, numbers}, Statements.{Cause, ConfigLine, Located, Numbered, PromptLine, TypeLine, statements}, Symbols.{TreeFacts, bad_defaults, bad_members, choice_of, enclosing_choice, is_first_definition_at, line_warnings, listed, menu_entry_at, prompt_of, refused_at, type_of}, declared.{expressions.{SymId.SymId, SymbolType.SymbolType}, symbols.{ChoiceId.ChoiceId, MenuEntry.MenuEntry}}}
use Rattle.kc_language.specs.declared.diagnostics.Cause.TheVariants as cause
use Rattle.kc_read.specs.{RefusalView.refusal_view, declared.refusal.Refusal.Refusal}
use Rattle.kc_tree.specs.declared.rows.Symbol.{Symbol}
use Rattle.kc_entries.specs.{ListFacts.AreBelow, PartsOfSymbols.{first_of, is_bad_default, is_bad_member, is_member, line_of, line_warnings_by, menu_entry_before, prompt_before, unless_refused, warned_at, warnings, whole_list_refusals}}
use Rattle.kc_build.specs.{Diagnosed.{AreLinesDiagnosed, Diagnosis, IsDiagnosed, diagnosis_view, line_diagnosed, lines_diagnosed}, SymbolRows.{IsEntrySummary, choice_by, line_warnings_in, member_by, type_by}, WholeListRefusals.entry_refusal, declared.diagnostics.{Diagnostics.Diagnostics, EntrySummary.EntrySummary}}
use Rattle.kc_build.proofs.TypeLemmas.{AreTyped, choices_known, types_known}
use Rattle.kc_entries.proofs.{ListLemmas.first_of-append, MemberLemmas.{below_or_past, member_is}, PlaceLemmas.{drop-dropped, filter-next, flat_map-next, get-dropped, there_in}}
use Rattle.kc_read.proofs.{BlockLemmas.{first_nil, second_nil}, MenuEntryLemmas.{entry_goes_on, entry_here, has_prompt, prompt_begins, prompt_goes_on}}

-- The places below one, of those that are kept among all.
below_it : (n i : ℕ) → n < i → nat_lt n i ≡ true
below_it n i h = grind (arith, nat_tests)

not_below : (n i : ℕ) → i ≤ n → nat_lt n i ≡ false
not_below n i h = grind (arith, nat_tests)

abbrev one_if : Bool → ℕ → List ℕ
one_if b n = if b then n ∷ [] else []

one_kept : (p : ℕ → Bool) (b : Bool) (n : ℕ) → p n ≡ true → filter p (one_if b n) ≡ one_if b n
one_kept p true n e = rw e refl
one_kept p false n e = refl

one_gone : (p : ℕ → Bool) (b : Bool) (n : ℕ) → p n ≡ false → filter p (one_if b n) ≡ []
one_gone p true n e = rw e refl
one_gone p false n e = refl

module _ (q : ℕ → Bool) where
  abbrev kept_below : ℕ → ℕ → List ℕ
  kept_below i n = filter (λ j. nat_lt j i) (filter q (numbers n))

  kept_next : (i n : ℕ) → kept_below i (suc n) ≡ kept_below i n ++ filter (λ j. nat_lt j i) (one_if (q n) n)
  kept_next i n =
      let more : filter q (numbers (suc n)) ≡ filter q (numbers n) ++ one_if (q n) n = (rw add-one at (filter-next q n)) in
      ap (filter (λ j. nat_lt j i)) more ∙ filter-append (λ j. nat_lt j i) (filter q (numbers n)) (one_if (q n) n)

  all_below : (n i : ℕ) → n ≤ i → kept_below i n ≡ filter q (numbers n)
  all_below zero i h = refl
  all_below (suc n) i h =
      let more : filter q (numbers (suc n)) ≡ filter q (numbers n) ++ one_if (q n) n = (rw add-one at (filter-next q n)) in
      kept_next i n ∙ ap (λ l. l ++ filter (λ j. nat_lt j i) (one_if (q n) n)) (all_below n i (omega arith))
      ∙ ap (λ l. filter q (numbers n) ++ l) (one_kept (λ j. nat_lt j i) (q n) n (below_it n i (omega arith))) ∙ sym more

  kept-below : (n i : ℕ) → i ≤ n → kept_below i n ≡ filter q (numbers i)
  kept-below zero i h = let e : i ≡ 0 = omega arith in rw e refl
  kept-below (suc n) i h = by (below_or_past n i) (kept-below n i)
    where
      by : (n < i) ⊎ (i ≤ n) → (i ≤ n → kept_below i n ≡ filter q (numbers i)) → kept_below i (suc n) ≡ filter q (numbers i)
      by (inl l) ih = let e : i ≡ suc n = omega arith in rw e (all_below (suc n) (suc n) (omega arith))
      by (inr l) ih = kept_next i n ∙ ap (λ l. kept_below i n ++ l) (one_gone (λ j. nat_lt j i) (q n) n (not_below n i l)) ∙ append-nil (kept_below i n) ∙ ih l

-- The first of what the kept places give, one place more.
module _ {A : Type 0} (R : ℕ → List A) (q : ℕ → Bool) where
  found_one : (i : ℕ) (b c : Bool) (a : A) → q i ≡ c → c ≡ b → R i ≡ a ∷ [] → first_of (flat_map R (one_if (q i) i)) ≡ (if b then Some a else None)
  found_one i true c a e f r = rw (e, f, r) refl
  found_one i false c a e f r = rw (e, f) refl

  found_next : (i : ℕ) (b : Bool) (o : Option A) (a : A) → q i ≡ b → R i ≡ a ∷ [] → o ≡ first_of (flat_map R (filter q (numbers i))) →
      option_or o (if b then Some a else None) ≡ first_of (flat_map R (filter q (numbers (i + 1))))
  found_next i b o a e r h =
      ap (λ (p : Option A). option_or p (if b then Some a else None)) h
      ∙ ap (option_or (first_of (flat_map R (filter q (numbers i))))) (sym (found_one i b b a e refl r))
      ∙ sym (first_of-append (flat_map R (filter q (numbers i))) (flat_map R (one_if (q i) i)))
      ∙ ap first_of (sym (flat_map-append R (filter q (numbers i)) (one_if (q i) i)))
      ∙ ap (λ l. first_of (flat_map R l)) (sym (filter-next q i))

or_false : (b : Bool) → (b || false) ≡ b
or_false true = refl
or_false false = refl

-- What is not read of a line.
no_prompt : (s : Numbered) → is_attribute s ≡ false → prompt_of s ≡ None
no_prompt (TypeLine k p) h = cc
no_prompt (PromptLine p) h = cc
no_prompt _ h = refl

module _ (types : SymId → SymbolType) (choices : SymId → Option ℕ) (members : ℕ → SymId → Bool) (o : MenuEntry) where
  first_unread : (s : Numbered) (before first other : Bool) → is_attribute s ≡ true → line_warnings_by types choices members o before first s ≡ line_warnings_by types choices members o before other s
  first_unread (ConfigLine t) before first other h = cc
  first_unread _ before first other h = refl

  before_unread : (s : Numbered) (before other first : Bool) → is_attribute s ≡ false → line_warnings_by types choices members o before first s ≡ line_warnings_by types choices members o other first s
  before_unread (TypeLine k p) before other first h = cc
  before_unread (PromptLine p) before other first h = cc
  before_unread _ before other first h = refl

  no_member : (s : Numbered) (first : Bool) (within_choice : Option ℕ) → is_attribute s ≡ true → is_bad_member types choices first within_choice s ≡ false
  no_member (ConfigLine t) first within_choice h = cc
  no_member _ first within_choice h = refl

module _ (names : List (List ℕ)) (ls : List (Located Numbered)) where
  abbrev pub bad_member_at : ℕ → Bool
  bad_member_at i = list_any (is_bad_member (type_of (statements ls)) (choice_of (statements ls))
      (is_first_definition_at (statements ls) i) (enclosing_choice (statements ls) i)) (listed (slice_get (statements ls) i))

  abbrev pub bad_default_at : ℕ → Bool
  bad_default_at i = list_any (is_bad_default (type_of (statements ls)) (menu_entry_at (statements ls) i)) (listed (slice_get (statements ls) i))

  -- the same as `IsDiagnosed`, by the places below one
  record Found (i : ℕ) (d : Diagnosis) : Type 0 where
    member : d.member ≡ first_of (flat_map (refused_at names ls cause.ChoiceMember) (filter bad_member_at (numbers i)))
    default : d.default ≡ first_of (flat_map (refused_at names ls cause.BadDefault) (filter bad_default_at (numbers i)))
    warnings : bad_members (statements ls) ≡ [] → d.warnings ≡ flat_map (λ j. warned_at names ls j (slice_get ls j)) (numbers i)

  statement_count : length (statements ls) ≡ length ls
  statement_count = length-map ls (λ (l : Located Numbered). l.statement)

  members_below : (i : ℕ) → i ≤ length ls → filter (λ j. nat_lt j i) (bad_members (statements ls)) ≡ filter bad_member_at (numbers i)
  members_below i h = kept-below bad_member_at (length (statements ls)) i (omega (arith, statement_count))

  defaults_below : (i : ℕ) → i ≤ length ls → filter (λ j. nat_lt j i) (bad_defaults (statements ls)) ≡ filter bad_default_at (numbers i)
  defaults_below i h = kept-below bad_default_at (length (statements ls)) i (omega (arith, statement_count))

  found : (i : ℕ) (d : Diagnostics) → i ≤ length ls → IsDiagnosed names ls i d → Found i (diagnosis_view d)
  found i d h is = record {
    member = is.member ∙ ap (λ l. first_of (flat_map (refused_at names ls cause.ChoiceMember) l)) (members_below i h);
    default = is.default ∙ ap (λ l. first_of (flat_map (refused_at names ls cause.BadDefault) l)) (defaults_below i h);
    warnings = is.warnings;
  }

  diagnosed : (i : ℕ) (d : Diagnostics) → i ≤ length ls → Found i (diagnosis_view d) → IsDiagnosed names ls i d
  diagnosed i d h f = record {
    member = f.member ∙ ap (λ l. first_of (flat_map (refused_at names ls cause.ChoiceMember) l)) (sym (members_below i h));
    default = f.default ∙ ap (λ l. first_of (flat_map (refused_at names ls cause.BadDefault) l)) (sym (defaults_below i h));
    warnings = f.warnings;
  }

  -- at the start nothing stands against them
  pub diagnosed_start : (d : Diagnostics) → d.warnings.items ≡ [] → d.bad_member ≡ None → d.bad_default ≡ None → IsDiagnosed names ls 0 d
  diagnosed_start d w m e = diagnosed 0 d (omega arith) (record {
    member = ap (option_map refusal_view) m;
    default = ap (option_map refusal_view) e;
    warnings = λ none. ap (map (λ v. v.items)) w;
  })

  statement_read : (i : ℕ) (l : Located Numbered) → slice_get ls i ≡ Some l → slice_get (statements ls) i ≡ Some l.statement
  statement_read i l h = slice_get-map (λ (x : Located Numbered). x.statement) ls i ∙ ap (option_map (λ (x : Located Numbered). x.statement)) h

  refused_one : (c : List ℕ → Cause) (i : ℕ) (l : Located Numbered) → slice_get ls i ≡ Some l → refused_at names ls c i ≡ entry_refusal names c (menu_entry_at (statements ls) i) l.file l.line ∷ []
  refused_one c i l h = ap (λ (o : Option (Located Numbered)). map (λ (x : Located Numbered). entry_refusal names c (menu_entry_at (statements ls) i) x.file x.line) (listed o)) h

-- What is known of a line is what the list says of it, as far as it counts there.
record IsKnown (ls : List (Located Numbered)) (symbols : List Symbol) (summary : EntrySummary) (prompted : Bool) (i : ℕ) (l : Located Numbered) : Type 0 where
  at : slice_get ls i ≡ Some l
  entry : summary.entry ≡ menu_entry_at (statements ls) i
  member : is_bad_member (type_by symbols) (choice_by symbols) summary.first (option_map (λ (k : ChoiceId). k.0) summary.within_choice)
      l.statement ≡ is_bad_member (type_of (statements ls)) (choice_of (statements ls)) (is_first_definition_at (statements ls) i)
      (enclosing_choice (statements ls) i) l.statement
  says : bad_members (statements ls) ≡ [] → line_warnings_in symbols summary prompted l.statement ≡ line_warnings (statements ls) i l.statement

module _ (names : List (List ℕ)) (ls : List (Located Numbered)) (symbols : List Symbol) (below : AreBelow (length symbols) (statements ls))
    (are : AreTyped (statements ls) symbols) where
  types : type_by symbols ≡ type_of (statements ls)
  types = types_known (statements ls) symbols below are

  choices : choice_by symbols ≡ choice_of (statements ls)
  choices = choices_known (statements ls) symbols below are

  members : bad_members (statements ls) ≡ [] → member_by symbols ≡ is_member (statements ls)
  members none =
      let at : (c : ℕ) (t : SymId) → member_by symbols c t ≡ is_member (statements ls) c t =
      λ c t. ap (λ (f : SymId → Option ℕ). list_any (λ d. d == c) (listed (f t))) choices ∙ sym (member_is (statements ls) t none c) in
      λ i c t. at c t i

  -- with the first walk's knowledge in place of that of the list
  warnings_known : (o : MenuEntry) (before first : Bool) (s : Numbered) → bad_members (statements ls) ≡ [] →
      line_warnings_by (type_by symbols) (choice_by symbols) (member_by symbols) o before first s ≡ line_warnings_by (type_of (statements ls))
      (choice_of (statements ls)) (is_member (statements ls)) o before first s
  warnings_known o before first s none =
      ap (λ (f : SymId → SymbolType). line_warnings_by f (choice_by symbols) (member_by symbols) o before first s) types
      ∙ ap (λ (f : SymId → Option ℕ). line_warnings_by (type_of (statements ls)) f (member_by symbols) o before first s) choices
      ∙ ap (λ (f : ℕ → SymId → Bool). line_warnings_by (type_of (statements ls)) (choice_of (statements ls)) f o before first s) (members none)

  known_member : (first : Bool) (within_choice : Option ℕ) (s : Numbered) →
      is_bad_member (type_by symbols) (choice_by symbols) first within_choice s ≡ is_bad_member (type_of (statements ls))
      (choice_of (statements ls)) first within_choice s
  known_member first within_choice s =
      ap (λ (f : SymId → SymbolType). is_bad_member f (choice_by symbols) first within_choice s) types
      ∙ ap (λ (f : SymId → Option ℕ). is_bad_member (type_of (statements ls)) f first within_choice s) choices

  -- one line more
  line_next : (summary : EntrySummary) (prompted : Bool) (i : ℕ) (l : Located Numbered) (d : Diagnosis) → IsKnown ls symbols summary prompted i l →
      Found names ls i d → Found names ls (i + 1) (line_diagnosed names symbols summary prompted l d)
  line_next summary prompted i l d k f =
      let ss = statements ls in
      let read = statement_read names ls i l k.at in
      let member_b = is_bad_member (type_by symbols) (choice_by symbols) summary.first (option_map (λ (c : ChoiceId). c.0) summary.within_choice) l.statement in
      let member_at : bad_member_at names ls i ≡ member_b =
      ap (λ (o : Option Numbered). list_any (is_bad_member (type_of ss) (choice_of ss) (is_first_definition_at ss i) (enclosing_choice ss i))
      (listed o)) read ∙ or_false _ ∙ sym k.member in
      let default_b = is_bad_default (type_by symbols) summary.entry l.statement in
      let default_at : bad_default_at names ls i ≡ default_b =
      ap (λ (o : Option Numbered). list_any (is_bad_default (type_of ss) (menu_entry_at ss i)) (listed o)) read ∙ or_false _
      ∙ sym (ap (λ (g : SymId → SymbolType). is_bad_default g summary.entry l.statement) types
      ∙ ap (λ (o : MenuEntry). is_bad_default (type_of ss) o l.statement) k.entry) in
      let refused_by : (c : List ℕ → Cause) → refused_at names ls c i ≡ entry_refusal names c summary.entry l.file l.line ∷ [] = λ c. refused_one names ls c i l k.at
      ∙ ap (λ (o : MenuEntry). entry_refusal names c o l.file l.line ∷ []) (sym k.entry) in
      let line = line_of names l.file l.line in
      let warned : warned_at names ls i (slice_get ls i) ≡ map line (line_warnings ss i l.statement) = ap (warned_at names ls i) k.at in
      record {
        member = found_next (refused_at names ls cause.ChoiceMember) (bad_member_at names ls) i member_b d.member
            (entry_refusal names cause.ChoiceMember summary.entry l.file l.line) member_at (refused_by cause.ChoiceMember) f.member;
        default = found_next (refused_at names ls cause.BadDefault) (bad_default_at names ls) i default_b d.default
            (entry_refusal names cause.BadDefault summary.entry l.file l.line) default_at (refused_by cause.BadDefault) f.default;
        warnings = λ none.
            ap (λ w. w ++ map line (line_warnings_in symbols summary prompted l.statement)) (f.warnings none)
            ∙ ap (λ w. flat_map (λ j. warned_at names ls j (slice_get ls j)) (numbers i) ++ w) (ap (map line) (k.says none) ∙ sym warned)
            ∙ sym (flat_map-next (λ j. warned_at names ls j (slice_get ls j)) i);
      }

-- The attributes of an entry.
all_pass : {A : Type 0} (p : A → Bool) (b : Bool) (x : A) (xs : List A) → p x ≡ b → All (λ y. p y ≡ true) (take_while p xs) → All (λ y. p y ≡ true) (take_while p (x ∷ xs))
all_pass p true x xs e h = rw (take_while-cons p x xs, e) (All-cons (λ y. p y ≡ true) x (take_while p xs) e h)
all_pass p false x xs e h = rw (take_while-cons p x xs, e) (All-nil (λ y. p y ≡ true))

taken_pass : {A : Type 0} (p : A → Bool) (xs : List A) → All (λ x. p x ≡ true) (take_while p xs)
taken_pass p [] = All-nil (λ x. p x ≡ true)
taken_pass p (x ∷ xs) = all_pass p (p x) x xs refl (taken_pass p xs)

module _ (names : List (List ℕ)) (ls : List (Located Numbered)) (symbols : List Symbol) (below : AreBelow (length symbols) (statements ls))
    (are : AreTyped (statements ls) symbols) (summary : EntrySummary) where
  -- an attribute: whether a definition is the first, and in which choice it stands, does not count
  attribute_known : (prompted : Bool) (i : ℕ) (l : Located Numbered) → slice_get ls i ≡ Some l → is_attribute l.statement ≡ true →
      menu_entry_before (statements ls) i ≡ summary.entry → prompted ≡ prompt_before (statements ls) i →
      IsKnown ls symbols summary prompted i l
  attribute_known prompted i l at a e p =
      let ss = statements ls in
      let entry : summary.entry ≡ menu_entry_at ss i = sym e ∙ sym (entry_goes_on ss i l.statement (statement_read names ls i l at) a) ∙ entry_here ss i in
      record {
        at = at;
        entry = entry;
        member = no_member (type_by symbols) (choice_by symbols) (member_by symbols) summary.entry l.statement summary.first
            (option_map (λ (k : ChoiceId). k.0) summary.within_choice) a
            ∙ sym (no_member (type_of ss) (choice_of ss) (member_by symbols) summary.entry l.statement (is_first_definition_at ss i) (enclosing_choice ss i) a);
        says = λ none.
            warnings_known names ls symbols below are summary.entry prompted summary.first l.statement none
            ∙ first_unread (type_of ss) (choice_of ss) (is_member ss) summary.entry l.statement prompted summary.first (is_first_definition_at ss i) a
            ∙ ap (λ (b : Bool). line_warnings_by (type_of ss) (choice_of ss) (is_member ss) summary.entry b (is_first_definition_at ss i) l.statement) p
            ∙ ap (λ (o : MenuEntry). line_warnings_by (type_of ss) (choice_of ss) (is_member ss) o (prompt_before ss i) (is_first_definition_at ss i) l.statement) entry;
      }

  attributes_next : (own : List (Located Numbered)) (rest : List (Located Numbered)) (i : ℕ) (prompted : Bool) (d : Diagnosis) → drop i ls ≡ own ++ rest →
      All (λ s. is_attribute s ≡ true) (map (λ l. l.statement) own) → menu_entry_before (statements ls) i ≡ summary.entry →
      prompted ≡ prompt_before (statements ls) i → Found names ls i d →
      Found names ls (i + length own) (lines_diagnosed names symbols summary prompted own d)
  attributes_next [] rest i prompted d h a e p f = let same : i + 0 ≡ i = omega arith in rw same f
  attributes_next (l ∷ own) rest i prompted d h a e p f =
      let ss = statements ls in
      let at = get-dropped ls i l (own ++ rest) h in
      let read = statement_read names ls i l at in
      let one : is_attribute l.statement ≡ true = All-head (λ s. is_attribute s ≡ true) l.statement (map (λ l. l.statement) own) a in
      let more = All-tail (λ s. is_attribute s ≡ true) l.statement (map (λ l. l.statement) own) a in
      let next = line_next names ls symbols below are summary prompted i l d (attribute_known prompted i l at one e p) f in
      let asked : (prompted || has_prompt l.statement) ≡ prompt_before ss (i + 1) = ap (λ b. b || has_prompt l.statement) p ∙ turned (prompt_before ss i) (has_prompt l.statement)
      ∙ sym (prompt_goes_on ss i l.statement read one) in
      let there : i + length (l ∷ own) ≡ (i + 1) + length own = omega arith in
      rw there (attributes_next own rest (i + 1) (prompted || has_prompt l.statement) (line_diagnosed names symbols summary prompted l d)
      (drop-dropped ls i l (own ++ rest) h) more (entry_goes_on ss i l.statement read one ∙ e) asked next)
    where
      turned : (a b : Bool) → (a || b) ≡ (b || a)
      turned true true = refl
      turned true false = refl
      turned false true = refl
      turned false false = refl

  -- what begins an entry: that a prompt stands before it does not count
  head_known : (i : ℕ) (l : Located Numbered) → slice_get ls i ≡ Some l → IsEntrySummary (statements ls) i summary →
      ((is_attribute l.statement ≡ false) ⊎ (i ≡ 0)) → IsKnown ls symbols summary false i l
  head_known i l at is begins = record {
    at = at;
    entry = is.entry;
    member =
        known_member names ls symbols below are summary.first (option_map (λ (k : ChoiceId). k.0) summary.within_choice) l.statement
        ∙ ap (λ (b : Bool). is_bad_member (type_of (statements ls)) (choice_of (statements ls)) b (option_map (λ (k : ChoiceId). k.0) summary.within_choice) l.statement) is.first
        ∙ ap (λ (r : Option ℕ). is_bad_member (type_of (statements ls)) (choice_of (statements ls))
        (is_first_definition_at (statements ls) i) r l.statement) is.within_choice;
    says = λ none.
        warnings_known names ls symbols below are summary.entry false summary.first l.statement none
        ∙ ap (λ (b : Bool). line_warnings_by (type_of (statements ls)) (choice_of (statements ls)) (is_member (statements ls)) summary.entry false b l.statement) is.first
        ∙ ap (λ (o : MenuEntry). line_warnings_by (type_of (statements ls)) (choice_of (statements ls)) (is_member (statements ls))
        o false (is_first_definition_at (statements ls) i) l.statement) is.entry
        ∙ unread begins;
  }
    where
      unread : ((is_attribute l.statement ≡ false) ⊎ (i ≡ 0)) →
          line_warnings_by (type_of (statements ls)) (choice_of (statements ls)) (is_member (statements ls))
          (menu_entry_at (statements ls) i) false (is_first_definition_at (statements ls) i) l.statement ≡ line_warnings
          (statements ls) i l.statement
      unread (inl a) = before_unread (type_of (statements ls)) (choice_of (statements ls)) (is_member (statements ls))
          (menu_entry_at (statements ls) i) l.statement false (prompt_before (statements ls) i)
          (is_first_definition_at (statements ls) i) a
      unread (inr z) = rw z refl

  -- behind what begins an entry a prompt stands, if it is its own
  head_asked : (i : ℕ) (s : Numbered) → slice_get (statements ls) i ≡ Some s → ((is_attribute s ≡ false) ⊎ (i ≡ 0)) → has_prompt s ≡ prompt_before (statements ls) (i + 1)
  head_asked i s at (inl a) = ap is_some (no_prompt s a) ∙ sym (prompt_begins (statements ls) i s at a)
  head_asked i s at (inr z) = by (is_attribute s) refl
    where
      by : (b : Bool) → is_attribute s ≡ b → has_prompt s ≡ prompt_before (statements ls) (i + 1)
      by false a = ap is_some (no_prompt s a) ∙ sym (prompt_begins (statements ls) i s at a)
      by true a =
          let none : prompt_before (statements ls) i ≡ false = rw z refl in
          sym (prompt_goes_on (statements ls) i s at a ∙ ap (λ b. has_prompt s || b) none ∙ or_false (has_prompt s))

  entry_next : (i : ℕ) (head : Located Numbered) (own rest : List (Located Numbered)) (d : Diagnosis) → slice_get ls i ≡ Some head →
      drop (i + 1) ls ≡ own ++ rest → attributes (statements ls) i ≡ map (λ l. l.statement) own → ((is_attribute head.statement ≡ false) ⊎ (i ≡ 0)) →
      IsEntrySummary (statements ls) i summary → Found names ls i d →
      Found names ls (i + 1 + length own) (lines_diagnosed names symbols summary false (head ∷ own) d)
  entry_next i head own rest d at tail are_own begins is f =
      let ss = statements ls in
      let read = statement_read names ls i head at in
      let passed : All (λ s. is_attribute s ≡ true) (map (λ l. l.statement) own) =
      All-same (λ s. is_attribute s ≡ true) (map (λ l. l.statement) own) (attributes ss i) (sym are_own) (taken_pass is_attribute (drop (suc i) ss)) in
      attributes_next own rest (i + 1) (has_prompt head.statement) (line_diagnosed names symbols summary false head d) tail passed (entry_here ss i ∙ sym is.entry)
      (head_asked i head.statement read begins) (line_next names ls symbols below are summary false i head d (head_known i head at is begins) f)

  -- one entry more
  pub entry_diagnosed : (i : ℕ) (head : Located Numbered) (own rest : List (Located Numbered)) (old new : Diagnostics) → slice_get ls i ≡ Some head →
      drop (i + 1) ls ≡ own ++ rest → attributes (statements ls) i ≡ map (λ l. l.statement) own → ((is_attribute head.statement ≡ false) ⊎ (i ≡ 0)) →
      IsEntrySummary (statements ls) i summary → IsDiagnosed names ls i old → AreLinesDiagnosed names symbols summary head own old new →
      IsDiagnosed names ls (i + 1 + length own) new
  entry_diagnosed i head own rest old new at tail are_own begins is old_is looked =
      let within = slice_get_within ls i head at in
      let fits : i + 1 + length own ≤ length ls = omega (arith, ap length tail, length-append own rest, length-drop (i + 1) ls) in
      diagnosed names ls (i + 1 + length own) new fits (rw looked
      (entry_next i head own rest (diagnosis_view old) at tail are_own begins is (found names ls i old (omega arith) old_is)))

-- Behind the last line.
none_first : {A : Type 0} (xs : List A) → first_of xs ≡ None → xs ≡ []
none_first [] h = refl
none_first (x ∷ xs) h = cc

module _ {A : Type 0} (R : ℕ → List A) (q : ℕ → Bool) where
  none_more : (n : ℕ) (b : Bool) → q n ≡ b → (R n ≡ [] → ⊥) → flat_map R (filter q (numbers (suc n))) ≡ [] →
      (flat_map R (filter q (numbers n)) ≡ [] → filter q (numbers n) ≡ []) → filter q (numbers (suc n)) ≡ []
  none_more n b e some h ih =
      let more : filter q (numbers (suc n)) ≡ filter q (numbers n) ++ one_if b n = (rw add-one at (filter-next q n)) ∙ ap (λ c. filter q (numbers n) ++ one_if c n) e in
      let none : flat_map R (filter q (numbers n)) ++ flat_map R (one_if b n) ≡ [] = sym (flat_map-append R (filter q (numbers n)) (one_if b n)) ∙ ap (flat_map R) (sym more) ∙ h in
      let front = ih (first_nil (flat_map R (filter q (numbers n))) (flat_map R (one_if b n)) none) in
      more ∙ ap (λ l. l ++ one_if b n) front ∙ last b (second_nil (flat_map R (filter q (numbers n))) (flat_map R (one_if b n)) none)
    where
      last : (c : Bool) → flat_map R (one_if c n) ≡ [] → one_if c n ≡ []
      last false g = refl
      last true g = absurd (some (sym (append-nil (R n)) ∙ g))

  none_kept : (n : ℕ) → ((i : ℕ) → i < n → R i ≡ [] → ⊥) → flat_map R (filter q (numbers n)) ≡ [] → filter q (numbers n) ≡ []
  none_kept zero some h = refl
  none_kept (suc n) some h = none_more n (q n) refl (some n (omega arith)) h (none_kept n (λ i l. some i (omega arith)))

-- no refusal, and the warnings are all there is
pub record IsAccepted (names : List (List ℕ)) (ls : List (Located Numbered)) (d : Diagnostics) : Type 0 where
  pub refusals : whole_list_refusals names ls ≡ []
  pub warnings_are : map (λ v. v.items) d.warnings.items ≡ warnings names ls

module _ (names : List (List ℕ)) (ls : List (Located Numbered)) (d : Diagnostics) (is : IsDiagnosed names ls (length ls) d) where
  all_found : Found names ls (length ls) (diagnosis_view d)
  all_found = found names ls (length ls) d (omega arith) is

  first_member : first_of (flat_map (refused_at names ls cause.ChoiceMember) (bad_members (statements ls))) ≡ option_map refusal_view d.bad_member
  first_member = ap (λ n. first_of (flat_map (refused_at names ls cause.ChoiceMember) (filter (bad_member_at names ls) (numbers n)))) (statement_count names ls) ∙ sym all_found.member

  first_default : first_of (flat_map (refused_at names ls cause.BadDefault) (bad_defaults (statements ls))) ≡ option_map refusal_view d.bad_default
  first_default = ap (λ n. first_of (flat_map (refused_at names ls cause.BadDefault) (filter (bad_default_at names ls) (numbers n)))) (statement_count names ls) ∙ sym all_found.default

  first_refusal : first_of (whole_list_refusals names ls) ≡ option_or (option_map refusal_view d.bad_member) (option_map refusal_view d.bad_default)
  first_refusal =
      first_of-append (flat_map (refused_at names ls cause.ChoiceMember) (bad_members (statements ls))) (flat_map (refused_at names ls cause.BadDefault) (bad_defaults (statements ls)))
      ∙ ap (λ (o : Option Refused). option_or o (first_of (flat_map (refused_at names ls cause.BadDefault) (bad_defaults (statements ls))))) first_member
      ∙ ap (option_or (option_map refusal_view d.bad_member)) first_default

  refused_some : (c : List ℕ → Cause) (i : ℕ) → i < length (statements ls) → refused_at names ls c i ≡ [] → ⊥
  refused_some c i h none =
      let l = there_in ls i (omega (arith, statement_count names ls)) in
      let some = refused_one names ls c i l.0 l.1 in
      cc

  -- no member is refused where none is found
  no_bad_member : d.bad_member ≡ None → bad_members (statements ls) ≡ []
  no_bad_member none =
      none_kept (refused_at names ls cause.ChoiceMember) (bad_member_at names ls) (length (statements ls)) (refused_some cause.ChoiceMember)
      (none_first (flat_map (refused_at names ls cause.ChoiceMember) (bad_members (statements ls)))
      (first_member ∙ ap (option_map refusal_view) none))

  by_option : (o p : Option Refusal) → option_map refusal_view (option_or o p) ≡ option_or (option_map refusal_view o) (option_map refusal_view p)
  by_option None p = refl
  by_option (Some r) p = refl

  -- the first refusal is that of the list
  pub refused_tree : (r : Refusal) (t : TreeFacts) → option_or d.bad_member d.bad_default ≡ Some r → unless_refused (whole_list_refusals names ls) t ≡ Err (refusal_view r)
  refused_tree r t e = by (whole_list_refusals names ls) (first_refusal ∙ sym (by_option d.bad_member d.bad_default) ∙ ap (option_map refusal_view) e)
    where
      by : (rs : List Refused) → first_of rs ≡ Some (refusal_view r) → unless_refused rs t ≡ Err (refusal_view r)
      by [] h = cc
      by (x ∷ rs) h = cc

  -- without one the warnings are those of the list
  pub accepted : d.bad_member ≡ None → d.bad_default ≡ None → IsAccepted names ls d
  accepted m e =
      let none = first_refusal ∙ ap (λ (o : Option Refusal). option_or (option_map refusal_view o) (option_map refusal_view d.bad_default)) m ∙ ap (option_map refusal_view) e in
      record {
        refusals = none_first (whole_list_refusals names ls) none;
        warnings_are = all_found.warnings (no_bad_member m) ∙ ap (λ n. flat_map (λ j. warned_at names ls j (slice_get ls j)) (numbers n)) (sym (statement_count names ls));
      }
