-- The choices and their members, where no line is refused.
use Rattle.std.proofs.{Common.{Bool, List, None, Option, Some, [], ap, arith, false, get_or, if◌then◌else◌, inl, inr, length, map, not, refl, subst, suc, sym, true, zero, ℕ, ◌&&◌, ◌<◌, ◌==◌, ◌||◌, ◌∙◌, ◌∷◌, ◌≡◌, ◌≤◌}, lemmas.{Bool.{eq-eqb, eqb-true}, List.Folds.list_any-append, Option.{slice_get-get_or, slice_get-map, slice_get_within}}}
use Rattle.std.specs.{List.{filter_map, list_any, slice_get}, Option.{is_some, option_and_then}, Prelude.{All, Contains, option_map, ◌⊎◌}}
use Rattle.kc_language.specs.{Expansion.{attributes, numbers}, Expressions.{Form, same_symbol, symbol}, Statements.{Located, Numbered}, Symbols.{ChoiceFacts, Guarded, StatedDefault, SymbolFacts, TreeFacts, bad_members, choice_facts, choice_number, choice_of, definitions_of, enclosing_choice, indices, is_first_definition_at, listed, members_of, of_block, same_type, single_symbol, stated_default, symbol_at, symbol_facts, type_of}, declared.expressions.{SymId.SymId, SymbolType.SymbolType}}
use Rattle.kc_language.specs.declared.expressions.SymbolType.TheVariants as symbol_type
use Rattle.kc_language.specs.declared.statements.Block.TheVariants as block
use Rattle.kc_entries.specs.{ListFacts.AreBelow, PartsOfSymbols.{choice_lines, choices, first_of, guarded_symbol, is_bad_member, is_member, is_member_index, member_default, symbol_of}, WellFormed.{IsChoiceSound, IsListed, IsMemberOf}}
use Rattle.kc_entries.proofs.{ElementLemmas.{All-filter_map, All-kept, IsKept, filter_map-from, found_is, kept_at}, MemberLemmas.{any_kept, bad_at, below_or_past, member_is}, PlaceLemmas.length-map_numbers}
use Rattle.kc_read.proofs.{FormedLemmas.{facts_at, few_taken, prompt_mode, tree}, SoundLemmas.mode_below}

-- a number below another one that passes a test is found
or_true : (a : Bool) → (a || (true || false)) ≡ true
or_true true = refl
or_true false = refl

any_last : (q : ℕ → Bool) (n i : ℕ) → (i < n) ⊎ (n ≤ i) → i < suc n → q i ≡ true → (i < n → list_any q (numbers n) ≡ true) → (list_any q (numbers n) || (q n || false)) ≡ true
any_last q n i (inl below) l h before = ap (λ (b : Bool). b || (q n || false)) (before below)
any_last q n i (inr past) l h before =
    let same : i ≡ n = omega arith in
    ap (λ (b : Bool). list_any q (numbers n) || (b || false)) (sym (ap q same) ∙ h) ∙ or_true (list_any q (numbers n))

any_at : (q : ℕ → Bool) (n i : ℕ) → i < n → q i ≡ true → list_any q (numbers n) ≡ true
any_at q zero i l h = absurd (omega arith)
any_at q (suc n) i l h =
    list_any-append q (numbers n) (n ∷ []) ∙ any_last q n i (below_or_past i n) l h (λ below. any_at q n i below h)

is_bool : (k : SymbolType) → same_type k symbol_type.Bool ≡ true → k ≡ symbol_type.Bool
is_bool symbol_type.Bool h = refl
is_bool symbol_type.Undefined h = absurd cc
is_bool symbol_type.Tristate h = absurd cc
is_bool symbol_type.Str h = absurd cc
is_bool symbol_type.Int h = absurd cc
is_bool symbol_type.Hex h = absurd cc

and_parts : (a b : Bool) → (a && b) ≡ true → (a ≡ true) × (b ≡ true)
and_parts true true h = (refl, refl)
and_parts true false h = absurd cc
and_parts false b h = absurd cc

-- a number that is listed
number_listed : (k : ℕ) (o : Option ℕ) → list_any (λ d. d == k) (listed o) ≡ true → o ≡ Some k
number_listed k None h = absurd cc
number_listed k (Some d) h = by (d == k) refl h
  where
    by : (b : Bool) → (d == k) ≡ b → (b || false) ≡ true → Some d ≡ Some k
    by true e f = ap Some (eqb-true d k e)
    by false e f = absurd cc

listed_number : (k : ℕ) → list_any (λ d. d == k) (listed (Some k)) ≡ true
listed_number k = ap (λ (b : Bool). b || false) (eq-eqb k k refl)

-- no member is refused: it is a bool
not_bad : (a b c : Bool) → ((a || (b && not c)) || false) ≡ false → b ≡ true → c ≡ true
not_bad a b true h e = refl
not_bad true b false h e = absurd cc
not_bad false true false h e = absurd cc
not_bad false false false h e = e

first_get : (xs : List ℕ) (k : ℕ) → first_of xs ≡ Some k → slice_get xs 0 ≡ Some k
first_get [] k h = absurd cc
first_get (x ∷ xs) k h = h

module _ (ss : List Numbered) (none : bad_members ss ≡ []) where
  symbol_within : (i : ℕ) (s : SymId) (o : Option Numbered) → slice_get ss i ≡ o → symbol_of o ≡ Some s → (x : Numbered) × (slice_get ss i ≡ Some x) × (symbol_of (Some x) ≡ Some s)
  symbol_within i s None e h = absurd cc
  symbol_within i s (Some x) e h = (x, e, h)

  -- a member at a place is one of its choice, and a bool
  member_there : (k i : ℕ) (s : SymId) → is_member_index ss k i ≡ true → symbol_at ss i ≡ Some s → is_member ss k s ≡ true
  member_there k i s m h =
      let x = symbol_within i s (slice_get ss i) refl h in
      let l : i < length ss = slice_get_within ss i x.0 x.1 in
      let own : list_any (same_symbol s) (listed (symbol_at ss i)) ≡ true = ap (λ (o : Option SymId). list_any (same_symbol s) (listed o)) h ∙ ap (λ (b : Bool). b || false) (eq-eqb s.0 s.0 refl) in
      any_kept (same_symbol s) (symbol_at ss) (is_member_index ss k) (indices ss)
      ∙ any_at (λ (y : ℕ). is_member_index ss k y && list_any (same_symbol s) (listed (symbol_at ss y))) (length ss) i l
      (ap (λ (b : Bool). b && list_any (same_symbol s) (listed (symbol_at ss i))) m ∙ own)

  member_choice : (k i : ℕ) (s : SymId) → is_member_index ss k i ≡ true → symbol_at ss i ≡ Some s → choice_of ss s ≡ Some k
  member_choice k i s m h =
      number_listed k (choice_of ss s) (sym (member_is ss s none k) ∙ member_there k i s m h)

  type_of_member : (k i : ℕ) (s : SymId) → is_member_index ss k i ≡ true → symbol_at ss i ≡ Some s → type_of ss s ≡ symbol_type.Bool
  type_of_member k i s m h =
      let x = symbol_within i s (slice_get ss i) refl h in
      let l : i < length ss = slice_get_within ss i x.0 x.1 in
      let outside : enclosing_choice ss i ≡ Some k = number_listed k (enclosing_choice ss i) (and_parts (is_some (symbol_at ss i)) (list_any (λ j. j == k) (listed (enclosing_choice ss i))) m).1 in
      let fine : is_bad_member (type_of ss) (choice_of ss) (is_first_definition_at ss i) (enclosing_choice ss i) x.0 ≡ false = bad_at ss s i x.0 none l x.1 in
      let modeless : list_any (λ t. (is_some (choice_of ss t) && not (is_first_definition_at ss i)) ||
      (is_some (enclosing_choice ss i) && not (same_type (type_of ss t) symbol_type.Bool))) (listed (Some s)) ≡ false =
      ap (λ (o : Option SymId). list_any (λ t. (is_some (choice_of ss t) && not (is_first_definition_at ss i)) ||
      (is_some (enclosing_choice ss i) && not (same_type (type_of ss t) symbol_type.Bool))) (listed o)) (sym x.2) ∙ fine in
      is_bool (type_of ss s) (not_bad (is_some (choice_of ss s) && not (is_first_definition_at ss i)) (is_some (enclosing_choice ss i)) (same_type (type_of ss s) symbol_type.Bool) modeless (ap is_some outside))

  -- where choice k stands
  record IsChoicePlace (k : ℕ) (c : ChoiceFacts) : Type 0 where
    place : ℕ
    kept : IsKept (of_block ss block.Choice) (length ss) k place
    facts : choice_facts ss place ≡ c

  choice_by : (k : ℕ) (c : ChoiceFacts) (o : Option ℕ) → slice_get (choice_lines ss) k ≡ o → option_map (choice_facts ss) o ≡ Some c → IsChoicePlace k c
  choice_by k c None e h = absurd cc
  choice_by k c (Some p) e h = record { place = p; kept = kept_at (of_block ss block.Choice) (length ss) k p e; facts = (let same : choice_facts ss p ≡ c = cc in same) }

  choice_at : (k : ℕ) (c : ChoiceFacts) → slice_get (choices ss) k ≡ Some c → IsChoicePlace k c
  choice_at k c h = choice_by k c (slice_get (choice_lines ss) k) refl (sym (slice_get-map (choice_facts ss) (choice_lines ss) k) ∙ h)

  members_are : (k : ℕ) (c : ChoiceFacts) → slice_get (choices ss) k ≡ Some c → c.members ≡ members_of ss k
  members_are k c h =
      let p = choice_at k c h in
      sym (ap (λ (d : ChoiceFacts). d.members) p.facts) ∙ ap (members_of ss) p.kept.count

  -- a choice of some symbol is there
  choice_within : (s : SymId) (k : ℕ) → choice_of ss s ≡ Some k → k < length (choices ss)
  choice_within s k h =
      let x = filter_map-from (enclosing_choice ss) k (definitions_of ss s) 0 (first_get (filter_map (enclosing_choice ss) (definitions_of ss s)) k h) in
      mode_below ss x.0 k (few_taken ss x.0) x.1

  -- a member stands among the members of its choice
  listed_at : (s : SymId) (k : ℕ) → choice_of ss s ≡ Some k → (c : ChoiceFacts) × (slice_get (choices ss) k ≡ Some c) × Contains c.members s
  listed_at s k h =
      let l = choice_within s k h in
      let d : ChoiceFacts = choice_facts ss 0 in
      let c = get_or (choices ss) k d in
      let found : slice_get (choices ss) k ≡ Some c = slice_get-get_or (choices ss) k d l in
      let member : is_member ss k s ≡ true = member_is ss s none k ∙ ap (λ (o : Option ℕ). list_any (λ d. d == k) (listed o)) h ∙ listed_number k in
      (c, found, subst (λ (ms : List SymId). Contains ms s) (sym (members_are k c found)) (found_is s (members_of ss k) member))

  module _ (alone : (p : ℕ) → of_block ss block.Choice p ≡ true → enclosing_choice ss p ≡ None) where
    abbrev DefaultSound : List SymId → Guarded SymId → Type 0
    DefaultSound ms g = Contains ms g.what × (g.when.mode ≡ None)

    default_test : (p : ℕ) (t : SymId) (w : Option Form) (g : Guarded SymId) (b : Bool) → enclosing_choice ss p ≡ None →
        is_member ss (choice_number ss p) t ≡ b → (if b then Some (guarded_symbol ss p t w) else None) ≡ Some g →
        DefaultSound (members_of ss (choice_number ss p)) g
    default_test p t w g false r e h = absurd cc
    default_test p t w g true r e h =
        let same : guarded_symbol ss p t w ≡ g = cc in
        subst (DefaultSound (members_of ss (choice_number ss p))) same (found_is t (members_of ss (choice_number ss p)) e, r)

    default_by : (p : ℕ) (v : StatedDefault) (g : Guarded SymId) (o : Option SymId) → enclosing_choice ss p ≡ None →
        option_and_then (λ t. if is_member ss (choice_number ss p) t then Some (guarded_symbol ss p t v.when) else None) o ≡ Some g →
        DefaultSound (members_of ss (choice_number ss p)) g
    default_by p v g None r h = absurd cc
    default_by p v g (Some t) r h = default_test p t v.when g (is_member ss (choice_number ss p) t) r refl h

    defaults_sound : (p : ℕ) → enclosing_choice ss p ≡ None → All (DefaultSound (members_of ss (choice_number ss p))) (choice_facts ss p).defaults
    defaults_sound p r =
        All-filter_map (DefaultSound (members_of ss (choice_number ss p))) (member_default ss p) (λ v g h. default_by p v g (single_symbol v.value) r h) (filter_map stated_default (attributes ss p))

-- The same of a tree.
module _ (names : List (List ℕ)) (ls : List (Located Numbered)) where
  abbrev pub line_statements : List Numbered
  line_statements = map (λ l. l.statement) ls

  abbrev pub whole : TreeFacts
  whole = tree names ls

  module _ (below : AreBelow (length names) line_statements) (none : bad_members line_statements ≡ []) where
    members_sound : (k : ℕ) → All (IsMemberOf whole k) (members_of line_statements k)
    members_sound k =
        All-kept (IsMemberOf whole k) (symbol_at line_statements) (is_member_index line_statements k)
        (λ i s m h. (
          symbol_facts line_statements (symbol s.0),
          facts_at names ls s.0 (below i s h),
          member_choice line_statements none k i s m h,
          type_of_member line_statements none k i s m h,
        )) (indices line_statements)

    listed_by : (i k : ℕ) (f g : SymbolFacts) → Some g ≡ Some f → g.choice ≡ choice_of line_statements (symbol i) → f.choice ≡ Some k → (c : ChoiceFacts)
        × (slice_get whole.choices k ≡ Some c) × Contains c.members (symbol i)
    listed_by i k f g e h c =
        let same : g ≡ f = cc in
        listed_at line_statements none (symbol i) k (sym h ∙ ap (λ (x : SymbolFacts). x.choice) same ∙ c)

    pub all_listed : (i : ℕ) (f : SymbolFacts) → slice_get whole.symbols i ≡ Some f → IsListed whole (symbol i) f
    all_listed i f h k c =
        let n = length-map_numbers (λ i. symbol_facts line_statements (symbol i)) (length names) in
        let m = slice_get_within whole.symbols i f h in
        let l : i < length names = omega arith in
        listed_by i k f (symbol_facts line_statements (symbol i)) (sym (facts_at names ls i l) ∙ h) refl c

    module _ (alone : (p : ℕ) → of_block line_statements block.Choice p ≡ true → enclosing_choice line_statements p ≡ None) where
      sound_place : (k p : ℕ) → IsKept (of_block line_statements block.Choice) (length line_statements) k p → IsChoiceSound whole k (choice_facts line_statements p)
      sound_place k p h =
          let r = alone p h.passes in
          record {
            members = subst (λ (n : ℕ). All (IsMemberOf whole k) (members_of line_statements n)) (sym h.count) (members_sound k);
            defaults = defaults_sound line_statements none alone p r;
            prompt = λ c e. prompt_mode line_statements p c e ∙ r;
          }

      pub choices_sound : (k : ℕ) (c : ChoiceFacts) → slice_get whole.choices k ≡ Some c → IsChoiceSound whole k c
      choices_sound k c h =
          let p = choice_at line_statements none k c h in
          subst (IsChoiceSound whole k) p.facts (sound_place k p.place p.kept)
