-- For proofs: The lines that the facts about a symbol tell of are lines of its definitions, and lines that raise it.
use Rattle.std.proofs.Common.{◌≡◌, ◌⊎◌, ℕ, suc, List, [], ◌∷◌, ◌++◌, Bool, true, false, Option, Some, None, inl, inr, refl, ap, sym, subst, ◌∙◌}
use Rattle.std.proofs.lemmas.Bool.{cases_Bool}
use Rattle.std.specs.List.{AllByRecursion, filter, flat_map, list_any}
use Rattle.std.specs.Prelude.{if◌then◌else◌, is_some, map, not, ◌&&◌, ◌||◌}
use Rattle.kc_language.specs.{Expansion.attributes, ConfigFile.{RefusedLine, UserInput, place_at, plain_refused}, Expressions.{Form, SymbolValue, truth_of_value}, Statements.{InputPrompt, Numbered}, Symbols.{Bounds, StatedDefault, SymbolFacts, TreeFacts, can_be_target, definitions_of, indices, is_symbol_of, listed, range_in, stated_default, symbol_at, targets}}
use Rattle.kc_language.specs.Values.{ChoicePlace, GivenText, GivenTruth, GivenValue, Member, SymbolPlace, choice_at, facts, is_n, is_visible, mode_of, selected_to}
use Rattle.kc_language.specs.declared.{expressions.{SymId.{SymId}, SymbolType.{SymbolType, TheVariants.{Bool as IsBool, Hex, Int, Str, Tristate, Undefined}}}, symbols.SelectOrImply.{SelectOrImply}}
use Rattle.kc_outcome.specs.Explanations.{ConditionPart, DefaultIs, Fact, ModulesAre, NotAllowed, NotRaised, PartIs, RaisedBy, RangeIs, Said, choice_entry, choice_facts_at, counts, default_fact, default_facts, default_members, dependency_facts, dependency_parts, facts_by, facts_of, is_met, is_shown_member, is_users, is_without_facts, is_y, member_default_fact, member_fact, part_facts, part_value, preset_facts, prompt_facts, lines_naming, prompt_lines, raise_facts, raise_value, raising_lines, range_fact, range_facts, said_at, said_of, selection_facts, shown_parts, text_facts, through, truth_facts, user_facts, value_facts}
use Rattle.kc_outcome.proofs.FactLists.{both, changed, flat, mapped, to_flat, up_to}
use Rattle.kc_outcome.proofs.SaidLines.{said_after, said_entries}
use Rattle.kc_outcome.proofs.SameWords.{mapped_to}
use Rattle.kc_values.proofs.FixedLines.{names_itself}

-- ---- Elements of lists
abbrev pub In : {X : Type 0} → X → List X → Type 0
In x [] = ⊥
In x (y ∷ ys) = (x ≡ y) ⊎ In x ys

pub of_all : {X : Type 0} (P : X → Type 0) (x : X) (xs : List X) → In x xs → AllByRecursion P xs → P x
of_all P x [] m h = absurd m
of_all P x (y ∷ ys) m h = elim m [ inl e ↦ subst P (sym e) h.0 | inr n ↦ of_all P x ys n h.1 ]

pub all_are_in : {X : Type 0} (xs : List X) → AllByRecursion (λ x. In x xs) xs
all_are_in [] = tt
all_are_in (x ∷ xs) = (inl refl, changed (λ y. In y xs) (λ y. In y (x ∷ xs)) xs (λ y n. inr n) (all_are_in xs))

filtered : {X : Type 0} (p : X → Bool) (Q : X → Type 0) (xs : List X) → AllByRecursion Q xs → AllByRecursion Q (filter p xs)
filtered p Q [] h = tt
filtered p Q (x ∷ xs) h = elim (cases_Bool (p x)) [
  | inl e ↦ rw e (h.0, filtered p Q xs h.1)
  | inr e ↦ rw e (filtered p Q xs h.1)
]

in_filtered : {X : Type 0} (p : X → Bool) (x : X) (xs : List X) → In x xs → p x ≡ true → In x (filter p xs)
in_filtered p x [] m e = absurd m
in_filtered p x (y ∷ ys) m e = elim m [
  | inl q ↦ let here : p y ≡ true = ap p (sym q) ∙ e in rw here (inl q)
  | inr n ↦ elim (cases_Bool (p y)) [ inl h ↦ rw h (inr (in_filtered p x ys n e)) | inr h ↦ rw h (in_filtered p x ys n e) ]
]

-- ---- A line that raises is one of a definition of its symbol
module _ (ss : List Numbered) where
  abbrev IsOwn : SymId × Said (Option Form) → Type 0
  IsOwn r = In (r.1).entry (definitions_of ss r.0)

  naming_own : (read : Numbered → Option (Option Form)) (i : ℕ) → In i (indices ss) → AllByRecursion IsOwn (lines_naming ss read i)
  naming_own read i m = by (symbol_at ss i) refl
    where
      by : (o : Option SymId) → symbol_at ss i ≡ o → AllByRecursion IsOwn (flat_map (λ t. map (λ l. (t, l)) (said_at ss read i)) (listed o))
      by None e = tt
      by (Some t) e =
          let here : is_symbol_of t (symbol_at ss i) ≡ true = ap (is_symbol_of t) e ∙ names_itself t in
          let there : In i (definitions_of ss t) = in_filtered (λ j. is_symbol_of t (symbol_at ss j)) i (indices ss) m here in
          both IsOwn (map (λ l. (t, l)) (said_at ss read i)) [] (mapped_to IsOwn (λ l. (t, l)) (said_at ss read i)
          (said_after ss (λ j. In j (definitions_of ss t)) read i there (suc i) (attributes ss i))) tt

  raised_own : (read : Numbered → Option (Option Form)) (b : Bool) → AllByRecursion IsOwn (if b then flat_map (lines_naming ss read) (indices ss) else [])
  raised_own read true = to_flat IsOwn (lines_naming ss read) (indices ss)
      (changed (λ i. In i (indices ss)) (λ i. AllByRecursion IsOwn (lines_naming ss read i)) (indices ss) (naming_own read) (all_are_in (indices ss)))
  raised_own read false = tt

  pub raised_in : (word : SelectOrImply) (s : SymId) → AllByRecursion IsOwn (raising_lines ss word s)
  raised_in word s = raised_own (targets word s) (can_be_target ss s)

-- ---- Facts
module _ (ss : List Numbered) (tree : TreeFacts) (input : UserInput) (known : SymId → SymbolValue) (s : SymId) where
  -- the line of a fact is one of the symbol's
  abbrev pub IsPlaced : Fact → Type 0
  IsPlaced fact = elim fact [
    | DefaultIs kind d t given ↦ In d.entry (definitions_of ss s)
    | RangeIs kind r t bounds ↦ In r.entry (definitions_of ss s)
    | RaisedBy word r t u ↦ In r (raising_lines ss word s)
    | NotRaised word rs ↦ AllByRecursion (λ r. In r (raising_lines ss word s)) rs
    | _ ↦ Unit {0}
  ]

  abbrev Each : List Fact → Type 0
  Each = AllByRecursion IsPlaced

  parts : (ps : List ConditionPart) → Each (part_facts ss tree input known ps)
  parts ps = mapped IsPlaced (λ p. PartIs p (part_value tree known p)) ps (λ p. tt)

  dependencies : (i : ℕ) → Each (dependency_facts ss tree input known i)
  dependencies i = (tt, parts (dependency_parts ss i))

  prompts : (p : Said (InputPrompt Form)) → Each (prompt_facts ss tree input known p)
  prompts p = (tt, parts (shown_parts ss p))

  lines_said : {X : Type 0} (read : Numbered → Option X) → AllByRecursion {X = Said X} (λ l. In l.entry (definitions_of ss s)) (said_of ss read s)
  lines_said read = said_entries ss (λ i. In i (definitions_of ss s)) read (definitions_of ss s) (all_are_in (definitions_of ss s))

  defaults : (kind : SymbolType) → Each (default_facts ss tree input known s kind)
  defaults kind =
      let met = is_met ss tree input known (λ (x : StatedDefault). x.when) in
      mapped_to IsPlaced (default_fact ss tree input known kind) (through met (said_of ss stated_default s))
      (up_to (λ (d : Said StatedDefault). In d.entry (definitions_of ss s)) met (said_of ss stated_default s) (lines_said stated_default))

  ranges : (kind : SymbolType) → Each (range_facts ss tree input known s kind)
  ranges kind =
      let met = is_met ss tree input known (λ (x : Bounds × Option Form). x.1) in
      mapped_to IsPlaced (range_fact ss tree input known kind) (through met (said_of ss range_in s))
      (up_to (λ (d : Said (Bounds × Option Form)). In d.entry (definitions_of ss s)) met (said_of ss range_in s) (lines_said range_in))

  others : (word : SelectOrImply) (rs : List (SymId × Said (Option Form))) → AllByRecursion (λ r. In r (raising_lines ss word s)) rs →
      Each (elim rs [ [] ↦ [] | r ∷ more ↦ NotRaised word (r ∷ more) ∷ [] ])
  others word [] h = tt
  others word (r ∷ rs) h = (h, tt)

  raises : (word : SelectOrImply) → Each (raise_facts ss tree input known word s)
  raises word =
      let rs = raising_lines ss word s in
      let told = λ (r : SymId × Said (Option Form)). RaisedBy word r (truth_of_value (known r.0)) (raise_value ss tree input known r) in
      let raising = filter (λ r. not (is_n (raise_value ss tree input known r))) rs in
      both IsPlaced (map told raising) _
      (mapped_to IsPlaced told raising (filtered (λ r. not (is_n (raise_value ss tree input known r))) (λ r. In r rs) rs (all_are_in rs)))
      (others word (filter (λ r. is_n (raise_value ss tree input known r)) rs)
      (filtered (λ r. is_n (raise_value ss tree input known r)) (λ r. In r rs) rs (all_are_in rs)))

  either : (b : Bool) (xs ys : List Fact) → Each xs → Each ys → Each (if b then xs else ys)
  either true xs ys h k = h
  either false xs ys h k = k

  refused : (o : Option RefusedLine) → Each (map (NotAllowed s) (listed o))
  refused None = tt
  refused (Some at) = (tt, tt)

  users : (f : SymbolFacts) → Each (user_facts ss tree input known s f)
  users f = both IsPlaced _ _ (either (is_some (place_at input.places (SymbolPlace s.0)) || (not (is_some f.choice) && is_visible tree known f)) _ _ (tt, tt) tt)
      (refused (plain_refused input s))

  truths : (f : SymbolFacts) → Each (truth_facts ss tree input known s f)
  truths f = both IsPlaced (raise_facts ss tree input known SelectOrImply.Select s) _ (raises SelectOrImply.Select)
      (either (is_users tree known f (place_at input.places (SymbolPlace s.0)) || is_y (selected_to tree known f)) _ _ tt
      (both IsPlaced (default_facts ss tree input known s f.symbol_type) _ (defaults f.symbol_type) (raises SelectOrImply.Imply)))

  texts : (f : SymbolFacts) (used : Option (List ℕ)) → Each (text_facts ss tree input known s f used)
  texts f used = either (is_some used) _ _ tt (defaults f.symbol_type)

  values : (f : SymbolFacts) (kind : SymbolType) → Each (value_facts ss tree input known s f kind)
  values f Undefined = tt
  values f IsBool = truths f
  values f Tristate = both IsPlaced (map (λ m. ModulesAre m (truth_of_value (known m))) (listed tree.modules)) _
      (mapped IsPlaced (λ m. ModulesAre m (truth_of_value (known m))) (listed tree.modules) (λ m. tt)) (truths f)
  values f Str = texts f _
  values f Int = both IsPlaced (range_facts ss tree input known s f.symbol_type) _ (ranges f.symbol_type) (texts f _)
  values f Hex = both IsPlaced (range_facts ss tree input known s f.symbol_type) _ (ranges f.symbol_type) (texts f _)

  presets : (j : ℕ) → Each (preset_facts ss tree input known j)
  presets j =
      let named = through (counts ss tree input known j) (default_members ss j) in
      both IsPlaced (map (member_default_fact ss tree input known) named) _ (mapped IsPlaced (member_default_fact ss tree input known) named (λ d. tt))
      (either (list_any (counts ss tree input known j) (default_members ss j)) [] _ tt (mapped IsPlaced (member_fact ss tree input known) _ (λ m. tt)))

  selections : (j : ℕ) (chosen : Option GivenValue) → Each (selection_facts ss tree input known j chosen)
  selections j (Some (Member m)) = (tt, either (is_shown_member ss tree input known j m) _ _ tt (presets j))
  selections j (Some (GivenTruth t)) = presets j
  selections j (Some (GivenText t)) = presets j
  selections j None = presets j

  choices : (k j : ℕ) → Each (choice_facts_at ss tree input known k j)
  choices k j = (
    tt,
    both IsPlaced (part_facts ss tree input known (dependency_parts ss j) ++ flat_map (prompt_facts ss tree input known) (prompt_lines ss (j ∷ []))) _
        (both IsPlaced (part_facts ss tree input known (dependency_parts ss j)) _ (parts (dependency_parts ss j))
        (flat IsPlaced (prompt_facts ss tree input known) (prompt_lines ss (j ∷ [])) prompts))
        (either (is_n (mode_of tree known (choice_at tree k))) _ _ tt (tt, selections j (place_at input.places (ChoicePlace k)))),
  )

  own : (f : SymbolFacts) (choice : Option ℕ) → Each (facts_by ss tree input known s f choice)
  own f (Some k) = flat IsPlaced (choice_facts_at ss tree input known k) (choice_entry ss k) (choices k)
  own f None = values f f.symbol_type

  typed : (f : SymbolFacts) → Each (user_facts ss tree input known s f ++ flat_map (dependency_facts ss tree input known) (definitions_of ss s)
      ++ flat_map (prompt_facts ss tree input known) (prompt_lines ss (definitions_of ss s)) ++ facts_by ss tree input known s f f.choice)
  typed f =
      let a = user_facts ss tree input known s f in let b = flat_map (dependency_facts ss tree input known) (definitions_of ss s) in
      let c = flat_map (prompt_facts ss tree input known) (prompt_lines ss (definitions_of ss s)) in
      both IsPlaced (a ++ b ++ c) _ (both IsPlaced (a ++ b) c (both IsPlaced a b (users f)
      (flat IsPlaced (dependency_facts ss tree input known) (definitions_of ss s) dependencies))
      (flat IsPlaced (prompt_facts ss tree input known) (prompt_lines ss (definitions_of ss s)) prompts)) (own f f.choice)

  all : (o : Option SymbolFacts) → Each (elim o [
    | None ↦ []
    | Some f ↦ if is_without_facts ss tree input known f then [] else user_facts ss tree input known s f
        ++ flat_map (dependency_facts ss tree input known) (definitions_of ss s)
        ++ flat_map (prompt_facts ss tree input known) (prompt_lines ss (definitions_of ss s)) ++ facts_by ss tree input known s f f.choice
  ])
  all None = tt
  all (Some f) = either (is_without_facts ss tree input known f) _ _ tt (typed f)

  pub are_placed : Each (facts_of ss tree input known s)
  are_placed = all (facts tree s)
