-- What holds a symbol down: while these symbols keep their values, no condition that an explanation lists rises.
use Rattle.std.proofs.Common.{◌≡◌, refl, ap, subst, ◌∙◌, true, false, ℕ}
use Rattle.std.proofs.lemmas.List.Elements.{All-from_recursion, recursion_from_All}
use Rattle.std.specs.List.{AllByRecursion, flat_map, list_any}
use Rattle.std.specs.Prelude.{Bool, IfSome, suc, List, None, Option, Some, [], filter, if◌then◌else◌, is_some, map, not, ◌&&◌, ◌||◌, ◌++◌, ◌∷◌}
use Rattle.kc_language.specs.{ConfigFile.{UserInput, place_at, plain_refused}, Expansion.{attributes}, Expressions.{Form, SymbolValue, leaf_symbols, symbols, text, truth_of_value, value}, Statements.{InputPrompt, Located, Numbered, statements}, Symbols.{choice_number, members_of, Bounds, StatedDefault, SymbolFacts, TreeFacts, definitions_of, facts_with, holds_text, listed, range_in, stated_default}, Values.{ChoicePlace, GivenText, GivenTruth, GivenValue, Member, SymbolPlace, choice_at, facts, is_n, is_visible, mode_of, selected_to, single_text}, declared.{expressions.{SymId.{SymId}, SymbolType.{SymbolType, TheVariants.{Bool as IsBool, Hex, Int, Str, Tristate, Undefined}}}, symbols.SelectOrImply.{SelectOrImply}}}
use Rattle.kc_outcome.specs.Explanations.{AtMost, ConditionPart, Fact, HoldersHold, ModulesAre, NotAllowed, NotRaised, PartIs, RaisedBy, Said, StaysDown, bound_text, bound_texts, choice_facts_at, counts, default_fact, default_facts, default_member, default_given, default_members, dependency_facts, dependency_parts, facts_by, facts_of, holders, is_met, is_shown_member, is_users, is_without_facts, is_y, line_condition, line_value, member_default_fact, member_fact, mode_parts, names_of_fact, own_names, part_facts, part_value, parts_value, preset_facts, prompt_facts, prompt_lines, prompt_parts, line_parts, raise_facts, raise_value, raising_lines, range_fact, range_facts, said_of, selection_facts, shown_parts, text_facts, through, truth_facts, user_facts, value_facts, worth}
use Rattle.kc_outcome.proofs.DependsOnSymbols.{single_same, texts_same, value_same}
use Rattle.kc_outcome.proofs.ExplanationParts.{dependency_is, line_is, prompt_is}
use Rattle.kc_outcome.proofs.FactLists.{back, both, changed, front, mapped, of_flat, of_map, to_flat, up_to}
use Rattle.kc_outcome.proofs.PartsStay as parts
use Rattle.kc_outcome.proofs.SaidLines.{prompt_entries, said_after, said_entries}
use Rattle.kc_outcome.proofs.TreeParts.{choice_start}

module _ (names : List (List ℕ)) (lines : List (Located Numbered)) (input : UserInput) (known v : SymId → SymbolValue) where
  abbrev ss : List Numbered
  ss = statements lines

  abbrev tree : TreeFacts
  tree = facts_with names lines

  abbrev Keeps : List SymId → Type 0
  Keeps = parts.Keeps names lines known v

  abbrev AllStay : List ConditionPart → Type 0
  AllStay = parts.AllStay names lines known v

  abbrev Stays : ConditionPart → Type 0
  Stays = parts.Stays names lines known v

  -- ---- A fact whose symbols keep their values stays down.
  abbrev Named : Fact → Type 0
  Named fact = Keeps (names_of_fact ss tree known fact)

  abbrev Down : Fact → Type 0
  Down = StaysDown ss tree v

  abbrev IsHeld : List Fact → Type 0
  IsHeld fs = AllByRecursion Named fs → AllByRecursion Down fs

  held_both : (xs ys : List Fact) → IsHeld xs → IsHeld ys → IsHeld (xs ++ ys)
  held_both xs ys f g h = both Down xs ys (f (front Named xs ys h)) (g (back Named xs ys h))

  held_if : (b : Bool) (xs ys : List Fact) → IsHeld xs → IsHeld ys → IsHeld (if b then xs else ys)
  held_if true xs ys f g = f
  held_if false xs ys f g = g

  parts_stay : (ps : List ConditionPart) → AllByRecursion Named (part_facts ss tree input known ps) → AllStay ps
  parts_stay ps h = changed _ _ ps (λ p. parts.part_stays names lines known v p.at p.asks) (of_map Named (λ p. PartIs p (part_value tree known p)) ps h)

  parts_down : (ps : List ConditionPart) → AllByRecursion Down (part_facts ss tree input known ps)
  parts_down ps = mapped Down (λ p. PartIs p (part_value tree known p)) ps (λ p. tt)

  -- ---- What an entry depends on, its prompts and its other lines
  abbrev EntryStays : ℕ → Type 0
  EntryStays i = AllStay (dependency_parts ss i)

  entry_stays : (i : ℕ) → AllByRecursion Named (dependency_facts ss tree input known i) → EntryStays i
  entry_stays i h = parts_stay (dependency_parts ss i) h.1

  entry_down : (i : ℕ) → EntryStays i → AllByRecursion Down (dependency_facts ss tree input known i)
  entry_down i stays = let ps = dependency_parts ss i in
      (subst (λ t. AtMost t (parts_value tree known ps)) (dependency_is ss tree v i) (parts.least_stays names lines known v ps stays), parts_down ps)

  prompt_down : (p : Said (InputPrompt Form)) → EntryStays p.entry → IsHeld (prompt_facts ss tree input known p)
  prompt_down p stays h = let ps = prompt_parts ss p in (
    subst (λ t. AtMost t (parts_value tree known ps)) (prompt_is ss tree v p)
        (parts.least_stays names lines known v ps (both Stays (dependency_parts ss p.entry) (shown_parts ss p) stays (parts_stay (shown_parts ss p) h.1))),
    parts_down (shown_parts ss p),
  )

  prompts_down : (js : List ℕ) → AllByRecursion EntryStays js → IsHeld (flat_map (prompt_facts ss tree input known) (prompt_lines ss js))
  prompts_down js stays = of (prompt_lines ss js) (prompt_entries ss EntryStays js stays)
    where
      of : (ps : List (Said (InputPrompt Form))) → AllByRecursion (λ p. EntryStays p.entry) ps → IsHeld (flat_map (prompt_facts ss tree input known) ps)
      of [] stays = λ h. tt
      of (p ∷ ps) stays = held_both (prompt_facts ss tree input known p) (flat_map (prompt_facts ss tree input known) ps) (prompt_down p stays.0) (of ps stays.1)

  line_down : {X : Type 0} (own : X → Option Form) (l : Said X) → EntryStays l.entry → Keeps (own_names ss tree known (own l.what)) →
      AtMost (line_condition ss tree v own l) (line_value ss tree input known own l)
  line_down own l stays h = let ps = line_parts ss own l in
      subst (λ t. AtMost t (parts_value tree known ps)) (line_is ss tree v own l l)
      (parts.least_stays names lines known v ps (both Stays (dependency_parts ss l.entry) (map (worth l.at) (listed (own l.what))) stays (parts.own_stays names lines known v l.at (own l.what) h)))

  lines_down : {X : Type 0} (fact : Said X → Fact) → ((l : Said X) → EntryStays l.entry → Named (fact l) → Down (fact l)) → (ls : List (Said X)) →
      AllByRecursion (λ l. EntryStays l.entry) ls → IsHeld (map fact ls)
  lines_down fact f [] stays h = tt
  lines_down fact f (l ∷ ls) stays h = (f l stays.0 h.0, lines_down fact f ls stays.1 h.1)

  -- ---- Defaults and ranges
  given_same : (kind : SymbolType) (e : Form) (b : Bool) → Keeps (if is_some (if b then Some (default_given tree known kind e) else None) then symbols tree.modules e else []) →
      IfSome (if b then Some (default_given tree known kind e) else None) (λ g. default_given tree v kind e ≡ g)
  given_same kind e false h = tt
  given_same kind e true h =
      ap (λ t. if holds_text kind then GivenText t else GivenTruth (value v tree.modules e)) (single_same v known tree.modules e h)
      ∙ ap (λ t. if holds_text kind then GivenText (single_text known e) else GivenTruth t) (value_same v known tree.modules e h)

  default_down : (kind : SymbolType) (d : Said StatedDefault) → EntryStays d.entry → Named (default_fact ss tree input known kind d) →
      Down (default_fact ss tree input known kind d)
  default_down kind d stays h =
      let met = is_met ss tree input known (λ (x : StatedDefault). x.when) d in
      let own = own_names ss tree known (d.what).when in
      let given = if is_some (if met then Some (default_given tree known kind (d.what).value) else None) then symbols tree.modules (d.what).value else [] in
      (line_down (λ x. x.when) d stays (front (λ t. v t ≡ known t) own given h), given_same kind (d.what).value met (back (λ t. v t ≡ known t) own given h))

  bounds_same : (kind : SymbolType) (r : Bounds) (b : Bool) →
      Keeps (if is_some (if b then Some (bound_texts tree known kind r) else None) then leaf_symbols r.low ++ leaf_symbols r.high else []) →
      IfSome (if b then Some (bound_texts tree known kind r) else None) (λ b. bound_texts tree v kind r ≡ b)
  bounds_same kind r false h = tt
  bounds_same kind r true h =
      let low = texts_same v known r.low (front (λ t. v t ≡ known t) (leaf_symbols r.low) (leaf_symbols r.high) h) in
      let high = texts_same v known r.high (back (λ t. v t ≡ known t) (leaf_symbols r.low) (leaf_symbols r.high) h) in
      ap (λ t. (bound_text kind t, bound_text kind (text v r.high))) low ∙ ap (λ t. (bound_text kind (text known r.low), bound_text kind t)) high

  range_down : (kind : SymbolType) (r : Said (Bounds × Option Form)) → EntryStays r.entry → Named (range_fact ss tree input known kind r) →
      Down (range_fact ss tree input known kind r)
  range_down kind r stays h =
      let met = is_met ss tree input known (λ (x : Bounds × Option Form). x.1) r in
      let own = own_names ss tree known (r.what).1 in
      let given = if is_some (if met then Some (bound_texts tree known kind (r.what).0) else None) then leaf_symbols (r.what).0.low ++ leaf_symbols (r.what).0.high else [] in
      (line_down (λ x. x.1) r stays (front (λ t. v t ≡ known t) own given h), bounds_same kind (r.what).0 met (back (λ t. v t ≡ known t) own given h))

  member_default_down : (d : Said (SymId × Option Form)) → EntryStays d.entry → Named (member_default_fact ss tree input known d) →
      Down (member_default_fact ss tree input known d)
  member_default_down d stays h = line_down (λ x. x.1) d stays h

  -- ---- The facts that stay as they are
  raises_down : (word : SelectOrImply) (s : SymId) → AllByRecursion Down (raise_facts ss tree input known word s)
  raises_down word s =
      let rs = raising_lines ss word s in
      both Down (map (λ r. RaisedBy word r (truth_of_value (known r.0)) (raise_value ss tree input known r)) (filter (λ r. not (is_n (raise_value ss tree input known r))) rs)) _
      (mapped Down _ (filter (λ r. not (is_n (raise_value ss tree input known r))) rs) (λ r. tt)) (nothing (filter (λ r. is_n (raise_value ss tree input known r)) rs))
    where
      nothing : (rs : List (SymId × Said (Option Form))) → AllByRecursion Down (elim rs [ [] ↦ [] | r ∷ more ↦ NotRaised word (r ∷ more) ∷ [] ])
      nothing [] = tt
      nothing (r ∷ rs) = (tt, tt)

  user_down : (s : SymId) (f : SymbolFacts) → AllByRecursion Down (user_facts ss tree input known s f)
  user_down s f = both Down _ _ (of (is_some (place_at input.places (SymbolPlace s.0)) || (not (is_some f.choice) && is_visible tree known f)) _ (tt, tt))
      (mapped Down (NotAllowed s) (listed (plain_refused input s)) (λ l. tt))
    where
      of : (b : Bool) (fs : List Fact) → AllByRecursion Down fs → AllByRecursion Down (if b then fs else [])
      of true fs h = h
      of false fs h = tt

  -- ---- What gives the symbol its value
  module _ (s : SymId) (f : SymbolFacts) (stays : AllByRecursion EntryStays (definitions_of ss s)) where
    defaults_down : (kind : SymbolType) → IsHeld (default_facts ss tree input known s kind)
    defaults_down kind =
        let met = is_met ss tree input known (λ (x : StatedDefault). x.when) in
        lines_down (default_fact ss tree input known kind) (default_down kind) (through met (said_of ss stated_default s))
        (up_to (λ d. EntryStays d.entry) met (said_of ss stated_default s) (said_entries ss EntryStays stated_default (definitions_of ss s) stays))

    ranges_down : (kind : SymbolType) → IsHeld (range_facts ss tree input known s kind)
    ranges_down kind =
        let met = is_met ss tree input known (λ (x : Bounds × Option Form). x.1) in
        lines_down (range_fact ss tree input known kind) (range_down kind) (through met (said_of ss range_in s))
        (up_to (λ d. EntryStays d.entry) met (said_of ss range_in s) (said_entries ss EntryStays range_in (definitions_of ss s) stays))

    truth_down : IsHeld (truth_facts ss tree input known s f)
    truth_down = held_both (raise_facts ss tree input known SelectOrImply.Select s) _ (λ h. raises_down SelectOrImply.Select s)
        (held_if (is_users tree known f (place_at input.places (SymbolPlace s.0)) || is_y (selected_to tree known f)) [] _ (λ h. tt)
        (held_both (default_facts ss tree input known s f.symbol_type) _ (defaults_down f.symbol_type) (λ h. raises_down SelectOrImply.Imply s)))

    texts_down : (used : Option (List ℕ)) → IsHeld (text_facts ss tree input known s f used)
    texts_down used = held_if (is_some used) [] _ (λ h. tt) (defaults_down f.symbol_type)

    values_down : (kind : SymbolType) → IsHeld (value_facts ss tree input known s f kind)
    values_down Undefined = λ h. tt
    values_down IsBool = truth_down
    values_down Tristate = let own = map (λ m. ModulesAre m (truth_of_value (known m))) (listed tree.modules) in
        held_both own _ (λ h. mapped Down (λ m. ModulesAre m (truth_of_value (known m))) (listed tree.modules) (λ m. tt)) truth_down
    values_down Str = texts_down _
    values_down Int = held_both (range_facts ss tree input known s f.symbol_type) _ (ranges_down f.symbol_type) (texts_down _)
    values_down Hex = held_both (range_facts ss tree input known s f.symbol_type) _ (ranges_down f.symbol_type) (texts_down _)

  -- ---- The choice of a member
  presets_down : (j : ℕ) → EntryStays j → IsHeld (preset_facts ss tree input known j)
  presets_down j stays =
      let met = counts ss tree input known j in let ls = default_members ss j in
      held_both (map (member_default_fact ss tree input known) (through met ls)) _
      (lines_down (member_default_fact ss tree input known) member_default_down (through met ls)
      (up_to (λ d. EntryStays d.entry) met ls
      (said_after ss EntryStays (default_member (members_of ss (choice_number ss j))) j stays (suc j) (attributes ss j))))
      (held_if (list_any met ls) [] _ (λ h. tt) (λ h. mapped Down (member_fact ss tree input known) _ (λ m. tt)))

  selection_down : (j : ℕ) (chosen : Option GivenValue) → EntryStays j → IsHeld (selection_facts ss tree input known j chosen)
  selection_down j (Some (Member m)) stays = λ h. (tt, held_if (is_shown_member ss tree input known j m) [] _ (λ h. tt) (presets_down j stays) h.1)
  selection_down j (Some (GivenTruth t)) stays = presets_down j stays
  selection_down j (Some (GivenText t)) stays = presets_down j stays
  selection_down j None stays = presets_down j stays

  choice_down : (k j : ℕ) → choice_start ss k ≡ Some j → IsHeld (choice_facts_at ss tree input known k j)
  choice_down k j e h =
      let P = prompt_facts ss tree input known in
      let ps = prompt_lines ss (j ∷ []) in
      let needs = part_facts ss tree input known (dependency_parts ss j) in
      let prompts = flat_map P ps in
      let chosen = place_at input.places (ChoicePlace k) in
      let before = front Named (needs ++ prompts) _ h.1 in
      let stays = parts_stay (dependency_parts ss j) (front Named needs prompts before) in
      let shown_ones = changed _ _ ps (λ p g. parts_stay (shown_parts ss p) g.1) (of_flat Named P ps (back Named needs prompts before)) in (
        parts.mode_of_parts names lines known v k j e (front Stays (parts.own_parts ss j) (mode_parts ss j) stays) shown_ones,
        held_both (needs ++ prompts) _ (held_both needs prompts (λ h. parts_down (dependency_parts ss j)) (prompts_down (j ∷ []) (stays, tt)))
            (held_if (is_n (mode_of tree known (choice_at tree k))) [] _ (λ h. tt) (λ h. (tt, selection_down j chosen stays h.1))) h.1,
      )

  facts_by_down : (s : SymId) (f : SymbolFacts) (o : Option ℕ) → AllByRecursion EntryStays (definitions_of ss s) → IsHeld (facts_by ss tree input known s f o)
  facts_by_down s f None stays = values_down s f stays f.symbol_type
  facts_by_down s f (Some k) stays = of (choice_start ss k) refl
    where
      of : (o : Option ℕ) → choice_start ss k ≡ o → IsHeld (flat_map (choice_facts_at ss tree input known k) (listed o))
      of None e = λ h. tt
      of (Some j) e = held_both (choice_facts_at ss tree input known k j) [] (choice_down k j e) (λ h. h)

  -- ---- All facts about a symbol
  typed_down : (s : SymId) (f : SymbolFacts) → IsHeld (user_facts ss tree input known s f ++ flat_map (dependency_facts ss tree input known) (definitions_of ss s)
      ++ flat_map (prompt_facts ss tree input known) (prompt_lines ss (definitions_of ss s)) ++ facts_by ss tree input known s f f.choice)
  typed_down s f h =
      let js = definitions_of ss s in
      let D = dependency_facts ss tree input known in
      let a = user_facts ss tree input known s f in let b = flat_map D js in
      let c = flat_map (prompt_facts ss tree input known) (prompt_lines ss js) in
      let own = back Named a b (front Named (a ++ b) c (front Named (a ++ b ++ c) _ h)) in
      let stays = changed _ EntryStays js entry_stays (of_flat Named D js own) in
      held_both (a ++ b ++ c) _ (held_both (a ++ b) c (held_both a b (λ h. user_down s f) (λ h. to_flat Down D js (changed EntryStays _ js entry_down stays)))
      (prompts_down js stays)) (facts_by_down s f f.choice stays) h

  all_down : (s : SymId) (o : Option SymbolFacts) → IsHeld (elim o [
    | None ↦ []
    | Some f ↦ if is_without_facts ss tree input known f then [] else user_facts ss tree input known s f
        ++ flat_map (dependency_facts ss tree input known) (definitions_of ss s)
        ++ flat_map (prompt_facts ss tree input known) (prompt_lines ss (definitions_of ss s)) ++ facts_by ss tree input known s f f.choice
  ])
  all_down s None = λ h. tt
  all_down s (Some f) = held_if (is_without_facts ss tree input known f) [] _ (λ h. tt) (typed_down s f)

  pub stay_down : (s : SymId) → IsHeld (facts_of ss tree input known s)
  stay_down s = all_down s (facts tree s)

pub holders_hold : HoldersHold
holders_hold names lines input known other s h =
    let ss = statements lines in let tree = facts_with names lines in
    let fs = facts_of ss tree input known s in
    let Kept = λ (t : SymId). other t ≡ known t in
    All-from_recursion (StaysDown ss tree other) fs
    (stay_down names lines input known other s (of_flat Kept (names_of_fact ss tree known) fs (recursion_from_All Kept (holders ss tree input known s) h)))
