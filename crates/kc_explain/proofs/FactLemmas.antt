-- The facts about what entries depend on, about prompts, and about symbols outside choices.
use Rattle.std.proofs.Common.{◌≡◌, ℕ, ◌<◌, Bool, true, false, ◌&&◌, ◌||◌, List, [], ◌∷◌, ◌++◌, length, map, not, Option, Some, None, refl, ap, sym, ◌∙◌, append-nil, append_assoc}
use Rattle.std.specs.Prelude.{if◌then◌else◌, is_some, option_map, slice_get, slice_index_or}
use Rattle.std.specs.Borrow.{Bor}
use Rattle.std.specs.List.{flat_map}
use Rattle.std.specs.Option.{option_and_then, option_copied}
use Rattle.std.proofs.Math.ListN.{get_or-map}
use Rattle.std.proofs.lemmas.List.{map-append}
use Rattle.std.proofs.lemmas.Option.{slice_get_within}
use Rattle.kc_expr.proofs.FormLemmas.{lesser-assoc}
use Rattle.kc_language.specs.ConfigFile.{Places, UserInput, place_at, plain_line}
use Rattle.kc_language.specs.Expansion.{last_of}
use Rattle.kc_language.specs.Expressions.{Form, SymbolValue, lesser, truth_of_value}
use Rattle.kc_language.specs.Statements.{InputPrompt, Located, Numbered, statements}
use Rattle.kc_language.specs.Symbols.{SymbolFacts, TreeFacts, definitions_of, listed, prompt_of, same_type}
use Rattle.kc_language.specs.Texts.{Solution, known}
use Rattle.kc_language.specs.Values.{GivenValue, SymbolPlace, active_range, facts, if_within_range, selected_to, visibility, visible_text}
use Rattle.kc_language.specs.declared.expressions.{SymId.{SymId}, SymbolType.{SymbolType}, Tri.{Tri}}
use Rattle.kc_language.specs.declared.expressions.SymbolType.TheVariants as symbol_type
use Rattle.kc_language.specs.declared.symbols.SelectOrImply.TheVariants as word
use Rattle.kc_outcome.specs.Explanations as rules
use Rattle.kc_entries.specs.Entries.{first_line}
use Rattle.kc_entries.specs.declared.entries.Entry.{Entry}
use Rattle.kc_solve.specs.Answers as answers
use Rattle.kc_language.specs.declared.symbols.ChoiceId.{ChoiceId}
use Rattle.kc_tree.specs.EntryViews.{index_of}
use Rattle.kc_tree.specs.Places.{mode_view}
use Rattle.kc_tree.specs.Layouts.{entry_at, facts_of, index_at, statements_in}
use Rattle.kc_tree.specs.declared.layout.Layout.{Layout}
use Rattle.kc_tree.specs.declared.rows.{EntryId.{EntryId}, Symbol.{Symbol}}
use Rattle.kc_tree.proofs.ListLemmas.{flat-each}
use Rattle.kc_user.specs.ValueView.{given_of_value}
use Rattle.kc_user.specs.declared.value.UserValue.{UserValue}
use Rattle.kc_solve.specs.Tables.{IsTableOf}
use Rattle.kc_values.specs.AtTable as at
use Rattle.kc_values.specs.TableFacts.{facts_in}
use Rattle.kc_values.specs.User.{given_in}
use Rattle.kc_values.specs.declared.table.Table.{Table}
use Rattle.kc_explain.specs.FactLists.{IsRow, cause_told, choice_of, could_count, defaults_of, dependency_at, facts_by, facts_told, given_told, is_settled, is_without_facts, located, modules_told, number_told, parts_told, prompts_at, raises_of, ranges_of, refused_told, shown, symbol_told, text_told, truth_told, value_told}
use Rattle.kc_explain.specs.FactViews.{DependencyIs, FactView, PartIs, PromptIs, UserGave, fact_in, fact_view}
use Rattle.kc_explain.specs.LineViews.{AreAt, at_entry, line_at, lines_of, own_of}
use Rattle.kc_explain.specs.PartViews.{Part, Said, part_in, parts_value, said_in, said_of, worth_parts}
use Rattle.kc_explain.specs.PartsOfExplanations.{dependency_parts, menus_parts}
use Rattle.kc_explain.specs.declared.fact.Fact.{Fact}
use Rattle.kc_explain.specs.declared.teller.Teller.{Teller}
use Rattle.kc_explain.proofs.LineLemmas.{at-there, entry-there, over-entries}
use Rattle.kc_explain.proofs.PartLemmas.{flat_map-each, map-flat, prompt-given, shown-located, value-in}

-- ---- What entries depend on, and prompts
pub parts_value_both : (tree : TreeFacts) (known : SymId → SymbolValue) (xs ys : List rules.ConditionPart) →
    rules.parts_value tree known (xs ++ ys) ≡ lesser (rules.parts_value tree known xs) (rules.parts_value tree known ys)
parts_value_both tree known [] ys = refl
parts_value_both tree known (x ∷ xs) ys =
    ap (lesser (rules.part_value tree known x)) (parts_value_both tree known xs ys)
    ∙ sym (lesser-assoc (rules.part_value tree known x) (rules.parts_value tree known xs) (rules.parts_value tree known ys))

module _ (l : Layout) (solution : Solution) (input : UserInput) where
  pub parts-told : (ps : List rules.ConditionPart) →
      parts_told solution (map (part_in (lines_of l)) ps) ≡ map (fact_in (lines_of l)) (rules.part_facts (statements_in l) solution.tree input (known solution) ps)
  parts-told [] = refl
  parts-told (p ∷ ps) = ap (λ r. PartIs (part_in (lines_of l) p) (rules.part_value solution.tree (known solution) p) ∷ r) (parts-told ps)

  abbrev dependency_of : ℕ → List FactView
  dependency_of i = map (fact_in (lines_of l)) (rules.dependency_facts (statements_in l) solution.tree input (known solution) i)

  pub dependency-told : (at : ℕ) (line : Located Numbered) (ps : List Part) (value : Tri) → Some line ≡ line_at l at → ps ≡ flat_map (dependency_parts (lines_of l)) (listed (index_at l at)) →
      value ≡ parts_value solution ps → DependencyIs (Some line) value ∷ parts_told solution ps ≡ flat_map dependency_of (listed (index_at l at))
  dependency-told at line ps value h p v = by (entry_at l at) refl
    where
      by : (o : Option Entry) → entry_at l at ≡ o → DependencyIs (Some line) value ∷ parts_told solution ps ≡ flat_map dependency_of (listed (index_at l at))
      by None e = absurd (let no : Some line ≡ None = h ∙ ap (option_map first_line) e in cc)
      by (Some x) e =
          let is = entry-there l at x e in
          let here : Some line ≡ slice_get (lines_of l) (index_of l.entries is.number) = h ∙ ap (option_map first_line) e ∙ sym is.first in
          let own : ps ≡ map (part_in (lines_of l)) (rules.dependency_parts (statements_in l) (index_of l.entries is.number)) = p ∙ at-there l (dependency_parts (lines_of l)) at x is in
          let worth : value ≡ rules.parts_value solution.tree (known solution) (rules.dependency_parts (statements_in l) (index_of l.entries is.number)) =
          v ∙ ap (parts_value solution) own ∙ value-in (lines_of l) solution (rules.dependency_parts (statements_in l) (index_of l.entries is.number)) in
          let list : parts_told solution ps ≡ map (fact_in (lines_of l)) (rules.part_facts (statements_in l) solution.tree input (known solution) (rules.dependency_parts (statements_in l) (index_of l.entries is.number))) =
          ap (parts_told solution) own ∙ parts-told (rules.dependency_parts (statements_in l) (index_of l.entries is.number)) in
          (λ j. DependencyIs (here j) (worth j) ∷ list j)
          ∙ sym (at-there l dependency_of at x is)

  -- a prompt, by the parts of its condition
  abbrev prompt_by : List Part → List Part → Said (InputPrompt Form) → List FactView
  prompt_by ps menus p = PromptIs p.line (lesser (parts_value solution ps) (parts_value solution (menus ++ worth_parts p.line (p.what).when)))
      ∷ parts_told solution (menus ++ worth_parts p.line (p.what).when)

  abbrev prompt_facts : rules.Said (InputPrompt Form) → List FactView
  prompt_facts q = map (fact_in (lines_of l)) (rules.prompt_facts (statements_in l) solution.tree input (known solution) q)

  prompt-same : (q : rules.Said (InputPrompt Form)) → prompt_facts q ≡ prompt_by (dependency_parts (lines_of l) q.entry) (menus_parts (lines_of l) q.entry) (said_in (lines_of l) q)
  prompt-same q =
      let rest = shown-located l q in
      let worth : rules.parts_value solution.tree (known solution) (rules.prompt_parts (statements_in l) q)
      ≡ lesser (parts_value solution (dependency_parts (lines_of l) q.entry)) (parts_value solution (menus_parts (lines_of l) q.entry ++ worth_parts (slice_get (lines_of l) q.at) (q.what).when)) =
      parts_value_both solution.tree (known solution) (rules.dependency_parts (statements_in l) q.entry) (rules.shown_parts (statements_in l) q)
      ∙ (λ j. lesser (sym (value-in (lines_of l) solution (rules.dependency_parts (statements_in l) q.entry)) j)
      ((sym (value-in (lines_of l) solution (rules.shown_parts (statements_in l) q)) ∙ ap (parts_value solution) rest) j)) in
      let list : map (fact_in (lines_of l)) (rules.part_facts (statements_in l) solution.tree input (known solution) (rules.shown_parts (statements_in l) q))
      ≡ parts_told solution (menus_parts (lines_of l) q.entry ++ worth_parts (slice_get (lines_of l) q.at) (q.what).when) =
      sym (parts-told (rules.shown_parts (statements_in l) q)) ∙ ap (parts_told solution) rest in
      (λ j. PromptIs (slice_get (lines_of l) q.at) (worth j) ∷ list j)

  pub prompt-told : (at : ℕ) (o : Option (Said (InputPrompt Form))) → o ≡ last_of (said_of prompt_of (own_of l at)) →
      flat_map (prompt_by (flat_map (dependency_parts (lines_of l)) (listed (index_at l at))) (flat_map (menus_parts (lines_of l)) (listed (index_at l at)))) (listed o)
      ≡ flat_map (λ i. map (fact_in (lines_of l)) (flat_map (rules.prompt_facts (statements_in l) solution.tree input (known solution)) (rules.prompt_lines (statements_in l) (i ∷ [])))) (listed (index_at l at))
  prompt-told at o e =
      prompt-given l prompt_by prompt_facts prompt-same at o e
      ∙ flat-each (λ i. flat_map prompt_facts (rules.prompt_lines (statements_in l) (i ∷ [])))
      (λ i. map (fact_in (lines_of l)) (flat_map (rules.prompt_facts (statements_in l) solution.tree input (known solution)) (rules.prompt_lines (statements_in l) (i ∷ []))))
      (λ i. sym (map-flat (fact_in (lines_of l)) (rules.prompt_facts (statements_in l) solution.tree input (known solution)) (rules.prompt_lines (statements_in l) (i ∷ []))))
      (listed (index_at l at))

-- ---- A fact that was appended, before others
module _ (r : Teller) (old pushed : List Fact) (x : Fact) (e : pushed ≡ old ++ x ∷ []) where
  pub pushed-alone : (all : List FactView) → fact_view r.solved.now x ∷ [] ≡ all → shown r pushed ≡ shown r old ++ all
  pushed-alone all m = ap (shown r) e ∙ map-append (fact_view r.solved.now) old (x ∷ []) ∙ ap (λ xs. shown r old ++ xs) m

  pub pushed-first : (new : List Fact) (more all : List FactView) → shown r new ≡ shown r pushed ++ more → fact_view r.solved.now x ∷ more ≡ all → shown r new ≡ shown r old ++ all
  pushed-first new more all n m =
      n ∙ ap (λ xs. xs ++ more) (ap (shown r) e ∙ map-append (fact_view r.solved.now) old (x ∷ [])) ∙ append_assoc (shown r old) (fact_view r.solved.now x ∷ []) more
      ∙ ap (λ xs. shown r old ++ xs) m

-- none
pub none-added : (xs more : List FactView) → [] ≡ more → xs ≡ xs ++ more
none-added xs more e = sym (append-nil xs) ∙ ap (λ ys. xs ++ ys) e

-- ---- What the user gave
given_is : (r : Option (Bor UserValue)) → given_in r ≡ option_map given_of_value (option_copied r)
given_is None = refl
given_is (Some u) = refl

pub given_found : (r : Option (Bor UserValue)) (xs : List (Option UserValue)) (places : Places) (i : ℕ) → option_copied r ≡ slice_index_or xs i None →
    map (option_map given_of_value) xs ≡ places.symbols → given_in r ≡ place_at places (SymbolPlace i)
given_found r xs places i found same =
    given_is r ∙ ap (option_map given_of_value) found ∙ sym (get_or-map (option_map given_of_value) xs i None) ∙ ap (λ (ys : List (Option GivenValue)). slice_index_or ys i None) same

-- ---- A symbol, by its row
module _ (r : Teller) (s : SymId) (row : Symbol) (is : IsRow r s row) where
  pub facts_are : facts r.solved.now.tree s ≡ Some (facts_by r s row)
  facts_are = r.laid.symbols s.0 ∙ ap (option_map (facts_of r.layout.now s.0)) is

  pub row_within : s.0 < length r.solved.now.tree.symbols
  row_within = slice_get_within r.solved.now.tree.symbols s.0 (facts_by r s row) facts_are

  pub row_there : s.0 < length r.layout.now.symbols.items
  row_there = slice_get_within r.layout.now.symbols.items s.0 row is

  pub visibility_is : answers.visibility r.solved.now s ≡ visibility r.solved.now.tree (known r.solved.now) (facts_by r s row)
  visibility_is = ap (answers.visibility_by r.solved.now.tree (known r.solved.now)) facts_are

  pub range_is : option_and_then (active_range r.solved.now.tree (known r.solved.now)) (facts r.solved.now.tree s) ≡ active_range r.solved.now.tree (known r.solved.now) (facts_by r s row)
  range_is = ap (option_and_then (active_range r.solved.now.tree (known r.solved.now))) facts_are

  -- by the table of the solution
  pub selected_is : (table : Table) (own : Symbol) → IsTableOf r.solved.now table
      → Some own ≡ slice_get table.layout.now.symbols.items s.0 → at.selected_to table s own ≡ selected_to r.solved.now.tree (known r.solved.now) (facts_by r s row)
  selected_is table own t h =
      let there : facts table.tree.now s ≡ Some (facts_in table s own) = table.laid.symbols s.0 ∙ ap (option_map (facts_of table.layout.now s.0)) (sym h) in
      let same : facts_in table s own ≡ facts_by r s row =
      (let one : Some (facts_in table s own) ≡ Some (facts_by r s row) = sym there ∙ ap (λ tree. facts tree s) t.tree ∙ facts_are in cc) in
      (λ j. selected_to (t.tree j) (t.known_is j) (same j))

  pub selected_there : (table : Table) → IsTableOf r.solved.now table → None ≡ slice_get table.layout.now.symbols.items s.0 → ⊥
  selected_there table t h =
      let no : None ≡ Some (facts_by r s row) = sym (table.laid.symbols s.0 ∙ ap (option_map (facts_of table.layout.now s.0)) (sym h)) ∙ ap (λ tree. facts tree s) t.tree ∙ facts_are in cc

-- ---- Symbols outside choices
located_if : (r : Teller) (b : Bool) (all : List rules.Fact) → (if b then [] else located r all) ≡ located r (if b then [] else all)
located_if r true all = refl
located_if r false all = refl

module _ (r : Teller) (s : SymId) (f : SymbolFacts) where
  pub text_is : (used : Option (List ℕ)) → text_told r s f.symbol_type used ≡ located r (rules.text_facts (statements_in r.layout.now) r.solved.now.tree r.input.now (known r.solved.now) s f used)
  text_is used = located_if r (is_some used) (rules.default_facts (statements_in r.layout.now) r.solved.now.tree r.input.now (known r.solved.now) s f.symbol_type)

  abbrev user : Option GivenValue
  user = place_at r.input.now.places (SymbolPlace s.0)

  abbrev text_given : Option (List ℕ)
  text_given = visible_text (place_at r.input.now.places (SymbolPlace s.0)) (visibility r.solved.now.tree (known r.solved.now) f)

  abbrev by_kind : SymbolType → List FactView
  by_kind kind = located r (rules.value_facts (statements_in r.layout.now) r.solved.now.tree r.input.now (known r.solved.now) s f kind)

  pub value_untyped : f.symbol_type ≡ symbol_type.Undefined → [] ≡ value_told r s f
  value_untyped e = ap by_kind (sym e)

  pub value_bool : f.symbol_type ≡ symbol_type.Bool → truth_told r s f ≡ value_told r s f
  value_bool e = ap by_kind (sym e)

  pub value_tristate : f.symbol_type ≡ symbol_type.Tristate → modules_told r ++ truth_told r s f ≡ value_told r s f
  value_tristate e =
      sym (map-append (fact_in (lines_of r.layout.now)) (map (λ m. rules.ModulesAre m (truth_of_value (known r.solved.now m))) (listed r.solved.now.tree.modules))
      (rules.truth_facts (statements_in r.layout.now) r.solved.now.tree r.input.now (known r.solved.now) s f))
      ∙ ap by_kind (sym e)

  pub value_string : f.symbol_type ≡ symbol_type.Str → text_told r s f.symbol_type text_given ≡ value_told r s f
  value_string e = text_is text_given ∙ ap by_kind (sym e)

  number-by : number_told r s f text_given ≡ located r (rules.range_facts (statements_in r.layout.now) r.solved.now.tree r.input.now (known r.solved.now) s f.symbol_type
      ++ rules.text_facts (statements_in r.layout.now) r.solved.now.tree r.input.now (known r.solved.now) s f (if_within_range f.symbol_type (active_range r.solved.now.tree (known r.solved.now) f) text_given))
  number-by =
      ap (λ t. ranges_of r s f.symbol_type ++ t) (text_is (if_within_range f.symbol_type (active_range r.solved.now.tree (known r.solved.now) f) text_given))
      ∙ sym (map-append (fact_in (lines_of r.layout.now)) (rules.range_facts (statements_in r.layout.now) r.solved.now.tree r.input.now (known r.solved.now) s f.symbol_type)
      (rules.text_facts (statements_in r.layout.now) r.solved.now.tree r.input.now (known r.solved.now) s f (if_within_range f.symbol_type (active_range r.solved.now.tree (known r.solved.now) f) text_given)))

  pub value_int : f.symbol_type ≡ symbol_type.Int → number_told r s f text_given ≡ value_told r s f
  value_int e = number-by ∙ ap by_kind (sym e)

  pub value_hex : f.symbol_type ≡ symbol_type.Hex → number_told r s f text_given ≡ value_told r s f
  value_hex e = number-by ∙ ap by_kind (sym e)

  -- what the user gave
  pub given_none : is_some (place_at r.input.now.places (SymbolPlace s.0)) || could_count r f ≡ false → [] ≡ given_told r s f
  given_none e = ap (λ b. located r (if b then rules.UserGave (plain_line r.input.now r.input.now.lines s) (SymbolPlace s.0) (place_at r.input.now.places (SymbolPlace s.0)) ∷ [] else [])) (sym e)

  pub given_some : is_some (place_at r.input.now.places (SymbolPlace s.0)) || could_count r f ≡ true →
      UserGave (plain_line r.input.now r.input.now.lines s) (SymbolPlace s.0) (place_at r.input.now.places (SymbolPlace s.0)) ∷ [] ≡ given_told r s f
  given_some e = ap (λ b. located r (if b then rules.UserGave (plain_line r.input.now r.input.now.lines s) (SymbolPlace s.0) (place_at r.input.now.places (SymbolPlace s.0)) ∷ [] else [])) (sym e)

  -- a bool or tristate
  abbrev later : List rules.Fact
  later = rules.default_facts (statements_in r.layout.now) r.solved.now.tree r.input.now (known r.solved.now) s f.symbol_type
      ++ rules.raise_facts (statements_in r.layout.now) r.solved.now.tree r.input.now (known r.solved.now) word.Imply s

  abbrev selects : List rules.Fact
  selects = rules.raise_facts (statements_in r.layout.now) r.solved.now.tree r.input.now (known r.solved.now) word.Select s

  truth-by : (b : Bool) → is_settled r s f ≡ b → raises_of r word.Select s ++ located r (if b then [] else later) ≡ truth_told r s f
  truth-by b e =
      sym (map-append (fact_in (lines_of r.layout.now)) selects (if b then [] else later))
      ∙ ap (λ c. located r (selects ++ (if c then [] else later))) (sym e)

  pub truth_settled : is_settled r s f ≡ true → raises_of r word.Select s ≡ truth_told r s f
  truth_settled e = sym (append-nil (raises_of r word.Select s)) ∙ truth-by true e

  pub truth_open : is_settled r s f ≡ false → raises_of r word.Select s ++ (defaults_of r s f.symbol_type ++ raises_of r word.Imply s) ≡ truth_told r s f
  truth_open e =
      ap (λ t. raises_of r word.Select s ++ t) (sym (map-append (fact_in (lines_of r.layout.now)) (rules.default_facts (statements_in r.layout.now) r.solved.now.tree r.input.now (known r.solved.now) s f.symbol_type)
      (rules.raise_facts (statements_in r.layout.now) r.solved.now.tree r.input.now (known r.solved.now) word.Imply s)))
      ∙ truth-by false e

  -- in a choice, and outside choices
  abbrev by_choice : Option ℕ → List FactView
  by_choice o = located r (rules.facts_by (statements_in r.layout.now) r.solved.now.tree r.input.now (known r.solved.now) s f o)

  pub cause_member : (k : ℕ) → f.choice ≡ Some k → choice_of r k ≡ cause_told r s f
  cause_member k e = ap by_choice (sym e)

  pub cause_plain : f.choice ≡ None → value_told r s f ≡ cause_told r s f
  cause_plain e = ap by_choice (sym e)

  -- ---- All facts of a symbol
  pub symbol_is : (entries : List EntryId) → AreAt r.layout.now entries (definitions_of (statements_in r.layout.now) s) →
      (((given_told r s f ++ refused_told r s) ++ flat_map (at_entry r.layout.now (dependency_at r)) entries) ++ flat_map (at_entry r.layout.now (prompts_at r)) entries) ++ cause_told r s f ≡ symbol_told r s f
  symbol_is entries a =
      let ds = definitions_of (statements_in r.layout.now) s in
      let see = fact_in (lines_of r.layout.now) in
      let users = rules.user_facts (statements_in r.layout.now) r.solved.now.tree r.input.now (known r.solved.now) s f in
      let depends = flat_map (rules.dependency_facts (statements_in r.layout.now) r.solved.now.tree r.input.now (known r.solved.now)) (definitions_of (statements_in r.layout.now) s) in
      let prompts = flat_map (rules.prompt_facts (statements_in r.layout.now) r.solved.now.tree r.input.now (known r.solved.now)) (rules.prompt_lines (statements_in r.layout.now) (definitions_of (statements_in r.layout.now) s)) in
      let cause = rules.facts_by (statements_in r.layout.now) r.solved.now.tree r.input.now (known r.solved.now) s f f.choice in
      let first : given_told r s f ++ refused_told r s ≡ located r users = sym (map-append see _ _) in
      let second : flat_map (at_entry r.layout.now (dependency_at r)) entries ≡ located r depends =
      over-entries r.layout.now (dependency_at r) entries ds a ∙ sym (map-flat see (rules.dependency_facts (statements_in r.layout.now) r.solved.now.tree r.input.now (known r.solved.now)) ds) in
      let third : flat_map (at_entry r.layout.now (prompts_at r)) entries ≡ located r prompts =
      over-entries r.layout.now (prompts_at r) entries ds a
      ∙ sym (map-flat see (λ i. flat_map (rules.prompt_facts (statements_in r.layout.now) r.solved.now.tree r.input.now (known r.solved.now)) (rules.prompt_lines (statements_in r.layout.now) (i ∷ []))) ds)
      ∙ ap (map see) (flat_map-each (rules.prompt_facts (statements_in r.layout.now) r.solved.now.tree r.input.now (known r.solved.now)) (λ i. last_of (rules.said_at (statements_in r.layout.now) prompt_of i)) ds) in
      (λ j. ((first j ++ second j) ++ third j) ++ located r cause)
      ∙ ap (λ t. (t ++ located r prompts) ++ located r cause) (sym (map-append see users depends))
      ∙ ap (λ t. t ++ located r cause) (sym (map-append see (users ++ depends) prompts))
      ∙ sym (map-append see ((users ++ depends) ++ prompts) cause)

-- five lists one after the other
pub in_turn : {X : Type 0} (a b c d e f g h i j k : List X) → b ≡ a ++ g → c ≡ b ++ h → d ≡ c ++ i → e ≡ d ++ j → f ≡ e ++ k → f ≡ a ++ ((((g ++ h) ++ i) ++ j) ++ k)
in_turn a b c d e f g h i j k p q r s t =
    t ∙ ap (λ x. x ++ k)
    (s ∙ ap (λ x. x ++ j) (r ∙ ap (λ x. x ++ i) (q ∙ ap (λ x. x ++ h) p ∙ append_assoc a g h) ∙ append_assoc a (g ++ h) i) ∙ append_assoc a ((g ++ h) ++ i) j)
    ∙ append_assoc a (((g ++ h) ++ i) ++ j) k

-- the facts of a symbol with a row, and of any other
module _ (r : Teller) (s : SymId) (row : Symbol) (is : IsRow r s row) where
  without-is : is_without_facts row ≡ rules.is_without_facts (statements_in r.layout.now) r.solved.now.tree r.input.now (known r.solved.now) (facts_by r s row)
  without-is = by row.choice
    where
      by : (o : Option ChoiceId) → same_type row.symbol_type symbol_type.Undefined && not (is_some o) ≡ same_type row.symbol_type symbol_type.Undefined && not (is_some (mode_view o))
      by None = refl
      by (Some k) = refl

  abbrev all_by : Bool → List FactView
  all_by b = located r (if b then [] else rules.user_facts (statements_in r.layout.now) r.solved.now.tree r.input.now (known r.solved.now) s (facts_by r s row)
      ++ flat_map (rules.dependency_facts (statements_in r.layout.now) r.solved.now.tree r.input.now (known r.solved.now)) (definitions_of (statements_in r.layout.now) s)
      ++ flat_map (rules.prompt_facts (statements_in r.layout.now) r.solved.now.tree r.input.now (known r.solved.now)) (rules.prompt_lines (statements_in r.layout.now) (definitions_of (statements_in r.layout.now) s))
      ++ rules.facts_by (statements_in r.layout.now) r.solved.now.tree r.input.now (known r.solved.now) s (facts_by r s row) (facts_by r s row).choice)

  told-is : (b : Bool) → is_without_facts row ≡ b → all_by b ≡ facts_told r s
  told-is b e =
      ap all_by (sym e ∙ without-is)
      ∙ ap (λ (o : Option SymbolFacts). located r (elim o [
        | None ↦ []
        | Some f ↦ if rules.is_without_facts (statements_in r.layout.now) r.solved.now.tree r.input.now (known r.solved.now) f then []
            else rules.user_facts (statements_in r.layout.now) r.solved.now.tree r.input.now (known r.solved.now) s f
            ++ flat_map (rules.dependency_facts (statements_in r.layout.now) r.solved.now.tree r.input.now (known r.solved.now)) (definitions_of (statements_in r.layout.now) s)
            ++ flat_map (rules.prompt_facts (statements_in r.layout.now) r.solved.now.tree r.input.now (known r.solved.now)) (rules.prompt_lines (statements_in r.layout.now) (definitions_of (statements_in r.layout.now) s))
            ++ rules.facts_by (statements_in r.layout.now) r.solved.now.tree r.input.now (known r.solved.now) s f f.choice
      ])) (sym (facts_are r s row is))

  pub told_none : is_without_facts row ≡ true → [] ≡ facts_told r s
  told_none e = told-is true e

  pub told_some : is_without_facts row ≡ false → symbol_told r s (facts_by r s row) ≡ facts_told r s
  told_some e = told-is false e

module _ (r : Teller) (s : SymId) where
  pub told_unknown : None ≡ slice_get r.layout.now.symbols.items s.0 → [] ≡ facts_told r s
  told_unknown h =
      ap (λ (o : Option SymbolFacts). located r (elim o [
        | None ↦ []
        | Some f ↦ if rules.is_without_facts (statements_in r.layout.now) r.solved.now.tree r.input.now (known r.solved.now) f then []
            else rules.user_facts (statements_in r.layout.now) r.solved.now.tree r.input.now (known r.solved.now) s f
            ++ flat_map (rules.dependency_facts (statements_in r.layout.now) r.solved.now.tree r.input.now (known r.solved.now)) (definitions_of (statements_in r.layout.now) s)
            ++ flat_map (rules.prompt_facts (statements_in r.layout.now) r.solved.now.tree r.input.now (known r.solved.now)) (rules.prompt_lines (statements_in r.layout.now) (definitions_of (statements_in r.layout.now) s))
            ++ rules.facts_by (statements_in r.layout.now) r.solved.now.tree r.input.now (known r.solved.now) s f f.choice
      ])) (sym (r.laid.symbols s.0 ∙ ap (option_map (facts_of r.layout.now s.0)) (sym h)))

  -- by the lines of the tree
  pub told_in : facts_told r s ≡ map (fact_in r.solved.now.tree.lines) (rules.facts_in r.input.now r.solved.now s)
  told_in = ap (λ lines. map (fact_in lines) (rules.facts_of (statements lines) r.solved.now.tree r.input.now (known r.solved.now) s)) (sym r.laid.lines)
