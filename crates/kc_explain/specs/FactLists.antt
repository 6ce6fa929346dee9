-- For proofs: Lists of facts, by the lines of the layout that they are read from.
use Rattle.std.specs.Prelude.{◌≡◌, ◌++◌, ◌∷◌, ◌&&◌, ◌||◌, Bool, List, Option, Some, [], false, if◌then◌else◌, is_some, map, not, slice_get, true, ℕ}
use Rattle.std.specs.List.{flat_map}
use Rattle.kc_language.specs.ConfigFile.{place_at, plain_line, plain_refused}
use Rattle.kc_language.specs.Expressions.{lesser, truth_of_value}
use Rattle.kc_language.specs.Statements.{InputPrompt}
use Rattle.kc_language.specs.Expressions.{Form}
use Rattle.kc_language.specs.Symbols.{SymbolFacts, definitions_of, listed, same_type}
use Rattle.kc_language.specs.Texts.{Solution, known}
use Rattle.kc_language.specs.Values.{GivenTruth, GivenValue, SymbolPlace, if_within_range, is_visible, selected_to}
use Rattle.kc_language.specs.Values as values
use Rattle.kc_language.specs.declared.expressions.SymId.{SymId}
use Rattle.kc_language.specs.declared.expressions.SymbolType.{SymbolType}
use Rattle.kc_language.specs.declared.expressions.SymbolType.TheVariants as symbol_type
use Rattle.kc_language.specs.declared.symbols.SelectOrImply.{SelectOrImply}
use Rattle.kc_outcome.specs.Explanations as rules
use Rattle.kc_tree.specs.Layouts.{facts_of, statements_in}
use Rattle.kc_tree.specs.declared.rows.EntryId.{EntryId}
use Rattle.kc_tree.specs.declared.rows.Symbol.{Symbol}
use Rattle.kc_explain.specs.FactViews.{FactView, PartIs, PromptIs, fact_in, fact_view}
use Rattle.kc_explain.specs.LineViews.{at_entry, lines_of}
use Rattle.kc_explain.specs.PartViews.{Part, Said, asked_value, parts_value, worth_parts}
use Rattle.kc_explain.specs.PartsOfExplanations.{dependency_parts, menus_parts}
use Rattle.kc_explain.specs.declared.fact.Fact.{Fact}
use Rattle.kc_explain.specs.declared.teller.Teller.{Teller}

-- parts of a condition with their values
abbrev pub parts_told : Solution → List Part → List FactView
parts_told solution ps = map (λ (p : Part). PartIs p (asked_value solution p.asks)) ps

abbrev pub is_without_facts : Symbol → Bool
is_without_facts row = same_type row.symbol_type symbol_type.Undefined && not (is_some row.choice)

-- whether a user value is a truth value
abbrev pub is_truth : Option GivenValue → Bool
is_truth given = elim given [ Some (GivenTruth u) ↦ true | _ ↦ false ]

module _ (r : Teller) where
  -- the row of a symbol, and the facts of the tree in it
  abbrev pub IsRow : SymId → Symbol → Type 0
  IsRow s row = slice_get r.layout.now.symbols.items s.0 ≡ Some row

  abbrev pub facts_by : SymId → Symbol → SymbolFacts
  facts_by s row = facts_of r.layout.now s.0 row

  -- facts as the code has them; facts of the chapter Explanations; these facts are appended
  abbrev pub shown : List Fact → List FactView
  shown all = map (fact_view r.solved.now) all

  abbrev pub located : List rules.Fact → List FactView
  located all = map (fact_in (lines_of r.layout.now)) all

  abbrev pub Adds : List Fact → List Fact → List FactView → Type 0
  Adds old new more = shown new ≡ shown old ++ more

  -- the parts that an entry depends on, and those of the menus around it
  abbrev pub depends : EntryId → List Part
  depends e = at_entry r.layout.now (dependency_parts (lines_of r.layout.now)) e

  abbrev pub menus : EntryId → List Part
  menus e = at_entry r.layout.now (menus_parts (lines_of r.layout.now)) e

  -- what the statement at an index depends on, and its prompt
  abbrev pub dependency_at : ℕ → List FactView
  dependency_at i = located (rules.dependency_facts (statements_in r.layout.now) r.solved.now.tree r.input.now (known r.solved.now) i)

  abbrev pub prompts_at : ℕ → List FactView
  prompts_at i = located (flat_map (rules.prompt_facts (statements_in r.layout.now) r.solved.now.tree r.input.now (known r.solved.now)) (rules.prompt_lines (statements_in r.layout.now) (i ∷ [])))

  -- a prompt of an entry
  abbrev pub prompt_of : List Part → List Part → Said (InputPrompt Form) → List FactView
  prompt_of ps shown_ps p = PromptIs p.line (lesser (parts_value r.solved.now ps) (parts_value r.solved.now shown_ps)) ∷ parts_told r.solved.now shown_ps

  abbrev pub prompt_told : EntryId → Said (InputPrompt Form) → List FactView
  prompt_told e p = prompt_of (depends e) (menus e ++ worth_parts p.line (p.what).when) p

  -- the defaults and ranges of a symbol, and the lines that raise it
  abbrev pub defaults_of : SymId → SymbolType → List FactView
  defaults_of s kind = located (rules.default_facts (statements_in r.layout.now) r.solved.now.tree r.input.now (known r.solved.now) s kind)

  abbrev pub ranges_of : SymId → SymbolType → List FactView
  ranges_of s kind = located (rules.range_facts (statements_in r.layout.now) r.solved.now.tree r.input.now (known r.solved.now) s kind)

  abbrev pub raises_of : SelectOrImply → SymId → List FactView
  raises_of w s = located (rules.raise_facts (statements_in r.layout.now) r.solved.now.tree r.input.now (known r.solved.now) w s)

  -- a choice
  abbrev pub choice_of : ℕ → List FactView
  choice_of k = located (flat_map (rules.choice_facts_at (statements_in r.layout.now) r.solved.now.tree r.input.now (known r.solved.now) k) (rules.choice_entry (statements_in r.layout.now) k))

  -- what the user gave
  abbrev pub could_count : SymbolFacts → Bool
  could_count f = not (is_some f.choice) && is_visible r.solved.now.tree (known r.solved.now) f

  abbrev pub given_told : SymId → SymbolFacts → List FactView
  given_told s f = let given = place_at r.input.now.places (SymbolPlace s.0) in
      located (if is_some given || could_count f
      then rules.UserGave (plain_line r.input.now r.input.now.lines s) (SymbolPlace s.0) given ∷ [] else [])

  abbrev pub refused_told : SymId → List FactView
  refused_told s = located (map (rules.NotAllowed s) (listed (plain_refused r.input.now s)))

  -- what gives a symbol of each type its value
  abbrev pub is_settled : SymId → SymbolFacts → Bool
  is_settled s f = rules.is_users r.solved.now.tree (known r.solved.now) f (place_at r.input.now.places (SymbolPlace s.0)) || rules.is_y (selected_to r.solved.now.tree (known r.solved.now) f)

  abbrev pub truth_told : SymId → SymbolFacts → List FactView
  truth_told s f = located (rules.truth_facts (statements_in r.layout.now) r.solved.now.tree r.input.now (known r.solved.now) s f)

  abbrev pub modules_told : List FactView
  modules_told = located (map (λ m. rules.ModulesAre m (truth_of_value (known r.solved.now m))) (listed r.solved.now.tree.modules))

  abbrev pub text_told : SymId → SymbolType → Option (List ℕ) → List FactView
  text_told s kind used = if is_some used then [] else defaults_of s kind

  abbrev pub number_told : SymId → SymbolFacts → Option (List ℕ) → List FactView
  number_told s f shown_text = ranges_of s f.symbol_type
      ++ text_told s f.symbol_type (if_within_range f.symbol_type (values.active_range r.solved.now.tree (known r.solved.now) f) shown_text)

  abbrev pub value_told : SymId → SymbolFacts → List FactView
  value_told s f = located (rules.value_facts (statements_in r.layout.now) r.solved.now.tree r.input.now (known r.solved.now) s f f.symbol_type)

  abbrev pub cause_told : SymId → SymbolFacts → List FactView
  cause_told s f = located (rules.facts_by (statements_in r.layout.now) r.solved.now.tree r.input.now (known r.solved.now) s f f.choice)

  -- all facts of a symbol that has some; of any symbol
  abbrev pub symbol_told : SymId → SymbolFacts → List FactView
  symbol_told s f = located (rules.user_facts (statements_in r.layout.now) r.solved.now.tree r.input.now (known r.solved.now) s f
      ++ flat_map (rules.dependency_facts (statements_in r.layout.now) r.solved.now.tree r.input.now (known r.solved.now)) (definitions_of (statements_in r.layout.now) s)
      ++ flat_map (rules.prompt_facts (statements_in r.layout.now) r.solved.now.tree r.input.now (known r.solved.now))
      (rules.prompt_lines (statements_in r.layout.now) (definitions_of (statements_in r.layout.now) s))
      ++ rules.facts_by (statements_in r.layout.now) r.solved.now.tree r.input.now (known r.solved.now) s f f.choice)

  abbrev pub facts_told : SymId → List FactView
  facts_told s = located (rules.facts_of (statements_in r.layout.now) r.solved.now.tree r.input.now (known r.solved.now) s)
