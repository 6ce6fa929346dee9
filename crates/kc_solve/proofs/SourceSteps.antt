-- Where the value of a symbol comes from, by its row and at a solution; and its prompts, by its row.
use Rattle.std.proofs.Common.{List, None, Option, Some, [], ap, append-nil, flat_map, length, refl, subst, sym, ℕ, ◌∙◌, ◌≡◌}
use Rattle.std.specs.Prelude.{option_map, slice_get}
use Rattle.kc_language.specs.{ConfigFile.{Places, place_at}, Expressions.SymbolValue, Sources.{member_source, source, source_by, source_by_type}, Symbols.{Condition, SymbolFacts, TreeFacts, listed}, Texts.Solution, Values.{GivenValue, UserPlace, choice_at, facts, name_count, user_place}, declared.{expressions.SymId.SymId, sources.Source.Source}}
use Rattle.kc_tree.specs.{Layouts.facts_of, declared.rows.Symbol.Symbol}
use Rattle.kc_values.specs.{PartsOfValues.{user_place_by, user_place_of}, Table.known_in, TableFacts.{IsRowOf, facts_in}, declared.table.{Table.Table, Value.Value}}
use Rattle.kc_solve.specs.{Kept.solution_in, Sources.source_by_choice}
use Rattle.kc_solve.proofs.{SolvedSteps.table_tells, TableSteps.row_facts}

module _ (tree : TreeFacts) (known : SymId → SymbolValue) (user : UserPlace → Option GivenValue) (id : SymId) (f : SymbolFacts) where
  abbrev by_place : Option ℕ → Option GivenValue → Source
  by_place None given = source_by_type tree known f f.symbol_type given
  by_place (Some k) given = member_source tree known (choice_at tree k) given

  at_place : (c : Option ℕ) → source_by_choice tree known user id f c ≡ by_place c (user (user_place_by id.0 c))
  at_place None = refl
  at_place (Some k) = refl

  by_choice : (c : Option ℕ) (given : Option GivenValue) → by_place c given
      ≡ elim c [ None ↦ source_by_type tree known f f.symbol_type given | Some k ↦ member_source tree known (choice_at tree k) given ]
  by_choice None given = refl
  by_choice (Some k) given = refl

  source_found : facts tree id ≡ Some f → source_by_choice tree known user id f f.choice ≡ source_by tree known (facts tree id) (user (user_place tree id.0))
  source_found at = at_place f.choice ∙ by_choice f.choice (user (user_place_by id.0 f.choice)) ∙ sym (ap (λ o. source_by tree known o (user (user_place_of id.0 o))) at)

-- the source that a full table gives is that of its solution
pub source_is : (tree : TreeFacts) (places : Places) (values : List (Option Value)) → length values ≡ name_count tree → (s : Solution) → solution_in tree places values ≡ s →
    (id : SymId) (f : SymbolFacts) → facts tree id ≡ Some f → (x : Source) → x ≡ source_by_choice tree (known_in tree values) (place_at places) id f f.choice → x ≡ source s id
source_is tree places values full s e id f at x h =
    subst (λ (y : Solution). x ≡ source y id) e
    (h
    ∙ source_found tree (known_in tree values) (place_at places) id f at
    ∙ ap (λ k. source_by tree k (facts tree id) (place_at places (user_place tree id.0))) (table_tells tree places values full))

-- the prompts of the symbol of this number, if there is one
abbrev pub prompts_at : Table → SymId → List Condition
prompts_at t id = flat_map (λ (f : SymbolFacts). f.prompts) (listed (facts t.tree.now id))

-- they are those of its row
pub prompts_of_row : (t : Table) (id : SymId) (s : Symbol) → IsRowOf t id s → prompts_at t id ≡ (facts_in t id s).prompts
prompts_of_row t id s row =
    ap (λ o. flat_map (λ (f : SymbolFacts). f.prompts) (listed o)) (row_facts t id s row) ∙ append-nil (facts_in t id s).prompts

-- and none where there is no row
pub no_facts : (t : Table) (id : SymId) → slice_get t.layout.now.symbols.items id.0 ≡ None → facts t.tree.now id ≡ None
no_facts t id none = t.laid.symbols id.0 ∙ ap (option_map (facts_of t.layout.now id.0)) none

pub no_prompts : (t : Table) (id : SymId) → slice_get t.layout.now.symbols.items id.0 ≡ None → prompts_at t id ≡ []
no_prompts t id none = ap (λ o. flat_map (λ (f : SymbolFacts). f.prompts) (listed o)) (no_facts t id none)
