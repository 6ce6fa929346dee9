-- The definitions of a symbol, one after another.
use Rattle.std.proofs.{Common.{List, None, Option, Some, [], ap, arith, false, length, map, not, refl, subst, suc, sym, true, zero, ℕ, ◌<◌, ◌∙◌, ◌∷◌, ◌≡◌}, lemmas.List.Folds.find-append}
use Rattle.std.specs.{List.{cons_option, filter_map, flat_map, slice_get}, Option.{is_some, option_or}}
use Rattle.kc_language.specs.{Expressions.{greater, greatest}, Symbols.{Condition, Guarded, listed, range_in, stated_default}, Values.is_n, declared.expressions.{SymId.SymId, Tri.Tri}}
use Rattle.kc_tree.specs.{EntryViews.definitions_from, Layouts.{DefinitionFacts, default_view, definition_facts, definitions_at, place_of, prompt_when, range_view, said_at}, Stored.unstored, declared.{layout.Layout.Layout, rows.Symbol.Symbol}}
use Rattle.kc_tree.proofs.{LayoutWalks.{IsDefinition, IsDefinitionAt, definition-next, definition-next-at, definitions-first, definitions-first-at}, OuterLemmas.{place-is, silent}}
use Rattle.kc_values.specs.AtTable as table
use Rattle.kc_values.specs.{TableFacts.{IsRowOf, condition_at}, declared.table.Table.Table}
use Rattle.kc_values.proofs.TriLemmas.{greater-step, greater_n}

-- an option before what is taken the greatest of
greatest-cons : {X : Type 0} (f : X → Tri) (o : Option X) (xs : List X) → greatest (map f (cons_option o xs)) ≡ greater (greatest (map f (listed o))) (greatest (map f xs))
greatest-cons f None xs = refl
greatest-cons f (Some x) xs = ap (λ t. greater t (greatest (map f xs))) (sym (greater_n (f x)))

-- What an entry says, by its number as it is stored.
module _ (t : Table) where
  abbrev dependency_in : ℕ → Condition
  dependency_in at = condition_at t (place_of t.layout.now at).context.0

  abbrev pub facts_at : ℕ → DefinitionFacts
  facts_at at = record {
    dependency = dependency_in at;
    prompt = prompt_when t.layout.now (dependency_in at) (place_of t.layout.now at);
    defaults = map (default_view (dependency_in at)) (filter_map stated_default (said_at t.layout.now at));
    ranges = map (range_view (dependency_in at)) (filter_map range_in (said_at t.layout.now at));
  }

module _ (t : Table) (s : SymId) where
  abbrev l : Layout
  l = t.layout.now

  -- what the definitions from one on say
  abbrev pub definitions_left : ℕ → List DefinitionFacts
  definitions_left at = map (definition_facts l) (definitions_at l s at)

  -- the walk has come to a definition, or to its end; how far it has still to go
  abbrev pub IsWalk : ℕ → Type 0
  IsWalk at = IsDefinitionAt l s at

  abbrev pub left : ℕ → ℕ
  left at = length (definitions_at l s at)

  -- one more definition, which leads on to `next`
  pub record IsNext (at next : ℕ) : Type 0 where
    pub says : definitions_left at ≡ facts_at t at ∷ definitions_left next
    pub walk : IsWalk next
    pub smaller : left next < left at
    -- the flags of its place
    pub no_default : (place_of l at).has_default ≡ false → (facts_at t at).defaults ≡ []
    pub no_range : (place_of l at).has_range ≡ false → (facts_at t at).ranges ≡ []

  pub next-is : (at next : ℕ) → is_some (unstored at) ≡ true → IsWalk at → next ≡ (place_of l at).next.0 → IsNext at next
  next-is zero next h w e = absurd cc
  next-is (suc k) next h w e =
      let d : IsDefinition l s k = w k refl in
      let rest = definition-next l s k d ∙ sym (ap (λ n. k ∷ definitions_at l s n) e) in
      let many = ap length rest in
      let is = place-is l k d.there in
      record {
        says = ap (map (definition_facts l)) rest;
        walk = subst IsWalk (sym e) (definition-next-at l s k d);
        smaller = omega (arith, many);
        no_default = λ f. ap (map (default_view (dependency_in t (suc k)))) (silent stated_default (said_at l (suc k)) (sym is.has_default ∙ f));
        no_range = λ f. ap (map (range_view (dependency_in t (suc k)))) (silent range_in (said_at l (suc k)) (sym is.has_range ∙ f));
      }

  pub walk-ends : (at : ℕ) → is_some (unstored at) ≡ false → definitions_left at ≡ []
  walk-ends zero h = refl
  walk-ends (suc k) h = absurd cc

  module _ (row : Symbol) (h : IsRowOf t s row) where
    pub walk-begins : IsWalk row.first.0
    walk-begins = definitions-first-at l s.0 row h

    pub all-left : definitions_left row.first.0 ≡ map (definition_facts l) (definitions_from l.entries s 0)
    all-left = ap (map (definition_facts l)) (definitions-first l s.0 row h)

  -- ---- What is read of them
  abbrev pub prompts_left : ℕ → Tri
  prompts_left at = table.conditions t (filter_map (λ (d : DefinitionFacts). d.prompt) (definitions_left at))

  abbrev pub dependencies_left : ℕ → Tri
  dependencies_left at = table.conditions t (map (λ (d : DefinitionFacts). d.dependency) (definitions_left at))

  pub prompts-step : (at next : ℕ) (so_far found result : Tri) → IsNext at next → found ≡ table.conditions t (listed (facts_at t at).prompt) →
      greater so_far (prompts_left at) ≡ result → greater (greater so_far found) (prompts_left next) ≡ result
  prompts-step at next so_far found result n is before =
      ap (λ x. greater (greater so_far x) (prompts_left next)) is
      ∙ greater-step so_far (table.conditions t (listed (facts_at t at).prompt)) (prompts_left next) (prompts_left at) result
      (ap (λ ds. table.conditions t (filter_map (λ (d : DefinitionFacts). d.prompt) ds)) n.says
      ∙ greatest-cons (table.condition t) (facts_at t at).prompt (filter_map (λ (d : DefinitionFacts). d.prompt) (definitions_left next))) before

  pub dependencies-step : (at next : ℕ) (so_far found result : Tri) → IsNext at next → found ≡ table.condition t (facts_at t at).dependency →
      greater so_far (dependencies_left at) ≡ result → greater (greater so_far found) (dependencies_left next) ≡ result
  dependencies-step at next so_far found result n is before =
      ap (λ x. greater (greater so_far x) (dependencies_left next)) is
      ∙ greater-step so_far (table.condition t (facts_at t at).dependency) (dependencies_left next) (dependencies_left at) result
      (ap (λ ds. table.conditions t (map (λ (d : DefinitionFacts). d.dependency) ds)) n.says) before

  -- the first whose condition is not n, of defaults or ranges
  module _ {X : Type 0} (lines : DefinitionFacts → List (Guarded X)) where
    abbrev pub met_left : ℕ → Option (Guarded X)
    met_left at = table.first_met t (flat_map lines (definitions_left at))

    pub met-step : (at next : ℕ) → IsNext at next → met_left at ≡ option_or (table.first_met t (lines (facts_at t at))) (met_left next)
    met-step at next n =
        ap (λ ds. table.first_met t (flat_map lines ds)) n.says
        ∙ find-append (λ (g : Guarded X). not (is_n (table.condition t g.when))) (lines (facts_at t at)) (flat_map lines (definitions_left next))

    -- a definition without such lines
    pub met-skip : (at next : ℕ) → IsNext at next → lines (facts_at t at) ≡ [] → met_left at ≡ met_left next
    met-skip at next n e = met-step at next n ∙ ap (λ gs. option_or (table.first_met t gs) (met_left next)) e

    pub met-ends : (at : ℕ) → is_some (unstored at) ≡ false → met_left at ≡ None
    met-ends at h = ap (λ ds. table.first_met t (flat_map lines ds)) (walk-ends at h)
