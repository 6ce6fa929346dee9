-- The definitions of a symbol, one after another, and what is read of them under any values.
use Rattle.std.proofs.{Common.{List, None, Option, Some, [], ap, arith, false, length, map, refl, subst, suc, sym, true, zero, ℕ, ◌<◌, ◌∙◌, ◌∷◌, ◌≡◌}, lemmas.List.map-append}
use Rattle.std.specs.{List.{cons_option, filter_map, flat_map, slice_get}, Option.is_some}
use Rattle.kc_language.specs.{Expressions.{Form, SymbolValue, greater, greatest}, Symbols.{Condition, Guarded, TreeFacts, listed, range_in, stated_default}, Values.{condition, conditions, default_value}, declared.expressions.{SymId.SymId, Tri.Tri}}
use Rattle.kc_tree.specs.{EntryViews.definitions_from, Layouts.{DefinitionFacts, condition_at, default_view, definition_facts, definitions_at, place_of, prompt_when, range_view, said_at}, Stored.unstored, declared.{layout.Layout.Layout, rows.Symbol.Symbol}}
use Rattle.kc_tree.proofs.LayoutWalks.{IsDefinition, IsDefinitionAt, definition-next, definition-next-at, definitions-first, definitions-first-at}
use Rattle.kc_possible.specs.PartsOfPossible.{greatest_default}
use Rattle.kc_values.proofs.TriLemmas.{greater_n, greatest-append}

-- an option before what is taken the greatest of
greatest-cons : {X : Type 0} (f : X → Tri) (o : Option X) (xs : List X) → greatest (map f (cons_option o xs)) ≡ greater (greatest (map f (listed o))) (greatest (map f xs))
greatest-cons f None xs = refl
greatest-cons f (Some x) xs = ap (λ t. greater t (greatest (map f xs))) (sym (greater_n (f x)))

-- What an entry says, by its number as it is stored.
module _ (l : Layout) where
  abbrev dependency_in : ℕ → Condition
  dependency_in at = condition_at l (place_of l at).context.0

  abbrev pub facts_at : ℕ → DefinitionFacts
  facts_at at = record {
    dependency = dependency_in at;
    prompt = prompt_when l (dependency_in at) (place_of l at);
    defaults = map (default_view (dependency_in at)) (filter_map stated_default (said_at l at));
    ranges = map (range_view (dependency_in at)) (filter_map range_in (said_at l at));
  }

module _ (l : Layout) (s : SymId) where
  -- what the definitions from one on say
  abbrev pub definitions_left : ℕ → List DefinitionFacts
  definitions_left at = map (definition_facts l) (definitions_at l s at)

  -- the walk has come to a definition, or to its end; how far it has still to go
  abbrev pub IsWalk : ℕ → Type 0
  IsWalk at = IsDefinitionAt l s at

  abbrev pub left : ℕ → ℕ
  left at = length (definitions_at l s at)

  -- one more definition, which leads on to `next`
  pub record IsNext (at next : ℕ) : Type 0 where
    pub says : definitions_left at ≡ facts_at l at ∷ definitions_left next
    pub walk : IsWalk next
    pub smaller : left next < left at

  pub next-is : (at next : ℕ) → is_some (unstored at) ≡ true → IsWalk at → next ≡ (place_of l at).next.0 → IsNext at next
  next-is zero next h w e = absurd cc
  next-is (suc k) next h w e =
      let d : IsDefinition l s k = w k refl in
      let rest = definition-next l s k d ∙ sym (ap (λ n. k ∷ definitions_at l s n) e) in
      let many = ap length rest in
      record {
        says = ap (map (definition_facts l)) rest;
        walk = subst IsWalk (sym e) (definition-next-at l s k d);
        smaller = omega (arith, many);
      }

  pub walk-ends : (at : ℕ) → is_some (unstored at) ≡ false → definitions_left at ≡ []
  walk-ends zero h = refl
  walk-ends (suc k) h = absurd cc

  module _ (row : Symbol) (h : slice_get l.symbols.items s.0 ≡ Some row) where
    pub walk-begins : IsWalk row.first.0
    walk-begins = definitions-first-at l s.0 row h

    pub all-left : definitions_left row.first.0 ≡ map (definition_facts l) (definitions_from l.entries s 0)
    all-left = ap (map (definition_facts l)) (definitions-first l s.0 row h)

  -- ---- What is read of them
  module _ (tree : TreeFacts) (known : SymId → SymbolValue) where
    abbrev pub prompts_of : List DefinitionFacts → Tri
    prompts_of ds = conditions tree known (filter_map (λ (d : DefinitionFacts). d.prompt) ds)

    abbrev pub dependencies_of : List DefinitionFacts → Tri
    dependencies_of ds = conditions tree known (map (λ (d : DefinitionFacts). d.dependency) ds)

    abbrev pub defaults_of : List DefinitionFacts → Tri
    defaults_of ds = greatest_default tree known (flat_map (λ (d : DefinitionFacts). d.defaults) ds)

    pub prompts-next : (at next : ℕ) → IsNext at next → prompts_of (definitions_left at) ≡ greater (conditions tree known (listed (facts_at l at).prompt)) (prompts_of (definitions_left next))
    prompts-next at next n =
        ap prompts_of n.says
        ∙ greatest-cons (condition tree known) (facts_at l at).prompt (filter_map (λ (d : DefinitionFacts). d.prompt) (definitions_left next))

    pub dependencies-next : (at next : ℕ) → IsNext at next → dependencies_of (definitions_left at) ≡ greater (condition tree known (facts_at l at).dependency) (dependencies_of (definitions_left next))
    dependencies-next at next n = ap dependencies_of n.says

    pub defaults-next : (at next : ℕ) → IsNext at next → defaults_of (definitions_left at) ≡ greater (greatest_default tree known (facts_at l at).defaults) (defaults_of (definitions_left next))
    defaults-next at next n =
        let worth : Guarded Form → Tri = λ g. default_value tree known (Some g) in
        let others = flat_map (λ (d : DefinitionFacts). d.defaults) (definitions_left next) in
        ap defaults_of n.says
        ∙ ap greatest (map-append worth (facts_at l at).defaults others)
        ∙ greatest-append (map worth (facts_at l at).defaults) (map worth others)
