-- What holds a symbol down: while these symbols keep their values, neither its visibility nor its direct dependency rises.
use Rattle.std.proofs.Common.{◌≡◌, refl, sym, subst, ℕ}
use Rattle.std.proofs.lemmas.List.Elements.{recursion_from_All}
use Rattle.std.specs.List.{AllByRecursion, flat_map}
use Rattle.std.specs.Prelude.{List, None, Option, Some, [], false, if◌then◌else◌, map, ◌++◌, ◌∷◌}
use Rattle.kc_language.specs.{ConfigFile.{UserInput}, Expressions.{Form, SymbolValue}, Statements.{InputPrompt, Numbered, statements}, Symbols.{SymbolFacts, TreeFacts, definitions_of, dependency, facts_with, same_type, symbol_facts, type_of}, Values.{condition, conditions, facts}, declared.expressions.{SymId.{SymId}, SymbolType.TheVariants.{Undefined}}}
use Rattle.kc_outcome.specs.Explanations.{AtMost, Fact, HoldersHideIt, Said, StaysDown, dependency_facts, facts_by, facts_of, is_without_facts, prompt_facts, prompt_lines, user_facts}
use Rattle.kc_outcome.proofs.TriLemmas.{at_most_greater}
use Rattle.kc_outcome.proofs.ExplanationParts.{dependency_is, prompt_is}
use Rattle.kc_outcome.proofs.FactLists.{back, front}
use Rattle.kc_outcome.proofs.HoldersHold.{holders_hold}
use Rattle.kc_outcome.proofs.SaidLines.{prompts_are, shown}
use Rattle.kc_outcome.proofs.TreeParts.{facts_are}

module _ (ss : List Numbered) (tree : TreeFacts) (input : UserInput) (known v : SymId → SymbolValue) where
  abbrev Down : Fact → Type 0
  Down = StaysDown ss tree v

  abbrev All_down : List Fact → Type 0
  All_down = AllByRecursion Down

  prompts_stay : (ps : List (Said (InputPrompt Form))) → All_down (flat_map (prompt_facts ss tree input known) ps) →
      AtMost (conditions tree v (map (shown ss) ps)) (conditions tree known (map (shown ss) ps))
  prompts_stay [] h = refl
  prompts_stay (p ∷ ps) h = at_most_greater _ _ _ _ (subst (AtMost (condition tree v (shown ss p))) (prompt_is ss tree known p) h.0)
      (prompts_stay ps (back Down (prompt_facts ss tree input known p) _ h))

  dependencies_stay : (js : List ℕ) → All_down (flat_map (dependency_facts ss tree input known) js) →
      AtMost (conditions tree v (map (dependency ss) js)) (conditions tree known (map (dependency ss) js))
  dependencies_stay [] h = refl
  dependencies_stay (i ∷ js) h = at_most_greater _ _ _ _ (subst (AtMost (condition tree v (dependency ss i))) (dependency_is ss tree known i) h.0)
      (dependencies_stay js (back Down (dependency_facts ss tree input known i) _ h))

  abbrev facts_from : SymId → Option SymbolFacts → List Fact
  facts_from s o = elim o [
    | None ↦ []
    | Some f ↦ if is_without_facts ss tree input known f then [] else user_facts ss tree input known s f
        ++ flat_map (dependency_facts ss tree input known) (definitions_of ss s)
        ++ flat_map (prompt_facts ss tree input known) (prompt_lines ss (definitions_of ss s)) ++ facts_by ss tree input known s f f.choice
  ]

  both_stay : (s : SymId) → facts tree s ≡ Some (symbol_facts ss s) → same_type (type_of ss s) Undefined ≡ false → All_down (facts_of ss tree input known s) →
      AtMost (conditions tree v (symbol_facts ss s).prompts) (conditions tree known (symbol_facts ss s).prompts)
      × AtMost (conditions tree v (symbol_facts ss s).dependencies) (conditions tree known (symbol_facts ss s).dependencies)
  both_stay s is type h =
      let f = symbol_facts ss s in let js = definitions_of ss s in
      let a = user_facts ss tree input known s f in let b = flat_map (dependency_facts ss tree input known) js in
      let c = flat_map (prompt_facts ss tree input known) (prompt_lines ss js) in
      let all : All_down (a ++ b ++ c ++ facts_by ss tree input known s f f.choice) = rw type at (subst (λ o. All_down (facts_from s o)) is h) in
      let before = front Down (a ++ b ++ c) _ all in (
        subst (λ cs. AtMost (conditions tree v cs) (conditions tree known cs)) (sym (prompts_are ss js)) (prompts_stay (prompt_lines ss js) (back Down (a ++ b) c before)),
        dependencies_stay js (back Down a b (front Down (a ++ b) c before)),
      )

pub holders_hide_it : HoldersHideIt
holders_hide_it names lines input known other s h type kept =
    let ss = statements lines in let tree = facts_with names lines in
    both_stay ss tree input known other s (facts_are names lines s h) type
    (recursion_from_All (StaysDown ss tree other) (facts_of ss tree input known s) (holders_hold names lines input known other s kept))
