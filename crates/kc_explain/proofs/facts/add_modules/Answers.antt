-- The modules symbol, if there is one.
use Rattle.std.proofs.Common.{[], ap, map, ◌∷◌, ◌∙◌}
use Rattle.kc_language.specs.Expressions.{truth_of_value}
use Rattle.kc_language.specs.Symbols.{listed}
use Rattle.kc_language.specs.Texts.{known}
use Rattle.kc_outcome.specs.Explanations as rules
use Rattle.kc_explain.specs.FactLists.{located, shown}
use Rattle.kc_explain.specs.FactViews.{ModulesAre}
use Rattle.kc_explain.proofs.FactLemmas.{none-added, pushed-alone}
use Rattle.kc_explain.proofs.facts.add_modules.Goals as goal

pub returns-in_ok-push-in-Some : goal.returns-in_ok-push-in-Some
returns-in_ok-push-in-Some c =
    pushed-alone c.args.t.now c.args.facts.now.items _ _ c.in_ok-push-in-Some.ensures.items _
    ((λ j. ModulesAre c.in-Some.symbol (c.symbol_value-value.ensures j) ∷ [])
    ∙ ap (λ o. located c.args.t.now (map (λ m. rules.ModulesAre m (truth_of_value (known c.args.t.now.solved.now m))) (listed o))) c.in-Some.ensures)

pub returns-in-None : goal.returns-in-None
returns-in-None c =
    none-added (shown c.args.t.now c.args.facts.now.items) _
    (ap (λ o. located c.args.t.now (map (λ m. rules.ModulesAre m (truth_of_value (known c.args.t.now.solved.now m))) (listed o))) c.in-None.ensures)
