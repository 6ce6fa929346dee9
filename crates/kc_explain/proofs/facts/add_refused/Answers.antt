-- The value that was not allowed, if there is one.
use Rattle.std.proofs.Common.{ap, map}
use Rattle.kc_language.specs.Symbols.{listed}
use Rattle.kc_outcome.specs.Explanations as rules
use Rattle.kc_explain.specs.FactLists.{located, shown}
use Rattle.kc_explain.proofs.FactLemmas.{none-added, pushed-alone}
use Rattle.kc_explain.proofs.facts.add_refused.Goals as goal

pub returns-in_ok-push-in-Some : goal.returns-in_ok-push-in-Some
returns-in_ok-push-in-Some c =
    pushed-alone c.args.t.now c.args.facts.now.items _ _ c.in_ok-push-in-Some.ensures.items _ (ap (λ o. located c.args.t.now (map (rules.NotAllowed c.args.id) (listed o))) c.in-Some.ensures)

pub returns-in-None : goal.returns-in-None
returns-in-None c = none-added (shown c.args.t.now c.args.facts.now.items) _ (ap (λ o. located c.args.t.now (map (rules.NotAllowed c.args.id) (listed o))) c.in-None.ensures)
