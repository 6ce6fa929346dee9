-- The entry of the choice, if it has one.
use Rattle.kc_explain.specs.FactLists.{shown}
use Rattle.kc_explain.proofs.ChoiceFactLemmas.{choice-unknown}
use Rattle.kc_explain.proofs.FactLemmas.{none-added}
use Rattle.kc_explain.proofs.choice_facts.add_choice.Goals as goal

pub add_choice_at-requires : goal.add_choice_at-requires
add_choice_at-requires c = c.in-Some.ensures

pub returns-in-None : goal.returns-in-None
returns-in-None c = none-added (shown c.args.t.now c.args.facts.now.items) _ (choice-unknown c.args.t.now c.args.choice.0 c.in-None.ensures)
