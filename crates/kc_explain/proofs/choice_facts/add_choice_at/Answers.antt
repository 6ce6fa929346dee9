-- The entry of the choice begins with a line.
use Rattle.std.proofs.Common.{List, ap, ◌++◌, ◌∙◌}
use Rattle.std.proofs.lemmas.Result.{on_ok_weaker}
use Rattle.kc_explain.specs.FactLists.{shown}
use Rattle.kc_explain.specs.FactViews.{FactView}
use Rattle.kc_explain.specs.LineViews.{line_view}
use Rattle.kc_explain.proofs.ChoiceFactLemmas.{choice-entry-is, choice-is, choice-missing}
use Rattle.kc_explain.proofs.FactLemmas.{none-added}
use Rattle.kc_explain.proofs.choice_facts.add_choice_at.Goals as goal

pub returns-in-Some : goal.returns-in-Some
returns-in-Some c =
    on_ok_weaker c.add_choice_by.result (λ e. e ∙ ap (λ (xs : List FactView). shown c.args.t.now c.args.facts.now.items ++ xs)
    (choice-is c.args.t.now c.args.choice.0 c.args.entry (choice-entry-is c.args.t.now.layout.now c.args.choice.0 c.args.entry c.requires) (line_view c.in-Some.line) c.in-Some.ensures)) c.add_choice_by.ensures

pub returns-in-None : goal.returns-in-None
returns-in-None c =
    none-added (shown c.args.t.now c.args.facts.now.items) _
    (choice-missing c.args.t.now c.args.choice.0 c.args.entry (choice-entry-is c.args.t.now.layout.now c.args.choice.0 c.args.entry c.requires) c.in-None.ensures)
