-- A member of a choice, and a symbol outside choices.
use Rattle.std.proofs.Common.{List, ap, sym, ◌++◌, ◌∙◌}
use Rattle.std.proofs.lemmas.Result.{on_ok_weaker}
use Rattle.kc_tree.specs.Places.{mode_view}
use Rattle.kc_explain.specs.FactLists.{facts_by, shown}
use Rattle.kc_explain.specs.FactViews.{FactView}
use Rattle.kc_explain.proofs.FactLemmas.{cause_member, cause_plain}
use Rattle.kc_explain.proofs.facts.add_cause.Goals as goal

pub returns-in-Some : goal.returns-in-Some
returns-in-Some c =
    on_ok_weaker c.add_choice.result (λ e. e ∙ ap (λ (xs : List FactView). shown c.args.t.now c.args.facts.now.items ++ xs)
    (cause_member c.args.t.now c.args.id (facts_by c.args.t.now c.args.id c.args.symbol.now) c.in-Some.choice.0 (ap mode_view (sym c.in-Some.ensures)))) c.add_choice.ensures

pub returns-in-None : goal.returns-in-None
returns-in-None c =
    on_ok_weaker c.add_value.result (λ e. e ∙ ap (λ (xs : List FactView). shown c.args.t.now c.args.facts.now.items ++ xs)
    (cause_plain c.args.t.now c.args.id (facts_by c.args.t.now c.args.id c.args.symbol.now) (ap mode_view (sym c.in-None.ensures)))) c.add_value.ensures
