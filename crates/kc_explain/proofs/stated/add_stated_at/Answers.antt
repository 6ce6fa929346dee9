-- The lines of an entry that is there.
use Rattle.std.proofs.Common.{ap, ◌++◌, ◌∙◌}
use Rattle.std.proofs.lemmas.Result.{IfOk-weaker, on_ok_weaker}
use Rattle.std.specs.List.{filter_map, list_any}
use Rattle.kc_outcome.specs.Explanations.{through}
use Rattle.kc_explain.specs.FactLists.{shown}
use Rattle.kc_explain.specs.StatedFacts.{counts, line_told}
use Rattle.kc_explain.proofs.PartLemmas.{own-known}
use Rattle.kc_explain.proofs.stated.add_stated_at.Goals as goal

pub returns-in-Some-clause-facts : goal.returns-in-Some-clause-facts
returns-in-Some-clause-facts c =
    on_ok_weaker c.add_own.result
    (λ e. e ∙ ap (λ r. shown c.args.t.now c.args.facts.now.items ++ through counts r)
    (λ j. filter_map (line_told c.args.t.now.layout.now c.args.t.now.solved.now c.args.stated (c.dependency_value-dependency.ensures j)) (own-known c.args.t.now.layout.now c.args.entry.0 c.in-Some.own.first.now c.in-Some.own.attributes.now c.in-Some.ensures.first c.in-Some.ensures.own j))) c.add_own.ensures.facts

pub returns-in-Some-clause-met : goal.returns-in-Some-clause-met
returns-in-Some-clause-met c =
    IfOk-weaker c.add_own.result _ _
    (λ _ e. e ∙ ap (list_any counts)
    (λ j. filter_map (line_told c.args.t.now.layout.now c.args.t.now.solved.now c.args.stated (c.dependency_value-dependency.ensures j)) (own-known c.args.t.now.layout.now c.args.entry.0 c.in-Some.own.first.now c.in-Some.own.attributes.now c.in-Some.ensures.first c.in-Some.ensures.own j))) c.add_own.ensures.met
