-- What the user gave, what it depends on, its prompts, and what gives it its value.
use Rattle.std.proofs.Common.{List, ap, ◌++◌, ◌∙◌}
use Rattle.std.proofs.lemmas.Result.{on_ok_weaker}
use Rattle.std.specs.List.{flat_map}
use Rattle.kc_explain.specs.FactLists.{dependency_at, facts_by, prompts_at, shown}
use Rattle.kc_explain.specs.FactViews.{FactView}
use Rattle.kc_explain.specs.LineViews.{at_entry}
use Rattle.kc_explain.proofs.FactLemmas.{in_turn, symbol_is}
use Rattle.kc_explain.proofs.facts.add_facts.Goals as goal

pub returns : goal.returns
returns c =
    on_ok_weaker c.add_cause.result
    (λ e. in_turn _ _ _ _ _ _ _ _ _ _ _ c.in_ok-add_given.ensures c.in_ok-add_refused.ensures
    (c.in_ok-add_dependencies.ensures ∙ ap (λ es. shown c.args.t.now c.add_refused.new.facts.items ++ flat_map (at_entry c.args.t.now.layout.now (dependency_at c.args.t.now)) es) c.deref.ensures.value)
    (c.in_ok-add_prompts.ensures ∙ ap (λ es. shown c.args.t.now c.add_dependencies.new.facts.items ++ flat_map (at_entry c.args.t.now.layout.now (prompts_at c.args.t.now)) es) c.deref-2.ensures.value)
    e
    ∙ ap (λ (xs : List FactView). shown c.args.t.now c.args.facts.now.items ++ xs)
    (symbol_is c.args.t.now c.args.id (facts_by c.args.t.now c.args.id c.args.symbol.now) c.in_ok-entries.entries.items c.in_ok-entries.ensures)) c.add_cause.ensures
