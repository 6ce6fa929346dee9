-- The lines that select it, and the rest unless that has no effect.
use Rattle.std.proofs.Common.{List, ap, sym, append_assoc, ◌++◌, ◌∙◌}
use Rattle.std.proofs.lemmas.Result.{on_ok_weaker}
use Rattle.kc_language.specs.declared.symbols.SelectOrImply.TheVariants as word
use Rattle.kc_explain.specs.FactLists.{defaults_of, facts_by, raises_of, shown}
use Rattle.kc_explain.specs.FactViews.{FactView}
use Rattle.kc_explain.proofs.FactLemmas.{row_there, truth_open, truth_settled}
use Rattle.kc_explain.proofs.facts.add_truth.Goals as goal

pub add_raises-requires : goal.add_raises-requires
add_raises-requires c = row_there c.args.t.now c.args.id c.args.symbol.now c.requires

pub add_raises-requires-else-is_settled : goal.add_raises-requires-else-is_settled
add_raises-requires-else-is_settled c = row_there c.args.t.now c.args.id c.args.symbol.now c.requires

pub returns-then-is_settled : goal.returns-then-is_settled
returns-then-is_settled c =
    c.in_ok-add_raises.ensures ∙ ap (λ (xs : List FactView). shown c.args.t.now c.args.facts.now.items ++ xs)
    (truth_settled c.args.t.now c.args.id (facts_by c.args.t.now c.args.id c.args.symbol.now) (sym c.is_settled.ensures ∙ c.if-is_settled.true))

pub returns-in_ok-add_defaults : goal.returns-in_ok-add_defaults
returns-in_ok-add_defaults c =
    let selects = raises_of c.args.t.now word.Select c.args.id in
    let defaults = defaults_of c.args.t.now c.args.id c.args.symbol.now.symbol_type in
    let implies = raises_of c.args.t.now word.Imply c.args.id in
    on_ok_weaker c.add_raises-else-is_settled.result
    (λ e. e ∙ ap (λ (xs : List FactView). xs ++ raises_of c.args.t.now word.Imply c.args.id)
    (c.in_ok-add_defaults.ensures ∙ ap (λ (xs : List FactView). xs ++ defaults_of c.args.t.now c.args.id c.args.symbol.now.symbol_type) c.in_ok-add_raises.ensures)
    ∙ append_assoc (shown c.args.t.now c.args.facts.now.items ++ selects) defaults implies
    ∙ append_assoc (shown c.args.t.now c.args.facts.now.items) selects (defaults ++ implies)
    ∙ ap (λ (xs : List FactView). shown c.args.t.now c.args.facts.now.items ++ xs)
    (truth_open c.args.t.now c.args.id (facts_by c.args.t.now c.args.id c.args.symbol.now) (sym c.is_settled.ensures ∙ c.if-is_settled.false))) c.add_raises-else-is_settled.ensures
