-- A symbol with facts, and one without.
use Rattle.std.proofs.Common.{List, ap, sym, ◌++◌, ◌∙◌}
use Rattle.kc_explain.specs.FactLists.{facts_by, shown, symbol_told}
use Rattle.kc_explain.specs.FactViews.{FactView}
use Rattle.kc_explain.proofs.FactLemmas.{told_none, told_some}
use Rattle.kc_explain.proofs.facts.facts_at.Goals as goal

pub returns-then-is_without_facts : goal.returns-then-is_without_facts
returns-then-is_without_facts c = ap (shown c.args.t.now) c.new-facts.ensures.items ∙ told_none c.args.t.now c.args.id c.args.symbol.now c.requires (sym c.is_without_facts.ensures ∙ c.if-is_without_facts.true)

pub returns : goal.returns
returns c =
    c.in_ok-add_facts.ensures
    ∙ ap (λ (xs : List FactView). xs ++ symbol_told c.args.t.now c.args.id (facts_by c.args.t.now c.args.id c.args.symbol.now)) (ap (shown c.args.t.now) c.new-facts.ensures.items)
    ∙ told_some c.args.t.now c.args.id c.args.symbol.now c.requires (sym c.is_without_facts.ensures ∙ c.if-is_without_facts.false)
