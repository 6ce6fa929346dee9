-- What the facts of a symbol name is what holds it down.
use Rattle.std.proofs.Common.{List, ap, map, sym, ◌++◌, ◌∙◌}
use Rattle.std.specs.List.{flat_map}
use Rattle.kc_language.specs.declared.expressions.SymId.{SymId}
use Rattle.kc_explain.specs.FactViews.{fact_view}
use Rattle.kc_explain.specs.Holding.{names}
use Rattle.kc_explain.specs.LineViews.{lines_of}
use Rattle.kc_explain.proofs.HoldingLemmas.{held-are}
use Rattle.kc_explain.proofs.holders.names_of.Goals as goal

pub returns : goal.returns
returns c =
    let solution = c.args.t.now.solved.now in
    c.in_ok-add_all_names.ensures
    ∙ ap (λ (all : List SymId). all ++ flat_map (names (lines_of c.args.t.now.layout.now) solution) (map (fact_view solution) c.deref.result.now)) c.new-all.ensures.items
    ∙ held-are (lines_of c.args.t.now.layout.now) solution.tree.lines solution c.args.t.now.input.now c.args.id (map (fact_view solution) c.deref.result.now)
    (sym c.args.t.now.laid.lines) (ap (map (fact_view solution)) c.deref.ensures.value ∙ c.in_ok-facts.ensures)
