-- The lines that the definitions and the facts of a symbol give.
use Rattle.std.proofs.Common.{ℕ, List, ap, map, ◌++◌, ◌∙◌}
use Rattle.std.proofs.lemmas.Result.{on_ok_weaker}
use Rattle.kc_explain.specs.FactViews.{fact_view}
use Rattle.kc_explain.proofs.SymbolLemmas.{symbol-told}
use Rattle.kc_explain.proofs.text.add_symbol_lines.Goals as goal

pub returns : goal.returns
returns c =
    on_ok_weaker c.add_symbol_of.result (λ e. e ∙ ap (λ (r : List ℕ). c.args.text.now.items ++ r)
    (symbol-told c.args.t.now c.args.lead.now c.deref.result.now c.args.id (map (fact_view c.args.t.now.solved.now) c.deref-2.result.now)
    (rw c.deref.ensures.value c.in_ok-entries.ensures)
    (ap (map (fact_view c.args.t.now.solved.now)) c.deref-2.ensures.value ∙ c.in_ok-facts.ensures))) c.add_symbol_of.ensures
