-- The ranges of all definitions.
use Rattle.std.proofs.Common.{List, ap, ◌++◌, ◌∙◌}
use Rattle.std.proofs.lemmas.Result.{on_ok_weaker}
use Rattle.kc_explain.specs.FactLists.{shown}
use Rattle.kc_explain.specs.FactViews.{FactView}
use Rattle.kc_explain.proofs.StatedLemmas.{ranges-are}
use Rattle.kc_explain.proofs.stated.add_ranges.Goals as goal

pub returns : goal.returns
returns c =
    on_ok_weaker c.add_stated.result (λ e. e ∙ ap (λ (r : List FactView). shown c.args.t.now c.args.facts.now.items ++ r)
    (ranges-are c.args.t.now.layout.now c.args.t.now.solved.now c.args.t.now.input.now c.args.symbol_type c.deref.result.now c.args.id (rw c.deref.ensures.value c.in_ok-entries.ensures))) c.add_stated.ensures
