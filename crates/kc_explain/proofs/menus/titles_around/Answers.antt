-- The titles of the menus among the blocks around the entry.
use Rattle.std.proofs.Common.{◌∙◌}
use Rattle.std.proofs.lemmas.Result.{IfOk-weaker}
use Rattle.kc_explain.proofs.SymbolLemmas.{titles-found}
use Rattle.kc_explain.proofs.menus.titles_around.Goals as goal

pub returns : goal.returns
returns c =
    IfOk-weaker c.menu_titles.result _ _
    (λ all e. e ∙ titles-found c.args.layout.now c.args.entry c.deref.result.now (rw c.deref.ensures.value c.in_ok-around.ensures)) c.menu_titles.ensures
