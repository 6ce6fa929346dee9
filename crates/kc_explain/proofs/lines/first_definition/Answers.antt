-- The first definition is that of the symbol's row; a symbol without a row has none.
use Rattle.std.proofs.Common.{◌∙◌}
use Rattle.kc_explain.proofs.WalkLemmas.{first-none, first-some}
use Rattle.kc_explain.proofs.lines.first_definition.Goals as goal

pub returns-in-Some : goal.returns-in-Some
returns-in-Some c = first-some c.args.layout.now c.args.id c.in-Some.symbol.now c.in-Some.ensures

pub returns-in-None : goal.returns-in-None
returns-in-None c = c.top.ensures ∙ first-none c.args.layout.now c.args.id c.in-None.ensures
