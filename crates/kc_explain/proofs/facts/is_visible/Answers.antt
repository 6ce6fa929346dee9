-- The visibility of a symbol is that of its facts.
use Rattle.std.proofs.Common.{ap, not, ◌∙◌}
use Rattle.kc_language.specs.Values.{is_n}
use Rattle.kc_explain.proofs.FactLemmas.{visibility_is}
use Rattle.kc_explain.proofs.facts.is_visible.Goals as goal

pub returns : goal.returns
returns c = ap not (c.is_n.ensures ∙ ap is_n (c.visibility.ensures ∙ visibility_is c.args.t.now c.args.id c.args.symbol.now c.requires))
