-- The tree's symbols are in order, or need one another in a loop.
use Rattle.std.proofs.Common.{subst, sym}
use Rattle.std.specs.Prelude.{Ok}
use Rattle.kc_outcome.specs.Outcome.{looped}
use Rattle.kc_language.specs.Symbols.{IsTreeOf}
use Rattle.kc_conf.proofs.accepted.TreeReading.ordered.Goals as goal

pub returns-in-Err-clause-ordered : goal.returns-in-Err-clause-ordered
returns-in-Err-clause-ordered c = λ files root keeps of known.
    let (text, named, is) = c.in-Err.ensures.refused known in
    looped c.laid-laid.result.tree.now text (subst (λ t. IsTreeOf files root (Ok t)) (sym c.laid-laid.ensures.tree) of.built) named is
