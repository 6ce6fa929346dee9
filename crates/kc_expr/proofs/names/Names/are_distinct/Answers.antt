-- What the check left open in `are_distinct`.
use Rattle.std.proofs.Common.{subst}
use Rattle.kc_expr.specs.Names.{AreDistinct}
use Rattle.kc_expr.proofs.NamesLemmas.{distinct-map}
use Rattle.kc_expr.proofs.names.Names.are_distinct.Goals as goal

pub returns : goal.returns
returns c = subst AreDistinct c.self.view_is (distinct-map c.self.inside.names.keys c.self.invariant)
