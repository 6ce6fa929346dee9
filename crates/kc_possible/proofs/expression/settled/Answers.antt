-- The relation has the same value whatever values the symbols have.
use Rattle.std.proofs.Common.{subst, ◌∙◌}
use Rattle.kc_expr.specs.Form.{form_of}
use Rattle.kc_language.specs.declared.expressions.Tri.{Tri}
use Rattle.kc_possible.specs.Bounds.{IsWithin}
use Rattle.kc_possible.proofs.SideLemmas.{settled_value}
use Rattle.kc_possible.proofs.expression.settled.Goals as goal

pub returns : goal.returns
returns c known allowed =
    subst (λ (t : Tri). IsWithin c.exactly.result t) (c.eval.ensures ∙ settled_value c.args.p.now known allowed (form_of c.args.e.now) c.requires) c.exactly.ensures.within
