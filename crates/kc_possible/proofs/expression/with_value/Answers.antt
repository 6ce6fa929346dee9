-- The relation has the same value whatever values the other symbols have.
use Rattle.std.proofs.Common.{subst, ◌∙◌}
use Rattle.kc_expr.specs.Form.{form_of}
use Rattle.kc_language.specs.declared.expressions.Tri.{Tri}
use Rattle.kc_possible.specs.Bounds.{IsWithin}
use Rattle.kc_possible.proofs.SideLemmas.{open_value}
use Rattle.kc_possible.proofs.expression.with_value.Goals as goal

pub returns : goal.returns
returns c known allowed h =
    subst (λ (t : Tri). IsWithin c.exactly.result t) (c.eval.ensures ∙ open_value c.args.p.now known allowed (form_of c.args.e.now) c.args.id c.args.value c.requires h) c.exactly.ensures.within
