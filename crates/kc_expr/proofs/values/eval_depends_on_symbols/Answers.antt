-- What the check left open in `eval_depends_on_symbols`.
use Rattle.std.proofs.Common.{ap, ◌∙◌}
use Rattle.kc_expr.specs.{Form.form_of, Value.values_by}
use Rattle.kc_language.specs.Expressions.{value}
use Rattle.kc_expr.proofs.AgreeLemmas.{depends_on_symbols}
use Rattle.kc_expr.proofs.values.eval_depends_on_symbols.Goals as goal

pub returns : goal.returns
returns g c =
    let values = c.args.values.now in
    let others = c.args.others.now in
    let known = values_by (g.V.Values.type_of values) (g.V.Values.tri_of values) (g.V.Values.text_of values) in
    let others_known = values_by (g.W.Values.type_of others) (g.W.Values.tri_of others) (g.W.Values.text_of others) in
    λ same agree.
    depends_on_symbols known others_known (g.V.Values.modules_of values) (form_of c.args.e.now) agree
    ∙ ap (λ m. value others_known m (form_of c.args.e.now)) same
