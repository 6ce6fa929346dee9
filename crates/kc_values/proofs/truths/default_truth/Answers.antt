use Rattle.std.proofs.Common.{ap, ◌∙◌}
use Rattle.kc_expr.specs.Form.{form_of}
use Rattle.kc_language.specs.Expressions.{value}
use Rattle.kc_values.specs.{AtTable.met_default, TableFacts.known_at}
use Rattle.kc_values.proofs.MetLemmas.{default-worth}
use Rattle.kc_values.proofs.truths.default_truth.Goals as goal

pub returns-in-Some : goal.returns-in-Some
returns-in-Some c =
    let t = c.args.table.now in
    c.lesser.ensures
    ∙ default-worth t (met_default t c.args.id c.args.symbol.now) (c.in-Some.default, c.in-Some.when) c.eval.result c.in-Some.ensures
    (c.eval.ensures ∙ ap (λ e. value (known_at t) t.tree.now.modules (form_of e)) c.deref.ensures)
