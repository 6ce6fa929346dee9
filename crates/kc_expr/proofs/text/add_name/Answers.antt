-- Why `add_name` keeps its contract.
use Rattle.std.proofs.Common.{append-nil, ap, sym, ◌++◌, ◌∙◌}
use Rattle.kc_expr.proofs.ExpressionTexts.{no_name}
use Rattle.kc_expr.proofs.text.add_name.Goals as goal

pub returns-in-None : goal.returns-in-None
returns-in-None c =
    let none = no_name c.args.names.now c.args.id.0 (rw c.in-None.is at c.get.ensures) in
    sym (ap (λ n. c.args.text.now.items ++ n) none ∙ append-nil c.args.text.now.items)
