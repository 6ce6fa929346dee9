use Rattle.std.proofs.Common.{map, subst}
use Rattle.kc_language.specs.{Needs.needs, declared.expressions.SymId.SymId}
use Rattle.kc_solve.specs.LoopFaults.{NamesTheLoop}
use Rattle.kc_order.proofs.Rings.{some_unordered}
use Rattle.kc_solve.proofs.evaluation_order.EvaluationOrder.of.Goals as goal

pub returns-in-Err-Loop-clause-unordered : goal.returns-in-Err-Loop-clause-unordered
returns-in-Err-Loop-clause-unordered c = λ _.
    let told = subst (NamesTheLoop c.args.laid.now.tree.now) c.in-Err-Loop.field-0-is c.in-Err-Loop.ensures.refused in
    some_unordered (map (λ (s : SymId). s.0) c.args.laid.now.tree.now.defined) (needs c.args.laid.now.tree.now) told.0 told.1
