-- The invariants of `expression`.
use Rattle.kc_expr.specs.Form.{form_of}
use Rattle.kc_language.specs.Expressions.{greater, greatest, least, lesser}
use Rattle.std.proofs.Common.{drop}
use Rattle.kc_possible.proofs.PartLemmas.{IsSoFar}
use Rattle.kc_possible.proofs.expression.+expression.Given as goal

abbrev pub invariant-loop-part : goal.invariant-loop-part
invariant-loop-part l = IsSoFar l.p lesser least l.all (drop l.part-index l.part-items) (form_of l.e)

abbrev pub invariant-loop-part-2 : goal.invariant-loop-part-2
invariant-loop-part-2 l = IsSoFar l.p greater greatest l.any (drop l.part-index l.part-items) (form_of l.e)
