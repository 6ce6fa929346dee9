use Rattle.std.proofs.Common.{arith, sym, ◌∙◌}
use Rattle.std.proofs.lemmas.Bool.{eqb-true}
use Rattle.kc_explain.proofs.StatementLineLemmas.{none_joined, one_joined, one_more}
use Rattle.kc_explain.proofs.statement_lines.joined_lines.Goals as goal

pub returns-then-not-is_joined-clause-rest : goal.returns-then-not-is_joined-clause-rest
returns-then-not-is_joined-clause-rest c = one_more _ _ _ c.joined.count _ c.joined.invariant.rest c.first_read-line.ensures.first

pub joined-preserved : goal.joined-preserved
joined-preserved c = record {
  count = one_joined _ _ c.joined.count _ _ c.first_read-line.ensures.first (sym c.is_joined.ensures ∙ grind (arith, c.if-not-is_joined.false)) c.joined.invariant.count;
  rest = one_more _ _ _ c.joined.count _ c.joined.invariant.rest c.first_read-line.ensures.first;
  within = omega (arith, c.joined.invariant.within, c.first_read-line.ensures.less);
}

pub returns-clause-count : goal.returns-clause-count
returns-clause-count c =
    none_joined c.joined.rest.now c.joined.count _ (eqb-true _ 0 (sym c.joined-test.ensures)) c.joined.invariant.count
