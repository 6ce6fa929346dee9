-- What the check left open in the cycle of `parse`.
use Rattle.std.proofs.{Common.{[], ap, map, ℕ, ◌∙◌, ◌∷◌}, lemmas.{List.map-append, Result.IfOk-weaker}}
use Rattle.kc_expr.specs.{Form.{form_of, parts_of}, Grammar.terminals_from, PartsOfExpressions.connected, Reading.{FailsNot, ParsedNot}, declared.{expression.{Expr.Expr, Parts.Parts}, parse.ExprFault.TheVariants.Memory}}
use Rattle.kc_language.specs.Expressions.{Bang, forms, spell, spell_not}
use Rattle.kc_expr.proofs.{NamesLemmas.extends_on, OperandLemmas.{chain_operand, not_operand, operand_in, operand_on}, ParseLemmas.{deep_bang_at, deep_group_at, fails_after, fails_bang_at, fails_group_at, fault_passed, parsed_bang, parsed_chain, parsed_conjunction, parsed_group, parsed_negation, parsed_only, parts_next, parts_one, unclosed_at}, ReadingLemmas.{fails_conjunction, fails_first, fails_negation}, TopLemmas.IfErr-weaker}
use Rattle.kc_expr.proofs.parse.+parse.Goals as goal

pub negation-returns-then-levels-eq0-clause-fails : goal.negation-returns-then-levels-eq0-clause-fails
negation-returns-then-levels-eq0-clause-fails t c = deep_bang_at _ _ _ c.if-levels-eq0.true c.if-is_op.ensures.1

pub negation-returns-then-levels-eq0-2-clause-fails : goal.negation-returns-then-levels-eq0-2-clause-fails
negation-returns-then-levels-eq0-2-clause-fails t c = deep_group_at _ _ _ c.if-levels-eq0-2.true c.if-is_op-2.ensures.1

pub chain-returns-in_err-first-clause-fails : goal.chain-returns-in_err-first-clause-fails
chain-returns-in_err-first-clause-fails t c =
    fault_passed c.from_residual.result _ _ c.from_residual.ensures.1 (fails_first _ _ _ _ c.in_err-first.ensures.fails)

pub chain-returns-then-not-is_joined-clause-parsed : goal.chain-returns-then-not-is_joined-clause-parsed
chain-returns-then-not-is_joined-clause-parsed t c = parsed_only _ _ _ _ _ _ _ _ c.in_ok-first.ensures.parsed c.if-not-is_joined.ensures

pub chain-returns-in_err-second-clause-fails : goal.chain-returns-in_err-second-clause-fails
chain-returns-in_err-second-clause-fails t c =
    let first = parts_one c.args.connective c.args.condition c.args.levels c.args.tokens.now c.args.at c.in_ok-first.end c.args.names.now c.part.new.names
    (form_of c.in_ok-first.first) c.in_ok-first.ensures.parsed c.in_ok-first.ensures.within.0 in
    fault_passed c.from_residual-in_err-second.result _ _ c.from_residual-in_err-second.ensures.1
    (fails_after _ _ _ _ _ _ _ _ _ _ first c.if-not-is_joined.ensures.1 c.in_err-second.ensures.fails)

pub chain-rest-init : goal.chain-rest-init
chain-rest-init t c =
    let first = parts_one c.args.connective c.args.condition c.args.levels c.args.tokens.now c.args.at c.in_ok-first.end c.args.names.now c.part.new.names
    (form_of c.in_ok-first.first) c.in_ok-first.ensures.parsed c.in_ok-first.ensures.within.0 in
    record {
      parts = parts_next c.args.connective c.args.condition c.args.levels c.args.tokens.now c.args.at c.in_ok-first.end c.in_ok-second.place c.args.names.now
          c.part.new.names c.part-2.new.names (form_of c.in_ok-first.first ∷ []) _ (form_of c.in_ok-second.second) first c.if-not-is_joined.ensures.1
          c.in_ok-second.ensures.names c.in_ok-second.ensures.parsed c.in_ok-second.ensures.within.0
          (ap (λ es. form_of c.in_ok-first.first ∷ form_of c.in_ok-second.second ∷ map form_of es) c.new.ensures.items);
      names = extends_on _ _ _ c.in_ok-first.ensures.names c.in_ok-second.ensures.names;
      within = c.in_ok-second.ensures.within.1;
    }

pub chain-returns-in_err-next-clause-fails : goal.chain-returns-in_err-next-clause-fails
chain-returns-in_err-next-clause-fails t c =
    fault_passed c.from_residual-in_err-next.result _ _ c.from_residual-in_err-next.ensures.1
    (fails_after _ _ _ _ _ _ _ _ _ _ c.rest.invariant.parts c.rest-test.ensures.1 c.in_err-next.ensures.fails)

pub chain-rest-preserved : goal.chain-rest-preserved
chain-rest-preserved t c =
    let parts = c.rest.parts in
    record {
      parts = parts_next c.args.connective c.args.condition c.args.levels c.args.tokens.now c.args.at c.rest.place c.in_ok-next.end c.args.names.now
          c.rest.names c.part-in-rest.new.names (map form_of (parts_of parts)) _ (form_of c.in_ok-next.next) c.rest.invariant.parts c.rest-test.ensures.1
          c.in_ok-next.ensures.names c.in_ok-next.ensures.parsed c.in_ok-next.ensures.within.0
          (ap (λ es. form_of parts.first ∷ form_of parts.second ∷ map form_of es) c.in_ok-push.ensures.items
          ∙ ap (λ fs. form_of parts.first ∷ form_of parts.second ∷ fs) (map-append form_of parts.rest.items (c.in_ok-next.next ∷ [])));
      names = extends_on _ _ _ c.rest.invariant.names c.in_ok-next.ensures.names;
      within = c.in_ok-next.ensures.within.1;
    }

pub chain-returns-clause-parsed : goal.chain-returns-clause-parsed
chain-returns-clause-parsed t c =
    parsed_chain c.args.connective c.args.condition c.args.levels c.args.tokens.now c.args.at c.rest.place c.args.names.now c.rest.names
    (form_of c.rest.parts.first) (form_of c.rest.parts.second) (form_of c.connected.result) (map form_of c.rest.parts.rest.items)
    (c.connected.ensures ∙ ap (λ (p : Parts). connected c.args.connective (forms (map form_of (parts_of p)))) c.in_ok-new.ensures.ok) c.rest.invariant.parts c.rest-test.ensures

pub chain-returns-in_err-push-clause-fails : goal.chain-returns-in_err-push-clause-fails
chain-returns-in_err-push-clause-fails t c =
    let p = c.rest.invariant.parts in
    fault_passed c.from_residual-in_err-push.result _ Memory c.from_residual-in_err-push.ensures.1 (operand_in _ (spell p.tree) _ p.whole (chain_operand p.tree))

pub chain-returns-in_err-new-clause-fails : goal.chain-returns-in_err-new-clause-fails
chain-returns-in_err-new-clause-fails t c =
    let p = c.rest.invariant.parts in
    fault_passed c.from_residual-in_err-new.result _ Memory c.from_residual-in_err-new.ensures.1 (operand_in _ (spell p.tree) _ p.whole (chain_operand p.tree))

pub negation-returns-in_err-operand-clause-fails : goal.negation-returns-in_err-operand-clause-fails
negation-returns-in_err-operand-clause-fails t c =
    fault_passed c.from_residual.result _ _ c.from_residual.ensures.1 (fails_bang_at _ _ _ _ c.if-levels-eq0.false c.if-is_op.ensures.1 c.in_err-operand.ensures.fails)

pub negation-returns-in_err-inner-clause-fails : goal.negation-returns-in_err-inner-clause-fails
negation-returns-in_err-inner-clause-fails t c =
    fault_passed c.from_residual-in_err-inner.result _ _ c.from_residual-in_err-inner.ensures.1 (fails_group_at _ _ _ _ c.if-levels-eq0-2.false c.if-is_op-2.ensures.1 c.in_err-inner.ensures.fails)

pub negation-returns-then-is_op-clause-parsed : goal.negation-returns-then-is_op-clause-parsed
negation-returns-then-is_op-clause-parsed t c =
    parsed_bang _ _ _ _ _ _ _ _ _ c.if-levels-eq0.false c.if-is_op.ensures.1 c.in_ok-negated.ensures c.in_ok-operand.ensures.parsed

pub negation-returns-then-not-is_op-clause-fails : goal.negation-returns-then-not-is_op-clause-fails
negation-returns-then-not-is_op-clause-fails t c =
    unclosed_at _ _ _ _ _ _ _ _ c.if-levels-eq0-2.false c.if-is_op-2.ensures.1 c.in_ok-inner.ensures.parsed c.if-not-is_op.ensures

pub negation-returns-then-is_op-2-clause-parsed : goal.negation-returns-then-is_op-2-clause-parsed
negation-returns-then-is_op-2-clause-parsed t c =
    parsed_group _ _ _ _ _ _ _ _ _ c.if-levels-eq0-2.false c.if-is_op-2.ensures.1 c.in_ok-inner.ensures.parsed c.if-not-is_op.ensures.1

pub part-returns-in-And-clause-parsed : goal.part-returns-in-And-clause-parsed
part-returns-in-And-clause-parsed t c =
    let ts = terminals_from c.args.tokens.now in
    rw c.in-And.is (IfOk-weaker _ _ _ (λ (r : Expr × ℕ). parsed_negation c.args.condition c.args.levels (ts c.args.at) (ts r.1)
    c.args.names.now c.negation.new.names (form_of r.0)) c.negation.ensures.parsed)

pub part-returns-in-And-clause-fails : goal.part-returns-in-And-clause-fails
part-returns-in-And-clause-fails t c =
    rw c.in-And.is (IfErr-weaker _ _ _ (λ f h. fails_negation f c.args.levels (terminals_from c.args.tokens.now c.args.at) h) c.negation.ensures.fails)

pub part-returns-in-Or-clause-parsed : goal.part-returns-in-Or-clause-parsed
part-returns-in-Or-clause-parsed t c =
    let ts = terminals_from c.args.tokens.now in
    rw c.in-Or.is (IfOk-weaker _ _ _ (λ (r : Expr × ℕ). parsed_conjunction c.args.condition c.args.levels (ts c.args.at) (ts r.1)
    c.args.names.now c.chain.new.names (form_of r.0)) c.chain.ensures.parsed)

pub part-returns-in-Or-clause-fails : goal.part-returns-in-Or-clause-fails
part-returns-in-Or-clause-fails t c =
    rw c.in-Or.is (IfErr-weaker _ _ _ (λ f h. fails_conjunction f c.args.levels (terminals_from c.args.tokens.now c.args.at) h) c.chain.ensures.fails)

pub negation-returns-in_err-negated-clause-fails : goal.negation-returns-in_err-negated-clause-fails
negation-returns-in_err-negated-clause-fails t c =
    let p = c.in_ok-operand.ensures.parsed in
    fault_passed c.from_residual-in_err-negated.result _ Memory c.from_residual-in_err-negated.ensures.1
    (operand_on _ (Bang ∷ []) _ c.if-is_op.ensures.1 (operand_in _ (spell_not p.tree) _ p.whole (not_operand p.tree)))

pub negation-relation-requires : goal.negation-relation-requires
negation-relation-requires t c = record { no_op = (c.if-is_op.ensures, c.if-is_op-2.ensures) }

pub negation-returns-clause-parsed : goal.negation-returns-clause-parsed
negation-returns-clause-parsed t c =
    let ts = terminals_from c.args.tokens.now in
    let k = c.args.levels in
    IfOk-weaker c.relation.result (λ (r : Expr × ℕ). (n : ℕ) → ParsedNot c.args.condition n (ts c.args.at) (ts r.1) c.args.names.now c.relation.new.names (form_of r.0))
    (λ (r : Expr × ℕ). ParsedNot c.args.condition k (ts c.args.at) (ts r.1) c.args.names.now c.relation.new.names (form_of r.0)) (λ r p. p k) c.relation.ensures.parsed

pub negation-returns-clause-fails : goal.negation-returns-clause-fails
negation-returns-clause-fails t c =
    let ts = terminals_from c.args.tokens.now c.args.at in
    let k = c.args.levels in
    IfErr-weaker c.relation.result (λ f. (n : ℕ) → FailsNot f n ts) (λ f. FailsNot f k ts) (λ f p. p k) c.relation.ensures.fails
