-- What the check left open in `relation`.
use Rattle.std.proofs.Common.{ap, arith, length, ℕ, ◌+◌, ◌<◌, ◌∙◌, ◌∷◌, ◌≡◌, ◌≤◌}
use Rattle.kc_expr.specs.{Grammar.terminals_from, Reading.{FailsNot, starts_operand}, declared.parse.ExprFault.TheVariants.Memory}
use Rattle.kc_language.specs.Expressions.{Compares, OperandToken}
use Rattle.kc_expr.proofs.{NamesLemmas.extends_on, OperandLemmas.{is_memory, memory_at, memory_not, operand_here}, ParseLemmas.{fault_passed, no_left, no_right_side, parsed_compare, parsed_lone}}
use Rattle.kc_expr.proofs.parse.relation.Goals as goal

pub returns-in_default-clause-fails : goal.returns-in_default-clause-fails
returns-in_default-clause-fails c =
    no_left _ (rw c.in_default.is at c.in_ok-left.ensures.reads) c.requires.no_op.0 c.requires.no_op.1

pub returns-in_default-relation_op-clause-parsed : goal.returns-in_default-relation_op-clause-parsed
returns-in_default-relation_op-clause-parsed c =
    let left = rw c.in-Some.is at c.in_ok-left.ensures.reads in
    parsed_lone _ _ _ _ _ left.atom _ _ left.next c.in_default-relation_op.ensures left.mentions left.leaf_is c.lone_expression.ensures

pub returns-in_default-2-clause-fails : goal.returns-in_default-2-clause-fails
returns-in_default-2-clause-fails c =
    let left = rw c.in-Some.is at c.in_ok-left.ensures.reads in
    let right = rw c.in_default-2.is at c.in_ok-right.ensures.reads in
    let e : c.args.at + 1 + 1 ≡ c.args.at + 2 = omega arith in
    no_right_side _ _ left.atom c.in-Some-relation_op.op (left.next ∙ ap (λ l. OperandToken left.atom ∷ l) c.in-Some-relation_op.ensures.1)
    (ap (λ n. starts_operand (terminals_from c.args.tokens.now n)) e ∙ right)

pub returns-clause-parsed : goal.returns-clause-parsed
returns-clause-parsed c =
    let left = rw c.in-Some.is at c.in_ok-left.ensures.reads in
    let right = rw c.in-Some-2.is at c.in_ok-right.ensures.reads in
    let op = c.in-Some-relation_op.ensures in
    let e : c.args.at + 1 + 1 ≡ c.args.at + 2 = omega arith in
    let f : c.args.at + 2 + 1 ≡ c.args.at + 3 = omega arith in
    let third = ap (terminals_from c.args.tokens.now) e ∙ right.next ∙ ap (λ n. OperandToken right.atom ∷ terminals_from c.args.tokens.now n) f in
    let text = left.next ∙ ap (λ l. OperandToken left.atom ∷ l) (op.1 ∙ ap (λ l. Compares c.in-Some-relation_op.op ∷ l) third) in
    rw c.in_ok-operands.ensures.ok (parsed_compare _ _ _ _ _ _ left.atom right.atom c.in-Some-relation_op.op _ _ text left.mentions right.mentions left.leaf_is right.leaf_is)

pub returns-in_err-left-clause-fails : goal.returns-in_err-left-clause-fails
returns-in_err-left-clause-fails c =
    let ts = terminals_from c.args.tokens.now c.args.at in
    fault_passed c.from_residual.result (λ f. (k : ℕ) → FailsNot f k ts) _ c.from_residual.ensures.1 (λ k. memory_at _ k ts c.in_err-left.ensures.memory)

pub returns-in_err-right-clause-fails : goal.returns-in_err-right-clause-fails
returns-in_err-right-clause-fails c =
    let ts = terminals_from c.args.tokens.now c.args.at in
    let left = rw c.in-Some.is at c.in_ok-left.ensures.reads in
    fault_passed c.from_residual-in_err-right.result (λ f. (k : ℕ) → FailsNot f k ts) _ c.from_residual-in_err-right.ensures.1
    (λ k. memory_not _ k ts (is_memory _ _ c.in_err-right.ensures.memory) (operand_here ts _ left.atom left.next))

pub returns-in_err-operands-clause-fails : goal.returns-in_err-operands-clause-fails
returns-in_err-operands-clause-fails c =
    let ts = terminals_from c.args.tokens.now c.args.at in
    let left = rw c.in-Some.is at c.in_ok-left.ensures.reads in
    fault_passed c.from_residual-in_err-operands.result (λ f. (k : ℕ) → FailsNot f k ts) Memory c.from_residual-in_err-operands.ensures.1 (λ k. operand_here ts _ left.atom left.next)

-- the place after a token
one_on : (at n : ℕ) → at < n → (at ≤ at + 1) × (at + 1 ≤ n)
one_on at n h = (omega arith, omega arith)

three_on : (at n : ℕ) → at + 2 < n → (at ≤ at + 3) × (at + 3 ≤ n)
three_on at n h = (omega arith, omega arith)

pub overflow_add-at : goal.overflow_add-at
overflow_add-at c = let left = (rw c.in-Some.is at c.in_ok-left.ensures.reads).there in omega arith

pub overflow_add-result : goal.overflow_add-result
overflow_add-result c = let left = (rw c.in-Some.is at c.in_ok-left.ensures.reads).there in omega arith

pub overflow_add-at-2 : goal.overflow_add-at-2
overflow_add-at-2 c = let op = c.in-Some-relation_op.ensures.0 in omega arith

pub overflow_add-result-2 : goal.overflow_add-result-2
overflow_add-result-2 c = let right = (rw c.in-Some-2.is at c.in_ok-right.ensures.reads).there in omega arith

pub returns-in_default-relation_op-clause-within : goal.returns-in_default-relation_op-clause-within
returns-in_default-relation_op-clause-within c = one_on c.args.at (length c.args.tokens.now) (rw c.in-Some.is at c.in_ok-left.ensures.reads).there

pub returns-clause-within : goal.returns-clause-within
returns-clause-within c = three_on c.args.at (length c.args.tokens.now) (rw c.in-Some-2.is at c.in_ok-right.ensures.reads).there

pub returns-in_err-right-clause-names : goal.returns-in_err-right-clause-names
returns-in_err-right-clause-names c = extends_on c.args.names.now c.operand.new.names c.operand-2.new.names c.operand.ensures.names c.operand-2.ensures.names

pub returns-in_default-2-clause-names : goal.returns-in_default-2-clause-names
returns-in_default-2-clause-names c = extends_on c.args.names.now c.operand.new.names c.operand-2.new.names c.operand.ensures.names c.operand-2.ensures.names

pub returns-in_err-operands-clause-names : goal.returns-in_err-operands-clause-names
returns-in_err-operands-clause-names c = extends_on c.args.names.now c.operand.new.names c.operand-2.new.names c.operand.ensures.names c.operand-2.ensures.names

pub returns-clause-names : goal.returns-clause-names
returns-clause-names c = extends_on c.args.names.now c.operand.new.names c.operand-2.new.names c.operand.ensures.names c.operand-2.ensures.names
