use Rattle.std.proofs.Common.{ℕ, zero, suc, ◌<◌, [], ◌∷◌, arith, refl}
use Rattle.std.specs.List.{Contains}
use Rattle.kc_call_tests.proofs.order.order_of_two.Goals as goal

-- both numbers below 2
one_of_two : (s : ℕ) → s < 2 → Contains (1 ∷ 0 ∷ []) s
one_of_two zero below = (1, omega arith, refl)
one_of_two (suc zero) below = (0, omega arith, refl)
one_of_two (suc (suc n)) below = absurd (omega (arith, below))

pub order_of-requires-clause-needing : goal.order_of-requires-clause-needing
order_of-requires-clause-needing c = λ s below needing. one_of_two s (omega (arith, below, c.if-symbols-eq2.true, c.symbols.ensures))
