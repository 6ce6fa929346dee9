use Rattle.std.proofs.Common.{◌≡◌, ℕ, ◌<◌, List, length, map, ap, arith, ◌∙◌}
use Rattle.std.specs.Prelude.{All, slice_index_or}
use Rattle.std.specs.List.{Contains, range_with_len}
use Rattle.std.proofs.lemmas.List.FromFn.{get_or-map-range_with_len, length-map-range_with_len}
use Rattle.kc_call_tests.proofs.order.order_if_within.Goals as goal

-- the numbers below n are those below n
below_all : (n : ℕ) (xs : List ℕ) → xs ≡ map (λ k. k) (range_with_len 0 n) → All (λ s. s < n) xs
below_all n xs are k d inside =
    let below : k < n = omega (arith, inside, ap length are, length-map-range_with_len {X = ℕ} (λ j. j) 0 n) in
    let at : slice_index_or xs k d ≡ k = ap (λ ys. slice_index_or ys k d) are ∙ get_or-map-range_with_len {X = ℕ} (λ j. j) 0 n k k d below (omega arith) in
    omega (arith, at, below)

all_below : (n : ℕ) (xs : List ℕ) (s : ℕ) → xs ≡ map (λ k. k) (range_with_len 0 n) → s < n → Contains xs s
all_below n xs s are below =
    let inside : s < length xs = omega (arith, below, ap length are, length-map-range_with_len {X = ℕ} (λ j. j) 0 n) in
    (s, inside, ap (λ ys. slice_index_or ys s s) are ∙ get_or-map-range_with_len {X = ℕ} (λ j. j) 0 n s s s below (omega arith))

pub order_of-requires-clause-sequence : goal.order_of-requires-clause-sequence
order_of-requires-clause-sequence c =
    below_all c.args.graph.symbols c.deref.result.now
    (c.deref.ensures.value ∙ c.in_ok-sequence.ensures ∙ ap (λ n. map (λ k. k) (range_with_len 0 n)) c.symbols.ensures)

pub order_of-requires-clause-needing : goal.order_of-requires-clause-needing
order_of-requires-clause-needing c = λ s below needing.
    all_below c.args.graph.symbols c.deref.result.now s
    (c.deref.ensures.value ∙ c.in_ok-sequence.ensures ∙ ap (λ n. map (λ k. k) (range_with_len 0 n)) c.symbols.ensures) below
