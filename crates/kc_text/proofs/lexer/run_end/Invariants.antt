-- What holds at each turn of the loops of `run_end`.
use Rattle.std.proofs.Common.{◌≢◌, ℕ, ◌-◌, ◌<◌, ◌≤◌, List, get_or, length}
use Rattle.kc_text.proofs.lexer.run_end.Given as goal

-- from one place up to another no byte's place in the map holds a comma
pub record IsRun (bytes map : List ℕ) (start n : ℕ) : Type 0 where
  pub order : start ≤ n
  pub within : n ≤ length bytes
  pub passes : (k : ℕ) → start ≤ k → k < n → get_or map (get_or bytes k 0) 0 ≢ 44

abbrev pub invariant-fours : goal.invariant-fours
invariant-fours l = IsRun l.bytes l.map l.at l.n

abbrev pub decreases-fours : goal.decreases-fours
decreases-fours l = length l.bytes - l.n

abbrev pub invariant-ones : goal.invariant-ones
invariant-ones l = IsRun l.bytes l.map l.at l.n

abbrev pub decreases-ones : goal.decreases-ones
decreases-ones l = length l.bytes - l.n
