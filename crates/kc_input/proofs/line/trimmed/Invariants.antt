use Rattle.std.proofs.Common.{◌≡◌, ℕ, ◌≤◌, ◌<◌, length, get_or, true}
use Rattle.kc_language.specs.Tokens.{is_blank}
use Rattle.kc_input.proofs.line.trimmed.Given as goal

-- only blanks stand from the end on
abbrev pub invariant-loop-end : goal.invariant-loop-end
invariant-loop-end l = (l.end ≤ length l.bytes) × ((k : ℕ) → l.end ≤ k → k < length l.bytes → is_blank (get_or l.bytes k 0) ≡ true)

abbrev pub decreases-loop-end : goal.decreases-loop-end
decreases-loop-end l = l.end
