-- Trusted: What options require.
use Rattle.std.specs.Prelude.{ℕ, zero, suc, Bool, false}

-- only the first input file may be missing
abbrev pub may_at : Bool → ℕ → Bool
may_at may zero = may
may_at may (suc i) = false
