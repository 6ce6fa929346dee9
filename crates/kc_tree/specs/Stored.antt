-- Trusted: Numbers that are stored plus 1: 0 is none.
use Rattle.std.specs.Prelude.{ℕ, zero, suc, Option, Some, None}

abbrev pub stored : Option ℕ → ℕ
stored None = 0
stored (Some n) = suc n

abbrev pub unstored : ℕ → Option ℕ
unstored zero = None
unstored (suc n) = Some n
