-- Trusted: What lies between two truth values.
use Rattle.std.specs.Prelude.{Bool, not, true, ◌&&◌, ◌≡◌}
use Rattle.kc_language.specs.{Values.above, declared.expressions.Tri.Tri}
use Rattle.kc_possible.specs.declared.bounds.Bounds.{Bounds}

abbrev pub is_between : Bounds → Tri → Bool
is_between b t = not (above b.low t) && not (above t b.high)

abbrev pub IsWithin : Bounds → Tri → Type 0
IsWithin b t = is_between b t ≡ true
