-- Trusted: Why there is no order.
use Rattle.std.specs.Prelude.{List, length, ℕ}
use Rattle.kc_order.specs.declared.order.NoOrder.{NoOrder, TheVariants.{Loop, Memory}}
use Rattle.kc_language.specs.Needs.{IsNamedLoop, needs_in}

-- the loop that is reported for this sequence; nothing is claimed if memory ran out
abbrev pub IsReason : List ℕ → List (List ℕ) → NoOrder → Type 0
IsReason sequence needs (Loop symbols) = IsNamedLoop sequence (length needs) (needs_in needs) symbols.items
IsReason sequence needs Memory = Unit {0}
