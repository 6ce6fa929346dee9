use Rattle.std.proofs.Common.{Some, length, ℕ, ◌≡◌}
use Rattle.std.specs.List.{slice_get}
use Rattle.kc_possible.specs.{PartsOfPossible.IsOfType, declared.bounds.Bounds.Bounds}
use Rattle.kc_values.proofs.Laid.{type_of_row}
use Rattle.kc_possible.proofs.possible.unknown.Given as goal

abbrev pub invariant-loop-row : goal.invariant-loop-row
invariant-loop-row l = record {
  count : length l.symbols.items ≡ l.row-index;
  each : (i : ℕ) (b : Bounds) → slice_get l.symbols.items i ≡ Some b → IsOfType (type_of_row (slice_get l.row-items i)) b;
}
