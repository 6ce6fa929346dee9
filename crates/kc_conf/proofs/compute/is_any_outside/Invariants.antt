-- None of the warnings so far is about a value outside its range.
use Rattle.std.proofs.Common.{◌≡◌, false, take}
use Rattle.std.specs.List.{list_any}
use Rattle.kc_diagnostics.specs.Warnings.{owned_warning}
use Rattle.kc_outcome.specs.Outcome.{is_outside}
use Rattle.kc_conf.proofs.compute.is_any_outside.Given as goal

abbrev pub invariant-loop-warning : goal.invariant-loop-warning
invariant-loop-warning l = list_any (λ w. is_outside (owned_warning w)) (take l.warning-index l.warnings) ≡ false
