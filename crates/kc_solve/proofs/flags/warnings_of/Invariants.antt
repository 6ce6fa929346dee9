use Rattle.std.proofs.Common.{◌≡◌, flat_map, map, take}
use Rattle.kc_diagnostics.specs.Warnings.{owned_warning}
use Rattle.kc_language.specs.ConfigFile.{place_at}
use Rattle.kc_values.specs.PartsOfTexts.{warnings_at}
use Rattle.kc_solve.specs.Flags.{values_in}
use Rattle.kc_solve.proofs.flags.warnings_of.Given as goal

abbrev pub invariant-loop-id : goal.invariant-loop-id
invariant-loop-id l = map owned_warning l.warnings.items ≡ flat_map (λ s. warnings_at l.table.tree.now (place_at l.user) (values_in l.table) s.0) (take l.id-index l.id-items)
