-- The lines of the warnings so far were added.
use Rattle.std.proofs.Common.{◌≡◌, ◌++◌, map, take}
use Rattle.std.specs.List.{flat_map}
use Rattle.kc_diagnostics.specs.Warnings.{owned_warning}
use Rattle.kc_language.specs.Symbols.{warning_line}
use Rattle.kc_outcome.specs.Outcome.{lines_text}
use Rattle.kc_conf.proofs.compute.add_warnings.Given as goal

abbrev pub invariant-loop-warning : goal.invariant-loop-warning
invariant-loop-warning l =
    l.text.items ≡ l.fn.text.items
    ++ lines_text (map (λ w. flat_map (λ part. part.now) l.lead ++ warning_line (owned_warning w)) (take l.warning-index l.warnings))
