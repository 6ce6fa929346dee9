use Rattle.std.proofs.Common.{◌≡◌, ◌++◌, take}
use Rattle.std.specs.Prelude.{flat_map}
use Rattle.kc_load.specs.PartsOfOutcome.{prerequisite}
use Rattle.kc_load.proofs.rule.add_prerequisites.Given as goal

-- the files so far are added
abbrev pub invariant-loop-i : goal.invariant-loop-i
invariant-loop-i l = l.text.items ≡ l.fn.text.items ++ flat_map prerequisite (take l.i l.files)
