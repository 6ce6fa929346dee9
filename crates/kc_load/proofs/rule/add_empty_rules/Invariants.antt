use Rattle.std.proofs.Common.{◌≡◌, ◌++◌, take}
use Rattle.std.specs.Prelude.{flat_map}
use Rattle.kc_load.specs.PartsOfOutcome.{empty_rule}
use Rattle.kc_load.proofs.rule.add_empty_rules.Given as goal

-- the files so far are added
abbrev pub invariant-loop-i : goal.invariant-loop-i
invariant-loop-i l = l.text.items ≡ l.fn.text.items ++ flat_map empty_rule (take l.i l.files)
