use Rattle.std.proofs.Common.{drop, ◌≡◌}
use Rattle.kc_load.specs.PartsOfOutcome.{first_unreadable, unreadable_of}
use Rattle.kc_load.proofs.readable.unreadable_name.Given as goal

-- make can read the names so far
abbrev pub invariant-loop-i : goal.invariant-loop-i
invariant-loop-i l = unreadable_of l.out l.files ≡ first_unreadable (drop l.i l.files)
