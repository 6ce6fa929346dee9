use Rattle.std.proofs.Common.{◌≤◌, ◌-◌, length}
use Rattle.kc_read.proofs.SourceSearch.{NoJoinBelow}
use Rattle.kc_read.proofs.sources.has_join.Given as goal

abbrev pub invariant-backslashes : goal.invariant-backslashes
invariant-backslashes l = record {
  within : l.at ≤ length l.file;
  none : NoJoinBelow l.file l.at;
}

abbrev pub decreases-backslashes : goal.decreases-backslashes
decreases-backslashes l = length l.file - l.at
