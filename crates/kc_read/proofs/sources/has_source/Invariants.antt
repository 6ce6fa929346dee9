use Rattle.std.proofs.Common.{◌≤◌, ◌-◌, length}
use Rattle.kc_read.proofs.SourceSearch.{NoSourceBelow}
use Rattle.kc_read.proofs.sources.has_source.Given as goal

abbrev pub invariant-words : goal.invariant-words
invariant-words l = record {
  within : l.at ≤ length l.file;
  none : NoSourceBelow l.file l.at;
}

abbrev pub decreases-words : goal.decreases-words
decreases-words l = length l.file - l.at
