-- The symbols so far were counted.
use Rattle.std.proofs.Common.{◌≡◌, ◌≤◌, take}
use Rattle.kc_how.specs.FixCosts.{other_count}
use Rattle.kc_how.proofs.changes.count_others.Given as goal

abbrev pub invariant-loop-id : goal.invariant-loop-id
invariant-loop-id l = record {
  counted : l.count ≡ other_count l.question l.fix (take l.id-index l.id-items);
  bound : l.count ≤ l.id-index;
}
