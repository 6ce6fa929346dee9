use Rattle.std.proofs.Common.{◌≡◌, ℕ, length}
use Rattle.kc_language.specs.Values.{name_count}
use Rattle.kc_solve.specs.Computing.{IsUnread}
use Rattle.kc_call_tests.proofs.SlowSteps.{HoldAfter, HoldUpTo}
use Rattle.kc_call_tests.proofs.slow.slow_table.Given as goal

abbrev pub invariant-loop-iteration : goal.invariant-loop-iteration
invariant-loop-iteration l = record {
  tree : l.table.tree.now ≡ l.laid.tree.now;
  count : length l.table.values ≡ name_count l.laid.tree.now;
  hold : HoldAfter l.laid.tree.now l.given l.chosen l._iteration l.table.values;
  unread : (s : ℕ) → IsUnread l.table s;
}

abbrev pub invariant-loop-i : goal.invariant-loop-i
invariant-loop-i l = record {
  tree : l.table.tree.now ≡ l.laid.tree.now;
  count : length l.table.values ≡ name_count l.laid.tree.now;
  hold : HoldUpTo l.laid.tree.now l.given l.chosen l._iteration l.i l.table.values;
  unread : (s : ℕ) → IsUnread l.table s;
}
