-- The lines so far.
use Rattle.std.proofs.Common.{◌≡◌, ◌≤◌, ◌++◌, length, map, take}
use Rattle.kc_explain.specs.FactLists.{shown}
use Rattle.kc_explain.specs.LineViews.{target_view}
use Rattle.kc_explain.specs.RaiseFacts.{IsValueOf, all_raised, not_raising}
use Rattle.kc_explain.proofs.raises.add_all_raised.Given as goal

abbrev pub invariant-loop-target : goal.invariant-loop-target
invariant-loop-target l = record {
  last : IsValueOf l.t l.last;
  facts : shown l.t l.facts.items ≡ shown l.t l.fn.facts.items ++ all_raised l.t l.fn.word (map (target_view l.t.layout.now) (take l.target-index l.targets));
  count : l.count ≡ length (not_raising l.t (map (target_view l.t.layout.now) (take l.target-index l.targets)));
  bound : l.count ≤ l.target-index;
}
