use Rattle.std.proofs.Common.{◌≡◌, drop, map}
use Rattle.kc_outcome.specs.Outcome.{near_text}
use Rattle.kc_language.specs.Values.{name}
use Rattle.kc_explain.specs.NearNames.{with_each}
use Rattle.kc_explain.proofs.names.near_text.Given as goal

-- the names of the symbols behind are still to come
abbrev pub invariant-loop-i : goal.invariant-loop-i
invariant-loop-i l = with_each l.asked l.text.items (map (name l.tree) (drop l.i l.tree.defined)) ≡ near_text l.tree l.asked
