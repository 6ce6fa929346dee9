-- At most three names were found, and those that are found among the names behind follow.
use Rattle.std.proofs.Common.{◌≡◌, ◌++◌, ◌≤◌, drop, length, map, take}
use Rattle.std.specs.Option.{option_copied}
use Rattle.kc_hints.specs.Near.{most_names, near_from, near_names}
use Rattle.kc_hints.proofs.near.near_names.Given as goal

abbrev pub invariant-loop-i : goal.invariant-loop-i
invariant-loop-i l = record {
  found : take most_names (map (λ name. name.now) l.found.items ++ near_from l.tree (option_copied l.told) l.asked l.i (drop l.i l.tree.names)) ≡ near_names l.tree (option_copied l.told) l.asked;
  few : length l.found.items ≤ most_names;
}
