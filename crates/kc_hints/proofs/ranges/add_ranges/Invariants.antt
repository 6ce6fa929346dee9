-- The range lines so far were added.
use Rattle.std.proofs.Common.{◌≡◌, ◌++◌, map, take}
use Rattle.std.specs.List.{flat_map}
use Rattle.kc_hints.specs.RangeParts.{place_if, place_view}
use Rattle.kc_hints.proofs.ranges.add_ranges.Given as goal

abbrev pub invariant-loop-next : goal.invariant-loop-next
invariant-loop-next l = map place_view l.places.items ≡ map place_view l.fn.places.items ++ flat_map (place_if l.first) (take l.next-index l.attributes)
