-- What is left of the places follows.
use Rattle.std.proofs.Common.{◌≡◌, ◌++◌, length, map}
use Rattle.kc_hints.specs.Facts.{joined}
use Rattle.kc_hints.specs.RangeParts.{place_view}
use Rattle.kc_hints.proofs.ranges.add_places.Given as goal

abbrev pub invariant-places : goal.invariant-places
invariant-places l = l.text.items ++ joined (map place_view l.rest) ≡ l.fn.text.items ++ joined (map place_view l.places)

abbrev pub decreases-places : goal.decreases-places
decreases-places l = length l.rest
