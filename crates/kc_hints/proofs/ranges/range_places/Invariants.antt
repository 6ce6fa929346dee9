-- The range lines of the entries behind follow.
use Rattle.std.proofs.Common.{◌≡◌, ◌++◌, ◌-◌, length, map}
use Rattle.kc_entries.specs.Entries.{lines_from, lines_in}
use Rattle.kc_hints.specs.Facts.{range_places}
use Rattle.kc_hints.specs.RangeParts.{place_view}
use Rattle.kc_hints.proofs.ranges.range_places.Given as goal

abbrev pub invariant-entries : goal.invariant-entries
invariant-entries l = map place_view l.places.items ++ range_places l.id (lines_from l.entries l.at) ≡ range_places l.id (lines_in l.entries)

abbrev pub decreases-entries : goal.decreases-entries
decreases-entries l = length l.entries.first_lines.items - l.at
