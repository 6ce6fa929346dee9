-- What holds at each turn of the loop of `line_feed_at`.
use Rattle.std.proofs.Common.{◌-◌, ◌≤◌, length}
use Rattle.bstr.specs.Find.{Nowhere, Passes}
use Rattle.kc_language.specs.Lines.{is_line_feed}
use Rattle.kc_text.proofs.physical.line_feed_at.Given as goal

abbrev pub invariant-lanes : goal.invariant-lanes
invariant-lanes l = record { within : l.at ≤ length l.rest; none : Nowhere (Passes is_line_feed l.rest) 0 l.at }

abbrev pub decreases-lanes : goal.decreases-lanes
decreases-lanes l = length l.rest - l.at
