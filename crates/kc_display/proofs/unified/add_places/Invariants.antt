-- The lines at the places so far were added.
use Rattle.kc_display.specs.Places.{AddsAll}
use Rattle.kc_display.proofs.unified.add_places.Given as goal

abbrev pub invariant-loop-k : goal.invariant-loop-k
invariant-loop-k l = AddsAll l.edits l.k l.initial.page l.page
