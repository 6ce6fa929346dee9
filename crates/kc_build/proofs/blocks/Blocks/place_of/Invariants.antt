use Rattle.std.proofs.Common.{◌≡◌, ◌+◌, drop}
use Rattle.kc_tree.specs.EntryViews.{statements_of}
use Rattle.kc_build.specs.Standing.{all_noted, own_place}
use Rattle.kc_build.proofs.blocks.Blocks.place_of.Given as goal

abbrev pub invariant-loop-j : goal.invariant-loop-j
invariant-loop-j l = own_place l.self l.at l.lines ≡ all_noted l.at l.visible (l.start + l.j) (drop l.j (statements_of l.lines.attributes.now)) l.place
