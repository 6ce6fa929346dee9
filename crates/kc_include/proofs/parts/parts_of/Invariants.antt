use Rattle.std.proofs.Common.{◌≤◌, ◌-◌, length, map}
use Rattle.kc_include.specs.PartView.{IsCut, part_of}
use Rattle.kc_include.proofs.parts.parts_of.Given as goal

-- the lines so far
abbrev pub invariant-lines : goal.invariant-lines
invariant-lines l = record {
  within : l.at ≤ length l.text;
  counted : l.number ≤ l.at;
  so_far : IsCut l.text (map part_of l.cut.parts.items) l.cut.start l.cut.first l.at l.number;
}

abbrev pub decreases-lines : goal.decreases-lines
decreases-lines l = length l.text - l.at
