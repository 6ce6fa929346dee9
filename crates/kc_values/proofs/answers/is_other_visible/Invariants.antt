-- The members before are not.
use Rattle.std.proofs.Common.{◌≡◌, drop}
use Rattle.std.specs.List.{list_any}
use Rattle.kc_values.specs.AtTable.{is_other}
use Rattle.kc_values.proofs.answers.is_other_visible.Given as goal

abbrev pub invariant-loop-member : goal.invariant-loop-member
invariant-loop-member l = list_any (is_other l.table l.selected) (drop l.member-index l.members) ≡ list_any (is_other l.table l.selected) l.members
