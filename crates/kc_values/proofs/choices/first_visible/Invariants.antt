use Rattle.std.proofs.Common.{◌≡◌, drop}
use Rattle.kc_values.specs.TableFacts.{known_at}
use Rattle.kc_values.specs.PartsOfValues as spec
use Rattle.kc_values.proofs.choices.first_visible.Given as goal

abbrev pub invariant-loop-member : goal.invariant-loop-member
invariant-loop-member l = spec.first_visible l.table.tree.now (known_at l.table) (drop l.member-index l.members) ≡ spec.first_visible l.table.tree.now (known_at l.table) l.members
