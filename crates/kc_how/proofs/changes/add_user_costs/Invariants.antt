-- The lines of the symbols so far were added.
use Rattle.std.proofs.Common.{◌≡◌, ◌++◌, take}
use Rattle.std.specs.List.{flat_map}
use Rattle.kc_how.specs.FixCosts.{cost_line}
use Rattle.kc_how.proofs.changes.add_user_costs.Given as goal

abbrev pub invariant-loop-id : goal.invariant-loop-id
invariant-loop-id l = l.text.items ≡ l.fn.text.items ++ flat_map (cost_line l.question l.fix) (take l.id-index l.id-items)
