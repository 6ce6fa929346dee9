use Rattle.std.proofs.Common.{take, true, ◌||◌, ◌≡◌}
use Rattle.std.specs.{List.list_all, Prelude.not}
use Rattle.kc_how.specs.How.{is_in_conflict}
use Rattle.kc_how.proofs.fix.adds_no_conflict.Given as goal

abbrev pub invariant-loop-id : goal.invariant-loop-id
invariant-loop-id l = list_all (λ s. is_in_conflict l.before s || not (is_in_conflict l.solved s)) (take l.id-index l.id-items) ≡ true
