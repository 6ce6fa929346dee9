-- The symbols so far whose names are no numbers.
use Rattle.std.proofs.Common.{◌≡◌, filter, not, take}
use Rattle.kc_outcome.specs.Explanations.{is_number_word}
use Rattle.kc_explain.proofs.holders.without_numbers.Given as goal

abbrev pub invariant-loop-id : goal.invariant-loop-id
invariant-loop-id l = l.all.items ≡ filter (λ s. not (is_number_word l.t.input.now l.t.solved.now s)) (take l.id-index l.found)
