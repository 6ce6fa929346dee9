use Rattle.std.proofs.Common.{◌≡◌}
use Rattle.kc_values.proofs.ChoiceRows.{default_from}
use Rattle.kc_values.proofs.choices.first_default.Given as goal

abbrev pub invariant-loop-line : goal.invariant-loop-line
invariant-loop-line l = default_from l.table l.id.0 l.choice l.line-items l.line-index ≡ default_from l.table l.id.0 l.choice l.line-items 0
