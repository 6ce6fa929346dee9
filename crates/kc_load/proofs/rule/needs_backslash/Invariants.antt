use Rattle.std.proofs.Common.{◌≡◌, length}
use Rattle.kc_language.specs.Files.{needs_backslash}
use Rattle.kc_load.proofs.rule.needs_backslash.Given as goal

-- `\`s were passed
abbrev pub invariant-along : goal.invariant-along
invariant-along l = needs_backslash l.at l.bytes ≡ needs_backslash l.at l.rest

abbrev pub decreases-along : goal.decreases-along
decreases-along l = length l.rest
