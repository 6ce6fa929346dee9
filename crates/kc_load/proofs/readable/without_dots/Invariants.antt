use Rattle.std.proofs.Common.{◌≡◌, false, length}
use Rattle.kc_language.specs.Files.{without_dots}
use Rattle.kc_load.proofs.readable.without_dots.Given as goal

-- `./`s were passed
abbrev pub invariant-along : goal.invariant-along
invariant-along l = without_dots false l.name ≡ without_dots l.behind_dot l.rest

abbrev pub decreases-along : goal.decreases-along
decreases-along l = length l.rest
