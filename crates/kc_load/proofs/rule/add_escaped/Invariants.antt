use Rattle.std.proofs.Common.{◌≡◌, ◌++◌, length}
use Rattle.kc_language.specs.Files.{escaped}
use Rattle.kc_load.proofs.rule.add_escaped.Given as goal

-- with the rest the text would be whole
abbrev pub invariant-along : goal.invariant-along
invariant-along l = l.text.items ++ escaped l.at l.rest ≡ l.fn.text.items ++ escaped l.at l.name

abbrev pub decreases-along : goal.decreases-along
decreases-along l = length l.rest
