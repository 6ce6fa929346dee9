use Rattle.std.proofs.Common.{◌≡◌, ◌-◌, length, take, drop}
use Rattle.kc_language.specs.ConfigFile.{until_quote}
use Rattle.kc_input.specs.PartsOfConfigFile.{preceded}
use Rattle.kc_input.proofs.value.until_quote.Given as goal

-- nothing before l.at ends the text
abbrev pub invariant-bytes : goal.invariant-bytes
invariant-bytes l = preceded (take l.at l.body) (until_quote (drop l.at l.body)) ≡ until_quote l.body

abbrev pub decreases-bytes : goal.decreases-bytes
decreases-bytes l = length l.body - l.at
