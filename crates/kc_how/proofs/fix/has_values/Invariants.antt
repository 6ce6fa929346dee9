use Rattle.std.proofs.Common.{Some, true, ℕ, ◌<◌, ◌≡◌}
use Rattle.kc_language.specs.{ConfigFile.place_at, Expressions.symbol, Values.{GivenValue, SymbolPlace}}
use Rattle.kc_how.specs.How.{has_value}
use Rattle.kc_how.proofs.fix.has_values.Given as goal

abbrev pub invariant-loop-number : goal.invariant-loop-number
invariant-loop-number l = (j : ℕ) (given : GivenValue) → j < l.number → place_at l.user (SymbolPlace j) ≡ Some given → has_value l.solved (symbol j) given ≡ true
