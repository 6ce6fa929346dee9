-- each name so far is that of a symbol
use Rattle.std.proofs.Common.{◌≡◌, drop, map, not, is_some, string_bytes}
use Rattle.std.specs.Prelude.{find}
use Rattle.kc_outcome.specs.Explanations.{asked_symbol}
use Rattle.kc_outcome.specs.Outcome.{unknown_name}
use Rattle.kc_conf.proofs.names.unknown_asked.Given as goal

abbrev pub invariant-loop-asked : goal.invariant-loop-asked
invariant-loop-asked l =
    unknown_name l.options l.tree ≡ find (λ name. not (is_some (asked_symbol l.tree l.options.prefix.prefix name))) (map string_bytes (drop l.asked-index l.options.explain.items))
