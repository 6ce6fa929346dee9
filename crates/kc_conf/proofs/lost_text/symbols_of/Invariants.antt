-- The symbols so far.
use Rattle.std.proofs.Common.{◌≡◌, map, take}
use Rattle.kc_conf.proofs.lost_text.symbols_of.Given as goal

abbrev pub invariant-loop-value : goal.invariant-loop-value
invariant-loop-value l = l.symbols.items ≡ map (λ v. v.symbol) (take l.value-index l.lost)
