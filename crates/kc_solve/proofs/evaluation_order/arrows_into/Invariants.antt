use Rattle.std.proofs.Common.{◌≡◌, ◌++◌, drop}
use Rattle.kc_language.specs.Needs.{arrows}
use Rattle.kc_solve.proofs.evaluation_order.arrows_into.Given as goal

abbrev pub invariant-loop-symbol : goal.invariant-loop-symbol
invariant-loop-symbol l =
    l.text.items ++ arrows l.tree (drop l.symbol-index l.symbols) ≡ l.initial.text.items ++ arrows l.tree l.symbols
