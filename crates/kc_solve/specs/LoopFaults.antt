-- For proofs: Why there is no order.
use Rattle.kc_language.specs.{Needs.IsLoopText, Symbols.TreeFacts}
use Rattle.kc_solve.specs.declared.evaluation_order.LoopFault.{LoopFault, TheVariants.{Loop, Memory}}

-- if memory is not the cause, the fault names the loop
abbrev pub NamesTheLoop : TreeFacts → LoopFault → Type 0
NamesTheLoop tree (Loop text) = IsLoopText tree text.items
NamesTheLoop tree Memory = Unit {0}
