use Rattle.kc_build.proofs.SymbolLemmas.{AreGiven, AreGivenUp}
use Rattle.kc_build.proofs.symbols.give_choices.Given as goal

abbrev pub invariant-loop-k : goal.invariant-loop-k
invariant-loop-k l = AreGiven l.choices l.fn.symbols.items l.k l.symbols.items

abbrev pub invariant-loop-member : goal.invariant-loop-member
invariant-loop-member l = AreGivenUp l.choices l.fn.symbols.items l.member-items l.k l.member-index l.symbols.items
