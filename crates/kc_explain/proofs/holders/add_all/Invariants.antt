-- The symbols so far were added.
use Rattle.std.proofs.Common.{◌≡◌, ◌++◌, List, take}
use Rattle.kc_language.specs.Symbols.{all_added}
use Rattle.kc_language.specs.declared.expressions.SymId.{SymId}
use Rattle.kc_explain.proofs.holders.add_all.Given as goal

abbrev pub invariant-loop-id : goal.invariant-loop-id
invariant-loop-id l = record {
  seen : l.seen ≡ all_added l.fn.seen (take l.id-index l.found);
  next : (before : List SymId) → l.fn.seen ≡ before ++ l.fn.next.items → l.seen ≡ before ++ l.next.items;
}
