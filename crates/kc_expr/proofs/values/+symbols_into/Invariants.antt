-- The invariants and measures of `symbols_into`.
use Rattle.std.proofs.Common.{List, take, ◌++◌, ◌≡◌}
use Rattle.kc_language.specs.{Expressions.symbols, declared.expressions.SymId.SymId}
use Rattle.kc_expr.specs.Form.{form_of}
use Rattle.kc_expr.proofs.FormLemmas.{symbols_of_all}
use Rattle.kc_expr.proofs.values.+symbols_into.Given as goal

abbrev pub invariant-loop-part : goal.invariant-loop-part
invariant-loop-part l = record {
  before : List SymId;
  so_far : l.out.items ≡ l.fn.out.items ++ (before ++ symbols_of_all l.modules (take l.part-index l.part-items));
  all : symbols l.modules (form_of l.e) ≡ before ++ symbols_of_all l.modules l.part-items;
}
