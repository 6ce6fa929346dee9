use Rattle.std.specs.List.{AllByRecursion}
use Rattle.kc_language.specs.{Expressions.SymbolValue, declared.expressions.SymId.SymId}
use Rattle.kc_possible.specs.{Possible.Allows, Ranges.IsExcluded}
use Rattle.kc_possible.proofs.RangeWalks.{ranges_from}
use Rattle.kc_possible.proofs.ranges.all_exclude.Given as goal

abbrev pub invariant-loop-line : goal.invariant-loop-line
invariant-loop-line l = (known : SymId → SymbolValue) → Allows l.p known →
    AllByRecursion (IsExcluded known l.symbol_type l.text) (ranges_from l.line-items l.line-index) → AllByRecursion (IsExcluded known l.symbol_type l.text) (ranges_from l.line-items 0)
