use Rattle.std.proofs.Common.{◌≡◌, ◌++◌, take, map, nat_lt}
use Rattle.std.specs.Prelude.{filter}
use Rattle.kc_language.specs.declared.expressions.SymId.{SymId}
use Rattle.kc_values.proofs.needs.close_row.Given as goal

abbrev pub invariant-loop-name : goal.invariant-loop-name
invariant-loop-name l =
    l.row.1.0.items ≡ l.initial.row.1.0.items ++ map (λ (s : SymId). s.0) (filter (λ (s : SymId). nat_lt s.0 l.count) (take l.name-index l.name-items))
