use Rattle.std.proofs.Common.{◌≡◌, ◌++◌, ◌-◌, map, take}
use Rattle.std.specs.Option.{option_copied}
use Rattle.kc_explain.specs.SourceLines.{lines_left}
use Rattle.kc_explain.proofs.source_lines.push_lines.Given as goal

-- the lines behind are still to come
abbrev pub invariant-loop-i : goal.invariant-loop-i
invariant-loop-i l =
    map (λ x. x.now) l.all.items ++ take (l.count - l._i) (lines_left (option_copied l.rest)) ≡ map (λ x. x.now) l.fn.all.items ++ take l.count (lines_left (option_copied l.from))
