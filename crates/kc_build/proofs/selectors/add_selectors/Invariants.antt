use Rattle.std.proofs.Common.{List, length, suc, ℕ, ◌++◌, ◌+◌, ◌≡◌, ◌≤◌}
use Rattle.kc_entries.specs.{Entries.BeginsAt, declared.entries.Entries.Entries}
use Rattle.kc_build.specs.SelectorRows.{AreLaid, effects_before}
use Rattle.kc_build.proofs.selectors.add_selectors.Given as goal

-- the lines of the attributes before one are added
abbrev pub invariant-loop-j : goal.invariant-loop-j
invariant-loop-j l = record {
  laid : (es : Entries) (e : ℕ) (pairs : List (ℕ × ℕ)) (count : ℕ) → l.entry.0 ≡ suc e → BeginsAt es e l.own → AreLaid es pairs count l.fn.symbols.items l.fn.lines.items →
      AreLaid es (pairs ++ effects_before es e l.j) count l.symbols.items l.lines.items;
  count : length l.symbols.items ≡ length l.fn.symbols.items;
  few : length l.lines.items ≤ length l.fn.lines.items + l.j;
}
