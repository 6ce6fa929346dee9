use Rattle.std.proofs.Common.{length}
use Rattle.std.specs.List.{flat_map}
use Rattle.kc_language.specs.Expansion.{numbers}
use Rattle.kc_tree.specs.Places.{effects_at}
use Rattle.kc_build.specs.SelectorRows.{AreLaid}
use Rattle.kc_build.proofs.selectors.selectors_of.Given as goal

-- the lines of the entries before one are added
abbrev pub invariant-loop-i : goal.invariant-loop-i
invariant-loop-i l = AreLaid l.entries (flat_map (effects_at l.entries) (numbers l.i)) (length l.fn.symbols.items) l.symbols.items l.lines.items
