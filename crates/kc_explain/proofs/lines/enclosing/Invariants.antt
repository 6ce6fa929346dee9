-- The blocks so far, and those that are left.
use Rattle.std.specs.List.{flat_map}
use Rattle.kc_language.specs.Expansion.{enclosing}
use Rattle.kc_language.specs.Symbols.{listed}
use Rattle.kc_tree.specs.Layouts.{index_at, statements_in}
use Rattle.kc_explain.proofs.WalkLemmas.{Leaves}
use Rattle.kc_explain.proofs.lines.enclosing.Given as goal

abbrev pub invariant-around : goal.invariant-around
invariant-around l = Leaves l.layout (flat_map (enclosing (statements_in l.layout)) (listed (index_at l.layout l.fn.entry.0))) l.at.0 l.all.items

abbrev pub decreases-around : goal.decreases-around
decreases-around l = l.at.0
