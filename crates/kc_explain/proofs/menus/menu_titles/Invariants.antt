-- The titles of the menus so far.
use Rattle.std.proofs.Common.{◌≡◌, map, take}
use Rattle.std.specs.List.{flat_map}
use Rattle.kc_tree.specs.Layouts.{statements_in}
use Rattle.kc_explain.specs.LineViews.{at_entry}
use Rattle.kc_explain.specs.SymbolTexts.{titles_at}
use Rattle.kc_explain.proofs.menus.menu_titles.Given as goal

abbrev pub invariant-loop-block : goal.invariant-loop-block
invariant-loop-block l = map (λ t. t.now) l.all.items ≡ flat_map (at_entry l.layout (titles_at (statements_in l.layout))) (take l.block-index l.around)
