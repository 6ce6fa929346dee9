-- The titles so far were added.
use Rattle.std.proofs.Common.{◌≡◌, ◌++◌, map, take}
use Rattle.kc_explain.specs.SymbolTexts.{more_titles}
use Rattle.kc_explain.proofs.menus.add_titles.Given as goal

abbrev pub invariant-loop-title : goal.invariant-loop-title
invariant-loop-title l = l.text.items ≡ l.fn.text.items ++ more_titles (map (λ t. t.now) (take l.title-index l.titles))
