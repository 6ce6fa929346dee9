use Rattle.std.proofs.Common.{◌≤◌}
use Rattle.kc_tree.specs.EntryViews.{entry_count}
use Rattle.kc_build.specs.SymbolsFound.{AreLinkedFrom, AreRowsFrom, AreSamePlaces}
use Rattle.kc_build.proofs.symbols.definitions_of.Given as goal

abbrev pub invariant-entries : goal.invariant-entries
invariant-entries l = record {
  rows : AreRowsFrom l.entries l.left l.count l.symbols.items;
  same : AreSamePlaces l.fn.places.items l.places.items;
  linked : AreLinkedFrom l.entries l.left l.places.items;
  within : l.left ≤ entry_count l.entries;
}

abbrev pub decreases-entries : goal.decreases-entries
decreases-entries l = l.left
