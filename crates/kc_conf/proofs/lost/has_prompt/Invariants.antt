-- The definitions from here on are those that decide, and each of them is one of the symbol.
use Rattle.std.proofs.Common.{◌≡◌, length}
use Rattle.kc_tree.specs.Layouts.{definitions_at}
use Rattle.kc_tree.proofs.LayoutWalks.{IsDefinitionAt}
use Rattle.kc_conf.proofs.PromptLemmas.{has_from}
use Rattle.kc_conf.proofs.lost.has_prompt.Given as goal

abbrev pub invariant-definitions : goal.invariant-definitions
invariant-definitions l = record {
  same : has_from l.layout l.fn.id l.at.0 ≡ has_from l.layout l.fn.id l.fn.symbol.first.0;
  defines : IsDefinitionAt l.layout l.fn.id l.at.0;
}

abbrev pub decreases-definitions : goal.decreases-definitions
decreases-definitions l = length (definitions_at l.layout l.fn.id l.at.0)
