-- An entry that is not there depends on nothing.
use Rattle.std.proofs.Common.{ap, map}
use Rattle.kc_explain.specs.PartViews.{part_view}
use Rattle.kc_explain.proofs.PartLemmas.{dependency-none}
use Rattle.kc_explain.proofs.parts.dependency_parts.Goals as goal

pub returns-in-None : goal.returns-in-None
returns-in-None c = dependency-none c.args.layout.now c.args.entry.0 _ c.in-None.ensures.first (ap (map part_view) c.new.ensures.items)
