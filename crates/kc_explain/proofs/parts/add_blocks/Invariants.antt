-- What the blocks so far ask was added.
use Rattle.std.proofs.Common.{◌≡◌, ◌++◌, map, take}
use Rattle.std.specs.List.{flat_map}
use Rattle.kc_explain.specs.LineViews.{at_entry, lines_of}
use Rattle.kc_explain.specs.PartViews.{part_view}
use Rattle.kc_explain.specs.PartsOfExplanations.{block_parts}
use Rattle.kc_explain.proofs.parts.add_blocks.Given as goal

abbrev pub invariant-loop-block : goal.invariant-loop-block
invariant-loop-block l = map part_view l.parts.items ≡ map part_view l.fn.parts.items ++ flat_map (at_entry l.layout (block_parts (lines_of l.layout))) (take l.block-index l.around)
