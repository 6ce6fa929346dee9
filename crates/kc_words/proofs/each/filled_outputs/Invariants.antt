use Rattle.std.proofs.Common.{◌≡◌, map, take}
use Rattle.kc_words.specs.Inputs.{filled_view, output_view}
use Rattle.kc_words.proofs.each.filled_outputs.Given as goal

-- the outputs so far are made
abbrev pub invariant-loop-wanted : goal.invariant-loop-wanted
invariant-loop-wanted l = map output_view l.made.items ≡ map (filled_view l.config) (take l.wanted-index l.outputs)
