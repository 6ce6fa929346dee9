-- The texts of the outputs so far were made.
use Rattle.std.proofs.Common.{◌≡◌, map, take}
use Rattle.kc_io.specs.Delivered.{text_view}
use Rattle.kc_conf.specs.Computed.{named_from}
use Rattle.kc_conf.proofs.compute.texts_of.Given as goal

abbrev pub invariant-loop-wanted : goal.invariant-loop-wanted
invariant-loop-wanted l =
    map text_view l.texts.items ≡ map (named_from l.options l.basis) (take l.wanted-index l.options.outputs.items)
