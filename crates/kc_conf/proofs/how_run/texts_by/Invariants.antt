-- The text was made for the outputs so far.
use Rattle.std.proofs.Common.{◌≡◌, ◌++◌, map, take}
use Rattle.kc_io.specs.Delivered.{text_view}
use Rattle.kc_conf.specs.How.{heading}
use Rattle.kc_conf.specs.HowParts.{named_with}
use Rattle.kc_conf.proofs.how_run.texts_by.Given as goal

abbrev pub invariant-loop-wanted : goal.invariant-loop-wanted
invariant-loop-wanted l =
    map text_view l.texts.items ≡ map (named_with (heading l.options ++ l.text)) (take l.wanted-index l.options.outputs.items)
