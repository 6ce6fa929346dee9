-- A choice that is there.
use Rattle.std.proofs.Common.{None, Some}
use Rattle.kc_explain.specs.LineViews.{line_view}
use Rattle.kc_explain.proofs.PartLemmas.{mode-line}
use Rattle.kc_explain.proofs.parts.mode_part.Goals as goal

pub returns-in-Some-choice_of : goal.returns-in-Some-choice_of
returns-in-Some-choice_of c =
    mode-line c.args.layout.now c.args.block.0 (line_view c.in-Some.line) (Some c.in-Some-choice_of.choice.0) c.in-Some.ensures c.in-Some-choice_of.ensures

pub returns-in-None-choice_of : goal.returns-in-None-choice_of
returns-in-None-choice_of c = mode-line c.args.layout.now c.args.block.0 (line_view c.in-Some.line) None c.in-Some.ensures c.in-None-choice_of.ensures
