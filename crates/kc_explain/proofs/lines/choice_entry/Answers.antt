-- The entry of a choice is the line that begins it.
use Rattle.std.proofs.Common.{ap, ◌∙◌}
use Rattle.std.specs.List.{slice_get}
use Rattle.kc_explain.proofs.WalkLemmas.{choice-none, choice-some}
use Rattle.kc_explain.proofs.lines.choice_entry.Goals as goal

pub returns-in-Some : goal.returns-in-Some
returns-in-Some c = choice-some c.args.layout.now c.args.choice c.in-Some.row.now (c.in-Some.ensures ∙ ap (λ cs. slice_get cs c.args.choice) c.choices.ensures)

pub returns-in-None : goal.returns-in-None
returns-in-None c = choice-none c.args.layout.now c.args.choice (c.in-None.ensures ∙ ap (λ cs. slice_get cs c.args.choice) c.choices.ensures)
