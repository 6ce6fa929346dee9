use Rattle.std.proofs.Common.{◌∙◌, ap, sym}
use Rattle.kc_language.specs.Values.{conditions}
use Rattle.kc_values.specs.TableFacts.{known_at}
use Rattle.kc_solve.proofs.SourceSteps.{no_prompts, prompts_of_row}
use Rattle.kc_solve.proofs.sources.prompts_condition_at.Goals as goal

pub returns-in-Some : goal.returns-in-Some
returns-in-Some c =
    let t = c.args.table.now in
    c.prompts_condition.ensures ∙ ap (conditions t.tree.now (known_at t)) (sym (prompts_of_row t c.args.id c.in-Some.symbol.now (sym c.in-Some.ensures)))

pub returns-in-None : goal.returns-in-None
returns-in-None c =
    let t = c.args.table.now in
    ap (conditions t.tree.now (known_at t)) (sym (no_prompts t c.args.id (sym c.in-None.ensures)))
