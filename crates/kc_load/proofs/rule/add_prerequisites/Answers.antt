use Rattle.std.proofs.Common.{ap, append_assoc, codes, ◌++◌, ◌∙◌}
use Rattle.kc_language.specs.{Files.escaped, declared.files.Position.TheVariants.Prerequisite}
use Rattle.kc_load.specs.PartsOfOutcome.{prerequisite}
use Rattle.kc_load.proofs.EscapeLemmas.{names_more}
use Rattle.kc_load.proofs.rule.add_prerequisites.Goals as goal

pub loop-i-preserved : goal.loop-i-preserved
loop-i-preserved c =
    names_more prerequisite c.loop-i.text.items _ c.args.text.now.items c.args.files.now c.loop-i.i c.name.result.now c.name.ensures.there c.loop-i.invariant
    (c.in_ok-add_escaped.ensures ∙ ap (λ t. t ++ escaped Prerequisite c.name.result.now) c.in_ok-extend_from_slice.ensures.items
    ∙ append_assoc c.loop-i.text.items (codes " \\\n ") (escaped Prerequisite c.name.result.now))
