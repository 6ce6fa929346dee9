use Rattle.std.proofs.Common.{ap, append_assoc, codes, ◌++◌, ◌∙◌}
use Rattle.kc_language.specs.{Files.escaped, declared.files.Position.TheVariants.Target}
use Rattle.kc_load.specs.PartsOfOutcome.{empty_rule}
use Rattle.kc_load.proofs.EscapeLemmas.{names_more}
use Rattle.kc_load.proofs.rule.add_empty_rules.Goals as goal

pub loop-i-preserved : goal.loop-i-preserved
loop-i-preserved c =
    names_more empty_rule c.loop-i.text.items _ c.args.text.now.items c.args.files.now c.loop-i.i c.name.result.now c.name.ensures.there c.loop-i.invariant
    (c.in_ok-extend_from_slice-2.ensures.items
    ∙ ap (λ t. t ++ codes ":\n")
    (c.in_ok-add_escaped.ensures ∙ ap (λ t. t ++ escaped Target c.name.result.now) c.in_ok-extend_from_slice.ensures.items
    ∙ append_assoc c.loop-i.text.items (codes "\n") (escaped Target c.name.result.now))
    ∙ append_assoc c.loop-i.text.items (codes "\n" ++ escaped Target c.name.result.now) (codes ":\n"))
