use denote.Enum.Bare.{same_true}
use Rattle.std.proofs.Common.{rules, sym, ◌∙◌}
use Rattle.kc_language.specs.{Values.modules_value, contracts.expressions.Tri.the_type}
use Rattle.kc_possible.proofs.MemberLemmas.{within-n}
use Rattle.kc_possible.proofs.truths.is_without_modules.Goals as goal

pub returns : goal.returns
returns c off known allowed =
    within-n c.modules.result (modules_value known c.args.p.now.laid.tree.now.modules) (same_true the_type (search rules) _ _ (sym c.eq.ensures ∙ off)) (c.modules.ensures known allowed)
