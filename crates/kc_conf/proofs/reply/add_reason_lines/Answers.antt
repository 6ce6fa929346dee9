-- The symbol, and its facts.
use Rattle.std.proofs.Common.{ap, subst, sym, ◌∙◌}
use Rattle.std.proofs.lemmas.Result.{on_ok_weaker}
use Rattle.kc_language.specs.Symbols.{TreeFacts}
use Rattle.kc_language.specs.Texts.{Solution}
use Rattle.kc_tree.specs.declared.laid_tree.LaidTree.{LaidTree}
use Rattle.kc_conf.proofs.ReplyLemmas.{adds_reason}
use Rattle.kc_conf.proofs.reply.add_reason_lines.Goals as goal

pub add_fixed-requires-clause-tree : goal.add_fixed-requires-clause-tree
add_fixed-requires-clause-tree c =
    ap (λ (l : LaidTree). l.tree.now) c.requires.question.bounds ∙ sym (ap (λ (s : Solution). s.tree) c.requires.teller.solved ∙ c.requires.question.before.tree_is)

pub returns : goal.returns
returns c =
    on_ok_weaker c.add_fixed.result (λ adds. adds_reason c.args.question.now c.args.teller.now c.args.reason c.args.text.now.items _ _ _ c.requires.question c.requires.teller c.requires.off
    c.in_ok-add_reason.ensures c.in_ok-add_prompt_line.ensures adds) c.add_fixed.ensures
