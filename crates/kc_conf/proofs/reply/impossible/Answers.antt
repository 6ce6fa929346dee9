-- It is the text that the definitions say.
use Rattle.std.proofs.Common.{ap, sym, ◌∙◌}
use Rattle.kc_language.specs.Texts.{Solution}
use Rattle.kc_tree.specs.declared.laid_tree.LaidTree.{LaidTree}
use Rattle.kc_conf.proofs.ReplyLemmas.{Replies-impossible}
use Rattle.kc_conf.proofs.reply.impossible.Goals as goal

pub add_fixed-requires-clause-tree : goal.add_fixed-requires-clause-tree
add_fixed-requires-clause-tree c =
    ap (λ (l : LaidTree). l.tree.now) c.requires.question.bounds ∙ sym (ap (λ (s : Solution). s.tree) c.new-teller.ensures.solved ∙ c.requires.question.before.tree_is)

pub returns : goal.returns
returns c =
    Replies-impossible c.args.question.now c.new-teller.result _ _ _ _ _ c.add_reasons.new.text c.requires.question
    (record { solved = c.new-teller.ensures.solved; input = c.new-teller.ensures.input; is_raw = c.new-teller.ensures.is_raw ∙ c.is_raw.ensures }) c.requires.out
    c.in_ok-text.ensures c.in_ok-add_prompt_line.ensures c.in_ok-add_modules_line.ensures c.in_ok-add_ranges.ensures c.in_ok-add_fixed.ensures c.in_ok-add_reasons.ensures
