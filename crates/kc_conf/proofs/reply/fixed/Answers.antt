-- The text is that of the fix.
use Rattle.std.proofs.Common.{map, subst, sym, ◌∙◌}
use Rattle.kc_language.specs.Texts.{IsSolutionFor}
use Rattle.kc_conf.proofs.ReplyLemmas.{Replies-fixed}
use Rattle.kc_conf.proofs.reply.fixed.Goals as goal

pub returns-then-counts : goal.returns-then-counts
returns-then-counts c =
    let q = c.args.question.now in
    Replies-fixed q (map (λ line. line.items) c.args.lines.now) c.in_ok-after.after c.in_ok-text.text c.requires.fix
    (subst (λ p. IsSolutionFor q.laid.now.tree.now p c.in_ok-after.after) c.in_ok-user.ensures.user c.in_ok-after.ensures.solution) (sym c.counts.ensures ∙ c.if-counts.true) c.in_ok-text.ensures
