use Rattle.std.proofs.Common.{All, List, subst, ℕ}
use Rattle.std.specs.declared.{alloc.Global.Global, vec.Vec.Vec}
use Rattle.kc_tree.specs.declared.laid_tree.LaidTree.{LaidTree}
use Rattle.kc_possible.specs.Possible.{IsOff}
use Rattle.kc_how.specs.{Fragments.lines_in, How.IsFix, Questions.goal_of}
use Rattle.kc_how.proofs.answer.answered.Goals as goal

pub returns-then-is_excluded : goal.returns-then-is_excluded
returns-then-is_excluded c = (
  c.is_excluded.ensures c.if-is_excluded.true,
  subst (λ (l : LaidTree). All (IsOff l.tree.now) c.in_ok-found.found.items) c.requires.bounds c.in_ok-found.ensures,
)

pub returns-then-branch : goal.returns-then-branch
returns-then-branch c =
    let q = c.args.question.now in
    subst (λ (lines : List (Vec ℕ Global)). IsFix q.laid.now.tree.now q.prefix.now q.input.now q.before.now (goal_of q.goal.now) (lines_in lines)) c.deref.ensures.value
    (c.in_ok-is_fix.ensures c.if-branch.true)
