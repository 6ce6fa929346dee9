-- The arguments were read, or could not be.
use Rattle.std.proofs.Common.{List, String, Global, refl, subst}
use Rattle.kc_disk.specs.Program.{AnswersArguments}
use Rattle.kc_disk.proofs.answer.answer.Goals as goal

pub returns-in-Given : goal.returns-in-Given
returns-in-Given g c =
    rw c.in-Given.is (
    subst
    (λ (l : List (String Global)). AnswersArguments l (g.F.Folder.state c.args.folder.now) (g.F.Folder.state c.answer_given.new.folder) (g.D.Device.log c.args.device.now) (g.D.Device.log c.answer_given.new.device) c.answer_given.result)
    c.deref.ensures.value c.answer_given.ensures
    )

pub returns-in-Unread : goal.returns-in-Unread
returns-in-Unread g c = rw c.in-Unread.is (c.print_usage.ensures.status, c.print_usage.ensures.says, refl)
