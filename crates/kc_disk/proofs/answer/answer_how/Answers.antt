-- What is done depends on whether files are included.
use Rattle.std.proofs.Common.{sym, ◌∙◌}
use Rattle.kc_disk.proofs.answer.answer_how.Goals as goal

pub returns-then-is_some : goal.returns-then-is_some
returns-then-is_some g c = rw (sym c.is_some.ensures ∙ c.if-is_some.true) c.ask_including.ensures

pub returns : goal.returns
returns g c = rw (sym c.is_some.ensures ∙ c.if-is_some.false) c.ask.ensures
