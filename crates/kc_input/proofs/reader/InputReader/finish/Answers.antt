use Rattle.kc_input.specs.ReaderView.{position_of}
use Rattle.kc_input.proofs.ReaderLemmas.{AnswersEnd-ok}
use Rattle.kc_input.proofs.reader.InputReader.finish.Goals as goal

pub returns-in-Ok : goal.returns-in-Ok
returns-in-Ok c =
    let stream = c.self.inside.stream in
    let ensures = c.in-Ok.ensures in
    rw (← c.self.view_is, c.in_default.is)
    (AnswersEnd-ok stream.tree.now stream.prefix.now stream.name.now (position_of c.self.inside.line_buffer) (position_of c.end_stream.new.line_buffer)
    c.args.user.now c.end_stream.new.user c.args.told.now.items c.end_stream.new.told.items ensures.ok ensures.position ensures.opened.user)
