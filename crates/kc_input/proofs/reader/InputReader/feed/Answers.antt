use Rattle.kc_input.specs.ReaderView.{position_of}
use Rattle.kc_input.proofs.ReaderLemmas.{AnswersFeed-ok, AnswersFeed-err}
use Rattle.kc_input.proofs.reader.InputReader.feed.Goals as goal

pub returns-in-Ok : goal.returns-in-Ok
returns-in-Ok c =
    let stream = c.self.inside.stream in
    let ensures = c.in-Ok.ensures in
    rw (← c.self.view_is, c.in_default.is)
    (AnswersFeed-ok stream.tree.now stream.prefix.now stream.name.now c.args.piece.now (position_of c.self.inside.line_buffer) (position_of c.take_piece.new.line_buffer)
    c.args.user.now c.take_piece.new.user c.args.told.now.items c.take_piece.new.told.items ensures.ok ensures.position ensures.opened.user)

pub returns-in-Err : goal.returns-in-Err
returns-in-Err c =
    let stream = c.self.inside.stream in
    let ensures = c.in-Err.ensures in
    rw (← c.self.view_is, c.in_default.is)
    (AnswersFeed-err stream.tree.now stream.prefix.now stream.name.now c.in-Err.fault c.args.piece.now (position_of c.self.inside.line_buffer) (position_of c.take_piece.new.line_buffer)
    c.args.user.now c.take_piece.new.user c.args.told.now.items c.take_piece.new.told.items ensures.err ensures.opened.user)
