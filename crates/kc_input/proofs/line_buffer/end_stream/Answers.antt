use Rattle.std.proofs.{Common.{arith, false}, lemmas.Result.on_err_weaker}
use Rattle.kc_input.specs.ReaderView.{position_of}
use Rattle.kc_input.proofs.{FedLemmas.{no_bytes, some_bytes}, FeedLemmas.{FinishesStream-line, FinishesStream-nothing, OnOk-three}, OpenLemmas.open-after}
use Rattle.kc_input.proofs.line_buffer.end_stream.Goals as goal

pub returns-then-is_empty-clause-ok : goal.returns-then-is_empty-clause-ok
returns-then-is_empty-clause-ok c =
    let stream = c.args.stream.now in
    FinishesStream-nothing stream.tree.now stream.prefix.now stream.name.now (position_of c.args.line_buffer.now) c.args.user.now c.args.told.now.items
    (no_bytes c.args.line_buffer.now.pending.items c.args.line_buffer.now.pending.len (omega (arith, c.args.line_buffer.now.pending.ok.0)) c.if-is_empty.ensures)

pub returns-clause-ok : goal.returns-clause-ok
returns-clause-ok c =
    let stream = c.args.stream.now in
    OnOk-three c.end_line.result _ _ _ _
    (λ places warned next.
    FinishesStream-line stream.tree.now stream.prefix.now stream.name.now (position_of c.args.line_buffer.now) c.args.user.now c.end_line.new.user _ _ c.requires.within
    (some_bytes c.args.line_buffer.now.pending.items c.args.line_buffer.now.pending.len (omega (arith, c.args.line_buffer.now.pending.ok.0)) c.if-is_empty.ensures) places warned)
    c.end_line.ensures.places c.end_line.ensures.warned c.end_line.ensures.next

pub returns-clause-pending : goal.returns-clause-pending
returns-clause-pending c =
    on_err_weaker c.end_line.result
    (λ unchanged. some_bytes c.args.line_buffer.now.pending.items c.args.line_buffer.now.pending.len (omega (arith, c.args.line_buffer.now.pending.ok.0)) c.if-is_empty.ensures)
    c.end_line.ensures.unchanged

pub returns-clause-opened : goal.returns-clause-opened
returns-clause-opened c =
    OnOk-three c.end_line.result _ _ _ _
    (λ places warned next. open-after c.args.stream.now c.args.user.now c.end_line.new.user c.args.line_buffer.now false _ c.requires places next)
    c.end_line.ensures.places c.end_line.ensures.warned c.end_line.ensures.next
