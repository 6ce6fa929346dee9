use Rattle.std.proofs.{Common.{arith, length, true, ◌≤◌}, lemmas.Bool.{eq-eqb, ne_eqb}}
use Rattle.kc_input.specs.ReaderView.{position_of}
use Rattle.kc_input.proofs.{FedLemmas.fed-other, FeedLemmas.{Feeds-lf, StopsBecause-long}, OpenLemmas.open-after}
use Rattle.kc_input.proofs.line_buffer.take_byte.Goals as goal

pub returns-then-byte-eq10-clause-ok : goal.returns-then-byte-eq10-clause-ok
returns-then-byte-eq10-clause-ok c =
    let stream = c.args.stream.now in
    let ensures = c.in_ok-end_line.ensures in
    Feeds-lf stream.tree.now stream.prefix.now stream.name.now c.args.byte (position_of c.args.line_buffer.now) (position_of c.end_line.new.line_buffer)
    c.args.user.now c.end_line.new.user _ _ c.requires.within (eq-eqb c.args.byte 10 c.if-byte-eq10.true) ensures.places ensures.warned ensures.next

pub returns-then-byte-eq10-clause-opened : goal.returns-then-byte-eq10-clause-opened
returns-then-byte-eq10-clause-opened c =
    open-after c.args.stream.now c.args.user.now c.end_line.new.user c.args.line_buffer.now true _ c.requires c.in_ok-end_line.ensures.places c.in_ok-end_line.ensures.next

pub returns-clause-position : goal.returns-clause-position
returns-clause-position c =
    rw c.in_ok-push.ensures.items (fed-other c.args.byte (position_of c.args.line_buffer.now) c.requires.within (ne_eqb c.args.byte 10 c.if-byte-eq10.false))

pub returns-then-len-ge-LONGEST_DOT_LINE-clause-err : goal.returns-then-len-ge-LONGEST_DOT_LINE-clause-err
returns-then-len-ge-LONGEST_DOT_LINE-clause-err c =
    let stream = c.args.stream.now in
    let count = c.len.ensures in
    let full = c.if-len-ge-LONGEST_DOT_LINE.true in
    let long : 65535 ≤ length c.args.line_buffer.now.pending.items = omega (arith, count, full) in
    StopsBecause-long stream.tree.now stream.prefix.now stream.name.now c.args.byte (position_of c.args.line_buffer.now) c.args.user.now
    c.requires.within (ne_eqb c.args.byte 10 c.if-byte-eq10.false) long
