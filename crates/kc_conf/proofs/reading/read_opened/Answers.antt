-- Piece by piece.
use Rattle.std.proofs.Common.{◌≤◌, ap, arith, rules, subst}
use Rattle.kc_input.specs.ReaderState.{ReaderState}
use Rattle.kc_conf.specs.ReadSteps.{stand}
use Rattle.kc_conf.proofs.FileLemmas.{breaks-end, breaks-piece, breaks-unread, fresh-at-start, reads-long, reads-whole, still-then, takes-more, takes-nothing}
use Rattle.kc_conf.proofs.reading.read_opened.Goals as goal

pub pieces-init : goal.pieces-init
pieces-init g c = record {
  taken = takes-nothing c.args.reader.now c.args.name.now c.args.reader.now.position (stand g.D.Device.file g.D.Device.log c.args.user.now c.args.waiting.now c.args.device.now) c.requires.begins;
  still = fresh-at-start c.args.reader.now c.requires.ready.fresh c.requires.begins;
  user = c.requires.ready.places;
}

pub returns-in-Err-clause-err : goal.returns-in-Err-clause-err
returns-in-Err-clause-err g c =
    breaks-unread c.pieces.invariant.taken c.pieces.invariant.still.waits (subst (λ n. n ≤ 65535) c.pending-waiting.ensures.count c.pending-waiting.ensures.few) c.in-Err.ensures.err

pub returns-in-Ok-finish-clause-ok : goal.returns-in-Ok-finish-clause-ok
returns-in-Ok-finish-clause-ok g c =
    reads-whole c.pieces.invariant.taken c.in-Ok.ensures.given c.in-Ok.ensures.log c.if-count-eq0.true (search rules) (rw c.pieces.invariant.still.same at c.in-Ok-finish.ensures.ok)

pub returns-in-Err-finish-clause-err : goal.returns-in-Err-finish-clause-err
returns-in-Err-finish-clause-err g c =
    breaks-end c.pieces.invariant.taken c.in-Ok.ensures.given c.in-Ok.ensures.log c.if-count-eq0.true (search rules) (rw c.pieces.invariant.still.same at c.in-Err-finish.ensures.err)

pub pieces-preserved : goal.pieces-preserved
pieces-preserved g c = record {
  taken = takes-more c.pieces.invariant.taken c.in-Ok.ensures.given c.in-Ok.ensures.log (omega (arith, c.if-count-eq0.false))
      (rw (c.in-Ok-None.field-0-is, c.pieces.invariant.still.same) at c.in-Ok-None.ensures.ok);
  still = still-then c.pieces.invariant.still (c.in-Ok-None.ensures.ok.still c.in-Ok-None.field-0-is);
  user = rw (ap (λ (r : ReaderState). r.tree) c.pieces.invariant.still.same) at c.in-Ok-None.ensures.user;
}

pub returns-in-Ok-Some-clause-ok : goal.returns-in-Ok-Some-clause-ok
returns-in-Ok-Some-clause-ok g c =
    reads-long c.pieces.invariant.taken c.in-Ok.ensures.given c.in-Ok.ensures.log (omega (arith, c.if-count-eq0.false)) (rw (c.in-Ok-Some.field-0-is, c.pieces.invariant.still.same) at c.in-Ok-Some.ensures.ok)

pub returns-in-Err-take_piece-clause-err : goal.returns-in-Err-take_piece-clause-err
returns-in-Err-take_piece-clause-err g c =
    breaks-piece c.pieces.invariant.taken c.in-Ok.ensures.given c.in-Ok.ensures.log (omega (arith, c.if-count-eq0.false)) (rw c.pieces.invariant.still.same at c.in-Err-take_piece.ensures.err)
