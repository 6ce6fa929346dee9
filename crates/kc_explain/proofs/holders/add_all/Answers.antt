-- One symbol more is added.
use Rattle.kc_explain.proofs.HoldingLemmas.{added_next}
use Rattle.kc_explain.proofs.holders.add_all.Goals as goal

pub loop-id-preserved : goal.loop-id-preserved
loop-id-preserved c = record {
  seen = added_next c.args.seen.now c.loop-id.seen c.add_new.new.seen c.args.found.now c.loop-id.id-index c.loop-id-test.true
      c.loop-id.invariant.seen c.in_ok-add_new.ensures.seen;
  next = λ before same. c.in_ok-add_new.ensures.next before (c.loop-id.invariant.next before same);
}
