use Rattle.std.proofs.Common.{rules, sym}
use Rattle.kc_memory_device.specs.Spots.{spot_view}
use Rattle.kc_memory_device.proofs.{RecordLemmas.{if_ok_as, spot_other, spot_own}, StrippedLemmas.{not_false, not_true}}
use Rattle.kc_memory_device.proofs.replay.act_record.Goals as goal

pub returns-then-ne : goal.returns-then-ne
returns-then-ne c =
    let r = c.args.call.now in
    sym (spot_other c.args.name.now r.action _ r.bytes.items r.fault (spot_view c.args.stand.now) (not_true _ (rw c.as_str.ensures.value at c.if-ne.ensures)))

pub returns : goal.returns
returns c =
    let r = c.args.call.now in
    if_ok_as c.act.result _ _ _
    (sym (spot_own c.args.name.now r.action _ r.bytes.items r.fault (spot_view c.args.stand.now) (search rules) (not_false _ (rw c.as_str.ensures.value at c.if-ne.ensures))))
    (rw c.as_slice.ensures.value at c.act.ensures)
