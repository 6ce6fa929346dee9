use Rattle.std.proofs.Common.{ap, rules, sym, ◌∙◌}
use Rattle.kc_memory_device.specs.Stripped.{acted_seen, seen_at}
use Rattle.kc_memory_device.proofs.{RecordLemmas.{spot_other, spot_own}, StrippedLemmas.{acted_at, not_false, not_true}}
use Rattle.kc_memory_device.proofs.replay.seen_record.Goals as goal

pub returns-then-ne : goal.returns-then-ne
returns-then-ne c = λ spot is.
    let r = c.args.call.now in
    is ∙ ap (seen_at c.args.bytes.now) (sym (spot_other c.args.name.now r.action _ r.bytes.items r.fault spot (not_true _ (rw c.as_str.ensures.value at c.if-ne.ensures))))

pub returns : goal.returns
returns c = λ spot is.
    let r = c.args.call.now in
    let bytes = c.args.bytes.now in
    rw c.as_slice.ensures.value at c.seen_after.ensures
    ∙ ap (acted_seen bytes r.action r.bytes.items) is
    ∙ sym (acted_at bytes r.action r.bytes.items spot)
    ∙ ap (seen_at bytes) (sym (spot_own c.args.name.now r.action _ r.bytes.items r.fault spot (search rules) (not_false _ (rw c.as_str.ensures.value at c.if-ne.ensures))))
