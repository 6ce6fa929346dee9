use Rattle.std.proofs.{Common.{arith, drop, length, length-drop, take, ◌-◌, ◌≡◌}, lemmas.List.take_all}
use Rattle.kc_io.proofs.WentLemmas.{bytes_more, bytes_stopped, went_all}
use Rattle.kc_io.proofs.steps.write.Goals as goal

pub loop-at-preserved : goal.loop-at-preserved
loop-at-preserved g c =
    let bytes = c.args.bytes.now in
    let at = c.loop-at.at in
    let rest : take (length bytes - at) (drop at bytes) ≡ drop at bytes = take_all _ _ (omega (arith, length-drop at bytes)) in
    let log = rw rest at c.in-Ok.ensures.log in
    let within = rw rest at c.in-Ok.ensures.within in
    record {
      within = omega (arith, length-drop at bytes, within, c.loop-at.invariant.within);
      log = bytes_more _ _ _ at c.in-Ok.count _ _ _ c.loop-at.invariant.log log;
    }

pub returns-in-Err : goal.returns-in-Err
returns-in-Err g c = bytes_stopped c.args.site c.args.name _ c.loop-at.at c.in-Err.fault _ _ _ c.loop-at-test.true c.loop-at.invariant.log c.in-Err.ensures.log

pub returns : goal.returns
returns g c = went_all _ _ _ (rw (take_all c.loop-at.at c.args.bytes.now c.loop-at-test.false) at c.loop-at.invariant.log)
