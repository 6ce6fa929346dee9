use Rattle.std.proofs.{Common.{arith, subst, sym}, lemmas.List.Elements.All-get_or}
use Rattle.std.specs.Prelude.{length, ◌<◌}
use Rattle.kc_solve.specs.Renewing.{HaveReader}
use Rattle.kc_solve.proofs.PlanSteps.{reader_more}
use Rattle.kc_solve.proofs.plan.add_reader.Goals as goal

pub loop-read-preserved : goal.loop-read-preserved
loop-read-preserved c =
    let row = c.args.row.now in
    let k = c.loop-read.read-index in
    let so = c.loop-read.invariant in
    let within = All-get_or (λ t. t < length c.args.readers.now) row k 0 c.loop-read-test.true c.requires in
    subst (HaveReader _ c.args.node c.args.readers.now) (sym c.in_ok-add.ensures)
    (reader_more row k c.args.node c.args.readers.now c.loop-read.readers c.loop-read-test.true (omega (arith, within, so.count)) so)
