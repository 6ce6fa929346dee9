-- File by file.
use Rattle.std.proofs.Common.{rules, ◌≤◌, ◌∙◌, Global, Vec, ap, arith, length, sym, ℕ}
use Rattle.std.proofs.lemmas.List.{length-map}
use Rattle.kc_outcome.specs.Outcome.{input_files}
use Rattle.kc_conf.specs.ReadSteps.{stand}
use Rattle.kc_conf.proofs.InputLemmas.{breaks-inputs, names-count, places-fresh, reads-all, reads-to-long, so_far-file, so_far-nothing, stream-at, within-inputs}
use Rattle.kc_conf.proofs.reading.read_inputs.Goals as goal

pub loop-i-init : goal.loop-i-init
loop-i-init g c = record {
  read = so_far-nothing c.args.options.now c.args.streams.tree.now (stand g.D.Device.file g.D.Device.log c.args.user.now c.args.waiting.now c.args.device.now);
  user = places-fresh c.args.options.now c.args.streams.tree.now c.args.user.now c.requires.fresh.0;
}

pub loop-i-preserved : goal.loop-i-preserved
loop-i-preserved g c = record {
  read = so_far-file c.loop-i.invariant.read (within-inputs c.args.options.now c.args.streams.names.now c.requires.names c.loop-i-test.true)
      (stream-at c.args.options.now c.args.streams.names.now c.requires.names c.loop-i-test.true c.index-names-i.is c.as_slice-stream.ensures.value) (sym c.input_file.ensures)
      (rw (c.in-Ok-None.field-0-is, c.new-reader.ensures, c.requires.prefix, c.may_be_missing.ensures) at c.in-Ok-None.ensures.ok);
  user = rw c.new-reader.ensures at c.in-Ok-None.ensures.user;
}

pub returns-in-Ok-Some-clause-ok : goal.returns-in-Ok-Some-clause-ok
returns-in-Ok-Some-clause-ok g c =
    reads-to-long c.loop-i.invariant.read (within-inputs c.args.options.now c.args.streams.names.now c.requires.names c.loop-i-test.true)
    (stream-at c.args.options.now c.args.streams.names.now c.requires.names c.loop-i-test.true c.index-names-i.is c.as_slice-stream.ensures.value) (sym c.input_file.ensures) c.requires.fresh.1
    (rw (c.in-Ok-Some.field-0-is, c.new-reader.ensures, c.requires.prefix, c.may_be_missing.ensures) at c.in-Ok-Some.ensures.ok)

pub returns-in-Err-clause-err : goal.returns-in-Err-clause-err
returns-in-Err-clause-err g c =
    breaks-inputs c.loop-i.invariant.read (within-inputs c.args.options.now c.args.streams.names.now c.requires.names c.loop-i-test.true)
    (stream-at c.args.options.now c.args.streams.names.now c.requires.names c.loop-i-test.true c.index-names-i.is c.as_slice-stream.ensures.value) (sym c.input_file.ensures) c.requires.fresh.0 c.requires.fresh.2
    (rw (c.new-reader.ensures, c.requires.prefix, c.may_be_missing.ensures) at c.in-Err.ensures.err)

pub returns-in-Err-clause-kept : goal.returns-in-Err-clause-kept
returns-in-Err-clause-kept g c = (c.in-Err.ensures.holds ∙ c.loop-i.invariant.read.warns.holds, search rules)

pub returns-clause-ok : goal.returns-clause-ok
returns-clause-ok g c =
    let end : length (input_files c.args.options.now) ≤ c.loop-i.i =
    let names = ap length c.requires.names in let count = names-count c.args.options.now in let same = length-map c.args.streams.names.now (λ (name : Vec ℕ Global). name.items) in
    let test = c.loop-i-test.false in omega (arith, names, count, same, test) in
    reads-all c.args.options.now c.args.streams.tree.now end c.requires.fresh.1 (c.reading_goes_line_by_line.ensures c.args.streams.tree.now c.args.options.now.prefix).nothing c.loop-i.invariant.read
