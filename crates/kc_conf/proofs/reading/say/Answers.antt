-- What waits is said.
use Rattle.std.proofs.Common.{◌∙◌, ap, append-nil, arith, refl}
use Rattle.kc_language.specs.Lines.{is_whole_lines}
use Rattle.kc_conf.proofs.StepLemmas.{some-said}
use Rattle.kc_conf.proofs.reading.say.Goals as goal

pub report-requires : goal.report-requires
report-requires g c = ap is_whole_lines (append-nil c.deref.result.now ∙ c.deref.ensures.value) ∙ c.requires c.if-waiting.false

pub returns-in-Err-clause-says : goal.returns-in-Err-clause-says
returns-in-Err-clause-says g c =
    let waiting = c.args.waiting.now in
    record {
      said = tt;
      failed = ((refl, refl, c.in-Err.ensures.log), some-said waiting.holds waiting.text.items waiting.text.len (omega (arith, waiting.text.ok.0)) c.if-waiting.false c.if-is_empty.ensures);
      holds = refl;
    }
