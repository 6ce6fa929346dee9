-- The texts are delivered, or their refusal is reported.
use Rattle.std.proofs.Common.{◌++◌}
use Rattle.kc_outcome.specs.Outcome.{lead}
use Rattle.kc_language.specs.declared.diagnostics.RunError.TheVariants.{WarningsRefused}
use Rattle.kc_conf.specs.PartsOfOutcome.{strict_line}
use Rattle.kc_conf.proofs.EndingLemmas.{Ends-refused, some-error}
use Rattle.kc_conf.proofs.runs.hand_or_refuse.Goals as goal

pub returns-in-None : goal.returns-in-None
returns-in-None g c =
    rw c.in-None.is (Ends-refused c.args.options.now (lead c.args.options.now ++ strict_line) c.refuse_warnings.result _ _ (some-error (lead c.args.options.now) WarningsRefused) c.refuse_warnings.ensures)
