-- The reasons so far were added.
use Rattle.kc_conf.specs.HowParts.{AddsReasons}
use Rattle.kc_conf.proofs.reply.add_reasons.Given as goal

abbrev pub invariant-loop-reason : goal.invariant-loop-reason
invariant-loop-reason l = AddsReasons l.question l.fn.text.items l.text.items
