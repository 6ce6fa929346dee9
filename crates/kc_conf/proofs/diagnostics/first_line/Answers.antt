-- The bytes before the first line feed, one byte on.
use Rattle.std.proofs.Common.{◌∙◌, rules}
use Rattle.kc_conf.proofs.SayLemmas.{line_more}
use Rattle.kc_conf.proofs.diagnostics.first_line.Goals as goal

pub loop-i-preserved : goal.loop-i-preserved
loop-i-preserved c = c.loop-i.invariant ∙ line_more c.args.name.now c.loop-i.i (search rules) (search rules)
