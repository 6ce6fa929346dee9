-- The bytes before the first blank, one byte on.
use Rattle.std.proofs.Common.{◌∙◌, rules}
use Rattle.kc_hints.proofs.FormLemmas.{word_more}
use Rattle.kc_hints.proofs.form.word_of.Goals as goal

pub loop-i-preserved : goal.loop-i-preserved
loop-i-preserved c = c.loop-i.invariant ∙ word_more c.args.text.now c.loop-i.i (search rules) (search rules)
