-- The text shows what was given for the prefix.
use Rattle.std.proofs.Common.{◌∙◌, rules}
use Rattle.kc_words.proofs.RefusalLemmas.{written-text}
use Rattle.kc_words.proofs.options.prefix_of.Goals as goal

pub returns-in_ok-format-in-None-clause-err : goal.returns-in_ok-format-in-None-clause-err
returns-in_ok-format-in-None-clause-err c = (search rules, c.in_ok-format-in-None.ensures.ok ∙ written-text c.args.text.now)
