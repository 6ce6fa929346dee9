-- The text shows what was given for the number.
use Rattle.std.proofs.Common.{◌∙◌, rules}
use Rattle.kc_words.proofs.RefusalLemmas.{written-number}
use Rattle.kc_words.proofs.options.checked_number.Goals as goal

pub returns-in_ok-format-in-None-clause-err : goal.returns-in_ok-format-in-None-clause-err
returns-in_ok-format-in-None-clause-err c = (search rules, c.in_ok-format-in-None.ensures.ok ∙ written-number c.args.option.now c.args.text.now)
