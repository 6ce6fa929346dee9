use Rattle.kc_read.specs.LineReads.{lexemes_from}
use Rattle.kc_read.proofs.StepLemmas.{help_first, help_second}
use Rattle.kc_read.proofs.step.begins_help.Goals as goal

pub returns-then-begins_with : goal.returns-then-begins_with
returns-then-begins_with c = help_first (lexemes_from c.args.tokens.now 0) c.begins_with.result c.begins_with.ensures.word c.if-begins_with.true

pub returns-else-begins_with : goal.returns-else-begins_with
returns-else-begins_with c =
    help_second (lexemes_from c.args.tokens.now 0) c.begins_with.result c.begins_with-else-begins_with.result c.begins_with.ensures.word c.if-begins_with.false
    c.begins_with-else-begins_with.ensures.word
