use Rattle.std.proofs.Common.{ap, sym, ◌∙◌}
use Rattle.kc_read.specs.LineReads.{lexemes_from}
use Rattle.kc_language.specs.Statements.{ConfigLine}
use Rattle.kc_read.proofs.{FrontLemmas.after_one, PartLemmas.config_ok}
use Rattle.kc_read.proofs.reader.config_line.Goals as goal

pub returns-clause-read : goal.returns-clause-read
returns-clause-read c =
    let ls = lexemes_from c.args.tokens.now 1 in
    let w = c.in_ok-word.word.now in (
      ConfigLine w,
      config_ok ls w c.in_ok-word.ensures.part (sym c.is_good_name.ensures ∙ c.if-not-is_good_name.false)
          (after_one c.args.tokens.now 1 ∙ c.in_ok-end.ensures.end),
      record { mentions = c.in_ok-id.ensures.mentions; form = λ later x. ap ConfigLine (c.in_ok-id.ensures.number later x) },
    )
