use Rattle.kc_language.specs.Statements.{IgnoredLine, ModulesLine}
use Rattle.kc_read.proofs.{FrontLemmas.after_one, PartLemmas.{option_ignored, option_modules}}
use Rattle.std.proofs.Common.{refl, sym, ◌∙◌}
use Rattle.kc_read.specs.LineReads.{lexemes_from}
use Rattle.kc_read.proofs.reader.option_line.Goals as goal

pub returns-then-begins_with : goal.returns-then-begins_with
returns-then-begins_with c = λ names.
    let ls = lexemes_from c.args.tokens.now 1 in (
      ModulesLine,
      option_modules ls (sym c.begins_with.ensures.word ∙ c.if-begins_with.true) (after_one c.args.tokens.now 1 ∙ c.in_ok-end.ensures.end),
      record { mentions = refl; form = λ later x. refl },
    )

pub returns-then-begins_with-2 : goal.returns-then-begins_with-2
returns-then-begins_with-2 c = λ names.
    let ls = lexemes_from c.args.tokens.now 1 in (
      IgnoredLine,
      option_ignored ls (sym c.begins_with.ensures.word ∙ c.if-begins_with.false) (sym c.begins_with-2.ensures.word ∙ c.if-begins_with-2.true)
          (after_one c.args.tokens.now 1 ∙ c.in_ok-end-2.ensures.end),
      record { mentions = refl; form = λ later x. refl },
    )
