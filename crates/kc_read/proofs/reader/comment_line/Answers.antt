use Rattle.std.proofs.Common.{ap, refl, ℕ, ◌∙◌}
use Rattle.std.specs.declared.{alloc.Global.Global, vec.Vec.Vec}
use Rattle.kc_read.specs.LineReads.{lexemes_from}
use Rattle.kc_language.specs.Statements.{CommentLine}
use Rattle.kc_read.proofs.{FrontLemmas.after_one, PartLemmas.text_line_ok}
use Rattle.kc_read.proofs.reader.comment_line.Goals as goal

pub returns : goal.returns
returns c = λ names.
    let ls = lexemes_from c.args.tokens.now 1 in (
      CommentLine c.in_ok-text.text.items,
      text_line_ok CommentLine ls c.in_ok-text.text.items c.in_ok-text.ensures.part
          (after_one c.args.tokens.now 1 ∙ c.in_ok-end.ensures.end),
      record { mentions = refl; form = λ later x. ap (λ (v : Vec ℕ Global). CommentLine v.items) c.in_ok-new.ensures.ok },
    )
