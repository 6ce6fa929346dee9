-- One name more is added.
use Rattle.std.proofs.Common.{◌∙◌, ap, sym, arith, string_bytes}
use Rattle.kc_language.specs.Expressions.{mention}
use Rattle.kc_words.proofs.ApartLemmas.{mentioned-more}
use Rattle.kc_words.proofs.apart.hold_all.Goals as goal

pub loop-name-preserved : goal.loop-name-preserved
loop-name-preserved c =
    c.in_ok-id.ensures.names ∙ ap (mention c.loop-name.table) c.as_bytes.ensures.value ∙ ap (λ t. mention t (string_bytes c.name-item.result)) c.loop-name.invariant
    ∙ sym (mentioned-more c.args.table.now c.args.names.now c.loop-name.name-index c.name-item.result (omega arith) c.name-item.is)
