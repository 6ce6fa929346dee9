-- A number that begins with no `-` has its own value.
use Rattle.std.proofs.Common.{◌∙◌, ap}
use Rattle.kc_language.specs.Text.{int_of}
use Rattle.kc_words.proofs.NumberLemmas.{plain_some}
use Rattle.kc_words.proofs.number.plain_number.Goals as goal

pub returns : goal.returns
returns c =
    c.ok.ensures.value ∙ plain_some c.args.text.now c.in_ok-number.number c.try_from.result c.requires (c.in_ok-number.ensures ∙ ap int_of c.as_bytes.ensures.value)
    c.try_from.ensures
