-- A name is in the table where it has a number.
use Rattle.std.proofs.Common.{◌∙◌, ap, position}
use Rattle.std.specs.Option.{is_some}
use Rattle.kc_language.specs.Expressions.{same_name, symbol}
use Rattle.kc_words.proofs.PlaceLemmas.{position-any}
use Rattle.kc_words.specs.CommandLine.{is_among}
use Rattle.kc_words.proofs.ApartLemmas.{some-map}
use Rattle.kc_words.proofs.apart.holds.Goals as goal

pub returns : goal.returns
returns c =
    c.is_some.ensures ∙ ap is_some c.find.ensures ∙ some-map symbol (position (same_name c.as_bytes.result.now) c.args.table.now) ∙ position-any (same_name c.as_bytes.result.now) c.args.table.now
    ∙ ap (λ n. is_among n c.args.table.now) c.as_bytes.ensures.value
