-- The name is one of the list, and in the table; and those before it are not.
use Rattle.std.proofs.Common.{◌∙◌, ap, sym, arith, bytes_eq}
use Rattle.kc_words.specs.CommandLine.{is_among}
use Rattle.kc_words.proofs.ApartLemmas.{any-at, self-among}
use Rattle.kc_words.proofs.apart.first_held.Goals as goal

pub returns-then-holds : goal.returns-then-holds
returns-then-holds c = (
  ap (λ n. is_among n c.args.table.now) (c.as_str-then-holds.ensures.value ∙ sym c.as_str.ensures.value) ∙ sym c.if-holds.ensures,
  any-at (bytes_eq c.as_str-then-holds.result.now) c.args.names.now c.loop-name.name-index c.name-item.result (omega arith) c.name-item.is
      (ap (bytes_eq c.as_str-then-holds.result.now) (sym c.as_str-then-holds.ensures.value) ∙ self-among c.as_str-then-holds.result.now),
)
