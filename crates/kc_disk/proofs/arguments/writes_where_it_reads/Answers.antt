-- The arguments ask for one run, whose full `.config` goes to the file that it is read from.
use Rattle.std.proofs.Common.{refl, subst}
use Rattle.kc_words.specs.CommandLine.{IsRequestOf, rows_for}
use Rattle.kc_words.specs.declared.options.Request.{Request}
use Rattle.kc_disk.proofs.arguments.writes_where_it_reads.Goals as goal

pub returns-in-Ok-One : goal.returns-in-Ok-One
returns-in-Ok-One c = λ there. (
  c.in-Ok-One.options,
  record { faultless = c.in-Ok-One.ensures.faultless; fields = subst (λ (r : Request). IsRequestOf (rows_for c.args.arguments.now) r) c.in-Ok-One.field-0-is c.in-Ok-One.ensures.ok },
  c.if-not-is_written_in_place.ensures refl,
)
