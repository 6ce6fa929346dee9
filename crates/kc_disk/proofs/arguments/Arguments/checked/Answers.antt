-- The arguments were read, and ask to write where they read.
use Rattle.std.proofs.Common.{refl, subst, sym}
use Rattle.kc_disk.specs.declared.arguments.Arguments.{Arguments, TheVariants.{Unread}}
use Rattle.kc_disk.specs.Program.{AreChecked, WritesWhereItReads}
use Rattle.kc_disk.proofs.arguments.Arguments.checked.Goals as goal

pub returns-then-writes_where_it_reads : goal.returns-then-writes_where_it_reads
returns-then-writes_where_it_reads c =
    subst (λ (a : Arguments). AreChecked a (Unread c.needs_out.result)) (sym c.in-Given.is)
    (subst WritesWhereItReads c.deref.ensures.value (c.if-writes_where_it_reads.ensures refl), c.needs_out.ensures)
