-- Arguments that were read may end with a fault.
use Rattle.std.proofs.Common.{sym, subst, ◌∙◌}
use Rattle.kc_disk.specs.declared.arguments.Arguments.{Arguments, TheVariants.{Given}}
use Rattle.kc_outcome.specs.declared.outcome.Status.{Status}
use Rattle.kc_disk.specs.Program.{KconfEndsOnDisk}
use Rattle.kc_disk.proofs.FaultLemmas.{faulted_given}
use Rattle.kc_disk.proofs.program.ended_if.Goals as goal

pub returns-in-Given-clause-ends : goal.returns-in-Given-clause-ends
returns-in-Given-clause-ends c =
    subst (λ (a : Arguments). KconfEndsOnDisk a c.into_fault.result.status) (sym (c.into_fault.ensures.of ∙ sym c.arguments.ensures ∙ c.in-Given.is))
    (subst (λ (s : Status). KconfEndsOnDisk (Given c.in-Given.field-0) s) (sym c.into_fault.ensures.fault) (faulted_given c.in-Given.field-0.items))
