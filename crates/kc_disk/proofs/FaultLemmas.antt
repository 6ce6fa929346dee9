-- A run on a disk may end with a fault, whatever its arguments ask for: there may be no memory for them.
use Rattle.std.proofs.Common.{◌≡◌, List, None, Some, Ok, String, Global, refl}
use Rattle.kc_outcome.specs.declared.outcome.Status.TheVariants.{Faulted}
use Rattle.kc_words.specs.declared.usage.UsageError.TheVariants.{Memory}
use Rattle.kc_disk.specs.Program.{AnswersArguments, none}

pub faulted_given : (given : List (String Global)) → AnswersArguments given None None None None Faulted
faulted_given given =
    none Memory (tt, λ taken faultless. refl) refl (Ok tt, record { told = λ after is. absurd (let e : None ≡ Some after = is in cc) }) refl
