-- Trusted: A refusal, without its layout in memory.
use Rattle.std.specs.Prelude.{◌≡◌, None, option_map}
use Rattle.kc_read.specs.declared.refusal.Refusal.{Refusal}
use Rattle.kc_language.specs.declared.diagnostics.Cause.TheVariants as cause
use Rattle.kc_diagnostics.specs.Causes.{owned_cause}
use Rattle.kc_language.specs.Expansion.{Refused}

abbrev pub refusal_view : Refusal → Refused
refusal_view r = record { cause = owned_cause r.cause; location = option_map (λ p. (p.0.items, p.1)) r.location }

-- out of memory has no location
abbrev pub out_of_memory : Refused
out_of_memory = record { cause = cause.Memory; location = None }

abbrev pub IsMemory : Refusal → Type 0
IsMemory r = r.cause ≡ cause.Memory → refusal_view r ≡ out_of_memory
