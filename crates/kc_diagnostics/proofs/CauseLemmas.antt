-- Being out of memory is told by what a cause says.
use Rattle.std.proofs.Common.{◌≡◌, ◌≢◌, ◌⊎◌, inl, inr, refl}
use Rattle.kc_diagnostics.specs.Causes.{map_cause}
use Rattle.kc_language.specs.declared.diagnostics.Cause as declared
use Rattle.kc_language.specs.declared.diagnostics.Cause.TheVariants as cause

-- a cause that says that memory ran out is that one
pub no_other_memory : {M N : Type 0} (f : M → N) (c : declared.Cause M) → map_cause f c ≡ cause.Memory → c ≡ cause.Memory
no_other_memory f (cause.NoFile name) e = absurd cc
no_other_memory f (cause.InclusionLoop name) e = absurd cc
no_other_memory f cause.TooManyLines e = absurd cc
no_other_memory f cause.LineTooLong e = absurd cc
no_other_memory f cause.BadToken e = absurd cc
no_other_memory f cause.Macro e = absurd cc
no_other_memory f (cause.LeftOut word) e = absurd cc
no_other_memory f cause.Syntax e = absurd cc
no_other_memory f cause.Block e = absurd cc
no_other_memory f cause.Misplaced e = absurd cc
no_other_memory f (cause.BadName name) e = absurd cc
no_other_memory f cause.TooDeep e = absurd cc
no_other_memory f (cause.ChoiceMember name) e = absurd cc
no_other_memory f (cause.BadDefault name) e = absurd cc
no_other_memory f (cause.Loop names) e = absurd cc
no_other_memory f cause.TooManySymbols e = absurd cc
no_other_memory f cause.Memory e = refl

-- memory ran out, or not
pub memory_or_not : {N : Type 0} (c : declared.Cause N) → (c ≡ cause.Memory) ⊎ (c ≢ cause.Memory)
memory_or_not (cause.NoFile name) = inr (λ e. cc)
memory_or_not (cause.InclusionLoop name) = inr (λ e. cc)
memory_or_not cause.TooManyLines = inr (λ e. cc)
memory_or_not cause.LineTooLong = inr (λ e. cc)
memory_or_not cause.BadToken = inr (λ e. cc)
memory_or_not cause.Macro = inr (λ e. cc)
memory_or_not (cause.LeftOut word) = inr (λ e. cc)
memory_or_not cause.Syntax = inr (λ e. cc)
memory_or_not cause.Block = inr (λ e. cc)
memory_or_not cause.Misplaced = inr (λ e. cc)
memory_or_not (cause.BadName name) = inr (λ e. cc)
memory_or_not cause.TooDeep = inr (λ e. cc)
memory_or_not (cause.ChoiceMember name) = inr (λ e. cc)
memory_or_not (cause.BadDefault name) = inr (λ e. cc)
memory_or_not (cause.Loop names) = inr (λ e. cc)
memory_or_not cause.TooManySymbols = inr (λ e. cc)
memory_or_not cause.Memory = inl refl
