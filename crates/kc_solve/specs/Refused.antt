-- Trusted: Why a tree has no order.
use Rattle.std.specs.Prelude.{List, ℕ, ◌≡◌, ◌≢◌}
use Rattle.kc_language.specs.{Needs.{IsLoopText, loop_refused}, Symbols.TreeFacts}
use Rattle.kc_read.specs.{RefusalView.refusal_view, declared.refusal.Refusal.Refusal}
use Rattle.kc_language.specs.declared.diagnostics.Cause.TheVariants as cause

-- if memory is not the cause, the refusal names the loop
abbrev pub NamesLoop : TreeFacts → Refusal → Type 0
NamesLoop tree r = r.cause ≢ cause.Memory → (text : List ℕ) × IsLoopText tree text × (refusal_view r ≡ loop_refused text)
