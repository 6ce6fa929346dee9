-- Trusted: Parts of the definitions of Outcome, with names of their own.
use Rattle.std.specs.Prelude.{List, ℕ}
use Rattle.kc_language.specs.declared.diagnostics.RunError as declared

-- an error whose names are texts
abbrev pub RunError : Type 0
RunError = declared.RunError (List ℕ)
