-- Trusted: Errors of a run over an accepted tree: the text of each (our own).
use Rattle.std.specs.{Borrow.Bor, Prelude.{List, ℕ}}
use Rattle.kc_diagnostics.specs.PartsOfOutcome.{RunError}
use Rattle.kc_language.specs.declared.diagnostics.RunError as declared
use Rattle.kc_language.specs.declared.diagnostics.RunError.TheVariants as run

-- an error that borrows its name
abbrev pub shown_run_error : declared.RunError (Bor (List ℕ)) → RunError
shown_run_error run.LineTooLong = run.LineTooLong
shown_run_error (run.CannotRead name) = run.CannotRead name.now
shown_run_error (run.CannotWrite name) = run.CannotWrite name.now
shown_run_error run.Memory = run.Memory
shown_run_error run.WarningsRefused = run.WarningsRefused
shown_run_error (run.NotUpToDate name) = run.NotUpToDate name.now
shown_run_error (run.UnreadableName name) = run.UnreadableName name.now
shown_run_error (run.UnknownName name near) = run.UnknownName name.now near.now
