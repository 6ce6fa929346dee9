-- For proofs: A refused name.
use Rattle.std.specs.Prelude.{ℕ, List}
use Rattle.kc_outcome.specs.Outcome.{first_line}
use Rattle.kc_language.specs.Statements.{run_error_text}
use Rattle.kc_language.specs.Statements.{error_line}
use Rattle.kc_language.specs.declared.diagnostics.RunError.TheVariants as run
use Rattle.kc_conf.specs.PartsOfOutcome.{unreadable_line}
use Rattle.kc_conf.specs.declared.names.RefusedName.{RefusedName}
use Rattle.kc_conf.specs.declared.names.RefusedName.TheVariants.{Unreadable, Unknown}

-- the line of a name that no symbol has, with similar names
abbrev pub unknown_near : List ℕ → List ℕ → List ℕ
unknown_near asked near = error_line (run_error_text (run.UnknownName (first_line asked) near))

abbrev pub refused_line : RefusedName → List ℕ
refused_line (Unreadable name) = unreadable_line name.now
refused_line (Unknown asked near) = unknown_near asked.now near.items
