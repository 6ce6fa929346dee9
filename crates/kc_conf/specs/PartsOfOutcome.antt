-- For proofs: Names for parts of the definitions of Outcome.
use Rattle.std.specs.List.{list_any}
use Rattle.std.specs.Prelude.{Bool, List, None, Option, Some, if◌then◌else◌, option_map, ℕ, ◌&&◌, ◌==◌, length, not}
use Rattle.kc_language.specs.ConfigFile.{StreamLocation, UserInput}
use Rattle.kc_language.specs.Expansion.{Files}
use Rattle.kc_outcome.specs.Outcome.{Options, Outcome, done_outcome, first_line, is_outside, lost_warnings, names_listed, near_text, refused_if, refuses_input, unknown_name, unreadable_name, wants}
use Rattle.kc_language.specs.Statements.{run_error_text}
use Rattle.kc_language.specs.Statements.{error_at, error_line}
use Rattle.kc_language.specs.Symbols.{TreeFacts}
use Rattle.kc_language.specs.Texts.{Solution, value_warnings}
use Rattle.kc_outcome.specs.declared.outcome.Output.{Output}
use Rattle.kc_language.specs.declared.diagnostics.RunError.TheVariants as run

-- ---- The error lines of a run
abbrev pub stale_line : List ℕ → List ℕ
stale_line name = error_line (run_error_text (run.NotUpToDate name))

abbrev pub too_long_line : StreamLocation → List ℕ
too_long_line stop = error_at stop.stream stop.number (run_error_text run.LineTooLong)

abbrev pub unreadable_line : List ℕ → List ℕ
unreadable_line name = error_line (run_error_text (run.UnreadableName (first_line name)))

abbrev pub unknown_line : TreeFacts → List ℕ → List ℕ
unknown_line tree asked = error_line (run_error_text (run.UnknownName (first_line asked) (near_text tree asked)))

-- the line of the first refused name, if there is one: make cannot read it, or no symbol has it
abbrev pub refusal_by : TreeFacts → Option (List ℕ) → Option (List ℕ) → Option (List ℕ)
refusal_by tree (Some name) unknown = Some (unreadable_line name)
refusal_by tree None unknown = option_map (unknown_line tree) unknown

abbrev pub name_refusal : Options → List (List ℕ) → TreeFacts → Option (List ℕ)
name_refusal options opened tree = refusal_by tree (unreadable_name options opened) (unknown_name options tree)

-- the error line after the refused warnings
abbrev pub strict_line : List ℕ
strict_line = error_line (run_error_text run.WarningsRefused)

-- an error line, at its location if it has one
abbrev pub error_if_at : Option (List ℕ × ℕ) → List ℕ → List ℕ
error_if_at location text = elim location [ None ↦ error_line text | Some place ↦ error_at place.0 place.1 text ]

-- ---- What reading and solving give
-- All the user's lines were taken as written: none had a warning or changed the value of another, no user value that counts is
-- outside its range, and none is reported as lost.
abbrev pub is_taken : Options → UserInput → Solution → Bool
is_taken options input solution =
    input.all_taken && (not (list_any is_outside (value_warnings solution)) && (length (lost_warnings options input solution) == 0))

-- Under --strict the texts are refused if a line was not taken as written.
abbrev pub outcome_of : Files → Options → List (List ℕ) → UserInput → Solution → Outcome
outcome_of files options opened input solution =
    refused_if options (refuses_input options input solution) (done_outcome files options opened input solution)

-- the names in the dependency file, if it is wanted
abbrev pub names_if : Options → List (List ℕ) → Option (List (List ℕ))
names_if options opened = if wants options Output.DependencyFile then Some (names_listed options opened) else None
