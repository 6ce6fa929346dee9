-- For proofs: A line to keep, whose value is not allowed.
use Rattle.std.specs.Prelude.{List, None, Option, Some, slice_set}
use Rattle.kc_language.specs.ConfigFile.{RefusedLine}
use Rattle.kc_input.specs.{InputView.kept_of, declared.step.Refusal.Refusal}

-- the lines with a disallowed value, after the line is kept for its symbol
abbrev pub with_refusal : Option Refusal → List (Option RefusedLine) → List (Option RefusedLine)
with_refusal None refused = refused
with_refusal (Some refusal) refused = slice_set refused refusal.id.0 (Some (kept_of refusal.line))
