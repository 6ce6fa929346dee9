-- What an outcome adds to the notes is whole lines.
use Rattle.std.proofs.Common.{◌≡◌, ℕ, map, Bool, true, false, List, [], ◌∷◌, ◌++◌, codes, refl, sym, ap, subst, ◌∙◌, append_assoc, append-nil, Option, Some, None}
use Rattle.std.specs.Prelude.{decimal, if◌then◌else◌, ◌&&◌}
use Rattle.kc_language.specs.Statements.{cause_text}
use Rattle.kc_outcome.specs.Outcome.{Options, lead, first_line, refusal_line, IsLenientOutcome, IsOutcomeOfReading, Outcome, accepted_tree, done_outcome, is_not_empty, is_done, lines_text, long_line, lost_text, input_names, near_text, reported, read_of, refused_outcome, refused_name, refused_tree, streams, unknown_symbol, whole, refused_if, refuses_input}
use Rattle.kc_language.specs.Statements.{run_error_text}
use Rattle.kc_conf.specs.PartsOfOutcome.{error_if_at, too_long_line, unknown_line, unreadable_line}
use Rattle.kc_outcome.specs.Outcome.{fresh_input}
use Rattle.kc_conf.specs.Faults.{AreLines}
use Rattle.kc_conf.specs.PartsOfOutcome.{strict_line, outcome_of}
use Rattle.kc_conf.specs.Laws.{DiagnosticsAreLines}
use Rattle.kc_language.specs.declared.diagnostics.RunError.TheVariants as run
use Rattle.kc_language.specs.Expansion.{Refused, Files}
use Rattle.kc_language.specs.Symbols.{TreeFacts}
use Rattle.kc_language.specs.Texts.{warnings}
use Rattle.kc_language.specs.ConfigFile.{StreamLocation, lines_of}
use Rattle.kc_conf.proofs.ExplainedLemmas.{AreLines-lost}
use Rattle.kc_conf.proofs.PartLemmas.{AreLines-append, AreLines-nothing, AreLines-reading}

AreLines-line : (text : List ℕ) → AreLines (text ++ codes "\n")
AreLines-line text = (text ∷ [], sym (append-nil (text ++ codes "\n")))

-- a text is whole lines where it ends so
AreLines-ended : (text end : List ℕ) → (front : List ℕ) × (end ≡ front ++ codes "\n") → AreLines (text ++ end)
AreLines-ended text end (front, is) =
    subst AreLines (append_assoc text front (codes "\n") ∙ ap (λ e. text ++ e) (sym is)) (AreLines-line (text ++ front))

AreLines-at : (location : Option (List ℕ × ℕ)) (text : List ℕ) → AreLines (error_if_at location text)
AreLines-at None text = AreLines-line (codes "error " ++ text)
AreLines-at (Some place) text = AreLines-line (place.0 ++ codes ":" ++ decimal place.1 ++ codes ": error " ++ text)

AreLines-refusal : (r : Refused) → AreLines (refusal_line r)
AreLines-refusal r = AreLines-at r.location (cause_text r.cause)

AreLines-too_long : (stop : StreamLocation) → AreLines (too_long_line stop)
AreLines-too_long stop = AreLines-at (Some (stop.stream, stop.number)) (run_error_text run.LineTooLong)

-- ---- an outcome

-- its warnings are whole lines, and so is its refusal
abbrev AddsLines : Outcome → Type 0
AddsLines outcome = AreLines outcome.warned × AreLines outcome.refusal

AddsLines-reported : (text : List ℕ) (outcome : Outcome) → AreLines text → AddsLines outcome → AddsLines (reported text outcome)
AddsLines-reported text outcome lines (warned, refusal) = (AreLines-append text outcome.warned lines warned, refusal)

if_strict : (options : Options) (b : Bool) (outcome : Outcome) → AddsLines outcome → AddsLines (refused_if options b outcome)
if_strict options true outcome adds = (adds.0, AreLines-ended (lead options) strict_line (codes "error E21: warnings are refused", refl))
if_strict options false outcome adds = adds

of_reading : (files : Files) (options : Options) (opened : List (List ℕ)) (tree : TreeFacts) (all : List (List ℕ)) (outcome : Outcome) →
    IsOutcomeOfReading files options opened tree (read_of options tree all) outcome → AddsLines outcome
of_reading files options opened tree all outcome (long_line stop stopped is) =
    subst AddsLines (sym is) (AddsLines-reported (read_of options tree all).warned (refused_outcome (too_long_line stop))
    (AreLines-reading tree options.prefix (lines_of (streams (input_names options) all)) (fresh_input options tree)) (AreLines-nothing, AreLines-too_long stop))
of_reading files options opened tree all outcome (whole solution none solves is) =
    let input = (read_of options tree all).input in
    subst AddsLines (sym is) (AddsLines-reported (read_of options tree all).warned (outcome_of files options opened input solution)
    (AreLines-reading tree options.prefix (lines_of (streams (input_names options) all)) (fresh_input options tree))
    (if_strict options (refuses_input options input solution) (done_outcome files options opened input solution) (
      AreLines-append (lines_text (map (λ line. lead options ++ line) (warnings solution))) (lost_text options input solution)
          (map (λ line. lead options ++ line) (warnings solution), refl) (AreLines-lost options input solution),
      AreLines-nothing,
    )))

of_lenient : (files : Files) (options : Options) (opened all : List (List ℕ)) (outcome : Outcome) → IsLenientOutcome files options opened all outcome → AddsLines outcome
of_lenient files options opened all outcome (refused_tree r is_refused is) = subst AddsLines (sym is) (AreLines-nothing, AreLines-refusal r)
of_lenient files options opened all outcome (refused_name tree name accepted unread is) =
    subst AddsLines (sym is) (AreLines-nothing, AreLines-ended (lead options) (unreadable_line name) (codes "error E23: make cannot read the name " ++ first_line name, refl))
of_lenient files options opened all outcome (unknown_symbol tree asked accepted read unknown is) =
    subst AddsLines (sym is)
    (AreLines-nothing, AreLines-ended (lead options) (unknown_line tree asked) (codes "error E24: no symbol has the name " ++ first_line asked ++ near_text tree asked, refl))
of_lenient files options opened all outcome (accepted_tree tree accepted named known (rest, read, is)) =
    subst AddsLines (sym is)
    (AddsLines-reported (lines_text tree.warnings) rest (tree.warnings, refl) (of_reading files options opened tree all rest read))

pub diagnostics_are_lines : DiagnosticsAreLines
diagnostics_are_lines files options all outcome (lenient, opened, is_lenient, are, is) =
    let adds = subst AddsLines (sym is)
    (if_strict options (is_done lenient.status && (options.strict_tree && is_not_empty lenient.warned)) lenient (of_lenient files options opened all lenient is_lenient)) in
    AreLines-append outcome.warned outcome.refusal adds.0 adds.1
