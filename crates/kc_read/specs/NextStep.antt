-- For proofs: The result of reading the next line of a file.
use Rattle.std.specs.Prelude.{Bool, Err, List, Ok, Some, [], false, true, ℕ, ◌≡◌, ◌≢◌}
use Rattle.kc_language.specs.{Expansion.{IsBlankNext, IsMarker, MarksNext, NextLine, NextStatement, refusal_at, text_cause}, Expressions.same_name, Lines.{IsTooLong, UnreadLines}, Statements.{Cause, LineContext, Named}, Tokens.Lexeme, declared.tokens.TextFault.TextFault}
use Rattle.kc_read.specs.{LineReads.IsMade, Progress.context_in, RefusalView.refusal_view, declared.{reader.Position.Position, refusal.Refusal.Refusal, step.Step.Step}}
use Rattle.kc_language.specs.declared.diagnostics.Cause.TheVariants as cause
use Rattle.kc_read.specs.declared.step.Step.TheVariants as step
use Rattle.kc_language.specs.declared.tokens.TextFault.TheVariants as fault

-- the number of a line that is too long
abbrev pub long_line : TextFault → ℕ
long_line (fault.LineTooLong n) = n
long_line fault.BadToken = 0
long_line fault.Macro = 0
long_line fault.Memory = 0

-- the meaning of a line without tokens in this file
abbrev pub IsMarked : Bool → List ℕ → List ℕ → Step → Type 0
IsMarked flat file text step.Blank = flat ≡ true → (n : ℕ) (name : List ℕ) → IsMarker text n name → ⊥
IsMarked flat file text (step.Renumbered n) = (flat ≡ true) × IsMarker text n file
IsMarked flat file text (step.Moved n name) = (flat ≡ true) × IsMarker text n name.items × (same_name name.items file ≡ false)
IsMarked flat file text step.End = ⊥
IsMarked flat file text (step.Next n s) = ⊥

-- The end, a line without tokens that is no marker, a marker of this file or of another one, or a statement with the number of its line.
abbrev pub IsStep : Bool → List ℕ → List (List ℕ) → List (List ℕ) → LineContext → UnreadLines → UnreadLines → Step → Type 0
IsStep flat file known names c old new step.End = (old.lines ≡ []) × (names ≡ known)
IsStep flat file known names c old new step.Blank = IsBlankNext flat old new × (names ≡ known)
IsStep flat file known names c old new (step.Renumbered n) = MarksNext flat old new n file × (names ≡ known)
IsStep flat file known names c old new (step.Moved n name) = MarksNext flat old new n name.items × (same_name name.items file ≡ false) × (names ≡ known)
IsStep flat file known names c old new (step.Next n s) = (x : Named) × (n ≡ old.number) × NextStatement flat old new c (Ok x) × IsMade known names s x

-- the same at a position: in its tree and its file, after what was read so far
abbrev pub IsStepAt : Position → List (List ℕ) → List (List ℕ) → UnreadLines → UnreadLines → Step → Type 0
IsStepAt p known names old new s = IsStep p.is_flat p.frame.now.file.value.items known names (context_in p.frame.now p.progress.now) old new s

-- the first fault of the line
pub data StepFault (flat : Bool) (c : LineContext) (old : UnreadLines) : Cause → Type 0 where
  too_long : IsTooLong old → StepFault flat c old cause.LineTooLong
  no_tokens : (new : UnreadLines) (ts : List Lexeme) (why : TextFault) → NextLine flat old new ts (Some why) → StepFault flat c old (text_cause why)
  refused_line : (new : UnreadLines) (why : Cause) → NextStatement flat old new c (Err why) → StepFault flat c old why

abbrev pub IsStepRefusal : Bool → List ℕ → LineContext → UnreadLines → Refusal → Type 0
IsStepRefusal flat file c old r = r.cause ≢ cause.Memory → (why : Cause) × StepFault flat c old why × (refusal_view r ≡ refusal_at why file old.number)

abbrev pub IsStepRefusalAt : Position → UnreadLines → Refusal → Type 0
IsStepRefusalAt p old r = IsStepRefusal p.is_flat p.frame.now.file.value.items (context_in p.frame.now p.progress.now) old r
