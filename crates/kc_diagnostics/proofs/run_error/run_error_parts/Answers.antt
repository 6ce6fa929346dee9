-- The limit that the text tells, in digits.
use Rattle.std.specs.Fmt.{digits}
use Rattle.std.proofs.Common.{ap, sym}
use Rattle.kc_language.specs.Statements.{run_error_text}
use Rattle.kc_diagnostics.specs.RunErrors.{shown_run_error}
use Rattle.kc_diagnostics.proofs.run_error.run_error_parts.Goals as goal

pub returns-in-LineTooLong : goal.returns-in-LineTooLong
unfolding digits
returns-in-LineTooLong c = sym (ap (λ x. run_error_text (shown_run_error x)) c.in-LineTooLong.is)
