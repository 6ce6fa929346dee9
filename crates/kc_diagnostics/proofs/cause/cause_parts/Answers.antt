-- The limits that the texts tell, in digits, and a word between two texts.
use Rattle.std.specs.Fmt.{digits}
use Rattle.std.proofs.Common.{ap, refl, sym}
use Rattle.kc_language.specs.Statements.{cause_text}
use Rattle.kc_diagnostics.specs.Causes.{owned_cause}
use Rattle.kc_diagnostics.proofs.cause.cause_parts.Goals as goal

pub returns-in-TooManyLines : goal.returns-in-TooManyLines
unfolding digits
returns-in-TooManyLines c = sym (ap (λ x. cause_text (owned_cause x)) c.in-TooManyLines.is)

pub returns-in-LineTooLong : goal.returns-in-LineTooLong
unfolding digits
returns-in-LineTooLong c = sym (ap (λ x. cause_text (owned_cause x)) c.in-LineTooLong.is)

pub returns-in-LeftOut : goal.returns-in-LeftOut
returns-in-LeftOut c = rw (c.in-LeftOut.is, c.deref-in-LeftOut.ensures.value) refl

pub returns-in-TooManySymbols : goal.returns-in-TooManySymbols
unfolding digits
returns-in-TooManySymbols c = sym (ap (λ x. cause_text (owned_cause x)) c.in-TooManySymbols.is)
