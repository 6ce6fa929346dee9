-- What holds at each turn of the loop of `drop_help`.
use Rattle.std.proofs.Common.{length}
use Rattle.std.specs.Prelude.{None}
use Rattle.kc_language.specs.Lines.{is_help_line, physical_lines}
use Rattle.kc_text.specs.LongLines.{IsEndOf}
use Rattle.kc_text.proofs.Helps.{IsDropping}
use Rattle.kc_text.proofs.help.drop_help.Given as goal

abbrev pub invariant-blank : goal.invariant-blank
invariant-blank l = IsDropping (is_help_line None) (physical_lines l.rest) (physical_lines l.after) l.number l.next × IsEndOf l.rest l.after

abbrev pub decreases-blank : goal.decreases-blank
decreases-blank l = length l.after
