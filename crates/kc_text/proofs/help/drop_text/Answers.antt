-- Why `drop_text` keeps its contract.
use Rattle.std.proofs.{Common.sym, lemmas.Bool.eqb-true}
use Rattle.std.specs.Prelude.{Some}
use Rattle.kc_language.specs.Lines.{is_help_line}
use Rattle.kc_text.proofs.{Helps.dropping_ends, LongLineLemmas.long_in_end}
use Rattle.kc_text.proofs.help.drop_text.Goals as goal

pub returns-clause-drops : goal.returns-clause-drops
returns-clause-drops c = dropping_ends c.args.rest.now c.dropped.after.now (is_help_line (Some c.args.indent)) c.args.number c.dropped.next c.dropped.invariant.0 (eqb-true _ 0 (sym c.dropped-test.ensures))

pub first_seen-seen-requires-clause-long : goal.first_seen-seen-requires-clause-long
first_seen-seen-requires-clause-long c = long_in_end c.args.rest.now c.dropped.after.now c.args.long.now c.dropped.invariant.1 c.requires.long
