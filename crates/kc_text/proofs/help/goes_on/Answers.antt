-- Why `goes_on` keeps its contract.
use Rattle.std.proofs.{Common.sym, lemmas.{Bool.Decides.Decides-eqb, Slice.Eq.starts_is}}
use Rattle.kc_text.proofs.Helps.{begins_help_line}
use Rattle.kc_text.proofs.help.goes_on.Goals as goal

pub returns-then-same_few : goal.returns-then-same_few
returns-then-same_few c =
    let begins = (starts_is Decides-eqb c.args.text.now c.args.blanks.now c.same_few.result c.same_few.ensures).0 c.if-same_few.true in
    sym (begins_help_line c.args.text.now c.args.blanks.now _ c.args.indent c.requires begins)
