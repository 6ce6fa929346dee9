use Rattle.std.proofs.Common.{◌∙◌, ap, sym}
use Rattle.kc_language.specs.Values.{type_in}
use Rattle.kc_input.proofs.effect.type_of.Goals as goal

pub returns-in-Some : goal.returns-in-Some
returns-in-Some c = c.in-Some.ensures.2.symbol_type ∙ sym (ap type_in c.in-Some.ensures.1)

pub returns-in-None : goal.returns-in-None
returns-in-None c = sym (ap type_in c.in-None.ensures)
