use Rattle.kc_language.specs.declared.expressions.Tri.TheVariants.{N, M, Y}
use Rattle.kc_read.proofs.ConstantLemmas.{form-constant}
use Rattle.kc_read.proofs.constants.Constants.of.Goals as goal

pub returns-in-N : goal.returns-in-N
returns-in-N c = rw c.in-N.is (form-constant N c.args.self.now.no.value c.args.self.now.no_is)

pub returns-in-M : goal.returns-in-M
returns-in-M c = rw c.in-M.is (form-constant M c.args.self.now.modular.value c.args.self.now.modular_is)

pub returns-in-Y : goal.returns-in-Y
returns-in-Y c = rw c.in-Y.is (form-constant Y c.args.self.now.yes.value c.args.self.now.yes_is)
