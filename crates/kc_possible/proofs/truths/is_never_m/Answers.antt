use denote.Enum.Bare.{same_false}
use Rattle.std.proofs.Common.{sym, ◌∙◌}
use Rattle.kc_language.specs.{Values.facts, contracts.expressions.SymbolType.the_type, declared.expressions.SymbolType.TheVariants.Tristate}
use Rattle.kc_possible.proofs.ModuleLemmas.{equation-m}
use Rattle.kc_possible.proofs.truths.is_never_m.Goals as goal

pub returns-then-eq : goal.returns-then-eq
returns-then-eq c off user known allowed is =
    let tree = c.args.p.now.laid.tree.now in
    equation-m tree known c.args.id user (facts tree c.args.id) (λ e. c.is_without_modules.ensures off known allowed) is

pub returns : goal.returns
returns c always user known allowed is =
    let tree = c.args.p.now.laid.tree.now in
    equation-m tree known c.args.id user (facts tree c.args.id)
    (λ e. absurd (same_false the_type c.type_of.result Tristate (sym c.if-eq.ensures) (c.type_of.ensures ∙ e))) is
