use Rattle.std.proofs.{Common.{subst, sym}, lemmas.Result.IfOk-weaker}
use Rattle.kc_language.specs.ConfigFile.{symbol_named}
use Rattle.kc_input.specs.EffectView.{AssignsDefined}
use Rattle.kc_input.proofs.StepLemmas.{set_defined}
use Rattle.kc_input.proofs.effect.line_effect.Goals as goal

pub returns-in-Set-clause-defined : goal.returns-in-Set-clause-defined
returns-in-Set-clause-defined c =
    let tree = c.args.tree.now in
    let name = c.in-Set.name.now in
    IfOk-weaker c.set_effect.result _ _
    (λ effect is. subst (AssignsDefined tree) (sym is) (set_defined c.args.is_raw tree name c.in-Set.text.now (symbol_named tree name)))
    c.set_effect.ensures
