use Rattle.std.proofs.Common.{◌∙◌, ap, sym}
use Rattle.std.specs.Option.{option_and_then}
use Rattle.kc_tree.specs.Places.{mode_view}
use Rattle.kc_language.specs.Symbols.{SymbolFacts}
use Rattle.kc_input.proofs.StepLemmas.{choice_there}
use Rattle.kc_input.proofs.step.choice_of.Goals as goal

pub returns-in-Some-clause-choice : goal.returns-in-Some-clause-choice
returns-in-Some-clause-choice c = ap mode_view c.get.ensures ∙ c.in-Some.ensures.2.choice ∙ sym (ap (option_and_then (λ (f : SymbolFacts). f.choice)) c.in-Some.ensures.1)

pub returns-in-Some-clause-there : goal.returns-in-Some-clause-there
returns-in-Some-clause-there c =
    choice_there c.args.tree.now c.args.id.0 c.in-Some.ensures.0 c.get.result c.name_count.ensures.formed c.in-Some.ensures.1 (ap mode_view c.get.ensures ∙ c.in-Some.ensures.2.choice)

pub returns-in-None-clause-choice : goal.returns-in-None-clause-choice
returns-in-None-clause-choice c = sym (ap (option_and_then (λ (f : SymbolFacts). f.choice)) c.in-None.ensures)
