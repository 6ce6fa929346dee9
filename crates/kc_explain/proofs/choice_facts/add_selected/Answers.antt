-- A member that was chosen, and what is selected without it.
use Rattle.std.proofs.Common.{List, Option, [], ap, false, sym, true, append_assoc, ◌++◌, ◌∷◌, ◌∙◌}
use Rattle.std.proofs.lemmas.Result.{on_ok_weaker}
use Rattle.kc_language.specs.declared.expressions.SymId.{SymId}
use Rattle.kc_user.specs.PartsOfConfigFile.{member_place}
use Rattle.kc_explain.specs.ChoiceFacts.{member_told, preset_told, selected_told}
use Rattle.kc_explain.specs.FactLists.{shown}
use Rattle.kc_explain.specs.FactViews.{FactView}
use Rattle.kc_explain.proofs.ChoiceFactLemmas.{selected-member}
use Rattle.kc_explain.proofs.choice_facts.add_selected.Goals as goal

pub returns-then-branch : goal.returns-then-branch
returns-then-branch c =
    c.in_ok-add_chosen-in-Some.ensures.facts ∙ ap (λ (xs : List FactView). shown c.args.t.now c.args.facts.now.items ++ xs)
    (selected-member c.args.t.now c.args.choice.0 c.args.entry c.in-Some.member true (sym c.in_ok-add_chosen-in-Some.ensures.shown ∙ c.if-branch.true)
    ∙ ap (λ (m : Option SymId). selected_told c.args.t.now c.args.choice.0 c.args.entry (member_place m)) (sym c.in-Some.is))

pub returns-else-branch : goal.returns-else-branch
returns-else-branch c =
    on_ok_weaker c.add_preset.result
    (λ e. e ∙ ap (λ (xs : List FactView). xs ++ preset_told c.args.t.now c.args.choice.0 c.args.entry) c.in_ok-add_chosen-in-Some.ensures.facts
    ∙ append_assoc (shown c.args.t.now c.args.facts.now.items) (member_told c.args.t.now c.in-Some.member ∷ []) (preset_told c.args.t.now c.args.choice.0 c.args.entry)
    ∙ ap (λ (xs : List FactView). shown c.args.t.now c.args.facts.now.items ++ xs)
    (selected-member c.args.t.now c.args.choice.0 c.args.entry c.in-Some.member false (sym c.in_ok-add_chosen-in-Some.ensures.shown ∙ c.if-branch.false)
    ∙ ap (λ (m : Option SymId). selected_told c.args.t.now c.args.choice.0 c.args.entry (member_place m)) (sym c.in-Some.is))) c.add_preset.ensures
