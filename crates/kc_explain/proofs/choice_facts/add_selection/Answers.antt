-- The member that was chosen, and what is selected.
use Rattle.std.proofs.Common.{ap, ◌∷◌, ◌∙◌}
use Rattle.std.proofs.lemmas.Result.{on_ok_weaker}
use Rattle.kc_language.specs.Values.{ChoicePlace}
use Rattle.kc_explain.specs.ChoiceFacts.{choosing_line, selected_told}
use Rattle.kc_explain.specs.FactViews.{UserGave}
use Rattle.kc_explain.proofs.FactLemmas.{pushed-first}
use Rattle.kc_explain.proofs.choice_facts.add_selection.Goals as goal

pub returns : goal.returns
returns c =
    on_ok_weaker c.add_selected.result (λ e. pushed-first c.args.t.now c.args.facts.now.items _ _ c.in_ok-push.ensures.items _ _ _ e
    (λ j. UserGave ((c.choosing_line.ensures ∙ ap (choosing_line c.args.t.now.input.now) c.chosen_member-member.ensures) j) (ChoicePlace c.args.choice.0) (c.chosen_member-member.ensures j)
    ∷ selected_told c.args.t.now c.args.choice.0 c.args.entry (c.chosen_member-member.ensures j))) c.add_selected.ensures
