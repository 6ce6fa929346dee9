-- The default that counts, or the members.
use Rattle.std.proofs.Common.{List, ap, false, sym, true, append-nil, append_assoc, ◌++◌, ◌∙◌}
use Rattle.std.proofs.lemmas.Result.{on_ok_weaker}
use Rattle.kc_outcome.specs.Explanations.{through}
use Rattle.kc_explain.specs.ChoiceFacts.{members_in, members_told, stated_told}
use Rattle.kc_explain.specs.FactLists.{shown}
use Rattle.kc_explain.specs.FactViews.{FactView}
use Rattle.kc_explain.specs.StatedFacts.{counts}
use Rattle.kc_explain.proofs.ChoiceFactLemmas.{preset-by}
use Rattle.kc_explain.proofs.choice_facts.add_preset.Goals as goal

pub returns-then-branch : goal.returns-then-branch
returns-then-branch c =
    c.in_ok-add_stated_at.ensures.facts ∙ ap (λ (xs : List FactView). shown c.args.t.now c.args.facts.now.items ++ xs)
    (sym (append-nil (through counts (stated_told c.args.t.now c.args.choice.0 c.args.entry))) ∙ preset-by c.args.t.now c.args.choice.0 c.args.entry true (sym c.in_ok-add_stated_at.ensures.met ∙ c.if-branch.true))

pub returns : goal.returns
returns c =
    on_ok_weaker c.add_members.result
    (λ e. e ∙ (λ j. c.in_ok-add_stated_at.ensures.facts j ++ members_told c.args.t.now (c.members_of.ensures j))
    ∙ append_assoc (shown c.args.t.now c.args.facts.now.items) (through counts (stated_told c.args.t.now c.args.choice.0 c.args.entry)) (members_told c.args.t.now (members_in c.args.t.now.layout.now c.args.choice.0))
    ∙ ap (λ (xs : List FactView). shown c.args.t.now c.args.facts.now.items ++ xs) (preset-by c.args.t.now c.args.choice.0 c.args.entry false (sym c.in_ok-add_stated_at.ensures.met ∙ c.if-branch.false))) c.add_members.ensures
