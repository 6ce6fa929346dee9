-- Its mode, its prompt, and what it selects unless the mode is n.
use Rattle.std.proofs.Common.{List, ap, false, sym, true, append-nil, append_assoc, ◌++◌, ◌∙◌}
use Rattle.std.proofs.lemmas.Result.{on_ok_weaker}
use Rattle.kc_explain.specs.ChoiceFacts.{mode_told, selection_told}
use Rattle.kc_explain.specs.FactLists.{prompts_at, shown}
use Rattle.kc_explain.specs.FactViews.{FactView}
use Rattle.kc_explain.specs.LineViews.{at_entry, line_view}
use Rattle.kc_explain.proofs.ChoiceFactLemmas.{choice-by}
use Rattle.kc_explain.proofs.choice_facts.add_choice_by.Goals as goal

pub returns-then-is_n : goal.returns-then-is_n
returns-then-is_n c =
    let mode = mode_told c.args.t.now c.args.entry (line_view c.args.line) c.mode-mode.result in
    let prompts = at_entry c.args.t.now.layout.now (prompts_at c.args.t.now) c.args.entry in
    c.in_ok-add_prompt_at.ensures ∙ ap (λ (xs : List FactView). xs ++ at_entry c.args.t.now.layout.now (prompts_at c.args.t.now) c.args.entry) c.in_ok-add_mode.ensures
    ∙ append_assoc (shown c.args.t.now c.args.facts.now.items) mode prompts
    ∙ ap (λ (xs : List FactView). shown c.args.t.now c.args.facts.now.items ++ xs)
    (sym (append-nil (mode ++ prompts))
    ∙ choice-by c.args.t.now c.args.choice.0 c.args.entry (line_view c.args.line) c.mode-mode.result true c.mode-mode.ensures (sym c.is_n.ensures ∙ c.if-is_n.true))

pub returns-else-is_n : goal.returns-else-is_n
returns-else-is_n c =
    let mode = mode_told c.args.t.now c.args.entry (line_view c.args.line) c.mode-mode.result in
    let prompts = at_entry c.args.t.now.layout.now (prompts_at c.args.t.now) c.args.entry in
    on_ok_weaker c.add_selection.result
    (λ e. e ∙ ap (λ (xs : List FactView). xs ++ selection_told c.args.t.now c.args.choice.0 c.args.entry)
    (c.in_ok-add_prompt_at.ensures ∙ ap (λ (xs : List FactView). xs ++ at_entry c.args.t.now.layout.now (prompts_at c.args.t.now) c.args.entry) c.in_ok-add_mode.ensures
    ∙ append_assoc (shown c.args.t.now c.args.facts.now.items) mode prompts)
    ∙ append_assoc (shown c.args.t.now c.args.facts.now.items) (mode ++ prompts) (selection_told c.args.t.now c.args.choice.0 c.args.entry)
    ∙ ap (λ (xs : List FactView). shown c.args.t.now c.args.facts.now.items ++ xs)
    (choice-by c.args.t.now c.args.choice.0 c.args.entry (line_view c.args.line) c.mode-mode.result false c.mode-mode.ensures (sym c.is_n.ensures ∙ c.if-is_n.false))) c.add_selection.ensures
