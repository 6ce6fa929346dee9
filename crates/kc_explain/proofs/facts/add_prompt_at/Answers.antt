-- The prompt of an entry, if there is one.
use Rattle.std.proofs.Common.{List, None, Some, ap, sym, append-nil, ◌++◌, ◌∙◌}
use Rattle.std.proofs.lemmas.Result.{on_ok_weaker}
use Rattle.kc_explain.specs.FactLists.{prompt_told, shown}
use Rattle.kc_explain.specs.FactViews.{FactView}
use Rattle.kc_explain.specs.PartViews.{prompt_said}
use Rattle.kc_explain.proofs.FactLemmas.{none-added, prompt-told}
use Rattle.kc_explain.proofs.facts.add_prompt_at.Goals as goal

pub returns-in-None : goal.returns-in-None
returns-in-None c =
    none-added (shown c.args.t.now c.args.facts.now.items) _ (prompt-told c.args.t.now.layout.now c.args.t.now.solved.now c.args.t.now.input.now c.args.entry.0 None c.in-None.ensures)

pub returns-in-Some : goal.returns-in-Some
returns-in-Some c =
    on_ok_weaker c.add_prompt.result (λ e. e ∙ ap (λ (xs : List FactView). shown c.args.t.now c.args.facts.now.items ++ xs)
    (sym (append-nil (prompt_told c.args.t.now c.args.entry (prompt_said c.in-Some.prompt)))
    ∙ prompt-told c.args.t.now.layout.now c.args.t.now.solved.now c.args.t.now.input.now c.args.entry.0 (Some (prompt_said c.in-Some.prompt)) c.in-Some.ensures)) c.add_prompt.ensures
