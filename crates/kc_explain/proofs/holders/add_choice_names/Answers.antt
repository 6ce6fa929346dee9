-- Those of what the choice depends on, and those of its prompt, if there is one.
use Rattle.std.proofs.Common.{◌++◌, None, Some, ap, append-nil, map, sym, ◌∙◌}
use Rattle.std.proofs.lemmas.Result.{on_ok_weaker}
use Rattle.kc_explain.specs.PartViews.{part_view, prompt_said}
use Rattle.kc_explain.proofs.HoldingLemmas.{choice-names}
use Rattle.kc_explain.proofs.holders.add_choice_names.Goals as goal

pub returns-in-Some : goal.returns-in-Some
returns-in-Some c =
    on_ok_weaker c.add_shown_worth.result
    (λ n. choice-names c.args.layout.now c.args.solved.now c.args.entry (Some (prompt_said c.in-Some.prompt)) c.args.all.now.items c.add_all_worth_names.new.all.items _ (map part_view c.deref.result.now)
    (ap (map part_view) c.deref.ensures.value ∙ c.in_ok-parts.ensures) c.in_ok-add_all_worth_names.ensures c.in-Some.ensures
    (n ∙ ap (λ r. c.add_all_worth_names.new.all.items ++ r) (sym (append-nil _))))
    c.add_shown_worth.ensures

pub returns : goal.returns
returns c =
    choice-names c.args.layout.now c.args.solved.now c.args.entry None c.args.all.now.items c.add_all_worth_names.new.all.items _ (map part_view c.deref.result.now)
    (ap (map part_view) c.deref.ensures.value ∙ c.in_ok-parts.ensures) c.in_ok-add_all_worth_names.ensures c.in-None.ensures (sym (append-nil _))
