-- The prompt, and its parts.
use Rattle.std.proofs.Common.{Some, ap, map, ◌∷◌, ◌∙◌}
use Rattle.std.proofs.lemmas.Result.{on_ok_weaker}
use Rattle.kc_language.specs.Expressions.{lesser}
use Rattle.kc_explain.specs.FactLists.{parts_told}
use Rattle.kc_explain.specs.FactViews.{PromptIs}
use Rattle.kc_explain.specs.LineViews.{line_view}
use Rattle.kc_explain.specs.PartViews.{part_view, parts_value}
use Rattle.kc_explain.proofs.FactLemmas.{pushed-first}
use Rattle.kc_explain.proofs.facts.add_prompt.Goals as goal

pub returns : goal.returns
returns c =
    let first = c.parts_value.ensures ∙ ap (parts_value c.args.t.now.solved.now) (ap (map part_view) c.deref.ensures.value ∙ c.in_ok-parts.ensures) in
    let second = c.parts_value-2.ensures ∙ ap (parts_value c.args.t.now.solved.now) (ap (map part_view) c.deref-2.ensures.value ∙ c.in_ok-shown.ensures) in
    let parts = ap (map part_view) c.deref-3.ensures.value ∙ c.in_ok-shown.ensures in
    on_ok_weaker c.add_parts.result (λ e. pushed-first c.args.t.now c.args.facts.now.items _ _ c.in_ok-push.ensures.items _ _ _ e
    (λ j. PromptIs (Some (line_view c.args.prompt.now.line)) ((c.lesser.ensures ∙ (λ k. lesser (first k) (second k))) j) ∷ parts_told c.args.t.now.solved.now (parts j))) c.add_parts.ensures
