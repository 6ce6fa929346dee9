-- What an entry that is there depends on.
use Rattle.std.proofs.Common.{ap, map, sym, ◌∙◌}
use Rattle.std.proofs.lemmas.Result.{on_ok_weaker}
use Rattle.kc_explain.specs.FactLists.{dependency_at, shown}
use Rattle.kc_explain.specs.LineViews.{line_view}
use Rattle.kc_explain.specs.PartViews.{part_view, parts_value}
use Rattle.kc_explain.proofs.FactLemmas.{dependency-told, none-added, pushed-first}
use Rattle.kc_explain.proofs.LineLemmas.{line-none}
use Rattle.kc_explain.proofs.facts.add_dependency.Goals as goal

pub returns-in_ok-push-in-Some : goal.returns-in_ok-push-in-Some
returns-in_ok-push-in-Some c =
    on_ok_weaker c.add_parts.result (λ e. pushed-first c.args.t.now c.args.facts.now.items _ _ c.in_ok-push-in-Some.ensures.items _ _ _ e
    (dependency-told c.args.t.now.layout.now c.args.t.now.solved.now c.args.t.now.input.now c.args.entry.0 (line_view c.in-Some.line) (map part_view c.deref-in-Some.result.now) c.parts_value-value.result c.in-Some.ensures
    (ap (map part_view) c.deref-in-Some.ensures.value ∙ c.in_ok-parts-in-Some.ensures)
    (c.parts_value-value.ensures ∙ ap (λ ps. parts_value c.args.t.now.solved.now (map part_view ps)) (c.deref.ensures.value ∙ sym c.deref-in-Some.ensures.value)))) c.add_parts.ensures

pub returns-in-None : goal.returns-in-None
returns-in-None c = none-added (shown c.args.t.now c.args.facts.now.items) _ (line-none c.args.t.now.layout.now (dependency_at c.args.t.now) c.args.entry.0 c.in-None.ensures)
