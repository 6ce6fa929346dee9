-- The mode, and the parts.
use Rattle.std.proofs.Common.{ap, map, ◌∷◌, ◌∙◌}
use Rattle.std.proofs.lemmas.Result.{on_ok_weaker}
use Rattle.kc_explain.specs.FactLists.{parts_told}
use Rattle.kc_explain.specs.FactViews.{ModeIs}
use Rattle.kc_explain.specs.LineViews.{line_view}
use Rattle.kc_explain.specs.PartViews.{part_view}
use Rattle.std.proofs.Common.{Some}
use Rattle.kc_explain.proofs.FactLemmas.{pushed-first}
use Rattle.kc_explain.proofs.choice_facts.add_mode.Goals as goal

pub returns : goal.returns
returns c =
    on_ok_weaker c.add_parts.result (λ e. pushed-first c.args.t.now c.args.facts.now.items _ _ c.in_ok-push.ensures.items _ _ _ e
    (ap (λ ps. ModeIs (Some (line_view c.args.line)) c.args.mode ∷ parts_told c.args.t.now.solved.now ps) (ap (map part_view) c.deref.ensures.value ∙ c.in_ok-parts.ensures))) c.add_parts.ensures
