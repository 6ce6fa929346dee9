-- The lines of an entry that is there.
use Rattle.std.proofs.Common.{ap, ◌++◌, ◌∙◌}
use Rattle.std.proofs.lemmas.Result.{on_ok_weaker}
use Rattle.std.specs.List.{flat_map}
use Rattle.kc_explain.specs.RangeViews.{line_told}
use Rattle.kc_explain.proofs.PartLemmas.{own-flat, own-known}
use Rattle.kc_explain.proofs.range_lines.add_at.Goals as goal

pub returns-in-Some : goal.returns-in-Some
returns-in-Some c =
    let line = line_told c.args.t.now.is_raw c.args.t.now.solved.now.tree c.args.wanted.now in
    on_ok_weaker c.add_own.result
    (λ e. e ∙ ap (λ r. c.args.text.now.items ++ r)
    (own-flat line c.in-Some.own.first.now c.in-Some.own.attributes.now ∙ ap (flat_map line)
    (own-known c.args.t.now.layout.now c.args.entry.0 c.in-Some.own.first.now c.in-Some.own.attributes.now c.in-Some.ensures.first c.in-Some.ensures.own))) c.add_own.ensures
