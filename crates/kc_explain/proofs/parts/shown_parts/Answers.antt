-- What the menus ask of what is visible, and then the prompt's own condition.
use Rattle.std.proofs.Common.{◌++◌, Some, ap, map, ◌∙◌}
use Rattle.std.specs.List.{flat_map}
use Rattle.kc_explain.specs.LineViews.{at_entry, line_view, lines_of}
use Rattle.kc_explain.specs.PartViews.{part_view, worth_parts}
use Rattle.kc_explain.specs.PartsOfExplanations.{visible_parts}
use Rattle.kc_explain.proofs.PartLemmas.{shown-is}
use Rattle.kc_explain.proofs.parts.shown_parts.Goals as goal

pub returns : goal.returns
returns c =
    shown-is c.args.layout.now c.args.entry.0 c.in_ok-around.around.items (map part_view c.new-parts.result.items) (map part_view c.add_menus.new.parts.items) _ _
    c.in_ok-around.ensures
    (ap (map part_view) c.new-parts.ensures.items)
    (c.in_ok-add_menus.ensures ∙ ap (λ bs. map part_view c.new-parts.result.items ++ flat_map (at_entry c.args.layout.now (visible_parts (lines_of c.args.layout.now))) bs) c.deref.ensures.value)
    (c.in_ok-add_worth.ensures ∙ ap (λ w. map part_view c.add_menus.new.parts.items ++ worth_parts (Some (line_view c.args.prompt.now.line)) w) c.condition.ensures)
