-- What the blocks, the own lines and the mode ask.
use Rattle.std.proofs.Common.{◌++◌, ap, map, sym, ◌∙◌}
use Rattle.std.specs.List.{filter_map, flat_map}
use Rattle.std.specs.Option.{option_and_then}
use Rattle.std.specs.Prelude.{option_map}
use Rattle.kc_language.specs.Expansion.{last_of}
use Rattle.kc_language.specs.Symbols.{dependency_in}
use Rattle.kc_tree.specs.Layouts.{index_at}
use Rattle.kc_tree.specs.declared.rows.EntryId.{EntryId}
use Rattle.kc_explain.specs.LineViews.{at_entry, lines_of}
use Rattle.kc_explain.specs.PartViews.{asked_of, part_view}
use Rattle.kc_explain.specs.PartsOfExplanations.{block_parts, mode_part}
use Rattle.kc_explain.proofs.LineLemmas.{entry-there}
use Rattle.kc_explain.proofs.PartLemmas.{dependency-is, own-known}
use Rattle.kc_explain.proofs.parts.parts_of.Goals as goal

pub returns : goal.returns
returns c =
    let is = entry-there c.args.layout.now c.args.entry.0 c.args.own.first.now c.requires.first in
    dependency-is c.args.layout.now c.args.entry.0 c.args.own.first.now is c.in_ok-around.around.items (map part_view c.new-parts.result.items) (map part_view c.add_blocks.new.parts.items)
    (map part_view c.add_own.new.parts.items) _ (option_map part_view c.innermost_mode.result)
    c.in_ok-around.ensures
    (ap (map part_view) c.new-parts.ensures.items)
    (c.in_ok-add_blocks.ensures ∙ ap (λ bs. map part_view c.new-parts.result.items ++ flat_map (at_entry c.args.layout.now (block_parts (lines_of c.args.layout.now))) bs) c.deref.ensures.value)
    (c.in_ok-add_own.ensures ∙ ap (λ r. map part_view c.add_blocks.new.parts.items ++ asked_of dependency_in r)
    (own-known c.args.layout.now c.args.entry.0 c.args.own.first.now c.args.own.attributes.now (sym c.requires.first) c.requires.own))
    (c.innermost_mode.ensures
    ∙ ap (λ bs. last_of (filter_map (λ (e : EntryId). option_and_then (mode_part (lines_of c.args.layout.now)) (index_at c.args.layout.now e.0)) bs)) c.deref-2.ensures.value)
    c.in_ok-add_part_of.ensures
