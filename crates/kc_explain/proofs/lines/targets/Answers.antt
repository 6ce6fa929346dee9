-- One line more, and all.
use Rattle.std.proofs.Common.{Bor, ap, refl, sym, ◌∙◌}
use Rattle.std.specs.Prelude.{option_map}
use Rattle.kc_tree.specs.declared.rows.Selector.{Selector}
use Rattle.kc_explain.proofs.TargetLemmas.{walk-begins, walk-ends, walk-goes, walk-lower}
use Rattle.kc_explain.proofs.lines.targets.Goals as goal

pub lines-init : goal.lines-init
lines-init c = walk-begins c.args.layout.now c.args.word c.args.id c.last_target-next.result.0 _ c.last_target-next.ensures c.new-all.ensures.items

pub lines-smaller : goal.lines-smaller
lines-smaller c =
    walk-lower c.args.layout.now c.args.word c.args.id c.lines.next.0 c.in-Some.row.now.next.0 c.in-Some.row.now c.lines.all.items (sym c.in-Some.ensures) c.lines.invariant refl

pub lines-preserved : goal.lines-preserved
lines-preserved c =
    walk-goes c.args.layout.now c.args.word c.args.id c.lines.next.0 c.in-Some.row.now.next.0 c.in-Some.row.now c.lines.all.items _ c.target_of_row.result (sym c.in-Some.ensures) c.lines.invariant
    c.target_of_row.ensures c.in_ok-add_target.ensures refl

pub returns : goal.returns
returns c = walk-ends c.args.layout.now c.args.word c.args.id c.lines.next.0 c.lines.all.items _ (sym c.selector.ensures ∙ ap (option_map (λ (r : Bor Selector). r.now)) c.in_default.is) c.lines.invariant c.reverse.ensures.items
