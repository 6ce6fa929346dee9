use Rattle.std.proofs.Common.{List, arith}
use Rattle.std.specs.List.{flat_map}
use Rattle.kc_language.specs.{Statements.Numbered, Symbols.visible_in, declared.expressions.SymId.SymId}
use Rattle.kc_tree.specs.{EntryViews.statements_of, Layouts.outer_visible}
use Rattle.kc_values.specs.{MadeRows.Adds, NeedRows.{named, visible, when_names}}
use Rattle.kc_values.proofs.RowSteps.{adds_both, lines_added}
use Rattle.kc_values.proofs.needs.visible_row_into.Goals as goal

pub returns : goal.returns
returns c =
    let l = c.args.layout.now in
    let names : Numbered → List SymId = λ line. when_names l.modules (visible_in line) in
    let items = c.attributes-line-items.result.now in
    let lines : Adds c.visible_into.new.out c.loop-line.out (named (flat_map names (statements_of items))) =
    lines_added names c.visible_into.new.out c.loop-line.out items c.loop-line.line-index (omega arith) c.loop-line.invariant.0 c.loop-line.invariant.1 in
    let first : Adds c.args.out.now c.visible_into.new.out (visible l (outer_visible l c.args.menu.0)) = rw (← c.outer_visible.ensures) c.in_ok-visible_into.ensures in
    let all = adds_both c.args.out.now c.visible_into.new.out c.loop-line.out (visible l (outer_visible l c.args.menu.0)) (named (flat_map names (statements_of items))) first lines in
    rw c.attributes-line-items.ensures at all
