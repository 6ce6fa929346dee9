use Rattle.std.proofs.Common.{refl, sym}
use Rattle.kc_values.specs.NeedRows.{last_line, selectors}
use Rattle.kc_values.proofs.WalkSteps.{lines_last_at, lines_less, lines_next, lines_next_at, lines_none}
use Rattle.kc_values.proofs.needs.selectors_into.Goals as goal

pub lines-init : goal.lines-init
lines-init c =
    let l = c.args.layout.now in
    rw c.last_line-at.ensures (record { nodes_are = refl; names_are = refl }, lines_last_at l c.args.word c.args.id.0 c.args.symbol.now c.requires.row)

pub lines-preserved : goal.lines-preserved
lines-preserved c =
    let l = c.args.layout.now in
    let w = c.args.word in
    let s = c.args.id in
    let is = sym c.in-Some.ensures in (
      lines_next l w s c.args.out.now (selectors l w s (last_line c.args.symbol.now w)) c.lines.at.0 c.in-Some.line.now c.lines.out c.selector_into.new.out is c.lines.invariant.1 c.lines.invariant.0
          c.in_ok-selector_into.ensures,
      lines_next_at l w s c.lines.at.0 c.in-Some.line.now is c.lines.invariant.1,
    )

pub lines-smaller : goal.lines-smaller
lines-smaller c = lines_less c.args.layout.now c.args.word c.args.id c.lines.at.0 c.in-Some.line.now (sym c.in-Some.ensures) c.lines.invariant.1

pub returns : goal.returns
returns c =
    let l = c.args.layout.now in
    lines_none l c.args.word c.args.id c.args.out.now (selectors l c.args.word c.args.id (last_line c.args.symbol.now c.args.word)) c.lines.at.0 c.lines.out (sym c.in_default.ensures) c.lines.invariant.1
    c.lines.invariant.0
