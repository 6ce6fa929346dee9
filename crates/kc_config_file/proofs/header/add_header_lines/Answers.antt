use Rattle.std.proofs.Common.{ap, arith, length, ◌≤◌}
use Rattle.kc_language.specs.{Symbols.TreeFacts, Texts.solution_view}
use Rattle.kc_config_file.specs.PartsOfTexts.{header_if}
use Rattle.kc_config_file.proofs.TextLemmas.{grows, is_grown, symbols_end, symbols_next}
use Rattle.kc_input.proofs.DefinedLemmas.{defined_named}
use Rattle.kc_config_file.proofs.header.add_header_lines.Goals as goal

pub add_header_if-requires : goal.add_header_if-requires
add_header_if-requires c = defined_named c.args.solved.now.tree (rw c.tree-tree.ensures at c.symbol_count-i-end.ensures.formed) c.loop-i.i c.symbol.result (rw c.tree-tree.ensures at c.symbol.ensures)

pub loop-i-preserved : goal.loop-i-preserved
loop-i-preserved c =
    let next = symbols_next c.args.solved.now.tree (header_if c.args.solved.now.tree c.args.prefix.now (solution_view c.args.solved.now)) c.loop-i.i c.symbol.result (rw c.tree-tree.ensures at c.symbol.ensures) in
    grows _ _ _ _ _ _ c.loop-i.invariant next c.in_ok-add_header_if.ensures

pub returns : goal.returns
returns c =
    let all : length c.args.solved.now.tree.defined ≤ c.loop-i.i = omega (arith, ap (λ (t : TreeFacts). length t.defined) c.tree-tree.ensures) in
    is_grown _ _ _ c.loop-i.invariant (symbols_end c.args.solved.now.tree (header_if c.args.solved.now.tree c.args.prefix.now (solution_view c.args.solved.now)) c.loop-i.i all)
