use Rattle.std.proofs.Common.{ap, arith, length, refl, ◌≤◌}
use Rattle.kc_language.specs.{Symbols.TreeFacts, Texts.{minimal_text, solution_view}}
use Rattle.kc_expr.proofs.NamesLemmas.{on_err}
use Rattle.kc_config_file.specs.PartsOfTexts.{minimal_if}
use Rattle.kc_config_file.proofs.TextLemmas.{grows, grows_some, is_grown, symbols_end, symbols_next}
use Rattle.kc_input.proofs.DefinedLemmas.{defined_named}
use Rattle.kc_config_file.proofs.header.minimal_text.Goals as goal

pub loop-i-init : goal.loop-i-init
unfolding minimal_text
loop-i-init c = rw c.new-file.ensures.items refl

pub add_minimal_if-requires-clause-named : goal.add_minimal_if-requires-clause-named
add_minimal_if-requires-clause-named c = defined_named c.args.solved.now.tree (rw c.tree-tree.ensures at c.symbol_count-i-end.ensures.formed) c.loop-i.i c.symbol.result (rw c.tree-tree.ensures at c.symbol.ensures)

pub add_minimal_if-requires-clause-mentioned : goal.add_minimal_if-requires-clause-mentioned
add_minimal_if-requires-clause-mentioned c =
    let there = defined_named c.args.solved.now.tree (rw c.tree-tree.ensures at c.symbol_count-i-end.ensures.formed) c.loop-i.i c.symbol.result (rw c.tree-tree.ensures at c.symbol.ensures) in
    omega (arith, there, (rw c.tree-tree.ensures at c.symbol_count-i-end.ensures.formed).symbols_named)

pub loop-i-preserved : goal.loop-i-preserved
loop-i-preserved c =
    let next = symbols_next c.args.solved.now.tree (minimal_if c.args.solved.now.tree c.args.prefix.now (solution_view c.args.solved.now)) c.loop-i.i c.symbol.result (rw c.tree-tree.ensures at c.symbol.ensures) in
    grows _ _ _ _ _ _ c.loop-i.invariant next c.in_ok-add_minimal_if.ensures.line

pub returns-clause-text : goal.returns-clause-text
returns-clause-text c =
    let all : length c.args.solved.now.tree.defined ≤ c.loop-i.i = omega (arith, ap (λ (t : TreeFacts). length t.defined) c.tree-tree.ensures) in
    is_grown _ _ _ c.loop-i.invariant (symbols_end c.args.solved.now.tree (minimal_if c.args.solved.now.tree c.args.prefix.now (solution_view c.args.solved.now)) c.loop-i.i all)

pub returns-in_err-add_minimal_if-clause-some : goal.returns-in_err-add_minimal_if-clause-some
returns-in_err-add_minimal_if-clause-some c =
    let next = symbols_next c.args.solved.now.tree (minimal_if c.args.solved.now.tree c.args.prefix.now (solution_view c.args.solved.now)) c.loop-i.i c.symbol.result (rw c.tree-tree.ensures at c.symbol.ensures) in
    on_err c.from_residual.result _ (grows_some _ _ _ _ _ c.loop-i.invariant next c.in_err-add_minimal_if.ensures.some)
