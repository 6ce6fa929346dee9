use Rattle.kc_read.specs.Files.{FileTable, files_in}
use Rattle.std.proofs.Common.{◌≡◌, ◌∙◌, ◌++◌, ◌≤◌, List, length, ap, arith, refl, ℕ}
use Rattle.kc_language.specs.Symbols.{TreeFacts}
use Rattle.kc_language.specs.Texts.{solution_view}
use Rattle.kc_language.specs.declared.expressions.SymId.{SymId}
use Rattle.kc_config_file.proofs.TextLemmas.{symbols_next, symbols_end, grows, is_grown}
use Rattle.kc_input.proofs.DefinedLemmas.{defined_named}
use Rattle.kc_entries.specs.Entries.{lines_in}
use Rattle.kc_conf.specs.PartsOfExplanations.{new_with_help}
use Rattle.kc_conf.proofs.new_symbols.new_text_with_help.Goals as goal

pub loop-i-init : goal.loop-i-init
loop-i-init c = (c.new-reader.ensures, rw c.new-text.ensures.items refl)

pub add_new_with_help-requires-clause-named : goal.add_new_with_help-requires-clause-named
add_new_with_help-requires-clause-named c =
    defined_named c.args.solved.now.tree (rw c.tree-tree.ensures at c.symbol_count-i-end.ensures.formed) c.loop-i.i c.symbol-id.result (rw c.tree-tree.ensures at c.symbol-id.ensures)

pub add_new_with_help-requires-clause-mentioned : goal.add_new_with_help-requires-clause-mentioned
add_new_with_help-requires-clause-mentioned c =
    let there = defined_named c.args.solved.now.tree (rw c.tree-tree.ensures at c.symbol_count-i-end.ensures.formed) c.loop-i.i c.symbol-id.result (rw c.tree-tree.ensures at c.symbol-id.ensures) in
    omega (arith, there, (rw c.tree-tree.ensures at c.symbol_count-i-end.ensures.formed).symbols_named)

pub loop-i-preserved : goal.loop-i-preserved
loop-i-preserved c =
    let new_in : FileTable → SymId → List ℕ = λ files. new_with_help (files_in files) (lines_in c.args.layout.now.entries) c.args.solved.now.tree c.args.prefix.now (solution_view c.args.solved.now) in
    let each = new_in c.args.files.now in
    let next = symbols_next c.args.solved.now.tree each c.loop-i.i c.symbol-id.result (rw c.tree-tree.ensures at c.symbol-id.ensures) in
    let added : c.add_new_with_help.new.text.items ≡ c.loop-i.text.items ++ each c.symbol-id.result =
    c.in_ok-add_new_with_help.ensures.text ∙ ap (λ files. c.loop-i.text.items ++ new_in files c.symbol-id.result) c.loop-i.invariant.0 in
    (c.in_ok-add_new_with_help.ensures.files ∙ c.loop-i.invariant.0, grows _ _ _ _ _ _ c.loop-i.invariant.1 next added)

pub returns : goal.returns
returns c =
    let each = new_with_help (files_in c.args.files.now) (lines_in c.args.layout.now.entries) c.args.solved.now.tree c.args.prefix.now (solution_view c.args.solved.now) in
    let all : length c.args.solved.now.tree.defined ≤ c.loop-i.i = omega (arith, ap (λ (t : TreeFacts). length t.defined) c.tree-tree.ensures) in
    is_grown _ _ _ c.loop-i.invariant.1 (symbols_end c.args.solved.now.tree each c.loop-i.i all)
