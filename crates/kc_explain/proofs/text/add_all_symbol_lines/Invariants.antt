-- The lines of the symbols so far were added.
use Rattle.std.proofs.Common.{◌≡◌, ◌++◌, take}
use Rattle.std.specs.List.{flat_map}
use Rattle.kc_outcome.specs.Explanations.{symbol_lines, text_of_lines}
use Rattle.kc_explain.proofs.text.add_all_symbol_lines.Given as goal

abbrev pub invariant-loop-symbol : goal.invariant-loop-symbol
invariant-loop-symbol l = l.text.items ≡ l.fn.text.items
    ++ flat_map (λ s. text_of_lines l.lead (symbol_lines l.t.input.now l.t.solved.now l.t.is_raw s)) (take l.symbol-index l.symbols)
