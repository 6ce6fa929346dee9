use Rattle.std.proofs.Common.{ap, append_assoc, sym, ◌++◌, ◌∙◌}
use Rattle.kc_language.specs.Texts.{config_file_line, solution_view}
use Rattle.kc_config_file.specs.{KnownValue.value_view, PartsOfTexts.gap}
use Rattle.kc_config_file.proofs.TextLemmas.{symbol-written}
use Rattle.kc_config_file.proofs.config.add_symbol_if.Goals as goal

pub returns-clause-text : goal.returns-clause-text
returns-clause-text c =
    let line = config_file_line c.args.prefix.now.is_raw (c.args.prefix.now.prefix ++ c.name.result.now) (value_view c.symbol_value.result) in
    c.in_ok-add_config_file_line.ensures.line
    ∙ ap (λ t. t ++ line) c.in_ok-add_gap.ensures
    ∙ append_assoc c.args.file.now.items (gap c.args.after_end) line
    ∙ ap (λ t. c.args.file.now.items ++ t)
    (symbol-written c.args.solved.now.tree c.args.prefix.now (solution_view c.args.solved.now) c.args.after_end c.args.id c.name.result.now
    (value_view c.symbol_value.result) (sym c.if-not-written.ensures) (rw c.tree.ensures at c.name.ensures) c.symbol_value.ensures)
