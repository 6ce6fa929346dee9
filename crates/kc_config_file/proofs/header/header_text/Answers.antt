use Rattle.std.proofs.Common.{◌∙◌, ◌++◌, ap}
use Rattle.std.specs.Prelude.{flat_map}
use Rattle.kc_language.specs.Texts.{header_text, solution_view}
use Rattle.kc_config_file.specs.PartsOfTexts.{header_if}
use Rattle.kc_config_file.proofs.header.header_text.Goals as goal

pub returns : goal.returns
unfolding header_text
returns c =
    let lines = flat_map (header_if c.args.solved.now.tree c.args.prefix.now (solution_view c.args.solved.now)) c.args.solved.now.tree.defined in
    c.in_ok-add_header_lines.ensures ∙ ap (λ t. t ++ lines) (rw (c.in_ok-file.ensures, c.main_menu.ensures, c.tree.ensures) at c.in_ok-add_heading.ensures)
