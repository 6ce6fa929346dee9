use Rattle.std.proofs.Common.{◌∙◌, ◌++◌, ap}
use Rattle.kc_language.specs.Texts.{config_text, solution_view}
use Rattle.kc_config_file.specs.PartsOfTexts.{entries_text}
use Rattle.kc_config_file.proofs.config.config_text.Goals as goal

pub returns : goal.returns
unfolding config_text
returns c =
    let lines = entries_text c.args.solved.now.tree c.args.prefix.now (solution_view c.args.solved.now) c.args.solved.now.tree.entries in
    c.in_ok-add_entries.ensures ∙ ap (λ t. t ++ lines) (rw (c.in_ok-file.ensures, c.main_menu.ensures, c.tree.ensures) at c.in_ok-add_heading.ensures)
