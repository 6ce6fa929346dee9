use Rattle.std.proofs.Common.{sym, ◌∙◌}
use Rattle.kc_config_file.proofs.MenuEntryLemmas.{first-named}
use Rattle.kc_config_file.proofs.config.add_definition.Goals as goal

pub add_symbol_if-requires : goal.add_symbol_if-requires
add_symbol_if-requires c = first-named c.args.source.now.solved.now c.args.source.now.table.now c.requires c.args.at.0 c.args.id (sym c.is_first.ensures ∙ c.if-not-is_first.false)
