use Rattle.std.proofs.Common.{◌≡◌}
use Rattle.kc_build.proofs.MainMenuLemmas.{title_before}
use Rattle.kc_build.proofs.blocks.main_menu_of.Given as goal

abbrev pub invariant-loop-entry : goal.invariant-loop-entry
invariant-loop-entry l = l.last ≡ title_before l.entries.first_lines.items l.entry-index
