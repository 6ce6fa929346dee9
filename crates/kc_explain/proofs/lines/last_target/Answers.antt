-- The row of a symbol has the last lines of both kinds.
use Rattle.std.proofs.Common.{ap, sym, ◌∙◌, length}
use Rattle.kc_language.specs.declared.symbols.SelectOrImply.{SelectOrImply}
use Rattle.kc_language.specs.Expansion.{last_of}
use Rattle.kc_tree.specs.Layouts.{lines_up_to}
use Rattle.kc_tree.specs.Stored.{stored}
use Rattle.kc_explain.proofs.TargetLemmas.{no-row}
use Rattle.kc_explain.proofs.lines.last_target.Goals as goal

pub returns-in-Select : goal.returns-in-Select
returns-in-Select c =
    (c.args.layout.now.laid.symbols_are c.args.id.0 c.in-Some.symbol.now (sym c.in-Some.ensures)).last_select
    ∙ ap (λ (w : SelectOrImply). stored (last_of (lines_up_to c.args.layout.now w c.args.id (length c.args.layout.now.selectors.items)))) (sym c.in-Select.is)

pub returns-in-Imply : goal.returns-in-Imply
returns-in-Imply c =
    (c.args.layout.now.laid.symbols_are c.args.id.0 c.in-Some.symbol.now (sym c.in-Some.ensures)).last_imply
    ∙ ap (λ (w : SelectOrImply). stored (last_of (lines_up_to c.args.layout.now w c.args.id (length c.args.layout.now.selectors.items)))) (sym c.in-Imply.is)

pub returns-in-None : goal.returns-in-None
returns-in-None c = absurd (no-row c.args.layout.now.symbols.items c.args.id.0 c.requires c.in-None.ensures)
