-- The lines are those of the tree.
use Rattle.std.proofs.Common.{◌≡◌, ◌∙◌, IfOk, List, ap, sym, subst}
use Rattle.std.specs.{Borrow.Bor, Prelude.Option}
use Rattle.kc_outcome.specs.Explanations.{new_text_with_help}
use Rattle.kc_language.specs.{Statements.{Located, Numbered}, Symbols.{TreeFacts}, Texts.{solution_view}}
use Rattle.kc_read.specs.{Files.files_in, declared.file_map.FileMap.FileMap}
use Rattle.kc_conf.specs.Computed.{new_by}
use Rattle.kc_conf.proofs.compute.new_by.Goals as goal

pub returns-in-Some : goal.returns-in-Some
returns-in-Some c =
    let solved = c.args.solved.now in
    let prefix = c.args.options.now.prefix in
    subst (λ (files : Option (Bor FileMap)). IfOk c.new_text_with_help.result (λ text. text.items ≡ new_by files prefix solved)) (sym c.in-Some.is)
    (subst (λ (lines : List (Located Numbered)). IfOk c.new_text_with_help.result (λ text.
    text.items ≡ new_text_with_help (files_in c.in-Some.files.now) lines solved.tree prefix (solution_view solved)))
    (sym c.layout-layout.ensures.laid.lines ∙ ap (λ (t : TreeFacts). t.lines) c.tree.ensures) c.new_text_with_help.ensures)
