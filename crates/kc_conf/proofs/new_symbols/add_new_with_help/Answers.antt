-- New symbols with their definitions.
use Rattle.std.proofs.Common.{◌≡◌, ◌∙◌, ◌++◌, List, OnOk, ℕ, true, false, ap, refl, subst, sym, append_assoc, append-nil}
use Rattle.std.specs.Prelude.{codes}
use Rattle.kc_language.specs.ConfigFile.{Notation}
use Rattle.kc_language.specs.Expansion.{Files}
use Rattle.kc_outcome.specs.Explanations.{definition_comments}
use Rattle.kc_language.specs.Statements.{Located, Numbered}
use Rattle.kc_language.specs.Symbols.{TreeFacts}
use Rattle.kc_language.specs.Texts.{SolutionView, solution_view, symbol_new}
use Rattle.kc_language.specs.declared.expressions.SymId.{SymId}
use Rattle.kc_entries.specs.Entries.{lines_in}
use Rattle.kc_read.specs.Files.{files_in}
use Rattle.kc_conf.specs.PartsOfExplanations.{line_and_gap, new_with_help}
use Rattle.kc_conf.proofs.new_symbols.add_new_with_help.Goals as goal

module _ (files : Files) (lines : List (Located Numbered)) (tree : TreeFacts) (prefix : Notation) (view : SolutionView) (s : SymId) (text : List ℕ) where
  with_help-not : view.is_new s ≡ false → text ≡ text ++ new_with_help files lines tree prefix view s
  with_help-not not_new = rw not_new (sym (append-nil text))

  with_help-new : (before : List ℕ) → view.is_new s ≡ true → before ≡ text ++ definition_comments files lines s →
      before ++ line_and_gap tree prefix view s ≡ text ++ new_with_help files lines tree prefix view s
  with_help-new before new first =
      let defs = definition_comments files lines s in
      let line = symbol_new tree prefix view s in
      ap (λ t. t ++ (line ++ codes "\n")) first ∙ append_assoc text defs (line ++ codes "\n")
      ∙ ap (λ t. text ++ t) (sym (append_assoc defs line (codes "\n"))) ∙ rw new refl

pub returns-then-not-is_new-clause-text : goal.returns-then-not-is_new-clause-text
returns-then-not-is_new-clause-text c =
    with_help-not (files_in c.args.reader.now) (lines_in c.args.layout.now.entries) c.args.solved.now.tree c.args.prefix.now (solution_view c.args.solved.now) c.args.id
    c.args.text.now.items (sym c.if-not-is_new.ensures)

pub returns-clause-text : goal.returns-clause-text
returns-clause-text c =
    let P : List ℕ → Type 0 = λ text. OnOk c.add_line_and_gap.result (c.add_line_and_gap.new.text.items ≡ text) in
    subst P (with_help-new (files_in c.args.reader.now) (lines_in c.args.layout.now.entries) c.args.solved.now.tree c.args.prefix.now (solution_view c.args.solved.now) c.args.id
    c.args.text.now.items c.add_definitions.new.text.items (sym c.if-not-is_new.ensures) c.in_ok-add_definitions.ensures.text)
    c.add_line_and_gap.ensures
