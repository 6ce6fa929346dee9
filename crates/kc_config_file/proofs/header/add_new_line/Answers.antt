use Rattle.std.proofs.Common.{List, OnOk, Some, refl, subst, ℕ, ◌++◌, ◌≡◌}
use Rattle.std.specs.Prelude.{slice_get}
use Rattle.kc_language.specs.{ConfigFile.Notation, Expressions.SymbolValue, Symbols.TreeFacts, Texts.{SolutionView, new_line, solution_view, symbol_new}, declared.expressions.SymId.SymId}
use Rattle.kc_config_file.specs.KnownValue.{value_view}
use Rattle.kc_config_file.proofs.TextLemmas.{name_is}
use Rattle.kc_config_file.proofs.header.add_new_line.Goals as goal

line_is : (tree : TreeFacts) (prefix : Notation) (solution : SolutionView) (s : SymId) (name : List ℕ) (known : SymbolValue) → slice_get tree.names s.0 ≡ Some name →
    known ≡ solution.value s → new_line prefix.is_raw (prefix.prefix ++ name) known ≡ symbol_new tree prefix solution s
line_is tree prefix solution s name known found value = rw (name_is tree s name found, value) refl

pub returns : goal.returns
returns c =
    let P : List ℕ → Type 0 = λ text. OnOk c.add_line_of_new.result (c.add_line_of_new.new.file.items ≡ c.args.text.now.items ++ text) in
    subst P (line_is c.args.solved.now.tree c.args.prefix.now (solution_view c.args.solved.now) c.args.id c.name.result.now
    (value_view c.symbol_value.result) (rw c.tree.ensures at c.name.ensures) c.symbol_value.ensures)
    c.add_line_of_new.ensures
