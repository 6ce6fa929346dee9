use Rattle.std.proofs.Common.{◌≡◌, ◌∙◌, ◌++◌, ap, sym, subst, List, ℕ, OnOk, append-nil}
use Rattle.kc_config_file.specs.KnownValue.{value_view}
use Rattle.kc_config_file.proofs.TextLemmas.{minimal_if-differs, minimal_if-not}
use Rattle.kc_language.specs.Texts.{solution_view}
use Rattle.kc_config_file.proofs.header.add_minimal_if.Goals as goal

pub returns-then-not-differs-clause-line : goal.returns-then-not-differs-clause-line
returns-then-not-differs-clause-line c =
    sym (append-nil c.args.file.now.items)
    ∙ ap (λ t. c.args.file.now.items ++ t) (minimal_if-not c.args.solved.now.tree c.args.prefix.now (solution_view c.args.solved.now) c.args.id (sym c.if-not-differs.ensures))

pub returns-clause-line : goal.returns-clause-line
returns-clause-line c =
    let P : List ℕ → Type 0 = λ text. OnOk c.add_config_file_line.result (c.add_config_file_line.new.file.items ≡ c.args.file.now.items ++ text) in
    subst P (minimal_if-differs c.args.solved.now.tree c.args.prefix.now (solution_view c.args.solved.now) c.args.id c.name.result.now
    (value_view c.symbol_value.result) (sym c.if-not-differs.ensures) (rw c.tree.ensures at c.name.ensures) c.symbol_value.ensures)
    c.add_config_file_line.ensures.line
