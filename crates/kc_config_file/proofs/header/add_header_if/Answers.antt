use Rattle.std.proofs.Common.{◌≡◌, ◌∙◌, ◌++◌, ap, sym, subst, List, ℕ, OnOk, append-nil}
use Rattle.kc_config_file.specs.KnownValue.{value_view}
use Rattle.kc_config_file.proofs.TextLemmas.{header_if-written, header_if-not}
use Rattle.kc_language.specs.Texts.{solution_view}
use Rattle.kc_config_file.proofs.header.add_header_if.Goals as goal

pub returns-then-not-written : goal.returns-then-not-written
returns-then-not-written c =
    sym (append-nil c.args.file.now.items)
    ∙ ap (λ t. c.args.file.now.items ++ t) (header_if-not c.args.solved.now.tree c.args.prefix.now (solution_view c.args.solved.now) c.args.id (sym c.if-not-written.ensures))

pub returns : goal.returns
returns c =
    let P : List ℕ → Type 0 = λ text. OnOk c.add_header_line.result (c.add_header_line.new.file.items ≡ c.args.file.now.items ++ text) in
    subst P (header_if-written c.args.solved.now.tree c.args.prefix.now (solution_view c.args.solved.now) c.args.id c.name.result.now
    (value_view c.symbol_value.result) (sym c.if-not-written.ensures) (rw c.tree.ensures at c.name.ensures) c.symbol_value.ensures)
    c.add_header_line.ensures
