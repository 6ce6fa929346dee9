use Rattle.std.proofs.Common.{◌≡◌, ◌∙◌, ◌++◌, ap, sym, subst, List, ℕ, OnOk, append-nil}
use Rattle.kc_config_file.proofs.TextLemmas.{new_if-new, new_if-not}
use Rattle.kc_language.specs.Texts.{solution_view}
use Rattle.kc_config_file.proofs.header.add_new_if.Goals as goal

pub returns-then-not-is_new : goal.returns-then-not-is_new
returns-then-not-is_new c =
    sym (append-nil c.args.file.now.items)
    ∙ ap (λ t. c.args.file.now.items ++ t) (new_if-not c.args.solved.now.tree c.args.prefix.now (solution_view c.args.solved.now) c.args.id (sym c.if-not-is_new.ensures))

pub returns : goal.returns
returns c =
    let P : List ℕ → Type 0 = λ text. OnOk c.add_new_line.result (c.add_new_line.new.text.items ≡ c.args.file.now.items ++ text) in
    subst P (new_if-new c.args.solved.now.tree c.args.prefix.now (solution_view c.args.solved.now) c.args.id (sym c.if-not-is_new.ensures)) c.add_new_line.ensures
