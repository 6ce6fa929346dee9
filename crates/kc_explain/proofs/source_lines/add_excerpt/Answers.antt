use Rattle.std.proofs.Common.{◌≡◌, ◌++◌, OnOk, subst, List, ℕ}
use Rattle.kc_explain.proofs.SourceLineLemmas.{shown_are}
use Rattle.kc_explain.proofs.source_lines.add_excerpt.Goals as goal

pub returns : goal.returns
returns c =
    let P : List ℕ → Type 0 = λ added. OnOk c.add_comments.result (c.add_comments.new.text.items ≡ c.args.text.now.items ++ added) in
    subst P (shown_are (λ x. x.now) c.args.lines.now c.lines_with_text.result c.lines_with_text.ensures) c.add_comments.ensures
