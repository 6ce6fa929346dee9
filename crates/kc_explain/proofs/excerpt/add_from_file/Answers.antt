-- The lines before the last statement of a definition, and those of that statement.
use Rattle.kc_read.specs.Files.{files_in}
use Rattle.std.proofs.Common.{ℕ, List, ap, ◌++◌, ◌∙◌}
use Rattle.std.proofs.lemmas.Result.{on_ok_weaker}
use Rattle.std.specs.Option.{option_copied}
use Rattle.kc_explain.specs.Excerpts.{excerpt_of}
use Rattle.kc_explain.specs.SourceLines.{lines_of}
use Rattle.kc_explain.proofs.StatementLineLemmas.{definition-shown}
use Rattle.kc_explain.proofs.excerpt.add_from_file.Goals as goal

pub returns-clause-text : goal.returns-clause-text
returns-clause-text c =
    let lines : List (List ℕ) = lines_of (files_in c.args.reader.now) c.args.own.first.now.file.value.items in
    let start = rw (c.saturating_sub.ensures, c.deref-2.ensures.value, c.deref.ensures) at c.in_ok-rest.ensures.rest in
    let at = rw (c.saturating_sub-3.ensures, c.deref-4.ensures.value, c.deref-3.ensures, c.in_ok-rest.ensures.files) at c.in_ok-rest-2.ensures.rest in
    let front = rw (c.new-all.ensures.items, c.saturating_sub-2.ensures) at c.in_ok-push_lines.ensures in
    let shown = definition-shown lines _ _ (option_copied c.in_ok-rest.rest) (option_copied c.in_ok-rest-2.rest) c.args.own.first.now.line c.last_line-last.result c.statement_count.result c.ends_in_help.result
    start at c.statement_count.ensures front c.in_ok-push_lines-2.ensures in
    on_ok_weaker c.add_excerpt.result (λ e. e ∙ ap (λ (t : List ℕ). c.args.text.now.items ++ t)
    (shown ∙ (λ i. excerpt_of lines c.args.own.first.now.line (c.last_line-last.ensures i) (c.ends_in_help.ensures i)))) (rw c.deref-5.ensures.value at c.add_excerpt.ensures)
