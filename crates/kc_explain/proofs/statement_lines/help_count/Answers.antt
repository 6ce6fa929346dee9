use Rattle.std.proofs.Common.{sym, ◌∙◌}
use Rattle.std.proofs.lemmas.Bool.{eqb-true}
use Rattle.kc_explain.proofs.StatementLineLemmas.{none_indented}
use Rattle.kc_explain.proofs.statement_lines.help_count.Goals as goal

pub returns-then-is_empty-clause-count : goal.returns-then-is_empty-clause-count
returns-then-is_empty-clause-count c =
    none_indented _ c.lines_within-blank.result.rest.now c.lines_within-blank.result.count (eqb-true _ 0 (sym c.is_empty.ensures ∙ c.if-is_empty.true))
    c.lines_within-blank.ensures.rest c.lines_within-blank.ensures.count
