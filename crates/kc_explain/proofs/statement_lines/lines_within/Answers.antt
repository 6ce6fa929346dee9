use Rattle.std.proofs.Common.{ap, sym, ◌∙◌}
use Rattle.std.proofs.lemmas.Bool.{eqb-true}
use Rattle.kc_language.specs.Lines.{from_other, is_help_line}
use Rattle.kc_text.proofs.Physicals.{lines_at_end}
use Rattle.kc_explain.proofs.statement_lines.lines_within.Goals as goal

pub returns-clause-rest : goal.returns-clause-rest
returns-clause-rest c =
    let none = lines_at_end c.text.rest.now (eqb-true _ 0 (sym c.text-test.ensures)) in
    none ∙ sym (ap (from_other (is_help_line c.args.indent)) none) ∙ c.text.invariant.rest
