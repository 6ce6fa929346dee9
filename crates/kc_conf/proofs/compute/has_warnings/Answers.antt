-- A line is text.
use Rattle.std.proofs.Common.{◌∙◌, ap, not}
use Rattle.kc_outcome.specs.Outcome.{is_not_empty, lines_text}
use Rattle.kc_conf.proofs.OutcomeLemmas.{lines_some}
use Rattle.kc_conf.proofs.compute.has_warnings.Goals as goal

pub returns : goal.returns
returns c =
    ap not c.is_empty.ensures ∙ lines_some c.parse_warnings.result.now ∙ ap (λ l. is_not_empty (lines_text l)) c.parse_warnings.ensures
