-- The parts of a text, one after another, are the text.
use Rattle.std.proofs.Common.{append-nil, append_assoc, ◌∙◌}
use Rattle.kc_diagnostics.proofs.warning.add_change.Goals as goal

pub returns-clause-whole : goal.returns-clause-whole
returns-clause-whole c =
    simp append_assoc (simp (append-nil, c.as_bytes-digits.ensures.value ∙ c.format.ensures.text) at c.add_parts.ensures.whole)
