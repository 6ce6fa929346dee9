-- Why `unescape_into` keeps its contract.
use Rattle.kc_text.proofs.Unescaping.{unescape_none}
use Rattle.kc_text.proofs.escapes.unescape_into.Goals as goal

pub returns-in_default-clause-ok : goal.returns-in_default-clause-ok
returns-in_default-clause-ok c = rw (unescape_none c.args.text.now c.in_default.ensures) c.in_ok-extend_from_slice.ensures.items
