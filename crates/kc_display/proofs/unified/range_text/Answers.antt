-- The first line is that of the text.
use Rattle.std.proofs.Common.{string_bytes}
use Rattle.kc_display.proofs.ShownLemmas.{ranged}
use Rattle.kc_display.proofs.unified.range_text.Goals as goal

pub returns : goal.returns
returns c = ranged (string_bytes c.in_ok-text.text) c.first_of-first.result c.args.before c.args.count c.in_ok-text.ensures.ok c.first_of-first.ensures
