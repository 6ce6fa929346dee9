-- All lines are taken.
use Rattle.std.proofs.Common.{◌∙◌, ◌==◌, ap, length, not}
use Rattle.std.specs.List.{filter}
use Rattle.std.proofs.lemmas.Iterator.Splits.{YieldsList-from_lines}
use Rattle.std.proofs.lemmas.Iterator.Consumers.{YieldsList-end}
use Rattle.kc_words.proofs.list.names_of.Goals as goal

pub returns : goal.returns
returns c =
    c.loop-line.invariant ∙ ap (filter (λ line. not (length line == 0)))
    (YieldsList-end (YieldsList-from_lines c.args.text.now (cc)) c.loop-line.yielded _ c.loop-line.yielded_by _ _ c.in-None.is c.next.ensures.steps).0
