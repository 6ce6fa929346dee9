-- All parts are filled.
use Rattle.std.proofs.Common.{◌∙◌, ap, arith}
use Rattle.std.proofs.lemmas.Iterator.Splits.{YieldsList-from_str_split}
use Rattle.std.proofs.lemmas.Iterator.Consumers.{YieldsList-end}
use Rattle.kc_words.specs.CommandLine.{filled_parts}
use Rattle.kc_words.proofs.patterns.filled.Goals as goal

pub returns : goal.returns
returns c =
    c.loop-part.invariant.1 ∙ ap (filled_parts c.args.config.now)
    (YieldsList-end (YieldsList-from_str_split 123 c.args.pattern.now (omega arith) (cc) (cc) (cc)) c.loop-part.yielded _ c.loop-part.yielded_by _ _ c.in-None.is c.next.ensures.steps).0
