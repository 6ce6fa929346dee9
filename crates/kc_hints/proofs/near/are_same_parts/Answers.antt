use Rattle.kc_hints.proofs.NearLemmas.{same_parts}
use Rattle.kc_hints.proofs.near.are_same_parts.Goals as goal

pub returns-then-one-other : goal.returns-then-one-other
returns-then-one-other c = same_parts c.args.one.now c.args.other.now _ c.if-one-other.true c.stand_as_often.ensures
