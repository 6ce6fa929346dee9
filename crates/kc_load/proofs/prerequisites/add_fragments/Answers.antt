use Rattle.std.proofs.Common.{string_bytes}
use Rattle.kc_load.proofs.MentionLemmas.{mention_next}
use Rattle.kc_load.proofs.prerequisites.add_fragments.Goals as goal

pub loop-fragment-preserved : goal.loop-fragment-preserved
loop-fragment-preserved c =
    mention_next string_bytes c.args.names.now c.loop-fragment.names c.id.new.self c.args.fragments.now c.loop-fragment.fragment-index c.fragment-item.result c.as_bytes.result.now
    c.loop-fragment-test.true c.fragment-item.is c.as_bytes.ensures.value c.loop-fragment.invariant c.in_ok-id.ensures.names
