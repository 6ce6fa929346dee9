use Rattle.std.proofs.lemmas.{Bool.Decides.Decides-eqb, Slice.Eq.strip_prefix_is}
use Rattle.kc_memory_device.proofs.StrippedLemmas.{stripped_is}
use Rattle.kc_memory_device.proofs.sight.rest_of.Goals as goal

pub returns-in-Some : goal.returns-in-Some
returns-in-Some c = rw c.in-Some.is (stripped_is c.in-Some.rest.now c.args.written.now c.strip_prefix.result (strip_prefix_is Decides-eqb c.in-Some.rest.now c.args.written.now c.strip_prefix.result c.strip_prefix.ensures.cases))
