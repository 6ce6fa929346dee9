-- The tree is refused, or accepted.
use Rattle.kc_read.specs.Files.{files_in}
use Rattle.kc_outcome.specs.Outcome.{root_file}
use Rattle.kc_conf.proofs.HowLemmas.{Leaves-how-untreed}
use Rattle.kc_conf.proofs.how_run.how_over.Goals as goal

pub returns-in-Err : goal.returns-in-Err
returns-in-Err g c =
    Leaves-how-untreed c.opened_are_one_list.ensures c.exactly_one_outcome.ensures (files_in c.args.files) c.args.options.now c.args.asked.now c.in-Err.refusal c.refuse.result _ _
    (rw c.as_bytes.ensures.value at c.in-Err.ensures) c.refuse.ensures

pub returns-in-Err-ordered : goal.returns-in-Err-ordered
returns-in-Err-ordered g c =
    Leaves-how-untreed c.opened_are_one_list.ensures c.exactly_one_outcome.ensures (files_in c.args.files) c.args.options.now c.args.asked.now c.in-Err-ordered.refusal c.refuse-in-Err-ordered.result _ _
    (c.in-Err-ordered.ensures.ordered (files_in c.args.files) (root_file c.args.options.now) _ (rw c.as_bytes.ensures.value at c.in-Ok.ensures)) c.refuse-in-Err-ordered.ensures

pub returns : goal.returns
returns g c =
    c.how_alone-ended.ensures (files_in c.args.files)
    (c.in-Ok-ordered.ensures.ordered (files_in c.args.files) (root_file c.args.options.now) _ (rw (c.as_bytes.ensures.value, c.wants_sources.ensures) at c.in-Ok.ensures))
