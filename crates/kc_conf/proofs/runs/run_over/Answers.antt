-- The tree is refused, or accepted.
use Rattle.std.proofs.Common.{[], ap, refl, sym}
use Rattle.kc_read.specs.Files.{files_in}
use Rattle.kc_outcome.specs.Outcome.{lines_text, root_file}
use Rattle.kc_conf.specs.PartsOfFaults.{said_of_tree}
use Rattle.kc_conf.proofs.PartOutcomes.{left-all}
use Rattle.kc_conf.proofs.RunParts.{Leaves-tree, Leaves-weaker}
use Rattle.kc_conf.proofs.runs.run_over.Goals as goal

pub returns-in-Err : goal.returns-in-Err
returns-in-Err g c =
    Leaves-tree c.opened_are_one_list.ensures c.exactly_one_outcome.ensures (files_in c.args.files) c.args.options.now c.in-Err.refusal c.refuse.result _ _ (rw c.as_bytes.ensures.value at c.in-Err.ensures) c.refuse.ensures

pub returns-in-Err-ordered : goal.returns-in-Err-ordered
returns-in-Err-ordered g c =
    Leaves-tree c.opened_are_one_list.ensures c.exactly_one_outcome.ensures (files_in c.args.files) c.args.options.now c.in-Err-ordered.refusal c.refuse-in-Err-ordered.result _ _
    (c.in-Err-ordered.ensures.ordered (files_in c.args.files) (root_file c.args.options.now) _ (rw c.as_bytes.ensures.value at c.in-Ok.ensures)) c.refuse-in-Err-ordered.ensures

pub returns : goal.returns
returns g c =
    let of = c.in-Ok-ordered.ensures.ordered (files_in c.args.files) (root_file c.args.options.now) _ (rw (c.as_bytes.ensures.value, c.wants_sources.ensures) at c.in-Ok.ensures) in
    Leaves-weaker (left-all (files_in c.args.files) c.args.options.now c.in-Ok-ordered.accepted.laid.tree.now)
    (c.run_accepted-ended.ensures.leaves (files_in c.args.files) said_of_tree [] (record { accepts = of; both = refl; lines = (c.in-Ok-ordered.accepted.laid.tree.now.warnings, refl) }) (sym (ap lines_text c.parse_warnings-warnings.ensures)))

pub run_accepted-ended-requires-clause-again : goal.run_accepted-ended-requires-clause-again
run_accepted-ended-requires-clause-again g c = c.never.ensures c.in-Ok-ordered.accepted.laid
