-- There was no memory for the bounds; or all of the tree's warnings are said.
use Rattle.std.proofs.Common.{[], ap, refl, sym}
use Rattle.std.proofs.lemmas.Result.{err_from_is_err_and}
use Rattle.kc_io.proofs.LogLemmas.{leads_nothing}
use Rattle.kc_outcome.specs.Outcome.{lines_text}
use Rattle.kc_conf.specs.PartsOfFaults.{said_of_tree}
use Rattle.kc_conf.proofs.HowLemmas.{Leaves-how-unread, how-left-all, tells-all}
use Rattle.kc_conf.proofs.RunParts.{Leaves-weaker}
use Rattle.kc_conf.proofs.how_run.how_alone.Goals as goal

pub returns-in_err-possible : goal.returns-in_err-possible
returns-in_err-possible g c =
    let p = err_from_is_err_and c.from_residual.result c.from_residual.ensures.1 in
    rw (p.1, p.2) (λ files of.
    Leaves-weaker (how-left-all files c.args.options.now c.args.asked.now c.args.accepted.now.laid.tree.now)
    (Leaves-how-unread c.one_answer.ensures c.exactly_one_outcome.ensures (tells-all of) c.args.asked.now (leads_nothing (g.D.Device.log c.args.device.now))))

pub returns : goal.returns
returns g c = λ files of.
    Leaves-weaker (how-left-all files c.args.options.now c.args.asked.now c.args.accepted.now.laid.tree.now)
    (c.how_accepted.ensures files said_of_tree [] (tells-all of) (sym (ap lines_text c.parse_warnings-warnings.ensures)))
