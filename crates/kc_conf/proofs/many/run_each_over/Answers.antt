-- The tree is refused, or its configurations take their turns.
use Rattle.kc_read.specs.Files.{files_in}
use Rattle.kc_conf.specs.Many.{RunsTurn}
use Rattle.kc_conf.proofs.ManyLemmas.{EndsEach-refused}
use Rattle.kc_conf.proofs.many.run_each_over.Goals as goal

pub returns-in-Err : goal.returns-in-Err
returns-in-Err g c =
    EndsEach-refused (RunsTurn (files_in c.args.files)) (files_in c.args.files) c.args.root.now (g.C.Configurations.options c.args.configurations.now) (g.C.Configurations.number c.args.configurations.now) _ _ c.in-Err.refusal c.refuse.result
    (rw c.as_bytes.ensures.value at c.in-Err.ensures) c.refuse.ensures

pub returns-in-Err-ordered : goal.returns-in-Err-ordered
returns-in-Err-ordered g c =
    EndsEach-refused (RunsTurn (files_in c.args.files)) (files_in c.args.files) c.args.root.now (g.C.Configurations.options c.args.configurations.now) (g.C.Configurations.number c.args.configurations.now) _ _ c.in-Err-ordered.refusal
    c.refuse-in-Err-ordered.result (c.in-Err-ordered.ensures.ordered (files_in c.args.files) c.args.root.now _ (rw c.as_bytes.ensures.value at c.in-Ok.ensures)) c.refuse-in-Err-ordered.ensures

pub returns : goal.returns
returns g c =
    c.turns-ended.ensures (files_in c.args.files) c.args.root.now c.keeps_sources-keeps.result
    (c.in-Ok-ordered.ensures.ordered (files_in c.args.files) c.args.root.now _ (rw c.as_bytes.ensures.value at c.in-Ok.ensures)) c.keeps_sources-keeps.ensures c.requires
