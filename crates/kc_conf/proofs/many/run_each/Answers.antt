-- The runs are answered.
use Rattle.kc_read.specs.Files.{files_in}
use Rattle.kc_conf.specs.Many.{RunsTurn}
use Rattle.kc_conf.proofs.ManyLemmas.{RunsAll-answered}
use Rattle.kc_conf.proofs.many.run_each.Goals as goal

pub returns : goal.returns
returns g c =
    RunsAll-answered (RunsTurn (files_in c.args.files)) (files_in c.args.files) c.args.root.now (g.C.Configurations.options c.args.configurations.now) (g.C.Configurations.number c.args.configurations.now) _ _
    c.run_each_over-ended.result c.answer_all.result _ c.run_each_over-ended.ensures c.answer_all.ensures
