-- The runs are answered.
use Rattle.kc_read.specs.Files.{files_in}
use Rattle.kc_conf.specs.How.{HowTurn}
use Rattle.kc_conf.proofs.ManyLemmas.{RunsAll-answered}
use Rattle.kc_conf.proofs.how_many.how_each.Goals as goal

pub returns : goal.returns
returns g c =
    RunsAll-answered (HowTurn c.args.asked.now (files_in c.args.files)) (files_in c.args.files) c.args.root.now (g.C.Configurations.options c.args.configurations.now) (g.C.Configurations.number c.args.configurations.now) _ _
    c.how_each_over-ended.result c.answer_all.result _ c.how_each_over-ended.ensures c.answer_all.ensures
