use Rattle.std.proofs.lemmas.Bool.{eqb-true}
use Rattle.kc_read.proofs.SourceSearch.{begun_at_first, begun_behind, not_begun}
use Rattle.kc_read.proofs.sources.begins_line.Goals as goal

pub returns-in-Some-clause-begun : goal.returns-in-Some-clause-begun
returns-in-Some-clause-begun c = λ feed. begun_behind c.args.before.now c.in-Some.last c.in-Some.ensures.0 (eqb-true _ 10 feed)

pub returns-in-Some-clause-not_begun : goal.returns-in-Some-clause-not_begun
returns-in-Some-clause-not_begun c = λ other. not_begun c.args.before.now c.in-Some.last c.in-Some.ensures.0 c.in-Some.ensures.1 other

pub returns-in-None-clause-begun : goal.returns-in-None-clause-begun
returns-in-None-clause-begun c = λ _. begun_at_first c.args.before.now c.in-None.ensures
