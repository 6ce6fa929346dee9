use Rattle.std.proofs.{Common.{List, arith, get_or, length, subst, sym, ℕ, ◌<◌, ◌∙◌, ◌≡◌}, lemmas.List.Elements.Contains-get_or}
use Rattle.std.specs.Prelude.{Contains}
use Rattle.kc_language.specs.Needs.{needs_in}
use Rattle.kc_solve.proofs.PlanSteps.{readers_more}
use Rattle.kc_solve.proofs.plan.readers_of.Goals as goal

pub add_reader-requires : goal.add_reader-requires
add_reader-requires c = λ k d l.
    let rows = c.args.needs.now.rows in
    let row = c.row.result.now in
    let n = c.loop-node.node in
    let there : n < length rows = omega (arith, c.loop-node-test.true, c.count-node-end.ensures) in
    let below = c.requires.graph.within n (get_or row k d) there (subst (λ (ts : List ℕ). Contains ts (get_or row k d)) c.row.ensures (Contains-get_or row k d l)) in
    omega (arith, below, c.loop-node.invariant.0)

pub loop-node-preserved : goal.loop-node-preserved
loop-node-preserved c =
    let have = c.in_ok-add_reader.ensures in (
      have.count ∙ c.loop-node.invariant.0,
      readers_more c.loop-node.node c.args.needs.now c.row.result.now c.loop-node.readers _ c.row.ensures c.loop-node.invariant.1 have,
    )
