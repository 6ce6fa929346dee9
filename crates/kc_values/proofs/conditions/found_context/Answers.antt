use Rattle.std.proofs.Common.{ap, subst, sym, ◌<◌, ◌∙◌}
use Rattle.kc_language.specs.Expressions.{lesser}
use Rattle.kc_values.proofs.{ContextLemmas.{outside-before, walk-past, walk-there}, TriLemmas.rank-same, conditions.found_context.Goals.{in-Some-entry, in_default-entry}}
use Rattle.kc_values.proofs.conditions.found_context.Goals as goal

pub blocks-2-preserved : goal.blocks-2-preserved
blocks-2-preserved c =
    let t = c.args.table.now in
    let at = c.blocks-2.at.0 in
    elim c.match-entry.branch [
      | in-Some-entry w ↦
          walk-there t at w.in-Some-entry.lines.first.now w.in-Some-entry.lines.attributes.now c.blocks-2.least c.match-entry.least _ c.outer_context-at.result.0
          w.in-Some-entry.ensures.first w.in-Some-entry.ensures.own (w.least-is ∙ w.asked_least-least.ensures) c.outer_context-at.ensures c.blocks-2.invariant
      | in_default-entry w ↦ walk-past t at c.blocks-2.least c.match-entry.least _ c.outer_context-at.result.0 w.in_default-entry.ensures.first w.least-is c.outer_context-at.ensures c.blocks-2.invariant
    ]

pub returns-in-Some : goal.returns-in-Some
returns-in-Some c =
    let t = c.args.table.now in
    c.lesser.ensures
    ∙ ap (lesser c.blocks-2.least) (rank-same _ _ (t.contexts_computed c.blocks-2.at.0 c.in-Some.value (sym c.in-Some.ensures)))
    ∙ c.blocks-2.invariant

pub blocks-2-smaller : goal.blocks-2-smaller
blocks-2-smaller c =
    let t = c.args.table.now in
    subst (λ n. n < c.blocks-2.at.0) (sym c.outer_context-at.ensures) (outside-before t c.blocks-2.at.0 (sym c.is_some.ensures ∙ c.blocks-2-test.true))
