use Rattle.std.proofs.Common.{None, ap, subst, sym, ◌<◌, ◌∙◌, ◌≡◌}
use Rattle.kc_language.specs.Expressions.{lesser}
use Rattle.kc_entries.specs.StatementViews.{head_view}
use Rattle.kc_tree.specs.EntryViews.{statements_of}
use Rattle.kc_values.specs.TableFacts.{condition_at}
use Rattle.kc_values.proofs.{ContextLemmas.{asked-at, asked-plain, outside-before, past-alone, walk-past, walk-there}, TriLemmas.rank-same, conditions.enclosing_least.Goals.{in-Some-entry, in_default-entry}}
use Rattle.kc_values.proofs.conditions.enclosing_least.Goals as goal

pub own_least-least-requires : goal.own_least-least-requires
own_least-least-requires c = (asked-at c.args.table.now c.blocks-2.at.0 c.in-Some-entry.lines.first.now c.in-Some-entry.ensures.first).plain c.blocks-2.invariant.alone

pub blocks-2-preserved : goal.blocks-2-preserved
blocks-2-preserved c =
    let t = c.args.table.now in
    let at = c.blocks-2.at.0 in
    elim c.match-entry.branch [
      | in-Some-entry w ↦
          let x = w.in-Some-entry.lines.first.now in
          let own = w.in-Some-entry.lines.attributes.now in
          let asked = asked-at t at x w.in-Some-entry.ensures.first in
          record {
            same =
                walk-there t at x own c.blocks-2.least c.match-entry.least _ c.outer_context-at.result.0 w.in-Some-entry.ensures.first w.in-Some-entry.ensures.own
                (w.least-is ∙ w.own_least-least.ensures ∙ ap (lesser c.blocks-2.least) (asked-plain t at (head_view x.head) (statements_of own) (asked.plain c.blocks-2.invariant.alone)))
                c.outer_context-at.ensures c.blocks-2.invariant.same;
            alone = ap (λ n. (condition_at t n).mode) c.outer_context-at.ensures ∙ asked.alone c.blocks-2.invariant.alone;
          }
      | in_default-entry w ↦ record {
        same = walk-past t at c.blocks-2.least c.match-entry.least _ c.outer_context-at.result.0 w.in_default-entry.ensures.first w.least-is c.outer_context-at.ensures c.blocks-2.invariant.same;
        alone = ap (λ n. (condition_at t n).mode) c.outer_context-at.ensures ∙ past-alone t at w.in_default-entry.ensures.first;
      }
    ]

pub returns-in-Some : goal.returns-in-Some
returns-in-Some c =
    let t = c.args.table.now in
    c.lesser.ensures
    ∙ ap (lesser c.blocks-2.least) (rank-same _ _ (t.contexts_computed c.blocks-2.at.0 c.in-Some.value (sym c.in-Some.ensures)))
    ∙ c.blocks-2.invariant.same

pub blocks-2-smaller : goal.blocks-2-smaller
blocks-2-smaller c =
    let t = c.args.table.now in
    subst (λ n. n < c.blocks-2.at.0) (sym c.outer_context-at.ensures) (outside-before t c.blocks-2.at.0 (sym c.is_some.ensures ∙ c.blocks-2-test.true))
