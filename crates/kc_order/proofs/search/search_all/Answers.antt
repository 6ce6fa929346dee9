use Rattle.std.proofs.{Common.{ap, arith, length, ◌∙◌}, lemmas.List.{get_or-replicate, length-map, length-replicate}}
use Rattle.kc_order.specs.declared.search.NodeState.TheVariants.{New}
use Rattle.kc_language.specs.Needs.{needs_in}
use Rattle.kc_order.proofs.SearchSteps.{counts_are, starts}
use Rattle.kc_order.proofs.search.search_all.Goals as goal

pub loop-root-init : goal.loop-root-init
loop-root-init c =
    let rows = c.args.rows.now in
    record {
      sound = record {
        states_len = ap length c.in_ok-new_states.ensures ∙ length-replicate c.count-count.result New ∙ c.count-count.ensures;
        left_len = ap length c.in_ok-need_counts.ensures ∙ length-map rows length;
        keeps = rw (c.new.ensures.items, c.in_ok-with_capacity.ensures.items) (starts (length rows) (needs_in rows) _ _
            (λ s b. rw c.in_ok-new_states.ensures (get_or-replicate c.count-count.result s New New (omega (arith, b, c.count-count.ensures))))
            (λ s b. rw c.in_ok-need_counts.ensures (counts_are rows s)));
      };
      idle = ap length c.new.ensures.items;
      visited = λ s b. absurd (omega arith);
    }

pub returns : goal.returns
returns c =
    let h = c.loop-root.invariant in
    record {
      sound = h.sound;
      idle = h.idle;
      visited = λ s b. h.visited s (omega arith);
    }
