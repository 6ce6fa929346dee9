use Rattle.std.proofs.{Common.{[], ap, arith, eqb, false, length, subst, sym, true, ◌++◌, ◌<◌, ◌∙◌, ◌∷◌, ◌≡◌}, Math.ListN.set, lemmas.List.{Elements.All-contains, get_or_read, length_push, take_rest}}
use Rattle.std.specs.List.{list_any}
use Rattle.kc_order.specs.Rows.{AreFlags}
use Rattle.kc_order.proofs.{Groups.flat, Walks.{IsOnTheWay, comes_back, goes_further, has_room, is_met, met_push, next_is, none_met, not_met, sets_out}, named_loop.named_loop.Goals.{After-index, After-next_unordered-at}}
use Rattle.kc_order.proofs.named_loop.named_loop.Goals as goal

pub loop-visited-init : goal.loop-visited-init
loop-visited-init c = record {
  walks = rw c.new-walk.ensures.items
      (sets_out c.args.sequence.now _ (flat c.args.symbols c.args.rows.now) _ (c.requires.sequence.0 c.args.first 0 c.requires.sequence.1) c.requires.first);
  flags = subst (λ w. AreFlags c.args.symbols (λ s. list_any (eqb s) w) c.in_ok-visited.visited.items) (sym c.new-walk.ensures.items)
      (none_met c.args.symbols c.in_ok-visited.visited.items (c.in_ok-visited.ensures.items_if_clones_equal (λ y e. e)));
}

-- what is read tells whether the symbol is on the walk
on_walk : (c : After-index) → list_any (eqb c.loop-visited.at) c.loop-visited.walk.items ≡ c.index.result.now
on_walk c =
    let below = c.loop-visited.invariant.walks.below in
    sym (c.loop-visited.invariant.flags.each c.loop-visited.at below)
    ∙ sym (get_or_read c.loop-visited.visited.items c.loop-visited.at c.index.result.now (omega (arith, below, c.loop-visited.invariant.flags.length_is)) c.index.ensures false)

-- the walk after the push, and what comes next
further : (c : After-next_unordered-at) → list_any (eqb c.loop-visited.at) c.loop-visited.walk.items ≡ false →
    IsOnTheWay c.args.sequence.now c.args.symbols (flat c.args.symbols c.args.rows.now)
    (c.loop-visited.walk.items ++ c.loop-visited.at ∷ []) c.next_unordered-at.result
further c new =
    let next = c.next_unordered-at.result in
    let there = (next_is c.args.sequence.now c.args.symbols (flat c.args.symbols c.args.rows.now) c.loop-visited.at next c.next_unordered-at.ensures).0 in
    let below = All-contains (λ s. s < c.args.symbols) c.args.sequence.now next c.requires.sequence.0 there in
    goes_further c.args.sequence.now _ (flat c.args.symbols c.args.rows.now) c.loop-visited.walk.items c.loop-visited.at next
    c.loop-visited.invariant.walks (not_met c.loop-visited.walk.items c.loop-visited.at new) below c.next_unordered-at.ensures

pub loop-visited-smaller : goal.loop-visited-smaller
loop-visited-smaller c =
    let new = on_walk (goal.at.loop-visited-smaller c).After-index ∙ c.loop-visited-test.true in
    let f = further (goal.at.loop-visited-smaller c).After-next_unordered-at new in
    let room = has_room _ c.loop-visited.walk.items c.loop-visited.at f.all_below f.apart in
    omega (arith, room, ap length c.in_ok-push.ensures.items, length_push c.loop-visited.walk.items c.loop-visited.at)

pub loop-visited-preserved : goal.loop-visited-preserved
loop-visited-preserved c =
    let new = on_walk (goal.at.loop-visited-preserved c).After-index ∙ c.loop-visited-test.true in
    let walk = c.loop-visited.walk.items in
    let at = c.loop-visited.at in
    record {
      walks = rw c.in_ok-push.ensures.items (further (goal.at.loop-visited-preserved c).After-next_unordered-at new);
      flags = subst (λ w. AreFlags c.args.symbols (λ s. list_any (eqb s) w) (set c.loop-visited.visited.items at true)) (sym c.in_ok-push.ensures.items)
          (met_push c.args.symbols walk c.loop-visited.visited.items at c.loop-visited.invariant.flags c.loop-visited.invariant.walks.below);
    }

pub unreachable-requires : goal.unreachable-requires
unreachable-requires c =
    is_met c.loop-visited.walk.items c.loop-visited.at (on_walk (goal.at.unreachable-requires c).After-index ∙ c.loop-visited-test.false)
    (rw c.deref-2.ensures.value at c.in-None.ensures)

pub returns : goal.returns
returns c =
    let found = rw c.deref-2.ensures.value at c.in-Some.ensures in
    rw (c.in_ok-found-in-Some.ensures.items, c.deref-in-Some.ensures.value, take_rest)
    (comes_back c.args.sequence.now _ (flat c.args.symbols c.args.rows.now) c.loop-visited.walk.items c.loop-visited.at c.in-Some.start
    c.loop-visited.invariant.walks found.0 found.1)
