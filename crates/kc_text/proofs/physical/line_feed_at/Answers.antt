-- Why `line_feed_at` keeps its contract.
use Rattle.std.proofs.{Common.{arith, eqb, length, w8, ◌+◌, ◌≤◌}, lemmas.{List.take_rest, Simd.{bitmask_splat, length-chunk}}}
use Rattle.kc_text.proofs.Feeds.{first_after, first_in_lanes, none_after, none_in_lanes}
use Rattle.kc_text.proofs.physical.line_feed_at.Goals as goal
use lib.Lanes.{chunk}

pub returns-then-found-ne0 : goal.returns-then-found-ne0
returns-then-found-ne0 c =
    let rest = c.args.rest.now in
    let at = c.lanes.at in
    let room : at + 16 ≤ length rest = omega (arith, c.lanes-test.true, c.lanes.invariant.within) in
    let bits = bitmask_splat w8 eqb (chunk at 16 rest) 16 10 (length-chunk at 16 rest room) (omega arith) in
    first_in_lanes rest at _ room bits c.lanes.invariant.none (omega (arith, c.if-found-ne0.true))

pub lanes-preserved : goal.lanes-preserved
lanes-preserved c =
    let rest = c.args.rest.now in
    let at = c.lanes.at in
    let room : at + 16 ≤ length rest = omega (arith, c.lanes-test.true, c.lanes.invariant.within) in
    let bits = bitmask_splat w8 eqb (chunk at 16 rest) 16 10 (length-chunk at 16 rest room) (omega arith) in
    record { within = room; none = none_in_lanes rest at _ room bits c.lanes.invariant.none c.if-found-ne0.false }

pub returns-in-Some : goal.returns-in-Some
returns-in-Some c =
    let h = rw take_rest at c.in-Some.ensures in
    first_after c.args.rest.now c.lanes.at c.lanes.invariant.within c.lanes.invariant.none c.in-Some.n h.0 h.1

pub returns-in-None : goal.returns-in-None
returns-in-None c = none_after c.args.rest.now c.lanes.at c.lanes.invariant.within c.lanes.invariant.none (rw take_rest at c.in-None.ensures)
