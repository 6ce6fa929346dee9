use Rattle.std.proofs.Common.{sym, subst, add-one, arith}
use Rattle.kc_build.specs.Standing.{AreBlocksBefore}
use Rattle.kc_build.proofs.StandingLemmas.{all-standing, attributes-few, next-standing, no-entry, none-before, visibles-few}
use Rattle.kc_build.proofs.blocks.blocks_of.Goals as goal

pub entries-init : goal.entries-init
entries-init c = record { so_far = none-before c.args.entries.now _ c.in_ok-blocks.ensures; within = omega arith }

pub add_place-requires-clause-room : goal.add_place-requires-clause-room
add_place-requires-clause-room c =
    let few = visibles-few c.args.entries.now c.entries.i _ c.entries.invariant.so_far in
    omega (arith, few, c.in-Some.ensures.there, c.requires.few.entries)

pub add_place-requires-clause-few : goal.add_place-requires-clause-few
add_place-requires-clause-few c =
    let few = attributes-few c.args.entries.now c.entries.i c.in-Some.lines c.in-Some.ensures in
    omega (arith, few, c.requires.few.attributes)

pub entries-preserved : goal.entries-preserved
entries-preserved c =
    let next = next-standing c.args.entries.now c.entries.i _ c.in-Some.lines c.in-Some.ensures c.entries.invariant.so_far c.of-at.result c.of-at.ensures
    c.requires.apart c.requires.closed c.add_place.new.self c.turn.new.self c.in_ok-add_place.ensures c.in_ok-turn.ensures in
    record {
      so_far = subst (λ n. AreBlocksBefore c.args.entries.now n c.turn.new.self) (sym (add-one c.entries.i)) next;
      within = omega (arith, c.in-Some.ensures.there);
    }

pub returns : goal.returns
returns c =
    all-standing c.args.entries.now c.entries.i _ (no-entry c.args.entries.now c.entries.i c.entries.invariant.within c.in_default.ensures) c.entries.invariant.so_far
