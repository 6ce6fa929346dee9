use Rattle.std.proofs.{Common.{None, Some, ap₂, arith, cond, get_or, length, refl, rules, ◌<◌, ◌∙◌, ◌≡◌}, lemmas.List.get_or_read}
use Rattle.std.specs.Option.{option_or}
use Rattle.kc_order.specs.FirstUnordered.{is_unordered_at}
use Rattle.kc_order.proofs.FirstLemmas.{places_more}
use Rattle.kc_order.proofs.named_loop.unordered_places.Goals as goal

pub loop-place-preserved : goal.loop-place-preserved
loop-place-preserved c =
    let place = c.loop-place.place in
    let places = c.loop-place.places.items in
    let symbol = get_or c.args.sequence.now place 0 in
    let inside : place < length c.args.sequence.now = omega (arith, c.loop-place-test.true) in
    let there : symbol < length c.args.states.now = c.requires place 0 inside in
    let before = get_or_read places symbol c.index.result.now (omega (arith, there, c.loop-place.invariant.count)) c.index.ensures None in
    let found : c.then_some-found.result ≡ cond (is_unordered_at c.args.states.now symbol) (Some place) None = search rules in
    let now : c.or.result ≡ option_or (get_or places symbol None) (cond (is_unordered_at c.args.states.now symbol) (Some place) None) =
    c.or.ensures ∙ ap₂ option_or before found in
    rw now (places_more c.args.sequence.now c.args.states.now places place symbol inside refl there c.loop-place.invariant)
