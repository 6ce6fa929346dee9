use Rattle.std.proofs.{Common.{Some, ap, arith, length, sym, ◌∙◌}, lemmas.Option.slice_get-get_or}
use Rattle.kc_build.proofs.SymbolLemmas.{given-all, given-first, given-one, member-there}
use Rattle.kc_build.proofs.symbols.give_choices.Goals as goal

pub loop-member-init : goal.loop-member-init
loop-member-init c = given-first c.args.choices.now c.args.symbols.now.items c.deref-member-items.result.now c.loop-k.k c.loop-k.symbols.items c.loop-k.invariant

pub index_mut-requires : goal.index_mut-requires
index_mut-requires c =
    let members = c.deref-member-items.result.now in
    let j = c.loop-member.member-index in
    let there = member-there c.args.choices.now (length c.args.symbols.now.items) c.loop-k.k j c.index-choices-k.result members _ c.requires.there c.loop-k-test.true c.index-choices-k.is
    c.deref-member-items.ensures.value (slice_get-get_or members j (record { 0 = 0 }) c.loop-member-test.true) in
    let size = c.loop-member.invariant.0 in
    omega (arith, there, size, c.loop-member.symbols.ok)

pub loop-member-preserved : goal.loop-member-preserved
loop-member-preserved c =
    let members = c.deref-member-items.result.now in
    let j = c.loop-member.member-index in
    let at = slice_get-get_or members j (record { 0 = 0 }) c.loop-member-test.true in
    let there = member-there c.args.choices.now (length c.args.symbols.now.items) c.loop-k.k j c.index-choices-k.result members _ c.requires.there c.loop-k-test.true c.index-choices-k.is
    c.deref-member-items.ensures.value at in
    let size = c.loop-member.invariant.0 in
    given-one c.args.choices.now c.args.symbols.now.items members c.loop-k.k j c.loop-member.symbols.items _ c.index_mut.result.now c.make_member.new.symbol c.loop-member.invariant at
    (omega (arith, there, size)) c.index_mut.ensures.value c.in_ok-make_member.ensures

pub loop-k-preserved : goal.loop-k-preserved
loop-k-preserved c =
    let choice = c.index-choices-k.result in
    given-all c.args.choices.now c.args.symbols.now.items c.deref-member-items.result.now c.loop-k.k c.loop-member.member-index c.loop-member.symbols.items choice
    (slice_get-get_or c.args.choices.now c.loop-k.k choice c.loop-k-test.true ∙ ap Some (sym c.index-choices-k.is)) (sym c.deref-member-items.ensures.value) c.loop-member-test.false c.loop-member.invariant
