use Rattle.std.proofs.{Common.{arith, length, subst, sym, ◌+◌}, lemmas.Option.slice_get-get_or}
use Rattle.std.specs.List.{flat_map}
use Rattle.kc_language.specs.Expansion.{numbers}
use Rattle.kc_tree.specs.{EntryViews.statements_of, Places.effects_at}
use Rattle.kc_build.specs.SelectorRows.{AreTargetsBelow, effects_before}
use Rattle.kc_build.proofs.{SelectedLemmas.{effects-config, effects-else, effects-unsaid, entry-read, laid-next, laid-same, lines-few, none-laid, own-few, targets-there}, selectors.selectors_of.Goals.{else-place, then-place+in-Some+in-Config+in_ok-add_selectors, then-place+in-Some+in_default-head, then-place+in_default}}
use Rattle.kc_build.proofs.selectors.selectors_of.Goals as goal

pub loop-i-init : goal.loop-i-init
loop-i-init c = none-laid c.args.entries.now c.args.symbols.now.items c.new-lines.result.items c.requires.known c.new-lines.ensures.items

pub of-requires : goal.of-requires
of-requires c =
    let there = c.loop-i-test.true in
    let count = c.requires.count in
    let few = c.requires.few.entries in
    omega (arith, there, count, few)

pub add_selectors-requires-clause-there : goal.add_selectors-requires-clause-there
add_selectors-requires-clause-there c =
    let own = c.in-Some.own in
    subst (λ n. AreTargetsBelow n (statements_of own.attributes.now)) (sym c.loop-i.invariant.same)
    (targets-there c.args.entries.now c.loop-i.i own c.in-Some.ensures (length c.args.symbols.now.items) c.requires.there)

pub add_selectors-requires-clause-attributes : goal.add_selectors-requires-clause-attributes
add_selectors-requires-clause-attributes c = own-few c.args.entries.now c.loop-i.i c.in-Some.own c.in-Some.ensures c.requires.few

pub add_selectors-requires-clause-few : goal.add_selectors-requires-clause-few
add_selectors-requires-clause-few c =
    lines-few c.args.entries.now c.loop-i.i c.in-Some.own (length c.args.symbols.now.items) c.loop-i.symbols.items c.loop-i.lines.items c.requires.few c.in-Some.ensures c.loop-i.invariant

pub loop-i-preserved : goal.loop-i-preserved
loop-i-preserved c =
    let es = c.args.entries.now in
    let i = c.loop-i.i in
    let count = length c.args.symbols.now.items in
    let there = c.loop-i-test.true in
    elim c.if-place.branch [
      | then-place+in-Some+in-Config+in_ok-add_selectors v ↦
          let own = v.in-Some.own in
          rw (v.symbols-is, v.lines-is) (laid-next es i count (effects_before es i (length own.attributes.now)) (effects-config es i own v.in-Some.ensures v.in-Config.field-0 v.in-Config.is)
          (v.in_ok-add_selectors.ensures es i (flat_map (effects_at es) (numbers i)) count v.of.ensures v.in-Some.ensures c.loop-i.invariant))
      | then-place+in-Some+in_default-head v ↦
          rw (v.symbols-is, v.lines-is) (laid-same es i count (effects-else es i v.in-Some.own v.in-Some.ensures v.in_default-head.not-Config) c.loop-i.invariant)
      | then-place+in_default v ↦ absurd (entry-read es i (let n = c.requires.count in omega (arith, there, n)) v.in_default.ensures)
      | else-place v ↦
          rw (v.symbols-is, v.lines-is) (laid-same es i count
          (effects-unsaid es i _ c.args.places.now (c.requires.places i _ (slice_get-get_or c.args.places.now i _ there)) v.if-place.false) c.loop-i.invariant)
    ]
