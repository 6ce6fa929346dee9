use Rattle.std.proofs.{Common.{None, Some, add-one, ap, arith, length, subst, sym, ◌++◌, ◌+◌, ◌<◌, ◌∙◌, ◌≡◌}, lemmas.Option.slice_get-get_or}
use Rattle.std.specs.List.{slice_get}
use Rattle.kc_language.specs.Symbols.{target_of}
use Rattle.kc_entries.specs.StatementViews.{attribute_view}
use Rattle.kc_tree.specs.LineParts.{target_said}
use Rattle.kc_tree.proofs.AttributeLemmas.{statement_at}
use Rattle.kc_build.specs.SelectorRows.{AreLaid, effects_before}
use Rattle.kc_build.proofs.{AddedLemmas.{adds-line, adds-nothing, more-lines, same-rows}, selectors.add_selectors.Goals.{in-Some+in_ok-add_selector, in_default}}
use Rattle.kc_build.proofs.selectors.add_selectors.Goals as goal

pub add_selector-requires-clause-there : goal.add_selector-requires-clause-there
add_selector-requires-clause-there c =
    let x = c.line-item.result in
    let t = c.in-Some.target in
    let at = statement_at c.args.own.attributes.now c.loop-j.j x c.loop-j-test.true c.line-item.is in
    let below = c.requires.there c.loop-j.j (attribute_view x.attribute) (target_said t) at (sym c.in-Some.ensures) in
    subst (λ n. t.symbol.0 < n) (sym c.loop-j.invariant.count) below

pub loop-j-preserved : goal.loop-j-preserved
loop-j-preserved c =
    let i = c.loop-j.invariant in
    let x = c.line-item.result in
    let at : slice_get c.args.own.attributes.now c.loop-j.j ≡ Some x = slice_get-get_or c.args.own.attributes.now c.loop-j.j x c.loop-j-test.true ∙ ap Some (sym c.line-item.is) in
    elim c.match-target_of.branch [
      | in-Some+in_ok-add_selector v ↦
          let added = v.in_ok-add_selector.ensures in
          rw (v.symbols-is, v.lines-is) (record {
            laid = λ es e pairs count entry begins laid. rw add-one (adds-line es e c.args.own begins c.loop-j.j x at pairs count c.loop-j.symbols.items c.loop-j.lines.items
                (i.laid es e pairs count entry begins laid) c.args.entry v.of-attribute.result v.in-Some.target _ _ entry v.of-attribute.ensures (sym v.in-Some.ensures) added);
            count = same-rows added ∙ i.count;
            few = (let m = more-lines added in let f = i.few in omega (arith, m, f));
          })
      | in_default v ↦
          let none : target_of (attribute_view x.attribute) ≡ None = sym v.in_default.ensures in
          rw (v.symbols-is, v.lines-is) (record {
            laid = λ es e pairs count entry begins laid. rw add-one (adds-nothing es e c.args.own begins c.loop-j.j x at pairs count c.loop-j.symbols.items c.loop-j.lines.items
                (i.laid es e pairs count entry begins laid) none);
            count = i.count;
            few = (let f = i.few in omega (arith, f));
          })
    ]

pub returns : goal.returns
returns c = λ es e pairs count entry begins laid.
    let past = c.loop-j-test.false in
    let within = c.loop-j.auto.j-end in
    let end : c.loop-j.j ≡ length c.args.own.attributes.now = omega (arith, past, within) in
    subst (λ n. AreLaid es (pairs ++ effects_before es e n) count c.loop-j.symbols.items c.loop-j.lines.items) end (c.loop-j.invariant.laid es e pairs count entry begins laid)
