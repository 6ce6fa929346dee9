use Rattle.std.proofs.Common.{ap, arith, length, refl, subst, sym, ◌∙◌, ◌≡◌}
use Rattle.kc_tree.specs.EntryViews.{statements_in}
use Rattle.kc_build.specs.{SelectorRows.AreSelectors, Sound.AreSound}
use Rattle.kc_build.proofs.{LaidLemmas.{choices-fit, is-few, laid, members-here, places-here, rows-here}, PartsLemmas.{none-refused, refused-is, whole}}
use Rattle.kc_build.proofs.build.build_parts.Goals as goal

pub blocks_of-requires-clause-few : goal.blocks_of-requires-clause-few
blocks_of-requires-clause-few c = is-few c.args.entries c.requires.few (omega (arith, c.in_ok-check_count-2.ensures, c.len.ensures, c.args.entries.attributes.ok))

pub definitions_of-requires-clause-few : goal.definitions_of-requires-clause-few
definitions_of-requires-clause-few c = is-few c.args.entries c.requires.few (omega (arith, c.in_ok-check_count-2.ensures, c.len.ensures, c.args.entries.attributes.ok))

pub diagnose-requires-clause-few : goal.diagnose-requires-clause-few
diagnose-requires-clause-few c = is-few c.args.entries c.requires.few (omega (arith, c.in_ok-check_count-2.ensures, c.len.ensures, c.args.entries.attributes.ok))

pub selectors_of-requires-clause-few : goal.selectors_of-requires-clause-few
selectors_of-requires-clause-few c = is-few c.args.entries c.requires.few (omega (arith, c.in_ok-check_count-2.ensures, c.len.ensures, c.args.entries.attributes.ok))

pub give_choices-requires-clause-few : goal.give_choices-requires-clause-few
give_choices-requires-clause-few c =
    let fit = choices-fit c.args.entries c.requires.few c.in_ok-places.field-0 c.in_ok-places.ensures in
    let size = ap length c.deref.ensures.value in
    omega (arith, fit, size)

pub give_choices-requires-clause-there : goal.give_choices-requires-clause-there
give_choices-requires-clause-there c =
    let sound = subst (λ n. AreSound n (statements_in c.args.entries)) (sym c.count-count.ensures) c.requires.lines in
    members-here c.args.entries c.count-count.result sound c.in_ok-places.field-0 c.in_ok-places.ensures c.deref.result.now c.in_ok-symbols.symbols.items c.deref.ensures.value c.in_ok-symbols.ensures.rows.0

pub diagnose-requires-clause-known : goal.diagnose-requires-clause-known
diagnose-requires-clause-known c =
    let sound = subst (λ n. AreSound n (statements_in c.args.entries)) (sym c.count-count.ensures) c.requires.lines in
    rows-here c.args.entries c.count-count.result sound c.in_ok-places.field-0 c.in_ok-places.ensures c.deref.result.now c.in_ok-symbols.symbols.items c.give_choices.new.symbols.items
    c.deref-2.result.now c.deref.ensures.value c.in_ok-symbols.ensures.rows c.in_ok-give_choices.ensures c.deref-2.ensures.value

pub selectors_of-requires-clause-places : goal.selectors_of-requires-clause-places
selectors_of-requires-clause-places c =
    let sound = subst (λ n. AreSound n (statements_in c.args.entries)) (sym c.count-count.ensures) c.requires.lines in
    places-here c.args.entries c.count-count.result sound c.in_ok-places.field-0 c.in_ok-places.ensures c.definitions_of.new.places.items c.deref-3.result.now
    c.in_ok-symbols.ensures.same c.in_ok-symbols.ensures.linked c.deref-3.ensures.value

pub selectors_of-requires-clause-known : goal.selectors_of-requires-clause-known
selectors_of-requires-clause-known c =
    let sound = subst (λ n. AreSound n (statements_in c.args.entries)) (sym c.count-count.ensures) c.requires.lines in
    rows-here c.args.entries c.count-count.result sound c.in_ok-places.field-0 c.in_ok-places.ensures c.deref.result.now c.in_ok-symbols.symbols.items c.give_choices.new.symbols.items
    c.give_choices.new.symbols.items c.deref.ensures.value c.in_ok-symbols.ensures.rows c.in_ok-give_choices.ensures refl

pub invariant_of-result : goal.invariant_of-result
invariant_of-result c =
    let es = c.args.entries in
    let b = c.in_ok-places.field-0 in
    let count = c.count-count.result in
    let sound = subst (λ n. AreSound n (statements_in c.args.entries)) (sym c.count-count.ensures) c.requires.lines in
    let size : length c.give_choices.new.symbols.items ≡ c.count-count.result = c.in_ok-give_choices.ensures.0 ∙ c.in_ok-symbols.ensures.rows.0 in
    let selectors = subst (λ n. AreSelectors c.args.entries n c.selectors_of.new.symbols.items c.in_ok-selectors.selectors.items) size c.in_ok-selectors.ensures in
    let stand = places-here es count sound b c.in_ok-places.ensures c.definitions_of.new.places.items c.definitions_of.new.places.items c.in_ok-symbols.ensures.same c.in_ok-symbols.ensures.linked refl in
    let none = none-refused c.args.names.now es c.in_ok-diagnostics.diagnostics c.in_ok-diagnostics.ensures c.in-Ok.warnings.items c.in-Ok.ensures in
    record {
      laid = laid es c.requires.few b c.in_ok-places.ensures count c.definitions_of.new.places.items c.selectors_of.new.symbols.items c.in_ok-selectors.selectors.items c.args.defined.items
          c.in_ok-check_count.ensures sound c.in_ok-symbols.ensures.same stand selectors c.requires.defined none;
    }

pub returns-in-Err-clause-parts : goal.returns-in-Err-clause-parts
returns-in-Err-clause-parts c = refused-is c.args.names.now c.args.entries c.in_ok-diagnostics.diagnostics c.in_ok-diagnostics.ensures c.in-Err.refusal c.in-Err.ensures

pub returns-in-Ok-clause-parts : goal.returns-in-Ok-clause-parts
returns-in-Ok-clause-parts c =
    whole c.args.names.now c.args.entries c.in_ok-diagnostics.diagnostics c.in_ok-diagnostics.ensures c.in-Ok.warnings.items c.in-Ok.ensures c.in_ok-main_menu.main_menu.items
    (c.in_ok-main_menu.ensures c.args.names.now)
