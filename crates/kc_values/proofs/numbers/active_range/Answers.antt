use Rattle.std.proofs.Common.{None, Some, ap, refl, subst, sym, ◌∙◌}
use Rattle.std.specs.List.{flat_map}
use Rattle.kc_tree.specs.{Layouts.{DefinitionFacts, top}, declared.rows.EntryPlace.EntryPlace}
use Rattle.kc_values.specs.{AtTable.{first_met, range_at}, FoundRows.IsMetRange, PartsOfValues.interval, TableFacts.{condition_at, known_at}}
use Rattle.kc_values.proofs.{DefinitionLemmas.{all-left, met-ends, met-skip, met-step, met_left, next-is, walk-begins}, MetLemmas.{range-bounds, range-none, range-some}, numbers.active_range.Goals.{else-place, then-place+in_default}}
use Rattle.kc_values.proofs.numbers.active_range.Goals as goal

pub definitions-init : goal.definitions-init
definitions-init c =
    let t = c.args.table.now in
    record {
      same = ap (λ ds. first_met t (flat_map (λ (d : DefinitionFacts). d.ranges) ds)) (all-left t c.args.id c.args.symbol.now c.requires);
      walk = walk-begins t c.args.id c.args.symbol.now c.requires;
    }

pub definitions-preserved : goal.definitions-preserved
definitions-preserved c =
    let t = c.args.table.now in
    let id = c.args.id in
    let at = c.definitions.at.0 in
    let lines = λ (d : DefinitionFacts). d.ranges in
    let next = c.place-place.result.next.0 in
    let is = next-is t id at next (sym c.is_some.ensures ∙ c.definitions-test.true) c.definitions.invariant.walk (ap (λ (p : EntryPlace). p.next.0) c.place-place.ensures) in
    elim c.if-place.branch [
      | then-place+in_default w ↦ record {
        same =
            let here = ap (λ (p : EntryPlace). range_at t at (condition_at t p.context.0)) c.place-place.ensures in
            sym (range-none t _ (met_left t id lines next) (subst (λ o. IsMetRange t o None) here w.in_default.ensures))
            ∙ sym (met-step t id lines at next is)
            ∙ c.definitions.invariant.same;
        walk = is.walk;
      }
      | else-place w ↦ record {
        same = sym (met-skip t id lines at next is (is.no_range (sym (ap (λ (p : EntryPlace). p.has_range) c.place-place.ensures) ∙ w.if-place.false))) ∙ c.definitions.invariant.same;
        walk = is.walk;
      }
    ]

pub definitions-smaller : goal.definitions-smaller
definitions-smaller c =
    let at = c.definitions.at.0 in
    (next-is c.args.table.now c.args.id at c.place-place.result.next.0 (sym c.is_some.ensures ∙ c.definitions-test.true) c.definitions.invariant.walk (ap (λ (p : EntryPlace). p.next.0) c.place-place.ensures)).smaller

pub returns-in-Some-clause-range : goal.returns-in-Some-clause-range
returns-in-Some-clause-range c =
    let t = c.args.table.now in
    let id = c.args.id in
    let at = c.definitions.at.0 in
    let lines = λ (d : DefinitionFacts). d.ranges in
    let next = c.place-place.result.next.0 in
    let is = next-is t id at next (sym c.is_some.ensures ∙ c.definitions-test.true) c.definitions.invariant.walk (ap (λ (p : EntryPlace). p.next.0) c.place-place.ensures) in
    let here = ap (λ (p : EntryPlace). range_at t at (condition_at t p.context.0)) c.place-place.ensures in
    let found = subst (λ o. IsMetRange t o (Some c.in-Some.range)) here c.in-Some.ensures in
    c.bounds_of.ensures.range
    ∙ range-bounds t c.args.symbol.now.symbol_type _ c.in-Some.range top found
    ∙ ap (interval (known_at t) c.args.symbol.now.symbol_type)
    (range-some t _ (met_left t id lines next) c.in-Some.range found ∙ sym (met-step t id lines at next is) ∙ c.definitions.invariant.same)

pub returns-clause-range : goal.returns-clause-range
returns-clause-range c =
    let t = c.args.table.now in
    ap (interval (known_at t) c.args.symbol.now.symbol_type) (sym (met-ends t c.args.id (λ (d : DefinitionFacts). d.ranges) c.definitions.at.0 (sym c.is_some.ensures ∙ c.definitions-test.false)) ∙ c.definitions.invariant.same)
