use Rattle.std.proofs.Common.{None, Some, ap, refl, subst, sym, ◌∙◌}
use Rattle.std.specs.List.{flat_map}
use Rattle.kc_tree.specs.{Layouts.DefinitionFacts, declared.rows.EntryPlace.EntryPlace}
use Rattle.kc_values.specs.{AtTable.{default_at, first_met}, FoundRows.IsMetDefault, TableFacts.condition_at}
use Rattle.kc_values.proofs.{DefinitionLemmas.{all-left, met-ends, met-skip, met-step, met_left, next-is, walk-begins}, MetLemmas.{default-none, default-some}, truths.met_default.Goals.{else-place, then-place+in_default}}
use Rattle.kc_values.proofs.truths.met_default.Goals as goal

pub definitions-init : goal.definitions-init
definitions-init c =
    let t = c.args.table.now in
    record {
      same = ap (λ ds. first_met t (flat_map (λ (d : DefinitionFacts). d.defaults) ds)) (all-left t c.args.id c.args.symbol.now c.requires);
      walk = walk-begins t c.args.id c.args.symbol.now c.requires;
    }

pub definitions-preserved : goal.definitions-preserved
definitions-preserved c =
    let t = c.args.table.now in
    let id = c.args.id in
    let at = c.definitions.at.0 in
    let lines = λ (d : DefinitionFacts). d.defaults in
    let next = c.place-place.result.next.0 in
    let is = next-is t id at next (sym c.is_some.ensures ∙ c.definitions-test.true) c.definitions.invariant.walk (ap (λ (p : EntryPlace). p.next.0) c.place-place.ensures) in
    elim c.if-place.branch [
      | then-place+in_default w ↦ record {
        same =
            let here = ap (λ (p : EntryPlace). default_at t at (condition_at t p.context.0)) c.place-place.ensures in
            sym (default-none t _ (met_left t id lines next) (subst (λ o. IsMetDefault t o None) here w.in_default.ensures))
            ∙ sym (met-step t id lines at next is)
            ∙ c.definitions.invariant.same;
        walk = is.walk;
      }
      | else-place w ↦ record {
        same = sym (met-skip t id lines at next is (is.no_default (sym (ap (λ (p : EntryPlace). p.has_default) c.place-place.ensures) ∙ w.if-place.false))) ∙ c.definitions.invariant.same;
        walk = is.walk;
      }
    ]

pub definitions-smaller : goal.definitions-smaller
definitions-smaller c =
    let at = c.definitions.at.0 in
    (next-is c.args.table.now c.args.id at c.place-place.result.next.0 (sym c.is_some.ensures ∙ c.definitions-test.true) c.definitions.invariant.walk (ap (λ (p : EntryPlace). p.next.0) c.place-place.ensures)).smaller

pub returns-in-Some : goal.returns-in-Some
returns-in-Some c =
    let t = c.args.table.now in
    let id = c.args.id in
    let at = c.definitions.at.0 in
    let lines = λ (d : DefinitionFacts). d.defaults in
    let next = c.place-place.result.next.0 in
    let is = next-is t id at next (sym c.is_some.ensures ∙ c.definitions-test.true) c.definitions.invariant.walk (ap (λ (p : EntryPlace). p.next.0) c.place-place.ensures) in
    let here = ap (λ (p : EntryPlace). default_at t at (condition_at t p.context.0)) c.place-place.ensures in
    let found = subst (λ o. IsMetDefault t o (Some c.in-Some.found)) here c.in-Some.ensures in
    subst (λ o. IsMetDefault t o (Some c.in-Some.found)) (default-some t _ (met_left t id lines next) c.in-Some.found found ∙ sym (met-step t id lines at next is) ∙ c.definitions.invariant.same) found

pub returns : goal.returns
returns c =
    let t = c.args.table.now in
    subst (λ o. IsMetDefault t o None) (sym (met-ends t c.args.id (λ (d : DefinitionFacts). d.defaults) c.definitions.at.0 (sym c.is_some.ensures ∙ c.definitions-test.false)) ∙ c.definitions.invariant.same) refl
