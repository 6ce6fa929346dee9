use Rattle.std.proofs.Common.{ap, map, sym, ◌∙◌}
use Rattle.kc_language.specs.Expressions.{greater}
use Rattle.kc_values.specs.AtTable.{conditions, context, upgraded}
use Rattle.kc_tree.specs.{Layouts.DefinitionFacts, declared.rows.EntryPlace.EntryPlace}
use Rattle.kc_values.proofs.{DefinitionLemmas.{all-left, dependencies-step, dependencies_left, next-is, walk-begins, walk-ends}, TriLemmas.greater_n}
use Rattle.kc_values.proofs.truths.direct.Goals as goal

pub definitions-init : goal.definitions-init
definitions-init c =
    let t = c.args.table.now in
    record {
      same = ap (λ ds. conditions t (map (λ (d : DefinitionFacts). d.dependency) ds)) (all-left t c.args.id c.args.symbol.now c.requires);
      walk = walk-begins t c.args.id c.args.symbol.now c.requires;
    }

pub definitions-preserved : goal.definitions-preserved
definitions-preserved c =
    let t = c.args.table.now in
    let l = t.layout.now in
    let at = c.definitions.at.0 in
    let next = next-is t c.args.id at c.place-place.result.next.0 (sym c.is_some.ensures ∙ c.definitions-test.true) c.definitions.invariant.walk (ap (λ (p : EntryPlace). p.next.0) c.place-place.ensures) in
    record {
      same =
          ap (λ x. greater x (dependencies_left t c.args.id c.place-place.result.next.0)) c.greater-greatest.ensures
          ∙ dependencies-step t c.args.id at c.place-place.result.next.0 c.definitions.greatest c.context.result _ next
          (c.context.ensures ∙ ap (λ p. context t p.context.0) c.place-place.ensures)
          c.definitions.invariant.same;
      walk = next.walk;
    }

pub definitions-smaller : goal.definitions-smaller
definitions-smaller c =
    let at = c.definitions.at.0 in
    (next-is c.args.table.now c.args.id at c.place-place.result.next.0 (sym c.is_some.ensures ∙ c.definitions-test.true) c.definitions.invariant.walk (ap (λ (p : EntryPlace). p.next.0) c.place-place.ensures)).smaller

pub returns : goal.returns
returns c =
    let t = c.args.table.now in
    c.upgraded.ensures
    ∙ ap (upgraded t c.args.symbol.now.symbol_type)
    (sym (greater_n c.definitions.greatest)
    ∙ ap (greater c.definitions.greatest) (sym (ap (λ ds. conditions t (map (λ (d : DefinitionFacts). d.dependency) ds)) (walk-ends t c.args.id c.definitions.at.0 (sym c.is_some.ensures ∙ c.definitions-test.false))))
    ∙ c.definitions.invariant.same)
