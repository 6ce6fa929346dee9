use Rattle.std.proofs.Common.{ap, sym, ◌∙◌}
use Rattle.std.specs.List.{filter_map}
use Rattle.kc_language.specs.{Expressions.greater, Symbols.listed}
use Rattle.kc_tree.specs.{Layouts.{DefinitionFacts, prompt_when}, declared.rows.EntryPlace.EntryPlace}
use Rattle.kc_values.specs.{AtTable.conditions, TableFacts.condition_at}
use Rattle.kc_values.proofs.{DefinitionLemmas.{all-left, next-is, prompts-step, prompts_left, walk-begins, walk-ends}, TriLemmas.greater_n}
use Rattle.kc_values.proofs.truths.prompts_condition.Goals as goal

pub definitions-init : goal.definitions-init
definitions-init c =
    let t = c.args.table.now in
    record {
      same = ap (λ ds. conditions t (filter_map (λ (d : DefinitionFacts). d.prompt) ds)) (all-left t c.args.id c.args.symbol.now c.requires);
      walk = walk-begins t c.args.id c.args.symbol.now c.requires;
    }

pub definitions-preserved : goal.definitions-preserved
definitions-preserved c =
    let t = c.args.table.now in
    let l = t.layout.now in
    let at = c.definitions.at.0 in
    let next = next-is t c.args.id at c.place-place.result.next.0 (sym c.is_some.ensures ∙ c.definitions-test.true) c.definitions.invariant.walk (ap (λ (p : EntryPlace). p.next.0) c.place-place.ensures) in
    record {
      same =
          ap (λ x. greater x (prompts_left t c.args.id c.place-place.result.next.0)) c.greater-greatest.ensures
          ∙ prompts-step t c.args.id at c.place-place.result.next.0 c.definitions.greatest c.prompt_visibility.result _ next
          (c.prompt_visibility.ensures ∙ ap (λ p. conditions t (listed (prompt_when l (condition_at t p.context.0) p))) c.place-place.ensures)
          c.definitions.invariant.same;
      walk = next.walk;
    }

pub definitions-smaller : goal.definitions-smaller
definitions-smaller c =
    let at = c.definitions.at.0 in
    (next-is c.args.table.now c.args.id at c.place-place.result.next.0 (sym c.is_some.ensures ∙ c.definitions-test.true) c.definitions.invariant.walk (ap (λ (p : EntryPlace). p.next.0) c.place-place.ensures)).smaller

pub returns : goal.returns
returns c =
    let t = c.args.table.now in
    sym (greater_n c.definitions.greatest)
    ∙ ap (greater c.definitions.greatest) (sym (ap (λ ds. conditions t (filter_map (λ (d : DefinitionFacts). d.prompt) ds)) (walk-ends t c.args.id c.definitions.at.0 (sym c.is_some.ensures ∙ c.definitions-test.false))))
    ∙ c.definitions.invariant.same
