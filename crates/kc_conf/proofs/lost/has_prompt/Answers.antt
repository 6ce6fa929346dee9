-- The first definition with a prompt decides; without one the symbol has none.
use Rattle.std.proofs.Common.{refl, ap, sym, ◌∙◌}
use Rattle.std.specs.Prelude.{◌||◌, is_some}
use Rattle.kc_tree.specs.Stored.{unstored}
use Rattle.kc_tree.specs.declared.rows.EntryPlace.{EntryPlace}
use Rattle.kc_tree.proofs.LayoutWalks.{definitions-first-at}
use Rattle.kc_conf.proofs.PromptLemmas.{has_from, prompt_end, prompt_first, prompt_step}
use Rattle.kc_conf.proofs.lost.has_prompt.Goals as goal

pub definitions-init : goal.definitions-init
definitions-init c = record {
  same = refl;
  defines = definitions-first-at c.args.layout.now c.args.id.0 c.args.symbol.now c.requires;
}

pub returns-then-is_some : goal.returns-then-is_some
returns-then-is_some c =
    let l = c.args.layout.now in
    let id = c.args.id in
    let next = c.place-place.result.next.0 in
    let step = prompt_step l id c.definitions.at.0 next (sym c.is_some.ensures ∙ c.definitions-test.true) c.definitions.invariant.defines (ap (λ (p : EntryPlace). p.next.0) c.place-place.ensures) in
    let prompted = sym (ap (λ (p : EntryPlace). is_some (unstored p.prompt.0)) c.place-place.ensures) ∙ sym c.is_some-in-definitions.ensures ∙ c.if-is_some.true in
    sym (sym (prompt_first l id c.args.symbol.now c.requires) ∙ sym c.definitions.invariant.same ∙ step.says ∙ ap (λ b. b || has_from l id next) prompted)

pub definitions-smaller : goal.definitions-smaller
definitions-smaller c =
    (prompt_step c.args.layout.now c.args.id c.definitions.at.0 c.place-place.result.next.0 (sym c.is_some.ensures ∙ c.definitions-test.true) c.definitions.invariant.defines (ap (λ (p : EntryPlace). p.next.0) c.place-place.ensures)).smaller

pub definitions-preserved : goal.definitions-preserved
definitions-preserved c =
    let l = c.args.layout.now in
    let id = c.args.id in
    let next = c.place-place.result.next.0 in
    let step = prompt_step l id c.definitions.at.0 next (sym c.is_some.ensures ∙ c.definitions-test.true) c.definitions.invariant.defines (ap (λ (p : EntryPlace). p.next.0) c.place-place.ensures) in
    let without = sym (ap (λ (p : EntryPlace). is_some (unstored p.prompt.0)) c.place-place.ensures) ∙ sym c.is_some-in-definitions.ensures ∙ c.if-is_some.false in
    record {
      same = sym (step.says ∙ ap (λ b. b || has_from l id next) without) ∙ c.definitions.invariant.same;
      defines = step.defines;
    }

pub returns : goal.returns
returns c =
    let l = c.args.layout.now in
    let id = c.args.id in
    sym (sym (prompt_first l id c.args.symbol.now c.requires) ∙ sym c.definitions.invariant.same ∙ prompt_end l id c.definitions.at.0 (sym c.is_some.ensures ∙ c.definitions-test.false))
