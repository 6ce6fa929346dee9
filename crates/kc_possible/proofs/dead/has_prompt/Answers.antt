use Rattle.std.proofs.Common.{None, Option, Some, ap, refl, sym, ◌∙◌, ◌≡◌}
use Rattle.std.specs.{Option.is_some, Prelude.option_map}
use Rattle.kc_language.specs.Texts.{has_prompt}
use Rattle.kc_tree.specs.{Layouts.prompt_in, declared.rows.EntryPlace.EntryPlace}
use Rattle.kc_possible.proofs.{DefinitionWalks.{all-left, next-is, walk-begins, walk-ends}, PromptWalks.{prompted, prompts_among, unprompted}}
use Rattle.kc_possible.proofs.dead.has_prompt.Goals as goal

-- whether there is one does not depend on what it is
some-seen : {X Y : Type 0} (f : X → Y) (o : Option Y) (r : Option X) → option_map f r ≡ o → is_some r ≡ is_some o
some-seen {X} f o r e = same r ∙ ap is_some e
  where
    same : (x : Option X) → is_some x ≡ is_some (option_map f x)
    same None = refl
    same (Some x) = refl

pub definitions-init : goal.definitions-init
definitions-init c =
    let l = c.args.p.now.laid.layout.now in
    record {
      same = ap (λ ds. has_prompt (prompts_among ds)) (all-left l c.args.id c.args.row.now c.requires);
      walk = walk-begins l c.args.id c.args.row.now c.requires;
    }

pub definitions-smaller : goal.definitions-smaller
definitions-smaller c =
    let at = c.definitions.at.0 in
    (next-is c.args.p.now.laid.layout.now c.args.id at c.place-place.result.next.0 (sym c.is_some.ensures ∙ c.definitions-test.true) c.definitions.invariant.walk (ap (λ (x : EntryPlace). x.next.0) c.place-place.ensures)).smaller

pub definitions-preserved : goal.definitions-preserved
definitions-preserved c =
    let l = c.args.p.now.laid.layout.now in
    let at = c.definitions.at.0 in
    let next = next-is l c.args.id at c.place-place.result.next.0 (sym c.is_some.ensures ∙ c.definitions-test.true) c.definitions.invariant.walk (ap (λ (x : EntryPlace). x.next.0) c.place-place.ensures) in
    let without = ap (λ x. is_some (prompt_in l x)) (sym c.place-place.ensures) ∙ sym (some-seen _ _ c.prompt.result c.prompt.ensures) ∙ sym c.is_some-in-definitions.ensures ∙ c.if-is_some.false in
    record {
      same = sym (ap has_prompt (unprompted l c.args.id at c.place-place.result.next.0 next without)) ∙ c.definitions.invariant.same;
      walk = next.walk;
    }

pub returns-then-is_some : goal.returns-then-is_some
returns-then-is_some c =
    let l = c.args.p.now.laid.layout.now in
    let at = c.definitions.at.0 in
    let next = next-is l c.args.id at c.place-place.result.next.0 (sym c.is_some.ensures ∙ c.definitions-test.true) c.definitions.invariant.walk (ap (λ (x : EntryPlace). x.next.0) c.place-place.ensures) in
    let with = ap (λ x. is_some (prompt_in l x)) (sym c.place-place.ensures) ∙ sym (some-seen _ _ c.prompt.result c.prompt.ensures) ∙ sym c.is_some-in-definitions.ensures ∙ c.if-is_some.true in
    sym (prompted l c.args.id at c.place-place.result.next.0 next with) ∙ c.definitions.invariant.same

pub returns : goal.returns
returns c =
    let l = c.args.p.now.laid.layout.now in
    ap (λ ds. has_prompt (prompts_among ds)) (sym (walk-ends l c.args.id c.definitions.at.0 (sym c.is_some.ensures ∙ c.definitions-test.false))) ∙ c.definitions.invariant.same
