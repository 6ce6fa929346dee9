use Rattle.std.proofs.Common.{refl, sym, ℕ, ◌∙◌}
use Rattle.kc_tree.specs.Layouts.{place_of, prompt_in}
use Rattle.kc_tree.proofs.LayoutWalks.{definitions-first-at}
use Rattle.kc_values.specs.{MadeRows.Adds, NeedRows.{Needed, own_prompt, prompts}}
use Rattle.kc_values.proofs.{PlacesThere.place_there, WalkSteps.{definitions_less, definitions_next, definitions_next_at, definitions_none}}
use Rattle.kc_values.proofs.needs.prompts_into.Goals as goal

pub definitions-init : goal.definitions-init
definitions-init c = (record { nodes_are = refl; names_are = refl }, definitions-first-at c.args.layout.now c.args.id.0 c.args.symbol.now c.requires.row)

pub own_prompt_into-requires : goal.own_prompt_into-requires
own_prompt_into-requires c = rw c.place-place.ensures (record { there = place_there c.args.layout.now c.definitions.at.0 })

pub definitions-preserved : goal.definitions-preserved
definitions-preserved c =
    let l = c.args.layout.now in
    let at = c.definitions.at.0 in
    let g : ℕ → Needed = λ k. own_prompt l (place_of l k) (prompt_in l (place_of l k)) in
    let test = sym c.is_some.ensures ∙ c.definitions-test.true in
    let add : Adds c.definitions.out c.own_prompt_into.new.out (g at) = rw (← c.place-place.ensures) c.in_ok-own_prompt_into.ensures in (
      rw c.place-place.ensures (definitions_next l c.args.id g c.args.out.now (prompts l c.args.id c.args.symbol.now.first.0) at c.definitions.out c.own_prompt_into.new.out test c.definitions.invariant.1 c.definitions.invariant.0 add),
      rw c.place-place.ensures (definitions_next_at l c.args.id at test c.definitions.invariant.1),
    )

pub definitions-smaller : goal.definitions-smaller
definitions-smaller c = rw c.place-place.ensures (definitions_less c.args.layout.now c.args.id c.definitions.at.0 (sym c.is_some.ensures ∙ c.definitions-test.true) c.definitions.invariant.1)

pub returns : goal.returns
returns c =
    let l = c.args.layout.now in
    definitions_none l c.args.id (λ k. own_prompt l (place_of l k) (prompt_in l (place_of l k))) c.args.out.now (prompts l c.args.id c.args.symbol.now.first.0) c.definitions.at.0 c.definitions.out
    (sym c.is_some.ensures ∙ c.definitions-test.false) c.definitions.invariant.0
