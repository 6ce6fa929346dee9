use Rattle.std.proofs.{Common.{None, Option, Some, ap, false, length, refl, sym, ◌∙◌, ◌≡◌}, lemmas.{Bool.true≢false, Option.slice_get_read}}
use Rattle.std.specs.{List.slice_get, Option.is_some, Prelude.option_map}
use Rattle.kc_language.specs.{Expressions.{TextValue, Truth, truth_of_value}, Values.{equation, facts, known_from, name, user_place}, declared.expressions.SymbolType.TheVariants.Undefined}
use Rattle.kc_tree.specs.Layouts.{facts_of}
use Rattle.kc_values.proofs.Laid.{symbol_found}
use Rattle.kc_possible.specs.Bounds.{is_between}
use Rattle.kc_possible.proofs.SolvedLemmas.{known-solved}
use Rattle.kc_possible.proofs.dead.is_within_bounds.Goals as goal

pub returns-in-Some : goal.returns-in-Some
returns-in-Some c out user V under is =
    let p = c.args.p.now in
    let i = c.args.id.0 in
    let allowed = c.requires user V under in
    let read = c.in-Some.ensures.lookup in
    let there = ap (λ bounds. slice_get bounds i) (sym c.deref.ensures.value) ∙ slice_get_read c.deref.result.now (length c.deref.result.now) i c.in-Some.bounds.now refl read.3.0 read.1 in
    let within = allowed.symbols i c.in-Some.bounds.now there in
    true≢false (sym within ∙ ap (λ v. is_between c.in-Some.bounds.now (truth_of_value v)) is ∙ sym c.has.ensures ∙ out)

nothing : {X Y Z : Type 0} (f : X → Y) (g : Y → Z) (o : Option X) → is_some o ≡ false → option_map g (option_map f o) ≡ None
nothing f g None h = refl
nothing f g (Some x) h = absurd cc

-- a symbol that is not there has no truth value
pub returns-in-None : goal.returns-in-None
returns-in-None c out user V under is =
    let p = c.args.p.now in
    let tree = p.laid.tree.now in
    let l = p.laid.layout.now in
    let s = c.args.id in
    let known = known_from tree V in
    let none : facts tree s ≡ None = sym (symbol_found tree l p.laid.laid s.0 _ c.symbol.ensures) ∙ nothing _ (facts_of l s.0) c.symbol.result (sym c.is_some.ensures ∙ out) in
    let e : Truth c.args.value ≡ TextValue Undefined (name tree s) = sym is ∙ known-solved tree user V under s ∙ ap (λ o. equation tree known s o (user (user_place tree s.0))) none in
    cc
