-- The bounds of a symbol contain its truth value.
use Rattle.std.proofs.{Common.{None, ap, length, refl, sym, ◌∙◌, ◌≡◌}, lemmas.Option.{slice_get_past, slice_get_read}}
use Rattle.std.specs.List.{slice_get}
use Rattle.kc_language.specs.declared.expressions.Tri.TheVariants.{N}
use Rattle.kc_possible.specs.{Sides.lowest}
use Rattle.kc_possible.proofs.BoundsLemmas.{lowest_is_n}
use Rattle.kc_possible.proofs.expression.symbol.Goals as goal

pub returns-in-Some-clause-covers : goal.returns-in-Some-clause-covers
returns-in-Some-clause-covers c known allowed =
    let read = c.in-Some.ensures.lookup in
    let found = slice_get_read c.deref.result.now (length c.deref.result.now) c.args.id.0 c.in-Some.bounds.now refl read.3.0 read.1 in
    allowed.symbols c.args.id.0 c.in-Some.bounds.now (ap (λ bounds. slice_get bounds c.args.id.0) (sym c.deref.ensures.value) ∙ found)

pub returns-in-None-clause-low : goal.returns-in-None-clause-low
returns-in-None-clause-low c =
    let past : slice_get c.args.p.now.symbols.items c.args.id.0 ≡ None =
    ap (λ bounds. slice_get bounds c.args.id.0) (sym c.deref.ensures.value) ∙ slice_get_past c.deref.result.now c.args.id.0 c.in-None.ensures.lookup.3 in
    let none : lowest c.args.p.now c.args.id ≡ N = rw (past, lowest) in
    lowest_is_n c.any.result (c.any.ensures N) ∙ sym none
