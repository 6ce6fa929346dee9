use Rattle.std.proofs.Common.{Option, subst, sym}
use Rattle.std.specs.{Option.option_and_then, Prelude.option_map}
use Rattle.kc_expr.specs.When.{when_view}
use Rattle.kc_language.specs.{Expressions.{Form, lesser, truth_of_value}, Symbols.{Guarded, listed}, Values.{condition, selector_values}, declared.{expressions.{SymId.SymId, Tri.Tri}, symbols.SelectOrImply.SelectOrImply}}
use Rattle.kc_tree.specs.{Layouts.{condition_at, place_of, target_in, with_when}, declared.rows.EntryPlace.EntryPlace}
use Rattle.kc_values.proofs.TriLemmas.{greater_n}
use Rattle.kc_possible.specs.Bounds.{IsWithin}
use Rattle.kc_possible.proofs.truths.selector_bounds.Goals as goal

pub returns-in-Some-target : goal.returns-in-Some-target
returns-in-Some-target c = λ known h.
    let tree = c.args.p.now.laid.tree.now in
    let l = c.args.p.now.laid.layout.now in
    let b = c.lesser.result in
    let source = c.in-Some.source in
    let facts : SymId → EntryPlace → SelectOrImply × SymId × Option Form → Guarded SymId = λ s x t. record { what = s; when = with_when (condition_at l x.context.0) (t.2) } in
    let worth : Option (Guarded SymId) → Tri = λ o. selector_values tree known (listed o) in
    let when = condition tree known (with_when (condition_at l c.place.result.context.0) (when_view c.in-Some-target.target.when.now)) in
    let here = c.lesser.ensures (truth_of_value (known source)) when (c.symbol.ensures.covers known h) (c.line_bounds.ensures known h) in
    let alone = subst (λ t. IsWithin b t) (sym (greater_n (lesser (truth_of_value (known source)) when))) here in
    let target : Option (SelectOrImply × SymId × Option Form) = target_in l c.args.line.now in
    let place = place_of l c.args.line.now.entry.0 in
    let targeted = subst (λ (o : Option (SelectOrImply × SymId × Option Form)). IsWithin b (worth (option_map (facts source c.place.result) o))) c.in-Some-target.ensures alone in
    let placed = subst (λ (x : EntryPlace). IsWithin b (worth (option_map (facts source x) target))) c.place.ensures targeted in
    subst (λ (o : Option SymId). IsWithin b (worth (option_and_then (λ s. option_map (facts s place) target) o))) c.in-Some.ensures placed
