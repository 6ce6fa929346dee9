use Rattle.std.proofs.Common.{Option, Some, false, subst, sym, ◌≡◌}
use Rattle.kc_language.specs.{Expressions.Form, Symbols.Guarded, Values.{above, condition, default_value}}
use Rattle.kc_tree.specs.{Layouts.{condition_at, default_view, with_when}, LineParts.default_said, declared.rows.EntryPlace.EntryPlace}
use Rattle.kc_possible.specs.Bounds.{IsWithin}
use Rattle.kc_possible.proofs.{DefaultLemmas.first-is-met, TruthLemmas.{differs-n, from-low, never-n}}
use Rattle.kc_possible.proofs.truths.lowest_default.Goals as goal

pub returns : goal.returns
returns c = λ known h.
    let tree = c.args.p.now.laid.tree.now in
    let l = c.args.p.now.laid.layout.now in
    let said = default_said c.in-Some.default.now in
    let line = c.line_bounds.result in
    let worth = c.default_bounds.result in
    let here = subst (λ (x : EntryPlace). IsWithin line (condition tree known (with_when (condition_at l x.context.0) said.when))) c.place.ensures (c.line_bounds.ensures known h) in
    let met = first-is-met l c.args.id c.args.row.now c.requires tree known said c.in-Some.ensures (never-n line _ (differs-n line.low c.if-eq.ensures) here) in
    let value = subst (λ (x : EntryPlace). IsWithin worth (default_value tree known (Some (default_view (condition_at l x.context.0) said)))) c.place.ensures (c.default_bounds.ensures known h) in
    subst (λ (o : Option (Guarded Form)). above worth.low (default_value tree known o) ≡ false) (sym met) (from-low worth _ value)
