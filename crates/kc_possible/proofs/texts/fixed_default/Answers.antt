use Rattle.std.proofs.{Common.{ap, subst, sym, ◌∙◌}, lemmas.Option.IfSome_then}
use Rattle.kc_expr.specs.{Form.form_of, declared.expression.Expr.Expr}
use Rattle.kc_language.specs.Values.{condition, default_text, single_text}
use Rattle.kc_tree.specs.{Layouts.{condition_at, with_when}, LineParts.default_said, declared.rows.EntryPlace.EntryPlace}
use Rattle.kc_possible.specs.Bounds.{IsWithin}
use Rattle.kc_possible.proofs.{DefaultLemmas.first-is-met, TruthLemmas.{differs-n, never-n}}
use Rattle.kc_possible.proofs.texts.fixed_default.Goals as goal

pub returns : goal.returns
returns c = IfSome_then c.fixed_text.result c.fixed_text.ensures (λ text says known h.
    let tree = c.args.p.now.laid.tree.now in
    let l = c.args.p.now.laid.layout.now in
    let said = default_said c.in-Some.default.now in
    let line = c.line_bounds.result in
    let here = subst (λ (x : EntryPlace). IsWithin line (condition tree known (with_when (condition_at l x.context.0) said.when))) c.place.ensures (c.line_bounds.ensures known h) in
    let met = first-is-met l c.args.id c.args.row.now c.requires tree known said c.in-Some.ensures (never-n line _ (differs-n line.low c.if-eq.ensures) here) in
    ap (default_text known) met ∙ ap (λ (e : Expr). single_text known (form_of e)) (sym c.deref.ensures) ∙ says known h)
