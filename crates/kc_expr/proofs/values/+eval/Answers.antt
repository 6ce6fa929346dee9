-- The steps of the loops of `eval`.
use Rattle.std.proofs.Common.{List, add-one, ap, drop, drop-cons, get_or, length, map, refl, suc, sym, ℕ, ◌+◌, ◌<◌, ◌∙◌, ◌∷◌, ◌≡◌}
use Rattle.kc_expr.specs.{Form.form_of, Value.values_by, declared.expression.Expr.Expr}
use Rattle.kc_language.specs.{Expressions.{greater, greatest, least, lesser, value}, declared.expressions.Tri.Tri}
use Rattle.kc_expr.proofs.FormLemmas.{greater-assoc, lesser-assoc}
use Rattle.kc_expr.proofs.values.+eval.Goals as goal

-- one part more is joined to what was found, and one less is left
taken : (join : Tri → Tri → Tri) (fold : List Tri → Tri) (worth : Expr → Tri) (es : List Expr) (i : ℕ) (e : Expr) (before here now total : Tri) →
    ((a b c : Tri) → join (join a b) c ≡ join a (join b c)) → ((t : Tri) (ts : List Tri) → fold (t ∷ ts) ≡ join t (fold ts)) → i < length es →
    e ≡ get_or es i e → here ≡ worth e → now ≡ join before here → join before (fold (map worth (drop i es))) ≡ total →
    join now (fold (map worth (drop (i + 1) es))) ≡ total
taken join fold worth es i e before here now total assoc first lt is found joined all =
    let rest = map worth (drop (i + 1) es) in
    let split : drop i es ≡ e ∷ drop (i + 1) es = drop-cons es i e lt ∙ ap (λ x. x ∷ drop (suc i) es) (sym is) ∙ ap (λ k. e ∷ drop k es) (sym (add-one i)) in
    ap (λ t. join t (fold rest)) (joined ∙ ap (join before) found)
    ∙ assoc before (worth e) (fold rest)
    ∙ ap (join before) (sym (first (worth e) rest))
    ∙ ap (λ l. join before (fold (map worth l))) (sym split)
    ∙ all

pub loop-part-preserved : goal.loop-part-preserved
loop-part-preserved g t c =
    let known = values_by (g.V.Values.type_of c.args.values.now) (g.V.Values.tri_of c.args.values.now) (g.V.Values.text_of c.args.values.now) in
    taken lesser least (λ e. value known (g.V.Values.modules_of c.args.values.now) (form_of e)) c.deref-part-items.result.now c.loop-part.part-index c.part-item.result c.loop-part.all
    c.eval-in-loop-part.result c.lesser-all-in-loop-part.result (value known (g.V.Values.modules_of c.args.values.now) (form_of c.args.e.now)) lesser-assoc (λ t ts. refl) c.loop-part-test.true
    c.part-item.is c.eval-in-loop-part.ensures c.lesser-all-in-loop-part.ensures c.loop-part.invariant

pub loop-part-2-preserved : goal.loop-part-2-preserved
loop-part-2-preserved g t c =
    let known = values_by (g.V.Values.type_of c.args.values.now) (g.V.Values.tri_of c.args.values.now) (g.V.Values.text_of c.args.values.now) in
    taken greater greatest (λ e. value known (g.V.Values.modules_of c.args.values.now) (form_of e)) c.deref-part-items-in-Any.result.now c.loop-part-2.part-index c.part-item-in-loop-part-2.result c.loop-part-2.any
    c.eval-in-loop-part-2.result c.greater-any-in-loop-part-2.result (value known (g.V.Values.modules_of c.args.values.now) (form_of c.args.e.now)) greater-assoc (λ t ts. refl) c.loop-part-2-test.true
    c.part-item-in-loop-part-2.is c.eval-in-loop-part-2.ensures c.greater-any-in-loop-part-2.ensures c.loop-part-2.invariant
