-- What is known of an expression of several parts, after some of them.
use Rattle.std.proofs.{Common.{List, [], add-one, ap, drop, drop-cons, get_or, length, map, subst, suc, sym, ℕ, ◌+◌, ◌<◌, ◌∙◌, ◌∷◌, ◌≡◌, ◌≤◌}, lemmas.List.drop_all}
use Rattle.kc_expr.specs.{Form.{form_of, parts_of}, declared.expression.{Expr.Expr, Parts.Parts}}
use Rattle.kc_language.specs.{Expressions.{Form, SymbolValue, value}, declared.expressions.{SymId.SymId, Tri.Tri}}
use Rattle.kc_possible.specs.{Bounds.IsWithin, PartsOfPossible.Covers, Possible.Allows, declared.{bounds.Bounds.Bounds, possible.Possible.Possible}}

-- the value of a part
abbrev worth : Possible → (SymId → SymbolValue) → Expr → Tri
worth p known e = value known p.laid.tree.now.modules (form_of e)

-- whatever values the symbols may have, the bounds contain a value that the rest makes that of the whole
abbrev pub IsSoFar : Possible → (Tri → Tri → Tri) → (List Tri → Tri) → Bounds → List Expr → Form → Type 0
IsSoFar p join fold b rest whole = (known : SymId → SymbolValue) → Allows p known →
    (t : Tri) × IsWithin b t × (join t (fold (map (worth p known) rest)) ≡ value known p.laid.tree.now.modules whole)

-- what a value between some bounds and one between others are joined to
abbrev Joins : (Tri → Tri → Tri) → Bounds → Bounds → Bounds → Type 0
Joins join b c result = (t u : Tri) → IsWithin b t → IsWithin c u → IsWithin result (join t u)

module _ (p : Possible) (join : Tri → Tri → Tri) (fold : List Tri → Tri) (assoc : (a b c : Tri) → join (join a b) c ≡ join a (join b c)) (first : (t : Tri) (ts : List Tri) → fold (t ∷ ts) ≡ join t (fold ts)) where
  pub first_two : (b c result : Bounds) (parts x y : Parts) (rest : List Expr) (whole : Form) → Joins join b c result →
      Covers p b (λ known. worth p known x.first) → Covers p c (λ known. worth p known y.second) → x ≡ parts → y ≡ parts → rest ≡ parts.rest.items →
      ((known : SymId → SymbolValue) → value known p.laid.tree.now.modules whole ≡ fold (map (worth p known) (parts_of parts))) → IsSoFar p join fold result rest whole
  first_two b c result parts x y rest whole joined one other left right items is known allowed =
      let w = worth p known in (
        join (w x.first) (w y.second),
        joined (w x.first) (w y.second) (one known allowed) (other known allowed),
        ap (λ (z : Parts). join (join (w z.first) (w y.second)) (fold (map w rest))) left
            ∙ ap (λ (z : Parts). join (join (w parts.first) (w z.second)) (fold (map w rest))) right
            ∙ ap (λ es. join (join (w parts.first) (w parts.second)) (fold (map w es))) items
            ∙ assoc (w parts.first) (w parts.second) (fold (map w parts.rest.items))
            ∙ ap (join (w parts.first)) (sym (first (w parts.second) (map w parts.rest.items)))
            ∙ sym (first (w parts.first) (map w (parts.second ∷ parts.rest.items)))
            ∙ sym (is known),
      )

  pub one_more : (b c result : Bounds) (es : List Expr) (i : ℕ) (e : Expr) (whole : Form) → Joins join b c result → Covers p c (λ known. worth p known e) →
      i < length es → e ≡ get_or es i e → IsSoFar p join fold b (drop i es) whole → IsSoFar p join fold result (drop (i + 1) es) whole
  one_more b c result es i e whole joined covers lt is so_far known allowed =
      let w = worth p known in
      let before = so_far known allowed in
      let rest = map w (drop (i + 1) es) in
      let split : drop i es ≡ e ∷ drop (i + 1) es = drop-cons es i e lt ∙ ap (λ x. x ∷ drop (suc i) es) (sym is) ∙ ap (λ k. e ∷ drop k es) (sym (add-one i)) in (
        join before.0 (w e),
        joined before.0 (w e) before.1 (covers known allowed),
        assoc before.0 (w e) (fold rest)
            ∙ ap (join before.0) (sym (first (w e) rest))
            ∙ ap (λ l. join before.0 (fold (map w l))) (sym split)
            ∙ before.2,
      )

  pub no_more : (b : Bounds) (es : List Expr) (i : ℕ) (whole : Form) → ((t : Tri) → join t (fold []) ≡ t) → length es ≤ i → IsSoFar p join fold b (drop i es) whole →
      Covers p b (λ known. value known p.laid.tree.now.modules whole)
  no_more b es i whole neutral le so_far known allowed =
      let all = so_far known allowed in
      subst (λ (t : Tri). IsWithin b t) (sym (neutral all.0) ∙ ap (λ l. join all.0 (fold (map (worth p known) l))) (sym (drop_all i es le)) ∙ all.2) all.1
