-- The text of a chain, part by part.
use Rattle.std.proofs.{Common.{Bool, List, Option, Some, [], add-one, ap, append-nil, append_assoc, codes, drop, drop-cons, false, get_or, length, map, refl, suc, sym, true, ℕ, ◌++◌, ◌+◌, ◌<◌, ◌∙◌, ◌∷◌, ◌≡◌, ◌≤◌}, lemmas.{List.drop_all, Option.unwrap_or-slice_get}}
use Rattle.std.specs.{Prelude.{None, if◌then◌else◌, is_some, slice_get, unwrap_or}, declared.{alloc.Global.Global, boxed.Box.Box}}
use Rattle.kc_expr.specs.{Form.{form_of, parts_of}, declared.expression.{Expr.{All, Any, Expr}, Parts.Parts}}
use Rattle.kc_expr.proofs.FormLemmas.{form_of-All, form_of-Any}
use Rattle.kc_language.specs.{ExpressionTexts.{chain_text, is_and, joint, parenthesized, text_at}, Expressions.forms, declared.expressions.Connective.{Connective, TheVariants.{And, Or}}}

-- what is written before and after the parts
abbrev pub opening : Bool → List ℕ
opening needed = if needed then codes "(" else []

abbrev pub closing : Bool → List ℕ
closing needed = if needed then codes ")" else []

pub parenthesized_parts : (needed : Bool) (t : List ℕ) → parenthesized needed t ≡ opening needed ++ (t ++ closing needed)
parenthesized_parts true t = refl
parenthesized_parts false t = sym (append-nil t)

-- the texts of the parts after the second, each after its connective
abbrev pub rest_text : List (List ℕ) → Connective → List Expr → List ℕ
rest_text names c es = chain_text names c (joint c) (forms (map form_of es))

text_of_chain : (names : List (List ℕ)) (place : Option Connective) (c : Connective) (v : Box Parts Global) (e : Expr) (needed : Bool) →
    text_at names place (form_of e) ≡ parenthesized needed (chain_text names c [] (forms (map form_of (parts_of v.value)))) → (p q : Parts) (rest : List Expr) →
    p ≡ v.value → q ≡ v.value → rest ≡ v.value.rest.items →
    text_at names place (form_of e) ≡ opening needed ++ ((text_at names (Some c) (form_of p.first) ++ rest_text names c (q.second ∷ rest)) ++ closing needed)
text_of_chain names place c v e needed whole p q rest first second others =
    let text = λ (x y : Parts) (es : List Expr). opening needed ++ ((text_at names (Some c) (form_of x.first) ++ rest_text names c (y.second ∷ es)) ++ closing needed) in
    whole ∙ parenthesized_parts needed _ ∙ ap (λ x. text x v.value v.value.rest.items) (sym first)
    ∙ ap (λ y. text p y v.value.rest.items) (sym second) ∙ ap (text p q) (sym others)

module _ (names : List (List ℕ)) (place : Option Connective) (v : Box Parts Global) (e : Expr) (needed : Bool) where
  pub text_of_all : e ≡ All v → needed ≡ is_and place → (p q : Parts) (rest : List Expr) → p ≡ v.value → q ≡ v.value → rest ≡ v.value.rest.items →
      text_at names place (form_of e) ≡ opening needed ++ ((text_at names (Some And) (form_of p.first) ++ rest_text names And (q.second ∷ rest)) ++ closing needed)
  text_of_all is is_needed = text_of_chain names place And v e needed (ap (λ x. text_at names place (form_of x)) is ∙ ap (text_at names place) (form_of-All v)
      ∙ ap (λ b. parenthesized b (chain_text names And [] (forms (map form_of (parts_of v.value))))) (sym is_needed))

  pub text_of_any : e ≡ Any v → needed ≡ is_some place → (p q : Parts) (rest : List Expr) → p ≡ v.value → q ≡ v.value → rest ≡ v.value.rest.items →
      text_at names place (form_of e) ≡ opening needed ++ ((text_at names (Some Or) (form_of p.first) ++ rest_text names Or (q.second ∷ rest)) ++ closing needed)
  text_of_any is is_needed = text_of_chain names place Or v e needed (ap (λ x. text_at names place (form_of x)) is ∙ ap (text_at names place) (form_of-Any v)
      ∙ ap (λ b. parenthesized b (chain_text names Or [] (forms (map form_of (parts_of v.value))))) (sym is_needed))

-- after the second part: the texts so far, and the whole
pub begun : (names : List (List ℕ)) (c : Connective) (needed : Bool) (first second : Expr) (rest : List Expr) (old t0 t1 t2 t3 total : List ℕ) →
    t0 ≡ old ++ opening needed → t1 ≡ t0 ++ text_at names (Some c) (form_of first) → t2 ≡ t1 ++ joint c → t3 ≡ t2 ++ text_at names (Some c) (form_of second) →
    total ≡ opening needed ++ ((text_at names (Some c) (form_of first) ++ rest_text names c (second ∷ rest)) ++ closing needed) →
    t3 ++ (rest_text names c rest ++ closing needed) ≡ old ++ total
begun names c needed first second rest old t0 t1 t2 t3 total a b d e whole =
    ap (λ t. t ++ (rest_text names c rest ++ closing needed)) (e ∙ ap (λ t. t ++ text_at names (Some c) (form_of second)) (d ∙ ap (λ t. t ++ joint c)
    (b ∙ ap (λ t. t ++ text_at names (Some c) (form_of first)) a)))
    ∙ regroup old (opening needed) (text_at names (Some c) (form_of first)) (joint c) (text_at names (Some c) (form_of second)) (rest_text names c rest) (closing needed)
    ∙ ap (λ t. old ++ t) (sym whole)
  where
    regroup : (o p f j s m z : List ℕ) → ((((o ++ p) ++ f) ++ j) ++ s) ++ (m ++ z) ≡ o ++ (p ++ ((f ++ ((j ++ s) ++ m)) ++ z))
    regroup o p f j s m z = simp append_assoc

-- at the end
pub ended : (names : List (List ℕ)) (c : Connective) (es : List Expr) (i : ℕ) (now total close last : List ℕ) → length es ≤ i →
    now ++ (rest_text names c (drop i es) ++ close) ≡ total → last ≡ now ++ close → last ≡ total
ended names c es i now total close last le all e =
    e ∙ ap (λ l. now ++ (rest_text names c l ++ close)) (sym (drop_all i es le)) ∙ all

-- one part more is written, and one less is left
pub one_more : (names : List (List ℕ)) (c : Connective) (es : List Expr) (i : ℕ) (e : Expr) (before now total close : List ℕ) → i < length es → e ≡ get_or es i e →
    now ≡ (before ++ joint c) ++ text_at names (Some c) (form_of e) → before ++ (rest_text names c (drop i es) ++ close) ≡ total →
    now ++ (rest_text names c (drop (i + 1) es) ++ close) ≡ total
one_more names c es i e before now total close lt is written all =
    let split : drop i es ≡ e ∷ drop (i + 1) es = drop-cons es i e lt ∙ ap (λ x. x ∷ drop (suc i) es) (sym is) ∙ ap (λ k. e ∷ drop k es) (sym (add-one i)) in
    ap (λ t. t ++ (rest_text names c (drop (i + 1) es) ++ close)) written ∙ regroup before (joint c) (text_at names (Some c) (form_of e)) (rest_text names c (drop (i + 1) es))
    ∙ ap (λ l. before ++ (rest_text names c l ++ close)) (sym split) ∙ all
  where
    regroup : (b j t m : List ℕ) → ((b ++ j) ++ t) ++ (m ++ close) ≡ b ++ (((j ++ t) ++ m) ++ close)
    regroup b j t m = simp append_assoc

-- a number without a name
pub no_name : (names : List (List ℕ)) (i : ℕ) → None ≡ slice_get names i → get_or names i [] ≡ []
no_name names i none = sym (unwrap_or-slice_get names i []) ∙ ap (λ o. unwrap_or o []) (sym none)
