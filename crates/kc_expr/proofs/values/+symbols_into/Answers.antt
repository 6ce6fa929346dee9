-- What the check left open in `symbols_into`.
use Rattle.std.proofs.{Common.{List, Option, [], add-one, ap, append-nil, append_assoc, arith, get_or, length, length-append, refl, suc, sym, take, zero, ℕ, ⊎_elim, ◌++◌, ◌<◌, ◌∙◌, ◌∷◌, ◌≡◌, ◌⊎◌}, lemmas.Result.on_err_weaker}
use Rattle.std.specs.declared.{alloc.Global.Global, boxed.Box.Box}
use Rattle.kc_expr.specs.{Form.{AppendsFront, form_of, leaf_of}, declared.expression.{Expr.{All, Any, Expr}, Operands.Operands, Parts.Parts}}
use Rattle.kc_language.specs.{Expressions.{leaf_symbols, symbols}, declared.expressions.SymId.SymId}
use Rattle.kc_expr.proofs.{FormLemmas.{both_on_err, front_between, front_within, symbols-All, symbols-Any, symbols_of_all}, NamesLemmas.on_err}
use Rattle.kc_expr.proofs.values.+symbols_into.Goals as goal

-- the symbols of one expression more
symbols_taken : (modules : Option SymId) (es : List Expr) (i : ℕ) (e : Expr) → i < length es → e ≡ get_or es i e →
    symbols_of_all modules (take (suc i) es) ≡ symbols_of_all modules (take i es) ++ symbols modules (form_of e)
symbols_taken modules [] i e lt is = absurd (omega arith)
symbols_taken modules (x ∷ es) zero e lt is = append-nil (symbols modules (form_of x)) ∙ ap (λ y. symbols modules (form_of y)) (sym is)
symbols_taken modules (x ∷ es) (suc i) e lt is =
    ap (λ ss. symbols modules (form_of x) ++ ss) (symbols_taken modules es i e (omega arith) is)
    ∙ sym (append_assoc (symbols modules (form_of x)) (symbols_of_all modules (take i es)) (symbols modules (form_of e)))

-- the symbols of a chain: of its first part, of its second and of the rest
symbols_apart : (modules : Option SymId) (e : Expr) (v : Box Parts Global) (p q : Parts) (rest : List Expr) →
    (e ≡ All v) ⊎ (e ≡ Any v) → p ≡ v.value → q ≡ v.value → rest ≡ v.value.rest.items →
    symbols modules (form_of e) ≡ symbols modules (form_of p.first) ++ (symbols modules (form_of q.second) ++ symbols_of_all modules rest)
symbols_apart modules e v p q rest chain first second others =
    let before = symbols modules (form_of p.first) in
    ⊎_elim (λ h. ap (λ x. symbols modules (form_of x)) h ∙ symbols-All modules v) (λ h. ap (λ x. symbols modules (form_of x)) h ∙ symbols-Any modules v) chain
    ∙ ap (λ (x : Parts). symbols modules (form_of x.first) ++ (symbols modules (form_of v.value.second) ++ symbols_of_all modules v.value.rest.items)) (sym first)
    ∙ ap (λ (x : Parts). before ++ (symbols modules (form_of x.second) ++ symbols_of_all modules v.value.rest.items)) (sym second)
    ∙ ap (λ es. before ++ (symbols modules (form_of q.second) ++ symbols_of_all modules es)) (sym others)

pub returns-in_err-symbols_into-in-All-clause-err : goal.returns-in_err-symbols_into-in-All-clause-err
returns-in_err-symbols_into-in-All-clause-err t c =
    let v = c.in-All.parts in
    let old = c.args.out.now.items in
    let all = symbols c.args.modules (form_of c.args.e.now) in
    let split = symbols_apart c.args.modules c.args.e.now v c.deref-in-All.result.now v.value v.value.rest.items c.in-All.is c.deref-in-All.ensures refl refl in
    on_err c.from_residual-in_err-symbols_into-in-All.result (AppendsFront old all c.symbols_into-in-All.new.out.items)
    (front_between [] _ _ all old old _ split (sym (append-nil old)) c.in_err-symbols_into-in-All.ensures.err)

pub returns-in_err-symbols_into-in-All-2-clause-err : goal.returns-in_err-symbols_into-in-All-2-clause-err
returns-in_err-symbols_into-in-All-2-clause-err t c =
    let v = c.in-All.parts in
    let old = c.args.out.now.items in
    let all = symbols c.args.modules (form_of c.args.e.now) in
    let split = symbols_apart c.args.modules c.args.e.now v c.deref-in-All.result.now c.deref-in-All-2.result.now v.value.rest.items c.in-All.is c.deref-in-All.ensures c.deref-in-All-2.ensures refl in
    on_err c.from_residual-in_err-symbols_into-in-All-2.result (AppendsFront old all c.symbols_into-in-All-2.new.out.items)
    (front_between _ _ _ all old _ _ split c.in_ok-symbols_into-in-All.ensures.ok c.in_err-symbols_into-in-All-2.ensures.err)

pub returns-in_err-symbols_into-in-All-3-clause-err : goal.returns-in_err-symbols_into-in-All-3-clause-err
returns-in_err-symbols_into-in-All-3-clause-err t c =
    let old = c.args.out.now.items in
    let all = symbols c.args.modules (form_of c.args.e.now) in
    let so_far = c.loop-part.invariant in
    on_err c.from_residual-in_err-symbols_into-in-All-3.result (AppendsFront old all c.symbols_into-in-loop-part.new.out.items)
    (front_within c.args.modules c.deref-part-items.result.now c.loop-part.part-index c.part-item.result so_far.before all old c.loop-part.out.items _ c.loop-part-test.true c.part-item.is
    so_far.all so_far.so_far c.in_err-symbols_into-in-All-3.ensures.err)

pub returns-in_ok-symbol_into-in-Rel-clause-err : goal.returns-in_ok-symbol_into-in-Rel-clause-err
returns-in_ok-symbol_into-in-Rel-clause-err t c =
    let left = leaf_symbols (leaf_of c.deref.result.now.left) in
    let right = leaf_symbols (leaf_of c.in-Rel.operands.value.right) in
    let both : symbols c.args.modules (form_of c.args.e.now) ≡ left ++ right = ap (λ e. symbols c.args.modules (form_of e)) c.in-Rel.is ∙ ap (λ (s : Operands). leaf_symbols (leaf_of s.left) ++ right) (sym c.deref.ensures) in
    on_err_weaker {Q = AppendsFront c.args.out.now.items (symbols c.args.modules (form_of c.args.e.now)) c.symbol_into-in-Rel-2.new.out.items} _
    (λ h. (left, right, both, h.0 ∙ c.in_ok-symbol_into-in-Rel.ensures.ok, h.1))
    (both_on_err c.symbol_into-in-Rel-2.result _ _ c.symbol_into-in-Rel-2.ensures.err (rw c.deref-in-Rel.ensures at c.symbol_into-in-Rel-2.ensures.some))

pub loop-part-init : goal.loop-part-init
loop-part-init t c =
    let v = c.in-All.parts in
    let old = c.args.out.now.items in
    let first = symbols c.args.modules (form_of c.deref-in-All.result.now.first) in
    let second = symbols c.args.modules (form_of c.deref-in-All-2.result.now.second) in
    let items = c.deref-part-items.ensures.value ∙ ap (λ (p : Parts). p.rest.items) c.deref-in-All-3.ensures in
    record {
      before = first ++ second;
      so_far =
          c.in_ok-symbols_into-in-All-2.ensures.ok ∙ ap (λ ss. ss ++ second) c.in_ok-symbols_into-in-All.ensures.ok
          ∙ append_assoc old first second ∙ ap (λ ss. old ++ ss) (sym (append-nil (first ++ second)));
      all =
          symbols_apart c.args.modules c.args.e.now v c.deref-in-All.result.now c.deref-in-All-2.result.now c.deref-part-items.result.now c.in-All.is c.deref-in-All.ensures c.deref-in-All-2.ensures items
          ∙ sym (append_assoc first second (symbols_of_all c.args.modules c.deref-part-items.result.now));
    }

pub loop-part-preserved : goal.loop-part-preserved
loop-part-preserved t c =
    let es = c.deref-part-items.result.now in
    let i = c.loop-part.part-index in
    let e = c.part-item.result in
    let old = c.args.out.now.items in
    let so_far = c.loop-part.invariant in
    let taken = symbols_of_all c.args.modules (take i es) in
    let here = symbols c.args.modules (form_of e) in
    record {
      before = so_far.before;
      so_far =
          c.in_ok-symbols_into-in-All-3.ensures.ok ∙ ap (λ ss. ss ++ here) so_far.so_far
          ∙ append_assoc old (so_far.before ++ taken) here
          ∙ ap (λ ss. old ++ ss) (append_assoc so_far.before taken here ∙ ap (λ ss. so_far.before ++ ss) (sym (ap (λ k. symbols_of_all c.args.modules (take k es)) (add-one i) ∙ symbols_taken c.args.modules es i e c.loop-part-test.true c.part-item.is)));
      all = so_far.all;
    }

pub returns-in_err-symbol_into-in-Rel-clause-err : goal.returns-in_err-symbol_into-in-Rel-clause-err
returns-in_err-symbol_into-in-Rel-clause-err t c =
    let left = leaf_symbols (leaf_of c.deref.result.now.left) in
    let right = leaf_symbols (leaf_of c.in-Rel.operands.value.right) in
    let all = symbols c.args.modules (form_of c.args.e.now) in
    let both : all ≡ left ++ right = ap (λ e. symbols c.args.modules (form_of e)) c.in-Rel.is ∙ ap (λ (s : Operands). leaf_symbols (leaf_of s.left) ++ right) (sym c.deref.ensures) in
    let old = c.args.out.now.items in
    on_err c.from_residual.result (AppendsFront old all c.symbol_into-in-Rel.new.out.items) (
      [],
      all,
      refl,
      c.in_err-symbol_into-in-Rel.ensures.err ∙ sym (append-nil old),
      omega (arith, ap length both, length-append left right, c.in_err-symbol_into-in-Rel.ensures.some),
    )
