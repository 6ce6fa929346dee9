-- Files by their names.
use Rattle.std.proofs.{Common.{Bool, List, Some, [], ap, cond, false, inl, inr, map, refl, sym, true, ℕ, ◌∙◌, ◌∷◌, ◌≡◌}, lemmas.Bool.{cases_eq, eq-eqb, ne_eqb}}
use Rattle.std.specs.{Map.lookup, declared.{alloc.Global.Global, vec.Vec.Vec}}
use Rattle.indexmap.specs.IndexMap.{insert_entry}
use Rattle.kc_language.specs.{Expansion.bytes_in, Expressions.same_name}
use Rattle.kc_expr.proofs.NamesLemmas.{same_name-refl}

abbrev pub files_of : List (Vec ℕ Global × List ℕ) → List (List ℕ × List ℕ)
files_of es = map (λ e. (e.0.items, e.1)) es

pub bytes_found : (es : List (Vec ℕ Global × List ℕ)) (name : List ℕ) → lookup (λ k. same_name name k.items) es ≡ bytes_in (files_of es) name
bytes_found [] name = refl
bytes_found (e ∷ es) name = ap (cond (same_name name e.0.items) (Some e.1)) (bytes_found es name)

pub same_name_eq : (a b : List ℕ) → same_name a b ≡ true → a ≡ b
same_name_eq [] [] h = refl
same_name_eq [] (b ∷ bs) h = absurd cc
same_name_eq (a ∷ more) [] h = absurd cc
same_name_eq (a ∷ more) (b ∷ bs) h = elim (cases_eq a b) [
  | inl e ↦ let t : same_name more bs ≡ true = rw (eq-eqb a b e) at h in λ i. e i ∷ same_name_eq more bs t i
  | inr ne ↦ absurd (let t : false ≡ true = rw (ne_eqb a b ne) at h in cc)
]

insert_keeps : (o k e : List ℕ) (m n : Bool) → same_name o k ≡ m → same_name o e ≡ n → same_name k e ≡ false → n ≡ true → m ≡ false
insert_keeps o k e false n p q f t = refl
insert_keeps o k e true n p q f t =
    let a = same_name_eq o k p in
    let b = same_name_eq o e (q ∙ t) in
    absurd (let same : true ≡ false = sym (same_name-refl e) ∙ ap (λ x. same_name x e) (sym b ∙ a) ∙ f in cc)

pick : {A : Type 0} (b : Bool) (v w x : A) → cond b v x ≡ cond b v (cond b w x)
pick true v w x = refl
pick false v w x = refl

swap_tests : {A : Type 0} (m n : Bool) (v w x : A) → (n ≡ true → m ≡ false) → cond n w (cond m v x) ≡ cond m v (cond n w x)
swap_tests true true v w x h = absurd (let t = h refl in cc)
swap_tests true false v w x h = refl
swap_tests false true v w x h = refl
swap_tests false false v w x h = refl

pub bytes_put : (es : List (Vec ℕ Global × List ℕ)) (k : Vec ℕ Global) (v o : List ℕ) →
    bytes_in (files_of (insert_entry (λ a b. same_name a.items b.items) es k v)) o ≡ cond (same_name o k.items) (Some v) (bytes_in (files_of es) o)
bytes_put [] k v o = refl
bytes_put (e ∷ es) k v o = by (same_name k.items e.0.items) refl (bytes_put es k v o)
  where
    put_here : same_name k.items e.0.items ≡ true → cond (same_name o e.0.items) (Some v) (bytes_in (files_of es) o) ≡ cond (same_name o k.items)
        (Some v) (cond (same_name o e.0.items) (Some e.1) (bytes_in (files_of es) o))
    put_here t =
        let q : same_name o e.0.items ≡ same_name o k.items = ap (λ x. same_name o x) (sym (same_name_eq k.items e.0.items t)) in
        rw q (pick (same_name o k.items) (Some v) (Some e.1) (bytes_in (files_of es) o))

    by : (b : Bool) → same_name k.items e.0.items ≡ b → bytes_in (files_of (insert_entry (λ x y. same_name x.items y.items) es k v)) o ≡ cond
        (same_name o k.items) (Some v) (bytes_in (files_of es) o) →
        bytes_in (files_of (cond b ((e.0, v) ∷ es) (e ∷ insert_entry (λ x y. same_name x.items y.items) es k v))) o ≡ cond (same_name o k.items) (Some v)
        (cond (same_name o e.0.items) (Some e.1) (bytes_in (files_of es) o))
    by true t h = put_here t
    by false t h = rw h (swap_tests (same_name o k.items) (same_name o e.0.items) (Some v) (Some e.1) (bytes_in (files_of es) o)
        (λ n. insert_keeps o k.items e.0.items (same_name o k.items) (same_name o e.0.items) refl refl t n))
