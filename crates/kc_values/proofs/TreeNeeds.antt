-- The needs of a tree, as rows.
use Rattle.std.proofs.{Common.{Bool, List, Option, [], ap, arith, cond, false, inl, inr, length, map, refl, subst, suc, sym, true, zero, ℕ, ◌<◌, ◌||◌, ◌∙◌, ◌∷◌, ◌≡◌, ◌≤◌}, lemmas.{Bool.{cases_Bool, cases_lt, ltb-true, true≢false}, List.{FromFn.{get_or-map-range_with_len, length-map-range_with_len}, get_or_past}, Option.slice_get_past}}
use Rattle.std.specs.List.{Contains, filter, list_any}
use Rattle.kc_expr.specs.Value.{DependsOnSymbols}
use Rattle.kc_language.specs.{Expressions.same_symbol, Needs.{named_by, needs, needs_in, needs_of}, Symbols.TreeFacts, Values.{GivenValue, UserPlace, equations, name_count}, declared.expressions.SymId.SymId}
use Rattle.kc_order.specs.{Needs.{AreWithin, NeedsBelow}, PartsOfNeeds.{AreAccepted as IsAccepted, NothingUnordered}, Solution.ReadsNeeds}
use Rattle.kc_values.specs.{PartsOfNeeds.mentioned_numbers, PartsOfValues.is_mentioned}
use Rattle.kc_values.proofs.{OnlyNamed.reads_needs, Same.same_symbol-true}

within_kept : {X : Type 0} (p : X → Bool) (g : X → ℕ) (b : Bool) (x : X) (n t : ℕ) (r : List X) → p x ≡ b → (p x ≡ true → g x < n) → (Contains (map g r) t → t < n) →
    Contains (map g (cond b (x ∷ r) r)) t → t < n
within_kept p g false x n t r e here more c = more c
within_kept p g true x n t r e here more (zero, l, i) = let h : g x < n = here e in rw i at h
within_kept p g true x n t r e here more (suc m, l, i) = more (m, omega arith, i)

numbers_below : (tree : TreeFacts) (ss : List SymId) (t : ℕ) → Contains (map (λ (s : SymId). s.0) (filter (is_mentioned tree) ss)) t → t < name_count tree
numbers_below tree [] t c = absurd (omega (arith, c.1))
numbers_below tree (s ∷ ss) t c =
    within_kept (is_mentioned tree) (λ (x : SymId). x.0) (is_mentioned tree s) s (name_count tree) t (filter (is_mentioned tree) ss) refl
    (λ d. ltb-true s.0 (name_count tree) d) (numbers_below tree ss t) c

pub mentioned_below : (tree : TreeFacts) (ss : List SymId) (t : ℕ) → Contains (mentioned_numbers tree ss) t → t < name_count tree
mentioned_below tree ss t c = numbers_below tree ss t c

pub needs_length : (tree : TreeFacts) → length (needs tree) ≡ name_count tree
needs_length tree = length-map-range_with_len (needs_of tree) 0 (name_count tree)

past_needs : (tree : TreeFacts) (i : ℕ) → name_count tree ≤ i → needs_of tree i ≡ []
past_needs tree i l = ap (λ f. mentioned_numbers tree (named_by tree f)) (slice_get_past tree.symbols i l)

-- the row of a symbol is what it needs
pub needs_at : (tree : TreeFacts) (i : ℕ) → needs_in (needs tree) i ≡ needs_of tree i
needs_at tree i =
    elim (cases_lt i (name_count tree)) [
      | inr l ↦ get_or_past (needs tree) i [] (omega (arith, needs_length tree)) ∙ sym (past_needs tree i l)
      | inl l ↦ get_or-map-range_with_len (needs_of tree) 0 (name_count tree) i i [] l (omega arith)
    ]

pub needs_within : (tree : TreeFacts) → AreWithin (needs tree)
needs_within tree s t l c =
    let d : t < name_count tree = mentioned_below tree _ t (subst (λ row. Contains row t) (needs_at tree s) c) in
    omega (arith, d, needs_length tree)

pub below_count : (tree : TreeFacts) → AreWithin (needs tree) → NeedsBelow (name_count tree) (needs_in (needs tree))
below_count tree within = subst (λ n. NeedsBelow n (needs_in (needs tree))) (needs_length tree) within

pub free_count : (tree : TreeFacts) → IsAccepted (needs tree) → NothingUnordered (name_count tree) (needs_in (needs tree))
free_count tree free = subst (λ n. NothingUnordered n (needs_in (needs tree))) (needs_length tree) free

pub reads_rows : DependsOnSymbols → (tree : TreeFacts) (user : UserPlace → Option GivenValue) → ReadsNeeds (needs_in (needs tree)) (equations tree user)
reads_rows law tree user s V W h =
    reads_needs law tree user s V W (λ t c. h t (subst (λ row. Contains row t) (sym (needs_at tree s)) c))

pub among : (s : SymId) (xs : List SymId) → list_any (same_symbol s) xs ≡ true → Contains xs s
among s [] e = absurd (true≢false (sym e))
among s (x ∷ xs) e =
    elim (cases_Bool (same_symbol s x)) [
      | inl t ↦ (0, omega arith, sym (same_symbol-true s x t))
      | inr f ↦
          let c = among s xs (sym (ap (λ b. b || list_any (same_symbol s) xs) f) ∙ e) in
          (suc c.0, omega (arith, c.1), c.2)
    ]
