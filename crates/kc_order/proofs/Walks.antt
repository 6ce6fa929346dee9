-- The walk along unordered symbols.
use Rattle.std.proofs.{Common.{All, Bool, List, [], ap, arith, drop, eqb, false, get_or, get_or-set_other, get_or-set_same, inl, inr, length, replicate, subst, sym, take, true, ℕ, ◌&&◌, ◌++◌, ◌+◌, ◌<◌, ◌||◌, ◌∙◌, ◌∷◌, ◌≡◌, ◌≢◌, ◌≤◌}, Math.ListN.set, lemmas.{Bool.{and_from, and_parts, cases_eq, cases_lt, eqb-false, eqb-true, ne_eqb}, List.{Elements.{All-push, Contains-get_or, Contains-push}, Folds.{Any-from_list_any, list_any_none}, drop_more, get_or-replicate, get_or_append_left, get_or_push, length-drop, length-replicate, length-set, length_push, take-append-drop}, Map.{Keys.IsDistinct-push, Steps.length-le_from_distinct_below, Views.{Contains-from_any, list_any-from_Contains}}}}
use Rattle.std.specs.{Cmp.nat_eq_equiv, List.{Contains, IsDistinct, list_any}}
use Rattle.kc_order.proofs.{FirstLemmas.{finds, found}, Stays.needs_unordered, Unique.fails_each}
use Rattle.kc_order.specs.{Needs.NeedsBelow, PartsOfNeeds.{IsFirstUnordered, IsNext}, Rows.AreFlags}
use Rattle.kc_language.specs.Needs.{IsNamedLoop, IsUnorderedWalk, unordered_after}

-- what is next is a symbol of the sequence, needed and unordered
pub next_is : (sequence : List ℕ) (n : ℕ) (needs : ℕ → List ℕ) (s t : ℕ) → IsNext sequence n needs s t →
    Contains sequence t × Contains (needs s) t × (unordered_after needs n t ≡ true)
next_is sequence n needs s t next =
    let is = found (λ u. unordered_after needs n u && list_any (eqb u) (needs s)) sequence t next in
    let both = and_parts (unordered_after needs n t) (list_any (eqb t) (needs s)) is.1 in
    (is.0, Contains-from_any eqb-true t (needs s) both.1, both.0)

-- an unordered symbol has a next one, if each symbol that needs some symbol stands in the sequence
pub next_there : (sequence : List ℕ) (n : ℕ) (needs : ℕ → List ℕ) → NeedsBelow n needs → ((s t : ℕ) → Contains (needs s) t → Contains sequence s) →
    (s : ℕ) → s < n → unordered_after needs n s ≡ true → (t : ℕ) × IsNext sequence n needs s t
next_there sequence n needs below holds s l e =
    let (t, c, u) = needs_unordered n needs s below l e in
    let (v, d, _) = needs_unordered n needs t below (below s t l c) u in
    finds (λ r. unordered_after needs n r && list_any (eqb r) (needs s)) sequence t (holds t v d)
    (and_from (unordered_after needs n t) (list_any (eqb t) (needs s)) u (list_any-from_Contains nat_eq_equiv t (needs s) c))

-- a walk that has no symbol twice, and the symbol that comes next
pub record IsOnTheWay (sequence : List ℕ) (n : ℕ) (needs : ℕ → List ℕ) (walk : List ℕ) (at : ℕ) : Type 0 where
  pub below : at < n
  pub is_unordered : unordered_after needs n at ≡ true
  pub walks : IsUnorderedWalk sequence n needs (walk ++ at ∷ [])
  pub apart : IsDistinct eqb walk
  pub all_below : All (λ t. t < n) walk

pub sets_out : (sequence : List ℕ) (n : ℕ) (needs : ℕ → List ℕ) (first : ℕ) →
    first < n → IsFirstUnordered sequence n needs first → IsOnTheWay sequence n needs [] first
unfolding IsDistinct
sets_out sequence n needs first l h = record {
  below = l;
  is_unordered = (found (unordered_after needs n) sequence first h).1;
  walks = record { begins = h; goes_on = λ k l. absurd (omega arith) };
  apart = tt;
  all_below = λ k d l. absurd (omega arith);
}

next_at : (sequence : List ℕ) (n : ℕ) (needs : ℕ → List ℕ) (xs : List ℕ) (k a b : ℕ) → get_or xs k 0 ≡ a → get_or xs (k + 1) 0 ≡ b →
    IsNext sequence n needs a b → IsNext sequence n needs (get_or xs k 0) (get_or xs (k + 1) 0)
next_at sequence n needs xs k a b p q h =
    subst (λ x. IsNext sequence n needs x (get_or xs (k + 1) 0)) (sym p) (subst (λ y. IsNext sequence n needs a y) (sym q) h)

-- a symbol that is not on the walk yet is put on it
pub goes_further : (sequence : List ℕ) (n : ℕ) (needs : ℕ → List ℕ) (walk : List ℕ) (at next : ℕ) →
    IsOnTheWay sequence n needs walk at → All (λ s. s ≢ at) walk → next < n → IsNext sequence n needs at next → IsOnTheWay sequence n needs (walk ++ at ∷ []) next
goes_further sequence n needs walk at next h new l e = record {
  below = l;
  is_unordered = (next_is sequence n needs at next e).2;
  walks = record {
    begins = let l : 0 < length (walk ++ at ∷ []) = omega (arith, length_push walk at) in rw (get_or_append_left (walk ++ at ∷ []) (next ∷ []) 0 0 l) h.walks.begins;
    goes_on = λ k l.
        elim (cases_lt (k + 1) (length (walk ++ at ∷ []))) [
          | inl before ↦
              let here = get_or_append_left (walk ++ at ∷ []) (next ∷ []) 0 k (omega arith) in
              let there = get_or_append_left (walk ++ at ∷ []) (next ∷ []) 0 (k + 1) before in
              next_at sequence n needs (walk ++ at ∷ [] ++ next ∷ []) k _ _ here there (h.walks.goes_on k before)
          | inr last ↦
              let here = get_or_append_left (walk ++ at ∷ []) (next ∷ []) 0 k (omega (arith, length_push (walk ++ at ∷ []) next))
              ∙ get_or_push walk at 0 k (omega (arith, length_push walk at, length_push (walk ++ at ∷ []) next)) in
              let there = get_or_push (walk ++ at ∷ []) next 0 (k + 1) (omega (arith, length_push (walk ++ at ∷ []) next)) in
              next_at sequence n needs (walk ++ at ∷ [] ++ next ∷ []) k _ _ here there e
        ];
  };
  apart = IsDistinct-push nat_eq_equiv walk at h.apart (list_any_none (eqb at) walk (λ k d l. ne_eqb at (get_or walk k d) (λ e. new k d l (sym e))));
  all_below = All-push (λ t. t < n) walk at h.all_below h.below;
}

-- a walk with no symbol twice has room for one more
pub has_room : (n : ℕ) (walk : List ℕ) (at : ℕ) → All (λ t. t < n) (walk ++ at ∷ []) → IsDistinct eqb (walk ++ at ∷ []) → length walk + 1 ≤ n
has_room n walk at below apart =
    let room = length-le_from_distinct_below (walk ++ at ∷ []) n apart (λ q t.
    let a = Any-from_list_any (eqb q) (walk ++ at ∷ []) t in
    rw (eqb-true q a.1 a.4, ← a.3) (below a.0 a.1 a.2)) in
    omega (arith, length_push walk at)

-- the walk has come back to a place on it
pub comes_back : (sequence : List ℕ) (n : ℕ) (needs : ℕ → List ℕ) (walk : List ℕ) (at i : ℕ) → IsOnTheWay sequence n needs walk at →
    i < length walk → get_or walk i 0 ≡ at → IsNamedLoop sequence n needs (drop i walk)
comes_back sequence n needs walk at i h l e = record {
  lead = take i walk;
  some = omega (arith, length-drop i walk);
  walk =
      let one : take 1 (drop i walk) ≡ at ∷ [] = ap (take 1) (drop_more walk i 0 l) ∙ ap (λ (x : ℕ). x ∷ []) e in
      rw (take-append-drop, one) h.walks;
  apart = rw take-append-drop h.apart;
}

-- one more element that fails the test changes no answer
any_push : {X : Type 0} (p : X → Bool) (xs : List X) (x : X) → p x ≡ false → list_any p (xs ++ x ∷ []) ≡ list_any p xs
any_push p [] x e = ap (λ b. b || false) e
any_push p (y ∷ xs) x e = ap (λ b. p y || b) (any_push p xs x e)

-- one more symbol is marked as visited
pub met_push : (n : ℕ) (walk : List ℕ) (visited : List Bool) (at : ℕ) → AreFlags n (λ s. list_any (eqb s) walk) visited → at < n →
    AreFlags n (λ s. list_any (eqb s) (walk ++ at ∷ [])) (set visited at true)
met_push n walk visited at m l = record {
  length_is = length-set visited at true ∙ m.length_is;
  each = λ s h.
      elim (cases_eq s at) [
        | inl same ↦
            ap (λ k. get_or (set visited at true) k false) same ∙ get_or-set_same visited at true false (omega (arith, m.length_is))
            ∙ sym (list_any-from_Contains nat_eq_equiv s (walk ++ at ∷ []) (subst (Contains (walk ++ at ∷ [])) (sym same) (Contains-push walk at)))
        | inr other ↦
            get_or-set_other visited at s true false other ∙ m.each s h
            ∙ sym (any_push (eqb s) walk at (ne_eqb s at other))
      ];
}

-- what is not marked is not on the walk
pub not_met : (walk : List ℕ) (at : ℕ) → list_any (eqb at) walk ≡ false → All (λ s. s ≢ at) walk
not_met walk at e k d l is = eqb-false at (get_or walk k d) (fails_each (eqb at) walk (get_or walk k d) e (Contains-get_or walk k d l)) (sym is)

-- what is marked is
pub is_met : (walk : List ℕ) (at : ℕ) → list_any (eqb at) walk ≡ true → All (λ s. s ≢ at) walk → ⊥
is_met walk at e none =
    let a = Any-from_list_any (eqb at) walk e in
    none a.0 a.1 a.2 (a.3 ∙ sym (eqb-true at a.1 a.4))

-- at first none is
pub none_met : (n : ℕ) (visited : List Bool) → visited ≡ replicate n false → AreFlags n (λ s. list_any (eqb s) []) visited
none_met n visited e = record {
  length_is = ap length e ∙ length-replicate n false;
  each = λ s h. ap (λ xs. get_or xs s false) e ∙ get_or-replicate n s false false h;
}
