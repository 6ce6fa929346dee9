-- Where some symbol is unordered a loop is named.
use Rattle.std.proofs.{Common.{List, [], arith, drop, eqb, false, inl, inr, length, suc, sym, true, zero, ℕ, ◌++◌, ◌+◌, ◌<◌, ◌∙◌, ◌∷◌, ◌≡◌, ◌≤◌, ◌⊎◌}, lemmas.{Bool.{cases_Bool, cases_lt, eqb-true}, List.{Folds.Any-from_list_any, get_or_default, length_push}}}
use Rattle.std.specs.List.{list_any}
use Rattle.kc_order.specs.{Loop.HoldsNeeding, Needs.{AreWithin, SomeUnordered}, PartsOfNeeds.NothingUnordered}
use Rattle.kc_language.specs.Needs.{IsNamedLoop, needs_in, unordered_after}
use Rattle.kc_order.proofs.{FirstLemmas.{finds, found}, Held.has_row, Stays.{needs_some, needs_unordered}, Walks.{IsOnTheWay, comes_back, goes_further, has_room, next_is, next_there, not_met, sets_out}}

module _ (n : ℕ) (needs : ℕ → List ℕ) where
  -- one of the symbols below k is unordered, or none
  none_or_some : (k : ℕ) → k ≤ n → ((u : ℕ) → u < k → unordered_after needs n u ≡ false) ⊎ SomeUnordered n needs
  none_or_some zero l = inl (λ u lt. absurd (omega arith))
  none_or_some (suc k) l =
      elim (cases_Bool (unordered_after needs n k)) [
        | inl is ↦ inr (k, omega arith, is)
        | inr free ↦ elim (none_or_some k (omega arith)) [
          | inl none ↦ inl (λ u lt. elim (cases_lt u k) [
            | inl less ↦ none u less
            | inr same ↦ let e : u ≡ k = omega arith in rw e free
          ])
          | inr some ↦ inr some
        ]
      ]

  pub nothing_or_some : NothingUnordered n needs ⊎ SomeUnordered n needs
  nothing_or_some = none_or_some n (omega arith)

module _ (sequence : List ℕ) (needs : List (List ℕ)) (holds : HoldsNeeding sequence needs) (within : AreWithin needs) where
  abbrev OnTheWay : List ℕ → ℕ → Type 0
  OnTheWay walk at = IsOnTheWay sequence (length needs) (needs_in needs) walk at

  abbrev Named : Type 0
  Named = (loop : List ℕ) × IsNamedLoop sequence (length needs) (needs_in needs) loop

  returns_to : (walk : List ℕ) (at : ℕ) → OnTheWay walk at → list_any (eqb at) walk ≡ true → Named
  returns_to walk at h visited =
      let a = Any-from_list_any (eqb at) walk visited in
      (drop a.0 walk, comes_back sequence (length needs) (needs_in needs) walk at a.0 h a.2 (get_or_default walk a.0 0 a.1 a.2 ∙ a.3 ∙ sym (eqb-true at a.1 a.4)))

  one_further : (walk : List ℕ) (at : ℕ) → OnTheWay walk at → list_any (eqb at) walk ≡ false → (next : ℕ) × OnTheWay (walk ++ at ∷ []) next
  one_further walk at h new =
      let (next, is) = next_there sequence (length needs) (needs_in needs) within holds at h.below h.is_unordered in
      let below = within at next h.below (next_is sequence (length needs) (needs_in needs) at next is).1 in
      (next, goes_further sequence (length needs) (needs_in needs) walk at next h (not_met walk at new) below is)

  -- the walk comes back, as it has room for no more than the symbols
  reaches_loop : (room : ℕ) (walk : List ℕ) (at : ℕ) → length needs ≤ length walk + room → OnTheWay walk at → Named
  reaches_loop zero walk at enough h =
      elim (cases_Bool (list_any (eqb at) walk)) [
        | inl visited ↦ returns_to walk at h visited
        | inr new ↦
            let (next, further) = one_further walk at h new in
            absurd (let most : length walk + 1 ≤ length needs = has_room (length needs) walk at further.all_below further.apart in omega arith)
      ]
  reaches_loop (suc room) walk at enough h =
      elim (cases_Bool (list_any (eqb at) walk)) [
        | inl visited ↦ returns_to walk at h visited
        | inr new ↦
            let (next, further) = one_further walk at h new in
            reaches_loop room (walk ++ at ∷ []) next (omega (arith, length_push walk at)) further
      ]

  pub loop_there : SomeUnordered (length needs) (needs_in needs) → Named
  loop_there (s, l, unordered) =
      let (t, c, u) = needs_unordered (length needs) (needs_in needs) s within l unordered in
      let test = unordered_after (needs_in needs) (length needs) in
      let (first, is) = finds test sequence s (holds s t c) unordered in
      let (v, d) = needs_some (length needs) (needs_in needs) first (omega arith) (found test sequence first is).1 in
      reaches_loop (length needs) [] first (omega arith) (sets_out sequence (length needs) (needs_in needs) first (has_row needs first v d) is)
