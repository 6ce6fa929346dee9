-- Paths along needs that come back: cycles.
use Rattle.std.proofs.{Common.{All, List, ap, append_assoc, arith, get_or, inl, inr, length, subst, sym, take, true, ℕ, ◌++◌, ◌+◌, ◌-◌, ◌<◌, ◌∙◌, ◌≡◌}, lemmas.{Bool.cases_lt, List.{Elements.Contains-get_or, get_or-append-add, get_or_append_left, get_or_default, length-append, length-take-le}}}
use Rattle.std.specs.List.{Contains}
use Rattle.kc_language.specs.Needs.{IsNamedLoop, needs_in, unordered_after}
use Rattle.kc_order.specs.{Loop.IsPath, Needs.SomeUnordered, PartsOfNeeds.IsNext}
use Rattle.kc_order.proofs.{FirstLemmas.found, Held.has_row, SearchSteps.ring_unordered, Walks.next_is}

pub cycle_of : (n : ℕ) (needs : ℕ → List ℕ) (way : List ℕ) → 1 < length way → IsPath needs way → get_or way (length way - 1) 0 ≡ get_or way 0 0 →
    unordered_after needs n (get_or way 0 0) ≡ true
cycle_of n needs way l goes back =
    let after : (r : ℕ) → Contains way r → (v : ℕ) × Contains (needs r) v × Contains way v = λ r d.
    elim (cases_lt (d.0 + 1) (length way)) [
      | inl before ↦ (get_or way (d.0 + 1) 0, subst (λ x. Contains (needs x) (get_or way (d.0 + 1) 0)) (get_or_default way d.0 0 r d.1 ∙ d.2) (goes d.0 before), Contains-get_or way (d.0 + 1) 0 before)
      | inr last ↦
          let at : d.0 ≡ length way - 1 = omega (arith, d.1) in
          let is : get_or way 0 0 ≡ r = sym back ∙ ap (λ k. get_or way k 0) (sym at) ∙ get_or_default way d.0 0 r d.1 ∙ d.2 in
          (get_or way (0 + 1) 0, subst (λ x. Contains (needs x) (get_or way (0 + 1) 0)) is (goes 0 l), Contains-get_or way (0 + 1) 0 l)
    ] in
    ring_unordered n needs way after n (get_or way 0 0) (Contains-get_or way 0 0 (omega arith))

pub is_closed : (sequence : List ℕ) (n : ℕ) (needs : ℕ → List ℕ) (loop : List ℕ) → IsNamedLoop sequence n needs loop → IsPath needs (loop ++ take 1 loop)
is_closed sequence n needs loop named k l =
    let way = loop ++ take 1 loop in
    let split : named.lead ++ loop ++ take 1 loop ≡ named.lead ++ (loop ++ take 1 loop) = append_assoc named.lead loop (take 1 loop) in
    let whole = named.lead ++ way in
    let at = length named.lead + k in
    let bound : at + 1 < length whole = omega (arith, length-append named.lead way) in
    let next = subst (λ xs. at + 1 < length xs → IsNext sequence n needs (get_or xs at 0) (get_or xs (at + 1) 0)) split (named.walk.goes_on at) bound in
    let needed : Contains (needs (get_or whole at 0)) (get_or whole (at + 1) 0) = (next_is sequence n needs (get_or whole at 0) (get_or whole (at + 1) 0) next).1 in
    let here : get_or whole at 0 ≡ get_or way k 0 = get_or-append-add named.lead way k 0 in
    let place : at + 1 ≡ length named.lead + (k + 1) = omega arith in
    let there : get_or whole (at + 1) 0 ≡ get_or way (k + 1) 0 = ap (λ i. get_or whole i 0) place ∙ get_or-append-add named.lead way (k + 1) 0 in
    subst (λ x. Contains (needs x) (get_or way (k + 1) 0)) here (subst (λ y. Contains (needs (get_or whole at 0)) y) there needed)

-- as each symbol of the loop needs the next, it is a symbol
pub loop_within : (sequence : List ℕ) (needs : List (List ℕ)) (loop : List ℕ) →
    IsNamedLoop sequence (length needs) (needs_in needs) loop → All (λ s. s < length needs) loop
loop_within sequence needs loop named k d l =
    let way = loop ++ take 1 loop in
    let bound : k + 1 < length way = omega (arith, length-append loop (take 1 loop), length-take-le 1 loop (omega arith)) in
    let needed = is_closed sequence (length needs) (needs_in needs) loop named k bound in
    let is : get_or way k 0 ≡ get_or loop k d = get_or_append_left loop (take 1 loop) 0 k l ∙ get_or_default loop k 0 d l in
    subst (λ s. s < length needs) is (has_row needs (get_or way k 0) (get_or way (k + 1) 0) needed)

-- where a loop is named, some symbol is unordered
pub some_unordered : (sequence : List ℕ) (needs : List (List ℕ)) (loop : List ℕ) → IsNamedLoop sequence (length needs) (needs_in needs) loop → SomeUnordered (length needs) (needs_in needs)
some_unordered sequence needs loop named =
    let walk : List ℕ = named.lead ++ loop ++ take 1 loop in
    let first : ℕ = get_or walk 0 0 in
    let next : ℕ = get_or walk (0 + 1) 0 in
    let long : 0 + 1 < length walk = omega (arith, named.some, length-append (named.lead ++ loop) (take 1 loop), length-append named.lead loop, length-take-le 1 loop (omega (arith, named.some))) in
    let needed = next_is sequence (length needs) (needs_in needs) first next (named.walk.goes_on 0 long) in
    let begins = found (unordered_after (needs_in needs) (length needs)) sequence first named.walk.begins in
    (first, has_row needs first next needed.1, begins.1)
