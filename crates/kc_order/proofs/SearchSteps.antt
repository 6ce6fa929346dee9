-- Each step of the search keeps what the search keeps.
use Rattle.std.proofs.{Common.{All, Bool, List, [], ap, arith, drop, eqb, false, get_or, get_or-set_other, get_or-set_same, inl, inr, length, map, refl, subst, suc, sum, sum_by, sym, take, true, zero, ℕ, ◌++◌, ◌+◌, ◌-◌, ◌<◌, ◌∙◌, ◌∷◌, ◌≡◌, ◌≢◌, ◌≤◌, ◌⊎◌}, Math.ListN.set, lemmas.{Bool.{cases_Bool, cases_eq, cases_lt, eqb-false, ne_eqb}, List.{Elements.{Contains-append_left, Contains-get_or, Contains-push, Contains-push_cases}, Folds.{Any-from_list_any, list_any_at, list_any_none}, Sums.sum_by-set, get_or-drop, get_or_append_left, get_or_default, get_or_push, length-drop, length-set, length_push, take-append-le, take_at}, Map.Keys.{IsDistinct-from_apart, IsDistinct-push, apart_from_distinct}}}
use Rattle.std.specs.{Cmp.nat_eq_equiv, List.{Contains, IsDistinct, slice_index}}
use Rattle.kc_order.specs.{Needs.NeedsBelow, Order.IsOrderOf, Rows.RowsBelow, Search.{Closes, GivesUp, IsFinished, IsSearch, IsSound, KeepsVisited, Opens, is_unordered, state_of, weight, work}, Solution.IsUpdate, declared.search.{NodeState.{NodeState, TheVariants.{Done, New, Open, Unordered}}, Search.Search}}
use Rattle.kc_language.specs.Needs.{needs_in, unordered_after}
use Rattle.kc_order.proofs.{Held.needs_below, Stays.stays_unordered}

-- a list with no symbol twice, and one that is not on it
pub apart_push : (xs : List ℕ) (x : ℕ) → IsDistinct eqb xs → (Contains xs x → ⊥) → IsDistinct eqb (xs ++ x ∷ [])
apart_push xs x apart new =
    IsDistinct-push nat_eq_equiv xs x apart
    (list_any_none (eqb x) xs (λ k d l. ne_eqb x (get_or xs k d) (λ e. new (subst (Contains xs) (sym e) (Contains-get_or xs k d l)))))

-- a front of it
pub apart_front : (xs : List ℕ) (x : ℕ) → IsDistinct eqb (xs ++ x ∷ []) → IsDistinct eqb xs
apart_front xs x apart =
    IsDistinct-from_apart eqb xs (λ i j d l m.
    rw (← get_or_append_left xs (x ∷ []) d i (omega arith), ← get_or_append_left xs (x ∷ []) d j m)
    (apart_from_distinct eqb (xs ++ x ∷ []) i j d apart l (omega (arith, length_push xs x))))

-- its last symbol is not in the front
pub last_apart : (xs : List ℕ) (x : ℕ) → IsDistinct eqb (xs ++ x ∷ []) → Contains xs x → ⊥
last_apart xs x apart c =
    eqb-false (get_or (xs ++ x ∷ []) c.0 x) (get_or (xs ++ x ∷ []) (length xs) x)
    (apart_from_distinct eqb (xs ++ x ∷ []) c.0 (length xs) x apart c.1 (omega (arith, length_push xs x)))
    (get_or_append_left xs (x ∷ []) x c.0 c.1 ∙ c.2 ∙ sym (get_or_push xs x x (length xs) refl))

pub open≢new : (m : NodeState) → m ≡ Open → m ≡ New → ⊥
open≢new m a b = cc

done≢new : (m : NodeState) → m ≡ Done → m ≡ New → ⊥
done≢new m a b = cc

open≢done : (m : NodeState) → m ≡ Open → m ≡ Done → ⊥
open≢done m a b = cc

unordered≢new : (m : NodeState) → m ≡ Unordered → m ≡ New → ⊥
unordered≢new m a b = cc

unordered≢open : (m : NodeState) → m ≡ Unordered → m ≡ Open → ⊥
unordered≢open m a b = cc

unordered≢done : (m : NodeState) → m ≡ Unordered → m ≡ Done → ⊥
unordered≢done m a b = cc

true≢false : (b : Bool) → b ≡ true → b ≡ false → ⊥
true≢false b t f = cc

-- a need of the symbol at k stands at k + 1
goes_at : (needs : ℕ → List ℕ) (xs : List ℕ) (k a b : ℕ) → slice_index xs k ≡ a → slice_index xs (k + 1) ≡ b → Contains (needs a) b → Contains (needs (slice_index xs k)) (slice_index xs (k + 1))
goes_at needs xs k a b p q h = subst (λ x. Contains (needs x) (slice_index xs (k + 1))) (sym p) (subst (λ y. Contains (needs a) y) (sym q) h)

-- j needs are left of s, and of each symbol that needs the same; of the others as many as before
abbrev pub PassesTo : ℕ → (ℕ → List ℕ) → (ℕ → ℕ) → (ℕ → ℕ) → ℕ → ℕ → Type 0
PassesTo n needs left left' s j = (t : ℕ) → t < n → ((needs t ≡ needs s) × (left' t ≡ j)) ⊎ (left' t ≡ left t)

module _ (n : ℕ) (needs : ℕ → List ℕ) where
  pub opened : (mark mark' : ℕ → NodeState) (left : ℕ → ℕ) (path order : List ℕ) (s : ℕ) → IsSearch n needs mark left path order → s < n → mark s ≡ New →
      ((k : ℕ) → k + 1 ≡ length path → Contains (needs (slice_index path k)) s) → IsUpdate mark mark' s Open → IsSearch n needs mark' left (path ++ s ∷ []) order
  opened mark mark' left path order s h l new needed u =
      let others : (t : ℕ) → mark t ≢ New → mark' t ≡ mark t = λ t ne. u.others t (λ e. ne (ap mark e ∙ new)) in
      record {
        path_is = λ t c.
            elim (Contains-push_cases path s t c) [
              | inl old ↦ let p = h.path_is t old in (p.0, others t (open≢new (mark t) p.1) ∙ p.1)
              | inr same ↦ (subst (λ x. x < n) same l, sym (ap mark' same) ∙ u.here)
            ];
        open_is = λ t b e.
            elim (cases_eq t s) [
              | inl same ↦ subst (Contains (path ++ s ∷ [])) (sym same) (Contains-push path s)
              | inr other ↦ Contains-append_left path (s ∷ []) t (h.open_is t b (sym (u.others t other) ∙ e))
            ];
        path_apart = apart_push path s h.path_apart (λ c. open≢new (mark s) (h.path_is s c).1 new);
        path_goes = λ k b.
            elim (cases_lt (k + 1) (length path)) [
              | inl before ↦ goes_at needs (path ++ s ∷ []) k _ _ (get_or_append_left path (s ∷ []) 0 k (omega arith)) (get_or_append_left path (s ∷ []) 0 (k + 1) before) (h.path_goes k before)
              | inr last ↦ goes_at needs (path ++ s ∷ []) k _ _ (get_or_append_left path (s ∷ []) 0 k (omega (arith, length_push path s)))
                  (get_or_push path s 0 (k + 1) (omega (arith, length_push path s))) (needed k (omega (arith, length_push path s)))
            ];
        order_is = λ t c. let d = h.order_is t c in (d.0, others t (done≢new (mark t) d.1) ∙ d.1);
        done_is = λ t b e.
            elim (cases_eq t s) [
              | inl same ↦ absurd (open≢done (mark' t) (ap mark' same ∙ u.here) e)
              | inr other ↦ h.done_is t b (sym (u.others t other) ∙ e)
            ];
        order_apart = h.order_apart;
        needs_first = h.needs_first;
        done_ordered = λ t b e.
            elim (cases_eq t s) [
              | inl same ↦ absurd (open≢done (mark' t) (ap mark' same ∙ u.here) e)
              | inr other ↦ h.done_ordered t b (sym (u.others t other) ∙ e)
            ];
        unordered_is = λ t k b e.
            elim (cases_eq t s) [
              | inl same ↦ absurd (unordered≢open (mark' t) e (ap mark' same ∙ u.here))
              | inr other ↦ h.unordered_is t k b (sym (u.others t other) ∙ e)
            ];
        left_le = h.left_le;
        passed = λ t v b c. let d = h.passed t v b c in others v (done≢new (mark v) d) ∙ d;
      }

  -- a symbol whose needs are all done is not unordered
  free_when_passed : NeedsBelow n needs → (mark : ℕ → NodeState) (left : ℕ → ℕ) (path order : List ℕ) (s : ℕ) → IsSearch n needs mark left path order → s < n → left s ≡ 0 →
      unordered_after needs n s ≡ false
  free_when_passed below mark left path order s h l none =
      elim (cases_Bool (unordered_after needs n s)) [
        | inl unordered ↦
            let a = Any-from_list_any (unordered_after needs n) (needs s) (stays_unordered n needs below s l unordered) in
            let t = a.1 in
            let need : Contains (needs s) t = (a.0, a.2, a.3) in
            let done = h.passed s t l (subst (λ j. Contains (drop j (needs s)) t) (sym none) need) in
            let need_unordered : unordered_after needs n t ≡ true = a.4 in
            absurd (true≢false (unordered_after needs n t) need_unordered (h.done_ordered t (below s t l need) done))
        | inr free ↦ free
      ]

  pub closed : NeedsBelow n needs → (mark mark' : ℕ → NodeState) (left : ℕ → ℕ) (path order : List ℕ) (s : ℕ) → IsSearch n needs mark left (path ++ s ∷ []) order → left s ≡ 0 →
      IsUpdate mark mark' s Done → IsSearch n needs mark' left path (order ++ s ∷ [])
  closed below mark mark' left path order s h none u =
      let there = h.path_is s (Contains-push path s) in
      let done_stays : (t : ℕ) → mark t ≡ Done → mark' t ≡ Done = λ t d. u.others t (λ e. open≢done (mark s) there.1 (sym (ap mark e) ∙ d)) ∙ d in
      record {
        path_is = λ t c.
            let old = h.path_is t (Contains-append_left path (s ∷ []) t c) in
            (old.0, u.others t (λ e. last_apart path s h.path_apart (subst (Contains path) e c)) ∙ old.1);
        open_is = λ t b e.
            elim (cases_eq t s) [
              | inl same ↦ absurd (open≢done (mark' t) e (ap mark' same ∙ u.here))
              | inr other ↦ elim (Contains-push_cases path s t (h.open_is t b (sym (u.others t other) ∙ e))) [
                | inl p ↦ p
                | inr same ↦ absurd (other (sym same))
              ]
            ];
        path_apart = apart_front path s h.path_apart;
        path_goes = λ k b.
            rw (← get_or_append_left path (s ∷ []) 0 k (omega arith), ← get_or_append_left path (s ∷ []) 0 (k + 1) b)
            (h.path_goes k (omega (arith, length_push path s)));
        order_is = λ t c.
            elim (Contains-push_cases order s t c) [
              | inl old ↦ let d = h.order_is t old in (d.0, done_stays t d.1)
              | inr same ↦ (subst (λ x. x < n) same there.0, sym (ap mark' same) ∙ u.here)
            ];
        done_is = λ t b e.
            elim (cases_eq t s) [
              | inl same ↦ subst (Contains (order ++ s ∷ [])) (sym same) (Contains-push order s)
              | inr other ↦ Contains-append_left order (s ∷ []) t (h.done_is t b (sym (u.others t other) ∙ e))
            ];
        order_apart = apart_push order s h.order_apart (λ c. open≢done (mark s) there.1 (h.order_is s c).1);
        needs_first = λ k t b c.
            elim (cases_lt k (length order)) [
              | inl before ↦
                  let le : k ≤ length order = omega arith in
                  rw (take-append-le k order (s ∷ []) le) (h.needs_first k t before (subst (λ x. Contains (needs x) t) (get_or_append_left order (s ∷ []) 0 k before) c))
              | inr last ↦
                  let k_is : length order ≡ k = omega (arith, length_push order s) in
                  let need = subst (λ x. Contains (needs x) t) (get_or_push order s 0 k k_is) c in
                  rw (take_at order (s ∷ []) k k_is)
                  (h.done_is t (below s t there.0 need) (h.passed s t there.0 (subst (λ j. Contains (drop j (needs s)) t) (sym none) need)))
            ];
        done_ordered = λ t b e.
            elim (cases_eq t s) [
              | inl same ↦ ap (unordered_after needs n) same ∙ free_when_passed below mark left (path ++ s ∷ []) order s h there.0 none
              | inr other ↦ h.done_ordered t b (sym (u.others t other) ∙ e)
            ];
        unordered_is = λ t k b e.
            elim (cases_eq t s) [
              | inl same ↦ absurd (unordered≢done (mark' t) e (ap mark' same ∙ u.here))
              | inr other ↦ h.unordered_is t k b (sym (u.others t other) ∙ e)
            ];
        left_le = h.left_le;
        passed = λ t v b c. done_stays v (h.passed t v b c);
      }

  pub given_up : (mark mark' : ℕ → NodeState) (left : ℕ → ℕ) (path order : List ℕ) (s : ℕ) → IsSearch n needs mark left (path ++ s ∷ []) order → ((k : ℕ) → unordered_after needs k s ≡ true) →
      IsUpdate mark mark' s Unordered → IsSearch n needs mark' left path order
  given_up mark mark' left path order s h unordered u =
      let there = h.path_is s (Contains-push path s) in
      let done_stays : (t : ℕ) → mark t ≡ Done → mark' t ≡ Done = λ t d. u.others t (λ e. open≢done (mark s) there.1 (sym (ap mark e) ∙ d)) ∙ d in
      record {
        path_is = λ t c.
            let old = h.path_is t (Contains-append_left path (s ∷ []) t c) in
            (old.0, u.others t (λ e. last_apart path s h.path_apart (subst (Contains path) e c)) ∙ old.1);
        open_is = λ t b e.
            elim (cases_eq t s) [
              | inl same ↦ absurd (unordered≢open (mark' t) (ap mark' same ∙ u.here) e)
              | inr other ↦ elim (Contains-push_cases path s t (h.open_is t b (sym (u.others t other) ∙ e))) [
                | inl p ↦ p
                | inr same ↦ absurd (other (sym same))
              ]
            ];
        path_apart = apart_front path s h.path_apart;
        path_goes = λ k b.
            rw (← get_or_append_left path (s ∷ []) 0 k (omega arith), ← get_or_append_left path (s ∷ []) 0 (k + 1) b)
            (h.path_goes k (omega (arith, length_push path s)));
        order_is = λ t c. let d = h.order_is t c in (d.0, done_stays t d.1);
        done_is = λ t b e.
            elim (cases_eq t s) [
              | inl same ↦ absurd (unordered≢done (mark' t) (ap mark' same ∙ u.here) e)
              | inr other ↦ h.done_is t b (sym (u.others t other) ∙ e)
            ];
        order_apart = h.order_apart;
        needs_first = h.needs_first;
        done_ordered = λ t b e.
            elim (cases_eq t s) [
              | inl same ↦ absurd (unordered≢done (mark' t) (ap mark' same ∙ u.here) e)
              | inr other ↦ h.done_ordered t b (sym (u.others t other) ∙ e)
            ];
        unordered_is = λ t k b e.
            elim (cases_eq t s) [
              | inl same ↦ ap (unordered_after needs k) same ∙ unordered k
              | inr other ↦ h.unordered_is t k b (sym (u.others t other) ∙ e)
            ];
        left_le = h.left_le;
        passed = λ t v b c. done_stays v (h.passed t v b c);
      }

  pub passed_to : (mark : ℕ → NodeState) (left left' : ℕ → ℕ) (path order : List ℕ) (s j : ℕ) → IsSearch n needs mark left path order → s < n → j ≤ left s →
      ((k : ℕ) → j ≤ k → k < left s → mark (get_or (needs s) k 0) ≡ Done) → PassesTo n needs left left' s j → IsSearch n needs mark left' path order
  passed_to mark left left' path order s j h l e done u = record {
    path_is = h.path_is;
    open_is = h.open_is;
    path_apart = h.path_apart;
    path_goes = h.path_goes;
    order_is = h.order_is;
    done_is = h.done_is;
    order_apart = h.order_apart;
    needs_first = h.needs_first;
    done_ordered = h.done_ordered;
    unordered_is = h.unordered_is;
    left_le = λ t b.
        elim (u t b) [
          | inl same ↦ omega (arith, h.left_le s l, same.1, ap length same.0)
          | inr other ↦ omega (arith, h.left_le t b, other)
        ];
    passed = λ t v b c.
        elim (u t b) [
          | inl same ↦
              let here = subst (λ i. Contains (drop i (needs s)) v) same.1 (subst (λ xs. Contains (drop (left' t) xs) v) same.0 c) in
              let at : get_or (needs s) (j + here.0) v ≡ v = sym (get_or-drop j (needs s) here.0 v) ∙ here.2 in
              let there : j + here.0 < length (needs s) = omega (arith, here.1, length-drop j (needs s)) in
              elim (cases_lt (j + here.0) (left s)) [
                | inl passed ↦ sym (ap mark (get_or_default (needs s) (j + here.0) 0 v there ∙ at)) ∙ done (j + here.0) (omega arith) passed
                | inr later ↦
                    let back : left s + ((j + here.0) - left s) ≡ j + here.0 = omega arith in
                    h.passed s v l
                    ((j + here.0) - left s, omega (arith, there, length-drop (left s) (needs s)), get_or-drop (left s) (needs s) ((j + here.0) - left s) v ∙ ap (λ i. get_or (needs s) i v) back ∙ at)
              ]
          | inr other ↦ h.passed t v b (subst (λ i. Contains (drop i (needs t)) v) other c)
        ];
  }

  -- symbols that each need one of them stay unordered
  pub ring_unordered : (ring : List ℕ) → ((s : ℕ) → Contains ring s → (t : ℕ) × Contains (needs s) t × Contains ring t) → (k s : ℕ) → Contains ring s → unordered_after needs k s ≡ true
  ring_unordered ring goes zero s c = refl
  ring_unordered ring goes (suc k) s c =
      let g = goes s c in
      list_any_at (unordered_after needs k) (needs s) g.1.0 g.0 g.1.1 (rw g.1.2 (ring_unordered ring goes k g.0 g.2))

  -- the last open symbol is unordered where it needs an open one
  pub found : (mark : ℕ → NodeState) (left : ℕ → ℕ) (path order : List ℕ) (s t : ℕ) → IsSearch n needs mark left (path ++ s ∷ []) order → Contains (needs s) t → t < n → mark t ≡ Open →
      (k : ℕ) → unordered_after needs k s ≡ true
  found mark left path order s t h c b e =
      let ring = path ++ s ∷ [] in
      let goes : (r : ℕ) → Contains (path ++ s ∷ []) r → (v : ℕ) × Contains (needs r) v × Contains (path ++ s ∷ []) v = λ r d.
      elim (cases_lt (d.0 + 1) (length (path ++ s ∷ []))) [
        | inl before ↦ (
          get_or ring (d.0 + 1) 0,
          subst (λ x. Contains (needs x) (get_or ring (d.0 + 1) 0)) (get_or_default ring d.0 0 r d.1 ∙ d.2) (h.path_goes d.0 before),
          Contains-get_or ring (d.0 + 1) 0 before,
        )
        | inr last ↦ (t, subst (λ x. Contains (needs x) t) (sym (get_or_push path s r d.0 (omega (arith, length_push path s))) ∙ d.2) c, h.open_is t b e)
      ] in
      λ k. ring_unordered (path ++ s ∷ []) goes k s (Contains-push path s)

  -- and where it needs one that is given up
  pub needs_unordered : (mark : ℕ → NodeState) (left : ℕ → ℕ) (path order : List ℕ) (s t : ℕ) → IsSearch n needs mark left path order → Contains (needs s) t → t < n → mark t ≡ Unordered → (k : ℕ) →
      unordered_after needs k s ≡ true
  needs_unordered mark left path order s t h c b e zero = refl
  needs_unordered mark left path order s t h c b e (suc k) = list_any_at (unordered_after needs k) (needs s) c.0 t c.1 (ap (unordered_after needs k) c.2 ∙ h.unordered_is t k b e)

-- a write into a list of marks or counts
pub list_set : {A : Type 0} (d : A) (xs : List A) (i : ℕ) (x : A) → i < length xs → IsUpdate (λ s. get_or xs s d) (λ s. get_or (set xs i x) s d) i x
list_set d xs i x l = record {
  here = get_or-set_same xs i x d l;
  others = λ t ne. get_or-set_other xs i t x d ne;
}

-- the last of a list that is split at its last
pub last_is : (xs : List ℕ) (x n k : ℕ) → xs ≡ take n xs ++ x ∷ [] → k + 1 ≡ length xs → get_or xs k 0 ≡ x
last_is xs x n k e l = ap (λ ys. get_or ys k 0) e ∙ get_or_push (take n xs) x 0 k (omega (arith, ap length e, length_push (take n xs) x))

-- before the first step
pub starts : (n : ℕ) (needs : ℕ → List ℕ) (mark : ℕ → NodeState) (left : ℕ → ℕ) → ((s : ℕ) → s < n → mark s ≡ New) → ((s : ℕ) → s < n → left s ≡ length (needs s)) → IsSearch n needs mark left [] []
unfolding IsDistinct
starts n needs mark left new all = record {
  path_is = λ s c. absurd (omega (arith, c.1));
  open_is = λ s b e. absurd (open≢new (mark s) e (new s b));
  path_apart = tt;
  path_goes = λ k b. absurd (omega arith);
  order_is = λ s c. absurd (omega (arith, c.1));
  done_is = λ s b e. absurd (done≢new (mark s) e (new s b));
  order_apart = tt;
  needs_first = λ k t b c. absurd (omega arith);
  done_ordered = λ s b e. absurd (done≢new (mark s) e (new s b));
  unordered_is = λ s k b e. absurd (unordered≢new (mark s) e (new s b));
  left_le = λ s b. omega (arith, all s b);
  passed = λ s t b c. absurd (omega (arith, c.1, length-drop (left s) (needs s), all s b));
}

-- a symbol that was visited and is not open is done where it is not unordered
met_is_done : (m : NodeState) → m ≢ New → m ≢ Open → is_unordered m ≡ false → m ≡ Done
met_is_done New a b e = absurd (a refl)
met_is_done Open a b e = absurd (b refl)
met_is_done Done a b e = refl
met_is_done Unordered a b e = cc

is_given_up : (m : NodeState) → is_unordered m ≡ true → m ≡ Unordered
is_given_up New e = cc
is_given_up Open e = cc
is_given_up Done e = cc
is_given_up Unordered e = refl

-- after the last step
module _ (rows : List (List ℕ)) (search : Search) (over : IsFinished rows search) where
  -- a symbol is marked as unordered exactly where it is
  pub unordered_iff : (s : ℕ) → s < length rows → is_unordered (get_or search.states.items s New) ≡ unordered_after (needs_in rows) (length rows) s
  unordered_iff s b =
      let keeps = over.sound.keeps in
      let closed_now : state_of search s ≢ Open = λ e. omega (arith, over.idle, (keeps.open_is s b e).1) in
      elim (cases_Bool (is_unordered (get_or search.states.items s New))) [
        | inl given ↦ given ∙ sym (keeps.unordered_is s (length rows) b (is_given_up (get_or search.states.items s New) given))
        | inr free ↦ free ∙ sym (keeps.done_ordered s b (met_is_done (get_or search.states.items s New) (over.visited s b) closed_now free))
      ]

  -- where none is unordered, all are in order
  pub finishes : All (λ m. is_unordered m ≡ false) search.states.items → IsOrderOf (length rows) (needs_in rows) search.order.items
  finishes free =
      let keeps = over.sound.keeps in
      record {
        all_there = λ s b.
            keeps.done_is s b (met_is_done (state_of search s) (over.visited s b) (λ e. omega (arith, over.idle, (keeps.open_is s b e).1)) (free s New (omega (arith, b, over.sound.states_len))));
        all_below = λ s c. (keeps.order_is s c).0;
        apart = keeps.order_apart;
        needs_first = keeps.needs_first;
      }

-- the lengths of the rows are the numbers of needs
pub counts_are : (rows : List (List ℕ)) (r : ℕ) → get_or (map length rows) r 0 ≡ length (needs_in rows r)
counts_are [] r = refl
counts_are (row ∷ rows) zero = refl
counts_are (row ∷ rows) (suc r) = counts_are rows r

-- fewer needs are left in a row
pub row_passes_to : (rows : List (List ℕ)) (left : List ℕ) (s j : ℕ) → s < length left →
    PassesTo (length rows) (needs_in rows) (λ t. get_or left t 0) (λ t. get_or (set left s j) t 0) s j
row_passes_to rows left s j l t c =
    elim (cases_eq t s) [
      | inl same ↦ inl (ap (needs_in rows) same, ap (λ r. get_or (set left s j) r 0) same ∙ get_or-set_same left s j 0 l)
      | inr other ↦ inr (get_or-set_other left s t j 0 other)
    ]

module _ (rows : List (List ℕ)) (before after : Search) (s : ℕ) (sound : IsSound rows before) where
  -- a new symbol that the last open one needs is opened
  pub opens_sound : s < length rows → get_or before.states.items s New ≡ New →
      ((k : ℕ) → k + 1 ≡ length before.path.items → Contains (needs_in rows (slice_index before.path.items k)) s) → Opens before after s → IsSound rows after
  opens_sound below new needed o = record {
    states_len = ap length o.states ∙ length-set before.states.items s Open ∙ sound.states_len;
    left_len = ap length o.left ∙ sound.left_len;
    keeps = rw (o.states, o.left, o.path, o.order) (opened _ (needs_in rows) _ _ _ before.path.items before.order.items s sound.keeps below new needed
        (list_set New before.states.items s Open (omega (arith, sound.states_len))));
  }

  pub opens_less : s < length rows → get_or before.states.items s New ≡ New → Opens before after s → work after < work before
  opens_less below new o =
      let less = sum_by-set weight before.states.items s Open New (omega (arith, sound.states_len)) in
      omega (arith, less, ap weight new, ap (sum_by weight) o.states, ap sum o.left)

  pub opens_there : s < length rows → Opens before after s → get_or after.states.items s New ≡ Open
  opens_there below o = ap (λ xs. get_or xs s New) o.states ∙ get_or-set_same before.states.items s Open New (omega (arith, sound.states_len))

  pub opens_met : s < length rows → Opens before after s → KeepsVisited before after
  opens_met below o t visited new =
      let u = list_set New before.states.items s Open (omega (arith, sound.states_len)) in
      let is = sym (ap (λ xs. get_or xs t New) o.states) ∙ new in
      elim (cases_eq t s) [
        | inl same ↦ open≢new (get_or (set before.states.items s Open) s New) u.here (sym (ap (λ k. get_or (set before.states.items s Open) k New) same) ∙ is)
        | inr other ↦ visited (sym (u.others t other) ∙ is)
      ]

  -- the last open symbol, of which no need is left, is closed
  pub closes_sound : RowsBelow (length rows) rows → s < length rows → get_or before.left.items s 0 ≡ 0 → Closes before after s → IsSound rows after
  closes_sound rows_below below none o =
      let split = subst (λ p. IsSearch (length rows) (needs_in rows) (λ t. get_or before.states.items t New)
      (λ t. get_or before.left.items t 0) p before.order.items) o.path sound.keeps in
      record {
        states_len = ap length o.states ∙ length-set before.states.items s Done ∙ sound.states_len;
        left_len = ap length o.left ∙ sound.left_len;
        keeps = rw (o.states, o.left, o.order) (closed _ (needs_in rows) (needs_below rows rows_below) _ _ _ after.path.items before.order.items s split none
            (list_set New before.states.items s Done (omega (arith, sound.states_len))));
      }

  pub closes_less : s < length rows → Closes before after s → work after < work before
  closes_less below o =
      let was = ap weight (sound.keeps.path_is s (subst (λ p. Contains p s) (sym o.path) (Contains-push after.path.items s))).1 in
      let less = sum_by-set weight before.states.items s Done New (omega (arith, sound.states_len)) in
      omega (arith, less, was, ap (sum_by weight) o.states, ap sum o.left)

  -- the last open symbol, which is unordered, is given up
  pub gives_up_sound : s < length rows → ((k : ℕ) → unordered_after (needs_in rows) k s ≡ true) → GivesUp before after s → IsSound rows after
  gives_up_sound below unordered o =
      let split = subst (λ p. IsSearch (length rows) (needs_in rows) (λ t. get_or before.states.items t New)
      (λ t. get_or before.left.items t 0) p before.order.items) o.path sound.keeps in
      record {
        states_len = ap length o.states ∙ length-set before.states.items s Unordered ∙ sound.states_len;
        left_len = ap length o.left ∙ sound.left_len;
        keeps = rw (o.states, o.left, o.order) (given_up _ (needs_in rows) _ _ _ after.path.items before.order.items s split unordered
            (list_set New before.states.items s Unordered (omega (arith, sound.states_len))));
      }

  pub gives_up_less : s < length rows → GivesUp before after s → work after < work before
  gives_up_less below o =
      let was = ap weight (sound.keeps.path_is s (subst (λ p. Contains p s) (sym o.path) (Contains-push after.path.items s))).1 in
      let less = sum_by-set weight before.states.items s Unordered New (omega (arith, sound.states_len)) in
      omega (arith, less, was, ap (sum_by weight) o.states, ap sum o.left)
