-- What an order gives: nothing is unordered, and values that are computed along it solve.
use Rattle.std.proofs.{Common.{List, ap, arith, eqb, false, get_or, inl, inr, length, subst, suc, sym, take, zero, ℕ, ◌+◌, ◌<◌, ◌∙◌, ◌≡◌, ◌≢◌, ◌≤◌}, lemmas.{Bool.{cases_lt, eqb-false, eqb-true}, List.{Elements.Contains-get_or, Folds.{Any-from_list_any, list_any_none}, get_or-take, get_or_default, length-take-le}, Map.{Keys.apart_from_distinct, Steps.length-le_from_distinct_below}}}
use Rattle.std.specs.List.{Contains}
use Rattle.kc_language.specs.{Needs.unordered_after, Values.Solves}
use Rattle.kc_order.specs.{Order.IsOrderOf, PartsOfNeeds.NothingUnordered, Solution.{IsUpdate, ReadsNeeds}}

-- an element of a front stands at a place before its end
in_front : (xs : List ℕ) (k t : ℕ) → k < length xs → Contains (take k xs) t → (i : ℕ) × (i < k) × (get_or xs i 0 ≡ t)
in_front xs k t l c =
    let i_lt : c.0 < k = omega (arith, c.1, length-take-le k xs (omega arith)) in
    (c.0, i_lt, get_or_default xs c.0 0 t (omega arith) ∙ sym (get_or-take k xs c.0 t i_lt) ∙ c.2)

-- the equations of the first i symbols of the order hold
abbrev pub IsComputedTo : {A : Type 0} → List ℕ → (ℕ → (ℕ → A) → A) → ℕ → (ℕ → A) → Type 0
IsComputedTo order rhs i V = (j : ℕ) → j < i → j < length order → V (get_or order j 0) ≡ rhs (get_or order j 0) V

module _ (n : ℕ) (needs : ℕ → List ℕ) (order : List ℕ) (is : IsOrderOf n needs order) where
  -- the first k symbols of an order are free after k iterations
  pub free_after : (k j : ℕ) → j < k → j < length order → unordered_after needs k (get_or order j 0) ≡ false
  free_after zero j l b = absurd (omega arith)
  free_after (suc k) j l b =
      list_any_none (unordered_after needs k) (needs (get_or order j 0)) (λ m d lt.
      let t = get_or (needs (get_or order j 0)) m d in
      let w = in_front order j t b (is.needs_first j t b (Contains-get_or (needs (get_or order j 0)) m d lt)) in
      subst (λ x. unordered_after needs k x ≡ false) w.2 (free_after k w.0 (omega (arith, w.1)) (omega (arith, w.1))))

  order_short : length order ≤ n
  order_short = length-le_from_distinct_below order n is.apart (λ q t.
      let a = Any-from_list_any (eqb q) order t in
      let there : Contains order a.1 = (a.0, a.2, a.3) in
      is.all_below q (subst (Contains order) (sym (eqb-true q a.1 a.4)) there))

  pub nothing_unordered : NothingUnordered n needs
  nothing_unordered s l =
      let c = is.all_there s l in
      subst (λ x. unordered_after needs n x ≡ false) (get_or_default order c.0 0 s c.1 ∙ c.2) (free_after n c.0 (omega (arith, c.1, order_short)) c.1)

  -- two places hold two symbols
  differ : (i j : ℕ) → i < j → j < length order → get_or order i 0 ≢ get_or order j 0
  differ i j l b = eqb-false (get_or order i 0) (get_or order j 0) (apart_from_distinct eqb order i j 0 is.apart l b)

  -- an equation whose symbol stands up to i does not read the value at i
  unread : {A : Type 0} (rhs : ℕ → (ℕ → A) → A) → ReadsNeeds needs rhs → (i j : ℕ) (V W : ℕ → A) (x : A) → i < length order → IsUpdate V W (get_or order i 0) x → j ≤ i →
      rhs (get_or order j 0) W ≡ rhs (get_or order j 0) V
  unread rhs reads i j V W x b u l =
      reads (get_or order j 0) W V (λ t c.
      let w = in_front order j t (omega arith) (is.needs_first j t (omega arith) c) in
      u.others t (λ e. differ w.0 i (omega (arith, w.1)) b (w.2 ∙ e)))

  pub compute_one : {A : Type 0} (rhs : ℕ → (ℕ → A) → A) → ReadsNeeds needs rhs → (i : ℕ) (V W : ℕ → A) → IsComputedTo order rhs i V → i < length order →
      IsUpdate V W (get_or order i 0) (rhs (get_or order i 0) V) → IsComputedTo order rhs (i + 1) W
  compute_one rhs reads i V W h b u j l c =
      elim (cases_lt j i) [
        | inl before ↦ u.others (get_or order j 0) (differ j i before b) ∙ h j before c ∙ sym (unread rhs reads i j V W _ b u (omega arith))
        | inr last ↦
            let same : j ≡ i = omega arith in
            ap (λ m. W (get_or order m 0)) same ∙ u.here ∙ ap (λ m. rhs (get_or order m 0) V) (sym same) ∙ sym (unread rhs reads i j V W _ b u (omega arith))
      ]

  pub all_computed : {A : Type 0} (rhs : ℕ → (ℕ → A) → A) (V : ℕ → A) → IsComputedTo order rhs (length order) V → Solves n rhs V
  all_computed rhs V h s l =
      let c = is.all_there s l in
      subst (λ x. V x ≡ rhs x V) (get_or_default order c.0 0 s c.1 ∙ c.2) (h c.0 c.1 c.1)

  -- after each step the equations so far hold
  computed_to : {A : Type 0} (rhs : ℕ → (ℕ → A) → A) → ReadsNeeds needs rhs → (values : ℕ → ℕ → A) →
      ((i : ℕ) → i < length order → IsUpdate (values i) (values (i + 1)) (get_or order i 0) (rhs (get_or order i 0) (values i))) → (i : ℕ) → i ≤ length order → IsComputedTo order rhs i (values i)
  computed_to rhs reads values steps zero l = λ j up. absurd (omega arith)
  computed_to rhs reads values steps (suc i) l =
      let e : i + 1 ≡ suc i = omega arith in
      let step = compute_one rhs reads i (values i) (values (i + 1)) (computed_to rhs reads values steps i (omega arith)) (omega arith) (steps i (omega arith)) in
      subst (λ k. IsComputedTo order rhs k (values k)) e step

  pub computed_solves : {A : Type 0} (rhs : ℕ → (ℕ → A) → A) → ReadsNeeds needs rhs → (values : ℕ → ℕ → A) →
      ((i : ℕ) → i < length order → IsUpdate (values i) (values (i + 1)) (get_or order i 0) (rhs (get_or order i 0) (values i))) → Solves n rhs (values (length order))
  computed_solves rhs reads values steps =
      all_computed rhs (values (length order)) (λ j up. computed_to rhs reads values steps (length order) (omega arith) j up)
