-- The plan of a tree, one node more: its readers, and the order of groups.
use Rattle.std.proofs.{Common.{Bool, List, [], ap, arith, false, get_or, get_or-set_other, get_or-set_same, inl, inr, length, refl, set, slice_set, subst, sym, take, true, ℕ, ◌+◌, ◌++◌, ◌<◌, ◌∙◌, ◌∷◌, ◌≡◌, ◌≤◌, ◌⊎◌}, lemmas.{Bool.cases_eq, List.{Elements.{Contains-append_left, Contains-append_right}, length-set}}}
use Rattle.std.specs.{List.Contains, Prelude.slice_index_or}
use Rattle.kc_language.specs.Needs.{needs_in}
use Rattle.kc_order.specs.Graph.{Nodes}
use Rattle.kc_solve.specs.{Plans.{AreReadersTo, IsOrderedTo}, Renewing.HaveReader}
use Rattle.kc_solve.proofs.ComputeSteps.{front_cases, front_has, front_longer}

-- ---- Readers
module _ (row : List ℕ) (k node : ℕ) (old mid : List (List ℕ)) (b : k < length row) (within : get_or row k 0 < length mid) (so : HaveReader (take k row) node old mid) where
  abbrev read : ℕ
  read = get_or row k 0

  abbrev longer : List ℕ
  longer = get_or mid read [] ++ node ∷ []

  more : (t n : ℕ) → Contains (get_or mid t []) n → (t ≡ read) ⊎ (t ≡ read → ⊥) → Contains (get_or (set mid read longer) t []) n
  more t n c (inl here) =
      subst (λ m. Contains (get_or (set mid read longer) m []) n) (sym here)
      (subst (λ ns. Contains ns n) (sym (get_or-set_same mid read longer [] within)) (Contains-append_left (get_or mid read []) (node ∷ []) n (subst (λ m. Contains (get_or mid m []) n) here c)))
  more t n c (inr other) = subst (λ ns. Contains ns n) (sym (get_or-set_other mid read t longer [] other)) c

  pub reader_more : HaveReader (take (k + 1) row) node old (slice_set mid read longer)
  reader_more = record {
    count = length-set mid read longer ∙ so.count;
    kept = λ t n c. more t n (so.kept t n c) (cases_eq t read);
    added = λ t c.
        elim (front_cases row k t b c) [
          | inl in_front ↦ more t node (so.added t in_front) (cases_eq t read)
          | inr here ↦ subst (λ m. Contains (get_or (set mid read longer) m []) node) here
              (subst (λ ns. Contains ns node) (sym (get_or-set_same mid read longer [] within)) (Contains-append_right (get_or mid read []) (node ∷ []) node (0, omega arith, refl)))
        ];
  }

-- the readers of one node more
pub readers_more : (k : ℕ) (g : Nodes) (row : List ℕ) (old new : List (List ℕ)) → row ≡ needs_in g.rows k → AreReadersTo k g old → HaveReader row k old new → AreReadersTo (k + 1) g new
readers_more k g row old new is before have n t l c =
    elim (cases_eq n k) [
      | inl here ↦ subst (Contains (get_or new t [])) (sym here) (have.added t (subst (λ ns. Contains ns t) (ap (needs_in g.rows) here ∙ sym is) c))
      | inr other ↦ have.kept t n (before n t (omega (arith, l, other)) c)
    ]

-- ---- The order of groups
-- one more node is done, which comes after the groups in its row
module _ (k : ℕ) (g : Nodes) (nodes : List ℕ) (done : List Bool) (b : k < length nodes) (so : IsOrderedTo k g nodes done)
    (ready : (t : ℕ) → g.symbols ≤ t → Contains (needs_in g.rows (get_or nodes k 0)) t → slice_index_or done t false ≡ true) where
  abbrev next : ℕ
  next = get_or nodes k 0

  done_by : (t : ℕ) → slice_index_or (slice_set done next true) t false ≡ true → (t ≡ next) ⊎ (t ≡ next → ⊥) → Contains (take (k + 1) nodes) t
  done_by t e (inl here) = subst (Contains (take (k + 1) nodes)) (sym here) (front_has nodes (k + 1) k (omega arith) (omega (arith, b)))
  done_by t e (inr other) = front_longer nodes k (k + 1) t (omega arith) (omega (arith, b)) (so.are_done t (sym (get_or-set_other done next t true false other) ∙ e))

  pub ordered_more : IsOrderedTo (k + 1) g nodes (slice_set done next true)
  ordered_more = record {
    count = length-set done next true ∙ so.count;
    are_done = λ t e. done_by t e (cases_eq t next);
    ordered = λ j t l past c.
        elim (cases_eq j k) [
          | inl here ↦ subst (λ m. Contains (take m nodes) t) (sym here) (so.are_done t (ready t past (subst (λ m. Contains (needs_in g.rows (slice_index_or nodes m 0)) t) here c)))
          | inr other ↦ so.ordered j t (omega (arith, l, other)) past c
        ];
  }
