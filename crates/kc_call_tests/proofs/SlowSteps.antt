-- One more equation computed anew.
use Rattle.std.proofs.Common.{◌≡◌, ℕ, ◌+◌, zero, suc, false, List, ◌∷◌, length, Option, Some, None, sym, ◌∙◌, ap, subst, arith}
use Rattle.std.specs.List.{Contains}
use Rattle.std.specs.Prelude.{slice_index_or, replicate}
use Rattle.kc_language.specs.Expressions.{symbol}
use Rattle.kc_language.specs.declared.expressions.SymId.{SymId}
use Rattle.kc_language.specs.declared.expressions.Tri.{Tri}
use Rattle.kc_language.specs.declared.expressions.Tri.TheVariants.{Y}
use Rattle.kc_expr.proofs.AgreeLemmas.{depends_on_symbols}
use Rattle.kc_language.specs.Needs.{IsAccepted, condition_names, needs_in, unordered_after, needs}
use Rattle.kc_order.specs.Solution.{IsUpdate}
use Rattle.kc_language.specs.Values.{Solves, condition, name_count, equations}
use Rattle.kc_order.proofs.OneIteration.{HoldsUpTo, SolvesOrdered, one_more, all_hold}
use Rattle.kc_language.specs.Symbols.{TreeFacts}
use Rattle.kc_tree.specs.declared.layout.Layout.{Layout}
use Rattle.kc_tree.specs.Layouts.{condition_at}
use Rattle.kc_user.specs.declared.value.UserValue.{UserValue}
use Rattle.kc_values.specs.Computed.{AreContextsComputed, rank}
use Rattle.kc_values.specs.Table.{known_in}
use Rattle.kc_values.specs.declared.table.Table.{Table}
use Rattle.kc_values.specs.declared.table.Value.{Value}
use Rattle.kc_values.proofs.TreeNeeds.{needs_within, below_count, free_count, reads_rows}
use Rattle.kc_solve.specs.Computing.{AreComputedValues, IsUnread, IsUnreadIn, KeepsTree, Slots, slots_of}
use Rattle.kc_solve.specs.PlaceLists.{places}
use Rattle.kc_solve.specs.Kept.{valuation}
use Rattle.kc_solve.proofs.ComputeSteps.{empty_at}

-- only the top is computed, which names no symbol
pub nothing_names : (tree : TreeFacts) (l : Layout) (slots : Slots) (n v d c : ℕ) → slots.contexts ≡ Some Y ∷ replicate n None → slots.visibles ≡ replicate v None →
    slots.dependencies ≡ replicate d None → slots.selections ≡ replicate c None → (s : ℕ) → IsUnreadIn tree l slots s
nothing_names tree l slots n v d c contexts visibles dependencies selections s = record {
  contexts = λ i x e. context i x (sym (ap (λ xs. slice_index_or xs i None) contexts) ∙ e);
  visibles = λ i x e. absurd (empty_at v i x (sym (ap (λ xs. slice_index_or xs i None) visibles) ∙ e));
  dependencies = λ i x e. absurd (empty_at d i x (sym (ap (λ xs. slice_index_or xs i None) dependencies) ∙ e));
  selections = λ i x e. absurd (empty_at c i x (sym (ap (λ xs. slice_index_or xs i None) selections) ∙ e));
}
  where
    context : (i : ℕ) (x : Tri) → slice_index_or (Some Y ∷ replicate n None) i None ≡ Some x → Contains (condition_names tree (condition_at l i)) (symbol s) → ⊥
    context zero x e names = absurd (omega (arith, names.1))
    context (suc i) x e names = absurd (empty_at n i x e)

-- where only the top is computed, what is computed is right for any values
pub only_top : (tree : TreeFacts) (l : Layout) (values : List (Option Value)) (contexts : List (Option Tri)) (n : ℕ) → contexts ≡ Some Y ∷ replicate n None → AreContextsComputed tree l values contexts
only_top tree l values contexts n are i t e = by i (sym (ap (λ xs. slice_index_or xs i None) are) ∙ e)
  where
    by : (i : ℕ) → slice_index_or (Some Y ∷ replicate n None) i None ≡ Some t → rank t ≡ rank (condition tree (known_in tree values) (condition_at l i))
    by zero top = cc
    by (suc i) none = absurd (empty_at n i t none)

-- what is unread stays so while only values change
pub still_unread : (old new : Table) → KeepsTree old new → new.contexts ≡ old.contexts → new.visibles ≡ old.visibles → new.dependencies ≡ old.dependencies → new.selections ≡ old.selections →
    (s : ℕ) → IsUnread old s → IsUnread new s
still_unread old new keeps contexts visibles dependencies selections s unread =
    let same : slots_of new ≡ slots_of old =
    λ j. record { contexts = (contexts j).items; visibles = (visibles j).items; dependencies = (dependencies j).items; selections = (selections j).items } in
    subst (λ (u : TreeFacts). IsUnreadIn u new.layout.now (slots_of new) s) (sym (ap (λ t. t.now) keeps.tree))
    (subst (λ (l : Layout). IsUnreadIn old.tree.now l (slots_of new) s) (sym (ap (λ l. l.now) keeps.layout)) (subst (λ (x : Slots). IsUnreadIn old.tree.now old.layout.now x s) (sym same) unread))

module _ (tree : TreeFacts) (given : List (Option UserValue)) (chosen : List (Option SymId)) where
  -- the equations of the symbols that are not unordered after k rounds hold in the table
  abbrev pub HoldAfter : ℕ → List (Option Value) → Type 0
  HoldAfter k values = SolvesOrdered (name_count tree) (needs_in (needs tree)) (equations tree (places given chosen)) k (valuation tree values)

  -- and the first i of them where their symbols are not unordered after one more round
  abbrev pub HoldUpTo : ℕ → ℕ → List (Option Value) → Type 0
  HoldUpTo k i values = HoldsUpTo (name_count tree) (needs_in (needs tree)) (equations tree (places given chosen)) k i (valuation tree values)

  pub ended : (k : ℕ) (values : List (Option Value)) → k ≡ name_count tree → IsAccepted tree → HoldAfter k values →
      Solves (name_count tree) (equations tree (places given chosen)) (valuation tree values)
  ended k values e free h =
      all_hold (name_count tree) k (needs_in (needs tree)) (equations tree (places given chosen)) (valuation tree values) e (free_count tree free) h

  -- after the last equation of a round
  pub iteration_ended : (k i : ℕ) (values : List (Option Value)) → i ≡ name_count tree → HoldUpTo k i values → HoldAfter (k + 1) values
  iteration_ended k i values e h s l free =
      let next : k + 1 ≡ suc k = omega arith in
      h.now s (omega arith) l (subst (λ m. unordered_after (needs_in (needs tree)) m s ≡ false) next free)

  -- one more equation computed
  pub computed : (k i : ℕ) (values values' : List (Option Value)) → AreComputedValues tree given chosen (symbol i) values values' → HoldUpTo k i values → HoldUpTo k (i + 1) values'
  computed k i values values' f h =
      let P = places given chosen in
      let update : IsUpdate (valuation tree values) (valuation tree values') i (equations tree P i (valuation tree values)) = record { here = f.here; others = λ t ne. f.others (symbol t) ne } in
      one_more (name_count tree) (needs_in (needs tree)) (equations tree P) (below_count tree (needs_within tree)) (reads_rows depends_on_symbols tree P) k i (valuation tree values)
      (valuation tree values') h update
