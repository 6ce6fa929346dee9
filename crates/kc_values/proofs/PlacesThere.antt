-- What places lead to is there, and their marks say what the lines of their entries do, of the top and past the last entry too.
use Rattle.std.proofs.{Common.{None, Option, Some, [], ap, arith, inl, inr, length, refl, suc, sym, zero, ℕ, ◌∙◌, ◌≡◌, ◌≤◌}, lemmas.{Bool.cases_lt, Option.slice_get_past}}
use Rattle.kc_language.specs.Symbols.{range_in, stated_default}
use Rattle.kc_entries.specs.{Entries.{own_of, start_at}, declared.entries.Entry.Entry}
use Rattle.kc_tree.specs.{EntryViews.{entry_count, statements_of}, Layouts.{place_of, said_at}, Places.says, declared.{layout.Layout.Layout, rows.EntryPlace.EntryPlace}}
use Rattle.kc_tree.proofs.{OuterLemmas.{context-within, place-is, place-past}, VisibleLemmas.visible-few}
use Rattle.kc_values.specs.MadeRows.{IsPlaceThere}

module _ (l : Layout) where
  pub context_there : (at : ℕ) → (place_of l at).context.0 ≤ length l.places.items
  context_there zero = omega arith
  context_there (suc e) =
      elim (cases_lt e (entry_count l.entries)) [
        | inl h ↦ let c = context-within l (suc e) (omega (arith, h)) in omega (arith, c, h, l.laid.count)
        | inr h ↦ let c = ap (λ (p : EntryPlace). p.context.0) (place-past l e h) in omega (arith, c)
      ]

  pub visible_there : (at : ℕ) → (place_of l at).visible.0 ≤ length l.visibles.items
  visible_there zero = omega arith
  visible_there (suc e) =
      elim (cases_lt e (entry_count l.entries)) [
        | inl h ↦ visible-few l (suc e) (omega (arith, h))
        | inr h ↦ let v = ap (λ (p : EntryPlace). p.visible.0) (place-past l e h) in omega (arith, v)
      ]

  pub place_there : (at : ℕ) → IsPlaceThere l (place_of l at)
  place_there at = record { context = context_there at; visible = visible_there at }

  pub said_past : (e : ℕ) → entry_count l.entries ≤ e → said_at l (suc e) ≡ []
  said_past e h =
      ap (λ (o : Option Entry). statements_of (elim o [ None ↦ [] | Some x ↦ own_of x (start_at l.entries (suc e)) l.entries.attributes.items ])) (slice_get_past l.entries.first_lines.items e h)

  -- the marks of a place
  pub default_marked : (at : ℕ) → (place_of l at).has_default ≡ says stated_default (said_at l at)
  default_marked zero = refl
  default_marked (suc e) =
      elim (cases_lt e (entry_count l.entries)) [
        | inl h ↦ (place-is l e h).has_default
        | inr h ↦ ap (λ (p : EntryPlace). p.has_default) (place-past l e h) ∙ sym (ap (says stated_default) (said_past e h))
      ]

  pub range_marked : (at : ℕ) → (place_of l at).has_range ≡ says range_in (said_at l at)
  range_marked zero = refl
  range_marked (suc e) =
      elim (cases_lt e (entry_count l.entries)) [
        | inl h ↦ (place-is l e h).has_range
        | inr h ↦ ap (λ (p : EntryPlace). p.has_range) (place-past l e h) ∙ sym (ap (says range_in) (said_past e h))
      ]
