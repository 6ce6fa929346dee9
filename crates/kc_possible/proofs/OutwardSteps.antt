-- One step outwards, for any values of symbols: what an entry asks for comes behind what is asked around it, and what a menu asks of what is visible behind what the menus around it do.
use Rattle.std.proofs.{Common.{None, Option, Some, ap, inl, inr, length, refl, suc, sym, true, zero, ℕ, ◌<◌, ◌∙◌, ◌≡◌, ◌≤◌}, lemmas.{Bool.cases_lt, List.append-nil, Option.{slice_get_past, slice_get_within}}}
use Rattle.std.specs.{List.{filter_map, slice_get}, Option.option_map_or, Prelude.{option_map, ◌⊎◌}}
use Rattle.kc_language.specs.{Expressions.{SymbolValue, lesser}, Statements.{ChoiceLine, Numbered}, Symbols.{ChoiceFacts, Condition, TreeFacts, choice_number, dependency_in, visible_in}, Values.{and_value, choice_at, condition, mode_of, upgrade}, declared.expressions.{SymId.SymId, Tri.{TheVariants.N, Tri}}}
use Rattle.kc_entries.specs.{StatementViews.head_view, declared.entries.Entry.Entry}
use Rattle.kc_entries.proofs.PlaceLemmas.{there_in}
use Rattle.kc_tree.specs.{EntryViews.{begins_choice, entry_count, head_at, index_of, is_choice_line, said_by, statements_in}, Layouts.{IsLayoutOf, asked_by, choice_dependency, choice_facts, condition_at, entry_at, outer_context, outer_visible, place_of, said_at, visible_at, visible_menu}, declared.{layout.Layout.Layout, rows.{Choice.Choice, EntryId.EntryId, EntryPlace.EntryPlace}}}
use Rattle.kc_tree.proofs.{ChoiceAtLemmas.choice-at-entry, ChoiceLemmas.{choice-alone, choice-at}, OuterLemmas.{condition-past, condition-step, in_entry, place-past}, VisibleLemmas.{menu-at, visible-past, visible-step}}
use Rattle.kc_values.specs.PartsOfValues.{prompt_value}
use Rattle.kc_values.proofs.ConditionLemmas.{and_value-append, condition-plain, condition-with_conjuncts}
use Rattle.kc_possible.specs.PartsOfPossible.{asked_value, mode_at}

module _ (tree : TreeFacts) (l : Layout) (known : SymId → SymbolValue) where
  abbrev context : ℕ → Tri
  context at = condition tree known (condition_at l at)

  abbrev shown : ℕ → Tri
  shown v = and_value tree known (visible_at l v)

  -- ---- Entries
  module _ (e : ℕ) (x : Entry) (h : entry_at l (suc e) ≡ Some x) where
    abbrev head : Numbered
    head = head_view x.head

    abbrev outside : ℕ
    outside = outer_context l (suc e)

    there : e < entry_count l.entries
    there = slice_get_within l.entries.first_lines.items e x h

    begins : head_at l.entries e ≡ Some head
    begins = ap (option_map (λ (y : Entry). head_view y.head)) h

    abbrev number : ℕ
    number = choice_number (statements_in l.entries) (index_of l.entries e)

    -- a choice asks for its mode, and no other mode counts around it
    choice-step : head ≡ ChoiceLine →
        condition tree known (in_entry (condition_at l outside) (Some ChoiceLine) (said_at l (suc e)) number) ≡ lesser (context outside) (mode_at tree l known (suc e))
    choice-step q =
        let c = condition_at l outside in
        let is : begins_choice l.entries e ≡ true = ap is_choice_line (begins ∙ ap Some q) in
        let begun : ℕ → Tri = λ k. mode_of tree known (choice_at tree k) in
        let mode : mode_at tree l known (suc e) ≡ begun number = ap (λ (o : Option ℕ). option_map_or begun o N) (choice-at-entry l e there is) in
        let around = condition-plain tree known c (choice-alone l e there is) in
        ap (λ r. lesser (and_value tree known r) (begun number)) (append-nil c.conjuncts)
        ∙ (λ j. lesser (sym around j) (sym mode j))

    step-by : (n : Numbered) → head ≡ n →
        condition tree known (in_entry (condition_at l outside) (Some n) (said_at l (suc e)) number) ≡ lesser (context outside) (asked_value tree l known (suc e) n (said_at l (suc e)))
    step-by ChoiceLine q = choice-step q
    step-by n q = condition-with_conjuncts tree known (condition_at l outside) (asked_by (Some n) (said_at l (suc e)))

    asked-step : context (suc e) ≡ lesser (context outside) (asked_value tree l known (suc e) head (said_at l (suc e)))
    asked-step =
        ap (condition tree known) (condition-step l e there ∙ ap (λ o. in_entry (condition_at l outside) o (said_at l (suc e)) number) begins)
        ∙ step-by head refl

  -- by its number as it is stored
  pub asked-at : (at : ℕ) (x : Entry) → Some x ≡ entry_at l at → context at ≡ lesser (context (outer_context l at)) (asked_value tree l known at (head_view x.head) (said_at l at))
  asked-at zero x h = absurd cc
  asked-at (suc e) x h = asked-step e x (sym h)

  -- past the last entry there is nothing, and nothing outside
  past : (e : ℕ) → None ≡ entry_at l (suc e) → entry_count l.entries ≤ e
  past e h = by (cases_lt e (entry_count l.entries))
    where
      by : (e < entry_count l.entries) ⊎ (entry_count l.entries ≤ e) → entry_count l.entries ≤ e
      by (inl b) = let y = there_in l.entries.first_lines.items e b in absurd (let no : None ≡ Some (y.0) = h ∙ y.1 in cc)
      by (inr b) = b

  pub past-same : (at : ℕ) → None ≡ entry_at l at → context at ≡ context (outer_context l at)
  past-same zero h = refl
  past-same (suc e) h =
      let over = past e h in
      let none : outer_context l (suc e) ≡ 0 = ap (λ (p : EntryPlace). (place_of l p.outer.0).context.0) (place-past l e over) in
      ap (condition tree known) (condition-past l e over) ∙ sym (ap context none)

  -- ---- Choices
  -- what a choice depends on: what is outside, and its own lines
  pub dependency-is : (k : ℕ) (c : Choice) → slice_get l.choices.items k ≡ Some c →
      condition tree known (choice_dependency l c) ≡ lesser (context (outer_context l c.entry.0)) (and_value tree known (filter_map dependency_in (said_at l c.entry.0)))
  dependency-is k c h =
      let e = choice-at l k c h in
      let is = e.1 in
      let around = condition_at l (outer_context l c.entry.0) in
      let own = filter_map dependency_in (said_at l c.entry.0) in
      let alone : around.mode ≡ None = ap (λ n. (condition_at l (outer_context l n)).mode) is.entry ∙ choice-alone l (e.0) is.there is.begins in
      condition-plain tree known (choice_dependency l c) refl
      ∙ and_value-append tree known around.conjuncts own
      ∙ ap (λ t. lesser t (and_value tree known own)) (sym (condition-plain tree known around alone))

  -- the mode of a choice, from its prompt
  mode-by : (o : Option ChoiceFacts) (f : ChoiceFacts) (prompt : Option Condition) → o ≡ Some f → f.prompt ≡ prompt → mode_of tree known o ≡ upgrade (prompt_value tree known prompt)
  mode-by o f None h e = ap (mode_of tree known) h ∙ ap (λ (q : Option Condition). mode_of tree known (Some (record f { prompt = q }))) e
  mode-by o f (Some c) h e = ap (mode_of tree known) h ∙ ap (λ (q : Option Condition). mode_of tree known (Some (record f { prompt = q }))) e

  pub mode-is : IsLayoutOf tree l → (k : ℕ) (c : Choice) → slice_get l.choices.items k ≡ Some c → mode_of tree known (choice_at tree k) ≡ upgrade (prompt_value tree known (choice_facts l k c).prompt)
  mode-is laid k c h = mode-by (choice_at tree k) (choice_facts l k c) (choice_facts l k c).prompt (laid.choices k ∙ ap (option_map (choice_facts l k)) h) refl

  -- ---- Menus
  menu-step : (v : ℕ) → (v < length l.visibles.items) ⊎ (length l.visibles.items ≤ v) →
      shown (suc v) ≡ lesser (shown (outer_visible l (visible_menu l (suc v)))) (and_value tree known (filter_map visible_in (said_at l (visible_menu l (suc v)))))
  menu-step v (inl b) =
      let m = menu-at l v b in
      ap (and_value tree known) (visible-step l v (m.0) (m.1))
      ∙ and_value-append tree known (visible_at l (outer_visible l (suc (m.0)))) (filter_map visible_in (said_by l.entries (m.0)))
      ∙ sym (ap (λ n. lesser (shown (outer_visible l n)) (and_value tree known (filter_map visible_in (said_at l n)))) (m.1).is)
  menu-step v (inr b) =
      let none : visible_menu l (suc v) ≡ 0 = ap (λ (o : Option EntryId). elim o [ None ↦ 0 | Some m ↦ m.0 ]) (slice_get_past l.visibles.items v b) in
      ap (and_value tree known) (visible-past l v b)
      ∙ sym (ap (λ n. lesser (shown (outer_visible l n)) (and_value tree known (filter_map visible_in (said_at l n)))) none)

  pub visible-at : (v : ℕ) →
      shown v ≡ lesser (shown (outer_visible l (visible_menu l v))) (and_value tree known (filter_map visible_in (said_at l (visible_menu l v))))
  visible-at zero = refl
  visible-at (suc v) = menu-step v (cases_lt v (length l.visibles.items))
