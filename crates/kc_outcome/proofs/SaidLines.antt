-- The lists of the chapter Symbols, from located lines.
use Rattle.std.proofs.Common.{◌≡◌, refl, ap, sym, ◌∙◌, inl, inr, ℕ}
use Rattle.std.proofs.lemmas.Bool.{cases_Bool}
use Rattle.std.proofs.lemmas.List.{map-append}
use Rattle.std.specs.List.{AllByRecursion, enumerate_from, filter_map, flat_map, last_or, list_any}
use Rattle.std.specs.Prelude.{List, None, Option, Some, [], map, if◌then◌else◌, option_and_then, option_map, suc, ◌+◌, ◌++◌, ◌∷◌}
use Rattle.kc_language.specs.{Expansion.{attributes, last_of}, Expressions.{Form, same_symbol}, Statements.{InputPrompt, Numbered, RangeLine}, Symbols.{range_in, Bounds, Condition, Guarded, StatedDefault, guarded, listed, naming_at, prompt_at, prompt_of, shown_under, single_symbol, stated_default, symbol_at}, declared.{expressions.{SymId.{SymId}}}}
use Rattle.kc_outcome.specs.Explanations.{Said, default_member, lines_naming, prompt_lines, said_at}
use Rattle.kc_outcome.proofs.FactLists.{changed, found, last_holds, to_flat}

module _ (ss : List Numbered) where
  -- ---- The lists of the chapter Symbols, from located lines
  abbrev pub guard_of : {X Y : Type 0} → (X → Y) → (X → Option Form) → Said X → Guarded Y
  guard_of what own l = guarded ss l.entry (what l.what) (own l.what)

  pub lines_at : {X Y : Type 0} (read : Numbered → Option X) (what : X → Y) (own : X → Option Form) (i n : ℕ) (xs : List Numbered) →
      map (λ g. guarded ss i (what g) (own g)) (filter_map read xs) ≡ map {A = Said X} (guard_of what own)
      (filter_map (λ (k, l). option_map (λ x. record { entry = i; at = k; what = x }) (read l)) (enumerate_from n xs))
  lines_at read what own i n [] = refl
  lines_at read what own i n (x ∷ xs) = elim (found (read x)) [
    | inl e ↦ rw e (lines_at read what own i (n + 1) xs)
    | inr f ↦ rw f.1 (ap (λ ls. guarded ss i (what f.0) (own f.0) ∷ ls) (lines_at read what own i (n + 1) xs))
  ]

  pub lines_are : {X Y : Type 0} (read : Numbered → Option X) (what : X → Y) (own : X → Option Form) (js : List ℕ) →
      flat_map (λ i. map (λ g. guarded ss i (what g) (own g)) (filter_map read (attributes ss i))) js ≡ map (guard_of what own) (flat_map (said_at ss read) js)
  lines_are read what own [] = refl
  lines_are read what own (i ∷ js) = ap (λ ls. ls ++ flat_map (λ i. map (λ g. guarded ss i (what g) (own g)) (filter_map read (attributes ss i))) js)
      (lines_at read what own i (suc i) (attributes ss i))
      ∙ ap (λ ls. map (guard_of what own) (said_at ss read i) ++ ls) (lines_are read what own js)
      ∙ sym (map-append (guard_of what own) (said_at ss read i) (flat_map (said_at ss read) js))

  abbrev pub shown : Said (InputPrompt Form) → Condition
  shown p = shown_under ss p.entry (listed (p.what).when)

  pub last_prompt : (i n : ℕ) (o : Option (InputPrompt Form)) (p : Option (Said (InputPrompt Form))) (xs : List Numbered) →
      option_map (λ q. shown_under ss i (listed q.when)) o ≡ option_map shown p → option_map (λ q. shown_under ss i (listed q.when)) (last_or o (filter_map prompt_of xs))
      ≡ option_map shown (last_or p (filter_map (λ (k, l). option_map (λ x. record { entry = i; at = k; what = x }) (prompt_of l)) (enumerate_from n xs)))
  last_prompt i n o p [] e = e
  last_prompt i n o p (x ∷ xs) e = elim (found (prompt_of x)) [
    | inl h ↦ rw h (last_prompt i (n + 1) o p xs e)
    | inr f ↦ rw f.1 (last_prompt i (n + 1) (Some f.0) (Some (record { entry = i; at = n; what = f.0 })) xs refl)
  ]

  pub prompts_are : (js : List ℕ) → filter_map (prompt_at ss) js ≡ map shown (prompt_lines ss js)
  prompts_are [] = refl
  prompts_are (i ∷ js) =
      let here : prompt_at ss i ≡ option_map shown (last_of (said_at ss prompt_of i)) = last_prompt i (suc i) None None (attributes ss i) refl in
      elim (found (last_of (said_at ss prompt_of i))) [
        | inl h ↦ rw (here, h) (prompts_are js)
        | inr f ↦ rw (here, f.1) (ap (λ cs. shown f.0 ∷ cs) (prompts_are js))
      ]

  pub ranges_at : (i n : ℕ) (xs : List Numbered) →
      filter_map (λ l. elim l [ RangeLine a b c ↦ Some (guarded ss i (record { low = a; high = b }) c) | _ ↦ None ]) xs
      ≡ map {A = Said (Bounds × Option Form)} (guard_of (λ r. r.0) (λ r. r.1))
      (filter_map (λ (k, l). option_map (λ x. record { entry = i; at = k; what = x }) (range_in l)) (enumerate_from n xs))
  ranges_at i n [] = refl
  ranges_at i n (RangeLine a b c ∷ xs) = ap (λ ls. guarded ss i (record { low = a; high = b }) c ∷ ls) (ranges_at i (n + 1) xs)
  ranges_at i n (_ ∷ xs) = ranges_at i (n + 1) xs

  abbrev pub range_of : ℕ → List (Guarded Bounds)
  range_of i = filter_map (λ l. elim l [ RangeLine a b c ↦ Some (guarded ss i (record { low = a; high = b }) c) | _ ↦ None ]) (attributes ss i)

  pub ranges_are : (js : List ℕ) → flat_map range_of js ≡ map (guard_of (λ r. r.0) (λ r. r.1)) (flat_map (said_at ss range_in) js)
  ranges_are [] = refl
  ranges_are (i ∷ js) = ap (λ ls. ls ++ flat_map range_of js) (ranges_at i (suc i) (attributes ss i))
      ∙ ap (λ ls. map (guard_of (λ r. r.0) (λ r. r.1)) (said_at ss range_in i) ++ ls) (ranges_are js)
      ∙ sym (map-append (guard_of (λ r. r.0) (λ r. r.1)) (said_at ss range_in i) (flat_map (said_at ss range_in) js))

  -- The lines that name a symbol, each with its symbol.
  abbrev pub guard_raise : SymId × Said (Option Form) → Guarded SymId
  guard_raise r = guarded ss (r.1).entry r.0 (r.1).what

  naming_by : (read : Numbered → Option (Option Form)) (i : ℕ) (ts : List SymId) →
      flat_map (λ t. map (guarded ss i t) (filter_map read (attributes ss i))) ts ≡ map guard_raise (flat_map (λ t. map (λ l. (t, l)) (said_at ss read i)) ts)
  naming_by read i [] = refl
  naming_by read i (t ∷ ts) =
      let more = flat_map (λ t. map (λ l. (t, l)) (said_at ss read i)) ts in
      ap (λ gs. gs ++ flat_map (λ t. map (guarded ss i t) (filter_map read (attributes ss i))) ts)
      (lines_at read (λ w. t) (λ w. w) i (suc i) (attributes ss i) ∙ paired t (said_at ss read i))
      ∙ ap (λ gs. map guard_raise (map (λ l. (t, l)) (said_at ss read i)) ++ gs) (naming_by read i ts)
      ∙ sym (map-append guard_raise (map (λ l. (t, l)) (said_at ss read i)) more)
    where
      paired : (t : SymId) (ls : List (Said (Option Form))) → map (guard_of (λ w. t) (λ w. w)) ls ≡ map guard_raise (map (λ l. (t, l)) ls)
      paired t [] = refl
      paired t (l ∷ ls) = ap (λ gs. guarded ss l.entry t l.what ∷ gs) (paired t ls)

  pub naming_are : (read : Numbered → Option (Option Form)) (js : List ℕ) → flat_map (naming_at ss read) js ≡ map guard_raise (flat_map (lines_naming ss read) js)
  naming_are read [] = refl
  naming_are read (i ∷ js) = ap (λ gs. gs ++ flat_map (naming_at ss read) js) (naming_by read i (listed (symbol_at ss i)))
      ∙ ap (λ gs. map guard_raise (lines_naming ss read i) ++ gs) (naming_are read js)
      ∙ sym (map-append guard_raise (lines_naming ss read i) (flat_map (lines_naming ss read) js))

  -- A line of an entry belongs to it.
  module _ (Q : ℕ → Type 0) where
    pub said_after : {X : Type 0} (read : Numbered → Option X) (i : ℕ) → Q i → (n : ℕ) (xs : List Numbered) → AllByRecursion {X = Said X} (λ l. Q l.entry)
        (filter_map (λ (k, l). option_map (λ x. record { entry = i; at = k; what = x }) (read l)) (enumerate_from n xs))
    said_after read i q n [] = tt
    said_after read i q n (x ∷ xs) = elim (found (read x)) [
      | inl e ↦ rw e (said_after read i q (n + 1) xs)
      | inr f ↦ rw f.1 (q, said_after read i q (n + 1) xs)
    ]

    pub said_entries : {X : Type 0} (read : Numbered → Option X) (js : List ℕ) → AllByRecursion Q js →
        AllByRecursion {X = Said X} (λ l. Q l.entry) (flat_map (said_at ss read) js)
    said_entries {X} read js h = to_flat (λ (l : Said X). Q l.entry) (said_at ss read) js
        (changed Q _ js (λ i q. said_after read i q (suc i) (attributes ss i)) h)

    pub prompt_entries : (js : List ℕ) → AllByRecursion Q js → AllByRecursion (λ p. Q p.entry) (prompt_lines ss js)
    prompt_entries [] h = tt
    prompt_entries (i ∷ js) h = elim (found (last_of (said_at ss prompt_of i))) [
      | inl e ↦ rw e (prompt_entries js h.1)
      | inr f ↦
          let own = said_after prompt_of i h.0 (suc i) (attributes ss i) in
          rw f.1 (last_holds (λ (p : Said (InputPrompt Form)). Q p.entry) None (said_at ss prompt_of i) f.0 tt own f.1, prompt_entries js h.1)
    ]

  -- The defaults of a choice that name a member.
  module _ (j : ℕ) (ms : List SymId) where
    abbrev guard_default : StatedDefault → Option (Guarded SymId)
    guard_default g = option_and_then (λ s. if list_any (same_symbol s) ms then Some (guarded ss j s g.when) else None) (single_symbol g.value)

    pub member_defaults : (n : ℕ) (xs : List Numbered) → filter_map guard_default (filter_map stated_default xs)
        ≡ map {A = Said (SymId × Option Form)} (guard_of (λ d. d.0) (λ d. d.1))
        (filter_map (λ (k, l). option_map (λ x. record { entry = j; at = k; what = x }) (default_member ms l)) (enumerate_from n xs))
    member_defaults n [] = refl
    member_defaults n (x ∷ xs) = elim (found (stated_default x)) [
      | inl e ↦ rw e (member_defaults (n + 1) xs)
      | inr f ↦ elim (found (single_symbol (f.0).value)) [
        | inl e ↦ rw (f.1, e) (member_defaults (n + 1) xs)
        | inr s ↦ elim (cases_Bool (list_any (same_symbol s.0) ms)) [
          | inr e ↦ rw (f.1, s.1, e) (member_defaults (n + 1) xs)
          | inl e ↦ rw (f.1, s.1, e) (ap (λ ls. guarded ss j s.0 (f.0).when ∷ ls) (member_defaults (n + 1) xs))
        ]
      ]
    ]
