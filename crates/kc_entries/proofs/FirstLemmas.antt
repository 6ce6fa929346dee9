-- Where a definition is the first of its symbol.
use Rattle.std.proofs.{Common.{Bool, List, None, Some, [], add-one, ap, arith, cond, false, if◌then◌else◌, length, nat_lt, not, refl, suc, sym, take, true, zero, ℕ, ◌++◌, ◌+◌, ◌||◌, ◌∙◌, ◌∷◌, ◌≡◌, ◌≤◌}, lemmas.{Bool.Decides.nat_tests, List.{Elements.filter_map-append, Folds.list_any-append}}}
use Rattle.std.specs.{List.{cons_option, list_any, position, position_or_len}, Option.is_none}
use Rattle.kc_language.specs.{Expansion.{defined_name, definitions}, Expressions.{same_symbol, symbol}, Statements.{ConfigLine, Numbered}, Symbols.{is_first_definition, is_symbol_of, symbol_at}, declared.expressions.SymId.SymId}
use Rattle.kc_entries.specs.{ListFacts.defined_before, PartsOfSymbols.symbol_of}
use Rattle.kc_entries.proofs.{EnclosingLemmas.{take-next, there}, PlaceLemmas.filter-next}

lt_suc : (k n : ℕ) → nat_lt (1 + k) (suc n) ≡ nat_lt k n
lt_suc k n = grind (arith, nat_tests)

lt_none : (n : ℕ) → nat_lt 0 (suc n) ≡ true
lt_none n = grind (arith, nat_tests)

module _ {A : Type 0} (p : A → Bool) where
  by_first : (b : Bool) (k n : ℕ) (rest : Bool) → nat_lt k n ≡ rest → nat_lt (cond (not b) (1 + k) 0) (suc n) ≡ (b || rest)
  by_first true k n rest h = lt_none n
  by_first false k n rest h = lt_suc k n ∙ h

  found-any : (xs : List A) → nat_lt (position_or_len p xs) (length xs) ≡ list_any p xs
  found-any [] = refl
  found-any (x ∷ xs) = by_first (p x) (position_or_len p xs) (length xs) (list_any p xs) (found-any xs)

  by_test : (b : Bool) (k : ℕ) → is_none (cond b (Some k) None) ≡ not b
  by_test true k = refl
  by_test false k = refl

  none-any : (xs : List A) → is_none (position p xs) ≡ not (list_any p xs)
  none-any xs = by_test (nat_lt (position_or_len p xs) (length xs)) (position_or_len p xs) ∙ ap not (found-any xs)

abbrev pub some_places : List ℕ → Bool
some_places [] = false
some_places (d ∷ ds) = true

some_append : (ds : List ℕ) (b : Bool) (i : ℕ) → some_places (ds ++ (if b then i ∷ [] else [])) ≡ (some_places ds || b)
some_append [] true i = refl
some_append [] false i = refl
some_append (d ∷ ds) b i = refl

by_name : (s : SymId) (x : Numbered) → list_any (same_symbol s) (cons_option (defined_name x) []) ≡ is_symbol_of s (symbol_of (Some x))
by_name s (ConfigLine t) = or_false (same_symbol s t)
  where
    or_false : (b : Bool) → (b || false) ≡ b
    or_false true = refl
    or_false false = refl
by_name s _ = refl

module _ (ss : List Numbered) where
  any-before : (i : ℕ) (s : ℕ) → i ≤ length ss → list_any (same_symbol (symbol s)) (definitions (take i ss)) ≡ some_places (defined_before ss i s)
  any-before zero s h = refl
  any-before (suc i) s h =
      let x = there ss i (omega arith) in
      let more : definitions (take (suc i) ss) ≡ definitions (take i ss) ++ cons_option (defined_name x.0) [] = ap definitions (take-next ss i x.0 x.1)
      ∙ filter_map-append defined_name (take i ss) (x.0 ∷ []) in
      let here : is_symbol_of (symbol s) (symbol_at ss i) ≡ is_symbol_of (symbol s) (symbol_of (Some x.0)) = ap (λ o. is_symbol_of (symbol s) (symbol_of o)) x.1 in
      let next : defined_before ss (suc i) s ≡ defined_before ss i s ++ (if is_symbol_of (symbol s) (symbol_at ss i) then i ∷ [] else []) =
      (rw add-one at (filter-next (λ j. is_symbol_of (symbol s) (symbol_at ss j)) i)) in
      ap (list_any (same_symbol (symbol s))) more ∙ list_any-append (same_symbol (symbol s)) (definitions (take i ss)) (cons_option (defined_name x.0) [])
      ∙ (rw (any-before i s (omega arith), by_name (symbol s) x.0, ← here)
      (sym (ap some_places next ∙ some_append (defined_before ss i s) (is_symbol_of (symbol s) (symbol_at ss i)) i)))

  pub first-is : (i : ℕ) (s : SymId) → i ≤ length ss → is_first_definition ss i s ≡ not (some_places (defined_before ss i s.0))
  first-is i s h = none-any (same_symbol s) (definitions (take i ss)) ∙ ap not (any-before i s.0 h)
