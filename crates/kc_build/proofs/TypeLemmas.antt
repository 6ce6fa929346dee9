-- What is known of the symbols by their rows is what the statements say of all.
use Rattle.std.proofs.{Common.{Bool, List, None, Option, Some, [], add-one, ap, arith, false, filter, inl, inr, length, refl, suc, sym, zero, ℕ, ◌<◌, ◌∙◌, ◌≡◌, ◌≤◌}, lemmas.{Bool.ne_eqb, Option.slice_get_past}}
use Rattle.std.specs.{List.slice_get, Option.{option_and_then, unwrap_or}, Prelude.{option_map, ◌⊎◌}}
use Rattle.kc_language.specs.{Expansion.numbers, Expressions.symbol, Statements.Numbered, Symbols.{choice_of, definitions_of, is_symbol_of, symbol_at, type_of}, declared.expressions.SymId.SymId}
use Rattle.kc_language.specs.declared.expressions.SymbolType.TheVariants as symbol_type
use Rattle.kc_entries.specs.ListFacts.{AreBelow}
use Rattle.kc_entries.proofs.{MemberLemmas.below_or_past, PlaceLemmas.{filter-next, there_in}}
use Rattle.kc_tree.specs.{Places.mode_view, declared.rows.Symbol.Symbol}
use Rattle.kc_build.specs.SymbolRows.{choice_by, type_by}

filter_none : (q : ℕ → Bool) (n : ℕ) → ((i : ℕ) → q i ≡ false) → filter q (numbers n) ≡ []
filter_none q zero h = refl
filter_none q (suc n) h =
    (rw add-one at (filter-next q n)) ∙ (rw (h n, filter_none q n h) refl)

module _ (ss : List Numbered) (count : ℕ) (below : AreBelow count ss) where
  another : (s : SymId) (i : ℕ) (o : Option SymId) → count ≤ s.0 → symbol_at ss i ≡ o → is_symbol_of s o ≡ false
  another s i None h e = refl
  another s i (Some u) h e =
      let b : u.0 < count = below i u e in
      ne_eqb s.0 u.0 (λ q. omega arith)

  not_defined : (s : SymId) → count ≤ s.0 → definitions_of ss s ≡ []
  not_defined s h = filter_none (λ i. is_symbol_of s (symbol_at ss i)) (length ss) (λ i. another s i (symbol_at ss i) h refl)

  without_type_given : (s : SymId) → count ≤ s.0 → type_of ss s ≡ symbol_type.Undefined
  without_type_given s h = rw (not_defined s h) refl

  no_choice : (s : SymId) → count ≤ s.0 → choice_of ss s ≡ None
  no_choice s h = rw (not_defined s h) refl

-- the row of a symbol has its type and its choice
pub record IsTyped (ss : List Numbered) (i : ℕ) (row : Symbol) : Type 0 where
  pub symbol_type : row.symbol_type ≡ type_of ss (symbol i)
  pub choice : mode_view row.choice ≡ choice_of ss (symbol i)

abbrev pub AreTyped : List Numbered → List Symbol → Type 0
AreTyped ss symbols = (i : ℕ) (row : Symbol) → slice_get symbols i ≡ Some row → IsTyped ss i row

module _ (ss : List Numbered) (symbols : List Symbol) (below : AreBelow (length symbols) ss) (are : AreTyped ss symbols) where
  type_at : (s : SymId) → (s.0 < length symbols) ⊎ (length symbols ≤ s.0) → type_by symbols s ≡ type_of ss s
  type_at s (inl h) =
      let row = there_in symbols s.0 h in
      ap (λ (o : Option Symbol). unwrap_or (option_map (λ (f : Symbol). f.symbol_type) o) symbol_type.Undefined) row.1 ∙ (are s.0 row.0 row.1).symbol_type
  type_at s (inr h) =
      ap (λ (o : Option Symbol). unwrap_or (option_map (λ (f : Symbol). f.symbol_type) o) symbol_type.Undefined) (slice_get_past symbols s.0 h)
      ∙ sym (without_type_given ss (length symbols) below s h)

  choice_at : (s : SymId) → (s.0 < length symbols) ⊎ (length symbols ≤ s.0) → choice_by symbols s ≡ choice_of ss s
  choice_at s (inl h) =
      let row = there_in symbols s.0 h in
      ap (option_and_then (λ (f : Symbol). mode_view f.choice)) row.1 ∙ (are s.0 row.0 row.1).choice
  choice_at s (inr h) = ap (option_and_then (λ (f : Symbol). mode_view f.choice)) (slice_get_past symbols s.0 h) ∙ sym (no_choice ss (length symbols) below s h)

  pub types_known : type_by symbols ≡ type_of ss
  types_known = λ i s. type_at s (below_or_past s.0 (length symbols)) i

  pub choices_known : choice_by symbols ≡ choice_of ss
  choices_known = λ i s. choice_at s (below_or_past s.0 (length symbols)) i
