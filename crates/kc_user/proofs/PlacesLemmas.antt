-- The places of a tree: empty, and with one place filled.
use Rattle.std.proofs.{Common.{Bool, List, None, Option, Some, ap, arith, false, get_or-set_other, get_or-set_same, inl, inr, length, refl, replicate, sym, true, ℕ, ◌&&◌, ◌+◌, ◌∙◌, ◌≡◌, ◌≤◌}, lemmas.{Bool.{cases_eq, cases_lt, false≢true, leb-true}, List.{get_or-replicate, get_or_past, length-replicate, length-set}}}
use Rattle.std.specs.{List.Contains, Prelude.{slice_get, slice_index_or, slice_set}}
use Rattle.kc_language.specs.{Expressions.symbol, Symbols.SymbolFacts, Text.escape, Values.GivenText, declared.expressions.SymbolType.SymbolType}
use Rattle.kc_language.specs.declared.expressions.SymbolType.TheVariants as symbol_type
use Rattle.kc_user.proofs.UserLemmas.{length-escape}
use Rattle.kc_user.specs.{Laws.{EmptyArePlaces, SelectingKeepsPlaces, SettingKeepsPlaces, TextsAreShort}, Places.{allowed, allowed_for, allowed_text, fits_quoted, is_short, members_of}}

none_replicated : {X : Type 0} (n i : ℕ) (x : X) → slice_index_or (replicate n None) i None ≡ Some x → ⊥
none_replicated {X} n i x e =
    elim (cases_lt i n) [
      | inl l ↦ let z = sym (get_or-replicate n i None None l) ∙ e in cc
      | inr l ↦ let z = sym (get_or_past (replicate n None) i None (omega (arith, length-replicate {A = Option X} n None))) ∙ e in cc
    ]

-- what stands in a place after one is filled is what was put there, or what stood before
after_set : {X : Type 0} (xs : List (Option X)) (i j : ℕ) (x y : X) (P : ℕ → X → Type 0) → ((k : ℕ) (z : X) → slice_index_or xs k None ≡ Some z → P k z) →
    P i x → slice_index_or (slice_set xs i (Some x)) j None ≡ Some y → P j y
after_set {X} xs i j x y P old new e =
    elim (cases_eq j i) [
      | inl at ↦
          elim (cases_lt i (length xs)) [
            | inl l ↦
                let same : Some x ≡ Some y = sym (get_or-set_same xs i (Some x) None l) ∙ ap (λ n. slice_index_or (slice_set xs i (Some x)) n None) (sym at) ∙ e in
                let is : x ≡ y = cc in
                rw (at, ← is) new
            | inr l ↦
                let z : None ≡ Some y = sym (get_or_past (slice_set xs i (Some x)) j None (omega (arith, length-set {A = Option X} xs i (Some x)))) ∙ e in
                cc
          ]
      | inr other ↦ old j y (sym (get_or-set_other xs i j (Some x) None other) ∙ e)
    ]

pub empty_are : EmptyArePlaces
empty_are tree = record {
  there = record { symbols = length-replicate (length tree.symbols) None; choices = length-replicate (length tree.choices) None };
  allowed_all = λ i g e. absurd (none_replicated (length tree.symbols) i g e);
  members = λ c m e. absurd (none_replicated (length tree.choices) c m e);
}

pub setting_keeps : SettingKeepsPlaces
setting_keeps tree places s g old ok = record {
  there = record { symbols = length-set places.symbols s.0 (Some g) ∙ old.there.symbols; choices = old.there.choices };
  allowed_all = λ j h e. after_set places.symbols s.0 j g h (λ k z. allowed tree (symbol k) z ≡ true) old.allowed_all ok e;
  members = old.members;
}

pub selecting_keeps : SelectingKeepsPlaces
selecting_keeps tree places c m old ok = record {
  there = record { symbols = old.there.symbols; choices = length-set places.choices c (Some m) ∙ old.there.choices };
  allowed_all = old.allowed_all;
  members = λ d n e. after_set places.choices c d m n (λ k z. Contains (members_of (slice_get tree.choices k)) z) old.members ok e;
}

-- the first of two tests that both hold
first_holds : (a b : Bool) → (a && b) ≡ true → a ≡ true
first_holds true b e = refl
first_holds false b e = e

short_quoted : (text : List ℕ) → fits_quoted text ≡ true → length text ≤ 65000
short_quoted text e =
    let within = leb-true (length (escape text) + 2) 65000 (first_holds _ _ e) in
    omega (arith, within, length-escape text)

short_number : (text : List ℕ) (b : Bool) → (is_short text && b) ≡ true → length text ≤ 65000
short_number text b e = leb-true (length text) 65000 (first_holds _ _ e)

short_by_type : (k : SymbolType) (text : List ℕ) → allowed_text k text ≡ true → length text ≤ 65000
short_by_type symbol_type.Undefined text e = absurd (false≢true e)
short_by_type symbol_type.Bool text e = absurd (false≢true e)
short_by_type symbol_type.Tristate text e = absurd (false≢true e)
short_by_type symbol_type.Str text e = short_quoted text e
short_by_type symbol_type.Int text e = short_number text _ e
short_by_type symbol_type.Hex text e = short_number text _ e

short_by_facts : (facts : Option SymbolFacts) (text : List ℕ) → allowed_for facts (GivenText text) ≡ true → length text ≤ 65000
short_by_facts None text e = absurd (false≢true e)
short_by_facts (Some f) text e = short_by_type f.symbol_type text e

pub texts_short : TextsAreShort
texts_short tree places i text are e = short_by_facts (slice_get tree.symbols i) text (are.allowed_all i (GivenText text) e)
