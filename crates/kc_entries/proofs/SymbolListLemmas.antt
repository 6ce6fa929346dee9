-- The defined symbols of a list of statements.
use Rattle.std.proofs.{Common.{Bool, List, None, Option, Some, [], ap, arith, cond, false, inl, inr, length, refl, subst, suc, sym, true, zero, ℕ, ◌++◌, ◌<◌, ◌||◌, ◌∙◌, ◌∷◌, ◌≡◌, ◌≢◌, ◌⊎◌}, lemmas.{Bool.eq-eqb, List.{Elements.{All-head, filter_passes}, Folds.list_any-append}, Option.slice_get-get_or}}
use Rattle.std.specs.{List.{cons_option, filter_map, flat_map, slice_get}, Option.{is_some, unwrap_or}, Prelude.{All, Contains}}
use Rattle.kc_language.specs.{Expansion.{attributes, defined_name, definitions}, Expressions.same_symbol, Statements.{ConfigLine, Numbered}, Symbols.{all_added, defined_symbols, definitions_of, enclosing_choice, indices, is_symbol_of, prompt_at, stated_type, symbol_at, type_of}, declared.expressions.{SymId.SymId, SymbolType.SymbolType}}
use Rattle.kc_language.specs.declared.expressions.SymbolType.TheVariants as symbol_type
use Rattle.kc_expr.specs.PartsOfSymbols.{added, stands_in}
use Rattle.kc_entries.specs.PartsOfSymbols.{first_of, symbol_of}
use Rattle.kc_entries.proofs.ElementLemmas.{found_is, get_snoc, same_is}

-- A symbol stands in a list.
same-refl : (s : SymId) → same_symbol s s ≡ true
same-refl s = eq-eqb s.0 s.0 refl

stands_at : (ids : List SymId) (i : ℕ) (s : SymId) → slice_get ids i ≡ Some s → stands_in ids s ≡ true
stands_at [] i s h = absurd cc
stands_at (x ∷ ids) zero s h =
    let same : x ≡ s = cc in
    ap (λ (y : SymId). same_symbol s y || stands_in ids s) same ∙ ap (λ (b : Bool). b || stands_in ids s) (same-refl s)
stands_at (x ∷ ids) (suc i) s h = ap (λ (b : Bool). same_symbol s x || b) (stands_at ids i s h) ∙ or_true (same_symbol s x)
  where
    or_true : (b : Bool) → (b || true) ≡ true
    or_true true = refl
    or_true false = refl

-- Each is added once.
once-push : (ids : List SymId) (id : SymId) → stands_in ids id ≡ false → ((i j : ℕ) (s : SymId) → slice_get ids i ≡ Some s → slice_get ids j ≡ Some s → i ≡ j) →
    (i j : ℕ) (s : SymId) → slice_get (ids ++ id ∷ []) i ≡ Some s → slice_get (ids ++ id ∷ []) j ≡ Some s → i ≡ j
once-push ids id new once i j s e f = by (get_snoc ids id s i e) (get_snoc ids id s j f)
  where
    never : (k : ℕ) → slice_get ids k ≡ Some s → id ≡ s → ⊥
    never k h same =
        let yes : stands_in ids id ≡ true = ap (stands_in ids) same ∙ stands_at ids k s h in
        (let no : true ≡ false = sym yes ∙ new in cc)

    by : (slice_get ids i ≡ Some s) ⊎ ((i ≡ length ids) × (id ≡ s)) → (slice_get ids j ≡ Some s) ⊎ ((j ≡ length ids) × (id ≡ s)) → i ≡ j
    by (inl x) (inl y) = once i j s x y
    by (inl x) (inr y) = absurd (never i x y.1)
    by (inr x) (inl y) = absurd (never j y x.1)
    by (inr x) (inr y) = x.0 ∙ sym y.0

added-once : (ids : List SymId) (id : SymId) → ((i j : ℕ) (s : SymId) → slice_get ids i ≡ Some s → slice_get ids j ≡ Some s → i ≡ j) →
    (i j : ℕ) (s : SymId) → slice_get (added ids id) i ≡ Some s → slice_get (added ids id) j ≡ Some s → i ≡ j
added-once ids id once = by (stands_in ids id) refl
  where
    by : (b : Bool) → stands_in ids id ≡ b → (i j : ℕ) (s : SymId) → slice_get (cond b ids (ids ++ id ∷ [])) i ≡ Some s → slice_get (cond b ids (ids ++ id ∷ [])) j ≡ Some s → i ≡ j
    by true e = once
    by false e = once-push ids id e once

all_added-once : (ids ss : List SymId) → ((i j : ℕ) (s : SymId) → slice_get ids i ≡ Some s → slice_get ids j ≡ Some s → i ≡ j) →
    (i j : ℕ) (s : SymId) → slice_get (all_added ids ss) i ≡ Some s → slice_get (all_added ids ss) j ≡ Some s → i ≡ j
all_added-once ids [] once = once
all_added-once ids (x ∷ ss) once = all_added-once (added ids x) ss (added-once ids x once)

pub defined-once : (ss : List Numbered) (i j : ℕ) (s : SymId) → slice_get (defined_symbols ss) i ≡ Some s → slice_get (defined_symbols ss) j ≡ Some s → i ≡ j
defined-once ss = all_added-once [] (definitions ss) (λ i j s e f. absurd cc)

-- What stands in the list that was added to, or is added, stands in the new one, and nothing else.
or_swap : (a b c : Bool) → ((a || (b || false)) || c) ≡ (a || (b || c))
or_swap true b c = refl
or_swap false true c = refl
or_swap false false c = refl

or_twice : (a b c : Bool) → (b ≡ true → a ≡ true) → (a || c) ≡ (a || (b || c))
or_twice true b c h = refl
or_twice false true c h = absurd (let e = h refl in cc)
or_twice false false c h = refl

added-stands : (ids : List SymId) (id s : SymId) (c : Bool) → (stands_in (added ids id) s || c) ≡ (stands_in ids s || (same_symbol s id || c))
added-stands ids id s c = by (stands_in ids id) refl
  where
    by : (b : Bool) → stands_in ids id ≡ b → (stands_in (cond b ids (ids ++ id ∷ [])) s || c) ≡ (stands_in ids s || (same_symbol s id || c))
    by true e = or_twice (stands_in ids s) (same_symbol s id) c (λ h. ap (stands_in ids) (sym (same_is s id h)) ∙ e)
    by false e = ap (λ (b : Bool). b || c) (list_any-append (same_symbol s) ids (id ∷ [])) ∙ or_swap (stands_in ids s) (same_symbol s id) c

all_added-stands : (ids ss : List SymId) (s : SymId) → stands_in (all_added ids ss) s ≡ (stands_in ids s || stands_in ss s)
all_added-stands ids [] s = sym (or_none (stands_in ids s))
  where
    or_none : (b : Bool) → (b || false) ≡ b
    or_none true = refl
    or_none false = refl
all_added-stands ids (x ∷ ss) s = all_added-stands (added ids x) ss s ∙ added-stands ids x s (stands_in ss s)

-- The defined symbols are those of the `config` lines.
first_listed : (o : Option SymId) (ids : List SymId) (s : SymId) → o ≡ Some s → stands_in (cons_option o ids) s ≡ true
first_listed None ids s e = absurd cc
first_listed (Some x) ids s e = let same : x ≡ s = cc in ap (λ (y : SymId). same_symbol s y || stands_in ids s) same ∙ ap (λ (b : Bool). b || stands_in ids s) (same-refl s)

later_listed : (o : Option SymId) (ids : List SymId) (s : SymId) → stands_in ids s ≡ true → stands_in (cons_option o ids) s ≡ true
later_listed None ids s h = h
later_listed (Some x) ids s h = ap (λ (b : Bool). same_symbol s x || b) h ∙ or_true (same_symbol s x)
  where
    or_true : (b : Bool) → (b || true) ≡ true
    or_true true = refl
    or_true false = refl

config_defines : (x : Numbered) (s : SymId) → symbol_of (Some x) ≡ Some s → defined_name x ≡ Some s
config_defines (ConfigLine t) s h = h
config_defines _ s h = absurd cc

line_stands : (ss : List Numbered) (i : ℕ) (s : SymId) → symbol_of (slice_get ss i) ≡ Some s → stands_in (definitions ss) s ≡ true
line_stands [] i s h = absurd cc
line_stands (x ∷ ss) zero s h = first_listed (defined_name x) (definitions ss) s (config_defines x s h)
line_stands (x ∷ ss) (suc i) s h = later_listed (defined_name x) (definitions ss) s (line_stands ss i s h)

pub line_defined : (ss : List Numbered) (i : ℕ) (s : SymId) → symbol_at ss i ≡ Some s → Contains (defined_symbols ss) s
line_defined ss i s h = found_is s (defined_symbols ss) (all_added-stands [] (definitions ss) s ∙ line_stands ss i s h)

pub record IsLineOf (ss : List Numbered) (s : SymId) : Type 0 where
  pub place : ℕ
  pub at : symbol_at ss place ≡ Some s

defines_config : (x : Numbered) (s : SymId) → defined_name x ≡ Some s → symbol_of (Some x) ≡ Some s
defines_config (ConfigLine t) s h = h
defines_config _ s h = absurd cc

line_by : (x : Numbered) (ss : List Numbered) (s : SymId) (o : Option SymId) → defined_name x ≡ o → stands_in (cons_option o (definitions ss)) s ≡ true →
    (stands_in (definitions ss) s ≡ true → IsLineOf ss s) → IsLineOf (x ∷ ss) s
line_by x ss s None e h rest = let r = rest h in record { place = suc r.place; at = r.at }
line_by x ss s (Some t) e h rest = by (same_symbol s t) refl h
  where
    by : (b : Bool) → same_symbol s t ≡ b → (b || stands_in (definitions ss) s) ≡ true → IsLineOf (x ∷ ss) s
    by true f g = record { place = 0; at = defines_config x t e ∙ ap Some (same_is s t f) }
    by false f g = let r = rest g in record { place = suc r.place; at = r.at }

line_of : (ss : List Numbered) (s : SymId) → stands_in (definitions ss) s ≡ true → IsLineOf ss s
line_of [] s h = absurd cc
line_of (x ∷ ss) s h = line_by x ss s (defined_name x) refl h (line_of ss s)

stands_within : (ids : List SymId) (s : SymId) → Contains ids s → stands_in ids s ≡ true
stands_within ids s (i, below, is) = stands_at ids i s (slice_get-get_or ids i s below ∙ ap Some is)

pub defined_line : (ss : List Numbered) (s : SymId) → Contains (defined_symbols ss) s → IsLineOf ss s
defined_line ss s c = line_of ss s (sym (all_added-stands [] (definitions ss) s) ∙ stands_within (defined_symbols ss) s c)

-- A symbol without a `config` line has no type and no prompt.
config_symbol : (o : Option SymId) (s : SymId) → is_symbol_of s o ≡ true → o ≡ Some s
config_symbol None s h = absurd cc
config_symbol (Some t) s h = ap Some (same_is s t h)

module _ (ss : List Numbered) (s : SymId) where
  -- its type, where it is defined at these places
  abbrev type_by : List ℕ → SymbolType
  type_by places =
      unwrap_or (first_of (filter_map stated_type (flat_map (attributes ss) places)))
      (cond (is_some (first_of (filter_map (enclosing_choice ss) places))) symbol_type.Bool symbol_type.Undefined)

  placed : (p : ℕ) (places : List ℕ) → definitions_of ss s ≡ p ∷ places → Contains (defined_symbols ss) s
  placed p places e =
      let all = subst (λ (ps : List ℕ). All (λ (i : ℕ). is_symbol_of s (symbol_at ss i) ≡ true) ps) e (filter_passes (λ (i : ℕ). is_symbol_of s (symbol_at ss i)) (indices ss)) in
      line_defined ss p s (config_symbol (symbol_at ss p) s (All-head (λ (i : ℕ). is_symbol_of s (symbol_at ss i) ≡ true) p places all))

  typed_by : (places : List ℕ) → definitions_of ss s ≡ places → type_by places ≢ symbol_type.Undefined → Contains (defined_symbols ss) s
  typed_by [] e h = absurd (h refl)
  typed_by (p ∷ places) e h = placed p places e

  pub typed_is_defined : type_of ss s ≢ symbol_type.Undefined → Contains (defined_symbols ss) s
  typed_is_defined h = typed_by (definitions_of ss s) refl h

  prompted_by : (places : List ℕ) → definitions_of ss s ≡ places → 0 < length (filter_map (prompt_at ss) places) → Contains (defined_symbols ss) s
  prompted_by [] e h = absurd (let n : 0 < 0 = h in omega (arith, n))
  prompted_by (p ∷ places) e h = placed p places e

  pub prompted_is_defined : 0 < length (filter_map (prompt_at ss) (definitions_of ss s)) → Contains (defined_symbols ss) s
  prompted_is_defined h = prompted_by (definitions_of ss s) refl h
