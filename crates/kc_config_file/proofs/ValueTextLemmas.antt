-- The texts of the values fit a line.
use Rattle.std.proofs.{Common.{Bool, List, None, Option, Some, [], ap, arith, codes, cond, eqb, false, get_or, inl, inr, length, negsuc, not, pos, refl, suc, sym, true, unwrap_or, zero, ℕ, ℤ, ◌%◌, ◌*◌, ◌++◌, ◌+◌, ◌/◌, ◌<◌, ◌∙◌, ◌∷◌, ◌≡◌, ◌≤◌}, lemmas.{Bool.{and_from, and_parts, cases_lt, false_from_ne_true, le-leb, le-ltb, leb-true, lt-ltb, ne_eqb, not-true, or_parts, true≢false}, List.{Elements.{All-cons, All-nil}, Folds.{list_any_at, list_any_none}, FromFn.length-map-range_with_len, get_or_past}, Option.slice_get-get_or}}
use Rattle.std.specs.{Fmt.{digit_glyph, digits, digits_onto, signed_decimal}, List.{Contains, list_any}, Prelude.{All, int_lt, is_some, nat_le, unsigned_abs, ◌&&◌, ◌==◌, ◌||◌}}
use Rattle.kc_language.specs.{Expressions.{Every, Form, LoneM, Negated, Related, Single, Some_of, Symbol, SymbolValue, Text, TextValue, Truth, symbol, tri_text}, Lines.is_line_feed, Needs.{IsAccepted, needs, needs_in, needs_of, unordered_after}, Symbols.{Guarded, SymbolFacts, TreeFacts}, Text.{escape, hex_of, int_of}, Texts.HasPlainNumbers, Values.{GivenText, GivenTruth, GivenValue, Member, Solves, SymbolPlace, UserPlace, clamped, equations, facts, if_within_range, is_n, is_within_range, known_from, name, name_count, number_or_zero, number_text, user_place, written}, declared.{expressions.{SymId.SymId, SymbolType.SymbolType, Tri.{TheVariants.{M, N, Y}, Tri}}, values.Interval.Interval}}
use Rattle.kc_language.specs.declared.expressions.SymbolType.TheVariants as symbol_type
use Rattle.kc_expr.specs.PartsOfExpressions.{text_of_value}
use Rattle.kc_values.specs.{Laws.{EquationsReadNeeds, NeedsAreSymbols}, PartsOfValues.{by_choice, is_mentioned}}
use Rattle.kc_entries.specs.WellFormed.{HasLineTexts, IsLineForm, IsLineText}
use Rattle.kc_user.specs.Places.{AllowedPlaces, allowed_by, allowed_for, allowed_text}
use Rattle.kc_values.specs.PartsOfValues as sol
use Rattle.kc_language.specs.Values as v
use Rattle.kc_values.proofs.Selection.{found}
use Rattle.kc_config_file.specs.PartsOfTexts.{IsPlainNumber}
use Rattle.kc_input.proofs.{EscapeLemmas.escape_longer, LineLemmas.{HasNoLf, no_line_feed}, SymbolLineLemmas.FitsLine, TextBytes.{byte_not, hex_bytes, int_bytes, number_byte}}

-- The test: no line feed, and at most 65,000 bytes once escaped.
abbrev pub fits_text : List ℕ → Bool
fits_text t = nat_le (length (escape t)) 65000 && not (list_any is_line_feed t)

abbrev pub fits_known : SymbolValue → Bool
fits_known (Truth t) = true
fits_known (TextValue k t) = fits_text t

fits_from : (t : List ℕ) → length (escape t) ≤ 65000 → HasNoLf t → fits_text t ≡ true
fits_from t short none = and_from (nat_le (length (escape t)) 65000) (not (list_any is_line_feed t)) (le-leb (length (escape t)) 65000 short) (ap not (list_any_none is_line_feed t none))

pub fits_parts : (t : List ℕ) → fits_text t ≡ true → HasNoLf t × (length (escape t) ≤ 65000)
fits_parts t e =
    let (short, none) = and_parts (nat_le (length (escape t)) 65000) (not (list_any is_line_feed t)) e in
    (no_line_feed t (not-true _ none), leb-true (length (escape t)) 65000 short)

-- Bytes that need no `\` and end no line.
is_simple : ℕ → Bool
is_simple b = not (b == 10 || (b == 34 || b == 92))

escape_head : (b : ℕ) (t : List ℕ) (special : Bool) → length (cond special (92 ∷ b ∷ []) (b ∷ []) ++ escape t) ≤ 2 + length (escape t)
escape_head b t true = omega arith
escape_head b t false = omega arith

pub escape_double : (t : List ℕ) → length (escape t) ≤ 2 * length t
escape_double [] = omega arith
escape_double (b ∷ t) =
    let h = escape_head b t (eqb b 34 || eqb b 92) in
    let r = escape_double t in
    omega (arith, h, r)

simple_parts : (b : ℕ) → is_simple b ≡ true → (eqb b 10 ≡ false) × (eqb b 34 ≡ false) × (eqb b 92 ≡ false)
unfolding is_simple
simple_parts b e =
    let (lf, special) = or_parts (b == 10) (b == 34 || b == 92) (not-true _ e) in
    let (quote, slash) = or_parts (b == 34) (b == 92) special in
    (lf, quote, slash)

simple_from : (b : ℕ) → eqb b 10 ≡ false → eqb b 34 ≡ false → eqb b 92 ≡ false → is_simple b ≡ true
unfolding is_simple
simple_from b lf quote slash = rw (lf, quote, slash) refl

escape_simple : (t : List ℕ) → All (λ b. is_simple b ≡ true) t → length (escape t) ≤ length t
escape_simple [] all = omega arith
escape_simple (b ∷ t) all =
    let (lf, quote, slash) = simple_parts b (all 0 b (omega arith)) in
    let r = escape_simple t (λ k d lt. all (suc k) d (omega arith)) in
    let e : length (escape (b ∷ t)) ≡ 1 + length (escape t) = rw (quote, slash) (omega arith) in
    omega (arith, r, e)

simple_fits : (t : List ℕ) → All (λ b. is_simple b ≡ true) t → length t ≤ 65000 → fits_text t ≡ true
simple_fits t all short =
    let r = escape_simple t all in
    fits_from t (omega arith) (λ k d lt. (simple_parts (get_or t k d) (all k d lt)).0)

number_simple : (t : List ℕ) → All (λ b. number_byte b ≡ true) t → All (λ b. is_simple b ≡ true) t
number_simple t all = λ k d lt. let is = all k d lt in simple_from (get_or t k d) (byte_not number_byte (get_or t k d) 10 refl is)
    (byte_not number_byte (get_or t k d) 34 refl is) (byte_not number_byte (get_or t k d) 92 refl is)

line_fits : (t : List ℕ) → IsLineText t → fits_text t ≡ true
line_fits t line =
    let d = escape_double t in
    let w = line.within in
    fits_from t (omega arith) line.one_line

-- Numbers that are written.
glyph_simple : (d : ℕ) → is_simple (digit_glyph false d) ≡ true
glyph_simple d = elim (cases_lt d 10) [
  | inl lt ↦ rw (lt-ltb d 10 lt) (simple_from (48 + d) (ne_eqb (48 + d) 10 (λ e. absurd (omega arith))) (ne_eqb (48 + d) 34 (λ e. absurd (omega arith)))
      (ne_eqb (48 + d) 92 (λ e. absurd (omega arith))))
  | inr le ↦ rw (le-ltb d 10 le) (simple_from (87 + d) (ne_eqb (87 + d) 10 (λ e. absurd (omega arith))) (ne_eqb (87 + d) 34 (λ e. absurd (omega arith)))
      (ne_eqb (87 + d) 92 (λ e. absurd (omega arith))))
]

abbrev Simple : ℕ → List ℕ → Type 0
Simple n t = All (λ b. is_simple b ≡ true) t × (length t ≤ n)

digits_simple : (k base n m : ℕ) (acc : List ℕ) → Simple m acc → Simple (k + m) (digits_onto k base false n acc)
digits_simple zero base n m acc (all, short) = (all, omega arith)
digits_simple (suc k) base n m acc (all, short) = by (n / base == 0) (digits_simple k base (n / base) (m + 1) (digit_glyph false (n % base) ∷ acc) (more, omega arith))
  where
    more : All (λ b. is_simple b ≡ true) (digit_glyph false (n % base) ∷ acc)
    more = All-cons (λ b. is_simple b ≡ true) (digit_glyph false (n % base)) acc (glyph_simple (n % base)) all

    by : (c : Bool) → Simple (k + (m + 1)) (digits_onto k base false (n / base) (digit_glyph false (n % base) ∷ acc)) →
        Simple (suc k + m) (cond c (digit_glyph false (n % base) ∷ acc) (digits_onto k base false (n / base) (digit_glyph false (n % base) ∷ acc)))
    by true (a, s) = (more, omega arith)
    by false (a, s) = (a, omega arith)

written_digits : (base n : ℕ) → Simple 64 (digits base false n)
unfolding digits
written_digits base n = let (all, short) = digits_simple 64 base n 0 [] (All-nil (λ b. is_simple b ≡ true), omega arith) in (all, omega arith)

simple_cons : (b : ℕ) (t : List ℕ) → is_simple b ≡ true → Simple 64 t → fits_text (b ∷ t) ≡ true
simple_cons b t e (all, short) = simple_fits (b ∷ t) (All-cons (λ x. is_simple x ≡ true) b t e all) (omega arith)

decimal_fits : (n : ℤ) → fits_text (signed_decimal n) ≡ true
decimal_fits (pos n) = let (all, short) = written_digits 10 n in simple_fits (digits 10 false n) all (omega arith)
decimal_fits (negsuc n) = simple_cons 45 (digits 10 false (suc n)) (simple_from 45 refl refl refl) (written_digits 10 (suc n))

hexadecimal_fits : (n : ℕ) → fits_text (codes "0x" ++ digits 16 false n) ≡ true
hexadecimal_fits n =
    let (all, short) = written_digits 16 n in
    simple_fits (48 ∷ 120 ∷ digits 16 false n) (All-cons (λ x. is_simple x ≡ true) 48 (120 ∷ digits 16 false n) (simple_from 48 refl refl refl)
    (All-cons (λ x. is_simple x ≡ true) 120 (digits 16 false n) (simple_from 120 refl refl refl) all)) (omega arith)

number_fits : (k : SymbolType) (n : ℤ) → fits_text (number_text k n) ≡ true
number_fits symbol_type.Undefined n = decimal_fits n
number_fits symbol_type.Bool n = decimal_fits n
number_fits symbol_type.Tristate n = decimal_fits n
number_fits symbol_type.Str n = decimal_fits n
number_fits symbol_type.Int n = decimal_fits n
number_fits symbol_type.Hex n = hexadecimal_fits (unsigned_abs n)

fits_either : (b : Bool) (s t : List ℕ) → fits_text s ≡ true → fits_text t ≡ true → fits_text (cond b s t) ≡ true
fits_either true s t a b = a
fits_either false s t a b = b

clamped_fits : (k : SymbolType) (range : Option Interval) (t : List ℕ) → fits_text t ≡ true → fits_text (clamped k range t) ≡ true
clamped_fits k None t e = e
clamped_fits k (Some r) t e =
    fits_either (int_lt (number_or_zero k t) r.low) (number_text k r.low) (cond (int_lt r.high (number_or_zero k t)) (number_text k r.high) t) (number_fits k r.low)
    (fits_either (int_lt r.high (number_or_zero k t)) (number_text k r.high) t (number_fits k r.high) e)

-- A user's text that is allowed.
allowed_fits_text : (k : SymbolType) (t : List ℕ) → allowed_text k t ≡ true → fits_text t ≡ true
allowed_fits_text symbol_type.Undefined t ok = absurd (true≢false (sym ok))
allowed_fits_text symbol_type.Bool t ok = absurd (true≢false (sym ok))
allowed_fits_text symbol_type.Tristate t ok = absurd (true≢false (sym ok))
allowed_fits_text symbol_type.Str t ok =
    let (short, none) = and_parts (nat_le (length (escape t) + 2) 65000) (not (list_any is_line_feed t)) ok in
    let s = leb-true (length (escape t) + 2) 65000 short in
    fits_from t (omega arith) (no_line_feed t (not-true _ none))
allowed_fits_text symbol_type.Int t ok =
    let (short, number) = and_parts (nat_le (length t) 65000) (is_some (int_of t)) ok in
    simple_fits t (number_simple t (int_bytes t number)) (leb-true (length t) 65000 short)
allowed_fits_text symbol_type.Hex t ok =
    let (short, number) = and_parts (nat_le (length t) 65000) (is_some (hex_of t)) ok in
    simple_fits t (number_simple t (hex_bytes t number)) (leb-true (length t) 65000 short)

tri_fits : (t : Tri) → fits_text (tri_text t) ≡ true
tri_fits N = refl
tri_fits M = refl
tri_fits Y = refl

known_text_fits : (k : SymbolValue) → fits_known k ≡ true → fits_text (text_of_value k) ≡ true
known_text_fits (Truth t) e = tri_fits t
known_text_fits (TextValue k t) e = e

-- where the user's text is allowed and the default's fits
visible_text_fits : (k : SymbolType) (u : Option GivenValue) (vis : Tri) (d : List ℕ) → ((t : List ℕ) → u ≡ Some (GivenText t) → allowed_text k t ≡ true) →
    fits_text d ≡ true → fits_text (unwrap_or (v.visible_text u vis) d) ≡ true
visible_text_fits k None vis d given e = e
visible_text_fits k (Some (GivenTruth t)) vis d given e = e
visible_text_fits k (Some (Member m)) vis d given e = e
visible_text_fits k (Some (GivenText t)) N d given e = e
visible_text_fits k (Some (GivenText t)) M d given e = allowed_fits_text k t (given t refl)
visible_text_fits k (Some (GivenText t)) Y d given e = allowed_fits_text k t (given t refl)

inside_fits : (b : Bool) (t d : List ℕ) → fits_text t ≡ true → fits_text d ≡ true → fits_text (unwrap_or (cond b (Some t) None) d) ≡ true
inside_fits true t d a e = a
inside_fits false t d a e = e

ranged_fits : (k : SymbolType) (range : Option Interval) (u : Option GivenValue) (vis : Tri) (d : List ℕ) →
    ((t : List ℕ) → u ≡ Some (GivenText t) → allowed_text k t ≡ true) → fits_text d ≡ true →
    fits_text (unwrap_or (if_within_range k range (v.visible_text u vis)) d) ≡ true
ranged_fits k range None vis d given e = e
ranged_fits k range (Some (GivenTruth t)) vis d given e = e
ranged_fits k range (Some (Member m)) vis d given e = e
ranged_fits k range (Some (GivenText t)) N d given e = e
ranged_fits k range (Some (GivenText t)) M d given e = inside_fits (is_within_range k range t) t d (allowed_fits_text k t (given t refl)) e
ranged_fits k range (Some (GivenText t)) Y d given e = inside_fits (is_within_range k range t) t d (allowed_fits_text k t (given t refl)) e

-- Under what is known, where it fits.
module _ (tree : TreeFacts) (known : SymId → SymbolValue) (all : (s : SymId) → fits_known (known s) ≡ true) where
  single_fits : (form : Form) → IsLineForm form → fits_text (v.single_text known form) ≡ true
  single_fits (Single (Text bytes)) line = line_fits bytes line
  single_fits (Single (Symbol s)) line = known_text_fits (known s) (all s)
  single_fits (Related op a b) line = refl
  single_fits (Negated f) line = refl
  single_fits LoneM line = refl
  single_fits (Every fs) line = refl
  single_fits (Some_of fs) line = refl

  default_fits : (o : Option (Guarded Form)) → ((g : Guarded Form) → o ≡ Some g → IsLineForm g.what) → fits_text (v.default_text known o) ≡ true
  default_fits None lines = refl
  default_fits (Some g) lines = single_fits g.what (lines g refl)

  met_fits : (f : SymbolFacts) → ((g : Guarded Form) → Contains f.defaults g → IsLineForm g.what) → fits_text (v.default_text known (v.first_met tree known f.defaults)) ≡ true
  met_fits f lines =
      default_fits (v.first_met tree known f.defaults)
      (λ g e. lines g (found (λ (h : Guarded Form). not (is_n (v.condition tree known h.when))) f.defaults g e).1)

  type_fits : (s : SymId) (f : SymbolFacts) (kd : SymbolType) (u : Option GivenValue) → kd ≡ f.symbol_type → fits_text (name tree s) ≡ true →
      ((g : Guarded Form) → Contains f.defaults g → IsLineForm g.what) → ((g : GivenValue) → u ≡ Some g → allowed_by f.symbol_type g ≡ true) →
      fits_known (v.by_type tree known s f kd u) ≡ true
  type_fits s f symbol_type.Undefined u is named lines given = named
  type_fits s f symbol_type.Bool u is named lines given = refl
  type_fits s f symbol_type.Tristate u is named lines given = refl
  type_fits s f symbol_type.Str u is named lines given = visible_text_fits f.symbol_type u (v.visibility tree known f)
      (v.default_text known (v.first_met tree known f.defaults)) (λ t e. given (GivenText t) e) (met_fits f lines)
  type_fits s f symbol_type.Int u is named lines given =
      let d = clamped_fits f.symbol_type (v.active_range tree known f) (v.default_text known (v.first_met tree known f.defaults)) (met_fits f lines) in
      ranged_fits f.symbol_type (v.active_range tree known f) u (v.visibility tree known f)
      (clamped f.symbol_type (v.active_range tree known f) (v.default_text known (v.first_met tree known f.defaults))) (λ t e. given (GivenText t) e) d
  type_fits s f symbol_type.Hex u is named lines given =
      let d = clamped_fits f.symbol_type (v.active_range tree known f) (v.default_text known (v.first_met tree known f.defaults)) (met_fits f lines) in
      ranged_fits f.symbol_type (v.active_range tree known f) u (v.visibility tree known f)
      (clamped f.symbol_type (v.active_range tree known f) (v.default_text known (v.first_met tree known f.defaults))) (λ t e. given (GivenText t) e) d

  choice_fits : (s : SymId) (f : SymbolFacts) (choice : Option ℕ) (u : Option GivenValue) → fits_text (name tree s) ≡ true →
      ((g : Guarded Form) → Contains f.defaults g → IsLineForm g.what) → ((g : GivenValue) → choice ≡ None → u ≡ Some g → allowed_by f.symbol_type g ≡ true) →
      fits_known (by_choice tree known s f choice u) ≡ true
  choice_fits s f None u named lines given = type_fits s f f.symbol_type u refl named lines (λ g e. given g refl e)
  choice_fits s f (Some c) u named lines given = refl

  facts_fits : (s : SymId) (o : Option SymbolFacts) (u : Option GivenValue) → fits_text (name tree s) ≡ true →
      ((f : SymbolFacts) → o ≡ Some f → (g : Guarded Form) → Contains f.defaults g → IsLineForm g.what) →
      ((g : GivenValue) → sol.user_place_of s.0 o ≡ SymbolPlace s.0 → u ≡ Some g → allowed_for o g ≡ true) → fits_known (v.equation tree known s o u) ≡ true
  facts_fits s None u named lines given = named
  facts_fits s (Some f) u named lines given = choice_fits s f f.choice u named (lines f refl) (λ g none e. given g (ap (sol.user_place_by s.0) none) e)

name_fits : (tree : TreeFacts) (s : SymId) → HasLineTexts tree → fits_text (name tree s) ≡ true
name_fits tree s texts = elim (cases_lt s.0 (length tree.names)) [
  | inl lt ↦ line_fits (name tree s) (texts.names s.0 (name tree s) (slice_get-get_or tree.names s.0 [] lt))
  | inr le ↦ ap fits_text (get_or_past tree.names s.0 [] le)
]

fails_each : (p : ℕ → Bool) (xs : List ℕ) (x : ℕ) → list_any p xs ≡ false → Contains xs x → p x ≡ false
fails_each p xs x e (n, lt, is) = false_from_ne_true _ (λ t. true≢false (sym (list_any_at p xs n x lt (ap p is ∙ t)) ∙ e))

-- The values of an accepted tree, one round of needs after another.
module _ (tree : TreeFacts) (user : UserPlace → Option GivenValue) (V : ℕ → SymbolValue) (texts : HasLineTexts tree) (allowed_at : AllowedPlaces tree user)
    (reads : EquationsReadNeeds) (within : NeedsAreSymbols) (solves : Solves (name_count tree) (equations tree user) V) where
  -- the values that fit, and n in place of the others
  tamed : ℕ → SymbolValue
  tamed i = cond (fits_known (V i)) (V i) (Truth N)

  tamed_fits : (i : ℕ) → fits_known (tamed i) ≡ true
  unfolding tamed
  tamed_fits i = by (fits_known (V i)) refl
    where
      by : (b : Bool) → fits_known (V i) ≡ b → fits_known (cond b (V i) (Truth N)) ≡ true
      by true e = e
      by false e = refl

  tamed_same : (i : ℕ) → fits_known (V i) ≡ true → V i ≡ tamed i
  unfolding tamed
  tamed_same i e = rw e refl

  seen_fits : (s : SymId) → fits_known (known_from tree tamed s) ≡ true
  seen_fits s = by (is_mentioned tree s)
    where
      by : (b : Bool) → fits_known (cond b (tamed s.0) (TextValue symbol_type.Undefined (name tree s))) ≡ true
      by true = tamed_fits s.0
      by false = name_fits tree s texts

  rhs_fits : (i : ℕ) → fits_known (equations tree user i tamed) ≡ true
  rhs_fits i =
      facts_fits tree (known_from tree tamed) seen_fits (symbol i) (facts tree (symbol i)) (user (user_place tree i)) (name_fits tree (symbol i) texts) (λ f at g c. texts.defaults i f at g c)
      (λ g at e. allowed_at i g (sym (ap user at) ∙ e))

  fits_after : (k i : ℕ) → i < name_count tree → unordered_after (needs_in (needs tree)) k i ≡ false → fits_known (V i) ≡ true
  fits_after zero i lt e = absurd (true≢false e)
  fits_after (suc k) i lt e =
      let count : length (needs tree) ≡ name_count tree = length-map-range_with_len (needs_of tree) 0 (name_count tree) in
      let same : equations tree user i V ≡ equations tree user i tamed =
      reads tree user i V tamed (λ t c.
      let below : t < length (needs tree) = within tree i t (omega (arith, lt, count)) c in
      tamed_same t (fits_after k t (omega (arith, below, count)) (fails_each (unordered_after (needs_in (needs tree)) k) (needs_in (needs tree) i) t e c))) in
      ap fits_known (solves i lt ∙ same) ∙ rhs_fits i

  pub values_fit : IsAccepted tree → (i : ℕ) → i < name_count tree → fits_known (V i) ≡ true
  values_fit accepted i lt =
      let count : length (needs tree) ≡ name_count tree = length-map-range_with_len (needs_of tree) 0 (name_count tree) in
      fits_after (length (needs tree)) i lt (accepted i (omega (arith, lt, count)))

fits_line : (k : SymbolValue) → fits_known k ≡ true → IsPlainNumber k → FitsLine k
fits_line (Truth t) e plain = tt
fits_line (TextValue symbol_type.Undefined t) e plain = tt
fits_line (TextValue symbol_type.Bool t) e plain = tt
fits_line (TextValue symbol_type.Tristate t) e plain = tt
fits_line (TextValue symbol_type.Str t) e plain = fits_parts t e
fits_line (TextValue symbol_type.Int t) e plain = let (none, short) = fits_parts t e in let l = escape_longer t in (none, omega arith, plain)
fits_line (TextValue symbol_type.Hex t) e plain = let (none, short) = fits_parts t e in let l = escape_longer t in (none, omega arith, plain)

pub values_fit_lines : (tree : TreeFacts) (user : UserPlace → Option GivenValue) (V : ℕ → SymbolValue) → HasLineTexts tree → AllowedPlaces tree user →
    EquationsReadNeeds → NeedsAreSymbols → Solves (name_count tree) (equations tree user) V → IsAccepted tree → HasPlainNumbers tree V →
    (s : SymId) → s.0 < name_count tree → written tree (known_from tree V) s ≡ true → FitsLine (V s.0)
values_fit_lines tree user V texts allowed_at reads within solves accepted plain s lt w = fits_line (V s.0) (values_fit tree user V texts allowed_at reads within solves accepted s.0 lt) (plain s lt w)
