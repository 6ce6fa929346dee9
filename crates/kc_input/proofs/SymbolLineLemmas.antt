-- The line of a symbol, read again.
use Rattle.std.proofs.{Common.{Bool, List, None, Option, Some, [], ap, append_assoc, arith, codes, cond, false, get_or, inl, inr, length, not, refl, subst, sym, true, ℕ, ◌++◌, ◌+◌, ◌<◌, ◌∙◌, ◌∷◌, ◌≡◌, ◌≤◌}, lemmas.{Bool.{and_parts, cases_Bool, false_from_ne_true, leb-true, lt-ltb, not-true}, List.{Elements.{All-append, All-cons}, Folds.list_any_none, Sums.{AllPass-from_list_all, position_or_len_is}, length-append}, Option.{slice_get-get_or, slice_get_within}, Slice.Eq.bytes_eq-Decides}}
use Rattle.std.specs.{Cmp.Lexicographic.same_text, List.{cons_option, list_all, list_any, position_or_len}, Prelude.{All, Contains, is_some, nat_le, option_map, slice_get, ◌&&◌}, Str.Lines.strip_carriage_return}
use Rattle.kc_language.specs.{ConfigFile.{Assignment, Notation, Set, Unset, effect_of, is_prefix, meaning_of, raw_string, set_by_type, symbol_named, unset_by_type}, Expressions.{SymbolValue, TextValue, Truth, is_name_byte, same_name}, Lines.is_line_feed, Symbols.{SymbolFacts, TreeFacts}, Text.{escape, hex_of, int_of}, Texts.{EndsPlainly, config_file_line}, Values.{GivenText, GivenTruth, GivenValue, given_of, name as name_of, type_in}, declared.expressions.{SymId.SymId, SymbolType.SymbolType, Tri.{TheVariants.{M, N, Y}, Tri}}}
use Rattle.kc_language.specs.declared.expressions.SymbolType.TheVariants as symbol_type
use Rattle.kc_entries.specs.WellFormed.{IsWellFormed}
use Rattle.kc_user.specs.Places.{allowed, allowed_by, allowed_for, fits_quoted}
use Rattle.kc_input.specs.{HasNames.HasNames, PartsOfConfigFile.{assigned_or, assignment_of, between_quotes, line_value, number_value, set_effect, unset_effect}, PartsOfTexts.{IsOneLine, is_end_byte}, RoundTrip.IsShortText}
use Rattle.kc_input.proofs.{GivesLemmas.{Gives, gives_line}, LineLemmas.HasNoLf, RoundTripLemmas.{prefix_bytes, raw_string-quoted, set_read_again, string_read_again, unset_read_again, written_short}, TextBytes.{escape_no_lf, no_lf_by}}

-- Names.
get_name : (tree : TreeFacts) (i : ℕ) → i < length tree.names → slice_get tree.names i ≡ Some (get_or tree.names i [])
get_name tree i lt = slice_get-get_or tree.names i [] lt

same_itself : (name : List ℕ) → same_name name name ≡ true
same_itself name = let d = bytes_eq-Decides name name in d.1 refl

pub named_itself : (tree : TreeFacts) (s : SymId) → IsWellFormed tree → s.0 < length tree.symbols → symbol_named tree (name_of tree s) ≡ Some s
named_itself tree s formed defined =
    let known = formed.symbols_named in
    let lt : s.0 < length tree.names = omega arith in
    let at : position_or_len (same_name (name_of tree s)) tree.names ≡ s.0 =
    position_or_len_is (same_name (name_of tree s)) tree.names s.0 [] (omega arith)
    (λ k low. false_from_ne_true _ (λ e.
    let same : name_of tree s ≡ get_or tree.names k [] = same_text (name_of tree s) (get_or tree.names k []) (sym e) in
    let k_is : k ≡ s.0 = formed.names_differ k s.0 (get_or tree.names k []) (get_name tree k (omega arith)) (get_name tree s.0 lt ∙ ap Some same) in
    omega arith))
    (λ _. same_itself (name_of tree s))
    in
    rw (at, lt-ltb s.0 (length tree.names) lt) refl

-- Values of a symbol of a type.
abbrev pub IsOf : SymbolType → SymbolValue → Type 0
IsOf symbol_type.Undefined (Truth t) = ⊥
IsOf symbol_type.Undefined (TextValue l text) = ⊥
IsOf symbol_type.Bool (Truth t) = Unit {0}
IsOf symbol_type.Bool (TextValue l text) = ⊥
IsOf symbol_type.Tristate (Truth t) = Unit {0}
IsOf symbol_type.Tristate (TextValue l text) = ⊥
IsOf symbol_type.Str (Truth t) = ⊥
IsOf symbol_type.Str (TextValue l text) = l ≡ symbol_type.Str
IsOf symbol_type.Int (Truth t) = ⊥
IsOf symbol_type.Int (TextValue l text) = l ≡ symbol_type.Int
IsOf symbol_type.Hex (Truth t) = ⊥
IsOf symbol_type.Hex (TextValue l text) = l ≡ symbol_type.Hex

-- the text fits a line: it holds no line feed, is not too long, and a number ends plainly
abbrev pub FitsLine : SymbolValue → Type 0
FitsLine (Truth t) = Unit {0}
FitsLine (TextValue symbol_type.Undefined text) = Unit {0}
FitsLine (TextValue symbol_type.Bool text) = Unit {0}
FitsLine (TextValue symbol_type.Tristate text) = Unit {0}
FitsLine (TextValue symbol_type.Str text) = HasNoLf text × (length (escape text) ≤ 65000)
FitsLine (TextValue symbol_type.Int text) = HasNoLf text × (length text ≤ 65000) × EndsPlainly text
FitsLine (TextValue symbol_type.Hex text) = HasNoLf text × (length text ≤ 65000) × EndsPlainly text

pub no_lf_check : (xs : List ℕ) → list_all (λ b. not (is_line_feed b)) xs ≡ true → HasNoLf xs
no_lf_check xs all = λ k d lt. not-true _ (AllPass-from_list_all (λ b. not (is_line_feed b)) xs all k d lt)

pub last_byte : (xs ys : List ℕ) (a b : ℕ) → xs ++ a ∷ [] ≡ ys ++ b ∷ [] → a ≡ b
last_byte [] [] a b e = cc
last_byte [] (y ∷ []) a b e = cc
last_byte [] (y ∷ z ∷ ys) a b e = cc
last_byte (x ∷ []) [] a b e = cc
last_byte (x ∷ z ∷ xs) [] a b e = cc
last_byte (x ∷ xs) (y ∷ ys) a b e = last_byte xs ys a b cc

pub plain_quote : (text : List ℕ) → EndsPlainly (34 ∷ text ++ 34 ∷ [])
plain_quote text front b is = rw (← last_byte (34 ∷ text) front 34 b is) refl

-- a string's text between quotes holds no line feed, and with the quotes it is a text that ends plainly
pub between_no_lf : (is_raw : Bool) (text : List ℕ) → HasNoLf text → HasNoLf (between_quotes is_raw text)
between_no_lf true text none = none
between_no_lf false text none = escape_no_lf text none

pub quoted_no_lf : (is_raw : Bool) (text : List ℕ) → HasNoLf text → HasNoLf (34 ∷ between_quotes is_raw text ++ 34 ∷ [])
quoted_no_lf is_raw text none =
    All-append (λ b. is_line_feed b ≡ false) (34 ∷ between_quotes is_raw text) (34 ∷ [])
    (All-cons (λ b. is_line_feed b ≡ false) 34 (between_quotes is_raw text) refl (between_no_lf is_raw text none)) (no_lf_check (34 ∷ []) refl)

-- a string's text in quotes gives it where it is not too long
too_long : (is_raw : Bool) (text : List ℕ) → nat_le (length (escape text) + 2) 65000 ≡ false → line_value is_raw symbol_type.Str (34 ∷ between_quotes is_raw text ++ 34 ∷ []) ≡ None
too_long true text long = either (nat_le (length (34 ∷ text ++ 34 ∷ [])) 65000)
  where
    either : (short : Bool) → cond short (option_map GivenText (raw_string (34 ∷ text ++ 34 ∷ []))) None ≡ None
    either true = ap (option_map GivenText) (raw_string-quoted text ∙ ap (λ b. cond b (Some text) None) long)
    either false = refl
too_long false text long =
    let n : length (34 ∷ escape text ++ 34 ∷ []) ≡ length (escape text) + 2 = omega (arith, length-append (34 ∷ escape text) (34 ∷ [])) in
    let far : nat_le (length (34 ∷ escape text ++ 34 ∷ [])) 65000 ≡ false = ap (λ k. nat_le k 65000) n ∙ long in rw far refl

pub plain_one : (c : ℕ) → is_end_byte c ≡ false → EndsPlainly (c ∷ [])
plain_one c plain front b is = rw (← last_byte [] front c b is) plain

-- The line of one symbol.
module _ (tree : TreeFacts) (prefix : Notation) (stream : List ℕ) (is_pre : is_prefix prefix.prefix ≡ true) (formed : IsWellFormed tree) (named : HasNames tree) (s : SymId)
    (f : SymbolFacts) (at : slice_get tree.symbols s.0 ≡ Some f) (defined : Contains tree.defined s) where
  below : s.0 < length tree.symbols
  below = slice_get_within tree.symbols s.0 f at

  abbrev pub full : List ℕ
  full = prefix.prefix ++ name_of tree s

  full_bytes : All (λ b. is_name_byte b ≡ true) full
  full_bytes = let n = named s defined in All-append (λ b. is_name_byte b ≡ true) prefix.prefix (name_of tree s) (prefix_bytes prefix.prefix is_pre) n.0.bytes

  pub full_no_lf : HasNoLf full
  full_no_lf = no_lf_by is_name_byte full refl full_bytes

  pub set_says : (value : List ℕ) → EndsPlainly value → effect_of prefix.is_raw tree (meaning_of prefix.prefix (strip_carriage_return (full ++ 61 ∷ value))) ≡ set_by_type prefix.is_raw (name_of tree s) s value f.symbol_type
  set_says value plain =
      let n = named s defined in
      let said : meaning_of prefix.prefix (strip_carriage_return (full ++ 61 ∷ value)) ≡ Set (name_of tree s) value = set_read_again prefix.prefix (name_of tree s) value is_pre n.0 plain in
      ap (effect_of prefix.is_raw tree) said
      ∙ (ap (set_effect prefix.is_raw tree (name_of tree s) value) (named_itself tree s formed below)
      ∙ ap (λ (o : Option SymbolFacts). set_by_type prefix.is_raw (name_of tree s) s value (type_in o)) at)

  unset_says : effect_of prefix.is_raw tree (meaning_of prefix.prefix (strip_carriage_return ((codes "# " ++ full) ++ codes " is not set"))) ≡ unset_by_type (name_of tree s) s f.symbol_type
  unset_says =
      let n = named s defined in
      let said : meaning_of prefix.prefix (strip_carriage_return ((codes "# " ++ full) ++ codes " is not set")) ≡ Unset (name_of tree s) = unset_read_again prefix.prefix (name_of tree s) n.0 in
      ap (effect_of prefix.is_raw tree) said
      ∙ (ap (unset_effect tree (name_of tree s)) (named_itself tree s formed below)
      ∙ ap (λ (o : Option SymbolFacts). unset_by_type (name_of tree s) s (type_in o)) at)

  -- the value's own assignment, where it is allowed
  abbrev pub assignment : SymbolValue → Assignment
  assignment known = record { symbol = s; given = given_of known }

  abbrev own_if : Bool → SymbolValue → Option Assignment
  own_if ok known = cond ok (Some (assignment known)) None

  abbrev pub own : SymbolValue → Option Assignment
  own known = own_if (allowed tree s (given_of known)) known

  assigned_if : (ok : Bool) (known : SymbolValue) → assignment_of (assigned_or (name_of tree s) s (cond ok (Some (given_of known)) None)) ≡ own_if ok known
  assigned_if true known = refl
  assigned_if false known = refl

  pub set_no_lf : (value : List ℕ) → HasNoLf value → HasNoLf (full ++ 61 ∷ value)
  set_no_lf value none = All-append (λ b. is_line_feed b ≡ false) full (61 ∷ value) full_no_lf (All-cons (λ b. is_line_feed b ≡ false) 61 value refl none)

  unset_no_lf : HasNoLf ((codes "# " ++ full) ++ codes " is not set")
  unset_no_lf =
      All-append (λ b. is_line_feed b ≡ false) (codes "# " ++ full) (codes " is not set")
      (All-append (λ b. is_line_feed b ≡ false) (codes "# ") full (no_lf_check (codes "# ") refl) full_no_lf) (no_lf_check (codes " is not set") refl)

  pub short_prefix : length prefix.prefix ≤ 64
  short_prefix =
      let (front, rest) = and_parts _ _ is_pre in
      let (short, bytes) = and_parts (nat_le (length prefix.prefix) 64) _ rest in
      leb-true (length prefix.prefix) 64 short

  short_line : (body : List ℕ) (known : SymbolValue) → IsShortText known → config_file_line prefix.is_raw full known ≡ body ++ 10 ∷ [] → length body ≤ 65535
  short_line body known fits is =
      let n = named s defined in
      let all : length (config_file_line prefix.is_raw full known) ≤ 65323 = written_short prefix.is_raw prefix.prefix (name_of tree s) short_prefix n.1 known fits in
      let same : length (config_file_line prefix.is_raw full known) ≡ length (body ++ 10 ∷ []) = ap length is in
      omega (arith, all, same, length-append body (10 ∷ []))

  -- a line that sets the symbol
  gives_set : (known : SymbolValue) (value : List ℕ) → HasNoLf value → EndsPlainly value → IsShortText known → config_file_line prefix.is_raw full known ≡ (full ++ 61 ∷ value) ++ 10 ∷ [] →
      assignment_of (set_by_type prefix.is_raw (name_of tree s) s value f.symbol_type) ≡ own known → Gives tree prefix stream (config_file_line prefix.is_raw full known) (cons_option (own known) [])
  gives_set known value none plain fits is means =
      let body = full ++ 61 ∷ value in
      rw is (gives_line tree prefix stream body (own known) (set_no_lf value none) (short_line body known fits is) (ap assignment_of (set_says value plain) ∙ means))

  -- a line that unsets it
  gives_unset : assignment_of (unset_by_type (name_of tree s) s f.symbol_type) ≡ own (Truth N) → Gives tree prefix stream (config_file_line prefix.is_raw full (Truth N)) (cons_option (own (Truth N)) [])
  gives_unset means =
      let body : List ℕ = (codes "# " ++ full) ++ codes " is not set" in
      let is : config_file_line prefix.is_raw full (Truth N) ≡ body ++ 10 ∷ [] = sym (append_assoc (codes "# " ++ full) (codes " is not set") (10 ∷ [])) in
      subst (λ t. Gives tree prefix stream t (cons_option (own (Truth N)) [])) (sym is)
      (gives_line tree prefix stream body (own (Truth N)) unset_no_lf (short_line body (Truth N) tt is) (ap assignment_of unset_says ∙ means))

  allowed_is : (g : GivenValue) → allowed tree s g ≡ allowed_by f.symbol_type g
  allowed_is g = ap (λ o. allowed_for o g) at

  -- what a line of a truth value does
  truth_means : (kd : SymbolType) → kd ≡ f.symbol_type → IsOf kd (Truth N) →
      (assignment_of (unset_by_type (name_of tree s) s kd) ≡ own_if (allowed_by kd (GivenTruth N)) (Truth N))
      × (assignment_of (set_by_type prefix.is_raw (name_of tree s) s (109 ∷ []) kd) ≡ own_if (allowed_by kd (GivenTruth M)) (Truth M))
      × (assignment_of (set_by_type prefix.is_raw (name_of tree s) s (121 ∷ []) kd) ≡ own_if (allowed_by kd (GivenTruth Y)) (Truth Y))
  truth_means symbol_type.Undefined is of = absurd of
  truth_means symbol_type.Bool is of = (refl, refl, refl)
  truth_means symbol_type.Tristate is of = (refl, refl, refl)
  truth_means symbol_type.Str is of = absurd of
  truth_means symbol_type.Int is of = absurd of
  truth_means symbol_type.Hex is of = absurd of

  any_truth : (kd : SymbolType) (t : Tri) → IsOf kd (Truth t) → IsOf kd (Truth N)
  any_truth symbol_type.Undefined t of = absurd of
  any_truth symbol_type.Bool t of = tt
  any_truth symbol_type.Tristate t of = tt
  any_truth symbol_type.Str t of = absurd of
  any_truth symbol_type.Int t of = absurd of
  any_truth symbol_type.Hex t of = absurd of

  truth_gives : (t : Tri) → IsOf f.symbol_type (Truth t) → Gives tree prefix stream (config_file_line prefix.is_raw full (Truth t)) (cons_option (own (Truth t)) [])
  truth_gives N of = let means = truth_means f.symbol_type refl (any_truth f.symbol_type N of) in gives_unset (rw allowed_is means.0)
  truth_gives M of =
      let means = truth_means f.symbol_type refl (any_truth f.symbol_type M of) in
      gives_set (Truth M) (109 ∷ []) (no_lf_check (109 ∷ []) refl) (plain_one 109 refl) tt (sym (append_assoc full (61 ∷ 109 ∷ []) (10 ∷ []))) (rw allowed_is means.1)
  truth_gives Y of =
      let means = truth_means f.symbol_type refl (any_truth f.symbol_type Y of) in
      gives_set (Truth Y) (121 ∷ []) (no_lf_check (121 ∷ []) refl) (plain_one 121 refl) tt (sym (append_assoc full (61 ∷ 121 ∷ []) (10 ∷ []))) (rw allowed_is means.2)

  -- a string's line gives it where it is not too long
  quoted_value : (is_raw : Bool) (text : List ℕ) → HasNoLf text →
      line_value is_raw symbol_type.Str (34 ∷ between_quotes is_raw text ++ 34 ∷ []) ≡ cond (fits_quoted text) (Some (GivenText text)) None
  quoted_value is_raw text none =
      let one : list_any is_line_feed text ≡ false = list_any_none is_line_feed text none in
      elim (cases_Bool (nat_le (length (escape text) + 2) 65000)) [
        | inl short ↦ rw (short, one) (string_read_again is_raw text (leb-true (length (escape text) + 2) 65000 short))
        | inr long ↦ rw long (too_long is_raw text long)
      ]

  number_value_if : (short is_number : Bool) (text : List ℕ) → cond short (number_value text is_number) None ≡ cond (short && is_number) (Some (GivenText text)) None
  number_value_if true is_number text = refl
  number_value_if false is_number text = refl

  str_gives : (kd : SymbolType) (text : List ℕ) → kd ≡ f.symbol_type → kd ≡ symbol_type.Str → FitsLine (TextValue symbol_type.Str text) →
      Gives tree prefix stream (config_file_line prefix.is_raw full (TextValue symbol_type.Str text)) (cons_option (own (TextValue symbol_type.Str text)) [])
  str_gives kd text is str (none, short) =
      let k : f.symbol_type ≡ symbol_type.Str = sym is ∙ str in
      let line_is : config_file_line prefix.is_raw full (TextValue symbol_type.Str text) ≡ (full ++ 61 ∷ (34 ∷ between_quotes prefix.is_raw text ++ 34 ∷ [])) ++ 10 ∷ [] = simp append_assoc in
      let no_lf = quoted_no_lf prefix.is_raw text none in
      let set : set_by_type prefix.is_raw (name_of tree s) s (34 ∷ between_quotes prefix.is_raw text ++ 34 ∷ []) symbol_type.Str
      ≡ assigned_or (name_of tree s) s (cond (fits_quoted text) (Some (GivenText text)) None) =
      ap (assigned_or (name_of tree s) s) (quoted_value prefix.is_raw text none) in
      gives_set (TextValue symbol_type.Str text) (34 ∷ between_quotes prefix.is_raw text ++ 34 ∷ []) no_lf (plain_quote (between_quotes prefix.is_raw text)) short line_is
      (rw (allowed_is, k, set) (assigned_if (fits_quoted text) (TextValue symbol_type.Str text)))

  int_gives : (text : List ℕ) → f.symbol_type ≡ symbol_type.Int → FitsLine (TextValue symbol_type.Int text) →
      Gives tree prefix stream (config_file_line prefix.is_raw full (TextValue symbol_type.Int text)) (cons_option (own (TextValue symbol_type.Int text)) [])
  int_gives text k (none, short, plain) =
      let set : set_by_type prefix.is_raw (name_of tree s) s text symbol_type.Int
      ≡ assigned_or (name_of tree s) s (cond (nat_le (length text) 65000 && is_some (int_of text)) (Some (GivenText text)) None) =
      ap (assigned_or (name_of tree s) s) (number_value_if (nat_le (length text) 65000) (is_some (int_of text)) text) in
      gives_set (TextValue symbol_type.Int text) text none plain short (simp append_assoc)
      (rw (allowed_is, k, set) (assigned_if (nat_le (length text) 65000 && is_some (int_of text)) (TextValue symbol_type.Int text)))

  hex_gives : (text : List ℕ) → f.symbol_type ≡ symbol_type.Hex → FitsLine (TextValue symbol_type.Hex text) →
      Gives tree prefix stream (config_file_line prefix.is_raw full (TextValue symbol_type.Hex text)) (cons_option (own (TextValue symbol_type.Hex text)) [])
  hex_gives text k (none, short, plain) =
      let set : set_by_type prefix.is_raw (name_of tree s) s text symbol_type.Hex
      ≡ assigned_or (name_of tree s) s (cond (nat_le (length text) 65000 && is_some (hex_of text)) (Some (GivenText text)) None) =
      ap (assigned_or (name_of tree s) s) (number_value_if (nat_le (length text) 65000) (is_some (hex_of text)) text) in
      gives_set (TextValue symbol_type.Hex text) text none plain short (simp append_assoc)
      (rw (allowed_is, k, set) (assigned_if (nat_le (length text) 65000 && is_some (hex_of text)) (TextValue symbol_type.Hex text)))

  written_gives : (kd l : SymbolType) (text : List ℕ) → kd ≡ f.symbol_type → IsOf kd (TextValue l text) → FitsLine (TextValue l text) →
      Gives tree prefix stream (config_file_line prefix.is_raw full (TextValue l text)) (cons_option (own (TextValue l text)) [])
  written_gives symbol_type.Undefined l text is of fits = absurd of
  written_gives symbol_type.Bool l text is of fits = absurd of
  written_gives symbol_type.Tristate l text is of fits = absurd of
  written_gives symbol_type.Str l text is of fits =
      subst (λ x. FitsLine (TextValue x text) → Gives tree prefix stream (config_file_line prefix.is_raw full (TextValue x text)) (cons_option (own (TextValue x text)) []))
      (sym of) (str_gives symbol_type.Str text is refl) fits
  written_gives symbol_type.Int l text is of fits =
      subst (λ x. FitsLine (TextValue x text) → Gives tree prefix stream (config_file_line prefix.is_raw full (TextValue x text)) (cons_option (own (TextValue x text)) [])) (sym of) (int_gives text (sym is)) fits
  written_gives symbol_type.Hex l text is of fits =
      subst (λ x. FitsLine (TextValue x text) → Gives tree prefix stream (config_file_line prefix.is_raw full (TextValue x text)) (cons_option (own (TextValue x text)) [])) (sym of) (hex_gives text (sym is)) fits

  -- the line of the symbol gives it its value where that is allowed, and nothing else
  pub symbol_gives : (known : SymbolValue) → IsOf f.symbol_type known → FitsLine known → Gives tree prefix stream (config_file_line prefix.is_raw full known) (cons_option (own known) [])
  symbol_gives (Truth t) of fits = truth_gives t of
  symbol_gives (TextValue l text) of fits = written_gives f.symbol_type l text refl of fits

  -- the line of the symbol is one line
  text_line : (value : List ℕ) → HasNoLf value → IsOneLine ((full ++ 61 ∷ value) ++ 10 ∷ [])
  text_line value none = (full ++ 61 ∷ value, refl, set_no_lf value none)

  truth_line : (t : Tri) → IsOneLine (config_file_line prefix.is_raw full (Truth t))
  truth_line N = ((codes "# " ++ full) ++ codes " is not set", sym (append_assoc (codes "# " ++ full) (codes " is not set") (10 ∷ [])), unset_no_lf)
  truth_line M = subst IsOneLine (append_assoc full (61 ∷ 109 ∷ []) (10 ∷ [])) (text_line (109 ∷ []) (no_lf_check (109 ∷ []) refl))
  truth_line Y = subst IsOneLine (append_assoc full (61 ∷ 121 ∷ []) (10 ∷ [])) (text_line (121 ∷ []) (no_lf_check (121 ∷ []) refl))

  quoted_line : (text : List ℕ) → HasNoLf text → IsOneLine (config_file_line prefix.is_raw full (TextValue symbol_type.Str text))
  quoted_line text none =
      let line_is : config_file_line prefix.is_raw full (TextValue symbol_type.Str text) ≡ (full ++ 61 ∷ (34 ∷ between_quotes prefix.is_raw text ++ 34 ∷ [])) ++ 10 ∷ [] = simp append_assoc in
      let no_lf = quoted_no_lf prefix.is_raw text none in
      subst IsOneLine (sym line_is) (text_line (34 ∷ between_quotes prefix.is_raw text ++ 34 ∷ []) no_lf)

  number_line : (text : List ℕ) → HasNoLf text → IsOneLine (full ++ codes "=" ++ text ++ codes "\n")
  number_line text none =
      let line_is : full ++ codes "=" ++ text ++ codes "\n" ≡ (full ++ 61 ∷ text) ++ 10 ∷ [] = simp append_assoc in
      subst IsOneLine (sym line_is) (text_line text none)

  told_line : (kd l : SymbolType) (text : List ℕ) → IsOf kd (TextValue l text) → FitsLine (TextValue l text) → IsOneLine (config_file_line prefix.is_raw full (TextValue l text))
  told_line symbol_type.Undefined l text of fits = absurd of
  told_line symbol_type.Bool l text of fits = absurd of
  told_line symbol_type.Tristate l text of fits = absurd of
  told_line symbol_type.Str l text of fits =
      subst (λ x. FitsLine (TextValue x text) → IsOneLine (config_file_line prefix.is_raw full (TextValue x text))) (sym of) (λ f. quoted_line text f.0) fits
  told_line symbol_type.Int l text of fits =
      subst (λ x. FitsLine (TextValue x text) → IsOneLine (config_file_line prefix.is_raw full (TextValue x text))) (sym of) (λ f. number_line text f.0) fits
  told_line symbol_type.Hex l text of fits =
      subst (λ x. FitsLine (TextValue x text) → IsOneLine (config_file_line prefix.is_raw full (TextValue x text))) (sym of) (λ f. number_line text f.0) fits

  pub symbol_line : (known : SymbolValue) → IsOf f.symbol_type known → FitsLine known → IsOneLine (config_file_line prefix.is_raw full known)
  symbol_line (Truth t) of fits = truth_line t
  symbol_line (TextValue l text) of fits = told_line f.symbol_type l text of fits
