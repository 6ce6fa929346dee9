-- What a line gives to a symbol is allowed for it.
use Rattle.std.proofs.{Common.{Bool, List, None, Option, Some, [], ap, arith, cond, drop, eqb, false, get_or, inl, inr, length, not, refl, subst, suc, sym, take, true, ℕ, ◌++◌, ◌+◌, ◌-◌, ◌∷◌, ◌≡◌, ◌≤◌}, lemmas.{Bool.{and_from, cases_Bool, eqb-true, le-leb, leb-true}, List.{Elements.{All-cons, All-drop, All-nil, All-take}, Folds.list_any_none}}}
use Rattle.std.specs.{List.{after_first, before_first, list_any, position_or_len, suffix_len}, Option.option_and_then, Prelude.{is_some, nat_le, nat_lt, option_map, slice_get, slice_index, ◌&&◌, ◌==◌, ◌||◌}, Str.{Lines.strip_carriage_return, bytes_eq}}
use Rattle.kc_language.specs.{ConfigFile.{Assigns, LineMeaning, Malformed, Notation, Nothing, Set, Unset, effect_of, meaning_of, name_and_value, set_by_type, symbol_named, unset_by_type, unset_name, until_quote, value_by, without_suffix}, Lines.is_line_feed, Symbols.{SymbolFacts, TreeFacts}, Text.{escape, hex_of, int_of, unescape}, Tokens.is_blank, Values.{GivenText, GivenTruth, GivenValue, type_in}, declared.expressions.{SymId.SymId, SymbolType.SymbolType, Tri.{TheVariants.{N, Y}, Tri}}}
use Rattle.kc_input.specs.PartsOfConfigFile.{assigned_or, is_comment, is_equals, line_value, meaning_of_text, not_unset, number_value, preceded, set_effect, set_or_malformed, split_at_equals, string_value, trimmed, unset_effect, unset_or, yes_m_or_no}
use Rattle.kc_language.specs.declared.expressions.SymbolType.TheVariants as symbol_type
use Rattle.kc_user.specs.Places.{allowed, allowed_by, allowed_for, fits_quoted}
use Rattle.kc_input.proofs.LineLemmas.{HasNoLf}

preceded_some : (front : List ℕ) (o : Option (List ℕ)) (raw : List ℕ) → preceded front o ≡ Some raw → (rest : List ℕ) × (o ≡ Some rest) × (front ++ rest ≡ raw)
preceded_some front None raw e = cc
preceded_some front (Some rest) raw e = (rest, refl, cc)

unescape_plain : (b : ℕ) (bs : List ℕ) → eqb b 92 ≡ false → unescape (b ∷ bs) ≡ b ∷ unescape bs
unescape_plain b [] ne = refl
unescape_plain b (c ∷ bs) ne = rw ne refl

-- a text that stands before a closing quote
record Inner (body raw : List ℕ) : Type 0 where
  shorter : length raw + 1 ≤ length body
  escaped : length (escape (unescape raw)) ≤ length raw
  one_line : HasNoLf body → HasNoLf (unescape raw)

inner_empty : (b : ℕ) (bs : List ℕ) → Inner (b ∷ bs) []
inner_empty b bs = record { shorter = omega arith; escaped = omega arith; one_line = λ h. All-nil (λ x. (x == 10) ≡ false) }

inner_modeless : (b : ℕ) (bs raw : List ℕ) → eqb b 34 ≡ false → eqb b 92 ≡ false → Inner bs raw → Inner (b ∷ bs) (b ∷ raw)
inner_modeless b bs raw quote slash rest =
    let u : unescape (b ∷ raw) ≡ b ∷ unescape raw = unescape_plain b raw slash in
    let e : escape (b ∷ unescape raw) ≡ b ∷ escape (unescape raw) = rw (quote, slash) refl in
    record {
      shorter = let s = rest.shorter in omega arith;
      escaped = rw (u, e) (let s = rest.escaped in omega arith);
      one_line = λ h. rw u (All-cons (λ x. (x == 10) ≡ false) b (unescape raw) (h 0 b (omega arith)) (rest.one_line (λ k d lt. h (suc k) d (omega arith))));
    }

inner_taken : (c : ℕ) (bs raw : List ℕ) → Inner bs raw → Inner (92 ∷ c ∷ bs) (92 ∷ c ∷ raw)
inner_taken c bs raw rest = record {
  shorter = let s = rest.shorter in omega arith;
  escaped = at_most (eqb c 34 || eqb c 92);
  one_line = λ h. All-cons (λ x. (x == 10) ≡ false) c (unescape raw) (h 1 c (omega arith)) (rest.one_line (λ k d lt. h (suc (suc k)) d (omega arith)));
}
  where
    at_most : (special : Bool) → length (cond special (92 ∷ c ∷ []) (c ∷ []) ++ escape (unescape raw)) ≤ length (92 ∷ c ∷ raw)
    at_most true = let s = rest.escaped in omega arith
    at_most false = let s = rest.escaped in omega arith

inner : (body raw : List ℕ) → until_quote body ≡ Some raw → Inner body raw
inner [] raw e = cc
inner (b ∷ []) raw e = one (eqb b 34) e
  where
    one : (quote : Bool) → cond quote (Some []) None ≡ Some raw → Inner (b ∷ []) raw
    one true is = let h : [] ≡ raw = cc in subst (Inner (b ∷ [])) h (inner_empty b [])
    one false is = cc
inner (b ∷ c ∷ bs) raw e = elim (cases_Bool (eqb b 34)) [
  | inl quote ↦
      let is : Some [] ≡ Some raw = rw quote at e in
      let h : [] ≡ raw = cc in subst (Inner (b ∷ c ∷ bs)) h (inner_empty b (c ∷ bs))
  | inr other ↦ elim (cases_Bool (eqb b 92)) [
    | inl slash ↦
        let (rest, found, is) = preceded_some (b ∷ c ∷ []) (until_quote bs) raw (rw (other, slash) at e) in
        let taken : Inner (92 ∷ c ∷ bs) (92 ∷ c ∷ rest) = inner_taken c bs rest (inner bs rest found) in
        let b_is : 92 ≡ b = sym (eqb-true b 92 slash) in
        subst (Inner (b ∷ c ∷ bs)) is (subst (λ x. Inner (x ∷ c ∷ bs) (x ∷ c ∷ rest)) b_is taken)
    | inr plain ↦
        let (rest, found, is) = preceded_some (b ∷ []) (until_quote (c ∷ bs)) raw (rw (other, plain) at e) in
        subst (Inner (b ∷ c ∷ bs)) is (inner_modeless b (c ∷ bs) rest other plain (inner (c ∷ bs) rest found))
  ]
]

fits : (raw body text : List ℕ) → Inner body raw → HasNoLf body → length body + 1 ≤ length text → length text ≤ 65000 → fits_quoted (unescape raw) ≡ true
fits raw body text is none long short =
    let e = is.escaped in
    let s = is.shorter in
    and_from (nat_le (length (escape (unescape raw)) + 2) 65000) (not (list_any is_line_feed (unescape raw)))
    (le-leb (length (escape (unescape raw)) + 2) 65000 (omega arith))
    (ap not (list_any_none is_line_feed (unescape raw) (is.one_line none)))

escaped_allowed : (text : List ℕ) (g : GivenValue) → HasNoLf text → length text ≤ 65000 → string_value false text ≡ Some g → allowed_by symbol_type.Str g ≡ true
escaped_allowed [] g none short e = cc
escaped_allowed (b ∷ body) g none short e = by_quote (eqb b 34) e
  where
    by_raw : (o : Option (List ℕ)) → until_quote body ≡ o → option_map GivenText (option_map unescape o) ≡ Some g → allowed_by symbol_type.Str g ≡ true
    by_raw None found is = cc
    by_raw (Some raw) found is =
        let h : GivenText (unescape raw) ≡ g = cc in
        subst (λ x. allowed_by symbol_type.Str x ≡ true) h (fits raw body (b ∷ body) (inner body raw found) (λ k d lt. none (suc k) d (omega arith)) (omega arith) short)

    by_quote : (quote : Bool) → option_map GivenText (option_map unescape (cond quote (until_quote body) None)) ≡ Some g → allowed_by symbol_type.Str g ≡ true
    by_quote true is = by_raw (until_quote body) refl is
    by_quote false is = cc

-- A raw string is a part of the text, and its limit is looked at.
raw_fits : (raw : List ℕ) (g : GivenValue) (fit : Bool) → HasNoLf raw → nat_le (length (escape raw) + 2) 65000 ≡ fit →
    option_map GivenText (cond fit (Some raw) None) ≡ Some g → allowed_by symbol_type.Str g ≡ true
raw_fits raw g true none fit is =
    let h : GivenText raw ≡ g = cc in
    subst (λ x. allowed_by symbol_type.Str x ≡ true) h
    (and_from (nat_le (length (escape raw) + 2) 65000) (not (list_any is_line_feed raw)) fit (ap not (list_any_none is_line_feed raw none)))
raw_fits raw g false none fit is = cc

raw_ends : (raw : List ℕ) (g : GivenValue) (ends : Bool) → HasNoLf raw →
    option_map GivenText (option_and_then (λ t. cond (nat_le (length (escape t) + 2) 65000) (Some t) None) (cond ends (Some raw) None)) ≡ Some g →
    allowed_by symbol_type.Str g ≡ true
raw_ends raw g true none is = raw_fits raw g (nat_le (length (escape raw) + 2) 65000) none refl is
raw_ends raw g false none is = cc

raw_starts : (rest : List ℕ) (g : GivenValue) (starts : Bool) → HasNoLf rest →
    option_map GivenText (option_and_then (λ t. cond (nat_le (length (escape t) + 2) 65000) (Some t) None)
    (option_and_then (without_suffix (34 ∷ [])) (cond starts (Some rest) None))) ≡ Some g → allowed_by symbol_type.Str g ≡ true
raw_starts rest g true none is =
    raw_ends (take (length rest - 1) rest) g (bytes_eq (drop (length rest - 1) rest) (34 ∷ [])) (All-take (λ b. (b == 10) ≡ false) (length rest - 1) rest none) is
raw_starts rest g false none is = cc

raw_allowed : (text : List ℕ) (g : GivenValue) → HasNoLf text → string_value true text ≡ Some g → allowed_by symbol_type.Str g ≡ true
raw_allowed text g none e = raw_starts (drop 1 text) g (bytes_eq (take 1 text) (34 ∷ [])) (All-drop (λ b. (b == 10) ≡ false) 1 text none) e

string_allowed : (is_raw : Bool) (text : List ℕ) (g : GivenValue) → HasNoLf text → length text ≤ 65000 → string_value is_raw text ≡ Some g → allowed_by symbol_type.Str g ≡ true
string_allowed true text g none short e = raw_allowed text g none e
string_allowed false text g none short e = escaped_allowed text g none short e

number_allowed : (k : SymbolType) (text : List ℕ) (g : GivenValue) (is_number : Bool) → (is_number ≡ true → allowed_by k (GivenText text) ≡ true) →
    number_value text is_number ≡ Some g → allowed_by k g ≡ true
number_allowed k text g true allow e = let h : GivenText text ≡ g = cc in subst (λ x. allowed_by k x ≡ true) h (allow refl)
number_allowed k text g false allow e = cc

bool_allowed : (yes no : Bool) (g : GivenValue) → option_map GivenTruth (cond yes (Some Y) (cond no (Some N) None)) ≡ Some g → allowed_by symbol_type.Bool g ≡ true
bool_allowed true other g e = let h : GivenTruth Y ≡ g = cc in subst (λ x. allowed_by symbol_type.Bool x ≡ true) h refl
bool_allowed false true g e = let h : GivenTruth N ≡ g = cc in subst (λ x. allowed_by symbol_type.Bool x ≡ true) h refl
bool_allowed false false g e = cc

tri_allowed : (o : Option Tri) (g : GivenValue) → option_map GivenTruth o ≡ Some g → allowed_by symbol_type.Tristate g ≡ true
tri_allowed None g e = cc
tri_allowed (Some t) g e = let h : GivenTruth t ≡ g = cc in subst (λ x. allowed_by symbol_type.Tristate x ≡ true) h refl

value_allowed : (is_raw : Bool) (k : SymbolType) (text : List ℕ) (g : GivenValue) → HasNoLf text → length text ≤ 65000 → value_by is_raw k text ≡ Some g → allowed_by k g ≡ true
value_allowed is_raw symbol_type.Undefined text g none short e = cc
value_allowed is_raw symbol_type.Bool text g none short e = bool_allowed (get_or text 0 0 == 121) (get_or text 0 0 == 110) g e
value_allowed is_raw symbol_type.Tristate text g none short e = tri_allowed (yes_m_or_no (get_or text 0 0)) g e
value_allowed is_raw symbol_type.Str text g none short e = string_allowed is_raw text g none short e
value_allowed is_raw symbol_type.Int text g none short e =
    number_allowed symbol_type.Int text g (is_some (int_of text)) (λ is. and_from (nat_le (length text) 65000) (is_some (int_of text)) (le-leb (length text) 65000 short) is) e
value_allowed is_raw symbol_type.Hex text g none short e =
    number_allowed symbol_type.Hex text g (is_some (hex_of text)) (λ is. and_from (nat_le (length text) 65000) (is_some (hex_of text)) (le-leb (length text) 65000 short) is) e

pub line_allowed : (is_raw : Bool) (k : SymbolType) (text : List ℕ) (g : GivenValue) → HasNoLf text → line_value is_raw k text ≡ Some g → allowed_by k g ≡ true
line_allowed is_raw k text g none e = elim (cases_Bool (nat_le (length text) 65000)) [
  | inl short ↦ value_allowed is_raw k text g none (leb-true (length text) 65000 short) (rw short at e)
  | inr long ↦ let never : None ≡ Some g = rw long at e in cc
]

-- an assignment of a set line or an unset line
assigned : (name : List ℕ) (s t : SymId) (o : Option GivenValue) (g : GivenValue) → assigned_or name s o ≡ Assigns t g → (s ≡ t) × (o ≡ Some g)
assigned name s t None g e = cc
assigned name s t (Some h) g e = (cc, cc)

type_allowed : (is_raw : Bool) (k : SymbolType) (name text : List ℕ) (s t : SymId) (g : GivenValue) → HasNoLf text → set_by_type is_raw name s text k ≡ Assigns t g → (s ≡ t) × (allowed_by k g ≡ true)
type_allowed is_raw symbol_type.Undefined name text s t g none e = cc
type_allowed is_raw symbol_type.Bool name text s t g none e = let (same, is) = assigned name s t (line_value is_raw symbol_type.Bool text) g e in (same, line_allowed is_raw symbol_type.Bool text g none is)
type_allowed is_raw symbol_type.Tristate name text s t g none e = let (same, is) = assigned name s t (line_value is_raw symbol_type.Tristate text) g e in (same, line_allowed is_raw symbol_type.Tristate text g none is)
type_allowed is_raw symbol_type.Str name text s t g none e = let (same, is) = assigned name s t (line_value is_raw symbol_type.Str text) g e in (same, line_allowed is_raw symbol_type.Str text g none is)
type_allowed is_raw symbol_type.Int name text s t g none e = let (same, is) = assigned name s t (line_value is_raw symbol_type.Int text) g e in (same, line_allowed is_raw symbol_type.Int text g none is)
type_allowed is_raw symbol_type.Hex name text s t g none e = let (same, is) = assigned name s t (line_value is_raw symbol_type.Hex text) g e in (same, line_allowed is_raw symbol_type.Hex text g none is)

unset_allowed : (k : SymbolType) (name : List ℕ) (s t : SymId) (g : GivenValue) → unset_by_type name s k ≡ Assigns t g → (s ≡ t) × (allowed_by k g ≡ true)
unset_allowed symbol_type.Undefined name s t g e = cc
unset_allowed symbol_type.Bool name s t g e = let h : GivenTruth N ≡ g = cc in (cc, subst (λ x. allowed_by symbol_type.Bool x ≡ true) h refl)
unset_allowed symbol_type.Tristate name s t g e = let h : GivenTruth N ≡ g = cc in (cc, subst (λ x. allowed_by symbol_type.Tristate x ≡ true) h refl)
unset_allowed symbol_type.Str name s t g e = cc
unset_allowed symbol_type.Int name s t g e = cc
unset_allowed symbol_type.Hex name s t g e = cc

set_facts : (is_raw : Bool) (o : Option SymbolFacts) (name text : List ℕ) (s t : SymId) (g : GivenValue) → HasNoLf text → set_by_type is_raw name s text (type_in o) ≡ Assigns t g → (s ≡ t) × (allowed_for o g ≡ true)
set_facts is_raw None name text s t g none e = cc
set_facts is_raw (Some f) name text s t g none e = type_allowed is_raw f.symbol_type name text s t g none e

unset_facts : (o : Option SymbolFacts) (name : List ℕ) (s t : SymId) (g : GivenValue) → unset_by_type name s (type_in o) ≡ Assigns t g → (s ≡ t) × (allowed_for o g ≡ true)
unset_facts None name s t g e = cc
unset_facts (Some f) name s t g e = unset_allowed f.symbol_type name s t g e

-- what a line says holds no line feed
abbrev pub SaysNoLf : LineMeaning → Type 0
SaysNoLf Nothing = Unit {0}
SaysNoLf (Unset name) = Unit {0}
SaysNoLf (Set name text) = HasNoLf text
SaysNoLf Malformed = Unit {0}

module _ (tree : TreeFacts) where
  here : (s t : SymId) (g : GivenValue) → (s ≡ t) × (allowed tree s g ≡ true) → allowed tree t g ≡ true
  here s t g (same, is) = subst (λ x. allowed tree x g ≡ true) same is

  set_allowed : (is_raw : Bool) (found : Option SymId) (name text : List ℕ) (t : SymId) (g : GivenValue) → HasNoLf text → set_effect is_raw tree name text found ≡ Assigns t g → allowed tree t g ≡ true
  set_allowed is_raw None name text t g none e = cc
  set_allowed is_raw (Some s) name text t g none e = here s t g (set_facts is_raw (slice_get tree.symbols s.0) name text s t g none e)

  unset_found : (found : Option SymId) (name : List ℕ) (t : SymId) (g : GivenValue) → unset_effect tree name found ≡ Assigns t g → allowed tree t g ≡ true
  unset_found None name t g e = cc
  unset_found (Some s) name t g e = here s t g (unset_facts (slice_get tree.symbols s.0) name s t g e)

  pub effect_allowed : (is_raw : Bool) (said : LineMeaning) (t : SymId) (g : GivenValue) → SaysNoLf said → effect_of is_raw tree said ≡ Assigns t g → allowed tree t g ≡ true
  effect_allowed is_raw Nothing t g none e = cc
  effect_allowed is_raw (Unset name) t g none e = unset_found (symbol_named tree name) name t g e
  effect_allowed is_raw (Set name text) t g none e = set_allowed is_raw (symbol_named tree name) name text t g none e
  effect_allowed is_raw Malformed t g none e = cc

-- What a line without a line feed says has none.
drop_no_lf : (n : ℕ) (bytes : List ℕ) → HasNoLf bytes → HasNoLf (drop n bytes)
drop_no_lf n bytes none = All-drop (λ b. (b == 10) ≡ false) n bytes none

take_no_lf : (n : ℕ) (bytes : List ℕ) → HasNoLf bytes → HasNoLf (take n bytes)
take_no_lf n bytes none = All-take (λ b. (b == 10) ≡ false) n bytes none

pub strip_no_lf : (bytes : List ℕ) → HasNoLf bytes → HasNoLf (strip_carriage_return bytes)
strip_no_lf bytes none = go (slice_index bytes (length bytes - 1) == 13)
  where
    go : (b : Bool) → HasNoLf (cond b (take (length bytes - 1) bytes) bytes)
    go true = take_no_lf (length bytes - 1) bytes none
    go false = none

module _ (prefix : List ℕ) where
  split_no_lf : (b : Bool) (text : List ℕ) → HasNoLf text → SaysNoLf (set_or_malformed (cond b (Some (before_first is_equals text, after_first is_equals text)) None))
  split_no_lf true text none = drop_no_lf (position_or_len is_equals text + 1) text none
  split_no_lf false text none = tt

  without_prefix_no_lf : (b : Bool) (text : List ℕ) → HasNoLf text → SaysNoLf (set_or_malformed (option_and_then split_at_equals (cond b (Some (drop (length prefix) text)) None)))
  without_prefix_no_lf true text none =
      split_no_lf (nat_lt 0 (position_or_len is_equals (drop (length prefix) text)) && nat_lt (position_or_len is_equals (drop (length prefix) text))
      (length (drop (length prefix) text))) (drop (length prefix) text) (drop_no_lf (length prefix) text none)
  without_prefix_no_lf false text none = tt

  not_unset_no_lf : (text : List ℕ) → HasNoLf text → SaysNoLf (not_unset prefix text)
  not_unset_no_lf text none = go (is_comment text)
    where
      go : (b : Bool) → SaysNoLf (cond b Nothing (set_or_malformed (name_and_value prefix text)))
      go true = tt
      go false = without_prefix_no_lf (bytes_eq (take (length prefix) text) prefix) text none

  text_no_lf : (text : List ℕ) → HasNoLf text → SaysNoLf (meaning_of_text prefix text)
  text_no_lf text none = go (length text == 0) (unset_name prefix text)
    where
      go : (b : Bool) (o : Option (List ℕ)) → SaysNoLf (cond b Nothing (unset_or o (not_unset prefix text)))
      go true o = tt
      go false None = not_unset_no_lf text none
      go false (Some name) = tt

  pub says_no_lf : (bytes : List ℕ) → HasNoLf bytes → SaysNoLf (meaning_of prefix bytes)
  says_no_lf bytes none = text_no_lf (trimmed bytes) (take_no_lf (length bytes - suffix_len is_blank bytes) bytes none)

-- an assigned value is allowed for its symbol
pub assigned_allowed : (tree : TreeFacts) (prefix : Notation) (bytes : List ℕ) (s : SymId) (g : GivenValue) → HasNoLf bytes → effect_of prefix.is_raw tree (meaning_of prefix.prefix bytes) ≡ Assigns s g → allowed tree s g ≡ true
assigned_allowed tree prefix bytes s g none e = effect_allowed tree prefix.is_raw (meaning_of prefix.prefix bytes) s g (says_no_lf prefix.prefix bytes none) e
