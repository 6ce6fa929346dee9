-- What the words of a fact tell: facts about the same thing whose words read the same give the same values.
use Rattle.std.proofs.Common.{◌≡◌, refl, ap, sym, subst, ◌∙◌, inl, inr, true, false, true≢false, append_assoc}
use Rattle.std.proofs.lemmas.Bool.{and_parts, cases_Bool, eqb-true}
use Rattle.std.proofs.lemmas.List.{append_cancel_left, append_cancel_right}
use Rattle.std.proofs.lemmas.Option.{none-some}
use Rattle.std.specs.Char.{is_digit}
use Rattle.std.specs.List.{AllByRecursion, flat_map, list_all}
use Rattle.std.specs.Prelude.{Bool, IfSome, List, None, Option, Some, [], codes, decimal, drop, if◌then◌else◌, length, is_some, not, option_map, slice_index, take, unwrap_or, ◌&&◌, ◌++◌, ◌==◌, ◌||◌, ◌∷◌, ◌≡◌, ℕ}
use Rattle.std.specs.Str.Parse.{digits_value, starts_with_minus}
use Rattle.kc_language.specs.{ConfigFile.{RefusedLine, string_text, text_in_config, value_by, value_text}, Expressions.{Form, text, tri_text, tristate_constant}, ExpressionTexts.{expression_text, operand_text}, Statements.{InputPrompt}, Symbols.{Bounds, StatedDefault, TreeFacts, holds_text, is_selectable, listed}, Text.{escape, has_hex_prefix, hex_of, int_of, natural_of, unescape}, Values.{GivenText, GivenTruth, GivenValue, Member, facts, is_n, name, number_as, type_in}, declared.{expressions.{SymId.{SymId}, SymbolType.{SymbolType, TheVariants.{Bool as IsBool, Hex, Int, Str, Tristate, Undefined}}, Tri.{Tri, TheVariants.{M, N, Y}}}, symbols.SelectOrImply.{SelectOrImply}}}
use Rattle.kc_language.proofs.ExpressionTexts.{unescape_escape}
use Rattle.kc_outcome.specs.Explanations.{ConditionPart, DefaultIs, DependencyIs, Fact, MemberDefaultIs, MemberIs, ModeIs, ModulesAre, NotAllowed, NotRaised, PartIs, PromptIs, RaisedBy, RangeIs, Said, article, bound_text, count_text, counting, ending, if_text, location, part_text, raised_word, type_text, words_of}
use Rattle.kc_outcome.proofs.WordLists.{before_first}

-- ---- A truth value, in front of other text or alone
tri_of : List ℕ → Tri
tri_of text = unwrap_or (tristate_constant (take 1 text)) N

tri_in : (t : Tri) (more : List ℕ) → tri_of (tri_text t ++ more) ≡ t
unfolding tri_of
tri_in N more = refl
tri_in M more = refl
tri_in Y more = refl

tri_before : (t : Tri) (more : List ℕ) → drop 1 (tri_text t ++ more) ≡ more
tri_before N more = refl
tri_before M more = refl
tri_before Y more = refl

tri_alone : (t : Tri) → tri_of (tri_text t) ≡ t
unfolding tri_of
tri_alone N = refl
tri_alone M = refl
tri_alone Y = refl

same_tri_text : (t u : Tri) → tri_text t ≡ tri_text u → t ≡ u
same_tri_text t u e = sym (tri_alone t) ∙ ap tri_of e ∙ tri_alone u

-- The value at the end of a line; and what follows it.
end_same : (front : List ℕ) (t u : Tri) → front ++ ending t ≡ front ++ ending u → t ≡ u
end_same front t u e = same_tri_text t u (ap (drop 2) (append_cancel_left front (ending t) (ending u) e))

end_and_more : (front : List ℕ) (t u : Tri) (x y : List ℕ) → front ++ ending t ++ x ≡ front ++ ending u ++ y → (t ≡ u) × (x ≡ y)
end_and_more front t u x y e =
    let both : ending t ++ x ≡ ending u ++ y =
    append_cancel_left front (ending t ++ x) (ending u ++ y) (sym (append_assoc front (ending t) x) ∙ e ∙ append_assoc front (ending u) y) in
    let rest : tri_text t ++ x ≡ tri_text u ++ y = ap (drop 2) both in
    (sym (tri_in t x) ∙ ap tri_of rest ∙ tri_in u y, sym (tri_before t x) ∙ ap (drop 1) rest ∙ tri_before u y)

-- ---- What the text of a value tells
string_same : (is_raw : Bool) (x y : List ℕ) → string_text is_raw x ≡ string_text is_raw y → x ≡ y
string_same true x y e = append_cancel_right x y (codes "\"") (ap (drop 1) e)
string_same false x y e =
    sym (unescape_escape x) ∙ ap unescape (append_cancel_right (escape x) (escape y) (codes "\"") (ap (drop 1) e)) ∙ unescape_escape y

pub text_same : (is_raw : Bool) (kind : SymbolType) (x y : List ℕ) → text_in_config is_raw kind x ≡ text_in_config is_raw kind y → x ≡ y
text_same is_raw Str x y e = string_same is_raw x y e
text_same is_raw Int x y e = e
text_same is_raw Hex x y e = e
text_same is_raw Undefined x y e = e
text_same is_raw IsBool x y e = e
text_same is_raw Tristate x y e = e

-- ---- A number has no blank
abbrev pub Plain : List ℕ → Type 0
Plain = AllByRecursion (λ b. (b == 32) ≡ false)

digits_plain : (radix : ℕ) (ds : List ℕ) → is_digit 32 radix ≡ false → list_all (λ c. is_digit c radix) ds ≡ true → Plain ds
digits_plain radix [] blank e = tt
digits_plain radix (d ∷ ds) blank e =
    let parts = and_parts (is_digit d radix) (list_all (λ c. is_digit c radix) ds) e in (
      elim (cases_Bool (d == 32)) [
        | inl is ↦ absurd (true≢false (sym parts.0 ∙ ap (λ c. is_digit c radix) (eqb-true d 32 is) ∙ blank))
        | inr other ↦ other
      ],
      digits_plain radix ds blank parts.1,
    )

if_some : (b : Bool) (n : ℕ) → is_some (if b then Some n else None) ≡ true → b ≡ true
if_some true n e = refl
if_some false n e = e

natural_plain : (radix limit : ℕ) (ds : List ℕ) → is_digit 32 radix ≡ false → is_some (natural_of radix limit ds) ≡ true → Plain ds
unfolding natural_of
natural_plain radix limit ds blank e =
    let all = and_parts _ _ (if_some _ (digits_value radix ds) e) in digits_plain radix ds blank (and_parts _ _ all.0).1

some_map : {A B : Type 0} (f : A → B) (o : Option A) → is_some (option_map f o) ≡ true → is_some o ≡ true
some_map f None e = e
some_map f (Some x) e = refl

other_byte : (b c : ℕ) → (b == c) ≡ true → (c == 32) ≡ false → (b == 32) ≡ false
other_byte b c e f = ap (λ x. x == 32) (eqb-true b c e) ∙ f

signed : (text : List ℕ) → starts_with_minus text ≡ true → Plain (drop 1 text) → Plain text
signed [] minus all = tt
signed (b ∷ bs) minus all = (other_byte b 45 minus refl, all)

either_byte : (b : ℕ) → (b == 120 || b == 88) ≡ true → (b == 32) ≡ false
either_byte b e = elim (cases_Bool (b == 120)) [
  | inl is ↦ other_byte b 120 is refl
  | inr other ↦ let here : (b == 88) ≡ true = rw other at e in other_byte b 88 here refl
]

prefixed : (text : List ℕ) → has_hex_prefix text ≡ true → Plain (drop 2 text) → Plain text
prefixed [] has all = tt
prefixed (b ∷ []) has all = (other_byte b 48 (and_parts (b == 48) false has).0 refl, tt)
prefixed (b ∷ c ∷ bs) has all =
    let parts = and_parts (b == 48) (c == 120 || c == 88) has in (other_byte b 48 parts.0 refl, (either_byte c parts.1, all))

int_plain : (text : List ℕ) → is_some (int_of text) ≡ true → Plain text
int_plain text e = elim (cases_Bool (starts_with_minus text)) [
  | inl minus ↦ signed text minus (natural_plain 10 _ (drop 1 text) refl (some_map _ _ (rw minus at e)))
  | inr other ↦ natural_plain 10 _ text refl (some_map _ _ (rw other at e))
]

hex_plain : (text : List ℕ) → is_some (hex_of text) ≡ true → Plain text
hex_plain text e = elim (cases_Bool (has_hex_prefix text)) [
  | inl has ↦ prefixed text has (natural_plain 16 _ (drop 2 text) refl (rw has at (some_map _ _ e)))
  | inr other ↦ natural_plain 16 _ text refl (rw other at (some_map _ _ e))
]

pub number_plain : (kind : SymbolType) (text : List ℕ) → is_some (number_as kind text) ≡ true → Plain text
number_plain Int text e = int_plain text e
number_plain Hex text e = hex_plain text e
number_plain Undefined text e = absurd (true≢false (sym e))
number_plain IsBool text e = absurd (true≢false (sym e))
number_plain Tristate text e = absurd (true≢false (sym e))
number_plain Str text e = absurd (true≢false (sym e))

bound_plain : (kind : SymbolType) (bytes : List ℕ) → Plain (bound_text kind bytes)
bound_plain kind bytes = elim (cases_Bool (is_some (number_as kind bytes))) [
  | inl e ↦ rw e (number_plain kind bytes e)
  | inr e ↦ rw e (refl, tt)
]

-- ---- The last bytes of a line
pub is_value : ℕ → Bool
is_value c = c == 121 || (c == 109 || c == 110)

-- Whether a text ends in `: y`, `: m` or `: n`, if a, b and c stand in front of it; and its last byte, or c.
pub ends_by : ℕ → ℕ → ℕ → List ℕ → Bool
ends_by a b c [] = is_value c && (b == 32 && a == 58)
ends_by a b c (x ∷ xs) = ends_by b c x xs

pub last_byte : ℕ → List ℕ → ℕ
last_byte c [] = c
last_byte c (x ∷ xs) = last_byte x xs

abbrev pub ends_in_value : List ℕ → Bool
ends_in_value = ends_by 0 0 0

abbrev pub does_raise : List ℕ → Bool
does_raise words = not (last_byte 0 words == 110)

end_after : (r : Bool) (p z : List ℕ) → ((a b c : ℕ) → ends_by a b c z ≡ r) → (a b c : ℕ) → ends_by a b c (p ++ z) ≡ r
unfolding ends_by
end_after r [] z e a b c = e a b c
end_after r (x ∷ p) z e a b c = end_after r p z e b c x

last_after : (r : ℕ) (p z : List ℕ) → ((c : ℕ) → last_byte c z ≡ r) → (c : ℕ) → last_byte c (p ++ z) ≡ r
unfolding last_byte
last_after r [] z e c = e c
last_after r (x ∷ p) z e c = last_after r p z e x

-- The line of a dependency ends so.
ending_ends : (t : Tri) (a b c : ℕ) → ends_by a b c (ending t) ≡ true
unfolding ends_by is_value
ending_ends N a b c = refl
ending_ends M a b c = refl
ending_ends Y a b c = refl

-- No line about what the user gave does.
plain_ends : (text : List ℕ) (a b c : ℕ) → (b == 32) ≡ false → (c == 32) ≡ false → Plain text → ends_by a b c text ≡ false
unfolding ends_by
plain_ends [] a b c e f h = rw e (never (is_value c))
  where
    never : (b : Bool) → (b && false) ≡ false
    never true = refl
    never false = refl
plain_ends (x ∷ text) a b c e f h = plain_ends text b c x f h.0 h.1

number_ends : (text : List ℕ) → Plain text → ends_in_value (codes "user value " ++ text) ≡ false
unfolding ends_by is_value
number_ends [] h = refl
number_ends (x ∷ []) h = never (x == 121 || (x == 109 || x == 110))
  where
    never : (b : Bool) → (b && false) ≡ false
    never true = refl
    never false = refl
number_ends (x ∷ y ∷ text) h = plain_ends text 32 x y h.0 (h.1).0 (h.1).1

truth_ends : (t : Tri) → ends_in_value (codes "user value " ++ tri_text t) ≡ false
unfolding ends_by is_value
truth_ends N = refl
truth_ends M = refl
truth_ends Y = refl

quote_ends : (a b c : ℕ) → ends_by a b c (codes "\"") ≡ false
unfolding ends_by is_value
quote_ends a b c = refl

string_ends : (is_raw : Bool) (text : List ℕ) → ends_in_value (codes "user value " ++ string_text is_raw text) ≡ false
string_ends true text = end_after false (codes "user value \"" ++ text) (codes "\"") quote_ends 0 0 0
string_ends false text = end_after false (codes "user value \"" ++ escape text) (codes "\"") quote_ends 0 0 0

type_ends : (kind : SymbolType) (a b c : ℕ) → ends_by a b c (type_text kind) ≡ false
unfolding ends_by is_value
type_ends Undefined a b c = refl
type_ends IsBool a b c = refl
type_ends Tristate a b c = refl
type_ends Str a b c = refl
type_ends Int a b c = refl
type_ends Hex a b c = refl

-- ---- What the user gave: a truth value or a text
abbrev pub truth_given : Option GivenValue → Option Tri
truth_given given = elim given [ Some (GivenTruth t) ↦ Some t | _ ↦ None ]

abbrev pub text_given : Option GivenValue → Option (List ℕ)
text_given given = elim given [ Some (GivenText t) ↦ Some t | _ ↦ None ]

module _ (is_raw : Bool) where
  abbrev pub user_words : SymbolType → Option GivenValue → List ℕ
  user_words kind given = elim (counting kind given) [ None ↦ codes "no user value" | Some g ↦ codes "user value " ++ value_text is_raw kind g ]

  abbrev said : SymbolType → Option GivenValue → List ℕ
  said kind counted = elim counted [ None ↦ codes "no user value" | Some g ↦ codes "user value " ++ value_text is_raw kind g ]

  none_ends : ends_in_value (codes "no user value") ≡ false
  unfolding ends_by is_value
  none_ends = refl

  given_number : (b : Bool) (line text : List ℕ) → (if b then Some (GivenText line) else None) ≡ Some (GivenText text) → (b ≡ true) × (line ≡ text)
  given_number true line text e = (refl, cc)
  given_number false line text e = absurd (none-some (GivenText text) e)

  no_text : (o : Option Tri) (text : List ℕ) → option_map GivenTruth o ≡ Some (GivenText text) → ⊥
  no_text None text e = none-some (GivenText text) e
  no_text (Some t) text e = cc

  -- It does not end like the line of a dependency.
  text_ends : (kind : SymbolType) (text : List ℕ) → ((line : List ℕ) × (value_by is_raw kind line ≡ Some (GivenText text))) →
      ends_in_value (codes "user value " ++ text_in_config is_raw kind text) ≡ false
  text_ends Str text by = string_ends is_raw text
  text_ends Int text by =
      let is = given_number (is_some (int_of by.0)) by.0 text by.1 in number_ends text (subst Plain is.1 (int_plain by.0 is.0))
  text_ends Hex text by =
      let is = given_number (is_some (hex_of by.0)) by.0 text by.1 in number_ends text (subst Plain is.1 (hex_plain by.0 is.0))
  text_ends Undefined text by = absurd (none-some (GivenText text) by.1)
  text_ends IsBool text by = absurd (no_text _ text by.1)
  text_ends Tristate text by = absurd (no_text _ text by.1)

  pub user_ends : (kind : SymbolType) (given : Option GivenValue) → IfSome given (λ g. (line : List ℕ) × (value_by is_raw kind line ≡ Some g)) →
      ends_in_value (user_words kind given) ≡ false
  user_ends kind None by = none_ends
  user_ends kind (Some (Member m)) by = none_ends
  user_ends kind (Some (GivenTruth t)) by = of (is_selectable kind)
    where
      of : (b : Bool) → ends_in_value (said kind (if b then Some (GivenTruth t) else None)) ≡ false
      of true = truth_ends t
      of false = none_ends
  user_ends kind (Some (GivenText text)) by = of (holds_text kind)
    where
      of : (b : Bool) → ends_in_value (said kind (if b then Some (GivenText text) else None)) ≡ false
      of true = text_ends kind text by
      of false = none_ends

  -- What counts is the same if the words are.
  no_value : {value : List ℕ} → codes "no user value" ≡ codes "user value " ++ value → ⊥
  no_value e = true≢false (ap (λ words. slice_index words 0 == 110) e)

  truth_same : (o p : Option Tri) (kind : SymbolType) → said kind (option_map GivenTruth o) ≡ said kind (option_map GivenTruth p) → o ≡ p
  truth_same None None kind e = refl
  truth_same None (Some u) kind e = absurd (no_value e)
  truth_same (Some t) None kind e = absurd (no_value (sym e))
  truth_same (Some t) (Some u) kind e = ap Some (same_tri_text t u (ap (drop 11) e))

  texts_same : (o p : Option (List ℕ)) (kind : SymbolType) → said kind (option_map GivenText o) ≡ said kind (option_map GivenText p) → o ≡ p
  texts_same None None kind e = refl
  texts_same None (Some u) kind e = absurd (no_value e)
  texts_same (Some t) None kind e = absurd (no_value (sym e))
  texts_same (Some t) (Some u) kind e = ap Some (text_same is_raw kind t u (ap (drop 11) e))

  counted_truth : (kind : SymbolType) → is_selectable kind ≡ true → (given : Option GivenValue) → counting kind given ≡ option_map GivenTruth (truth_given given)
  counted_truth kind e None = refl
  counted_truth kind e (Some (GivenTruth t)) = rw e refl
  counted_truth kind e (Some (GivenText x)) = rw e refl
  counted_truth kind e (Some (Member m)) = refl

  counted_text : (kind : SymbolType) → is_selectable kind ≡ false → (given : Option GivenValue) → counting kind given ≡ option_map GivenText (text_given given)
  counted_text kind e None = refl
  counted_text kind e (Some (GivenTruth t)) = rw e refl
  counted_text kind e (Some (GivenText x)) = rw e refl
  counted_text kind e (Some (Member m)) = refl

  pub same_truth_given : (kind : SymbolType) → is_selectable kind ≡ true → (g h : Option GivenValue) → user_words kind g ≡ user_words kind h → truth_given g ≡ truth_given h
  same_truth_given kind e g h same = truth_same (truth_given g) (truth_given h) kind
      (ap (said kind) (sym (counted_truth kind e g)) ∙ same ∙ ap (said kind) (counted_truth kind e h))

  pub same_text_given : (kind : SymbolType) → is_selectable kind ≡ false → (g h : Option GivenValue) → user_words kind g ≡ user_words kind h → text_given g ≡ text_given h
  same_text_given kind e g h same = texts_same (text_given g) (text_given h) kind
      (ap (said kind) (sym (counted_text kind e g)) ∙ same ∙ ap (said kind) (counted_text kind e h))

  module _ (tree : TreeFacts) where
    abbrev word : Fact → List ℕ
    word = words_of is_raw tree

    -- ---- Facts about the same thing
    pub part : (p : ConditionPart) (t u : Tri) → word (PartIs p t) ≡ word (PartIs p u) → PartIs p t ≡ PartIs p u
    part p t u e = ap (PartIs p) (end_same (codes "  " ++ location is_raw tree p.at ++ part_text is_raw tree p) t u e)

    pub dependency : (i : ℕ) (t u : Tri) → word (DependencyIs i t) ≡ word (DependencyIs i u) → DependencyIs i t ≡ DependencyIs i u
    dependency i t u e = ap (DependencyIs i) (end_same (location is_raw tree i ++ codes "dependencies") t u e)

    pub prompt : (p : Said (InputPrompt Form)) (t u : Tri) → word (PromptIs p t) ≡ word (PromptIs p u) → PromptIs p t ≡ PromptIs p u
    prompt p t u e = ap (PromptIs p) (end_same (location is_raw tree p.at ++ codes "prompt") t u e)

    pub mode : (j k : ℕ) (t u : Tri) → word (ModeIs j k t) ≡ word (ModeIs j k u) → t ≡ u
    mode j k t u e = end_same (location is_raw tree j ++ codes "choice") t u e

    pub modules : (m : SymId) (t u : Tri) → word (ModulesAre m t) ≡ word (ModulesAre m u) → ModulesAre m t ≡ ModulesAre m u
    modules m t u e = ap (ModulesAre m) (same_tri_text t u (append_cancel_left (name tree m ++ codes "=") (tri_text t) (tri_text u) (ap (drop 8) e)))

    pub member : (m n : SymId) (t u : Tri) → name tree m ≡ name tree n → word (MemberIs m t) ≡ word (MemberIs n u) → t ≡ u
    member m n t u same e = end_same (codes "member " ++ name tree n) t u (ap (λ x. codes "member " ++ x ++ ending t) (sym same) ∙ e)

    pub member_default : (d : Said (SymId × Option Form)) (t u x y : Tri) → word (MemberDefaultIs d t x) ≡ word (MemberDefaultIs d u y) → (t ≡ u) × (x ≡ y)
    member_default d t u x y e =
        let front = location is_raw tree d.at ++ codes "default " ++ name tree (d.what).0 ++ if_text is_raw tree (d.what).1 in
        let tail = λ (v : Tri). codes ", its prompt" ++ ending v in
        let both = end_and_more front t u (tail x) (tail y)
        (sym (append_assoc (front ++ ending t) (codes ", its prompt") (ending x)) ∙ e ∙ append_assoc (front ++ ending u) (codes ", its prompt") (ending y)) in
        (both.0, end_same (codes ", its prompt") x y both.1)

    -- What is given is told only if the condition is not n.
    abbrev if_met : {X : Type 0} → Tri → X → Option X
    if_met t x = if not (is_n t) then Some x else None

    told_if : {X : Type 0} (say : X → List ℕ) (x y : X) (t u : Tri) → ((say x ++ [] ≡ say y ++ []) → x ≡ y) → t ≡ u →
        flat_map say (listed (if_met t x)) ≡ flat_map say (listed (if_met u y)) → if_met t x ≡ if_met u y
    told_if say x y t u same is e = of t (subst (λ z. flat_map say (listed (if_met t x)) ≡ flat_map say (listed (if_met z y))) (sym is) e) ∙ ap (λ z. if_met z y) is
      where
        of : (t : Tri) → flat_map say (listed (if_met t x)) ≡ flat_map say (listed (if_met t y)) → if_met t x ≡ if_met t y
        of N e = refl
        of M e = ap Some (same e)
        of Y e = ap Some (same e)

    abbrev given_by : SymbolType → List ℕ → Tri → GivenValue
    given_by kind x t = if holds_text kind then GivenText x else GivenTruth t

    value_same : (kind : SymbolType) (x y : List ℕ) (p q : Tri) → value_text is_raw kind (given_by kind x p) ≡ value_text is_raw kind (given_by kind y q) →
        given_by kind x p ≡ given_by kind y q
    value_same Undefined x y p q e = ap GivenTruth (same_tri_text p q e)
    value_same IsBool x y p q e = ap GivenTruth (same_tri_text p q e)
    value_same Tristate x y p q e = ap GivenTruth (same_tri_text p q e)
    value_same Str x y p q e = ap GivenText (text_same is_raw Str x y e)
    value_same Int x y p q e = ap GivenText e
    value_same Hex x y p q e = ap GivenText e

    pub default : (kind : SymbolType) (d : Said StatedDefault) (x y : List ℕ) (p q t u : Tri) →
        word (DefaultIs kind d t (if_met t (given_by kind x p))) ≡ word (DefaultIs kind d u (if_met u (given_by kind y q))) →
        (DefaultIs kind d t (if_met t (given_by kind x p)) ≡ DefaultIs kind d u (if_met u (given_by kind y q))) × (t ≡ u)
    default kind d x y p q t u e =
        let say = λ (g : GivenValue). codes ", value " ++ value_text is_raw kind g in
        let a = given_by kind x p in let b = given_by kind y q in
        let both = end_and_more (location is_raw tree d.at ++ codes "default " ++ expression_text tree.names (d.what).value ++ if_text is_raw tree (d.what).when)
        t u (flat_map say (listed (if_met t a))) (flat_map say (listed (if_met u b))) e in
        let given = told_if say a b t u (λ f. value_same kind x y p q (append_cancel_right _ _ [] (ap (drop 8) f))) both.0 both.1 in
        (ap (λ z. DefaultIs kind d z (if_met t a)) both.0 ∙ ap (DefaultIs kind d u) given, both.0)

    abbrev bounds : SymbolType → List ℕ → List ℕ → List ℕ × List ℕ
    bounds kind a b = (bound_text kind a, bound_text kind b)

    abbrev between : List ℕ × List ℕ → List ℕ
    between c = codes ", " ++ c.0 ++ codes " to " ++ c.1

    between_same : (kind : SymbolType) (a b x y : List ℕ) → between (bounds kind a b) ++ [] ≡ between (bounds kind x y) ++ [] → bounds kind a b ≡ bounds kind x y
    between_same kind a b x y e =
        let low = bound_text kind a in let high = bound_text kind b in let other_low = bound_text kind x in let other_high = bound_text kind y in
        let bare : low ++ codes " to " ++ high ≡ other_low ++ codes " to " ++ other_high =
        append_cancel_right (low ++ codes " to " ++ high) (other_low ++ codes " to " ++ other_high) [] (ap (drop 2) e) in
        let both = before_first (λ c. c == 32) low other_low 32 32 (codes "to " ++ high) (codes "to " ++ other_high) (bound_plain kind a) (bound_plain kind x) refl refl
        (sym (append_assoc low (codes " to ") high) ∙ bare ∙ append_assoc other_low (codes " to ") other_high) in
        let first = both.0 in let second : high ≡ other_high = ap (drop 4) both.1 in
        ap (λ z. let pair : List ℕ × List ℕ = (z, high) in pair) first ∙ ap (λ z. let pair : List ℕ × List ℕ = (other_low, z) in pair) second

    pub range : (kind : SymbolType) (r : Said (Bounds × Option Form)) (a b x y : List ℕ) (t u : Tri) →
        word (RangeIs kind r t (if_met t (bounds kind a b))) ≡ word (RangeIs kind r u (if_met u (bounds kind x y))) →
        (RangeIs kind r t (if_met t (bounds kind a b)) ≡ RangeIs kind r u (if_met u (bounds kind x y))) × (t ≡ u)
    range kind r a b x y t u e =
        let first = bounds kind a b in let second = bounds kind x y in
        let bound = operand_text tree.names in
        let both = end_and_more (location is_raw tree r.at ++ codes "range " ++ bound (r.what).0.low ++ codes " " ++ bound (r.what).0.high ++ if_text is_raw tree (r.what).1)
        t u (flat_map between (listed (if_met t first))) (flat_map between (listed (if_met u second))) e in
        let given = told_if between first second t u (between_same kind a b x y) both.0 both.1 in
        (ap (λ z. RangeIs kind r z (if_met t first)) both.0 ∙ ap (RangeIs kind r u) given, both.0)

    -- The lines that raise, and the one about all the others.
    ending_last : (t : Tri) (c : ℕ) → last_byte c (ending t) ≡ last_byte 0 (tri_text t)
    unfolding last_byte
    ending_last N c = refl
    ending_last M c = refl
    ending_last Y c = refl

    raised_last : (word_of : SelectOrImply) (r : SymId × Said (Option Form)) (t u : Tri) → last_byte 0 (word (RaisedBy word_of r t u)) ≡ last_byte 0 (tri_text u)
    raised_last word_of r t u = last_after (last_byte 0 (tri_text u)) _ (ending u) (ending_last u) 0

    last_tri : (u : Tri) → tri_of (last_byte 0 (tri_text u) ∷ []) ≡ u
    unfolding last_byte tri_of
    last_tri N = refl
    last_tri M = refl
    last_tri Y = refl

    pub raised : (word_of : SelectOrImply) (r s : SymId × Said (Option Form)) (t u x y : Tri) → word (RaisedBy word_of r t u) ≡ word (RaisedBy word_of s x y) → u ≡ y
    raised word_of r s t u x y e =
        sym (last_tri u) ∙ ap (λ b. tri_of (b ∷ [])) (sym (raised_last word_of r t u) ∙ ap (last_byte 0) e ∙ raised_last word_of s x y) ∙ last_tri y

    pub raised_raises : (word_of : SelectOrImply) (r : SymId × Said (Option Form)) (t u : Tri) → not (is_n u) ≡ true → does_raise (word (RaisedBy word_of r t u)) ≡ true
    unfolding last_byte
    raised_raises word_of r t u e = ap (λ b. not (b == 110)) (raised_last word_of r t u) ∙ of u e
      where
        of : (u : Tri) → not (is_n u) ≡ true → not (last_byte 0 (tri_text u) == 110) ≡ true
        of N e = absurd (true≢false (sym e))
        of M e = refl
        of Y e = refl

    n_last : (n c : ℕ) → last_byte c (count_text is_raw tree n) ≡ 110
    unfolding last_byte
    n_last n c = elim (cases_Bool (n == 1)) [
      | inl e ↦ rw e refl
      | inr e ↦ rw e (last_after 110 (codes ": " ++ decimal n) (codes " lines, all n") (λ b. refl) c)
    ]

    pub others_raise_not : (word_of : SelectOrImply) (rs : List (SymId × Said (Option Form))) → does_raise (word (NotRaised word_of rs)) ≡ false
    others_raise_not word_of rs = ap (λ b. not (b == 110)) (last_after 110 (codes "not " ++ raised_word word_of) (count_text is_raw tree (length rs)) (n_last (length rs)) 0)

    -- ---- The lines about what the user gave, and that of a dependency
    pub not_allowed_ends : (s : SymId) (line : RefusedLine) → ends_in_value (word (NotAllowed s line)) ≡ false
    not_allowed_ends s line =
        let kind = type_in (facts tree s) in
        end_after false (codes "user value " ++ line.value ++ codes ": not allowed for " ++ article kind) (type_text kind) (type_ends kind) 0 0 0

    pub dependency_ends : (i : ℕ) (t : Tri) → ends_in_value (word (DependencyIs i t)) ≡ true
    dependency_ends i t = end_after true (location is_raw tree i ++ codes "dependencies") (ending t) (ending_ends t) 0 0 0

    -- The lines about the member that a line chose.
    abbrev choosing : Option SymId → List ℕ
    choosing chosen = elim chosen [ None ↦ codes "no chosen member" | Some m ↦ codes "chosen member " ++ name tree m ]

    pub chosen_named : (m n : SymId) → choosing (Some m) ≡ choosing (Some n) → name tree m ≡ name tree n
    chosen_named m n e = ap (drop 14) e

    pub chosen_none : (m : SymId) → choosing None ≡ choosing (Some m) → ⊥
    chosen_none m e = true≢false (ap (λ words. slice_index words 0 == 110) e)
