-- A line is one marker, or none.
use Rattle.std.proofs.{Common.{Bool, List, None, Option, Some, [], ap, append_assoc, arith, cond, drop, false, get_or, inl, inr, length, refl, subst, suc, sym, take, true, zero, ℕ, ◌++◌, ◌+◌, ◌-◌, ◌<◌, ◌^◌, ◌∙◌, ◌∷◌, ◌≡◌, ◌≢◌, ◌≤◌, ◌⊎◌}, Math.Seq.{drop-append_seam, get_or-append_seam, take-append_seam}, lemmas.{Bool.{and_left, and_right, both_ways, cases_Bool, cases_eq, cases_lt}, List.{Elements.{All-cons, All-head, All-nil, All-tail}, Folds.list_all_at, append_cancel_right, get_or-take, get_or_append_left, length-append, length-take-le, take-append-drop}}}
use Rattle.std.specs.{Char.is_digit, List.list_all, Prelude.{All, ◌&&◌}}
use Rattle.kc_language.specs.{Expansion.IsMarker, Text.natural_of}
use Rattle.kc_text.specs.{Markers.{IsDigitFront, IsQuotedName}, PartsOfText.all_digits}

-- ---- The digits

-- what is read as a number is made of digits
number_digits : (b c d : Bool) (v n : ℕ) → cond (b && c && d) (Some v) None ≡ Some n → c ≡ true
number_digits true true d v n e = refl
number_digits true false d v n e = absurd cc
number_digits false c d v n e = absurd cc

natural_digits : (limit n : ℕ) (ds : List ℕ) → natural_of 10 limit ds ≡ Some n → all_digits 10 ds ≡ true
unfolding natural_of
natural_digits limit n ds e = number_digits _ (all_digits 10 ds) _ _ n e

all_at : (ds : List ℕ) (k : ℕ) → all_digits 10 ds ≡ true → k < length ds → is_digit (get_or ds k 0) 10 ≡ true
all_at ds k e lt = elim (cases_Bool (is_digit (get_or ds k 0) 10)) [
  | inl is ↦ is
  | inr is_none ↦ absurd (both_ways (all_digits 10 ds) (list_all_at (λ c. is_digit c 10) ds k 0 lt is_none) e)
]

-- the digits before a blank are all digits at the front
front_is : (text ds rest : List ℕ) (n : ℕ) → text ≡ ds ++ 32 ∷ rest → all_digits 10 ds ≡ true → IsDigitFront text n → n ≡ length ds
front_is text ds rest n e all f =
    let long : length text ≡ length ds + suc (length rest) = ap length e ∙ length-append ds (32 ∷ rest) in
    elim (cases_lt n (length ds)) [
      | inl lt ↦
          let here : get_or text n 0 ≡ get_or ds n 0 = ap (λ t. get_or t n 0) e ∙ get_or_append_left ds (32 ∷ rest) 0 n lt in
          absurd (both_ways _ (f.stops (omega arith)) (ap (λ b. is_digit b 10) here ∙ all_at ds n all lt))
      | inr le ↦ elim (cases_lt (length ds) n) [
        | inr le2 ↦ omega arith
        | inl lt ↦
            let in_front : length ds < length (take n text) = omega (arith, length-take-le n text f.within) in
            let here : get_or (take n text) (length ds) 0 ≡ 32 = get_or-take n text (length ds) 0 lt ∙ ap (λ t. get_or t (length ds) 0) e ∙ get_or-append_seam ds 32 rest 0 in
            absurd (both_ways (is_digit 32 10) refl (sym (ap (λ b. is_digit b 10) here) ∙ all_at (take n text) (length ds) f.digits in_front))
      ]
    ]

digit_front : (text : List ℕ) → (n : ℕ) × IsDigitFront text n
digit_front [] = (0, record { within = omega arith; digits = refl; stops = λ lt. absurd (omega arith) })
digit_front (b ∷ text) = elim (cases_Bool (is_digit b 10)) [
  | inl e ↦
      let (n, f) = digit_front text in
      (suc n, record { within = (let w = f.within in omega arith); digits = rw e f.digits; stops = λ lt. f.stops (omega arith) })
  | inr e ↦ (0, record { within = omega arith; digits = refl; stops = λ lt. e })
]

-- ---- The name

quoted_or_not : (text : List ℕ) → ((name : List ℕ) × (text ≡ name ++ 34 ∷ []) × All (λ b. b ≢ 34) name) ⊎ ((name : List ℕ) → text ≡ name ++ 34 ∷ [] → All (λ b. b ≢ 34) name → ⊥)
quoted_or_not [] = inr none
  where
    none : (name : List ℕ) → [] ≡ name ++ 34 ∷ [] → All (λ b. b ≢ 34) name → ⊥
    none [] e a = absurd cc
    none (b ∷ name) e a = absurd cc
quoted_or_not (b ∷ text) = elim (cases_eq b 34) [
  | inl q ↦ last text q
  | inr differs ↦ elim (quoted_or_not text) [
    | inl (name, e, a) ↦ inl (b ∷ name, ap (λ t. b ∷ t) e, All-cons (λ c. c ≢ 34) b name differs a)
    | inr none ↦ inr (later differs none)
  ]
]
  where
    no_more : (x : ℕ) (more name : List ℕ) → b ≡ 34 → b ∷ (x ∷ more) ≡ name ++ 34 ∷ [] → All (λ c. c ≢ 34) name → ⊥
    no_more x more [] q e a = absurd cc
    no_more x more (c ∷ name) q e a = All-head (λ d. d ≢ 34) c name a (let same : b ≡ c = cc in sym same ∙ q)

    last : (t : List ℕ) → b ≡ 34 → ((name : List ℕ) × (b ∷ t ≡ name ++ 34 ∷ []) × All (λ c. c ≢ 34) name) ⊎ ((name : List ℕ) → b ∷ t ≡ name ++ 34 ∷ [] → All (λ c. c ≢ 34) name → ⊥)
    last [] q = inl ([], ap (λ x. x ∷ []) q, All-nil (λ c. c ≢ 34))
    last (x ∷ more) q = inr (λ name e a. no_more x more name q e a)

    later : b ≢ 34 → ((name : List ℕ) → text ≡ name ++ 34 ∷ [] → All (λ c. c ≢ 34) name → ⊥) → (name : List ℕ) → b ∷ text ≡ name ++ 34 ∷ [] → All (λ c. c ≢ 34) name → ⊥
    later differs none [] e a = differs cc
    later differs none (c ∷ name) e a = let rest : text ≡ name ++ 34 ∷ [] = cc in none name rest (All-tail (λ d. d ≢ 34) c name a)

named_or_not : (text : List ℕ) → ((name : List ℕ) × IsQuotedName text name) ⊎ ((name : List ℕ) → IsQuotedName text name → ⊥)
named_or_not [] = inr (λ name i. absurd cc i.0)
named_or_not (a ∷ []) = inr (λ name i. absurd cc i.0)
named_or_not (a ∷ b ∷ text) = elim (cases_eq a 32) [
  | inr differs ↦ inr (λ name i. differs (let h : a ∷ (b ∷ text) ≡ 32 ∷ (34 ∷ (name ++ 34 ∷ [])) = i.0 in cc))
  | inl is_a ↦ elim (cases_eq b 34) [
    | inr differs ↦ inr (λ name i. differs (let h : a ∷ (b ∷ text) ≡ 32 ∷ (34 ∷ (name ++ 34 ∷ [])) = i.0 in cc))
    | inl is_b ↦ elim (quoted_or_not text) [
      | inl (name, e, all) ↦ inl (name, ((λ i. is_a i ∷ (is_b i ∷ e i)), all))
      | inr none ↦ inr (λ name i. none name (let h : a ∷ (b ∷ text) ≡ 32 ∷ (34 ∷ (name ++ 34 ∷ [])) = i.0 in cc) i.1)
    ]
  ]
]

one_ending : (name other : List ℕ) → name ++ 34 ∷ [] ≡ other ++ 34 ∷ [] → name ≡ other
one_ending name other e = append_cancel_right name other (34 ∷ []) e

-- ---- The marker

-- its parts
pub record IsParted (line : List ℕ) (n : ℕ) (name : List ℕ) : Type 0 where
  pub digits : List ℕ
  pub whole : line ≡ 35 ∷ 32 ∷ (digits ++ 32 ∷ 34 ∷ (name ++ 34 ∷ []))
  pub number : natural_of 10 (2 ^ 32) digits ≡ Some n
  pub none : All (λ b. b ≢ 34) name

regroup : (digits name : List ℕ) → digits ++ 32 ∷ 34 ∷ [] ++ name ++ 34 ∷ [] ≡ digits ++ 32 ∷ 34 ∷ (name ++ 34 ∷ [])
regroup digits name = append_assoc (digits ++ 32 ∷ 34 ∷ []) name (34 ∷ []) ∙ append_assoc digits (32 ∷ 34 ∷ []) (name ++ 34 ∷ [])

pub parted : (line : List ℕ) (n : ℕ) (name : List ℕ) → IsMarker line n name → IsParted line n name
parted line n name m = record { digits = m.0; whole = m.1 ∙ ap (λ t. 35 ∷ 32 ∷ t) (regroup m.0 name); number = m.2; none = m.3 }

pub made : (line : List ℕ) (n : ℕ) (name : List ℕ) → IsParted line n name → IsMarker line n name
made line n name p = (p.digits, p.whole ∙ ap (λ t. 35 ∷ 32 ∷ t) (sym (regroup p.digits name)), p.number, p.none)

-- the marker by its body, whose digits are known
module _ (line body : List ℕ) (count : ℕ) (e : line ≡ 35 ∷ 32 ∷ body) (front : IsDigitFront body count) where
  parts_of : (n : ℕ) (name : List ℕ) → IsMarker line n name → (natural_of 10 (2 ^ 32) (take count body) ≡ Some n) × IsQuotedName (drop count body) name
  parts_of n name m =
      let p = parted line n name m in
      let whole : body ≡ p.digits ++ 32 ∷ 34 ∷ (name ++ 34 ∷ []) = let h : 35 ∷ 32 ∷ body ≡ 35 ∷ 32 ∷ (p.digits ++ 32 ∷ 34 ∷ (name ++ 34 ∷ [])) = sym e ∙ p.whole in cc in
      let same : count ≡ length p.digits = front_is body p.digits (34 ∷ (name ++ 34 ∷ [])) count whole (natural_digits (2 ^ 32) n p.digits p.number) front in
      let digits : take count body ≡ p.digits = (λ i. take (same i) (whole i)) ∙ take-append_seam p.digits (32 ∷ 34 ∷ (name ++ 34 ∷ [])) in
      let rest : drop count body ≡ 32 ∷ 34 ∷ (name ++ 34 ∷ []) = (λ i. drop (same i) (whole i)) ∙ drop-append_seam p.digits (32 ∷ 34 ∷ (name ++ 34 ∷ [])) in
      (ap (natural_of 10 (2 ^ 32)) digits ∙ p.number, (rest, p.none))

  pub marker_here : (n : ℕ) (name : List ℕ) → natural_of 10 (2 ^ 32) (take count body) ≡ Some n → IsQuotedName (drop count body) name → IsMarker line n name
  marker_here n name number i = made line n name (record {
    digits = take count body;
    whole = e ∙ ap (λ t. 35 ∷ 32 ∷ t) (sym (take-append-drop count body) ∙ ap (λ t. take count body ++ t) i.0);
    number = number;
    none = i.1;
  })

  pub no_name_here : ((name : List ℕ) → IsQuotedName (drop count body) name → ⊥) → (n : ℕ) (name : List ℕ) → IsMarker line n name → ⊥
  no_name_here none n name m = none name (parts_of n name m).1

  pub no_number_here : natural_of 10 (2 ^ 32) (take count body) ≡ None → (n : ℕ) (name : List ℕ) → IsMarker line n name → ⊥
  no_number_here none n name m = let h : None ≡ Some n = sym none ∙ (parts_of n name m).0 in absurd cc

  one_here : (n m : ℕ) (name other : List ℕ) → IsMarker line n name → IsMarker line m other → (n ≡ m) × (name ≡ other)
  one_here n m name other x y =
      let p = parts_of n name x in
      let q = parts_of m other y in
      let number : Some n ≡ Some m = sym p.0 ∙ q.0 in
      let rest : 32 ∷ 34 ∷ (name ++ 34 ∷ []) ≡ 32 ∷ 34 ∷ (other ++ 34 ∷ []) = sym p.1.0 ∙ q.1.0 in
      let ending : name ++ 34 ∷ [] ≡ other ++ 34 ∷ [] = cc in
      (cc, one_ending name other ending)

  marker_or_none : ((n : ℕ) × (name : List ℕ) × IsMarker line n name) ⊎ ((n : ℕ) (name : List ℕ) → IsMarker line n name → ⊥)
  marker_or_none = elim (named_or_not (drop count body)) [
    | inr none ↦ inr (no_name_here none)
    | inl (name, i) ↦ by name i (natural_of 10 (2 ^ 32) (take count body)) refl
  ]
    where
      by : (name : List ℕ) → IsQuotedName (drop count body) name → (o : Option ℕ) → natural_of 10 (2 ^ 32) (take count body) ≡ o →
          ((n : ℕ) × (name : List ℕ) × IsMarker line n name) ⊎ ((n : ℕ) (name : List ℕ) → IsMarker line n name → ⊥)
      by name i (Some n) is = inl (n, name, marker_here n name is i)
      by name i None is = inr (no_number_here is)

-- a line that does not begin as a marker does
pub not_begun : (line : List ℕ) → ((body : List ℕ) → line ≡ 35 ∷ 32 ∷ body → ⊥) → (n : ℕ) (name : List ℕ) → IsMarker line n name → ⊥
not_begun line differs n name m = differs _ (parted line n name m).whole

begun_or_not : (line : List ℕ) → ((body : List ℕ) × (line ≡ 35 ∷ 32 ∷ body)) ⊎ ((body : List ℕ) → line ≡ 35 ∷ 32 ∷ body → ⊥)
begun_or_not [] = inr (λ body e. absurd cc)
begun_or_not (a ∷ []) = inr (λ body e. absurd cc)
begun_or_not (a ∷ b ∷ body) = elim (cases_eq a 35) [
  | inr differs ↦ inr (λ rest e. differs cc)
  | inl is_a ↦ elim (cases_eq b 32) [
    | inr differs ↦ inr (λ rest e. differs cc)
    | inl is_b ↦ inl (body, λ i. is_a i ∷ (is_b i ∷ body))
  ]
]

pub one_marker : (line : List ℕ) (n m : ℕ) (name other : List ℕ) → IsMarker line n name → IsMarker line m other → (n ≡ m) × (name ≡ other)
one_marker line n m name other x y =
    let p = parted line n name x in
    let body = p.digits ++ 32 ∷ 34 ∷ (name ++ 34 ∷ []) in
    let (count, front) = digit_front body in
    one_here line body count p.whole front n m name other x y

pub marked_or_not : (line : List ℕ) → ((n : ℕ) × (name : List ℕ) × IsMarker line n name) ⊎ ((n : ℕ) (name : List ℕ) → IsMarker line n name → ⊥)
marked_or_not line = elim (begun_or_not line) [
  | inr differs ↦ inr (not_begun line differs)
  | inl (body, e) ↦ let (count, front) = digit_front body in marker_or_none line body count e front
]
