-- The values of places, as places are filled and emptied.
use Rattle.std.proofs.{Common.{IsTrue, List, None, Option, Some, [], ap, arith, inl, inr, length, map, nat_eq, option_map, refl, slice_get, slice_set, subst, suc, sym, zero, ℕ, ◌++◌, ◌+◌, ◌-◌, ◌<◌, ◌≤◌, ◌∙◌, ◌∷◌, ◌≡◌, ◌≢◌}, Math.ListN.get_or-map, lemmas.{Bool.{cases_eq, eq-eqb, eqb-true}, List.{ext_get_or, get_or-set_other, get_or-set_same, get_or_default, length-map, length-set, map-set}, Option.slice_get_cases}}
use Rattle.std.specs.{Prelude.slice_index_or, declared.{alloc.Global.Global, vec.Vec.Vec}}
use Rattle.kc_user.proofs.{SparseLemmas.{slice_get-front, slice_get-last, slice_get-set_other, slice_get-set_same}, UserLemmas.map-replicate}
use Rattle.kc_language.specs.declared.expressions.Tri.{TheVariants.{M, N, Y}, Tri}
use Rattle.kc_values.specs.{ValueLists.{AreOwnTexts, IsSameValue, held_text, truth_number, value_of_number}, declared.table.Value.{TheVariants.{Text, Truth}, Value}}

abbrev Texts : Type 0
Texts = List (Vec ℕ Global)

-- what stands in a place
pub at_place : (texts : Texts) (numbers : List ℕ) (i : ℕ) → slice_index_or (map (value_of_number texts) numbers) i None ≡ value_of_number texts (slice_index_or numbers i 0)
at_place texts numbers i = get_or-map (value_of_number texts) numbers i 0

-- a place that is seen has a number
pub set_there : (texts : Texts) (numbers : List ℕ) (seen : List (Option Value)) (place : ℕ) → map (value_of_number texts) numbers ≡ seen → place < length seen → place < length numbers
set_there texts numbers seen place is there = omega (arith, there, ap length (sym is) ∙ length-map numbers (value_of_number texts))

pub its_number : (texts : Texts) (numbers : List ℕ) (seen : List (Option Value)) (place number : ℕ) → map (value_of_number texts) numbers ≡ seen → place < length seen →
    number ≡ slice_index_or numbers place number → number ≡ slice_index_or numbers place 0
its_number texts numbers seen place number is there e = e ∙ get_or_default numbers place number 0 (set_there texts numbers seen place is there)

-- what stands in a place that is seen
pub seen_place : (texts : Texts) (numbers : List ℕ) (seen : List (Option Value)) (place number : ℕ) → map (value_of_number texts) numbers ≡ seen → number ≡ slice_index_or numbers place 0 →
    slice_index_or seen place None ≡ value_of_number texts number
seen_place texts numbers seen place number is e = sym (ap (λ xs. slice_index_or xs place None) is) ∙ at_place texts numbers place ∙ ap (value_of_number texts) (sym e)

-- the number of a truth value
pub truth_of_number : (texts : Texts) (t : Tri) → value_of_number texts (truth_number t) ≡ Some (Truth t)
truth_of_number texts N = refl
truth_of_number texts M = refl
truth_of_number texts Y = refl

pub truth_few : (t : Tri) → truth_number t < 4
truth_few N = omega arith
truth_few M = omega arith
truth_few Y = omega arith

-- a text more leaves the others where they are
one_more : (texts : Texts) (text : Vec ℕ Global) (number : ℕ) → number < length texts + 4 → value_of_number (texts ++ text ∷ []) number ≡ value_of_number texts number
one_more texts text zero within = refl
one_more texts text (suc zero) within = refl
one_more texts text (suc (suc zero)) within = refl
one_more texts text (suc (suc (suc zero))) within = refl
one_more texts text (suc (suc (suc (suc n)))) within = ap (option_map Text) (slice_get-front texts (text ∷ []) n (omega (arith, within)))

stay : (texts : Texts) (text : Vec ℕ Global) (numbers : List ℕ) → AreOwnTexts numbers (length texts) → map (value_of_number (texts ++ text ∷ [])) numbers ≡ map (value_of_number texts) numbers
stay texts text numbers are =
    ext_get_or None _ _ (length-map numbers (value_of_number (texts ++ text ∷ [])) ∙ sym (length-map numbers (value_of_number texts)))
    (λ i below. at_place (texts ++ text ∷ []) numbers i ∙ one_more texts text (slice_index_or numbers i 0) (are.within i) ∙ sym (at_place texts numbers i))

-- a place is filled with a text that is put behind the others
pub filled : (texts : Texts) (text : Vec ℕ Global) (numbers : List ℕ) (place : ℕ) → AreOwnTexts numbers (length texts) →
    map (value_of_number (texts ++ text ∷ [])) (slice_set numbers place (length texts + 4)) ≡ slice_set (map (value_of_number texts) numbers) place (Some (Text text))
filled texts text numbers place are =
    let new = value_of_number (texts ++ text ∷ []) in
    let next : length texts + 4 ≡ suc (suc (suc (suc (length texts)))) = omega arith in
    let last : new (length texts + 4) ≡ Some (Text text) = ap new next ∙ ap (option_map Text) (slice_get-last texts text) in
    map-set new numbers place (length texts + 4)
    ∙ ap (λ xs. slice_set xs place (new (length texts + 4))) (stay texts text numbers are)
    ∙ ap (slice_set (map (value_of_number texts) numbers) place) last

-- another text stands where the text of a place stood
other_value : (texts : Texts) (text : Vec ℕ Global) (n m : ℕ) → m ≢ n + 4 → value_of_number (slice_set texts n text) m ≡ value_of_number texts m
other_value texts text n zero ne = refl
other_value texts text n (suc zero) ne = refl
other_value texts text n (suc (suc zero)) ne = refl
other_value texts text n (suc (suc (suc zero))) ne = refl
other_value texts text n (suc (suc (suc (suc m)))) ne = ap (option_map Text) (slice_get-set_other texts n m text (λ e. ne (omega (arith, e))))

its_value : (texts : Texts) (text : Vec ℕ Global) (n m : ℕ) → m ≡ n + 4 → m < length texts + 4 → value_of_number (slice_set texts n text) m ≡ Some (Text text)
its_value texts text n m is within =
    let number : m ≡ suc (suc (suc (suc n))) = omega (arith, is) in
    ap (value_of_number (slice_set texts n text)) number ∙ ap (option_map Text) (slice_get-set_same texts n text (omega (arith, is, within)))

pub replaced : (texts : Texts) (text : Vec ℕ Global) (numbers : List ℕ) (place n : ℕ) → AreOwnTexts numbers (length texts) → place < length numbers → slice_index_or numbers place 0 ≡ n + 4 →
    map (value_of_number (slice_set texts n text)) numbers ≡ slice_set (map (value_of_number texts) numbers) place (Some (Text text))
replaced texts text numbers place n are there is =
    let new = value_of_number (slice_set texts n text) in
    let old = map (value_of_number texts) numbers in
    let long : place < length old = omega (arith, there, length-map numbers (value_of_number texts)) in
    ext_get_or None _ _ (length-map numbers new ∙ sym (length-set old place (Some (Text text)) ∙ length-map numbers (value_of_number texts)))
    (λ i below. at_place (slice_set texts n text) numbers i ∙ elim (cases_eq i place) [
      | inl same ↦
          its_value texts text n (slice_index_or numbers i 0) (ap (λ k. slice_index_or numbers k 0) same ∙ is) (are.within i)
          ∙ sym (ap (λ k. slice_index_or (slice_set old place (Some (Text text))) k None) same ∙ get_or-set_same old place (Some (Text text)) None long)
      | inr other ↦
          other_value texts text n (slice_index_or numbers i 0) (λ e. other (are.own i place n e is))
          ∙ sym (get_or-set_other old place i (Some (Text text)) None other ∙ at_place texts numbers i)
    ])

-- ---- what a place holds

-- a place with the number of a text holds it
pub text_held : (texts : Texts) (numbers : List ℕ) (seen : List (Option Value)) (place number : ℕ) (text : Vec ℕ Global) → map (value_of_number texts) numbers ≡ seen →
    number ≡ slice_index_or numbers place 0 → 4 ≤ number → slice_get texts (number - 4) ≡ Some text → held_text (slice_index_or seen place None) ≡ Some text.items
text_held texts numbers seen place number text is e few found =
    let n : number ≡ suc (suc (suc (suc (number - 4)))) = omega (arith, few) in
    ap held_text (seen_place texts numbers seen place number is e) ∙ ap (λ k. held_text (value_of_number texts k)) n ∙ ap (λ o. held_text (option_map Text o)) found

abbrev Tells : (number other : ℕ) → Type 0 → Type 0
Tells number other P = (IsTrue (nat_eq number other) → P) × (P → IsTrue (nat_eq number other))

tells : {P : Type 0} (number other : ℕ) → (number ≡ other → P) → (P → number ≡ other) → Tells number other P
tells number other to from = (λ h. to (eqb-true number other h), λ p. eq-eqb number other (from p))

-- only the number 0 stands for nothing
none_is_zero : (texts : Texts) (number : ℕ) → number < length texts + 4 → IsSameValue (value_of_number texts number) None → number ≡ 0
none_is_zero texts zero within same = refl
none_is_zero texts (suc zero) within same = absurd same
none_is_zero texts (suc (suc zero)) within same = absurd same
none_is_zero texts (suc (suc (suc zero))) within same = absurd same
none_is_zero texts (suc (suc (suc (suc n)))) within same = elim ((slice_get_cases texts n).1) [
  | inl there ↦ absurd (subst (λ o. IsSameValue (option_map Text o) None) there.2 same)
  | inr past ↦ absurd (omega (arith, past.0, within))
]

zero_is_none : (texts : Texts) (number : ℕ) → number ≡ 0 → IsSameValue (value_of_number texts number) None
zero_is_none texts number e = rw e tt

pub nothing_held : (texts : Texts) (numbers : List ℕ) (seen : List (Option Value)) (place number : ℕ) (value : Option Value) → AreOwnTexts numbers (length texts) →
    map (value_of_number texts) numbers ≡ seen → number ≡ slice_index_or numbers place 0 → value ≡ None → Tells number 0 (IsSameValue (slice_index_or seen place None) value)
nothing_held texts numbers seen place number value are is e none =
    let within : number < length texts + 4 = omega (arith, e, are.within place) in
    rw (seen_place texts numbers seen place number is e, none) (tells number 0 (zero_is_none texts number) (none_is_zero texts number within))

-- only the number of a truth value stands for it
no_truth : (o : Option (Vec ℕ Global)) (t : Tri) → IsSameValue (option_map Text o) (Some (Truth t)) → ⊥
no_truth None t same = same
no_truth (Some text) t same = same

truth_is_number : (texts : Texts) (number : ℕ) (t : Tri) → IsSameValue (value_of_number texts number) (Some (Truth t)) → number ≡ truth_number t
truth_is_number texts zero t same = absurd same
truth_is_number texts (suc zero) t same = ap truth_number same
truth_is_number texts (suc (suc zero)) t same = ap truth_number same
truth_is_number texts (suc (suc (suc zero))) t same = ap truth_number same
truth_is_number texts (suc (suc (suc (suc n)))) t same = absurd (no_truth (slice_get texts n) t same)

number_is_truth : (texts : Texts) (number : ℕ) (t : Tri) → number ≡ truth_number t → IsSameValue (value_of_number texts number) (Some (Truth t))
number_is_truth texts number t e = rw (e, truth_of_number texts t) refl

pub truth_held : (texts : Texts) (numbers : List ℕ) (seen : List (Option Value)) (place number other : ℕ) (value : Option Value) (t : Tri) → map (value_of_number texts) numbers ≡ seen →
    number ≡ slice_index_or numbers place 0 → other ≡ truth_number t → value ≡ Some (Truth t) → Tells number other (IsSameValue (slice_index_or seen place None) value)
truth_held texts numbers seen place number other value t is e told truth =
    rw (seen_place texts numbers seen place number is e, truth)
    (tells number other (λ same. number_is_truth texts number t (same ∙ told)) (λ same. truth_is_number texts number t same ∙ sym told))

-- ---- texts are each place's own

-- a place without a text has none of the texts
pub textless_own : (numbers : List ℕ) (count place number : ℕ) → AreOwnTexts numbers count → place < length numbers → number < 4 → AreOwnTexts (slice_set numbers place number) count
textless_own numbers count place number are there low =
    let new = slice_set numbers place number in
    let here : (i : ℕ) → i ≡ place → slice_index_or new i 0 ≡ number = λ i same. ap (λ k. slice_index_or new k 0) same ∙ get_or-set_same numbers place number 0 there in
    let other : (i n : ℕ) → slice_index_or new i 0 ≡ n + 4 → slice_index_or numbers i 0 ≡ n + 4 = λ i n e. elim (cases_eq i place) [
      | inl same ↦ absurd (omega (arith, e, here i same, low))
      | inr ne ↦ sym (get_or-set_other numbers place i number 0 ne) ∙ e
    ] in
    record {
      within = λ i. elim (cases_eq i place) [
        | inl same ↦ omega (arith, here i same, low)
        | inr ne ↦ omega (arith, get_or-set_other numbers place i number 0 ne, are.within i)
      ];
      own = λ i j n e f. are.own i j n (other i n e) (other j n f);
    }

-- a filled place has the number of the text that is put behind the others
pub filled_own : (numbers : List ℕ) (count place : ℕ) → AreOwnTexts numbers count → place < length numbers → AreOwnTexts (slice_set numbers place (count + 4)) (count + 1)
filled_own numbers count place are there =
    let new = slice_set numbers place (count + 4) in
    let at : (i : ℕ) → i ≡ place → slice_index_or new i 0 ≡ count + 4 = λ i same. ap (λ k. slice_index_or new k 0) same ∙ get_or-set_same numbers place (count + 4) 0 there in
    let off : (i : ℕ) → i ≢ place → slice_index_or new i 0 ≡ slice_index_or numbers i 0 = λ i ne. get_or-set_other numbers place i (count + 4) 0 ne in
    record {
      within = λ i. elim (cases_eq i place) [
        | inl same ↦ omega (arith, at i same)
        | inr ne ↦ omega (arith, off i ne, are.within i)
      ];
      own = λ i j n e f. elim (cases_eq i place) [
        | inl si ↦ elim (cases_eq j place) [
          | inl sj ↦ si ∙ sym sj
          | inr nj ↦ absurd (omega (arith, e, f, at i si, off j nj, are.within j))
        ]
        | inr ni ↦ elim (cases_eq j place) [
          | inl sj ↦ absurd (omega (arith, e, f, at j sj, off i ni, are.within i))
          | inr nj ↦ are.own i j n (sym (off i ni) ∙ e) (sym (off j nj) ∙ f)
        ]
      ];
    }
