-- There is an order over the files that were found, and what is asked for is what the first name reaches, each name once.
use Rattle.std.proofs.{Common.{Bool, Contains, IsUtf8, List, None, Option, Some, [], ap, append_assoc, arith, cond, false, inl, inr, refl, subst, suc, sym, true, zero, ℕ, ◌++◌, ◌+◌, ◌<◌, ◌∙◌, ◌∷◌, ◌≡◌, ◌≤◌, ◌⊎◌}, lemmas.{Bool.both_ways, List.Elements.{All-contains, All-from_recursion, Contains-append_cases, Contains-append_left, Contains-append_right, Contains-push}}}
use Rattle.std.specs.List.{AllByRecursion, IsDistinct}
use Rattle.kc_language.specs.{Expressions.same_name, Lines.unread_lines}
use Rattle.kc_expr.specs.Names.{AreDistinct}
use Rattle.kc_expr.proofs.NamesLemmas.{same_name-refl}
use Rattle.kc_read.proofs.{FileLemmas.same_name_eq, OpenedFileLemmas.has_one_list_of_names}
use Rattle.kc_load.specs.{Asking.{AreSources, AreSourcesOf, AskedAlong, FileBytes, IsNew, asked, ended, passed}, Folder.{Answer, files_found}, Loading.{HasOrder, OrderIsReached, Reached, itself, sourced}, Steps.was_requested}
use Rattle.kc_load.proofs.{FoundLemmas.{found_absent, names_of}, OneOrder.{in_first, in_later, one_sources}, OrderLemmas.new_or_not, RequestedLemmas.{in_requested, not_in, only_element, requested_in}}

no_name : (x : List ℕ) → Contains {X = List ℕ} [] x → ⊥
no_name x h = let lt = h.1 in absurd (omega arith)

first_or_later : (y : List ℕ) (xs : List (List ℕ)) (x : List ℕ) → Contains (y ∷ xs) x → (y ≡ x) ⊎ Contains xs x
first_or_later y xs x h = elim (Contains-append_cases (y ∷ []) xs x h) [
  | inl here ↦ inl (only_element y x here)
  | inr there ↦ inr there
]

-- ---- There is an order

-- how many names were not asked for
left : List (List ℕ) → List (List ℕ) → ℕ
left [] before = 0
left (x ∷ xs) before = cond (was_requested before x) 0 1 + left xs before

module _ (before more : List (List ℕ)) (grows : (x : List ℕ) → was_requested before x ≡ true → was_requested more x ≡ true) where
  weighs : (x : List ℕ) → cond (was_requested more x) 0 1 ≤ cond (was_requested before x) 0 1
  weighs x = by (was_requested before x) (was_requested more x) refl refl
    where
      by : (a b : Bool) → was_requested before x ≡ a → was_requested more x ≡ b → cond b 0 1 ≤ cond a 0 1
      by a true e f = omega arith
      by false false e f = omega arith
      by true false e f = absurd (both_ways (was_requested more x) f (grows x e))

  left_no_more : (all : List (List ℕ)) → left all more ≤ left all before
  unfolding left
  left_no_more [] = omega arith
  left_no_more (x ∷ xs) = let h = left_no_more xs in let w = weighs x in omega arith

  lighter : (a b m n : ℕ) → a ≡ 0 → b ≡ 1 → m ≤ n → a + m < b + n
  lighter a b m n e f le = omega arith

  -- one of them was asked for now
  left_less : (all : List (List ℕ)) (name : List ℕ) → Contains all name → was_requested before name ≡ false → was_requested more name ≡ true → left all more < left all before
  unfolding left
  left_less [] name c new now = absurd (no_name name c)
  left_less (x ∷ xs) name c new now = elim (first_or_later x xs name c) [
    | inl here ↦
        let h = left_no_more xs in
        let e : cond (was_requested more x) 0 1 ≡ 0 = ap (λ b. cond b 0 1) (ap (was_requested more) here ∙ now) in
        let f : cond (was_requested before x) 0 1 ≡ 1 = ap (λ b. cond b 0 1) (ap (was_requested before) here ∙ new) in
        lighter (cond (was_requested more x) 0 1) (cond (was_requested before x) 0 1) (left xs more) (left xs before) e f h
    | inr there ↦ let h = left_less xs name there new now in let w = weighs x in omega arith
  ]

grows_behind : (before more : List (List ℕ)) (x : List ℕ) → was_requested before x ≡ true → was_requested (before ++ more) x ≡ true
grows_behind before more x h = requested_in (before ++ more) x (Contains-append_left before more x (in_requested before x h))

new_is : (before : List (List ℕ)) (name : List ℕ) → IsNew before name → was_requested before name ≡ false
new_is before name new = by (was_requested before name) refl
  where
    by : (b : Bool) → was_requested before name ≡ b → b ≡ false
    by true e = absurd (new.1 (in_requested before name e))
    by false e = refl

module _ (answers : List Answer) where
  abbrev There : List (List ℕ) → List (List ℕ) → Type 0
  There names before = (all : List (List ℕ)) × AskedAlong (files_found answers) before names all

  abbrev ThereBelow : ℕ → Type 0
  ThereBelow n = (names before : List (List ℕ)) → left (names_of answers) before < n → There names before

  abbrev Own : List (List ℕ) → List ℕ → Option (List ℕ) → Type 0
  Own before name o = (sources : List (List ℕ)) × (inside : List (List ℕ)) × AreSourcesOf o sources × AskedAlong (files_found answers) (before ++ name ∷ []) sources inside

  -- what is asked for along the file of a new name
  own : (n : ℕ) → ThereBelow n → (before : List (List ℕ)) (name : List ℕ) → IsNew before name → left (names_of answers) before < suc n → Own before name (files_found answers name)
  own n deeper before name new few = by (files_found answers name) refl
    where
      was_found : (bytes : List ℕ) → files_found answers name ≡ Some bytes → (b : Bool) → was_requested (names_of answers) name ≡ b → Contains (names_of answers) name
      was_found bytes e true there = in_requested (names_of answers) name there
      was_found bytes e false there = absurd (let clash : None ≡ Some bytes = sym (found_absent answers name there) ∙ e in cc)

      by : (o : Option (List ℕ)) → files_found answers name ≡ o → Own before name o
      by None e = ([], [], refl, ended (before ++ name ∷ []))
      by (Some bytes) e =
          let (sources, are, one) = has_one_list_of_names (unread_lines bytes 1) in
          let less = left_less before (before ++ name ∷ []) (grows_behind before (name ∷ [])) (names_of answers) name
          (was_found bytes e (was_requested (names_of answers) name) refl) (new_is before name new)
          (requested_in (before ++ name ∷ []) name (Contains-push before name)) in
          let (inside, d) = deeper sources (before ++ name ∷ []) (omega arith) in
          (sources, inside, are, d)

  along : (n : ℕ) → ThereBelow n → ThereBelow (suc n)
  along n deeper [] before few = ([], ended before)
  along n deeper (name ∷ names) before few = elim (new_or_not before name) [
    | inr known ↦ let (all, d) = along n deeper names before few in (all, passed before names all name known d)
    | inl new ↦
        let (sources, inside, are, d) = own n deeper before name new few in
        let less = left_no_more before (before ++ name ∷ inside) (grows_behind before (name ∷ inside)) (names_of answers) in
        let (behind, f) = along n deeper names (before ++ name ∷ inside) (omega arith) in
        (name ∷ inside ++ behind, asked before names sources inside behind name new are d f)
  ]

  there_below : (n : ℕ) → ThereBelow n
  there_below zero = λ names before few. absurd (omega arith)
  there_below (suc n) = along n (there_below n)

pub has_order : HasOrder
has_order answers first = there_below answers (suc (left (names_of answers) [])) (first ∷ []) [] (omega arith)

-- ---- Each name once

all_by : {X : Type 0} (P : X → Type 0) (xs : List X) → ((x : X) → Contains xs x → P x) → AllByRecursion P xs
all_by P [] h = tt
all_by P (x ∷ xs) h = (h x (0, omega arith, refl), all_by P xs (λ y c. h y (Contains-append_right (x ∷ []) xs y c)))

apart : (x y : List ℕ) → (x ≡ y → ⊥) → same_name x y ≡ false
apart x y differ = by (same_name x y) refl
  where
    by : (b : Bool) → same_name x y ≡ b → b ≡ false
    by true e = absurd (differ (same_name_eq x y e))
    by false e = refl

distinct_cons : (x : List ℕ) (xs : List (List ℕ)) → (Contains xs x → ⊥) → AreDistinct xs → AreDistinct (x ∷ xs)
unfolding IsDistinct
distinct_cons x xs new d = (all_by (λ y. same_name x y ≡ false) xs (λ y c. apart x y (λ e. new (subst (Contains xs) (sym e) c))), d)

distinct_append : (xs ys : List (List ℕ)) → AreDistinct xs → AreDistinct ys → ((x : List ℕ) → Contains xs x → Contains ys x → ⊥) → AreDistinct (xs ++ ys)
unfolding IsDistinct
distinct_append [] ys d e differ = e
distinct_append (x ∷ xs) ys d e differ = distinct_cons x (xs ++ ys) new (distinct_append xs ys d.1 e (λ y c. differ y (in_later x xs y c)))
  where
    new : Contains (xs ++ ys) x → ⊥
    new c = elim (Contains-append_cases xs ys x c) [
      | inl there ↦ both_ways (same_name x x) (All-contains (λ y. same_name x y ≡ false) xs x (All-from_recursion (λ y. same_name x y ≡ false) xs d.0) there) (same_name-refl x)
      | inr there ↦ differ x (in_first x xs) there
    ]

distinct_none : AreDistinct []
unfolding IsDistinct
distinct_none = tt

-- what stands in the front stands in the whole
in_both : (before : List (List ℕ)) (name : List ℕ) (inside behind : List (List ℕ)) (x : List ℕ) → Contains (before ++ name ∷ [] ++ inside) x → Contains (before ++ (name ∷ inside ++ behind)) x
in_both before name inside behind x c =
    subst (λ (l : List (List ℕ)). Contains l x) (append_assoc before (name ∷ inside) behind)
    (Contains-append_left (before ++ name ∷ inside) behind x (subst (λ (l : List (List ℕ)). Contains l x) (append_assoc before (name ∷ []) inside) c))

-- a UTF-8 name that is not to be asked for was asked for
known_there : (before : List (List ℕ)) (name : List ℕ) → (IsNew before name → ⊥) → IsUtf8 name → Contains before name
known_there before name known text = by (was_requested before name) refl
  where
    by : (b : Bool) → was_requested before name ≡ b → Contains before name
    by true e = in_requested before name e
    by false e = absurd (known (text, not_in before name e))

module _ (files : FileBytes) where
  -- no name is asked for that was asked for before
  asked_are_new : {before names all : List (List ℕ)} (d : AskedAlong files before names all) (x : List ℕ) → Contains all x → Contains before x → ⊥
  asked_are_new (ended before) x c b = no_name x c
  asked_are_new (passed before names all name known d) x c b = asked_are_new d x c b
  asked_are_new (asked before names sources inside behind name new are d f) x c b = elim (Contains-append_cases (name ∷ inside) behind x c) [
    | inl here ↦ elim (first_or_later name inside x here) [
      | inl is ↦ new.1 (subst (Contains before) (sym is) b)
      | inr within ↦ asked_are_new d x within (Contains-append_left before (name ∷ []) x b)
    ]
    | inr there ↦ asked_are_new f x there (Contains-append_left before (name ∷ inside) x b)
  ]

  asked_once : {before names all : List (List ℕ)} (d : AskedAlong files before names all) → AreDistinct all
  asked_once (ended before) = distinct_none
  asked_once (passed before names all name known d) = asked_once d
  asked_once (asked before names sources inside behind name new are d f) =
      distinct_append (name ∷ inside) behind (distinct_cons name inside (λ c. asked_are_new d name c (Contains-push before name)) (asked_once d)) (asked_once f)
      (λ x c there. asked_are_new f x there (Contains-append_right before (name ∷ inside) x c))

  -- ---- What is asked for is reached

  source_reached : (first file : List ℕ) → Reached files first file → (o : Option (List ℕ)) → files file ≡ o → (sources : List (List ℕ)) → AreSourcesOf o sources →
      (x : List ℕ) → Contains sources x → IsUtf8 x → Reached files first x
  source_reached first file r None e sources none x c text = absurd (no_name x (subst (λ (l : List (List ℕ)). Contains l x) none c))
  source_reached first file r (Some bytes) e sources are x c text = sourced file bytes x sources r e are c text

  asked_reached : (first : List ℕ) {before names all : List (List ℕ)} (d : AskedAlong files before names all) →
      ((x : List ℕ) → Contains names x → IsUtf8 x → Reached files first x) → (x : List ℕ) → Contains all x → Reached files first x
  asked_reached first (ended before) reaches x c = absurd (no_name x c)
  asked_reached first (passed before names all name known d) reaches x c = asked_reached first d (λ y there. reaches y (in_later name names y there)) x c
  asked_reached first (asked before names sources inside behind name new are d f) reaches x c =
      let here : Reached files first name = reaches name (in_first name names) new.0 in
      elim (Contains-append_cases (name ∷ inside) behind x c) [
        | inl front ↦ elim (first_or_later name inside x front) [
          | inl is ↦ subst (Reached files first) is here
          | inr within ↦ asked_reached first d (source_reached first name here (files name) refl sources are) x within
        ]
        | inr there ↦ asked_reached first f (λ y among. reaches y (in_later name names y among)) x there
      ]

  -- ---- What is reached is asked for

  -- each of the names was asked for, if it is UTF-8
  names_asked : {before names all : List (List ℕ)} (d : AskedAlong files before names all) (x : List ℕ) → Contains names x → IsUtf8 x → Contains (before ++ all) x
  names_asked (ended before) x c text = absurd (no_name x c)
  names_asked (passed before names all name known d) x c text = elim (first_or_later name names x c) [
    | inl is ↦ Contains-append_left before all x (subst (Contains before) is (known_there before name known (subst IsUtf8 (sym is) text)))
    | inr there ↦ names_asked d x there text
  ]
  names_asked (asked before names sources inside behind name new are d f) x c text = elim (first_or_later name names x c) [
    | inl is ↦ Contains-append_right before (name ∷ inside ++ behind) x (subst (Contains (name ∷ inside ++ behind)) is (in_first name (inside ++ behind)))
    | inr there ↦ subst (λ (l : List (List ℕ)). Contains l x) (append_assoc before (name ∷ inside) behind) (names_asked f x there text)
  ]

  -- and so is what the files of those source that were asked for
  sources_asked : {before names all : List (List ℕ)} (d : AskedAlong files before names all) (file bytes : List ℕ) (sources : List (List ℕ)) → Contains all file → files file ≡ Some bytes →
      AreSources bytes sources → (x : List ℕ) → Contains sources x → IsUtf8 x → Contains (before ++ all) x
  sources_asked (ended before) file bytes sources among e are x c text = absurd (no_name file among)
  sources_asked (passed before names all name known d) file bytes sources among e are x c text = sources_asked d file bytes sources among e are x c text
  sources_asked (asked before names own inside behind name new are d f) file bytes sources among e listed x c text =
      let whole = λ (h : Contains (before ++ name ∷ [] ++ inside) x). in_both before name inside behind x h in
      elim (Contains-append_cases (name ∷ inside) behind file among) [
        | inl front ↦ elim (first_or_later name inside file front) [
          | inl is ↦
              let same : own ≡ sources = one_sources (Some bytes) own sources (subst (λ o. AreSourcesOf o own) (ap files is ∙ e) are) listed in
              whole (names_asked d x (subst (λ (l : List (List ℕ)). Contains l x) (sym same) c) text)
          | inr within ↦ whole (sources_asked d file bytes sources within e listed x c text)
        ]
        | inr there ↦ subst (λ (l : List (List ℕ)). Contains l x) (append_assoc before (name ∷ inside) behind) (sources_asked f file bytes sources there e listed x c text)
      ]

  reached_asked : {names all : List (List ℕ)} (d : AskedAlong files [] names all) (first : List ℕ) → Contains all first → (x : List ℕ) → Reached files first x → Contains all x
  reached_asked d first here x itself = here
  reached_asked d first here x (sourced file bytes y sources r e are c text) = sources_asked d file bytes sources (reached_asked d first here file r) e are x c text

pub order_is_reached : OrderIsReached
order_is_reached files first names text d = (
  asked_once files d,
  asked_reached files first d (λ x c t. subst (Reached files first) (only_element first x c) itself),
  reached_asked files d first (names_asked files d first (in_first first []) text),
)
