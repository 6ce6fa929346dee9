-- What assignments leave in empty places.
use Rattle.std.proofs.{Common.{Bool, List, None, Option, Some, [], ap, arith, cond, eqb, false, get_or, inl, inr, length, refl, replicate, subst, suc, sym, true, zero, ℕ, ◌+◌, ◌<◌, ◌∙◌, ◌∷◌, ◌≡◌, ◌⊎◌}, lemmas.{Bool.{and_parts, cases_Bool, eq-eqb, eqb-true}, List.{Elements.{Contains-append_cases, Contains-append_left, Contains-append_right}, get_or-replicate, length-replicate}}}
use Rattle.std.specs.{List.{Contains, cons_option, filter_map, flat_map, last_or}, Prelude.◌&&◌}
use Rattle.kc_language.specs.{ConfigFile.{Assignment, Places, each_from, place_at, places_given}, Expressions.symbol, Symbols.TreeFacts, Values.{ChoicePlace, GivenValue, Member, SymbolPlace, is_yes}, declared.expressions.SymId.SymId}
use Rattle.kc_input.specs.PartsOfConfigFile.{choice_of, chosen_in, given_to, is_this_choice}
use Rattle.kc_user.specs.PartsOfConfigFile.{member_place, no_places}

-- Elements of a list.
pub contains_here : {X : Type 0} (x : X) (xs : List X) → Contains (x ∷ xs) x
contains_here x xs = (0, omega arith, refl)

pub contains_later : {X : Type 0} (x y : X) (xs : List X) → Contains xs y → Contains (x ∷ xs) y
contains_later x y xs (n, l, e) = (suc n, omega arith, e)

pub contains_cases : {X : Type 0} (x y : X) (xs : List X) → Contains (x ∷ xs) y → (x ≡ y) ⊎ Contains xs y
contains_cases x y xs (zero, l, e) = inl e
contains_cases x y xs (suc n, l, e) = inr (n, omega arith, e)

pub no_element : {X : Type 0} (y : X) → Contains [] y → ⊥
no_element y (n, l, e) = absurd (omega arith)

pub in_flat_map : {X A : Type 0} (h : X → List A) (xs : List X) (a : A) → Contains (flat_map h xs) a → (x : X) × Contains xs x × Contains (h x) a
in_flat_map h [] a c = absurd (no_element a c)
in_flat_map h (x ∷ xs) a c = elim (Contains-append_cases (h x) (flat_map h xs) a c) [
  | inl first ↦ (x, contains_here x xs, first)
  | inr later ↦ let (y, at, there) = in_flat_map h xs a later in (y, contains_later x y xs at, there)
]

pub to_flat_map : {X A : Type 0} (h : X → List A) (xs : List X) (x : X) (a : A) → Contains xs x → Contains (h x) a → Contains (flat_map h xs) a
to_flat_map h [] x a c there = absurd (no_element x c)
to_flat_map h (y ∷ xs) x a c there = elim (contains_cases y x xs c) [
  | inl e ↦ Contains-append_left (h y) (flat_map h xs) a (subst (λ z. Contains (h z) a) (sym e) there)
  | inr later ↦ Contains-append_right (h y) (flat_map h xs) a (to_flat_map h xs x a later there)
]

module _ {A B : Type 0} (f : A → Option B) where
  one_more : (x : A) (xs : List A) (o : Option B) (r : Option B) → f x ≡ r → last_or o (filter_map f (x ∷ xs)) ≡ last_or o (cons_option r (filter_map f xs))
  one_more x xs o r e = ap (λ q. last_or o (cons_option q (filter_map f xs))) e

  -- no element gives anything
  pub last_none : (xs : List A) (o : Option B) → ((x : A) → Contains xs x → f x ≡ None) → last_or o (filter_map f xs) ≡ o
  last_none [] o none = refl
  last_none (x ∷ xs) o none = one_more x xs o None (none x (contains_here x xs)) ∙ last_none xs o (λ y c. none y (contains_later x y xs c))

  -- each element that gives anything gives this, and some does
  pub last_same : (g : B) (xs : List A) (o : Option B) → ((x : A) → Contains xs x → (f x ≡ None) ⊎ (f x ≡ Some g)) →
      (o ≡ Some g) ⊎ ((x : A) × Contains xs x × (f x ≡ Some g)) → last_or o (filter_map f xs) ≡ Some g
  last_same g [] o each (inl e) = e
  last_same g [] o each (inr (x, c, e)) = absurd (no_element x c)
  last_same g (x ∷ xs) o each some = elim (each x (contains_here x xs)) [
    | inr e ↦ one_more x xs o (Some g) e ∙ last_same g xs (Some g) (λ y c. each y (contains_later x y xs c)) (inl refl)
    | inl e ↦ one_more x xs o None e ∙ last_same g xs o (λ y c. each y (contains_later x y xs c)) (rest e some)
  ]
    where
      rest : f x ≡ None → (o ≡ Some g) ⊎ ((y : A) × Contains (x ∷ xs) y × (f y ≡ Some g)) → (o ≡ Some g) ⊎ ((y : A) × Contains xs y × (f y ≡ Some g))
      rest none (inl e) = inl e
      rest none (inr (y, c, e)) = elim (contains_cases x y xs c) [
        | inl same ↦ let never : None ≡ Some g = sym none ∙ ap f same ∙ e in cc
        | inr later ↦ inr (y, later, e)
      ]

pub get_each : {A B : Type 0} (f : ℕ → A → B) (n : ℕ) (xs : List A) (i : ℕ) (d : B) (e : A) → i < length xs → get_or (each_from f n xs) i d ≡ f (n + i) (get_or xs i e)
get_each f n [] i d e lt = absurd (omega arith)
get_each f n (x ∷ xs) zero d e lt = let k : n ≡ n + 0 = omega arith in ap (λ j. f j x) k
get_each f n (x ∷ xs) (suc i) d e lt =
    let k : (n + 1) + i ≡ n + suc i = omega arith in
    get_each f (n + 1) xs i d e (omega arith) ∙ ap (λ j. f j (get_or xs i e)) k

abbrev no_given : Option GivenValue
no_given = None

abbrev no_member : Option SymId
no_member = None

module _ (tree : TreeFacts) (given : List Assignment) where
  pub symbol_place : (i : ℕ) → i < length tree.symbols → place_at (places_given tree (no_places tree) given) (SymbolPlace i) ≡ last_or None (filter_map (given_to i) given)
  unfolding places_given
  symbol_place i lt =
      let long : i < length (replicate (length tree.symbols) no_given) = rw length-replicate lt in
      get_each (λ j old. last_or old (filter_map (given_to j) given)) 0 (replicate (length tree.symbols) no_given) i no_given no_given long
      ∙ (let z : 0 + i ≡ i = omega arith in rw (get_or-replicate (length tree.symbols) i no_given no_given lt, z) refl)

  pub choice_place : (c : ℕ) → c < length tree.choices → place_at (places_given tree (no_places tree) given) (ChoicePlace c) ≡ member_place (last_or None (filter_map (chosen_in tree c) given))
  unfolding places_given
  choice_place c lt =
      let long : c < length (replicate (length tree.choices) no_member) = rw length-replicate lt in
      ap member_place (
      get_each (λ j old. last_or old (filter_map (chosen_in tree j) given)) 0 (replicate (length tree.choices) no_member) c no_member no_member long
      ∙ (let z : 0 + c ≡ c = omega arith in rw (get_or-replicate (length tree.choices) c no_member no_member lt, z) refl)
      )

same_number : (s : SymId) (i : ℕ) → s.0 ≡ i → s ≡ symbol i
same_number s i e = ap symbol e

is_this_choice-true : (c : ℕ) (o : Option ℕ) → is_this_choice c o ≡ true → o ≡ Some c
is_this_choice-true c None e = cc
is_this_choice-true c (Some d) e = ap Some (eqb-true d c e)

choice-is : (c : ℕ) (o : Option ℕ) → o ≡ Some c → is_this_choice c o ≡ true
choice-is c o e = rw e (eq-eqb c c refl)

-- Assignments of their values to the symbols that pass a test.
pub record Holds (tree : TreeFacts) (value : SymId → GivenValue) (has : SymId → Bool) (given : List Assignment) : Type 0 where
  pub sound : (a : Assignment) → Contains given a → (has a.symbol ≡ true) × (a.given ≡ value a.symbol) × (a.symbol.0 < length tree.symbols)
  pub complete : (s : SymId) → s.0 < length tree.symbols → has s ≡ true → (a : Assignment) × Contains given a × (a.symbol ≡ s)

module _ (tree : TreeFacts) (value : SymId → GivenValue) (has : SymId → Bool) (given : List Assignment) (holds : Holds tree value has given) where
  abbrev Filled : Places
  Filled = places_given tree (no_places tree) given

  to_here : (i : ℕ) (a : Assignment) → a.symbol.0 ≡ i → Contains given a → given_to i a ≡ Some (value (symbol i))
  to_here i a is c =
      let h = holds.sound a c in
      let e : a.given ≡ value (symbol i) = h.1 ∙ ap value (same_number a.symbol i is) in
      rw (eq-eqb a.symbol.0 i is) (ap Some e)

  -- a symbol that passes has its value
  pub filled_symbol : (i : ℕ) → i < length tree.symbols → place_at Filled (SymbolPlace i) ≡ cond (has (symbol i)) (Some (value (symbol i))) None
  filled_symbol i lt = symbol_place tree given i lt ∙ by (has (symbol i)) refl
    where
      by : (b : Bool) → has (symbol i) ≡ b → last_or None (filter_map (given_to i) given) ≡ cond b (Some (value (symbol i))) None
      by true h =
          last_same (given_to i) (value (symbol i)) given None
          (λ a c. elim (cases_Bool (eqb a.symbol.0 i)) [
            | inl e ↦ inr (to_here i a (eqb-true a.symbol.0 i e) c)
            | inr e ↦ inl (rw e refl)
          ])
          (inr (let (a, c, is) = holds.complete (symbol i) lt h in (a, c, to_here i a (ap (λ (x : SymId). x.0) is) c)))
      by false h =
          last_none (given_to i) given None
          (λ a c. elim (cases_Bool (eqb a.symbol.0 i)) [
            | inl e ↦
                let at = holds.sound a c in
                let never : true ≡ false = sym at.0 ∙ ap has (same_number a.symbol i (eqb-true a.symbol.0 i e)) ∙ h in
                cc
            | inr e ↦ rw e refl
          ])

  -- a member of the choice that passes and is y
  abbrev pub IsCandidate : ℕ → SymId → Type 0
  IsCandidate c x = (x.0 < length tree.symbols) × (has x ≡ true) × (choice_of tree x ≡ Some c) × (is_yes (value x) ≡ true)

  candidate_of : (c : ℕ) (a : Assignment) → Contains given a → (is_yes a.given && is_this_choice c (choice_of tree a.symbol)) ≡ true → IsCandidate c a.symbol
  candidate_of c a at e =
      let h = holds.sound a at in
      let (is_y, choice) = and_parts (is_yes a.given) (is_this_choice c (choice_of tree a.symbol)) e in
      (h.2, h.0, is_this_choice-true c (choice_of tree a.symbol) choice, ap is_yes (sym h.1) ∙ is_y)

  pub filled_member : (c : ℕ) (m : SymId) → c < length tree.choices → IsCandidate c m → ((x : SymId) → IsCandidate c x → x ≡ m) → place_at Filled (ChoicePlace c) ≡ Some (Member m)
  filled_member c m lt is only =
      choice_place tree given c lt
      ∙ ap member_place (
      last_same (chosen_in tree c) m given None
      (λ a at. elim (cases_Bool (is_yes a.given && is_this_choice c (choice_of tree a.symbol))) [
        | inl e ↦ inr (rw e (ap Some (only a.symbol (candidate_of c a at e))))
        | inr e ↦ inl (rw e refl)
      ])
      (inr (
      let (a, at, same) = holds.complete m is.0 is.1 in
      let h = holds.sound a at in
      let is_y : is_yes a.given ≡ true = ap is_yes h.1 ∙ ap (λ x. is_yes (value x)) same ∙ is.3 in
      let choice : is_this_choice c (choice_of tree a.symbol) ≡ true = choice-is c (choice_of tree a.symbol) (ap (choice_of tree) same ∙ is.2) in
      (a, at, rw (is_y, choice) (ap Some same))
      ))
      )

  pub filled_none : (c : ℕ) → c < length tree.choices → ((x : SymId) → IsCandidate c x → ⊥) → place_at Filled (ChoicePlace c) ≡ None
  filled_none c lt none =
      choice_place tree given c lt
      ∙ ap member_place (
      last_none (chosen_in tree c) given None
      (λ a at. elim (cases_Bool (is_yes a.given && is_this_choice c (choice_of tree a.symbol))) [
        | inl e ↦ absurd (none a.symbol (candidate_of c a at e))
        | inr e ↦ rw e refl
      ])
      )
