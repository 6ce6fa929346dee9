-- Places after assignments.
use Rattle.std.proofs.{Common.{Bool, List, None, Option, Some, [], ap, arith, cond, eqb, false, length, refl, slice_set, suc, sym, true, zero, ℕ, ◌++◌, ◌+◌, ◌<◌, ◌∙◌, ◌∷◌, ◌≡◌}, lemmas.{Bool.{eq-eqb, ne_eqb}, List.Elements.filter_map-append}}
use Rattle.std.specs.{List.{cons_option, filter_map, last_or}, Prelude.{map, option_map, replicate, ◌&&◌}}
use Rattle.kc_user.proofs.UserLemmas.{map-replicate}
use Rattle.kc_language.specs.{ConfigFile.{ArePlacesOf, Assignment, Places, each_from, places_given}, Symbols.TreeFacts, Values.{GivenValue, is_yes}, declared.expressions.SymId.SymId}
use Rattle.kc_input.specs.{LineSteps.with_member, PartsOfConfigFile.{choice_of, chosen_in, given_to, is_this_choice}}

pub each_from-each_from : {A B C : Type 0} (f : ℕ → B → C) (g : ℕ → A → B) (n : ℕ) (xs : List A) → each_from f n (each_from g n xs) ≡ each_from (λ i x. f i (g i x)) n xs
each_from-each_from f g n [] = refl
each_from-each_from f g n (x ∷ xs) = ap (λ ys. f n (g n x) ∷ ys) (each_from-each_from f g (n + 1) xs)

pub each_from-same : {A B : Type 0} (f g : ℕ → A → B) (n : ℕ) (xs : List A) → ((i : ℕ) (x : A) → f i x ≡ g i x) → each_from f n xs ≡ each_from g n xs
each_from-same f g n [] same = refl
each_from-same f g n (x ∷ xs) same = rw same (ap (λ ys. g n x ∷ ys) (each_from-same f g (n + 1) xs same))

pub last_or-append : {A : Type 0} (o : Option A) (xs ys : List A) → last_or o (xs ++ ys) ≡ last_or (last_or o xs) ys
last_or-append o [] ys = refl
last_or-append o (x ∷ xs) ys = last_or-append (Some x) xs ys

-- the last of both lists, in each place
pub each_last : {X A : Type 0} (h : ℕ → X → Option A) (a b : List X) (xs : List (Option A)) →
    each_from (λ i old. last_or old (filter_map (h i) (a ++ b))) 0 xs
    ≡ each_from (λ i old. last_or old (filter_map (h i) b)) 0 (each_from (λ i old. last_or old (filter_map (h i) a)) 0 xs)
each_last h a b xs =
    each_from-same _ _ 0 xs (λ i old. rw filter_map-append (last_or-append old (filter_map (h i) a) (filter_map (h i) b)))
    ∙ sym (each_from-each_from (λ i old. last_or old (filter_map (h i) b)) (λ i old. last_or old (filter_map (h i) a)) 0 xs)

pub places_given-append : (tree : TreeFacts) (places : Places) (a b : List Assignment) → places_given tree places (a ++ b) ≡ places_given tree (places_given tree places a) b
unfolding places_given
places_given-append tree places a b = rw (each_last given_to a b places.symbols, each_last (chosen_in tree) a b places.choices) refl

pub each_same : {A : Type 0} (n : ℕ) (xs : List A) → each_from (λ i old. old) n xs ≡ xs
each_same n [] = refl
each_same n (x ∷ xs) = ap (λ ys. x ∷ ys) (each_same (n + 1) xs)

pub places_given-nothing : (tree : TreeFacts) (places : Places) → places_given tree places [] ≡ places
unfolding places_given
places_given-nothing tree places = rw (each_same 0 places.symbols, each_same 0 places.choices) refl

-- no later place has a lower number
none_after : {A : Type 0} (s n : ℕ) (x : A) (xs : List (Option A)) → s < n → each_from (λ i old. last_or old (cons_option (cond (eqb s i) (Some x) None) [])) n xs ≡ xs
none_after s n x [] below = refl
none_after s n x (o ∷ xs) below =
    let other : eqb s n ≡ false = ne_eqb s n (omega arith) in
    let later : s < n + 1 = omega arith in
    rw other (ap (λ ys. o ∷ ys) (none_after s (n + 1) x xs later))

-- one place is filled
pub one_place : {A : Type 0} (s n k : ℕ) (x : A) (xs : List (Option A)) → s ≡ n + k → each_from (λ i old. last_or old (cons_option (cond (eqb s i) (Some x) None) [])) n xs ≡ slice_set xs k (Some x)
one_place s n k x [] is = refl
one_place s n zero x (o ∷ xs) is =
    let here : eqb s n ≡ true = eq-eqb s n (omega arith) in
    let later : s < n + 1 = omega arith in
    rw here (ap (λ ys. Some x ∷ ys) (none_after s (n + 1) x xs later))
one_place s n (suc k) x (o ∷ xs) is =
    let other : eqb s n ≡ false = ne_eqb s n (omega arith) in
    let later : s ≡ (n + 1) + k = omega arith in
    rw other (ap (λ ys. o ∷ ys) (one_place s (n + 1) k x xs later))

member_place : (yes : Bool) (choice : Option ℕ) (s : SymId) (choices : List (Option SymId)) →
    each_from (λ c old. last_or old (cons_option (cond (yes && is_this_choice c choice) (Some s) None) [])) 0 choices ≡ with_member yes choice s choices
member_place false choice s choices = each_same 0 choices
member_place true None s choices = each_same 0 choices
member_place true (Some c) s choices = one_place c 0 c s choices (omega arith)

-- what one assignment leaves in the places
pub places_given-one : (tree : TreeFacts) (places : Places) (s : SymId) (given : GivenValue) →
    places_given tree places (record { symbol = s; given = given } ∷ [])
    ≡ record { symbols = slice_set places.symbols s.0 (Some given); choices = with_member (is_yes given) (choice_of tree s) s places.choices }
unfolding places_given
places_given-one tree places s given =
    rw (one_place s.0 0 s.0 given places.symbols (omega arith), member_place (is_yes given) (choice_of tree s) s places.choices) refl

pub length-each_from : {A B : Type 0} (f : ℕ → A → B) (n : ℕ) (xs : List A) → length (each_from f n xs) ≡ length xs
length-each_from f n [] = refl
length-each_from f n (x ∷ xs) = ap suc (length-each_from f (n + 1) xs)

-- there are as many places as before
pub ArePlacesOf-given : (tree : TreeFacts) (places : Places) (given : List Assignment) → ArePlacesOf tree places → ArePlacesOf tree (places_given tree places given)
unfolding places_given
ArePlacesOf-given tree places given fits = record {
  symbols = length-each_from _ 0 places.symbols ∙ fits.symbols;
  choices = length-each_from _ 0 places.choices ∙ fits.choices;
}

-- no place has a value yet
pub none_yet : {A B : Type 0} (f : A → B) (keeps : Bool) (n : ℕ) → map (option_map f) (cond keeps (replicate n None) []) ≡ cond keeps (replicate n None) []
none_yet f true n = map-replicate (option_map f) n None
none_yet f false n = refl
