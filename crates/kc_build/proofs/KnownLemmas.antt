-- What the rows of symbols, the places and the choices that were found say: what the lines say.
use Rattle.std.proofs.{Common.{Bool, List, None, Option, Some, [], ap, arith, cond, drop, false, filter, inl, inr, length, map, refl, subst, suc, sym, take_while, true, zero, ℕ, ◌&&◌, ◌++◌, ◌+◌, ◌-◌, ◌<◌, ◌||◌, ◌∙◌, ◌∷◌, ◌≡◌, ◌≤◌}, Math.Bool.or-false, lemmas.{Bool.{eq-eqb, ne_eqb}, List.{Elements.{filter-append, filter_map-append}, Folds.list_any-append, Sums.{count_by-le-length, length-filter, take_while-cons}, append-nil, length-map}, Option.slice_get_within}}
use Rattle.std.specs.{List.{cons_option, filter_map, flat_map, list_any, slice_get}, Option.{is_some, option_or, unwrap_or}, Prelude.{option_map, slice_index_or, ◌==◌, ◌⊎◌}}
use Rattle.kc_language.specs.{Expansion.{attributes, is_attribute, numbers}, Expressions.{same_symbol, symbol}, Statements.{Located, Numbered}, Symbols.{choice_number, choice_of, definitions_of, enclosing_choice, is_symbol_of, listed, members_of, stated_type, symbol_at}, declared.{expressions.{SymId.SymId, SymbolType.SymbolType}, symbols.ChoiceId.ChoiceId}}
use Rattle.kc_language.specs.declared.expressions.SymbolType.TheVariants as symbol_type
use Rattle.kc_entries.specs.{Entries.lines_in, ListFacts.{AreBelow, AreChoicesApart, AreTypesDefined}, PartsOfSymbols.{first_of, is_member_index}, declared.entries.Entries.Entries}
use Rattle.kc_entries.proofs.{ElementLemmas.filter_map-from, ListLemmas.first_of-append, MemberLemmas.any_kept, PlaceLemmas.{length-numbers, there_in}}
use Rattle.kc_tree.specs.{EntryViews.{begins_choice, definitions_from, entry_count, index_at, index_of, statements_in}, Places.{AreChoiceEntries, AreMembers, ArePlaces, AreVisibles, asks_at, place_at, shows_at, shows_before, top_place}, declared.rows.{Choice.Choice, EntryId.EntryId, EntryPlace.EntryPlace, Symbol.Symbol}}
use Rattle.kc_tree.proofs.{EntryListLemmas.{choice-number, definitions-at}, IndexLemmas.{attributes-is, index-end}, ListLemmas.{filter-below, flat-map}}
use Rattle.kc_build.specs.{Standing.AreStanding, SymbolRows.{AreKnownRows, IsKnownRow}, SymbolsFound.{AreLinkedFrom, AreMembersOf, AreMembersThere, AreRowsFrom, AreSamePlaces, as_member, bool_without, first_choice, lists, row_from, type_from, unlinked}}
use Rattle.kc_build.proofs.{ChangeLemmas.mapped, OpenChoiceLemmas.{choice-last, number-up}, StandingLemmas.none-below}

-- ---- Where elements come from
in-either : {X : Type 0} (xs ys : List X) (k : ℕ) (y : X) → slice_get (xs ++ ys) k ≡ Some y → ((j : ℕ) × (slice_get xs j ≡ Some y)) ⊎ ((j : ℕ) × (slice_get ys j ≡ Some y))
in-either [] ys k y h = inr (k, h)
in-either (x ∷ xs) ys zero y h = inl (0, h)
in-either {X} (x ∷ xs) ys (suc k) y h = by (in-either xs ys k y h)
  where
    by : (((j : ℕ) × (slice_get xs j ≡ Some y)) ⊎ ((j : ℕ) × (slice_get ys j ≡ Some y))) → ((j : ℕ) × (slice_get (x ∷ xs) j ≡ Some y)) ⊎ ((j : ℕ) × (slice_get ys j ≡ Some y))
    by (inl f) = inl (suc (f.0), f.1)
    by (inr f) = inr f

module _ {X Y : Type 0} where
  from-flat : (f : X → List Y) (xs : List X) (k : ℕ) (y : Y) → slice_get (flat_map f xs) k ≡ Some y → (x : X) × (j : ℕ) × (slice_get (f x) j ≡ Some y)
  from-flat f [] k y h = absurd cc
  from-flat f (x ∷ xs) k y h = by (in-either (f x) (flat_map f xs) k y h) (λ j g. from-flat f xs j y g)
    where
      by : (((j : ℕ) × (slice_get (f x) j ≡ Some y)) ⊎ ((j : ℕ) × (slice_get (flat_map f xs) j ≡ Some y))) →
          ((j : ℕ) → slice_get (flat_map f xs) j ≡ Some y → (z : X) × (j : ℕ) × (slice_get (f z) j ≡ Some y)) → (z : X) × (j : ℕ) × (slice_get (f z) j ≡ Some y)
      by (inl g) later = (x, g.0, g.1)
      by (inr g) later = later (g.0) (g.1)

  abbrev Source : (X → Option Y) → List X → Y → Type 0
  Source f xs y = (j : ℕ) × (x : X) × (slice_get xs j ≡ Some x) × (f x ≡ Some y)

  from-filter : (f : X → Option Y) (xs : List X) (k : ℕ) (y : Y) → slice_get (filter_map f xs) k ≡ Some y → Source f xs y
  from-filter f [] k y h = absurd cc
  from-filter f (x ∷ xs) k y h = by (f x) k refl (λ j g. from-filter f xs j y g) h
    where
      behind : Source f xs y → Source f (x ∷ xs) y
      behind g = (suc (g.0), g.1, g.2, g.3)

      by : (o : Option Y) (k : ℕ) → f x ≡ o → ((j : ℕ) → slice_get (filter_map f xs) j ≡ Some y → Source f xs y) → slice_get (cons_option o (filter_map f xs)) k ≡ Some y → Source f (x ∷ xs) y
      by None k e later g = behind (later k g)
      by (Some z) zero e later g = (0, x, refl, e ∙ g)
      by (Some z) (suc k) e later g = behind (later k g)

from-front : {X : Type 0} (p : X → Bool) (xs : List X) (k : ℕ) (y : X) → slice_get (take_while p xs) k ≡ Some y → slice_get xs k ≡ Some y
from-front p [] k y h = absurd cc
from-front {X} p (x ∷ xs) k y h = by (p x) k (λ j g. from-front p xs j y g) (sym (ap (λ l. slice_get l k) (take_while-cons p x xs)) ∙ h)
  where
    by : (b : Bool) (k : ℕ) → ((j : ℕ) → slice_get (take_while p xs) j ≡ Some y → slice_get xs j ≡ Some y) → slice_get (cond b (x ∷ take_while p xs) []) k ≡ Some y → slice_get (x ∷ xs) k ≡ Some y
    by true zero later g = g
    by true (suc k) later g = later k g
    by false k later g = absurd cc

from-rest : {X : Type 0} (xs : List X) (n k : ℕ) (y : X) → slice_get (drop n xs) k ≡ Some y → slice_get xs (n + k) ≡ Some y
from-rest xs zero k y h = let z : 0 + k ≡ k = omega arith in ap (slice_get xs) z ∙ h
from-rest [] (suc n) k y h = absurd cc
from-rest (x ∷ xs) (suc n) k y h = let z : suc n + k ≡ suc (n + k) = omega arith in ap (slice_get (x ∷ xs)) z ∙ from-rest xs n k y h

-- ---- Numbers
abbrev among : List ℕ → ℕ → Bool
among xs k = list_any (λ d. d == k) xs

-- the least of numbers of which the first is the least
module _ (xs : List ℕ) (e : ℕ) (first : first_of xs ≡ Some e) (least : (k : ℕ) → k < e → among xs k ≡ false) where
  none-up : filter (among xs) (numbers e) ≡ []
  none-up = none-below (among xs) e least

  here : (ys : List ℕ) → first_of ys ≡ Some e → among ys e ≡ true
  here [] h = absurd cc
  here (y ∷ ys) h = let same : y ≡ e = cc in ap (λ b. b || among ys e) (eq-eqb y e same)

  least-up : (d : ℕ) → first_of (filter (among xs) (numbers (suc e + d))) ≡ Some e
  least-up zero =
      let z : suc e + 0 ≡ suc e = omega arith in
      ap (λ n. first_of (filter (among xs) (numbers n))) z
      ∙ ap first_of (filter-append (among xs) (numbers e) (e ∷ []) ∙ (λ j. none-up j ++ cond (here xs first j) (e ∷ []) []))
  least-up (suc d) =
      let z : suc e + suc d ≡ suc (suc e + d) = omega arith in
      ap (λ n. first_of (filter (among xs) (numbers n))) z
      ∙ ap first_of (filter-append (among xs) (numbers (suc e + d)) ((suc e + d) ∷ []))
      ∙ first_of-append (filter (among xs) (numbers (suc e + d))) (cond (among xs (suc e + d)) ((suc e + d) ∷ []) [])
      ∙ ap (λ o. option_or o (first_of (cond (among xs (suc e + d)) ((suc e + d) ∷ []) []))) (least-up d)

first-least : (xs : List ℕ) (n : ℕ) (o : Option ℕ) → first_of xs ≡ o → ((e : ℕ) → o ≡ Some e → (e < n) × ((k : ℕ) → k < e → among xs k ≡ false)) → first_of (filter (among xs) (numbers n)) ≡ o
first-least [] n None h all = ap first_of (none-below (among []) n (λ k b. refl))
first-least [] n (Some e) h all = absurd cc
first-least (x ∷ xs) n None h all = absurd cc
first-least (x ∷ xs) n (Some e) h all =
    let below = (all e refl).0 in
    let z : suc e + (n - suc e) ≡ n = omega (arith, below) in
    ap (λ m. first_of (filter (among (x ∷ xs)) (numbers m))) (sym z) ∙ least-up (x ∷ xs) e h (all e refl).1 (n - suc e)

-- ---- The choice of a symbol
module _ (ss : List Numbered) (apart : AreChoicesApart ss) (s : SymId) where
  abbrev defines : ℕ → Bool
  defines i = is_symbol_of s (symbol_at ss i)

  -- the choices around the definitions before a line
  abbrev around : ℕ → List ℕ
  around n = filter_map (enclosing_choice ss) (filter defines (numbers n))

  abbrev IsRising : ℕ → List ℕ → Type 0
  IsRising n xs = (e : ℕ) → first_of xs ≡ Some e → (suc e ≤ choice_number ss n) × ((k : ℕ) → k < e → among xs k ≡ false)

  up-one : (n : ℕ) → choice_number ss n ≤ choice_number ss (suc n)
  up-one n =
      let z : n + 1 ≡ suc n = omega arith in
      let up = number-up ss n 1 in
      let same : choice_number ss (n + 1) ≡ choice_number ss (suc n) = ap (choice_number ss) z in
      omega (arith, up, same)

  rising-same : (n : ℕ) (xs : List ℕ) → IsRising n xs → IsRising (suc n) (xs ++ [])
  rising-same n xs r = subst (IsRising (suc n)) (sym (append-nil xs)) (λ e h. (let low = (r e h).0 in let up = up-one n in omega (arith, low, up), (r e h).1))

  rising-one : (n c : ℕ) (xs : List ℕ) → suc c ≡ choice_number ss n → IsRising n xs → IsRising (suc n) (xs ++ c ∷ [])
  rising-one n c [] is r e h =
      let same : c ≡ e = cc in
      (let up = up-one n in omega (arith, is, up, same), λ k b. ap (λ t. t || false) (ne_eqb c k (λ q. omega (arith, b, same, q))))
  rising-one n c (x ∷ xs) is r e h = (
    (let low = (r e h).0 in let up = up-one n in omega (arith, low, up)),
    λ k b. list_any-append (λ d. d == k) (x ∷ xs) (c ∷ [])
        ∙ (let low = (r e h).0 in λ j. (r e h).1 k b j || (ne_eqb c k (λ q. omega (arith, b, low, is, q)) j || false)),
  )

  rising-by : (n : ℕ) (b : Bool) (o : Option ℕ) → n ≤ length ss → enclosing_choice ss n ≡ o → IsRising n (around n) → IsRising (suc n) (around n ++ filter_map (enclosing_choice ss) (cond b (n ∷ []) []))
  rising-by n false o l e r = rising-same n (around n) r
  rising-by n true None l e r = subst (λ p. IsRising (suc n) (around n ++ cons_option p [])) (sym e) (rising-same n (around n) r)
  rising-by n true (Some c) l e r = subst (λ p. IsRising (suc n) (around n ++ cons_option p [])) (sym e) (rising-one n c (around n) (choice-last ss apart n c l e) r)

  rising : (n : ℕ) → n ≤ length ss → IsRising n (around n)
  rising zero l = λ e h. absurd cc
  rising (suc n) l =
      subst (IsRising (suc n))
      (sym (ap (filter_map (enclosing_choice ss)) (filter-append defines (numbers n) (n ∷ [])) ∙ filter_map-append (enclosing_choice ss) (filter defines (numbers n)) (cond (defines n) (n ∷ []) [])))
      (rising-by n (defines n) (enclosing_choice ss n) (omega (arith, l)) refl (rising n (omega (arith, l))))

  -- a symbol is a member of the choices around its definitions
  same-test : (a b : Option SymId) (l : Bool) → a ≡ b → ((is_some a && l) && list_any (same_symbol s) (listed b)) ≡ (is_symbol_of s a && l)
  same-test None None l e = refl
  same-test None (Some t) l e = absurd cc
  same-test (Some t) None l e = absurd cc
  same-test (Some t) (Some u) l e =
      let same : u ≡ t = cc in
      ap (λ (v : SymId). l && (same_symbol s v || false)) same ∙ by l (same_symbol s t)
    where
      by : (l m : Bool) → (l && (m || false)) ≡ (m && l)
      by true true = refl
      by true false = refl
      by false true = refl
      by false false = refl

  any-each : (f g : ℕ → Bool) → ((i : ℕ) → f i ≡ g i) → (xs : List ℕ) → list_any f xs ≡ list_any g xs
  any-each f g h [] = refl
  any-each f g h (x ∷ xs) = λ j. h x j || any-each f g h xs j

  member-around : (k : ℕ) → list_any (same_symbol s) (members_of ss k) ≡ among (around (length ss)) k
  member-around k =
      any_kept (same_symbol s) (symbol_at ss) (is_member_index ss k) (numbers (length ss))
      ∙ any-each (λ i. is_member_index ss k i && list_any (same_symbol s) (listed (symbol_at ss i))) (λ i. is_symbol_of s (symbol_at ss i) && list_any (λ d. d == k) (listed (enclosing_choice ss i)))
      (λ i. same-test (symbol_at ss i) (symbol_at ss i) (list_any (λ d. d == k) (listed (enclosing_choice ss i))) refl) (numbers (length ss))
      ∙ sym (any_kept (λ d. d == k) (enclosing_choice ss) defines (numbers (length ss)))

  -- the first of the choices that list it is its choice
  choice-first : (choices : List Choice) → length choices ≡ choice_number ss (length ss) → ((k : ℕ) (c : Choice) → slice_get choices k ≡ Some c → c.members.items ≡ members_of ss k) →
      option_map (λ (k : ChoiceId). k.0) (first_choice choices s) ≡ choice_of ss s
  choice-first choices n all =
      unwrapped (first_of (filter (lists choices s) (numbers (length choices))))
      ∙ ap first_of (filter-below (lists choices s) (among (around (length ss))) (length choices) listed-by)
      ∙ first-least (around (length ss)) (length choices) (first_of (around (length ss))) refl
      (λ e h. (let low = (rising (length ss) (omega arith) e h).0 in omega (arith, low, n), (rising (length ss) (omega arith) e h).1))
    where
      unwrapped : (o : Option ℕ) → option_map (λ (k : ChoiceId). k.0) (option_map (λ j. record { 0 = j }) o) ≡ o
      unwrapped None = refl
      unwrapped (Some j) = refl

      listed-by : (k : ℕ) → k < length choices → lists choices s k ≡ among (around (length ss)) k
      listed-by k b =
          let c = there_in choices k b in
          ap (λ o. list_any (λ (d : Choice). list_any (same_symbol s) d.members.items) (listed o)) (c.1)
          ∙ or-false (list_any (same_symbol s) (c.0).members.items)
          ∙ ap (list_any (same_symbol s)) (all k (c.0) (c.1)) ∙ member-around k

-- ---- The type of a symbol
module _ (ss : List Numbered) (types : AreTypesDefined ss) where
  stated : (ds : List ℕ) (t : SymbolType) → first_of (filter_map stated_type (flat_map (attributes ss) ds)) ≡ Some t → t ≡ symbol_type.Undefined → ⊥
  stated ds t h e =
      let line = from-filter stated_type (flat_map (attributes ss) ds) 0 t h in
      let entry = from-flat (attributes ss) ds (line.0) (line.1) (line.2) in
      let at = from-rest ss (suc (entry.0)) (entry.1) (line.1) (from-front is_attribute (drop (suc (entry.0)) ss) (entry.1) (line.1) (entry.2)) in
      types (suc (entry.0) + entry.1) (line.1) at (line.3 ∙ ap Some e)

bool-given : (t : SymbolType) → (t ≡ symbol_type.Undefined → ⊥) → bool_without t ≡ t
bool-given symbol_type.Undefined no-type = absurd (no-type refl)
bool-given _ no-type = refl

typed : (g : Option SymbolType) → ((t : SymbolType) → g ≡ Some t → t ≡ symbol_type.Undefined → ⊥) → bool_without (unwrap_or g symbol_type.Undefined) ≡ unwrap_or g symbol_type.Bool
typed None h = refl
typed (Some t) h = bool-given t (h t refl)

module _ (es : Entries) where
  abbrev ss : List Numbered
  ss = statements_in es

  type-given : (s : SymId) → first_of (filter_map stated_type (flat_map (attributes (statements_in es)) (definitions_of (statements_in es) s))) ≡ type_from es s 0
  type-given s =
      ap (λ ds. first_of (filter_map stated_type (flat_map (attributes (statements_in es)) ds))) (definitions-at es s)
      ∙ ap (λ ls. first_of (filter_map stated_type ls))
      (flat-map (attributes (statements_in es)) (index_of es) (definitions_from es s 0) ∙ (λ j. flat_map (λ e. attributes-is es e j) (definitions_from es s 0)))

  choices-count : (choices : List Choice) → AreChoiceEntries es choices → length choices ≡ choice_number (statements_in es) (length (statements_in es))
  choices-count choices h =
      sym (length-map choices (λ (c : Choice). c.entry.0)) ∙ ap length h ∙ length-map (filter (begins_choice es) (numbers (entry_count es))) suc
      ∙ length-filter (begins_choice es) (numbers (entry_count es)) ∙ sym (choice-number es (entry_count es) (omega arith)) ∙ ap (choice_number (statements_in es)) (index-end es)

  -- The rows of symbols with their types and choices.
  module _ (types : AreTypesDefined (statements_in es)) (apart : AreChoicesApart (statements_in es)) (choices : List Choice) (entries : AreChoiceEntries es choices) (members : AreMembers es choices) where
    known-by : (s : ℕ) (o : Option ChoiceId) → first_choice choices (symbol s) ≡ o → IsKnownRow es s (as_member o (row_from es 0 s))
    known-by s None h =
        let none : choice_of (statements_in es) (symbol s) ≡ None = sym (choice-first (statements_in es) apart (symbol s) choices (choices-count choices entries) members) ∙ ap (option_map (λ (k : ChoiceId). k.0)) h in
        record {
          symbol_type = λ j. unwrap_or (sym (type-given (symbol s)) j) (cond (is_some (sym none j)) symbol_type.Bool symbol_type.Undefined);
          choice = sym none;
          first = refl;
          last_select = refl;
          last_imply = refl;
        }
    known-by s (Some k) h =
        let one : choice_of (statements_in es) (symbol s) ≡ Some k.0 = sym (choice-first (statements_in es) apart (symbol s) choices (choices-count choices entries) members) ∙ ap (option_map (λ (k : ChoiceId). k.0)) h in
        let given : (t : SymbolType) → type_from es (symbol s) 0 ≡ Some t → t ≡ symbol_type.Undefined → ⊥ = λ t g. stated (statements_in es) types (definitions_of (statements_in es) (symbol s)) t (type-given (symbol s) ∙ g) in
        record {
          symbol_type =
              typed (type_from es (symbol s) 0) given
              ∙ (λ j. unwrap_or (sym (type-given (symbol s)) j) (cond (is_some (sym one j)) symbol_type.Bool symbol_type.Undefined));
          choice = sym one;
          first = refl;
          last_select = refl;
          last_imply = refl;
        }

    pub known-rows : (count : ℕ) (one two : List Symbol) → AreRowsFrom es 0 count one → AreMembersOf choices one two → AreKnownRows es two
    known-rows count one two rows so s row g =
        let below = slice_get_within two s row g in
        let old = there_in one s (omega (arith, below, so.0)) in
        let is : Some row ≡ Some (as_member (first_choice choices (symbol s)) (old.0)) = sym g ∙ so.1 s (old.0) (old.1) in
        let same : row ≡ as_member (first_choice choices (symbol s)) (old.0) = cc in
        subst (IsKnownRow es s) (sym (same ∙ ap (as_member (first_choice choices (symbol s))) (rows.1 s (old.0) (old.1)))) (known-by s (first_choice choices (symbol s)) refl)

  -- each member has a row
  pub members-there : (count : ℕ) (choices : List Choice) → AreBelow count (statements_in es) → AreMembers es choices → AreMembersThere count choices
  members-there count choices below members k c j s at is =
      let from = filter_map-from (symbol_at (statements_in es)) s (filter (is_member_index (statements_in es) k) (numbers (length (statements_in es)))) j (ap (λ l. slice_get l j) (sym (members k c at)) ∙ is) in
      below (from.0) s (from.1)

  -- The places, once the definitions lead to the next ones.
  module _ (old new : List EntryPlace) (same : AreSamePlaces old new) where
    like : (xs ys : List EntryPlace) → map unlinked ys ≡ map unlinked xs → (e : ℕ) → unlinked (slice_index_or ys e top_place) ≡ unlinked (slice_index_or xs e top_place)
    like [] [] h e = refl
    like [] (y ∷ ys) h e = absurd cc
    like (x ∷ xs) [] h e = absurd cc
    like (x ∷ xs) (y ∷ ys) h zero = let first : unlinked y ≡ unlinked x = cc in first
    like (x ∷ xs) (y ∷ ys) h (suc e) = let rest : map unlinked ys ≡ map unlinked xs = cc in like xs ys rest e

    place-like : (at : ℕ) → unlinked (place_at new at) ≡ unlinked (place_at old at)
    place-like zero = refl
    place-like (suc e) = like old new same e

    found : (xs ys : List EntryPlace) → map unlinked ys ≡ map unlinked xs → (e : ℕ) (p : EntryPlace) → slice_get ys e ≡ Some p → (q : EntryPlace) × (slice_get xs e ≡ Some q) × (unlinked p ≡ unlinked q)
    found xs ys h e p g =
        let q = mapped unlinked xs e (unlinked p) (ap (λ l. slice_get l e) (sym h) ∙ seen ys e p g) in
        (q.0, q.1, sym (q.2))
      where
        seen : (zs : List EntryPlace) (e : ℕ) (p : EntryPlace) → slice_get zs e ≡ Some p → slice_get (map unlinked zs) e ≡ Some (unlinked p)
        seen [] e p g = absurd cc
        seen (z ∷ zs) zero p g = let first : z ≡ p = cc in ap (λ r. Some (unlinked r)) first
        seen (z ∷ zs) (suc e) p g = seen zs e p g

    pub places-are : AreStanding es old → AreLinkedFrom es 0 new → ArePlaces es new
    places-are stand linked e p g =
        let f = found old new same e p g in
        let q = f.0 in
        let u : unlinked p ≡ unlinked (f.0) = f.2 in
        let s = stand e (f.0) (f.1) in
        let outer : p.outer.0 ≡ (f.0).outer.0 = ap (λ (r : EntryPlace). r.outer.0) u in
        let around : unlinked (place_at old (f.0).outer.0) ≡ unlinked (place_at new p.outer.0) = ap (λ n. unlinked (place_at old n)) (sym outer) ∙ sym (place-like p.outer.0) in
        let before : (f.0).outer.0 ≤ e = s.before in
        record {
          outer = ap (λ n. index_at es n) outer ∙ s.outer;
          before = omega (arith, outer, before);
          context = ap (λ (r : EntryPlace). r.context.0) u ∙ s.context ∙ ap (λ (r : EntryPlace). cond (asks_at es e) (suc e) r.context.0) around;
          visible = ap (λ (r : EntryPlace). r.visible.0) u ∙ s.visible ∙ ap (λ (r : EntryPlace). cond (shows_at es e) (suc (shows_before es e)) r.visible.0) around;
          prompt = ap (λ (r : EntryPlace). r.prompt.0) u ∙ s.prompt;
          has_default = ap (λ (r : EntryPlace). r.has_default) u ∙ s.has_default;
          has_range = ap (λ (r : EntryPlace). r.has_range) u ∙ s.has_range;
          has_target = ap (λ (r : EntryPlace). r.has_target) u ∙ s.has_target;
          next = λ t d. linked e p t (omega arith) g d;
        }

  -- ---- How many there are
  pub entries-few : entry_count es ≤ length (lines_in es)
  entries-few =
      let end = index-end es in
      let same = length-map (lines_in es) (λ (l : Located Numbered). l.statement) in
      omega (arith, end, same)

  pub choices-few : (choices : List Choice) → AreChoiceEntries es choices → length choices ≤ entry_count es
  choices-few choices h =
      let same = sym (length-map choices (λ (c : Choice). c.entry.0)) ∙ ap length h ∙ length-map (filter (begins_choice es) (numbers (entry_count es))) suc
      ∙ length-filter (begins_choice es) (numbers (entry_count es)) in
      let few = count_by-le-length (begins_choice es) (numbers (entry_count es)) in
      let all = length-numbers (entry_count es) in
      omega (arith, same, few, all)

  pub menus-few : (visibles : List EntryId) → AreVisibles es visibles → length visibles ≤ entry_count es
  menus-few visibles h =
      let same = sym (length-map visibles (λ (v : EntryId). v.0)) ∙ ap length h ∙ length-map (filter (shows_at es) (numbers (entry_count es))) suc
      ∙ length-filter (shows_at es) (numbers (entry_count es)) in
      let few = count_by-le-length (shows_at es) (numbers (entry_count es)) in
      let all = length-numbers (entry_count es) in
      omega (arith, same, few, all)
