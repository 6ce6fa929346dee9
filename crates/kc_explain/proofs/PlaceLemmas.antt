-- Definitions at one place, of which the first is read.
use Rattle.std.proofs.Common.{◌≡◌, ◌∙◌, ◌+◌, ◌<◌, ◌≤◌, ◌++◌, ◌∷◌, [], Bool, Bor, true, false, cond, List, None, Option, Some, ℕ, zero, suc, ap, filter, length, map, refl, subst, sym, append_assoc, append-nil, arith}
use Rattle.std.proofs.Math.Bool.{or-false}
use Rattle.std.proofs.lemmas.Bool.{Decides.nat_tests, eqb-true}
use Rattle.std.proofs.lemmas.List.{Folds.list_any-append, map-append}
use Rattle.std.specs.List.{list_any}
use Rattle.std.specs.Option.{option_map_or}
use Rattle.std.specs.Prelude.{flat_map, if◌then◌else◌, nat_lt, not, slice_get, ◌&&◌, ◌==◌, ◌||◌}
use Rattle.kc_language.specs.Expansion.{Files, numbers}
use Rattle.kc_language.specs.Expressions.{same_name}
use Rattle.kc_language.specs.Statements.{Located, Numbered}
use Rattle.kc_language.specs.Symbols.{definitions_of, is_symbol_of, listed, symbol_at}
use Rattle.kc_language.specs.declared.expressions.SymId.{SymId}
use Rattle.kc_outcome.specs.Explanations.{definition_comments, same_place}
use Rattle.kc_entries.specs.Entries.{first_line}
use Rattle.kc_entries.specs.declared.entries.Entry.{Entry}
use Rattle.kc_entries.proofs.EnclosingLemmas.{numbers-from, numbers_from}
use Rattle.kc_tree.specs.EntryViews.{index_of}
use Rattle.kc_tree.specs.Layouts.{entry_at, index_at, statements_in}
use Rattle.kc_tree.specs.declared.layout.Layout.{Layout}
use Rattle.kc_tree.specs.declared.rows.EntryId.{EntryId}
use Rattle.kc_read.proofs.FileLemmas.{same_name_eq}
use Rattle.kc_explain.specs.Excerpts.{definition_at, is_new_at, new_definitions, with_place_at}
use Rattle.kc_explain.specs.LineViews.{AreAt, at_entry, lines_of}
use Rattle.kc_explain.specs.Places.{Place, has_place, is_same, place_of, with_place}
use Rattle.kc_explain.proofs.LineLemmas.{entry-none, entry-there}

-- ---- the keys of a set as places
abbrev pub place_in : Bor (List ℕ) × ℕ → Place
place_in k = record { file = k.0.now; line = k.1 }

abbrev is_key : Bor (List ℕ) × ℕ → Bor (List ℕ) × ℕ → Bool
is_key k m = same_name k.0.now m.0.now && (k.1 == m.1)

pub has-is : (k : Bor (List ℕ) × ℕ) (keys : List (Bor (List ℕ) × ℕ)) → list_any (is_key k) keys ≡ has_place (map place_in keys) (place_in k)
has-is k [] = refl
has-is k (m ∷ keys) = ap (λ b. is_key k m || b) (has-is k keys)

pub with-is : (keys : List (Bor (List ℕ) × ℕ)) (k : Bor (List ℕ) × ℕ) →
    map place_in (if list_any (is_key k) keys then keys else keys ++ k ∷ []) ≡ with_place (map place_in keys) (place_in k)
with-is keys k =
    by (list_any (is_key k) keys) ∙ ap (λ b. if b then map place_in keys else map place_in keys ++ place_in k ∷ []) (has-is k keys)
  where
    by : (b : Bool) → map place_in (if b then keys else keys ++ k ∷ []) ≡ (if b then map place_in keys else map place_in keys ++ place_in k ∷ [])
    by true = refl
    by false = map-append place_in keys (k ∷ [])

-- ---- a place more
same-is : (p q : Place) → is_same p q ≡ true → p ≡ q
same-is p q h = by (same_name p.file q.file) (p.line == q.line) refl refl h
  where
    by : (a b : Bool) → same_name p.file q.file ≡ a → (p.line == q.line) ≡ b → (a && b) ≡ true → p ≡ q
    by true true e f t = λ i. record { file = same_name_eq p.file q.file e i; line = eqb-true p.line q.line f i }
    by true false e f t = absurd cc
    by false b e f t = absurd cc

has-more : (places : List Place) (q p : Place) → has_place (with_place places q) p ≡ (has_place places p || is_same p q)
has-more places q p = by (has_place places q) (is_same p q) refl refl
  where
    known : (b : Bool) → b ≡ true → b ≡ (b || true)
    known true e = refl
    known false e = absurd cc

    by : (b c : Bool) → has_place places q ≡ b → is_same p q ≡ c → has_place (if b then places else places ++ q ∷ []) p ≡ (has_place places p || c)
    by false c e f = list_any-append (is_same p) places (q ∷ []) ∙ ap (λ d. has_place places p || d) (or-false (is_same p q) ∙ f)
    by true true e f = known (has_place places p) (ap (has_place places) (same-is p q f) ∙ e)
    by true false e f = sym (or-false (has_place places p))

-- ---- ascending numbers
abbrev AreBelow : ℕ → List ℕ → Type 0
AreBelow n [] = Unit {0}
AreBelow n (j ∷ js) = (j < n) × AreBelow n js

abbrev Ascend : ℕ → List ℕ → Type 0
Ascend n [] = Unit {0}
Ascend n (j ∷ js) = (n ≤ j) × Ascend (suc j) js

below-more : (n m : ℕ) → n ≤ m → (js : List ℕ) → AreBelow n js → AreBelow m js
below-more n m l [] a = tt
below-more n m l (j ∷ js) a = (let b = a.0 in omega (arith, l, b), below-more n m l js a.1)

below-push : (i : ℕ) (js : List ℕ) → AreBelow i js → AreBelow (suc i) (js ++ i ∷ [])
below-push i [] a = (omega arith, tt)
below-push i (j ∷ js) a = (let b = a.0 in omega (arith, b), below-push i js a.1)

ascend-less : (n : ℕ) (js : List ℕ) → Ascend (suc n) js → Ascend n js
ascend-less n [] a = tt
ascend-less n (j ∷ js) a = (let b = a.0 in omega (arith, b), a.1)

ascend-kept : (q : ℕ → Bool) (n from : ℕ) → Ascend from (filter q (numbers_from from n))
ascend-kept q zero from = tt
ascend-kept q (suc n) from = by (q from) (ascend-kept q n (suc from))
  where
    by : (b : Bool) → Ascend (suc from) (filter q (numbers_from (suc from) n)) →
        Ascend from (cond b (from ∷ filter q (numbers_from (suc from) n)) (filter q (numbers_from (suc from) n)))
    by true a = (omega arith, a)
    by false a = ascend-less from (filter q (numbers_from (suc from) n)) a

is-below : (n i : ℕ) → n < i → nat_lt n i ≡ true
is-below n i h = grind (arith, nat_tests)

is-not-below : (n i : ℕ) → i ≤ n → nat_lt n i ≡ false
is-not-below n i h = grind (arith, nat_tests)

-- whether a test holds of one of them below i
module _ (f : ℕ → Bool) (i : ℕ) where
  abbrev below_i : ℕ → Bool
  below_i j = nat_lt j i && f j

  none-later : (n : ℕ) → i ≤ n → (js : List ℕ) → Ascend n js → list_any below_i js ≡ false
  none-later n l [] a = refl
  none-later n l (j ∷ js) a =
      let b = a.0 in
      ap (λ t. (t && f j) || list_any below_i js) (is-not-below j i (omega (arith, l, b)))
      ∙ none-later (suc j) (omega (arith, l, b)) js a.1

  earlier : (before js : List ℕ) → AreBelow i before → Ascend (suc i) js → list_any below_i (before ++ i ∷ js) ≡ list_any f before
  earlier [] js b a = none-later i (omega arith) (i ∷ js) (omega arith, a)
  earlier (j ∷ before) js b a = λ k. (is-below j i b.0 k && f j) || earlier before js b.1 a k

-- ---- the definitions whose places are new
module _ (l : Layout) where
  abbrev is_at : Place → ℕ → Bool
  is_at p j = option_map_or (λ (m : Located Numbered). same_name p.file m.file && (p.line == m.line)) (slice_get (lines_of l) j) false

  -- these are the places of the definitions so far
  abbrev Knows : List Place → List ℕ → Type 0
  Knows places before = (p : Place) → has_place places p ≡ list_any (is_at p) before

  pub record Begins (e : EntryId) (i : ℕ) : Type 0 where
    pub first : Entry
    pub entry : entry_at l e.0 ≡ Some first
    pub line : slice_get (lines_of l) i ≡ Some (first_line first)

  begins : (e : EntryId) (i : ℕ) → index_at l e.0 ≡ Some i → Begins e i
  begins e i h = by (entry_at l e.0) refl
    where
      some-is : (a b : ℕ) → Some a ≡ Some b → a ≡ b
      some-is a b g = cc

      by : (o : Option Entry) → entry_at l e.0 ≡ o → Begins e i
      by None g = absurd (let no : None ≡ Some i = sym (entry-none l e.0 g) ∙ h in cc)
      by (Some x) g =
          let is = entry-there l e.0 x g in
          let same : i ≡ index_of l.entries is.number = some-is i (index_of l.entries is.number) (sym h ∙ is.index) in
          record { first = x; entry = g; line = ap (slice_get (lines_of l)) same ∙ is.first }

  knows-more : (places : List Place) (before : List ℕ) (e : EntryId) (i : ℕ) → Begins e i → Knows places before → Knows (with_place_at l places e) (before ++ i ∷ [])
  knows-more places before e i b known p =
      ap (λ (o : Option Entry). has_place (elim o [ None ↦ places | Some x ↦ with_place places (place_of x) ]) p) b.entry
      ∙ has-more places (place_of b.first) p
      ∙ (λ k. known p k || sym (or-false (is_same p (place_of b.first))) k)
      ∙ ap (λ (o : Option (Located Numbered)). list_any (is_at p) before || (option_map_or (λ m. same_name p.file m.file && (p.line == m.line)) o false || false)) (sym b.line)
      ∙ sym (list_any-append (is_at p) before (i ∷ []))

  module _ (files : Files) (all : List ℕ) where
    abbrev is_first : ℕ → Bool
    is_first i = not (list_any (λ j. nat_lt j i && same_place (slice_get (lines_of l) i) (slice_get (lines_of l) j)) all)

    one-first : (b : Bool) (i : ℕ) (js : List ℕ) → (if b then definition_at files (lines_of l) i else []) ++ flat_map (definition_at files (lines_of l)) (filter is_first js)
        ≡ flat_map (definition_at files (lines_of l)) (cond b (i ∷ filter is_first js) (filter is_first js))
    one-first true i js = refl
    one-first false i js = refl

    is-first : (places : List Place) (before js : List ℕ) (e : EntryId) (i : ℕ) → Begins e i → Knows places before → AreBelow i before → Ascend (suc i) js →
        before ++ i ∷ js ≡ all → is_new_at l places e ≡ is_first i
    is-first places before js e i b known low up whole =
        ap (λ (o : Option Entry). elim o [ None ↦ false | Some x ↦ not (has_place places (place_of x)) ]) b.entry
        ∙ ap not (known (place_of b.first) ∙ sym (earlier (is_at (place_of b.first)) i before js low up)
        ∙ (λ k. list_any (λ j. nat_lt j i && same_place (sym b.line k) (slice_get (lines_of l) j)) (whole k)))

    each-new : (entries : List EntryId) (js : List ℕ) → AreAt l entries js → (places : List Place) (before : List ℕ) (n : ℕ) → Knows places before →
        AreBelow n before → Ascend n js → before ++ js ≡ all →
        new_definitions files l places entries ≡ flat_map (definition_at files (lines_of l)) (filter is_first js)
    each-new [] [] a places before n known low up whole = refl
    each-new (e ∷ entries) (i ∷ js) a places before n known low up whole =
        let here : index_at l e.0 ≡ Some i = cc in
        let rest : AreAt l entries js = cc in
        let b = begins e i here in
        let under = below-more n i up.0 before low in
        let one : at_entry l (definition_at files (lines_of l)) e ≡ definition_at files (lines_of l) i =
        ap (λ o. flat_map (definition_at files (lines_of l)) (listed o)) here ∙ append-nil (definition_at files (lines_of l) i) in
        (λ k. (if is-first places before js e i b known under up.1 whole k then one k else [])
        ++ each-new entries js rest (with_place_at l places e) (before ++ i ∷ []) (suc i) (knows-more places before e i b known) (below-push i before under) up.1
        (append_assoc before (i ∷ []) js ∙ whole) k)
        ∙ one-first (is_first i) i js
    each-new [] (i ∷ js) a places before n known low up whole = absurd cc
    each-new (e ∷ entries) [] a places before n known low up whole = absurd cc

  pub comments-are : (files : Files) (entries : List EntryId) (s : SymId) → AreAt l entries (definitions_of (statements_in l) s) →
      new_definitions files l [] entries ≡ definition_comments files (lines_of l) s
  comments-are files entries s a =
      let defines : ℕ → Bool = λ i. is_symbol_of s (symbol_at (statements_in l) i) in
      let up : Ascend 0 (definitions_of (statements_in l) s) =
      subst (λ is. Ascend 0 (filter (λ i. is_symbol_of s (symbol_at (statements_in l) i)) is)) (sym (numbers-from (length (statements_in l)))) (ascend-kept defines (length (statements_in l)) 0) in
      each-new files (definitions_of (statements_in l) s) entries (definitions_of (statements_in l) s) a [] [] 0 (λ p. refl) tt up refl
