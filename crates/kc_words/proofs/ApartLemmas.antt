-- Names in lists, and what is known of the files of many configurations once all are compared.
use Rattle.std.proofs.Common.{if◌then◌else◌, ◌&&◌, not, ◌≡◌, ◌≢◌, ◌⊎◌, inl, inr, ℕ, ◌+◌, ◌<◌, ◌≤◌, List, [], ◌∷◌, ◌++◌, map, take, length, get_or, Bool, true, false, ◌||◌, refl, ap, sym, ◌∙◌, arith, append-nil, bytes_eq, Option, Some, None, suc, zero, below_more, String, string_bytes}
use Rattle.std.specs.List.{flat_map, list_any}
use Rattle.std.specs.Option.{is_some}
use Rattle.std.specs.Prelude.{option_map}
use Rattle.std.specs.declared.alloc.Global.{Global}
use Rattle.std.proofs.lemmas.List.{get_or-map, map-append, take_more}
use Rattle.std.proofs.lemmas.List.Concat.{flat_map-append}
use Rattle.std.proofs.lemmas.List.Folds.{list_any-append, list_any_at, list_any_more}
use Rattle.std.proofs.lemmas.Slice.Eq.{bytes_eq-Decides}
use Rattle.clap.specs.Words.{Text}
use Rattle.kc_language.specs.Expressions.{all_mentioned, mention}
use Rattle.kc_words.specs.CommandLine.{AreApart, IsClash, IsWrittenAndRead, Writes, is_among, writes, written_and_read_text, written_twice_text}
use Rattle.kc_words.specs.Clashes.{AreNamesWritten, Holds, IsOverwrite, IsTwice, is_overwritten}
use Rattle.kc_words.specs.Refusals.{IsBadFor}
use Rattle.kc_words.specs.declared.each.Each.{Each}
use Rattle.kc_words.specs.declared.usage.UsageError.{UsageError}
use Rattle.kc_words.specs.declared.usage.UsageError.TheVariants as usage

or-assoc : (a b c : Bool) → ((a || b) || c) ≡ (a || (b || c))
or-assoc true b c = refl
or-assoc false b c = refl

or-false : (a : Bool) → (a || false) ≡ a
or-false true = refl
or-false false = refl

or-true : (a : Bool) → (a || true) ≡ true
or-true true = refl
or-true false = refl

same : (a b : Text) → bytes_eq a b ≡ true → a ≡ b
same a b h = (bytes_eq-Decides a b).0 h

-- ---- mentioned names

known_name : (name w : Text) (table : List Text) (b : Bool) → bytes_eq name w ≡ b → is_among w table ≡ true → is_among name table ≡ (is_among name table || b)
known_name name w table true e h = (ap (λ n. is_among n table) (same name w e) ∙ h) ∙ sym (or-true (is_among name table))
known_name name w table false e h = sym (or-false (is_among name table))

mention_by : (name w : Text) (table : List Text) (known : Bool) → is_among w table ≡ known → is_among name (if known then table else table ++ w ∷ []) ≡ (is_among name table || bytes_eq name w)
mention_by name w table true h = known_name name w table (bytes_eq name w) refl h
mention_by name w table false h = list_any-append (bytes_eq name) table (w ∷ []) ∙ ap (λ b. is_among name table || b) (or-false (bytes_eq name w))

among-mentioned : (name : Text) (ws table : List Text) → is_among name (all_mentioned table ws) ≡ (is_among name table || is_among name ws)
among-mentioned name [] table = sym (or-false (is_among name table))
among-mentioned name (w ∷ ws) table =
    among-mentioned name ws (mention table w)
    ∙ ap (λ b. b || is_among name ws) (mention_by name w table (is_among w table) refl)
    ∙ or-assoc (is_among name table) (bytes_eq name w) (is_among name ws)

mentioned-push : (ws table : List Text) (w : Text) → all_mentioned table (ws ++ w ∷ []) ≡ mention (all_mentioned table ws) w
mentioned-push [] table w = refl
mentioned-push (v ∷ ws) table w = mentioned-push ws (mention table v) w

-- ---- the names of the configurations before

none_by : (p : Text → Bool) (w : Text) (ws : List Text) (name : Text) → (list_any p ws ≡ false → is_among name ws ≡ true → p name ≡ false) → (q : Bool) → p w ≡ q → (b : Bool) → bytes_eq name w ≡ b
    → list_any p (w ∷ ws) ≡ false → is_among name (w ∷ ws) ≡ true → p name ≡ false
none_by p w ws name rest true pw b e none h = absurd (let x : true ≡ false = ap (λ c. c || list_any p ws) (sym pw) ∙ none in cc)
none_by p w ws name rest false pw true e none h = ap p (same name w e) ∙ pw
none_by p w ws name rest false pw false e none h = rest (ap (λ c. c || list_any p ws) (sym pw) ∙ none) (ap (λ c. c || is_among name ws) (sym e) ∙ h)

pub none-at : (p : Text → Bool) (names : List Text) (name : Text) → list_any p names ≡ false → is_among name names ≡ true → p name ≡ false
none-at p [] name none h = absurd (let e : false ≡ true = h in cc)
none-at p (w ∷ ws) name none h = none_by p w ws name (none-at p ws name) (p w) refl (bytes_eq name w) refl none h

among-at : (f : Text → List Text) (xs : List Text) (i k : ℕ) (name : Text) → k < i → i ≤ length xs → is_among name (f (get_or xs k [])) ≡ true → is_among name (flat_map f (take i xs)) ≡ true
among-at f [] i k name lt le h = absurd (omega arith)
among-at f (x ∷ xs) zero k name lt le h = absurd (omega arith)
among-at f (x ∷ xs) (suc i) zero name lt le h = list_any-append (bytes_eq name) (f x) (flat_map f (take i xs)) ∙ ap (λ b. b || is_among name (flat_map f (take i xs))) h
among-at f (x ∷ xs) (suc i) (suc k) name lt le h =
    list_any-append (bytes_eq name) (f x) (flat_map f (take i xs))
    ∙ ap (λ b. is_among name (f x) || b) (among-at f xs i k name (omega arith) (omega arith) h) ∙ or-true (is_among name (f x))

some_by : (f : Text → List Text) (x : Text) (xs : List Text) (i : ℕ) (name : Text)
    → (is_among name (flat_map f (take i xs)) ≡ true → (k : ℕ) × (k < i) × (is_among name (f (get_or xs k [])) ≡ true))
    → (b : Bool) → is_among name (f x) ≡ b → (b || is_among name (flat_map f (take i xs))) ≡ true → (k : ℕ) × (k < suc i) × (is_among name (f (get_or (x ∷ xs) k [])) ≡ true)
some_by f x xs i name rest true e h = (0, omega arith, e)
some_by f x xs i name rest false e h = (suc (rest h).0, (let r : (rest h).0 < i = (rest h).1 in omega arith), (rest h).2)

pub among-some : (f : Text → List Text) (xs : List Text) (i : ℕ) (name : Text) → i ≤ length xs → is_among name (flat_map f (take i xs)) ≡ true
    → (k : ℕ) × (k < i) × (is_among name (f (get_or xs k [])) ≡ true)
among-some f [] zero name le h = absurd (let e : false ≡ true = h in cc)
among-some f [] (suc i) name le h = absurd (omega arith)
among-some f (x ∷ xs) zero name le h = absurd (let e : false ≡ true = h in cc)
among-some f (x ∷ xs) (suc i) name le h =
    some_by f x xs i name (among-some f xs i name (omega arith)) (is_among name (f x)) refl (sym (list_any-append (bytes_eq name) (f x) (flat_map f (take i xs))) ∙ h)

-- ---- the table of the names that are written

among-more : (f : Text → List Text) (xs : List Text) (i : ℕ) (name : Text) → i < length xs
    → is_among name (flat_map f (take (i + 1) xs)) ≡ (is_among name (flat_map f (take i xs)) || is_among name (f (get_or xs i [])))
among-more f xs i name lt =
    ap (λ t. is_among name (flat_map f t)) (take_more xs i [] lt)
    ∙ ap (is_among name) (flat_map-append f (take i xs) (get_or xs i [] ∷ []))
    ∙ list_any-append (bytes_eq name) (flat_map f (take i xs)) (f (get_or xs i []) ++ [])
    ∙ ap (λ t. is_among name (flat_map f (take i xs)) || is_among name t) (append-nil (f (get_or xs i [])))

pub holds-start : (f : Text → List Text) (xs : List Text) → Holds f xs 0 []
holds-start f xs = record { held = λ name. refl; once = λ k lt j name jk one two. omega arith }

pub holds-more : (f : Text → List Text) (xs : List Text) (i : ℕ) (table names : List Text) → i < length xs → names ≡ f (get_or xs i [])
    → list_any (λ name. is_among name table) names ≡ false → Holds f xs i table → Holds f xs (i + 1) (all_mentioned table names)
holds-more f xs i table names lt is none old = record {
  held = λ name. among-mentioned name names table ∙ ap (λ b. b || is_among name names) (old.held name)
      ∙ ap (λ t. is_among name (flat_map f (take i xs)) || is_among name t) is ∙ sym (among-more f xs i name lt);
  once = below_more (λ k. (j : ℕ) (name : Text) → j < k → is_among name (f (get_or xs j [])) ≡ true → is_among name (f (get_or xs k [])) ≡ true → ⊥) i old.once
      (λ j name jk one two.
      let there : is_among name table ≡ true = old.held name ∙ among-at f xs i j name jk (omega arith) one in
      let not_there : is_among name table ≡ false = none-at (λ n. is_among n table) names name none (ap (is_among name) is ∙ two) in
      absurd (let e : true ≡ false = sym there ∙ not_there in cc));
}

pub holds-clash : (f : Text → List Text) (xs : List Text) (i : ℕ) (table : List Text) (name : Text) → i ≤ length xs → Holds f xs i table → is_among name table ≡ true
    → (k : ℕ) × (k < i) × (is_among name (f (get_or xs k [])) ≡ true)
holds-clash f xs i table name le old h = among-some f xs i name le (sym (old.held name) ∙ h)

-- ---- lists of owned names

pub any-map : (p : Text → Bool) (xs : List (String Global)) → list_any p (map string_bytes xs) ≡ list_any (λ x. p (string_bytes x)) xs
any-map p [] = refl
any-map p (x ∷ xs) = ap (λ b. p (string_bytes x) || b) (any-map p xs)

pub mentioned-more : (table : List Text) (xs : List (String Global)) (i : ℕ) (s : String Global) → i < length xs → s ≡ get_or xs i s
    → all_mentioned table (map string_bytes (take (i + 1) xs)) ≡ mention (all_mentioned table (map string_bytes (take i xs))) (string_bytes s)
mentioned-more table xs i s lt is =
    ap (λ t. all_mentioned table (map string_bytes t)) (take_more xs i s lt)
    ∙ ap (all_mentioned table) (map-append string_bytes (take i xs) (get_or xs i s ∷ []))
    ∙ ap (λ t. all_mentioned table (map string_bytes (take i xs) ++ string_bytes t ∷ [])) (sym is)
    ∙ mentioned-push (map string_bytes (take i xs)) table (string_bytes s)

-- one of the names passes, or none of those before it and not itself
pub any-at : (p : Text → Bool) (xs : List (String Global)) (i : ℕ) (s : String Global) → i < length xs → s ≡ get_or xs i s → p (string_bytes s) ≡ true → list_any p (map string_bytes xs) ≡ true
any-at p xs i s lt is h = any-map p xs ∙ list_any_at (λ x. p (string_bytes x)) xs i s lt (ap (λ x. p (string_bytes x)) (sym is) ∙ h)

pub none-more : (p : Text → Bool) (xs : List (String Global)) (i : ℕ) (s : String Global) → i < length xs → s ≡ get_or xs i s → p (string_bytes s) ≡ false
    → list_any p (map string_bytes (take i xs)) ≡ false → list_any p (map string_bytes (take (i + 1) xs)) ≡ false
none-more p xs i s lt is fails none =
    any-map p (take (i + 1) xs) ∙ list_any_more (λ x. p (string_bytes x)) xs i s lt
    ∙ ap (λ b. b || p (string_bytes (get_or xs i s))) (sym (any-map p (take i xs)) ∙ none) ∙ ap (λ x. p (string_bytes x)) (sym is) ∙ fails

pub name-at : (xs : List (String Global)) (i : ℕ) (s : String Global) → i < length xs → s ≡ get_or xs i s → get_or (map string_bytes xs) i [] ≡ string_bytes s
name-at xs i s lt is = get_or-map string_bytes xs i s [] lt ∙ ap string_bytes (sym is)

pub self-among : (name : Text) → bytes_eq name name ≡ true
self-among name = (bytes_eq-Decides name name).1 refl

pub some-map : {A B : Type 0} (f : A → B) (o : Option A) → is_some (option_map f o) ≡ is_some o
some-map f None = refl
some-map f (Some x) = refl

-- ---- what the check finds

order : (i j : ℕ) → i ≢ j → (i < j) ⊎ (j < i)
order zero zero ne = absurd (ne refl)
order zero (suc j) ne = inl (omega arith)
order (suc i) zero ne = inr (omega arith)
order (suc i) (suc j) ne = elim (order i j (λ e. ne (ap suc e))) [ inl h ↦ inl (omega arith) | inr h ↦ inr (omega arith) ]

and-not : (a b : Bool) → (a && not b) ≡ true → (a ≡ true) × (b ≡ false)
and-not true true h = absurd (let e : false ≡ true = h in cc)
and-not true false h = (refl, refl)
and-not false b h = absurd (let e : false ≡ true = h in cc)

and-not_false : (a b : Bool) → (a && not b) ≡ false → a ≡ true → b ≡ true
and-not_false true true h there = refl
and-not_false true false h there = absurd (let e : true ≡ false = h in cc)
and-not_false false b h there = absurd (let e : false ≡ true = there in cc)

fails_by : (p : Text → Bool) (xs : List Text) (j : ℕ) (b : Bool) → list_any p xs ≡ false → j < length xs → p (get_or xs j []) ≡ b → b ≡ false
fails_by p xs j true none lt e = absurd (let x : true ≡ false = sym (list_any_at p xs j [] lt e) ∙ none in cc)
fails_by p xs j false none lt e = refl

fails-at : (p : Text → Bool) (xs : List Text) (j : ℕ) → list_any p xs ≡ false → j < length xs → p (get_or xs j []) ≡ false
fails-at p xs j none lt = fails_by p xs j (p (get_or xs j [])) none lt refl

module _ (each : Each) (xs : List Text) (table : List Text) where
  written_there : AreNamesWritten each xs table → (i : ℕ) (name : Text) → Writes each xs i name → is_among name table ≡ true
  written_there all i name wi = all.held name ∙ among-at (writes each) xs (length xs) i name wi.0 (omega arith) wi.1

  two : AreNamesWritten each xs table → (i j : ℕ) (name : Text) → i ≢ j → Writes each xs i name → Writes each xs j name → ⊥
  two all i j name ne wi wj = elim (order i j ne) [ inl lt ↦ all.once j wj.0 i name lt wi.1 wj.1 | inr lt ↦ all.once i wi.0 j name lt wj.1 wi.1 ]

  read_by : AreNamesWritten each xs table → list_any (is_overwritten each table) xs ≡ false → list_any (λ n. is_among n table) (map string_bytes each.options.fragments.items) ≡ false
      → (i j : ℕ) (name : Text) → i ≢ j → Writes each xs i name → j < length xs → (b : Bool) → bytes_eq name (get_or xs j []) ≡ b
      → (b || is_among name (map string_bytes each.options.fragments.items)) ≡ true → ⊥
  read_by all own others i j name ne wi lt true e h =
      let is = same name (get_or xs j []) e in
      let there : is_among (get_or xs j []) table ≡ true = ap (λ n. is_among n table) (sym is) ∙ written_there all i name wi in
      let self : is_among (get_or xs j []) (writes each (get_or xs j [])) ≡ true = and-not_false _ _ (fails-at (is_overwritten each table) xs j own lt) there in
      two all i j name ne wi (lt, ap (λ n. is_among n (writes each (get_or xs j []))) is ∙ self)
  read_by all own others i j name ne wi lt false e h =
      absurd (let x : true ≡ false = sym (written_there all i name wi) ∙ none-at (λ n. is_among n table) (map string_bytes each.options.fragments.items) name others h in cc)

  pub apart-many : AreNamesWritten each xs table → list_any (is_overwritten each table) xs ≡ false → list_any (λ n. is_among n table) (map string_bytes each.options.fragments.items) ≡ false → AreApart each xs
  apart-many all own others = λ i j name ne wi. (two all i j name ne wi, λ rj. read_by all own others i j name ne wi rj.0 (bytes_eq name (get_or xs j [])) refl rj.1)

  pub overwrite-clash : AreNamesWritten each xs table → (u : UsageError) → IsOverwrite each table xs u → IsClash each xs u
  overwrite-clash all (usage.Help t) h = absurd h
  overwrite-clash all usage.Version h = absurd h
  overwrite-clash all (usage.Bad t) h =
      let name = get_or xs h.0 [] in
      let both = and-not (is_among name table) (is_among name (writes each name)) h.2 in
      let k = holds-clash (writes each) xs (length xs) table name (omega arith) all both.0 in (
        name,
        inr (
          (
            k.0,
            h.0,
            (λ e. absurd (let x : true ≡ false = sym k.2 ∙ ap (λ i. is_among name (writes each (get_or xs i []))) e ∙ both.1 in cc)),
            (k.1, k.2),
            (h.1, ap (λ b. b || is_among name (map string_bytes each.options.fragments.items)) (self-among name)),
          ),
          h.3,
        ),
      )
  overwrite-clash all usage.Memory h = tt

  fragment_by : (k : ℕ) (name : Text) → 2 ≤ length xs → Writes each xs k name → is_among name (map string_bytes each.options.fragments.items) ≡ true → IsWrittenAndRead each xs name
  fragment_by zero name many w h = (0, 1, (λ e. absurd (omega arith)), w, (omega arith, ap (λ b. bytes_eq name (get_or xs 1 []) || b) h ∙ or-true (bytes_eq name (get_or xs 1 []))))
  fragment_by (suc k) name many w h = (suc k, 0, (λ e. absurd (omega arith)), w, (omega arith, ap (λ b. bytes_eq name (get_or xs 0 []) || b) h ∙ or-true (bytes_eq name (get_or xs 0 []))))

  pub fragment-clash : AreNamesWritten each xs table → (name : Text) → 2 ≤ length xs → is_among name table ≡ true → is_among name (map string_bytes each.options.fragments.items) ≡ true
      → (u : UsageError) → IsBadFor (written_and_read_text name) u → IsClash each xs u
  fragment-clash all name many there h (usage.Help t) b = absurd b
  fragment-clash all name many there h usage.Version b = absurd b
  fragment-clash all name many there h (usage.Bad t) b =
      let k = holds-clash (writes each) xs (length xs) table name (omega arith) all there in
      (name, inr (fragment_by k.0 name many (k.1, k.2) h, b))
  fragment-clash all name many there h usage.Memory b = tt

  pub twice-found : (i : ℕ) (name : Text) → i < length xs → Holds (writes each) xs i table → is_among name table ≡ true → is_among name (writes each (get_or xs i [])) ≡ true
      → (u : UsageError) → IsBadFor (written_twice_text name) u → IsTwice each xs u
  twice-found i name lt all there h (usage.Help t) b = absurd b
  twice-found i name lt all there h usage.Version b = absurd b
  twice-found i name lt all there h (usage.Bad t) b =
      let k = holds-clash (writes each) xs i table name (omega arith) all there in
      let below : k.0 < i = k.1 in
      (name, (k.0, i, (λ e. absurd (omega arith)), (omega arith, k.2), (lt, h)), b)
  twice-found i name lt all there h usage.Memory b = tt

pub twice-clash : (each : Each) (xs : List Text) (u : UsageError) → IsTwice each xs u → IsClash each xs u
twice-clash each xs (usage.Help t) h = absurd h
twice-clash each xs usage.Version h = absurd h
twice-clash each xs (usage.Bad t) h = (h.0, inl (h.1, h.2))
twice-clash each xs usage.Memory h = tt

pub overwrite-found : (each : Each) (table xs : List Text) (i : ℕ) (name : Text) → i < length xs → name ≡ get_or xs i [] → is_overwritten each table name ≡ true
    → (u : UsageError) → IsBadFor (written_and_read_text name) u → IsOverwrite each table xs u
overwrite-found each table xs i name lt is h (usage.Help t) b = absurd b
overwrite-found each table xs i name lt is h usage.Version b = absurd b
overwrite-found each table xs i name lt is h (usage.Bad t) b = (i, lt, ap (is_overwritten each table) (sym is) ∙ h, b ∙ ap written_and_read_text is)
overwrite-found each table xs i name lt is h usage.Memory b = tt
