-- Names, as the bytes of the keys of a set.
use Rattle.std.proofs.{Common.{Bool, List, None, Some, [], ap, append-nil, append_assoc, arith, cond, false, get_or, length, map, nat_lt, not, position, refl, slice_get, suc, sym, true, zero, ℕ, ◌++◌, ◌+◌, ◌<◌, ◌==◌, ◌||◌, ◌∙◌, ◌∷◌, ◌≡◌}, Math.ListN.length-map, lemmas.{Bool.{Decides.nat_tests, false≢true}, Grind.flat_map-append, List.Elements.All-from_recursion, Option.{get_or_from_slice_get, slice_get_within}}}
use Rattle.std.specs.{List.{AllByRecursion, IsDistinct, list_any, position_or_len, prefix_len}, Prelude.{Err, Ok, OnErr, Result}}
use Rattle.kc_expr.specs.{Names.{AreDistinct, Extends, IsNumber}, PartsOfExpressions.{names_in_terminal, names_in_terminals}, declared.{hash_key.HashKey.HashKey, name.Name.Name}}
use Rattle.indexmap.specs.IndexSet.{IndexSet}
use Rattle.kc_language.specs.{Expressions.{Close, Terminal, all_mentioned, mention, number_of, same_name, symbol}, declared.expressions.SymId.SymId}

pub on_err : {T E : Type 0} (r : Result T E) (P : Type 0) → P → OnErr r P
on_err (Ok x) P p = tt
on_err (Err e) P p = p

module _ {K : Type 0} (f : K → List ℕ) where
  prefix_len-map : (p : List ℕ → Bool) (ks : List K) → prefix_len p (map f ks) ≡ prefix_len (λ k. p (f k)) ks
  prefix_len-map p [] = refl
  prefix_len-map p (k ∷ ks) = ap (λ n. cond (p (f k)) (1 + n) 0) (prefix_len-map p ks)

  list_any-map : (p : List ℕ → Bool) (ks : List K) → list_any p (map f ks) ≡ list_any (λ k. p (f k)) ks
  list_any-map p [] = refl
  list_any-map p (k ∷ ks) = ap (λ b. p (f k) || b) (list_any-map p ks)

  map-push : (ks : List K) (k : K) → map f (ks ++ k ∷ []) ≡ map f ks ++ f k ∷ []
  map-push [] k = refl
  map-push (x ∷ ks) k = ap (λ l. f x ∷ l) (map-push ks k)

  pub number_of-map : (name : List ℕ) (ks : List K) → number_of (map f ks) name ≡ position_or_len (λ k. same_name name (f k)) ks
  number_of-map name ks = prefix_len-map (λ n. not (same_name name n)) ks

  pub position-map : (p : List ℕ → Bool) (ks : List K) → position p (map f ks) ≡ position (λ k. p (f k)) ks
  position-map p ks =
      let n = prefix_len-map (λ n. not (p n)) ks in
      let l : length (map f ks) ≡ length ks = simp length-map in
      rw (n, l)

  pub mention-known : (name : List ℕ) (ks : List K) → true ≡ list_any (λ k. same_name name (f k)) ks → map f ks ≡ mention (map f ks) name
  mention-known name ks h = rw (list_any-map (same_name name) ks, ← h)

  pub not_known : (name : List ℕ) (ks : List K) → false ≡ list_any (λ k. same_name name (f k)) ks → list_any (same_name name) (map f ks) ≡ false
  not_known name ks h = list_any-map (same_name name) ks ∙ sym h

  pub mention-insert : (ks : List K) (k : K) → map f (cond (list_any (λ x. same_name (f k) (f x)) ks) ks (ks ++ k ∷ [])) ≡ mention (map f ks) (f k)
  mention-insert ks k = rw (list_any-map (same_name (f k)) ks) (by (list_any (λ x. same_name (f k) (f x)) ks))
    where
      by : (b : Bool) → map f (cond b ks (ks ++ k ∷ [])) ≡ cond b (map f ks) (map f ks ++ f k ∷ [])
      by true = refl
      by false = map-push ks k

-- an index that was found is the number of the name
pub position-number : {X : Type 0} (p : X → Bool) (xs : List X) (i : ℕ) → Some i ≡ position p xs → i ≡ position_or_len p xs
position-number p xs i h = by (nat_lt (position_or_len p xs) (length xs)) (position_or_len p xs) i h
  where
    by : (b : Bool) (n j : ℕ) → Some j ≡ cond b (Some n) None → j ≡ n
    by true n j e = cc
    by false n j e = cc

module _ (names : IndexSet Name HashKey) (name : List ℕ) where
  abbrev seen : List (List ℕ)
  seen = map (λ v. v.bytes.items) names.keys

  abbrev test : Name → Bool
  test = λ v. same_name name v.bytes.items

  pub number_found : (i : ℕ) → Some i ≡ position test names.keys → i ≡ number_of seen name
  number_found i h = position-number test names.keys i h ∙ sym (number_of-map (λ v. v.bytes.items) name names.keys)

  pub position_found : position test names.keys ≡ position (same_name name) seen
  position_found = sym (position-map (λ v. v.bytes.items) (same_name name) names.keys)

  pub number_new : (i : ℕ) → i ≡ position_or_len test names.keys → i ≡ number_of seen name
  number_new i h = h ∙ sym (number_of-map (λ v. v.bytes.items) name names.keys)

same_name-comm : (v w : List ℕ) → same_name v w ≡ same_name w v
same_name-comm [] [] = refl
same_name-comm [] (b ∷ w) = refl
same_name-comm (a ∷ v) [] = refl
same_name-comm (a ∷ v) (b ∷ w) =
    let e : (a == b) ≡ (b == a) = grind (arith, nat_tests) in rw (e, same_name-comm v w)

-- a name is the same as itself
pub same_name-refl : (w : List ℕ) → same_name w w ≡ true
same_name-refl [] = refl
same_name-refl (b ∷ w) = let e : (b == b) ≡ true = grind (arith, nat_tests) in rw (e, same_name-refl w)

-- where no two names are the same, the number of the name at a place is the place
pub number_of-at : (ks : List Name) (i : ℕ) (d : Name) → IsDistinct (λ a b. same_name a.bytes.items b.bytes.items) ks → i < length ks →
    number_of (map (λ v. v.bytes.items) ks) (get_or ks i d).bytes.items ≡ i
unfolding IsDistinct
number_of-at [] i d u h = absurd (omega arith)
number_of-at (k ∷ ks) zero d u h = rw (same_name-refl k.bytes.items)
number_of-at (k ∷ ks) (suc i) d u h =
    let w = (get_or ks i d).bytes.items in
    let apart : same_name w k.bytes.items ≡ false = same_name-comm w k.bytes.items ∙ All-from_recursion _ ks u.0 i d (omega arith) in
    rw (apart, number_of-at ks i d u.1 (omega arith)) (omega arith)

pub number_of-name : (ks : List Name) (i : ℕ) (v : Name) → IsDistinct (λ a b. same_name a.bytes.items b.bytes.items) ks → Some v ≡ slice_get ks i →
    number_of (map (λ k. k.bytes.items) ks) v.bytes.items ≡ i
number_of-name ks i v u e =
    ap (λ k. number_of (map (λ k. k.bytes.items) ks) k.bytes.items) (sym (get_or_from_slice_get ks i v v (sym e)))
    ∙ number_of-at ks i v u (slice_get_within ks i v (sym e))

-- a known name keeps its number
number_kept : (names others : List (List ℕ)) (w : List ℕ) → list_any (same_name w) names ≡ true → number_of (names ++ others) w ≡ number_of names w
number_kept [] others w h = absurd (false≢true h)
number_kept (x ∷ xs) others w h = by (same_name w x) h (number_kept xs others w)
  where
    by : (b : Bool) → (b || list_any (same_name w) xs) ≡ true → (list_any (same_name w) xs ≡ true → number_of (xs ++ others) w ≡ number_of xs w) →
        cond (not b) (1 + number_of (xs ++ others) w) 0 ≡ cond (not b) (1 + number_of xs w) 0
    by true h rest = refl
    by false h rest = ap (λ n. 1 + n) (rest h)

number_pushed : (names others : List (List ℕ)) (w : List ℕ) → list_any (same_name w) names ≡ false → number_of (names ++ (w ∷ others)) w ≡ number_of names w
number_pushed [] others w h = rw (same_name-refl w)
number_pushed (x ∷ xs) others w h = by (same_name w x) h (number_pushed xs others w)
  where
    by : (b : Bool) → (b || list_any (same_name w) xs) ≡ false → (list_any (same_name w) xs ≡ false → number_of (xs ++ (w ∷ others)) w ≡ number_of xs w) →
        cond (not b) (1 + number_of (xs ++ (w ∷ others)) w) 0 ≡ cond (not b) (1 + number_of xs w) 0
    by true h rest = refl
    by false h rest = ap (λ n. 1 + n) (rest h)

-- a mentioned name has its number from then on
pub number_later : (names : List (List ℕ)) (w : List ℕ) (later : List (List ℕ)) → Extends (mention names w) later → number_of names w ≡ number_of later w
number_later names w later ext = by (list_any (same_name w) names) refl ext.1
  where
    by : (b : Bool) → list_any (same_name w) names ≡ b → later ≡ cond b names (names ++ w ∷ []) ++ ext.0 → number_of names w ≡ number_of later w
    by true e h = sym (ap (λ ns. number_of ns w) h ∙ number_kept names ext.0 w e)
    by false e h = sym (ap (λ ns. number_of ns w) (h ∙ append_assoc names (w ∷ []) ext.0) ∙ number_pushed names ext.0 w e)

pub symbol_later : (names : List (List ℕ)) (w : List ℕ) (later : List (List ℕ)) → Extends (mention names w) later → symbol (number_of names w) ≡ symbol (number_of later w)
symbol_later names w later ext = ap symbol (number_later names w later ext)

pub number_for_later : (old new : List (List ℕ)) (w : List ℕ) (id : SymId) → id ≡ symbol (number_of old w) → new ≡ mention old w → IsNumber new w id
number_for_later old new w id e m later x = e ∙ symbol_later old w later (x.0, x.1 ∙ ap (λ ns. ns ++ x.0) m)

-- names that extend names that extend names
pub extends_on : (a b c : List (List ℕ)) → Extends a b → Extends b c → Extends a c
extends_on a b c x y = (x.0 ++ y.0, y.1 ∙ ap (λ l. l ++ y.0) x.1 ∙ append_assoc a x.0 y.0)

-- a mention keeps the names so far, and so do several
mention_extends : (names : List (List ℕ)) (w : List ℕ) → Extends names (mention names w)
mention_extends names w = by (list_any (same_name w) names)
  where
    by : (b : Bool) → Extends names (cond b names (names ++ w ∷ []))
    by true = ([], sym (append-nil names))
    by false = (w ∷ [], refl)

pub all_mentioned_extends : (names ws : List (List ℕ)) → Extends names (all_mentioned names ws)
all_mentioned_extends names [] = ([], sym (append-nil names))
all_mentioned_extends names (w ∷ ws) = extends_on _ _ _ (mention_extends names w) (all_mentioned_extends (mention names w) ws)

pub mentioned_extends : (names later ws : List (List ℕ)) → later ≡ all_mentioned names ws → Extends names later
mentioned_extends names later ws e = let x = all_mentioned_extends names ws in (x.0, e ∙ x.1)

-- first these, then those
pub all_mentioned-append : (names vs ws : List (List ℕ)) → all_mentioned names (vs ++ ws) ≡ all_mentioned (all_mentioned names vs) ws
all_mentioned-append names [] ws = refl
all_mentioned-append names (v ∷ vs) ws = all_mentioned-append (mention names v) vs ws

pub mentioned_on : (old now names vs ws : List (List ℕ)) → now ≡ all_mentioned old vs → names ≡ all_mentioned now ws → names ≡ all_mentioned old (vs ++ ws)
mentioned_on old now names vs ws e f = f ∙ ap (λ ns. all_mentioned ns ws) e ∙ sym (all_mentioned-append old vs ws)

pub names_in_terminals-append : (a b : List Terminal) → names_in_terminals (a ++ b) ≡ names_in_terminals a ++ names_in_terminals b
names_in_terminals-append a b = flat_map-append names_in_terminal a b

pub names_in_terminals-closed : (a : List Terminal) → names_in_terminals (a ++ Close ∷ []) ≡ names_in_terminals a
names_in_terminals-closed a = names_in_terminals-append a (Close ∷ []) ∙ append-nil (names_in_terminals a)

-- names that differ as the keys of a set differ as names
pub distinct-map : (ks : List Name) → IsDistinct (λ a b. same_name a.bytes.items b.bytes.items) ks → AreDistinct (map (λ v. v.bytes.items) ks)
unfolding IsDistinct
distinct-map [] d = d
distinct-map (k ∷ ks) d = (all_map ks d.0, distinct-map ks d.1)
  where
    all_map : (vs : List Name) → AllByRecursion (λ v. same_name k.bytes.items v.bytes.items ≡ false) vs → AllByRecursion (λ n. same_name k.bytes.items n ≡ false) (map (λ v. v.bytes.items) vs)
    all_map [] h = tt
    all_map (v ∷ vs) h = (h.0, all_map vs h.1)
