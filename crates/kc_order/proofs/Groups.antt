-- What groups stand for, and which symbols are unordered through them.
use Rattle.std.proofs.{Common.{All, List, [], ap, arith, cond, drop, false, get_or, inl, inr, length, length-drop, refl, subst, suc, sym, take, true, zero, ℕ, ◌++◌, ◌+◌, ◌-◌, ◌<◌, ◌∙◌, ◌∷◌, ◌≡◌, ◌≤◌}, lemmas.{Bool.{cases_Bool, cases_lt, le-ltb, lt-ltb, true≢false}, List.{Elements.{All-tail, Contains-append_cases, Contains-append_left, Contains-append_right, Contains-get_or}, Folds.list_any_at, get_or-drop, get_or-map, get_or-take, get_or_append_left, get_or_default, get_or_push, length-map, length-take-le, length_push}}}
use Rattle.std.specs.List.{Contains, flat_map}
use Rattle.kc_order.specs.{Graph.{IsGraph, Nodes, groups_from, groups_of, needs_of, stands_for}, Needs.NeedsBelow}
use Rattle.kc_language.specs.Needs.{needs_in, unordered_after}
use Rattle.kc_order.proofs.Stays.{needs_unordered}

-- a graph by its parts, and what its symbols need
abbrev pub graph : ℕ → List (List ℕ) → Nodes
graph n rows = record { symbols = n; rows = rows }

abbrev pub flat : ℕ → List (List ℕ) → ℕ → List ℕ
flat n rows = needs_in (needs_of (graph n rows))

-- a symbol stands for itself, a group for what it needs
pub stands_symbol : (n : ℕ) (groups : List (List ℕ)) (t : ℕ) → t < n → stands_for n groups t ≡ t ∷ []
stands_symbol n groups t l = ap (λ b. cond b (t ∷ []) (get_or groups (t - n) [])) (lt-ltb t n l)

pub stands_group : (n : ℕ) (groups : List (List ℕ)) (t : ℕ) → n ≤ t → stands_for n groups t ≡ get_or groups (t - n) []
stands_group n groups t l = ap (λ b. cond b (t ∷ []) (get_or groups (t - n) [])) (le-ltb t n l)

-- one group more
pub groups_push : (n : ℕ) (groups rows : List (List ℕ)) (row : List ℕ) →
    groups_from n groups (rows ++ row ∷ []) ≡ groups_from n groups rows ++ flat_map (stands_for n (groups_from n groups rows)) row ∷ []
groups_push n groups [] row = refl
groups_push n groups (first ∷ rows) row = groups_push n (groups ++ flat_map (stands_for n groups) first ∷ []) rows row

pub groups_len : (n : ℕ) (groups rows : List (List ℕ)) → length (groups_from n groups rows) ≡ length groups + length rows
groups_len n groups [] = omega arith
groups_len n groups (row ∷ rows) = omega (arith, groups_len n (groups ++ flat_map (stands_for n groups) row ∷ []) rows, length_push groups (flat_map (stands_for n groups) row))

-- the groups that there are stay
pub groups_stay : (n : ℕ) (groups rows : List (List ℕ)) (i : ℕ) → i < length groups → get_or (groups_from n groups rows) i [] ≡ get_or groups i []
groups_stay n groups [] i l = refl
groups_stay n groups (row ∷ rows) i l =
    let more = groups ++ flat_map (stands_for n groups) row ∷ [] in
    groups_stay n more rows i (omega (arith, length_push groups (flat_map (stands_for n groups) row))) ∙ get_or_append_left groups (flat_map (stands_for n groups) row ∷ []) [] i l

-- what a node stands for stays, too
stands_stays : (n : ℕ) (groups rows : List (List ℕ)) (t : ℕ) → t < n + length groups → stands_for n (groups_from n groups rows) t ≡ stands_for n groups t
stands_stays n groups rows t l =
    elim (cases_lt t n) [
      | inl symbol ↦ stands_symbol n (groups_from n groups rows) t symbol ∙ sym (stands_symbol n groups t symbol)
      | inr group ↦ stands_group n (groups_from n groups rows) t group ∙ groups_stay n groups rows (t - n) (omega arith) ∙ sym (stands_group n groups t group)
    ]

row_stays : (n : ℕ) (groups rows : List (List ℕ)) (row : List ℕ) → All (λ t. t < n + length groups) row →
    flat_map (stands_for n (groups_from n groups rows)) row ≡ flat_map (stands_for n groups) row
row_stays n groups rows [] h = refl
row_stays n groups rows (t ∷ row) h =
    let here : stands_for n (groups_from n groups rows) t ≡ stands_for n groups t = stands_stays n groups rows t (h 0 t (omega arith)) in
    let rest = row_stays n groups rows row (All-tail (λ t. t < n + length groups) t row h) in
    ap (λ x. x ++ flat_map (stands_for n (groups_from n groups rows)) row) here ∙ ap (λ x. stands_for n groups t ++ x) rest

-- each row from the first group on holds nodes before its own
abbrev GoesDown : ℕ → List (List ℕ) → Type 0
GoesDown first rows = (i : ℕ) → i < length rows → All (λ t. t < first + i) (get_or rows i [])

-- what a group stands for is what its row does
group_at : (n : ℕ) (groups rows : List (List ℕ)) (i : ℕ) → GoesDown (n + length groups) rows → i < length rows →
    get_or (groups_from n groups rows) (length groups + i) [] ≡ flat_map (stands_for n (groups_from n groups rows)) (get_or rows i [])
group_at n groups [] i down l = absurd (omega arith)
group_at n groups (row ∷ rows) zero down l =
    let more = groups ++ flat_map (stands_for n groups) row ∷ [] in
    let len = length_push groups (flat_map (stands_for n groups) row) in
    let below : All (λ t. t < n + length groups) row = λ k d b. omega (arith, down 0 (omega arith) k d b) in
    let wide : All (λ t. t < n + length more) row = λ k d b. omega (arith, below k d b, len) in
    groups_stay n more rows (length groups + 0) (omega (arith, len))
    ∙ get_or_push groups (flat_map (stands_for n groups) row) [] (length groups + 0) (omega arith)
    ∙ sym (row_stays n groups (row ∷ rows) row below)
group_at n groups (row ∷ rows) (suc i) down l =
    let more = groups ++ flat_map (stands_for n groups) row ∷ [] in
    let len = length_push groups (flat_map (stands_for n groups) row) in
    let rest : GoesDown (n + length more) rows = λ j b k d m. omega (arith, down (suc j) (omega arith) k d m, len) in
    let at : length groups + suc i ≡ length more + i = omega (arith, len) in
    ap (λ k. get_or (groups_from n more rows) k []) at ∙ group_at n more rows i rest (omega arith)

-- what a symbol is found in: a part
pub contains_flat : (f : ℕ → List ℕ) (xs : List ℕ) (v : ℕ) → Contains (flat_map f xs) v → (w : ℕ) × Contains xs w × Contains (f w) v
contains_flat f [] v c = absurd (omega (arith, c.1))
contains_flat f (x ∷ xs) v c =
    elim (Contains-append_cases (f x) (flat_map f xs) v c) [
      | inl here ↦ (x, Contains-append_left (x ∷ []) xs x (0, omega arith, refl), here)
      | inr later ↦ let r = contains_flat f xs v later in (r.0, Contains-append_right (x ∷ []) xs r.0 r.1, r.2)
    ]

-- a list of one holds that
pub one_is : (x v : ℕ) → Contains (x ∷ []) v → x ≡ v
one_is x v c =
    let at : c.0 ≡ 0 = omega (arith, c.1) in
    ap (λ k. get_or (x ∷ []) k v) (sym at) ∙ c.2

pub flat_contains : (f : ℕ → List ℕ) (xs : List ℕ) (w v : ℕ) → Contains xs w → Contains (f w) v → Contains (flat_map f xs) v
flat_contains f [] w v c d = absurd (omega (arith, c.1))
flat_contains f (x ∷ xs) w v c d =
    elim (Contains-append_cases (x ∷ []) xs w c) [
      | inl here ↦
          let is : x ≡ w = one_is x w here in
          Contains-append_left (f x) (flat_map f xs) v (subst (λ y. Contains (f y) v) (sym is) d)
      | inr later ↦ Contains-append_right (f x) (flat_map f xs) v (flat_contains f xs w v later d)
    ]

module _ (g : Nodes) (is : IsGraph g) where
  down : GoesDown (g.symbols + 0) (drop g.symbols g.rows)
  down i l k d b =
      let at : get_or (drop g.symbols g.rows) i [] ≡ get_or g.rows (g.symbols + i) [] = get_or-drop g.symbols g.rows i [] in
      let row = get_or g.rows (g.symbols + i) [] in
      let there : get_or (get_or (drop g.symbols g.rows) i []) k d ≡ get_or row k d = ap (λ xs. get_or xs k d) at in
      let len : k < length row = omega (arith, ap length at) in
      let below = is.goes_down (g.symbols + i) (get_or row k d) (omega arith) (omega (arith, length-drop g.symbols g.rows)) (Contains-get_or row k d len) in
      omega (arith, below, there)

  -- a group stands for what its row does
  pub group_stands : (t : ℕ) → g.symbols ≤ t → t < length g.rows → stands_for g.symbols (groups_of g) t ≡ flat_map (stands_for g.symbols (groups_of g)) (needs_in g.rows t)
  group_stands t l b =
      let i = t - g.symbols in
      let at : g.symbols + (t - g.symbols) ≡ t = omega arith in
      let from_zero : t - g.symbols ≡ 0 + (t - g.symbols) = omega arith in
      stands_group g.symbols (groups_of g) t l
      ∙ ap (λ k. get_or (groups_of g) k []) from_zero
      ∙ group_at g.symbols [] (drop g.symbols g.rows) (t - g.symbols) down (omega (arith, length-drop g.symbols g.rows))
      ∙ ap (flat_map (stands_for g.symbols (groups_of g))) (get_or-drop g.symbols g.rows (t - g.symbols) [] ∙ ap (λ k. get_or g.rows k []) at)

  pub needs_count : length (needs_of g) ≡ g.symbols
  needs_count = length-map (take g.symbols g.rows) (flat_map (stands_for g.symbols (groups_of g))) ∙ length-take-le g.symbols g.rows is.symbols_there

  -- what a symbol needs is what its row stands for
  pub needs_stand : (s : ℕ) → s < g.symbols → needs_in (needs_of g) s ≡ flat_map (stands_for g.symbols (groups_of g)) (needs_in g.rows s)
  needs_stand s l =
      let len = length-take-le g.symbols g.rows is.symbols_there in
      get_or-map (flat_map (stands_for g.symbols (groups_of g))) (take g.symbols g.rows) s [] [] (omega (arith, len))
      ∙ ap (flat_map (stands_for g.symbols (groups_of g))) (get_or-take g.symbols g.rows s [] l)

  -- a node stands for symbols: of those below a bound first
  stands_below_to : (bound t v : ℕ) → t < bound → t < length g.rows → Contains (stands_for g.symbols (groups_of g) t) v → v < g.symbols
  stands_below_to zero t v l b c = absurd (omega arith)
  stands_below_to (suc bound) t v l b c =
      elim (cases_lt t g.symbols) [
        | inl symbol ↦
            let same = one_is t v (subst (λ xs. Contains xs v) (stands_symbol g.symbols (groups_of g) t symbol) c) in
            omega (arith, same)
        | inr group ↦
            let w = contains_flat (stands_for g.symbols (groups_of g)) (needs_in g.rows t) v (subst (λ xs. Contains xs v) (group_stands t group b) c) in
            let before = is.goes_down t w.0 group b w.1 in
            stands_below_to bound w.0 v (omega (arith, before)) (omega (arith, before)) w.2
      ]

  pub stands_below : (t v : ℕ) → t < length g.rows → Contains (stands_for g.symbols (groups_of g) t) v → v < g.symbols
  stands_below t v b c = stands_below_to (suc t) t v (omega arith) b c

  pub needs_within : NeedsBelow g.symbols (needs_in (needs_of g))
  needs_within s t l c =
      let w = contains_flat (stands_for g.symbols (groups_of g)) (needs_in g.rows s) t (subst (λ xs. Contains xs t) (needs_stand s l) c) in
      stands_below w.0 t (is.within s w.0 (omega (arith, l, is.symbols_there)) w.1) w.2

  -- an unordered node stands for a symbol that is unordered among nodes
  unordered_symbol_to : (bound t : ℕ) → t < bound → t < length g.rows → unordered_after (needs_in g.rows) (length g.rows) t ≡ true →
      (v : ℕ) × Contains (stands_for g.symbols (groups_of g) t) v × (v < g.symbols) × (unordered_after (needs_in g.rows) (length g.rows) v ≡ true)
  unordered_symbol_to zero t l b e = absurd (omega arith)
  unordered_symbol_to (suc bound) t l b e =
      elim (cases_lt t g.symbols) [
        | inl symbol ↦ (t, subst (λ xs. Contains xs t) (sym (stands_symbol g.symbols (groups_of g) t symbol)) (0, omega arith, refl), symbol, e)
        | inr group ↦
            let u = needs_unordered (length g.rows) (needs_in g.rows) t is.within b e in
            let before = is.goes_down t u.0 group b u.1 in
            let v = unordered_symbol_to bound u.0 (omega (arith, before)) (omega (arith, before)) u.2 in
            let there = flat_contains (stands_for g.symbols (groups_of g)) (needs_in g.rows t) u.0 v.0 u.1 v.1 in
            (v.0, subst (λ xs. Contains xs v.0) (sym (group_stands t group b)) there, v.2, v.3)
      ]

  -- where no symbol is unordered among nodes, no node is
  pub none_unordered : ((s : ℕ) → s < g.symbols → unordered_after (needs_in g.rows) (length g.rows) s ≡ false) → (t : ℕ) → t < length g.rows →
      unordered_after (needs_in g.rows) (length g.rows) t ≡ false
  none_unordered free t b =
      elim (cases_Bool (unordered_after (needs_in g.rows) (length g.rows) t)) [
        | inl unordered ↦
            let v = unordered_symbol_to (suc t) t (omega arith) b unordered in
            absurd (true≢false (sym v.3 ∙ free v.0 v.2))
        | inr free ↦ free
      ]

  -- a symbol that is unordered among nodes is unordered by its needs
  unordered_down : (k s : ℕ) → s < g.symbols → unordered_after (needs_in g.rows) (length g.rows) s ≡ true → unordered_after (needs_in (needs_of g)) k s ≡ true
  unordered_down zero s l e = refl
  unordered_down (suc k) s l e =
      let in_rows : s < length g.rows = omega (arith, l, is.symbols_there) in
      let u = needs_unordered (length g.rows) (needs_in g.rows) s is.within in_rows e in
      let u_below = is.within s u.0 in_rows u.1 in
      let v = unordered_symbol_to (suc u.0) u.0 (omega arith) u_below u.2 in
      let need : Contains (needs_in (needs_of g) s) v.0 =
      subst (λ xs. Contains xs v.0) (sym (needs_stand s l)) (flat_contains (stands_for g.symbols (groups_of g)) (needs_in g.rows s) u.0 v.0 u.1 v.1) in
      list_any_at (unordered_after (needs_in (needs_of g)) k) (needs_in (needs_of g) s) need.0 0 need.1
      (ap (unordered_after (needs_in (needs_of g)) k) (get_or_default (needs_in (needs_of g) s) need.0 0 v.0 need.1 ∙ need.2) ∙ unordered_down k v.0 v.2 v.3)

  any_of : (k t w : ℕ) → Contains (needs_in g.rows t) w → unordered_after (needs_in g.rows) k w ≡ true → unordered_after (needs_in g.rows) (suc k) t ≡ true
  any_of k t w c e =
      list_any_at (unordered_after (needs_in g.rows) k) (needs_in g.rows t) c.0 0 c.1
      (ap (unordered_after (needs_in g.rows) k) (get_or_default (needs_in g.rows t) c.0 0 w c.1 ∙ c.2) ∙ e)

  -- a node that stands for a symbol that is unordered by its needs is unordered among nodes
  unordered_up : (k t v : ℕ) → t < length g.rows → Contains (stands_for g.symbols (groups_of g) t) v → unordered_after (needs_in (needs_of g)) g.symbols v ≡ true →
      unordered_after (needs_in g.rows) k t ≡ true
  unordered_up zero t v b c e = refl
  unordered_up (suc k) t v b c e =
      elim (cases_lt t g.symbols) [
        | inl symbol ↦
            let same = one_is t v (subst (λ xs. Contains xs v) (stands_symbol g.symbols (groups_of g) t symbol) c) in
            let e' : unordered_after (needs_in (needs_of g)) g.symbols t ≡ true = ap (unordered_after (needs_in (needs_of g)) g.symbols) same ∙ e in
            let u = needs_unordered g.symbols (needs_in (needs_of g)) t needs_within symbol e' in
            let w = contains_flat (stands_for g.symbols (groups_of g)) (needs_in g.rows t) u.0 (subst (λ xs. Contains xs u.0) (needs_stand t symbol) u.1) in
            any_of k t w.0 w.1 (unordered_up k w.0 u.0 (is.within t w.0 b w.1) w.2 u.2)
        | inr group ↦
            let w = contains_flat (stands_for g.symbols (groups_of g)) (needs_in g.rows t) v (subst (λ xs. Contains xs v) (group_stands t group b) c) in
            any_of k t w.0 w.1 (unordered_up k w.0 v (is.within t w.0 b w.1) w.2 e)
      ]

  -- a symbol is unordered among nodes exactly where it is unordered by what it needs
  pub unordered_alike : (s : ℕ) → s < g.symbols → unordered_after (needs_in g.rows) (length g.rows) s ≡ unordered_after (needs_in (needs_of g)) g.symbols s
  unordered_alike s l =
      elim (cases_Bool (unordered_after (needs_in g.rows) (length g.rows) s)) [
        | inl unordered ↦ unordered ∙ sym (unordered_down g.symbols s l unordered)
        | inr free ↦ elim (cases_Bool (unordered_after (needs_in (needs_of g)) g.symbols s)) [
          | inl other ↦
              let there : Contains (stands_for g.symbols (groups_of g) s) s = subst (λ xs. Contains xs s) (sym (stands_symbol g.symbols (groups_of g) s l)) (0, omega arith, refl) in
              unordered_up (length g.rows) s s (omega (arith, l, is.symbols_there)) there other ∙ sym other
          | inr both ↦ free ∙ sym both
        ]
      ]
