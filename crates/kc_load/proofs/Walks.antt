-- The order in which names are asked for: depth first, each once, until the lines are over the limit.
use Rattle.std.proofs.{Common.{Bool, Contains, IsUtf8, List, None, Some, [], ap, append_assoc, arith, false, inl, inr, min, refl, reverse, subst, sym, true, ℕ, ◌++◌, ◌+◌, ◌<◌, ◌∙◌, ◌∷◌, ◌≡◌, ◌≤◌, ◌⊎◌}, lemmas.{Bool.true≢false, List.{Elements.{Contains-append_cases, Contains-append_right}, reverse-append, reverse-reverse}}}
use Rattle.kc_language.specs.{Expressions.mention, Files.path_of, Text.most_lines}
use Rattle.kc_load.specs.{Asking.AreSources, Folder.{AnswersAs, FolderFiles}, Steps.{State, Visits, file, initial_state, no_file, no_text, not_new, was_requested}}
use Rattle.kc_text.specs.PartsOfText.{last_count}
use Rattle.kc_entries.specs.PartsOfExpansion.{lines_of}
use Rattle.kc_load.proofs.RequestedLemmas.{only_element, requested_itself, requested_still}

-- the name was asked for, if it is text
abbrev pub IsMetIn : List (List ℕ) → List ℕ → Type 0
IsMetIn requested name = IsUtf8 name → was_requested requested name ≡ true

-- From the names that were asked for and the lines counted, through these names and what their files source: then these
-- names were asked for and these lines counted, and whether the walk was stopped, over the limit.
pub data Walks (folder_files : FolderFiles) (dir : List ℕ) : List (List ℕ) → ℕ → List (List ℕ) → List (List ℕ) → ℕ → Bool → Type 0 where
  ended : (v : List (List ℕ)) (n : ℕ) → Walks folder_files dir v n [] v n false
  stopped : (v xs : List (List ℕ)) (n : ℕ) → most_lines < n → Walks folder_files dir v n xs v n true
  passed : (v xs w : List (List ℕ)) (x : List ℕ) (n m : ℕ) (b : Bool) → IsMetIn v x → Walks folder_files dir v n xs w m b → Walks folder_files dir v n (x ∷ xs) w m b
  missing : (v xs w : List (List ℕ)) (x : List ℕ) (n m : ℕ) (b : Bool) → was_requested v x ≡ false → AnswersAs folder_files (path_of dir x) None →
      Walks folder_files dir (mention v x) n xs w m b → Walks folder_files dir v n (x ∷ xs) w m b
  taken : (v xs w names : List (List ℕ)) (x bytes : List ℕ) (n m : ℕ) (b : Bool) → was_requested v x ≡ false → AnswersAs folder_files (path_of dir x) (Some bytes) →
      AreSources bytes names → Walks folder_files dir (mention v x) (min (n + lines_of bytes) last_count) (names ++ xs) w m b → Walks folder_files dir v n (x ∷ xs) w m b

pub no_name : (y : List ℕ) → Contains {X = List ℕ} [] y → ⊥
no_name y h = let lt = h.1 in absurd (omega arith)

pub first_or_later : (x : List ℕ) (xs : List (List ℕ)) (y : List ℕ) → Contains (x ∷ xs) y → (x ≡ y) ⊎ Contains xs y
first_or_later x xs y h = elim (Contains-append_cases (x ∷ []) xs y h) [
  | inl here ↦ inl (only_element x y here)
  | inr there ↦ inr there
]

-- ---- What was asked for

-- what was asked for before still is
pub grows : {folder_files : FolderFiles} {dir : List ℕ} {v xs w : List (List ℕ)} {n m : ℕ} {b : Bool} (d : Walks folder_files dir v n xs w m b) (y : List ℕ) → was_requested v y ≡ true → was_requested w y ≡ true
grows (ended v n) y h = h
grows (stopped v xs n lt) y h = h
grows (passed v xs w x n m b met d) y h = grows d y h
grows (missing v xs w x n m b new none d) y h = grows d y (requested_still v x new y h)
grows (taken v xs w names x bytes n m b new some are d) y h = grows d y (requested_still v x new y h)

-- a walk that was not stopped asked for all its names
pub meets : {folder_files : FolderFiles} {dir : List ℕ} {v xs w : List (List ℕ)} {n m : ℕ} {b : Bool} (d : Walks folder_files dir v n xs w m b) → b ≡ false → (y : List ℕ) → Contains xs y → IsMetIn w y
meets (ended v n) e y h = absurd (no_name y h)
meets (stopped v xs n lt) e y h = absurd (true≢false e)
meets (passed v xs w x n m b met d) e y h = elim (first_or_later x xs y h) [
  | inl is ↦ subst (IsMetIn w) is (λ t. grows d x (met t))
  | inr there ↦ meets d e y there
]
meets (missing v xs w x n m b new none d) e y h = elim (first_or_later x xs y h) [
  | inl is ↦ subst (IsMetIn w) is (λ t. grows d x (requested_itself v x new))
  | inr there ↦ meets d e y there
]
meets (taken v xs w names x bytes n m b new some are d) e y h = elim (first_or_later x xs y h) [
  | inl is ↦ subst (IsMetIn w) is (λ t. grows d x (requested_itself v x new))
  | inr there ↦ meets d e y (Contains-append_right names xs y there)
]

-- a walk within the limit asked for its first name
pub first_is_met : {folder_files : FolderFiles} {dir : List ℕ} {v xs w : List (List ℕ)} {x : List ℕ} {n m : ℕ} {b : Bool} → n ≤ most_lines → Walks folder_files dir v n (x ∷ xs) w m b → IsMetIn w x
first_is_met le (stopped v xs n lt) = absurd (omega arith)
first_is_met le (passed v xs w x n m b met d) = λ t. grows d x (met t)
first_is_met le (missing v xs w x n m b new none d) = λ t. grows d x (requested_itself v x new)
first_is_met le (taken v xs w names x bytes n m b new some are d) = λ t. grows d x (requested_itself v x new)

-- names that were all asked for are passed by
pub all_passed : (folder_files : FolderFiles) (dir : List ℕ) (v : List (List ℕ)) (n : ℕ) (xs : List (List ℕ)) → ((y : List ℕ) → Contains xs y → IsMetIn v y) → Walks folder_files dir v n xs v n false
all_passed folder_files dir v n [] h = ended v n
all_passed folder_files dir v n (x ∷ xs) h =
    passed v xs v x n n false (h x (0, omega arith, refl)) (all_passed folder_files dir v n xs (λ y c. h y (Contains-append_right (x ∷ []) xs y c)))

-- without names nothing changes
pub at_end : {folder_files : FolderFiles} {dir : List ℕ} {v xs w : List (List ℕ)} {n m : ℕ} {b : Bool} → Walks folder_files dir v n xs w m b → xs ≡ [] → n ≤ most_lines → (v ≡ w) × (m ≡ n) × (b ≡ false)
at_end (ended v n) e le = (refl, refl, refl)
at_end (stopped v xs n lt) e le = absurd (omega arith)
at_end (passed v xs w x n m b met d) e le = absurd cc
at_end (missing v xs w x n m b new none d) e le = absurd cc
at_end (taken v xs w names x bytes n m b new some are d) e le = absurd cc

-- ---- A walk through two lists of names

-- a walk through the one list and then through the other, or one that was stopped in the first
abbrev pub Splits : FolderFiles → List ℕ → List (List ℕ) → ℕ → List (List ℕ) → List (List ℕ) → List (List ℕ) → ℕ → Bool → Type 0
Splits folder_files dir v n xs ys w m b =
    ((u : List (List ℕ)) × (k : ℕ) × Walks folder_files dir v n xs u k false × Walks folder_files dir u k ys w m b) ⊎ ((b ≡ true) × Walks folder_files dir v n xs w m true)

pub split : {folder_files : FolderFiles} {dir : List ℕ} {v zs w : List (List ℕ)} {n m : ℕ} {b : Bool} (d : Walks folder_files dir v n zs w m b) (xs ys : List (List ℕ)) →
    zs ≡ xs ++ ys → Splits folder_files dir v n xs ys w m b
split {folder_files} {dir} {v} {zs} {w} {n} {m} {b} d [] ys e = inl (v, n, ended v n, subst (λ l. Walks folder_files dir v n l w m b) e d)
split (ended v n) (x ∷ xs) ys e = absurd cc
split (stopped v zs n lt) (x ∷ xs) ys e = inr (refl, stopped v (x ∷ xs) n lt)
split {folder_files} {dir} (passed v zs w z n m b met d) (x ∷ xs) ys e =
    let h : z ≡ x = cc in
    let t : zs ≡ xs ++ ys = cc in
    subst (λ y. Splits folder_files dir v n (y ∷ xs) ys w m b) h (elim (split d xs ys t) [
      | inl r ↦ inl (r.0, r.1, passed v xs r.0 z n r.1 false met r.2, r.3)
      | inr r ↦ inr (r.0, passed v xs w z n m true met r.1)
    ])
split {folder_files} {dir} (missing v zs w z n m b new none d) (x ∷ xs) ys e =
    let h : z ≡ x = cc in
    let t : zs ≡ xs ++ ys = cc in
    subst (λ y. Splits folder_files dir v n (y ∷ xs) ys w m b) h (elim (split d xs ys t) [
      | inl r ↦ inl (r.0, r.1, missing v xs r.0 z n r.1 false new none r.2, r.3)
      | inr r ↦ inr (r.0, missing v xs w z n m true new none r.1)
    ])
split {folder_files} {dir} (taken v zs w names z bytes n m b new some are d) (x ∷ xs) ys e =
    let h : z ≡ x = cc in
    let t : zs ≡ xs ++ ys = cc in
    subst (λ y. Splits folder_files dir v n (y ∷ xs) ys w m b) h (elim (split d (names ++ xs) ys (ap (λ l. names ++ l) t ∙ sym (append_assoc names xs ys))) [
      | inl r ↦ inl (r.0, r.1, taken v xs r.0 names z bytes n r.1 false new some are r.2, r.3)
      | inr r ↦ inr (r.0, taken v xs w names z bytes n m true new some are r.1)
    ])

-- ---- The walk of the loading

-- whatever walk goes on from here goes on from the first name
abbrev pub IsOnWay : FolderFiles → List ℕ → List ℕ → State → Type 0
IsOnWay folder_files dir first s = (w : List (List ℕ)) (m : ℕ) (b : Bool) → Walks folder_files dir s.requested s.lines (reverse s.waiting) w m b → Walks folder_files dir [] 0 (first ∷ []) w m b

pub walk_begins : (folder_files : FolderFiles) (dir first : List ℕ) → IsOnWay folder_files dir first (initial_state first)
walk_begins folder_files dir first w m b d = d

moved : (folder_files : FolderFiles) (dir : List ℕ) (v v' xs xs' w : List (List ℕ)) (n n' m : ℕ) (b : Bool) → v ≡ v' → n ≡ n' → xs ≡ xs' → Walks folder_files dir v n xs w m b → Walks folder_files dir v' n' xs' w m b
moved folder_files dir v v' xs xs' w n n' m b e f g d =
    subst (λ l. Walks folder_files dir v' n' l w m b) g (subst (λ k. Walks folder_files dir v' k xs w m b) f (subst (λ u. Walks folder_files dir u n xs w m b) e d))

-- the turn of one name is one step of the walk
pub walk_goes_on : (folder_files : FolderFiles) (dir first : List ℕ) (s : State) (rest : List (List ℕ)) (name : List ℕ) → s.waiting ≡ rest ++ name ∷ [] →
    IsOnWay folder_files dir first s → (n : State) → Visits folder_files dir name (record s { waiting = rest }) n → IsOnWay folder_files dir first n
walk_goes_on folder_files dir first s rest name last on n v w m b d =
    on w m b (subst (λ l. Walks folder_files dir s.requested s.lines l w m b) (sym (ap reverse last ∙ reverse-append rest (name ∷ []))) (step v))
  where
    step : Visits folder_files dir name (record s { waiting = rest }) n → Walks folder_files dir s.requested s.lines (name ∷ reverse rest) w m b
    step (no_text not_text same) =
        passed s.requested (reverse rest) w name s.lines m b (λ t. absurd (not_text t))
        (moved folder_files dir n.requested s.requested (reverse n.waiting) (reverse rest) w n.lines s.lines m b (ap (λ k. k.requested) same) (ap (λ k. k.lines) same)
        (ap (λ k. reverse k.waiting) same) d)
    step (not_new a same) =
        passed s.requested (reverse rest) w name s.lines m b (λ t. a)
        (moved folder_files dir n.requested s.requested (reverse n.waiting) (reverse rest) w n.lines s.lines m b (ap (λ k. k.requested) same) (ap (λ k. k.lines) same)
        (ap (λ k. reverse k.waiting) same) d)
    step (no_file due answer asks) =
        missing s.requested (reverse rest) w name s.lines m b due.is_new answer
        (moved folder_files dir n.requested (mention s.requested name) (reverse n.waiting) (reverse rest) w n.lines s.lines m b asks.requested_are asks.lines_are
        (ap reverse asks.waiting_is) d)
    step (file middle bytes due answer asks takes) =
        taken s.requested (reverse rest) w takes.names name bytes s.lines m b due.is_new answer takes.sources
        (moved folder_files dir n.requested (mention s.requested name) (reverse n.waiting) (takes.names ++ reverse rest) w n.lines
        (min (s.lines + lines_of bytes) last_count) m b
        (takes.requested_are ∙ asks.requested_are)
        (takes.lines_are ∙ ap (λ k. min (k + lines_of bytes) last_count) asks.lines_are)
        (ap reverse (takes.waiting_is ∙ ap (λ l. l ++ reverse takes.names) asks.waiting_is) ∙ reverse-append rest (reverse takes.names) ∙ ap (λ l. l ++ reverse rest) (reverse-reverse takes.names))
        d)

-- where no name waits, the walk is at its end
pub ended_walk : (folder_files : FolderFiles) (dir first : List ℕ) (s : State) → IsOnWay folder_files dir first s → s.waiting ≡ [] → Walks folder_files dir [] 0 (first ∷ []) s.requested s.lines false
ended_walk folder_files dir first s on none = on s.requested s.lines false (subst (λ l. Walks folder_files dir s.requested s.lines (reverse l) s.requested s.lines false) (sym none) (ended s.requested s.lines))

-- over the limit it is stopped
pub over_walk : (folder_files : FolderFiles) (dir first : List ℕ) (s : State) → IsOnWay folder_files dir first s → most_lines < s.lines → Walks folder_files dir [] 0 (first ∷ []) s.requested s.lines true
over_walk folder_files dir first s on more = on s.requested s.lines true (stopped s.requested (reverse s.waiting) s.lines more)
