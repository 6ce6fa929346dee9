-- Each of a list in turn, given those before it.
use Rattle.std.proofs.{Common.{List, [], ap, append_assoc, arith, length, length-append, refl, sym, take, ℕ, ◌++◌, ◌+◌, ◌∙◌, ◌∷◌, ◌≡◌}, Math.Seq.take-append_seam}
use Rattle.std.specs.List.{enumerate_from, flat_map}

module _ {A B : Type 0} (f : List A → A → List B) where
  -- what the elements behind some give
  abbrev pub each_after : List A → List A → List B
  each_after before xs = flat_map (λ (i, x). f (take i (before ++ xs)) x) (enumerate_from (length before) xs)

  -- the next one, and then those behind it
  pub each_after-cons : (before : List A) (x : A) (xs : List A) → each_after before (x ∷ xs) ≡ f before x ++ each_after (before ++ x ∷ []) xs
  each_after-cons before x xs =
      let rest = λ (n : ℕ) (whole : List A). flat_map (λ (p : ℕ × A). f (take p.0 whole) p.1) (enumerate_from n xs) in
      let first : take (length before) (before ++ x ∷ xs) ≡ before = take-append_seam before (x ∷ xs) in
      let whole : before ++ x ∷ xs ≡ (before ++ x ∷ []) ++ xs = sym (append_assoc before (x ∷ []) xs) in
      let next : length before + 1 ≡ length (before ++ x ∷ []) = omega (arith, length-append before (x ∷ [])) in
      ap (λ (b : List A). f b x ++ rest (length before + 1) (before ++ x ∷ xs)) first
      ∙ ap (λ (w : List A). f before x ++ rest (length before + 1) w) whole
      ∙ ap (λ (n : ℕ). f before x ++ rest n ((before ++ x ∷ []) ++ xs)) next

-- A list that goes on from state to state, where each element gives something of the state before it.
module _ {S A B : Type 0} (after : S → List A → S) (nothing : (s : S) → after s [] ≡ s) (append : (s : S) (a b : List A) → after s (a ++ b) ≡ after (after s a) b)
    (f : S → A → List B) where
  abbrev pub told : S → List A → List B
  told s xs = flat_map (λ (i, x). f (after s (take i xs)) x) (enumerate_from 0 xs)

  -- what an element gives behind others
  abbrev behind : S → List A → A → List B
  behind s before x = f (after s before) x

  -- what stood before may be in the state as well as in the list
  behind_some : (s : S) (a b xs : List A) → each_after (behind s) (a ++ b) xs ≡ each_after (behind (after s a)) b xs
  behind_some s a b [] = refl
  behind_some s a b (x ∷ xs) =
      let here : behind s (a ++ b) x ≡ behind (after s a) b x = ap (λ (t : S). f t x) (append s a b) in
      let later : each_after (behind s) ((a ++ b) ++ x ∷ []) xs ≡ each_after (behind (after s a)) (b ++ x ∷ []) xs =
      ap (λ (before : List A). each_after (behind s) before xs) (append_assoc a b (x ∷ [])) ∙ behind_some s a (b ++ x ∷ []) xs in
      each_after-cons (behind s) (a ++ b) x xs
      ∙ ap (λ t. t ++ each_after (behind s) ((a ++ b) ++ x ∷ []) xs) here
      ∙ ap (λ t. behind (after s a) b x ++ t) later
      ∙ sym (each_after-cons (behind (after s a)) b x xs)

  pub told-cons : (s : S) (x : A) (xs : List A) → told s (x ∷ xs) ≡ f s x ++ told (after s (x ∷ [])) xs
  told-cons s x xs =
      each_after-cons (behind s) [] x xs
      ∙ ap (λ (t : S). f t x ++ each_after (behind s) (x ∷ []) xs) (nothing s)
      ∙ ap (λ t. f s x ++ t) (behind_some s (x ∷ []) [] xs)

  pub told-append : (s : S) (a b : List A) → told s (a ++ b) ≡ told s a ++ told (after s a) b
  told-append s [] b = sym (ap (λ (t : S). told t b) (nothing s))
  told-append s (x ∷ a) b =
      let next = after s (x ∷ []) in
      told-cons s x (a ++ b)
      ∙ ap (λ t. f s x ++ t) (told-append next a b)
      ∙ sym (append_assoc (f s x) (told next a) (told (after next a) b))
      ∙ ap (λ t. t ++ told (after next a) b) (sym (told-cons s x a))
      ∙ ap (λ (t : S). told s (x ∷ a) ++ told t b) (sym (append s (x ∷ []) a))
