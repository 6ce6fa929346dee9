-- The modules symbol, one statement after another.
use Rattle.std.proofs.{Common.{Bool, List, None, Option, Some, [], ap, cond, false, not, refl, sym, true, ℕ, ◌++◌, ◌||◌, ◌∙◌, ◌∷◌, ◌≡◌}, lemmas.List.{Folds.list_any-append, Sums.take_while-cons}}
use Rattle.std.specs.{List.{before_first, list_any, take_while}, Option.option_or, Prelude.is_some}
use Rattle.kc_language.specs.{Expansion.{definitions, is_modules, last_of, modules_of}, Statements.Named}

-- ---- What stands before the first that passes

module _ {X : Type 0} (p : X → Bool) where
  abbrev before : List X → List X
  before xs = take_while (λ x. not (p x)) xs

  -- where one passes, what follows counts for nothing
  before_more : (xs ys : List X) → list_any p xs ≡ true → before_first p (xs ++ ys) ≡ before_first p xs
  before_more [] ys some = absurd cc
  before_more (x ∷ xs) ys some = take_while-cons (λ x. not (p x)) x (xs ++ ys) ∙ by (p x) (before_more xs ys) some ∙ sym (take_while-cons (λ x. not (p x)) x xs)
    where
      by : (b : Bool) → (list_any p xs ≡ true → before_first p (xs ++ ys) ≡ before_first p xs) → (b || list_any p xs) ≡ true →
          cond (not b) (x ∷ before (xs ++ ys)) [] ≡ cond (not b) (x ∷ before xs) []
      by true more e = refl
      by false more e = ap (λ l. x ∷ l) (more e)

  -- where none passes, all stands before one that does
  before_stop : (xs : List X) (y : X) → list_any p xs ≡ false → p y ≡ true → before_first p (xs ++ y ∷ []) ≡ xs
  before_stop [] y none passes = take_while-cons (λ x. not (p x)) y [] ∙ ap (λ b. cond (not b) (y ∷ before []) []) passes
  before_stop (x ∷ xs) y none passes = take_while-cons (λ x. not (p x)) x (xs ++ y ∷ []) ∙ by (p x) (λ e. before_stop xs y e passes) none
    where
      by : (b : Bool) → (list_any p xs ≡ false → before_first p (xs ++ y ∷ []) ≡ xs) → (b || list_any p xs) ≡ false → cond (not b) (x ∷ before (xs ++ y ∷ [])) [] ≡ x ∷ xs
      by true more e = absurd cc
      by false more e = ap (λ l. x ∷ l) (more e)

-- ---- One statement more

abbrev some_symbol : List Named → Bool
some_symbol ss = is_some (modules_of ss)

-- where a `modules` line stands, and where none does
with_line : (ss : List Named) → list_any is_modules ss ≡ true → modules_of ss ≡ last_of (definitions (before_first is_modules ss))
with_line ss e = ap (λ b. cond b (last_of (definitions (before_first is_modules ss))) None) e

without_line : (ss : List Named) → list_any is_modules ss ≡ false → modules_of ss ≡ None
without_line ss e = ap (λ b. cond b (last_of (definitions (before_first is_modules ss))) None) e

either_line : (ss : List Named) (x : Named) (a b : Bool) → list_any is_modules ss ≡ a → is_modules x ≡ b → list_any is_modules (ss ++ x ∷ []) ≡ (a || (b || false))
either_line ss x a b e f = list_any-append is_modules ss (x ∷ []) ∙ ap (λ c. c || (is_modules x || false)) e ∙ ap (λ c. a || (c || false)) f

keeps_some : (o p : Option (List ℕ)) → is_some o ≡ true → option_or o p ≡ o
keeps_some None p e = absurd cc
keeps_some (Some n) p e = refl

-- Where each `modules` line so far had a symbol: the symbol stays, or the line gives it.
pub modules_of_push : (ss : List Named) (x : Named) → some_symbol ss ≡ list_any is_modules ss →
    modules_of (ss ++ x ∷ []) ≡ option_or (modules_of ss) (cond (is_modules x) (last_of (definitions ss)) None)
modules_of_push ss x marked = by (list_any is_modules ss) (is_modules x) refl refl
  where
    by : (a b : Bool) → list_any is_modules ss ≡ a → is_modules x ≡ b →
        modules_of (ss ++ x ∷ []) ≡ option_or (modules_of ss) (cond (is_modules x) (last_of (definitions ss)) None)
    by true b e f =
        with_line (ss ++ x ∷ []) (either_line ss x true b e f) ∙ ap (λ l. last_of (definitions l)) (before_more is_modules ss (x ∷ []) e) ∙ sym (with_line ss e)
        ∙ sym (keeps_some (modules_of ss) (cond (is_modules x) (last_of (definitions ss)) None) (marked ∙ e))
    by false b e f = none b e f ∙ sym (same b e f)
      where
        same : (b : Bool) → list_any is_modules ss ≡ false → is_modules x ≡ b →
            option_or (modules_of ss) (cond (is_modules x) (last_of (definitions ss)) None) ≡ cond b (last_of (definitions ss)) None
        same b e f = λ i. option_or (without_line ss e i) (cond (f i) (last_of (definitions ss)) None)

        none : (b : Bool) → list_any is_modules ss ≡ false → is_modules x ≡ b → modules_of (ss ++ x ∷ []) ≡ cond b (last_of (definitions ss)) None
        none true e f = with_line (ss ++ x ∷ []) (either_line ss x false true e f) ∙ ap (λ l. last_of (definitions l)) (before_stop is_modules ss x e f)
        none false e f = without_line (ss ++ x ∷ []) (either_line ss x false false e f)

-- A `modules` line has a symbol where a symbol is defined before it.
pub marked_push : (ss : List Named) (x : Named) → some_symbol ss ≡ list_any is_modules ss → (is_modules x ≡ true → is_some (last_of (definitions ss)) ≡ true) →
    some_symbol (ss ++ x ∷ []) ≡ list_any is_modules (ss ++ x ∷ [])
marked_push ss x marked begun =
    ap is_some (modules_of_push ss x marked)
    ∙ by (modules_of ss) (is_modules x) begun
    ∙ ap (λ a. a || (is_modules x || false)) marked
    ∙ sym (either_line ss x (list_any is_modules ss) (is_modules x) refl refl)
  where
    by : (o : Option (List ℕ)) (b : Bool) → (b ≡ true → is_some (last_of (definitions ss)) ≡ true) → is_some (option_or o (cond b (last_of (definitions ss)) None)) ≡ (is_some o || (b || false))
    by (Some n) b h = refl
    by None true h = h refl
    by None false h = refl
