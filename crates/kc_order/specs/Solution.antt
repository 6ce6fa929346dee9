-- Trusted: Valuations that satisfy one equation for each symbol.
-- An equation gives the value of its symbol from the values of all symbols.
use Rattle.std.specs.{List.Contains, Prelude.{List, ℕ, ◌+◌, ◌<◌, ◌≡◌, ◌≢◌}}
use Rattle.kc_language.specs.Values.{IsOnlySolution, Solves}

-- some valuation is a solution, and no other valuation is
abbrev pub HasOneSolution : {A : Type 0} → ℕ → (ℕ → (ℕ → A) → A) → Type 0
HasOneSolution {A} n rhs = (V : ℕ → A) × Solves n rhs V × IsOnlySolution n rhs V

-- the equation of s reads only the values of what s needs
abbrev pub ReadsNeeds : {A : Type 0} → (ℕ → List ℕ) → (ℕ → (ℕ → A) → A) → Type 0
ReadsNeeds {A} needs rhs = (s : ℕ) (V W : ℕ → A) → ((t : ℕ) → Contains (needs s) t → V t ≡ W t) → rhs s V ≡ rhs s W

-- W is V, except for the value of s
pub record IsUpdate {A : Type 0} (V W : ℕ → A) (s : ℕ) (value : A) : Type 0 where
  pub here : W s ≡ value
  pub others : (t : ℕ) → t ≢ s → W t ≡ V t

-- each of the first n equations is computed anew, one after another, each from the values that the equations before it left
pub record IsIteration {A : Type 0} (n : ℕ) (rhs : ℕ → (ℕ → A) → A) (before after : ℕ → A) : Type 0 where
  pub left : ℕ → ℕ → A
  pub begins : left 0 ≡ before
  pub ends : left n ≡ after
  pub computes : (s : ℕ) → s < n → IsUpdate (left s) (left (s + 1)) s (rhs s (left s))
