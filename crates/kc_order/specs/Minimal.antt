-- Trusted: Which of the user values must be kept.
-- The equation of a symbol reads the user value at its place. Several symbols may have the same place.
use Rattle.std.specs.Prelude.{◌≡◌, ℕ, ◌<◌, Bool, true, false, Option, None, if◌then◌else◌}
use Rattle.kc_language.specs.Values.{Solves, IsOnlySolution}

-- the equations for what was given: the equation of s reads only what was given at the place of s
abbrev pub equations : {A Place G : Type 0} → (ℕ → Place) → (ℕ → Option G → (ℕ → A) → A) → (Place → Option G) → ℕ → (ℕ → A) → A
equations place rhs given s V = rhs s (given (place s)) V

-- what was given at the places that the test keeps; nothing at the others
abbrev pub kept : {Place G : Type 0} → (Place → Bool) → (Place → Option G) → Place → Option G
kept keep given p = if keep p then given p else None

-- the kept lines give V, and no other valuation
pub record Restores {A Place G : Type 0} (n : ℕ) (place : ℕ → Place) (rhs : ℕ → Option G → (ℕ → A) → A) (lines : Place → Option G) (V : ℕ → A) (keep : Place → Bool) : Type 0 where
  pub solves : Solves n (equations place rhs (kept keep lines)) V
  pub only : IsOnlySolution n (equations place rhs (kept keep lines)) V

-- if any of the kept lines are left out, no solution is V
abbrev pub NothingCanGo : {A Place G : Type 0} → ℕ → (ℕ → Place) → (ℕ → Option G → (ℕ → A) → A) → (Place → Option G) → (ℕ → A) → (Place → Bool) → Type 0
NothingCanGo {A} {Place} n place rhs lines V keep =
    (stay : Place → Bool) (p : Place) → keep p ≡ true → stay p ≡ false →
    (W : ℕ → A) → Solves n (equations place rhs (kept stay (kept keep lines))) W → ((s : ℕ) → s < n → W s ≡ V s) → ⊥

-- a line is kept if some symbol of its place would have another value without it
pub record KeepsWhatDiffers {A Place G : Type 0} (n : ℕ) (place : ℕ → Place) (rhs : ℕ → Option G → (ℕ → A) → A) (lines : Place → Option G) (V : ℕ → A) (keep : Place → Bool) : Type 0 where
  -- if the line of its place is kept, a symbol has the value that this line gives
  pub given : (s : ℕ) → s < n → keep (place s) ≡ true → V s ≡ rhs s (lines (place s)) V
  -- if it is not kept, a symbol has the value that it has without a line
  pub same : (s : ℕ) → s < n → keep (place s) ≡ false → V s ≡ rhs s None V
  -- for each kept line, some symbol of its place has another value than without the line
  pub other : (p : Place) → keep p ≡ true → (s : ℕ) × (s < n) × (place s ≡ p) × (V s ≡ rhs s None V → ⊥)
