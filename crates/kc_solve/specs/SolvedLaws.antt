-- Trusted: Laws of every solution: what its minimal lines restore, and when its written lines restore it.
use Rattle.std.specs.Prelude.{Bool, false, ℕ, ◌<◌, ◌↔◌, ◌≡◌}
use Rattle.kc_order.specs.Minimal.{NothingCanGo, Restores}
use Rattle.kc_language.specs.{ConfigFile.place_at, Texts.{Solution, value_of}, Values.{Solves, UserPlace, changes_on_reread, equations, name_count, rhs, user_place}}
use Rattle.kc_user.specs.Places.{AllowedPlaces}
use Rattle.kc_values.specs.GivenLines.{TellsDiffering, minimal_line, reread_places}

-- The lines of the symbols that differ restore exactly the same values. If any nonempty set of these lines is left out, the solution is different.
pub record IsMinimal (s : Solution) : Type 0 where
  pub restores : (keep : UserPlace → Bool) → TellsDiffering s.tree (place_at s.places) (value_of s) keep →
      Restores (name_count s.tree) (user_place s.tree) (rhs s.tree) (minimal_line s.tree (place_at s.places) (value_of s)) (value_of s) keep
  pub nothing_to_spare : (keep : UserPlace → Bool) → TellsDiffering s.tree (place_at s.places) (value_of s) keep →
      NothingCanGo (name_count s.tree) (user_place s.tree) (rhs s.tree) (minimal_line s.tree (place_at s.places) (value_of s)) (value_of s) keep

-- With the allowed written values as user values, the solution is the same if and only if no symbol changes on rereading. The user values hold what
-- is allowed.
abbrev pub IdempotentWhere : Solution → Type 0
IdempotentWhere s =
    AllowedPlaces s.tree (place_at s.places) →
    Solves (name_count s.tree) (equations s.tree (reread_places s.tree (value_of s))) (value_of s)
    ↔ ((i : ℕ) → i < name_count s.tree → changes_on_reread s.tree (value_of s) i ≡ false)
