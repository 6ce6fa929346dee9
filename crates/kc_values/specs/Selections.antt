-- Trusted: The user values that members read.
use Rattle.std.specs.Prelude.{List, None, Option, Some, slice_index_or, ℕ}
use Rattle.kc_language.specs.{Values.GivenValue, declared.{expressions.SymId.SymId, symbols.ChoiceId.ChoiceId}}
use Rattle.kc_user.specs.PartsOfConfigFile.{member_place}

-- the member that the user chose for choice c
abbrev pub member_given : List (Option SymId) → ℕ → Option GivenValue
member_given users c = member_place (slice_index_or users c None)

-- a member reads the user value of its choice, another symbol its own
abbrev pub given_for : Option ChoiceId → Option GivenValue → List (Option SymId) → Option GivenValue
given_for None own users = own
given_for (Some c) own users = member_given users c.0
