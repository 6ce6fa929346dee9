-- For proofs: A user's values as lists.
use Rattle.std.specs.Prelude.{List, None, Option, Some, slice_index_or}
use Rattle.kc_language.specs.{Values.{ChoicePlace, GivenValue, SymbolPlace, UserPlace}, declared.expressions.SymId.SymId}
use Rattle.kc_user.specs.{ValueView.given_of_value, declared.value.UserValue.UserValue}
use Rattle.kc_values.specs.Selections.{member_given}

abbrev pub given_at : Option UserValue → Option GivenValue
given_at None = None
given_at (Some u) = Some (given_of_value u)

-- the user value of each symbol, and the member chosen for each choice
abbrev pub places : List (Option UserValue) → List (Option SymId) → UserPlace → Option GivenValue
places given chosen (SymbolPlace i) = given_at (slice_index_or given i None)
places given chosen (ChoicePlace c) = member_given chosen c
