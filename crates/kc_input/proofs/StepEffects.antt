-- What an effect does to each part of the input.
use Rattle.std.proofs.Common.{Bool, List, Option, Some, [], false, slice_set, ◌∷◌}
use Rattle.std.specs.Prelude.{if◌then◌else◌, ◌&&◌}
use Rattle.kc_language.specs.{ConfigFile.{Assigns, Effect, Places, Silent, StreamLocation, UserInput, Warns, is_reported, is_taken, places_given}, Symbols.TreeFacts}

abbrev pub places_by : TreeFacts → Places → Effect → Places
places_by tree places Silent = places
places_by tree places (Warns line_warning) = places
places_by tree places (Assigns s given) = places_given tree places (record { symbol = s; given = given } ∷ [])

abbrev pub lines_by : List (Option StreamLocation) → StreamLocation → Effect → List (Option StreamLocation)
lines_by lines at Silent = lines
lines_by lines at (Warns line_warning) = lines
lines_by lines at (Assigns s given) = slice_set lines s.0 (Some at)

abbrev pub all_by : UserInput → Effect → Bool
all_by input Silent = input.all_taken
all_by input (Warns line_warning) = if is_reported input.asks_unset line_warning then false else input.all_taken
all_by input (Assigns s given) = input.all_taken && is_taken input.asks_unset input.places (Assigns s given)
