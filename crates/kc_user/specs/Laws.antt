-- Trusted: Laws of the user values of each tree.
use Rattle.std.specs.{List.Contains, Prelude.{List, None, Some, length, slice_get, slice_index_or, slice_set, true, ℕ, ◌≡◌, ◌≤◌}}
use Rattle.kc_language.specs.{ConfigFile.Places, Symbols.TreeFacts, Text.longest_value, Values.{GivenText, GivenValue}, declared.expressions.SymId.SymId}
use Rattle.kc_user.specs.{PartsOfConfigFile.no_places, Places.{ArePlaces, allowed, members_of}}

-- Empty user values are user values of the tree.
abbrev pub EmptyArePlaces : Type 0
EmptyArePlaces = (tree : TreeFacts) → ArePlaces tree (no_places tree)

-- They still are after a symbol gets an allowed value.
abbrev pub SettingKeepsPlaces : Type 0
SettingKeepsPlaces =
    (tree : TreeFacts) (places : Places) (s : SymId) (g : GivenValue) → ArePlaces tree places → allowed tree s g ≡ true →
    ArePlaces tree (record { symbols = slice_set places.symbols s.0 (Some g); choices = places.choices })

-- They still are after a choice gets a member of it.
abbrev pub SelectingKeepsPlaces : Type 0
SelectingKeepsPlaces =
    (tree : TreeFacts) (places : Places) (c : ℕ) (m : SymId) → ArePlaces tree places → Contains (members_of (slice_get tree.choices c)) m →
    ArePlaces tree (record { symbols = places.symbols; choices = slice_set places.choices c (Some m) })

-- No text in them is longer than a value may be.
abbrev pub TextsAreShort : Type 0
TextsAreShort =
    (tree : TreeFacts) (places : Places) (i : ℕ) (text : List ℕ) → ArePlaces tree places → slice_index_or places.symbols i None ≡ Some (GivenText text) →
    length text ≤ longest_value
