-- Trusted: User values, and which are allowed.
use Rattle.std.specs.{List.{Contains, list_any}, Prelude.{Bool, List, None, Option, Some, [], false, is_some, length, nat_le, not, slice_get, slice_index_or, true, ℕ, ◌&&◌, ◌+◌, ◌≡◌}}
use Rattle.kc_language.specs.{ConfigFile.{ArePlacesOf, Places, place_at}, Expressions.symbol, Lines.is_line_feed, Symbols.{ChoiceFacts, SymbolFacts, TreeFacts}, Text.{escape, hex_of, int_of, longest_value}, Values.{GivenText, GivenTruth, GivenValue, Member, SymbolPlace, UserPlace}, declared.expressions.{SymId.SymId, SymbolType.SymbolType, Tri.{TheVariants.{M, N, Y}, Tri}}}
use Rattle.kc_language.specs.declared.expressions.SymbolType.TheVariants as symbol_type

-- `"TEXT"` with a `\` before each `"` and `\` is no longer than a value may be, and has no line feed
abbrev pub fits_quoted : List ℕ → Bool
fits_quoted text = nat_le (length (escape text) + 2) longest_value && not (list_any is_line_feed text)

abbrev pub is_short : List ℕ → Bool
is_short text = nat_le (length text) longest_value

abbrev pub is_m : Tri → Bool
is_m N = false
is_m M = true
is_m Y = false

abbrev pub allowed_truth : SymbolType → Tri → Bool
allowed_truth symbol_type.Undefined t = false
allowed_truth symbol_type.Bool t = not (is_m t)
allowed_truth symbol_type.Tristate t = true
allowed_truth symbol_type.Str t = false
allowed_truth symbol_type.Int t = false
allowed_truth symbol_type.Hex t = false

abbrev pub allowed_text : SymbolType → List ℕ → Bool
allowed_text symbol_type.Undefined t = false
allowed_text symbol_type.Bool t = false
allowed_text symbol_type.Tristate t = false
allowed_text symbol_type.Str t = fits_quoted t
allowed_text symbol_type.Int t = is_short t && is_some (int_of t)
allowed_text symbol_type.Hex t = is_short t && is_some (hex_of t)

abbrev pub allowed_by : SymbolType → GivenValue → Bool
allowed_by k (GivenTruth t) = allowed_truth k t
allowed_by k (GivenText t) = allowed_text k t
allowed_by k (Member m) = false

abbrev pub allowed_for : Option SymbolFacts → GivenValue → Bool
allowed_for None given = false
allowed_for (Some facts) given = allowed_by facts.symbol_type given

-- whether a symbol may have this value
abbrev pub allowed : TreeFacts → SymId → GivenValue → Bool
allowed tree s given = allowed_for (slice_get tree.symbols s.0) given

-- each user value of a symbol is allowed
abbrev pub AllowedPlaces : TreeFacts → (UserPlace → Option GivenValue) → Type 0
AllowedPlaces tree user = (i : ℕ) (g : GivenValue) → user (SymbolPlace i) ≡ Some g → allowed tree (symbol i) g ≡ true

abbrev pub members_of : Option ChoiceFacts → List SymId
members_of None = []
members_of (Some c) = c.members

-- User values of a tree: those of symbols are allowed, and those of choices are members of them.
pub record ArePlaces (tree : TreeFacts) (places : Places) : Type 0 where
  pub there : ArePlacesOf tree places
  pub allowed_all : AllowedPlaces tree (place_at places)
  pub members : (c : ℕ) (m : SymId) → slice_index_or places.choices c None ≡ Some m → Contains (members_of (slice_get tree.choices c)) m
