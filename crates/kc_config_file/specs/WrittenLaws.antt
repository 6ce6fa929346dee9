-- Trusted: Laws of the written texts, for every tree, every prefix and every solution.
use Rattle.std.specs.Prelude.{Option, true, ℕ, ◌≡◌}
use Rattle.kc_language.specs.{ConfigFile.{Notation, Places, UserInput, is_prefix, place_at}, Expressions.SymbolValue, Needs.IsAccepted, Symbols.TreeFacts, Texts.{ConfigGivesBack, HasShortLines, MinimalGivesBack, MinimalNeedsEach, NewGivesBack, config_text, minimal_text, valuation_view}, Values.{GivenValue, Solves, UserPlace, equations, name_count}}
use Rattle.kc_entries.specs.WellFormed.{IsWellFormed}
use Rattle.kc_user.specs.Places.{ArePlaces}

-- the values of an accepted tree solve its equations for allowed user values
pub record IsSolutionOf (tree : TreeFacts) (places : Places) (V : ℕ → SymbolValue) : Type 0 where
  pub formed : IsWellFormed tree
  pub accepted : IsAccepted tree
  pub held : ArePlaces tree places
  pub solves : Solves (name_count tree) (equations tree (place_at places)) V

-- No line of the .config or of the minimal file is too long to be read again, for any numbers and titles.
abbrev pub WrittenTextsAreShort : Type 0
WrittenTextsAreShort =
    (tree : TreeFacts) (prefix : Notation) (places : Places) (V : ℕ → SymbolValue) → is_prefix prefix.prefix ≡ true → IsSolutionOf tree places V →
    HasShortLines (config_text tree prefix (valuation_view tree (place_at places) V)) × HasShortLines (minimal_text tree prefix (valuation_view tree (place_at places) V))

abbrev pub MinimalRestores : Type 0
MinimalRestores =
    (tree : TreeFacts) (prefix : Notation) (places : Places) (V : ℕ → SymbolValue) → is_prefix prefix.prefix ≡ true →
    IsSolutionOf tree places V → MinimalGivesBack tree prefix places V

abbrev pub MinimalHasNothingToSpare : Type 0
MinimalHasNothingToSpare =
    (tree : TreeFacts) (prefix : Notation) (places : Places) (V : ℕ → SymbolValue) → is_prefix prefix.prefix ≡ true →
    IsSolutionOf tree places V → MinimalNeedsEach tree prefix places V

abbrev pub ConfigIsIdempotent : Type 0
ConfigIsIdempotent =
    (tree : TreeFacts) (prefix : Notation) (places : Places) (V : ℕ → SymbolValue) → is_prefix prefix.prefix ≡ true →
    IsSolutionOf tree places V → ConfigGivesBack tree prefix places V

-- Reading the list of new symbols after the input files restores the values.
abbrev pub NewListGivesBack : Type 0
NewListGivesBack =
    (tree : TreeFacts) (prefix : Notation) (input : UserInput) (V : ℕ → SymbolValue) → is_prefix prefix.prefix ≡ true →
    IsSolutionOf tree input.places V → NewGivesBack tree prefix input V

-- The .config depends only on the values: with any other user values, the same values have the same text.
abbrev pub ConfigIsOfValues : Type 0
ConfigIsOfValues =
    (tree : TreeFacts) (prefix : Notation) (user other : UserPlace → Option GivenValue) (V : ℕ → SymbolValue) →
    config_text tree prefix (valuation_view tree user V) ≡ config_text tree prefix (valuation_view tree other V)
