-- Trusted: The lines that give values back as user values: those of the minimal file, and those of all written symbols.
use Rattle.std.specs.{Option.option_map_or, Prelude.{Bool, None, Option, Some, false, find, if◌then◌else◌, option_map, true, ℕ, ◌&&◌, ◌<◌, ◌≡◌}}
use Rattle.kc_language.specs.{Expressions.{SymbolValue, symbol}, Symbols.TreeFacts, Texts.has_value, Values.{ChoicePlace, GivenValue, Member, SymbolPlace, UserPlace, choice_at, differs, given_of, is_new, is_yes, known_from, name_count, selection, user_place, written}, declared.expressions.SymId.SymId}
use Rattle.kc_user.specs.Places.{allowed, members_of}

-- For the user values `user` and the values V.
module _ (tree : TreeFacts) (user : UserPlace → Option GivenValue) (V : ℕ → SymbolValue) where
  -- a test that holds for exactly the places of the symbols that differ
  pub record TellsDiffering (keep : UserPlace → Bool) : Type 0 where
    pub differing : (p : UserPlace) → keep p ≡ true → (i : ℕ) × (i < name_count tree) × (user_place tree i ≡ p) × (differs tree user V i ≡ true)
    pub every : (i : ℕ) → i < name_count tree → differs tree user V i ≡ true → keep (user_place tree i) ≡ true

  -- the lines of the minimal file: values, and selected members
  abbrev pub minimal_line : UserPlace → Option GivenValue
  minimal_line (SymbolPlace i) = Some (given_of (V i))
  minimal_line (ChoicePlace c) = option_map Member (selection tree user V c)

  -- a new symbol that has a line in the list of new symbols; the user values after that list is read
  abbrev pub is_listed : SymId → Bool
  is_listed s = is_new tree (known_from tree V) user s && has_value (V s.0)

  abbrev pub listed_place : UserPlace → Option GivenValue
  listed_place (SymbolPlace i) = if is_listed (symbol i) then Some (given_of (V i)) else user (SymbolPlace i)
  listed_place (ChoicePlace c) =
      let found = selection tree user V c in if option_map_or is_listed found false then option_map Member found else user (ChoicePlace c)

-- For the values V alone.
module _ (tree : TreeFacts) (V : ℕ → SymbolValue) where
  -- the value of a symbol, if it is written and `allowed` accepts it
  abbrev pub reread_value : ℕ → Option GivenValue
  reread_value i =
      if written tree (known_from tree V) (symbol i) && allowed tree (symbol i) (given_of (V i)) then Some (given_of (V i)) else None

  -- the user values that the written lines give, if `allowed` accepts them
  abbrev pub reread_places : UserPlace → Option GivenValue
  reread_places (SymbolPlace i) = reread_value i
  reread_places (ChoicePlace c) = option_map Member (find (λ m. written tree (known_from tree V) m && is_yes (given_of (V m.0))) (members_of (choice_at tree c)))
