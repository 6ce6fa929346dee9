-- Trusted: Laws of reading lines, for every tree, every prefix and every earlier input.
use Rattle.std.specs.{List.after_last, Prelude.{Bool, List, None, Some, [], false, if◌then◌else◌, length, slice_set, true, ℕ, ◌++◌, ◌∷◌, ◌≡◌}}
use Rattle.kc_language.specs.{ConfigFile.{ArePlacesOf, Assigns, Line, Notation, Places, Silent, UserInput, Warns, effect, effect_of, gone_after, input_after, is_prefix, is_reported, is_within, lines_from, meaning_of, not_allowed, places_after, reading, refused_after, stream_location, untaken, untaken_line, warning, warnings}, Lines.is_line_feed, Symbols.{TreeFacts, Warning}, Values.GivenValue, declared.expressions.SymId.SymId}
use Rattle.kc_text.specs.{PartsOfLines.HoldsNoLineFeed, PartsOfText.one_more}
use Rattle.kc_entries.specs.WellFormed.{IsWellFormed}
use Rattle.kc_user.specs.Places.{allowed}
use Rattle.kc_input.specs.{PartsOfConfigFile.{last_line, line, refused_line}, Reading.with_warnings}

-- The lines of a file's bytes: a line feed ends a line, and the next line follows. Bytes without a line feed are the last line, if there are any.
-- Nothing follows the last line feed.
pub record LinesAreCut : Type 0 where
  pub ended :
      (stream : List ℕ) (n : ℕ) (bytes rest : List ℕ) (b : ℕ) → HoldsNoLineFeed bytes → is_line_feed b ≡ true →
      lines_from stream n (bytes ++ b ∷ rest) ≡ line stream n bytes true ∷ lines_from stream (one_more n) rest
  pub last : (stream : List ℕ) (n : ℕ) (bytes : List ℕ) → HoldsNoLineFeed bytes → lines_from stream n bytes ≡ last_line stream n bytes
  pub waiting : (bytes : List ℕ) → HoldsNoLineFeed (after_last is_line_feed bytes)

-- For a tree and a prefix.
module _ (tree : TreeFacts) (prefix : Notation) where
  -- Reading works line by line: a line that is not too long is read, then the other lines from the input after it. A line that is too long stops the
  -- reading, and nothing of it is read.
  pub record GoesLineByLine : Type 0 where
    pub nothing : (input : UserInput) → reading tree prefix input [] ≡ record { input = input; warned = []; stopped = None }
    pub short :
        (input : UserInput) (l : Line) (lines : List Line) → is_within l ≡ true →
        reading tree prefix input (l ∷ lines) ≡ with_warnings (warning tree prefix input l) (reading tree prefix (input_after tree prefix input (l ∷ [])) lines)
    pub too_long :
        (input : UserInput) (l : Line) (lines : List Line) → is_within l ≡ false →
        reading tree prefix input (l ∷ lines) ≡ record { input = input; warned = []; stopped = Some (stream_location l) }

  -- Lines add up: the input, the warnings and the lines not taken as written are those of the first lines, followed by those of the other lines from
  -- the input that the first leave.
  pub record LinesAddUp : Type 0 where
    pub none_leave : (input : UserInput) → input_after tree prefix input [] ≡ input
    pub leave : (input : UserInput) (a b : List Line) → input_after tree prefix input (a ++ b) ≡ input_after tree prefix (input_after tree prefix input a) b
    pub one_warns : (input : UserInput) (l : Line) → warnings tree prefix input (l ∷ []) ≡ warning tree prefix input l
    pub warn :
        (input : UserInput) (a b : List Line) →
        warnings tree prefix input (a ++ b) ≡ warnings tree prefix input a ++ warnings tree prefix (input_after tree prefix input a) b
    pub one_untaken : (asked : Bool) (places : Places) (l : Line) → untaken tree prefix asked places (l ∷ []) ≡ untaken_line tree prefix asked places l
    pub are_untaken :
        (asked : Bool) (places : Places) (a b : List Line) →
        untaken tree prefix asked places (a ++ b) ≡ untaken tree prefix asked places a ++ untaken tree prefix asked (places_after tree prefix places a) b

  -- A silent line, or one with a warning, gives no value to a symbol. A line that gives a value to a symbol is stored in the symbol's place, with its
  -- value. A line whose value for a symbol is not allowed is stored as that, with its text.
  pub record LinesDoWhatTheySay : Type 0 where
    pub silent : (input : UserInput) (l : Line) → effect tree prefix l ≡ Silent → input_after tree prefix input (l ∷ []) ≡ input
    pub warned :
        (input : UserInput) (l : Line) (line_warning : Warning) → effect tree prefix l ≡ Warns line_warning →
        input_after tree prefix input (l ∷ []) ≡ record input {
          refused = refused_after tree prefix input.refused (l ∷ []);
          all_taken = if is_reported input.asks_unset line_warning then false else input.all_taken;
          gone = gone_after tree prefix input.gone (l ∷ []);
        }
    pub value :
        (input : UserInput) (l : Line) (s : SymId) (given : GivenValue) → effect tree prefix l ≡ Assigns s given →
        (input_after tree prefix input (l ∷ [])).places.symbols ≡ slice_set input.places.symbols s.0 (Some given)
    pub by_line :
        (input : UserInput) (l : Line) (s : SymId) (given : GivenValue) → effect tree prefix l ≡ Assigns s given →
        (input_after tree prefix input (l ∷ [])).lines ≡ slice_set input.lines s.0 (Some (stream_location l))
    pub refused :
        (input : UserInput) (l : Line) (s : SymId) → not_allowed tree (effect tree prefix l) ≡ Some s →
        (input_after tree prefix input (l ∷ [])).refused ≡ slice_set input.refused s.0 (Some (refused_line tree prefix l))

  -- Lines do not change the number of places.
  pub record LinesKeepCounts : Type 0 where
    pub places : (input : UserInput) (lines : List Line) → ArePlacesOf tree input.places → ArePlacesOf tree (input_after tree prefix input lines).places
    pub lines : (input : UserInput) (lines : List Line) → length (input_after tree prefix input lines).lines ≡ length input.lines
    pub refused : (input : UserInput) (lines : List Line) → length (input_after tree prefix input lines).refused ≡ length input.refused

abbrev pub ReadingGoesLineByLine : Type 0
ReadingGoesLineByLine = (tree : TreeFacts) (prefix : Notation) → GoesLineByLine tree prefix

-- What lines give, in turn.
pub record LinesInTurn (tree : TreeFacts) (prefix : Notation) : Type 0 where
  pub add_up : LinesAddUp tree prefix
  pub says : LinesDoWhatTheySay tree prefix
  pub counts : LinesKeepCounts tree prefix

abbrev pub LinesGiveInTurn : Type 0
LinesGiveInTurn = (tree : TreeFacts) (prefix : Notation) → LinesInTurn tree prefix

-- A value that a line assigns to a symbol is allowed for it.
abbrev pub AssignedAreAllowed : Type 0
AssignedAreAllowed =
    (tree : TreeFacts) (prefix : Notation) (bytes : List ℕ) (s : SymId) (given : GivenValue) → HoldsNoLineFeed bytes →
    effect_of prefix.is_raw tree (meaning_of prefix.prefix bytes) ≡ Assigns s given → allowed tree s given ≡ true

-- Every allowed value of a symbol is assigned by some line that is not too long.
abbrev pub AllowedAreAssigned : Type 0
AllowedAreAssigned =
    (tree : TreeFacts) (prefix : Notation) (s : SymId) (given : GivenValue) → IsWellFormed tree → is_prefix prefix.prefix ≡ true → allowed tree s given ≡ true →
    (l : Line) × (l.ended ≡ true) × HoldsNoLineFeed l.bytes × (is_within l ≡ true) × (effect tree prefix l ≡ Assigns s given)
