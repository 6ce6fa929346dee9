-- For proofs: What the lines and chunks of an input file give, for its name, a tree and a prefix.
use Rattle.std.specs.Prelude.{Bool, List, [], length, take, ℕ, ◌<◌, ◌∷◌, ◌≤◌}
use Rattle.kc_input.specs.{Feeding.{Feeds, GoesOnBy, IsWithinLine, StreamPosition}, PartsOfConfigFile.line, declared.step.NamedStream.NamedStream}
use Rattle.kc_language.specs.ConfigFile.{ArePlacesOf, Line, UserInput, input_after, warning}

-- the line at a position, finished by a line feed or by the end of the input file
abbrev pub line_at : NamedStream → StreamPosition → Bool → Line
line_at stream position ended = line stream.name.now position.number position.pending ended

-- the user's input after this line is read as well
abbrev pub after_line : NamedStream → UserInput → Line → UserInput
after_line stream before l = input_after stream.tree.now stream.prefix.now before (l ∷ [])

-- its warning
abbrev pub warning_of : NamedStream → UserInput → Line → List ℕ
warning_of stream before l = warning stream.tree.now stream.prefix.now before l

-- the chunk was read, and its warnings were added
abbrev pub TakesPiece : NamedStream → List ℕ → StreamPosition → StreamPosition → UserInput → UserInput → List ℕ → List ℕ → Type 0
TakesPiece stream piece old new before after told told_after =
    Feeds stream.tree.now stream.prefix.now stream.name.now piece old new before after told told_after

-- n of the bytes were taken
pub record TakesFront (stream : NamedStream) (bytes : List ℕ) (n : ℕ) (old new : StreamPosition) (before after : UserInput) (told told_after : List ℕ) : Type 0 where
  pub some : 0 < n
  pub within : n ≤ length bytes
  pub ok : TakesPiece stream (take n bytes) old new before after told told_after
  pub position : GoesOnBy (take n bytes) old new

-- a reader stands within a line, and the user's places are those of the tree
pub record IsOpen (stream : NamedStream) (position : StreamPosition) (input : UserInput) : Type 0 where
  pub user : ArePlacesOf stream.tree.now input.places
  pub within : IsWithinLine position
