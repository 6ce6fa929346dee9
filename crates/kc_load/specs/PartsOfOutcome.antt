-- Trusted: Names for parts of the definitions of Outcome.
use Rattle.std.specs.{List.list_any, Prelude.{Bool, List, Option, [], codes, find, if◌then◌else◌, map, nat_le, not, ℕ, ◌&&◌, ◌++◌, ◌==◌, ◌||◌, ◌∷◌}}
use Rattle.kc_language.specs.{Expressions.{all_mentioned, same_name}, Files.{ends_in, escaped, is_read_by_make, path_of}, Text.byte, declared.files.Position.TheVariants.{Prerequisite, Target}}

-- a byte, after a `\` if it needs one; a `$` is doubled
abbrev pub escaped_byte : Bool → ℕ → List ℕ
escaped_byte with_backslash b = (if with_backslash then codes "\\" else []) ++ (if b == byte "$" then codes "$" else []) ++ b ∷ []

-- the first of these names that make cannot read
abbrev pub first_unreadable : List (List ℕ) → Option (List ℕ)
first_unreadable names = find (λ name. not (is_read_by_make name)) names

-- ` \` ends the line before it; the prerequisite has its own line
abbrev pub prerequisite : List ℕ → List ℕ
prerequisite name = codes " \\\n " ++ escaped Prerequisite name

-- the rule of a file that needs no other file
abbrev pub empty_rule : List ℕ → List ℕ
empty_rule name = codes "\n" ++ escaped Target name ++ codes ":\n"

-- no line ends in `\`: ` |` is added, and no prerequisite follows
abbrev pub closed : List ℕ → List ℕ
closed line = line ++ (if ends_in (codes "\\") line then codes " |" else [])

-- make treats the byte as more than a part of a name, in some or all positions, and no `\` prevents that
abbrev pub is_beyond_make : ℕ → Bool
is_beyond_make b = b == 0 || nat_le 9 b && nat_le b 13 || list_any (λ c. c == b) (codes "=;*?[")

-- the first unreadable name of a rule
abbrev pub unreadable_of : List ℕ → List (List ℕ) → Option (List ℕ)
unreadable_of out names = first_unreadable (out ∷ names)

-- The input files for `out`: the `.config`, unless it is `out` itself, and the fragments.
abbrev pub inputs_of : List ℕ → List ℕ → List (List ℕ) → List (List ℕ)
inputs_of out config fragments = if same_name config out then fragments else config ∷ fragments

-- The prerequisites of `out`, each once: the files that the tree opens, by the paths at which they were read, then the input files.
abbrev pub prerequisites_of : List ℕ → List (List ℕ) → List (List ℕ) → List (List ℕ)
prerequisites_of dir opened inputs = all_mentioned [] (map (path_of dir) opened ++ inputs)
