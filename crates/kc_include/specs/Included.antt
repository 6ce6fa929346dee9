-- Trusted: `#include` lines of input files, the parts of a text between them, and the paths of included files (our own, after the C preprocessor).
use Rattle.std.specs.{List.{list_any, position_or_len, slice_split}, Option.{option_and_then, option_map}, Str.Lossy.utf8_lossy, Prelude.{List, None, Option, Some, [], codes, if◌then◌else◌, length, nat_lt, replicate, take, ℕ, ◌&&◌, ◌++◌, ◌+◌, ◌==◌, ◌∷◌}}
use Rattle.kc_language.specs.{ConfigFile.{without_prefix}, Lines.{is_line_feed}, Files.{begins_with_slash}, Text.{byte}, Tokens.{is_blank}}

-- The bytes from the first one that is not a blank.
abbrev pub without_blanks : List ℕ → List ℕ
without_blanks [] = []
without_blanks (b ∷ rest) = if is_blank b then without_blanks rest else b ∷ rest

-- The bytes before the first byte `end`, at least one.
abbrev pub name_before : ℕ → List ℕ → Option (List ℕ)
name_before end bytes = let n = position_or_len (λ b. b == end) bytes in
    if nat_lt 0 n && nat_lt n (length bytes) then Some (take n bytes) else None

-- The name of a file: one between `<` and `>`, or one between two `"`.
pub data Name : Type 0 where
  Angled : List ℕ → Name
  Quoted : List ℕ → Name

-- The name between `<` and the next `>`, or between `"` and the next `"`. The rest is ignored.
abbrev pub enclosed_name : List ℕ → Option Name
enclosed_name [] = None
enclosed_name (b ∷ rest) = if b == byte "<" then option_map Angled (name_before (byte ">") rest)
    else if b == byte "\"" then option_map Quoted (name_before (byte "\"") rest) else None

-- The name that a line includes: the NAME of `#include <NAME>` or `#include "NAME"`. Blanks are allowed before and after the `#` and before the name.
unfoldable pub included_name : List ℕ → Option Name
included_name line = option_and_then (λ rest. enclosed_name (without_blanks rest))
    (option_and_then (λ rest. without_prefix (codes "include") (without_blanks rest)) (without_prefix (codes "#") (without_blanks line)))

-- A part of a text: lines in a row, with the number of lines before them, and their bytes; or the name of an included file.
pub data Part : Type 0 where
  Lines : ℕ → List ℕ → Part
  Includes : Name → Part

-- A line that includes no file belongs to the current part. A line that includes a file ends it, and other parts follow.
abbrev pub cut_by : Option Name → ℕ → List ℕ → List Part → List Part → List Part
cut_by None first bytes on behind = on
cut_by (Some name) first bytes on behind = Lines first bytes ∷ Includes name ∷ behind

-- The parts of a text with these lines, after n lines. The current part is after `first` lines and has these bytes so far.
abbrev pub parts_from : ℕ → List ℕ → ℕ → List (List ℕ) → List Part
parts_from first bytes n [] = Lines first bytes ∷ []
parts_from first bytes n (last ∷ []) = cut_by (included_name last) first bytes (Lines first (bytes ++ last) ∷ []) (Lines (n + 1) [] ∷ [])
parts_from first bytes n (line ∷ next ∷ lines) =
    cut_by (included_name line) first bytes (parts_from first (bytes ++ (line ++ codes "\n")) (n + 1) (next ∷ lines)) (parts_from (n + 1) [] (n + 1) (next ∷ lines))

-- The parts of a text: its lines between the lines that include files, which belong to no part, and the names of these files.
unfoldable pub parts_of : List ℕ → List Part
parts_of text = parts_from 0 [] 0 (slice_split is_line_feed text)

-- The text that is read for a part of lines: an empty line for each line before them, so that they keep their numbers in the text.
abbrev pub read_as : ℕ → List ℕ → List ℕ
read_as first bytes = replicate first (byte "\n") ++ bytes

-- ---- The path of an included file
-- The folder of a file, with its `/`: the file's name up to the last `/`.
abbrev pub folder_before : List ℕ → List ℕ
folder_before [] = []
folder_before (b ∷ rest) = if list_any (λ c. c == byte "/") (b ∷ rest) then b ∷ folder_before rest else []

-- The path of a file in a folder, which is given with its `/`: both joined, or only the name if it begins with `/`. Bytes that are not UTF-8 become
-- U+FFFD.
abbrev pub path_behind : List ℕ → List ℕ → List ℕ
path_behind folder name = utf8_lossy (if begins_with_slash name then name else folder ++ name)

-- The paths at which a file is searched that the file `includer` includes. If its name is between `"`, it is searched first in the folder of that
-- file. Every file is searched in the folder of all included files.
abbrev pub places_of : List ℕ → List ℕ → Name → List (List ℕ)
places_of folder includer (Angled name) = path_behind (folder ++ codes "/") name ∷ []
places_of folder includer (Quoted name) = path_behind (folder_before includer) name ∷ path_behind (folder ++ codes "/") name ∷ []
