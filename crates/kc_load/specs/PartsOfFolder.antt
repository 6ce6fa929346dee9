-- For proofs: Names for parts of the definitions of Folder.
use Rattle.kc_load.specs.Asking.{FileBytes}
use Rattle.kc_entries.specs.PartsOfExpansion.{lines_of}
use Rattle.kc_language.specs.Files.{path_of}
use Rattle.std.specs.{Prelude.{List, None, Option, Some, if◌then◌else◌, ℕ}, Str.is_utf8}

abbrev pub named : (List ℕ → Option (List ℕ)) → List ℕ → FileBytes
named files dir name = if is_utf8 name then files (path_of dir name) else None

abbrev pub lines_found : Option (List ℕ) → ℕ
lines_found None = 0
lines_found (Some bytes) = lines_of bytes
