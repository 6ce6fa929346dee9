-- Trusted: The prefixes of symbol names.
use Rattle.std.specs.Prelude.{ℕ, Bool, List, Option, Some, None, if◌then◌else◌}
use Rattle.kc_language.specs.ConfigFile.{Notation, is_prefix}

-- the notation with this prefix, if the text is a prefix
abbrev pub prefix_of : List ℕ → Bool → Option Notation
prefix_of text is_raw = if is_prefix text then Some (record { prefix = text; is_raw = is_raw }) else None
