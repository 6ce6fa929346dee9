-- For proofs: Names for parts of the definitions of Texts.
use Rattle.std.specs.Prelude.{Bool, List, ℕ}
use Rattle.kc_language.specs.ConfigFile.{StreamLocation}
use Rattle.kc_language.specs.Symbols.{located_warning}
use Rattle.kc_language.specs.Texts.{lost_warning}
use Rattle.kc_language.specs.Values.{GivenValue}
use Rattle.kc_language.specs.declared.expressions.SymbolType.{SymbolType}

-- the line of a user value that is not the symbol's value (K14)
abbrev pub lost_line : Bool → Bool → StreamLocation → List ℕ → SymbolType → GivenValue → GivenValue → List ℕ
lost_line is_raw prompted at called kind given value = located_warning at.stream at.number (lost_warning is_raw prompted called kind given value)
