-- For proofs: The known value of a symbol.
use Rattle.kc_language.specs.Expressions.{SymbolValue}
use Rattle.kc_language.specs.Expressions as known
use Rattle.kc_config_file.specs.declared.symbol_line.WrittenValue.{TheVariants.{TextValue, Truth}, WrittenValue}

abbrev pub value_view : WrittenValue → SymbolValue
value_view (Truth tri) = known.Truth tri
value_view (TextValue symbol_type text) = known.TextValue symbol_type text.now
