-- For proofs: How the logic encodes the value of a symbol, so that a model's value may hold it.
use Rattle.std.specs.{Coded.Coded, Prelude.◌≡◌}
use Rattle.std.proofs.Common.{ap}
use base.Stored.{Gv, gnum, gcons}
use Rattle.kc_language.specs.contracts.expressions.Tri as tri
use Rattle.kc_language.specs.contracts.expressions.SymbolType as symbol_type
use Rattle.kc_expr.specs.FormCode.{bytes_code, head, tail}
use Rattle.kc_language.specs.Expressions.{SymbolValue, TextValue, Truth}

abbrev pub store : SymbolValue → Gv
store (Truth t) = gcons (gnum 0) (tri.the_row.coded.code t)
store (TextValue k bytes) = gcons (gnum 1) (gcons (symbol_type.the_row.coded.code k) (bytes_code.code bytes))

pub symbol_value_inj : (x y : SymbolValue) → store x ≡ store y → x ≡ y
symbol_value_inj (Truth s) (Truth t) p = ap Truth (tri.the_row.coded.inj s t (ap tail p))
symbol_value_inj (TextValue j s) (TextValue k t) p = λ i.
    TextValue (symbol_type.the_row.coded.inj j k (ap (λ g. head (tail g)) p) i) (bytes_code.inj s t (ap (λ g. tail (tail g)) p) i)
symbol_value_inj (Truth s) (TextValue k t) p = cc
symbol_value_inj (TextValue j s) (Truth t) p = cc

abbrev pub symbol_value_code : Coded SymbolValue
symbol_value_code = record { code = store; inj = symbol_value_inj }
