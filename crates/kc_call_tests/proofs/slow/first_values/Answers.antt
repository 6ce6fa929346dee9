use Rattle.std.proofs.Common.{arith}
use Rattle.kc_call_tests.proofs.slow.first_values.Goals as goal

pub symbol_row-requires : goal.symbol_row-requires
symbol_row-requires c = omega (arith, c.layout.ensures.laid.symbol_count, c.name_count-count.ensures.count, c.name_count-count.ensures.formed.symbols_named, c.loop-i-test.true)
