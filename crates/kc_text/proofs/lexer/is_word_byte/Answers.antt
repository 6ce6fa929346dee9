-- Why `is_word_byte` keeps its contract: the map is held against the definition at each of the 256 bytes, by computing.
use Rattle.std.proofs.Common.{refl, arith}
use Rattle.kc_text.specs.declared.lexer.TheConstants.{WORD_MAP}
use Rattle.kc_language.specs.Tokens.{is_word_byte}
use Rattle.kc_text.proofs.Tables.{agree_below, from_map}
use Rattle.kc_text.proofs.lexer.is_word_byte.Goals as goal

pub returns : goal.returns
unfolding agree_below
returns c = from_map WORD_MAP is_word_byte c.args.b (omega arith) refl
