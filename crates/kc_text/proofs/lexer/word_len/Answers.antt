-- Why `word_len` keeps its contract: the map is held against the definition at each of the 256 bytes, by computing.
use Rattle.std.proofs.{Common.{arith, refl, take, ◌<◌}, lemmas.List.{Elements.All-from_get_or, get_or-take, length-take-le}}
use Rattle.std.specs.Prelude.{IsTrue}
use Rattle.kc_text.specs.declared.lexer.TheConstants.{WORD_MAP}
use Rattle.kc_language.specs.Tokens.{is_word_byte}
use Rattle.kc_text.proofs.Tables.{agree_below, comma_stops, sign_passes}
use Rattle.kc_text.proofs.lexer.word_len.Goals as goal

pub returns-clause-word : goal.returns-clause-word
unfolding agree_below
returns-clause-word c =
    All-from_get_or (λ b. IsTrue (is_word_byte b)) (take c.run_end.result c.args.rest.now) 0 (λ k lt.
    let less : k < c.run_end.result = omega (arith, length-take-le c.run_end.result c.args.rest.now c.run_end.ensures.within) in
    rw (get_or-take c.run_end.result c.args.rest.now k 0 less)
    (sign_passes WORD_MAP is_word_byte _ (c.type_inv.rest k).fits (c.run_end.ensures.passes k (omega arith) less) refl))

pub returns-clause-stops : goal.returns-clause-stops
unfolding agree_below
returns-clause-stops c lt = comma_stops WORD_MAP is_word_byte _ (c.type_inv.rest c.run_end.result).fits (c.run_end.ensures.stops lt) refl
