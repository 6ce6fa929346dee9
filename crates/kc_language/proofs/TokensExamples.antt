-- Examples for the chapter Tokens: a line that is cut to its end.
use Rattle.std.proofs.Common.{[], inr, refl, ◌∷◌}
use Rattle.std.specs.Prelude.{None, codes}
use Rattle.kc_language.specs.{Tokens.{AQuoted, AWord, AnOp, IsCut, ended, skipped, taken}, declared.tokens.Op.TheVariants.And}
use Rattle.kc_language.proofs.ExampleTools.{and_op, quoted, word}

-- The line `A && "b c" # x` is cut into a word, an operator and a quoted text. Its blanks and its comment give no token.
line_is_cut : IsCut (codes "A && \"b c\" # x") (AWord (codes "A") ∷ AnOp And ∷ AQuoted (codes "b c") ∷ []) None
line_is_cut = taken (word _ [] _ refl refl) (skipped refl
    (taken (and_op _) (skipped refl (taken (quoted (codes "b c") _ refl) (skipped refl (ended (inr refl)))))))
