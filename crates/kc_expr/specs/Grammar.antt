-- Trusted: The grammar of expressions.
--
--     or   = and { "||" and }
--     and  = not { "&&" not }
--     not  = "!" not | "(" or ")" | rel
--     rel  = operand [ ( "=" | "!=" | "<" | ">" | "<=" | ">=" ) operand ]
--     operand = a word other than if | a quoted text
use Rattle.std.specs.Prelude.{List, drop, map, ℕ, ◌≡◌}
use Rattle.kc_language.specs.Expressions.{Disjunction, LongestFront, Terminal, terminal_of}
use Rattle.kc_expr.specs.PartsOfExpressions.{spell_or}
use Rattle.kc_text.specs.{Lexemes.lexeme, declared.tokens.Token.Token}

-- the tokens from a position on, as the grammar sees them
abbrev pub terminals_from : List Token → ℕ → List Terminal
terminals_from tokens at = map (λ t. terminal_of (lexeme t)) (drop at tokens)

-- no two derivations have the same tokens
abbrev pub IsUnambiguous : Type 0
IsUnambiguous = (d e : Disjunction) → spell_or d ≡ spell_or e → d ≡ e

-- at most one prefix is the longest that begins some expression
abbrev pub HasOneLongestFront : Type 0
HasOneLongestFront =
    (ts front rest front' rest' : List Terminal) → LongestFront ts front rest → LongestFront ts front' rest' → (front ≡ front') × (rest ≡ rest')
