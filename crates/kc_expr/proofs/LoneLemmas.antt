-- An operand that stands alone is a whole expression, and what breaks off there breaks the expression off.
use Rattle.std.proofs.Common.{Bool, List, ℕ, ◌∷◌, ◌≡◌}
use Rattle.kc_expr.specs.{Names.Extends, PartsOfExpressions.lone_form, Reading.{FailsChain, FailsNot, ParsedChain, StartsNoOp}, declared.parse.ExprFault.ExprFault}
use Rattle.kc_language.specs.{Expressions.{Atom, Form, Leaf, OperandToken, Terminal, all_mentioned, leaf, names_in_atom, number_of}, declared.expressions.Connective.TheVariants.{And, Or}}
use Rattle.kc_expr.proofs.{ParseLemmas.{parsed_conjunction, parsed_lone, parsed_negation, parsed_only}, ReadingLemmas.{fails_conjunction, fails_first, fails_negation}}

pub parsed_alone : (condition : Bool) (ts rest : List Terminal) (old names : List (List ℕ)) (a : Atom) (l : Leaf) (f : Form) (k : ℕ) → ts ≡ OperandToken a ∷ rest →
    StartsNoOp rest → names ≡ all_mentioned old (names_in_atom a) → ((later : List (List ℕ)) → Extends names later → l ≡ leaf (number_of later) a) →
    f ≡ lone_form condition l → ParsedChain Or condition k ts rest old names f
parsed_alone condition ts rest old names a l f k e s m is lone_expression =
    let one = parsed_lone condition ts rest old names a l f e s.0 m is lone_expression k in
    let both = parsed_only And condition k ts rest old names f (parsed_negation condition k ts rest old names f one) s.1 in
    parsed_only Or condition k ts rest old names f (parsed_conjunction condition k ts rest old names f both) s.2

pub fails_alone : (f : ExprFault) (k : ℕ) (ts : List Terminal) → FailsNot f k ts → FailsChain Or f k ts
fails_alone f k ts h = fails_first Or f k ts (fails_conjunction f k ts (fails_first And f k ts (fails_negation f k ts h)))
