-- What holds at each turn of the loops of `add_at`: with the parts that are left and the closing parenthesis it is the whole text.
use Rattle.std.proofs.Common.{drop, map, ◌++◌, ◌≡◌}
use Rattle.kc_language.specs.{ExpressionTexts.{chain_text, joint, text_at}, Expressions.forms, declared.expressions.Connective.TheVariants.{And, Or}}
use Rattle.kc_expr.specs.Form.{form_of}
use Rattle.kc_expr.proofs.ExpressionTexts.{closing}
use Rattle.kc_expr.proofs.text.+add_at.Given as goal

abbrev pub invariant-loop-part : goal.invariant-loop-part
invariant-loop-part l =
    l.text.items ++ (chain_text l.names And (joint And) (forms (map form_of (drop l.part-index l.part-items))) ++ closing l.needed)
    ≡ l.fn.text.items ++ text_at l.names l.fn.place (form_of l.e)

abbrev pub invariant-loop-part-2 : goal.invariant-loop-part-2
invariant-loop-part-2 l =
    l.text.items ++ (chain_text l.names Or (joint Or) (forms (map form_of (drop l.part-index l.part-items))) ++ closing l.needed)
    ≡ l.fn.text.items ++ text_at l.names l.fn.place (form_of l.e)
