use denote.Enum.Bare.{same_true}
use Rattle.std.proofs.Common.{ap, rules, sym, ◌∙◌}
use Rattle.kc_expr.specs.PartsOfExpressions.{text_of_value}
use Rattle.kc_language.specs.{Values.{facts, name, type_in}, contracts.expressions.SymbolType.the_type}
use Rattle.kc_possible.proofs.TextLemmas.{named-value}
use Rattle.kc_possible.proofs.texts.name_of.Goals as goal

pub returns-then-eq : goal.returns-then-eq
returns-then-eq c known allowed =
    let tree = c.args.p.now.laid.tree.now in
    let id = c.args.id in
    let untyped = same_true the_type (search rules) _ _ (sym c.if-eq.ensures) in
    ap text_of_value (named-value (type_in (facts tree id)) (name tree id) (known id) (sym c.type_of.ensures ∙ untyped) (allowed.typed id)) ∙ sym c.name.ensures
