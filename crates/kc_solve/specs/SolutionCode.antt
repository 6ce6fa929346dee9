-- For proofs: How the logic stores a solution, so that a model can have it as its value.
use Rattle.std.specs.{Coded.{Coded, code_by, coded_list, coded×}, Prelude.{List, refl}}
use Rattle.kc_expr.specs.SymbolValueCode.{symbol_value_code}
use Rattle.kc_language.specs.{ConfigFile.Places, Expressions.SymbolValue, Symbols.TreeFacts, Texts.Solution}
use Rattle.kc_tree.specs.TreeCode.{tree_code}
use Rattle.kc_user.specs.contracts.user.User as user

abbrev pub solution_code : Coded Solution
solution_code =
    code_by (TreeFacts × (Places × List SymbolValue)) (coded× tree_code (coded× user.the_row.coded (coded_list symbol_value_code)))
    (λ s. (s.tree, (s.places, s.values)))
    (λ p. record { tree = p.0; places = p.1.0; values = p.1.1 })
    (λ _. refl)
