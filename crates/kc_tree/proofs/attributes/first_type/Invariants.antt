use Rattle.kc_language.specs.Symbols.{stated_type}
use Rattle.kc_tree.proofs.AttributeLemmas.{FirstIs}
use Rattle.kc_tree.proofs.attributes.first_type.Given as goal

abbrev pub invariant-loop-line : goal.invariant-loop-line
invariant-loop-line l = FirstIs stated_type l.attributes l.line-index
