use Rattle.kc_language.specs.ConfigFile.{ArePlacesOf}
use Rattle.kc_how.proofs.lines.with_lines.Given as goal

abbrev pub invariant-loop-line : goal.invariant-loop-line
invariant-loop-line l = ArePlacesOf l.question.laid.now.tree.now l.user
