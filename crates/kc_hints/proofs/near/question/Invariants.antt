-- What is left of the names follows.
use Rattle.std.proofs.Common.{◌≡◌, ◌++◌, length, map}
use Rattle.kc_hints.specs.Near.{question}
use Rattle.kc_hints.proofs.near.question.Given as goal

abbrev pub invariant-names : goal.invariant-names
invariant-names l = l.text.items ++ question (map (λ name. name.now) l.rest) ≡ question (map (λ name. name.now) l.names)

abbrev pub decreases-names : goal.decreases-names
decreases-names l = length l.rest
