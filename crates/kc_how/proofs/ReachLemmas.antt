-- A value that the bounds exclude is out of reach.
use Rattle.std.proofs.Common.{List, false, refl, ℕ, ◌≡◌}
use Rattle.kc_language.specs.{Expressions.{SymbolValue, TextValue, Truth}, Symbols.TreeFacts, Values.{GivenTruth, given_of, known_from, same_given}, declared.expressions.{SymId.SymId, Tri.{TheVariants.{M, N, Y}, Tri}}}
use Rattle.kc_possible.specs.Possible.{IsImpossible}
use Rattle.kc_how.specs.How.{IsOutOfReach}

unlike : (t : Tri) (v : SymbolValue) → (v ≡ Truth t → ⊥) → same_given (GivenTruth t) (given_of v) ≡ false
unlike t (TextValue kind text) other = refl
unlike N (Truth N) other = absurd (other refl)
unlike N (Truth M) other = refl
unlike N (Truth Y) other = refl
unlike M (Truth N) other = refl
unlike M (Truth M) other = absurd (other refl)
unlike M (Truth Y) other = refl
unlike Y (Truth N) other = refl
unlike Y (Truth M) other = refl
unlike Y (Truth Y) other = absurd (other refl)

pub out_of_reach : (tree : TreeFacts) (s : SymId) (t : Tri) → IsImpossible tree s t → IsOutOfReach tree (record { symbol = s; value = GivenTruth t })
out_of_reach tree s t never user V under = unlike t (known_from tree V s) (never user V under)
