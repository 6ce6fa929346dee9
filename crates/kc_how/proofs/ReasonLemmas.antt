-- For proofs: Symbols that are off, and one more.
use Rattle.std.proofs.Common.{All, List, [], subst, sym, ◌++◌, ◌∷◌, ◌≡◌}
use Rattle.std.proofs.lemmas.List.Elements.{All-push}
use Rattle.kc_language.specs.Symbols.{TreeFacts}
use Rattle.kc_language.specs.declared.expressions.SymId.{SymId}
use Rattle.kc_possible.specs.Possible.{IsOff}

pub off_more : (tree : TreeFacts) (found more : List SymId) (s : SymId) → All (IsOff tree) found → IsOff tree s → more ≡ found ++ s ∷ [] → All (IsOff tree) more
off_more tree found more s all off e = subst (All (IsOff tree)) (sym e) (All-push (IsOff tree) found s all off)
