use Rattle.std.proofs.Common.{◌≡◌, ℕ, zero, suc, List, [], ◌∷◌, get_or, None, refl}
use Rattle.std.specs.List.{slice_get}
use Rattle.kc_build.proofs.warning.name_of.Goals as goal

-- past the end there is no name
none_past : (names : List (List ℕ)) (i : ℕ) → None ≡ slice_get names i → [] ≡ get_or names i []
none_past [] i h = refl
none_past (n ∷ ns) zero h = absurd cc
none_past (n ∷ ns) (suc i) h = none_past ns i h

pub returns-in-None : goal.returns-in-None
returns-in-None c = none_past c.args.names.now c.args.symbol.0 c.in-None.ensures
