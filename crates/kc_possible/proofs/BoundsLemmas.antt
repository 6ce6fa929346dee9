-- What is between bounds.
use Rattle.std.proofs.Common.{not, refl, true, ◌&&◌, ◌≡◌}
use Rattle.kc_language.specs.{Values.above, declared.expressions.Tri.{TheVariants.{M, N, Y}, Tri}}
use Rattle.kc_possible.specs.{Bounds.IsWithin, declared.bounds.Bounds.Bounds}

n_lowest : (low high : Tri) → not (above low N) && not (above N high) ≡ true → low ≡ N
n_lowest N high h = refl
n_lowest M high h = absurd cc
n_lowest Y high h = absurd cc

-- bounds that contain n have it as their lowest value
pub lowest_is_n : (b : Bounds) → IsWithin b N → b.low ≡ N
lowest_is_n b h = n_lowest b.low b.high h

one_value : (low t : Tri) → not (above low t) && not (above t low) ≡ true → t ≡ low
one_value N N h = refl
one_value M M h = refl
one_value Y Y h = refl
one_value N M h = absurd cc
one_value N Y h = absurd cc
one_value M N h = absurd cc
one_value M Y h = absurd cc
one_value Y N h = absurd cc
one_value Y M h = absurd cc

-- what is between bounds that are the same is the one value
pub is_single : (b : Bounds) (t : Tri) → b.low ≡ b.high → IsWithin b t → t ≡ b.low
is_single b t same h = one_value b.low t (rw (← same) at h)
