-- Bounds of what a symbol's own lines, and the lines that select or imply it, give.
use Rattle.std.proofs.Common.{Bool, None, Option, Some, ap, cond, false, refl, sym, true, ◌∙◌, ◌≡◌}
use Rattle.std.specs.Prelude.{not, ◌&&◌}
use denote.Enum.Bare.{sameb}
use Rattle.kc_language.specs.contracts.expressions.Tri.{the_type}
use Rattle.kc_language.specs.{Expressions.{greater, lesser}, Values.{GivenText, GivenTruth, GivenValue, Member, above, is_n, user_or}, declared.expressions.Tri.{TheVariants.{M, N, Y}, Tri}}
use Rattle.kc_possible.specs.{Bounds.IsWithin, declared.bounds.Bounds.Bounds}
use Rattle.kc_values.proofs.TriLemmas.{greater_comm}

-- ---- The order
pub above-trans : (a b c : Tri) → above a b ≡ false → above b c ≡ false → above a c ≡ false
above-trans N b c h k = refl
above-trans M N c h k = absurd cc
above-trans M M c h k = k
above-trans M Y N h k = absurd cc
above-trans M Y M h k = absurd cc
above-trans M Y Y h k = refl
above-trans Y N c h k = absurd cc
above-trans Y M c h k = absurd cc
above-trans Y Y c h k = k

pub above-same : (a : Tri) → above a a ≡ false
above-same N = refl
above-same M = refl
above-same Y = refl

pub above-left : (a b : Tri) → above a (greater a b) ≡ false
above-left N b = refl
above-left M N = refl
above-left M M = refl
above-left M Y = refl
above-left Y b = refl

pub above-right : (a b : Tri) → above b (greater a b) ≡ false
above-right a b = ap (above b) (greater_comm a b) ∙ above-left b a

above-lesser : (a b : Tri) → above (lesser a b) b ≡ false
above-lesser N b = refl
above-lesser M N = refl
above-lesser M M = refl
above-lesser M Y = refl
above-lesser Y b = above-same b

-- ---- Bounds
both : (a b : Bool) → a ≡ false → b ≡ false → (not a && not b) ≡ true
both a b h k = ap (λ x. not x && not b) h ∙ ap not k

pub within-by : (b : Bounds) (t : Tri) → above b.low t ≡ false → above t b.high ≡ false → IsWithin b t
within-by b t h k = both (above b.low t) (above t b.high) h k

low-of : (a b : Bool) → (not a && not b) ≡ true → a ≡ false
low-of false b h = refl
low-of true b h = absurd cc

high-of : (a b : Bool) → (not a && not b) ≡ true → b ≡ false
high-of a false h = refl
high-of false true h = absurd cc
high-of true true h = absurd cc

pub from-low : (b : Bounds) (t : Tri) → IsWithin b t → above b.low t ≡ false
from-low b t h = low-of (above b.low t) (above t b.high) h

pub to-high : (b : Bounds) (t : Tri) → IsWithin b t → above t b.high ≡ false
to-high b t h = high-of (above b.low t) (above t b.high) h

not-above-n : (t : Tri) → above t N ≡ false → t ≡ N
not-above-n N h = refl
not-above-n M h = absurd cc
not-above-n Y h = absurd cc

-- whether it is n, as the code compares them
same-n : (t : Tri) → sameb the_type t N ≡ is_n t
same-n N = refl
same-n M = refl
same-n Y = refl

pub is-n : (t : Tri) → is_n t ≡ true → t ≡ N
is-n N h = refl
is-n M h = absurd cc
is-n Y h = absurd cc

pub equals-n : (t : Tri) → true ≡ sameb the_type t N → t ≡ N
equals-n t h = is-n t (sym (same-n t) ∙ sym h)

pub differs-n : (t : Tri) → false ≡ sameb the_type t N → is_n t ≡ false
differs-n t h = sym (same-n t) ∙ sym h

-- below n there is only n
pub only-n : (b : Bounds) (t : Tri) → b.high ≡ N → IsWithin b t → t ≡ N
only-n b t e h = not-above-n t (sym (ap (above t) e) ∙ to-high b t h)

-- above m or y there is no n
is-not-n : (a t : Tri) → is_n a ≡ false → above a t ≡ false → is_n t ≡ false
is-not-n N t h k = absurd cc
is-not-n M N h k = absurd cc
is-not-n M M h k = refl
is-not-n M Y h k = refl
is-not-n Y N h k = absurd cc
is-not-n Y M h k = absurd cc
is-not-n Y Y h k = refl

pub never-n : (b : Bounds) (t : Tri) → is_n b.low ≡ false → IsWithin b t → is_n t ≡ false
never-n b t e h = is-not-n b.low t e (from-low b t h)

-- ---- What the user gives, and what implies
pub user-hidden : (user : Option GivenValue) (vis otherwise : Tri) → vis ≡ N → user_or user vis otherwise ≡ otherwise
user-hidden None vis otherwise e = refl
user-hidden (Some (GivenTruth u)) vis otherwise e = ap (λ v. cond (is_n v) otherwise (lesser u v)) e
user-hidden (Some (GivenText t)) vis otherwise e = refl
user-hidden (Some (Member m)) vis otherwise e = refl

module _ (all : Bounds) (vis otherwise : Tri) (own : IsWithin all otherwise) where
  user-by : (b : Bool) (u : Tri) → IsWithin all (lesser u vis) → IsWithin all (cond b otherwise (lesser u vis))
  user-by true u h = own
  user-by false u h = h

  pub user-within : (user : Option GivenValue) → ((u : Tri) → IsWithin all (lesser u vis)) → IsWithin all (user_or user vis otherwise)
  user-within None given = own
  user-within (Some (GivenTruth u)) given = user-by (is_n vis) u (given u)
  user-within (Some (GivenText t)) given = own
  user-within (Some (Member m)) given = own

-- up to a visibility
pub given-within : (b g : Bounds) (vis u : Tri) → IsWithin b vis → g.low ≡ N → g.high ≡ b.high → IsWithin g (lesser u vis)
given-within b g vis u h low high =
    within-by g (lesser u vis) (ap (λ t. above t (lesser u vis)) low)
    (ap (above (lesser u vis)) high ∙ above-trans (lesser u vis) vis b.high (above-lesser u vis) (to-high b vis h))

pub implied-within : (all : Bounds) (d to direct : Tri) → IsWithin all d → IsWithin all (lesser (greater d to) direct) → IsWithin all (cond (is_n to) d (lesser (greater d to) direct))
implied-within all d N direct h k = h
implied-within all d M direct h k = k
implied-within all d Y direct h k = k
