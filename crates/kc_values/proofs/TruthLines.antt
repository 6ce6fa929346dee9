-- A bool or tristate under its own value as the user's.
use Rattle.std.proofs.{Common.{Bool, cond, false, inl, inr, not, refl, true, ◌&&◌, ◌≡◌, ◌⊎◌}, lemmas.Bool.true≢false}
use Rattle.kc_language.specs.{Expressions.{greater, lesser}, Values.{above, is_n, upgrade}, declared.expressions.Tri.{TheVariants.{M, N, Y}, Tri}}

-- the tristate upgrade, under a test
abbrev pub upgrade_if : Bool → Tri → Tri
upgrade_if b t = cond b (upgrade t) t

abbrev pub base_of : Tri → Tri → Tri → Tri
base_of u vis otherwise = cond (is_n vis) otherwise (lesser u vis)

abbrev pub outcome : Bool → Tri → Tri → Tri
outcome b base reverse = upgrade_if b (greater base (upgrade_if b reverse))

-- either the user's is not read, or the value as the user's gives it again
pub line_fixed : (b : Bool) (u vis reverse o : Tri) →
    (outcome b (base_of u (upgrade_if b vis) o) reverse ≡ outcome b o reverse) ⊎
    (outcome b (base_of (outcome b (base_of u (upgrade_if b vis) o) reverse) (upgrade_if b vis) o) reverse ≡ outcome b (base_of u (upgrade_if b vis) o)
    reverse)
line_fixed true N N N o = inl refl
line_fixed true N N M o = inl refl
line_fixed true N N Y o = inl refl
line_fixed true N M N o = inr refl
line_fixed true N M M o = inr refl
line_fixed true N M Y o = inr refl
line_fixed true N Y N o = inr refl
line_fixed true N Y M o = inr refl
line_fixed true N Y Y o = inr refl
line_fixed true M N N o = inl refl
line_fixed true M N M o = inl refl
line_fixed true M N Y o = inl refl
line_fixed true M M N o = inr refl
line_fixed true M M M o = inr refl
line_fixed true M M Y o = inr refl
line_fixed true M Y N o = inr refl
line_fixed true M Y M o = inr refl
line_fixed true M Y Y o = inr refl
line_fixed true Y N N o = inl refl
line_fixed true Y N M o = inl refl
line_fixed true Y N Y o = inl refl
line_fixed true Y M N o = inr refl
line_fixed true Y M M o = inr refl
line_fixed true Y M Y o = inr refl
line_fixed true Y Y N o = inr refl
line_fixed true Y Y M o = inr refl
line_fixed true Y Y Y o = inr refl
line_fixed false N N N o = inl refl
line_fixed false N N M o = inl refl
line_fixed false N N Y o = inl refl
line_fixed false N M N o = inr refl
line_fixed false N M M o = inr refl
line_fixed false N M Y o = inr refl
line_fixed false N Y N o = inr refl
line_fixed false N Y M o = inr refl
line_fixed false N Y Y o = inr refl
line_fixed false M N N o = inl refl
line_fixed false M N M o = inl refl
line_fixed false M N Y o = inl refl
line_fixed false M M N o = inr refl
line_fixed false M M M o = inr refl
line_fixed false M M Y o = inr refl
line_fixed false M Y N o = inr refl
line_fixed false M Y M o = inr refl
line_fixed false M Y Y o = inr refl
line_fixed false Y N N o = inl refl
line_fixed false Y N M o = inl refl
line_fixed false Y N Y o = inl refl
line_fixed false Y M N o = inr refl
line_fixed false Y M M o = inr refl
line_fixed false Y M Y o = inr refl
line_fixed false Y Y N o = inr refl
line_fixed false Y Y M o = inr refl
line_fixed false Y Y Y o = inr refl

-- where it is visible, the value of any base gives itself again unless it is over both
pub line_keeps : (b : Bool) (base vis reverse o : Tri) → is_n (upgrade_if b vis) ≡ false →
    ((outcome b base reverse ≡ outcome b (base_of (outcome b base reverse) (upgrade_if b vis) o) reverse) ×
    ((not b && (above (outcome b base reverse) (upgrade_if b vis) && above (outcome b base reverse) (upgrade_if b reverse))) ≡ false)) ⊎
    (((outcome b base reverse ≡ outcome b (base_of (outcome b base reverse) (upgrade_if b vis) o) reverse) → ⊥) ×
    ((not b && (above (outcome b base reverse) (upgrade_if b vis) && above (outcome b base reverse) (upgrade_if b reverse))) ≡ true))
line_keeps true N N N o e = absurd (true≢false e)
line_keeps true N N M o e = absurd (true≢false e)
line_keeps true N N Y o e = absurd (true≢false e)
line_keeps true N M N o e = inl (refl, refl)
line_keeps true N M M o e = inl (refl, refl)
line_keeps true N M Y o e = inl (refl, refl)
line_keeps true N Y N o e = inl (refl, refl)
line_keeps true N Y M o e = inl (refl, refl)
line_keeps true N Y Y o e = inl (refl, refl)
line_keeps true M N N o e = absurd (true≢false e)
line_keeps true M N M o e = absurd (true≢false e)
line_keeps true M N Y o e = absurd (true≢false e)
line_keeps true M M N o e = inl (refl, refl)
line_keeps true M M M o e = inl (refl, refl)
line_keeps true M M Y o e = inl (refl, refl)
line_keeps true M Y N o e = inl (refl, refl)
line_keeps true M Y M o e = inl (refl, refl)
line_keeps true M Y Y o e = inl (refl, refl)
line_keeps true Y N N o e = absurd (true≢false e)
line_keeps true Y N M o e = absurd (true≢false e)
line_keeps true Y N Y o e = absurd (true≢false e)
line_keeps true Y M N o e = inl (refl, refl)
line_keeps true Y M M o e = inl (refl, refl)
line_keeps true Y M Y o e = inl (refl, refl)
line_keeps true Y Y N o e = inl (refl, refl)
line_keeps true Y Y M o e = inl (refl, refl)
line_keeps true Y Y Y o e = inl (refl, refl)
line_keeps false N N N o e = absurd (true≢false e)
line_keeps false N N M o e = absurd (true≢false e)
line_keeps false N N Y o e = absurd (true≢false e)
line_keeps false N M N o e = inl (refl, refl)
line_keeps false N M M o e = inl (refl, refl)
line_keeps false N M Y o e = inl (refl, refl)
line_keeps false N Y N o e = inl (refl, refl)
line_keeps false N Y M o e = inl (refl, refl)
line_keeps false N Y Y o e = inl (refl, refl)
line_keeps false M N N o e = absurd (true≢false e)
line_keeps false M N M o e = absurd (true≢false e)
line_keeps false M N Y o e = absurd (true≢false e)
line_keeps false M M N o e = inl (refl, refl)
line_keeps false M M M o e = inl (refl, refl)
line_keeps false M M Y o e = inl (refl, refl)
line_keeps false M Y N o e = inl (refl, refl)
line_keeps false M Y M o e = inl (refl, refl)
line_keeps false M Y Y o e = inl (refl, refl)
line_keeps false Y N N o e = absurd (true≢false e)
line_keeps false Y N M o e = absurd (true≢false e)
line_keeps false Y N Y o e = absurd (true≢false e)
line_keeps false Y M N o e = inr (λ d. cc, refl)
line_keeps false Y M M o e = inr (λ d. cc, refl)
line_keeps false Y M Y o e = inl (refl, refl)
line_keeps false Y Y N o e = inl (refl, refl)
line_keeps false Y Y M o e = inl (refl, refl)
line_keeps false Y Y Y o e = inl (refl, refl)
