-- The tristate constants n, m and y as they are written.
use Rattle.std.proofs.{Common.{Bool, List, None, Some, [], ap, false, refl, sym, true, ℕ, ◌==◌, ◌∙◌, ◌∷◌, ◌≡◌}, lemmas.Bool.eqb-true}
use Rattle.std.specs.Prelude.{if◌then◌else◌, unwrap_or}
use Rattle.kc_language.specs.{Expressions.{tri_text, tristate_constant}, declared.expressions.Tri.{TheVariants.{M, N, Y}, Tri}}

-- a tristate constant is written as itself
pub constant_text : (w : List ℕ) (t : Tri) → tristate_constant w ≡ Some t → tri_text t ≡ w
constant_text [] t h = cc
constant_text (b ∷ c ∷ bs) t h = cc
constant_text (b ∷ []) t h = by_n (b == 110) refl h
  where
    said : (x : Tri) (n : ℕ) → tri_text x ≡ n ∷ [] → (b == n) ≡ true → Some x ≡ Some t → tri_text t ≡ b ∷ []
    said x n e same s = ap (λ o. tri_text (unwrap_or o x)) (sym s) ∙ e ∙ ap (λ k. k ∷ []) (sym (eqb-true b n same))

    by_y : (k : Bool) → (b == 121) ≡ k → (if k then Some Y else None) ≡ Some t → tri_text t ≡ b ∷ []
    by_y true e s = said Y 121 refl e s
    by_y false e s = cc

    by_m : (k : Bool) → (b == 109) ≡ k → (if k then Some M else (if b == 121 then Some Y else None)) ≡ Some t → tri_text t ≡ b ∷ []
    by_m true e s = said M 109 refl e s
    by_m false e s = by_y (b == 121) refl s

    by_n : (k : Bool) → (b == 110) ≡ k → (if k then Some N else (if b == 109 then Some M else (if b == 121 then Some Y else None))) ≡ Some t → tri_text t ≡ b ∷ []
    by_n true e s = said N 110 refl e s
    by_n false e s = by_m (b == 109) refl s
