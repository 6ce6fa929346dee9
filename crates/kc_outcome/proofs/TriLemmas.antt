-- The values n, m and y: the lesser and the greater, and what is at most what.
use Rattle.std.proofs.Common.{[], ◌∷◌, ◌++◌, true, true≢false, ◌≡◌, refl, ap, sym, ◌∙◌}
use Rattle.std.specs.Prelude.{List}
use Rattle.kc_language.specs.{Expressions.{greater, least, lesser}, Values.{is_n, upgrade}, declared.expressions.Tri.{Tri, TheVariants.{M, N, Y}}}
use Rattle.kc_outcome.specs.Explanations.{AtMost, is_y}

pub n_of : (t : Tri) → is_n t ≡ true → t ≡ N
n_of N e = refl
n_of M e = absurd (true≢false (sym e))
n_of Y e = absurd (true≢false (sym e))

pub greater-y : (t : Tri) → greater t Y ≡ Y
greater-y N = refl
greater-y _ = refl

pub y_of : (t : Tri) → is_y t ≡ true → t ≡ Y
y_of N e = absurd (true≢false (sym e))
y_of M e = absurd (true≢false (sym e))
y_of Y e = refl

pub lesser-assoc : (a b c : Tri) → lesser (lesser a b) c ≡ lesser a (lesser b c)
lesser-assoc M M N = refl
lesser-assoc _ _ _ = refl

pub lesser-comm : (a b : Tri) → lesser a b ≡ lesser b a
lesser-comm N N = refl
lesser-comm M N = refl
lesser-comm Y N = refl
lesser-comm _ _ = refl

pub lesser-y : (a : Tri) → lesser a Y ≡ a
lesser-y a = lesser-comm a Y

pub least-append : (xs ys : List Tri) → least (xs ++ ys) ≡ lesser (least xs) (least ys)
least-append [] ys = refl
least-append (x ∷ xs) ys = ap (lesser x) (least-append xs ys) ∙ sym (lesser-assoc x (least xs) (least ys))

-- ---- At most
n≢m : N ≡ M → ⊥
n≢m e = cc

n≢y : N ≡ Y → ⊥
n≢y e = cc

lesser-self : (t : Tri) → lesser t t ≡ t
lesser-self N = refl
lesser-self _ = refl

pub at_most_y : (t u : Tri) → u ≡ Y → AtMost t u
at_most_y t u e = ap (lesser t) e ∙ lesser-y t

pub at_most_same : (t u : Tri) → t ≡ u → AtMost t u
at_most_same t u e = ap (lesser t) (sym e) ∙ lesser-self t

pub at_most_lesser : (a b c d : Tri) → AtMost a b → AtMost c d → AtMost (lesser a c) (lesser b d)
at_most_lesser a b c d h k =
    lesser-assoc a c (lesser b d) ∙ ap (lesser a) (sym (lesser-assoc c b d) ∙ ap (λ t. lesser t d) (lesser-comm c b) ∙ lesser-assoc b c d)
    ∙ sym (lesser-assoc a b (lesser c d)) ∙ ap (λ t. lesser t (lesser c d)) h ∙ ap (lesser a) k

pub at_most_upgrade : (a b : Tri) → AtMost a b → AtMost (upgrade a) (upgrade b)
at_most_upgrade M N h = absurd (n≢m h)
at_most_upgrade Y N h = absurd (n≢y h)
at_most_upgrade _ _ h = refl

lesser-greater : (b d : Tri) → lesser b (greater b d) ≡ b
lesser-greater M N = refl
lesser-greater _ _ = refl

greater-comm : (b d : Tri) → greater b d ≡ greater d b
greater-comm N N = refl
greater-comm M N = refl
greater-comm Y N = refl
greater-comm _ _ = refl

lesser-of_greater : (a c x : Tri) → lesser (greater a c) x ≡ greater (lesser a x) (lesser c x)
lesser-of_greater M N N = refl
lesser-of_greater M M N = refl
lesser-of_greater M Y N = refl
lesser-of_greater Y N N = refl
lesser-of_greater Y M N = refl
lesser-of_greater Y Y N = refl
lesser-of_greater _ _ _ = refl

below_greater : (a b d : Tri) → AtMost a b → AtMost a (greater b d)
below_greater a b d h = ap (λ t. lesser t (greater b d)) (sym h) ∙ lesser-assoc a b (greater b d) ∙ ap (lesser a) (lesser-greater b d) ∙ h

pub at_most_greater : (a b c d : Tri) → AtMost a b → AtMost c d → AtMost (greater a c) (greater b d)
at_most_greater a b c d h k =
    lesser-of_greater a c (greater b d) ∙ ap (λ t. greater t (lesser c (greater b d))) (below_greater a b d h)
    ∙ ap (λ x. greater a (lesser c x)) (greater-comm b d) ∙ ap (greater a) (below_greater c d b k)
