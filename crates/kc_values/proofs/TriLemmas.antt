-- The least and the greatest of truths.
use Rattle.std.proofs.Common.{List, [], ap, refl, sym, ◌++◌, ◌∙◌, ◌∷◌, ◌≡◌}
use Rattle.kc_language.specs.{Expressions.{greater, greatest, least, lesser}, declared.expressions.Tri.{TheVariants.{M, N, Y}, Tri}}
use Rattle.kc_values.specs.Computed.{rank}

pub rank-same : (a b : Tri) → rank a ≡ rank b → a ≡ b
rank-same N N e = refl
rank-same M M e = refl
rank-same Y Y e = refl
rank-same N M e = absurd cc
rank-same N Y e = absurd cc
rank-same M N e = absurd cc
rank-same M Y e = absurd cc
rank-same Y N e = absurd cc
rank-same Y M e = absurd cc

pub lesser_y : (a : Tri) → lesser a Y ≡ a
lesser_y N = refl
lesser_y M = refl
lesser_y Y = refl

lesser_n : (a : Tri) → lesser a N ≡ N
lesser_n N = refl
lesser_n M = refl
lesser_n Y = refl

pub lesser_comm : (a b : Tri) → lesser a b ≡ lesser b a
lesser_comm N b = sym (lesser_n b)
lesser_comm M N = refl
lesser_comm M M = refl
lesser_comm M Y = refl
lesser_comm Y b = sym (lesser_y b)

pub lesser_assoc : (a b c : Tri) → lesser (lesser a b) c ≡ lesser a (lesser b c)
lesser_assoc N b c = refl
lesser_assoc M N c = refl
lesser_assoc M M N = refl
lesser_assoc M M M = refl
lesser_assoc M M Y = refl
lesser_assoc M Y c = refl
lesser_assoc Y b c = refl

pub greater_n : (a : Tri) → greater a N ≡ a
greater_n N = refl
greater_n M = refl
greater_n Y = refl

greater_y : (a : Tri) → greater a Y ≡ Y
greater_y N = refl
greater_y M = refl
greater_y Y = refl

pub greater_comm : (a b : Tri) → greater a b ≡ greater b a
greater_comm N b = sym (greater_n b)
greater_comm M N = refl
greater_comm M M = refl
greater_comm M Y = refl
greater_comm Y b = sym (greater_y b)

greater_assoc : (a b c : Tri) → greater (greater a b) c ≡ greater a (greater b c)
greater_assoc N b c = refl
greater_assoc M N c = refl
greater_assoc M M N = refl
greater_assoc M M M = refl
greater_assoc M M Y = refl
greater_assoc M Y c = refl
greater_assoc Y b c = refl

pub least-append : (xs ys : List Tri) → least (xs ++ ys) ≡ lesser (least xs) (least ys)
least-append [] ys = refl
least-append (x ∷ xs) ys = ap (lesser x) (least-append xs ys) ∙ sym (lesser_assoc x (least xs) (least ys))

pub greatest-append : (xs ys : List Tri) → greatest (xs ++ ys) ≡ greater (greatest xs) (greatest ys)
greatest-append [] ys = refl
greatest-append (x ∷ xs) ys = ap (greater x) (greatest-append xs ys) ∙ sym (greater_assoc x (greatest xs) (greatest ys))

-- one step of what is taken the greatest of
pub greater-step : (g h a b r : Tri) → b ≡ greater h a → greater g b ≡ r → greater (greater g h) a ≡ r
greater-step g h a b r e whole = greater_assoc g h a ∙ ap (greater g) (sym e) ∙ whole
