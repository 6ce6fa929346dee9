-- The first code in a line.
use Rattle.std.proofs.{Common.{List, None, Option, Some, [], ap, append-nil, arith, codes, drop, false, get_or, if◌then◌else◌, length, map, suc, sym, take, true, ℕ, ◌++◌, ◌+◌, ◌<◌, ◌∙◌, ◌∷◌, ◌≡◌}, Math.Seq.drop-cons, lemmas.{Grind.flat_map-append, List.{map-append, take_more}}}
use Rattle.std.specs.List.{flat_map}
use Rattle.kc_display.specs.{Hints.{all_codes, begins_with, code_among, code_from, code_text, first_code}, declared.code.Code.Code}

-- the codes from a place on
among-at : (known : List Code) (text : List ℕ) (i : ℕ) (d : Code) → i < length known
    → code_among (drop i known) text ≡ (if begins_with text (code_text (get_or known i d)) then Some (get_or known i d) else code_among (drop (suc i) known) text)
among-at known text i d lt = ap (λ (l : List Code). code_among l text) (drop-cons known i d lt)

pub among-hit : (known : List Code) (text : List ℕ) (i : ℕ) (d : Code) → i < length known → code_among known text ≡ code_among (drop i known) text
    → begins_with text (code_text (get_or known i d)) ≡ true → Some (get_or known i d) ≡ code_among known text
among-hit known text i d lt so hit =
    sym (so ∙ among-at known text i d lt ∙ ap (λ b. if b then Some (get_or known i d) else code_among (drop (suc i) known) text) hit)

pub among-next : (known : List Code) (text : List ℕ) (i : ℕ) (d : Code) → i < length known → code_among known text ≡ code_among (drop i known) text
    → begins_with text (code_text (get_or known i d)) ≡ false → code_among known text ≡ code_among (drop (i + 1) known) text
among-next known text i d lt so miss =
    let next : suc i ≡ i + 1 = omega arith in
    so ∙ among-at known text i d lt ∙ ap (λ b. if b then Some (get_or known i d) else code_among (drop (suc i) known) text) miss
    ∙ ap (λ n. code_among (drop n known) text) next

-- the code at a place
after_code : List Code → ℕ → List ℕ → Option Code → Option (ℕ × Code)
after_code known place rest o = elim o [ Some code ↦ Some (place, code) | None ↦ code_from known (place + 1) rest ]

from_cons : (known : List Code) (place b : ℕ) (rest : List ℕ) (o : Option Code) → begins_with (b ∷ rest) (codes ":   ") ≡ false → code_among known (b ∷ rest) ≡ o
    → code_from known place (b ∷ rest) ≡ after_code known place rest o
unfolding after_code
from_cons known place b rest o other is =
    ap (λ t. if t then None else after_code known place rest (code_among known (b ∷ rest))) other ∙ ap (after_code known place rest) is

from_drop : (known : List Code) (line rest : List ℕ) (i : ℕ) (o : Option Code) → i < length line → rest ≡ drop i line → begins_with rest (codes ":   ") ≡ false → code_among known rest ≡ o
    → code_from known i (drop i line) ≡ after_code known i (drop (suc i) line) o
from_drop known line rest i o lt same other is =
    let cut = drop-cons line i 0 lt in
    let all = same ∙ cut in
    ap (code_from known i) cut
    ∙ from_cons known i (get_or line i 0) (drop (suc i) line) o (ap (λ t. begins_with t (codes ":   ")) (sym all) ∙ other) (ap (code_among known) (sym all) ∙ is)

pub from-hit : (known : List Code) (line rest : List ℕ) (i : ℕ) (code : Code) → i < length line → rest ≡ drop i line → begins_with rest (codes ":   ") ≡ false
    → Some code ≡ code_among known rest → code_from known 0 line ≡ code_from known i (drop i line) → code_from known 0 line ≡ Some (i, code)
unfolding after_code
from-hit known line rest i code lt same other is so = so ∙ from_drop known line rest i (Some code) lt same other (sym is)

pub from-next : (known : List Code) (line rest : List ℕ) (i : ℕ) → i < length line → rest ≡ drop i line → begins_with rest (codes ":   ") ≡ false
    → None ≡ code_among known rest → code_from known 0 line ≡ code_from known i (drop i line) → code_from known 0 line ≡ code_from known (i + 1) (drop (i + 1) line)
unfolding after_code
from-next known line rest i lt same other is so =
    let next : suc i ≡ i + 1 = omega arith in
    so ∙ from_drop known line rest i None lt same other (sym is) ∙ ap (λ n. code_from known (i + 1) (drop n line)) next

pub first-other : (line : List ℕ) (o : Option (ℕ × Code)) → begins_with line (codes " ") ≡ false → code_from all_codes 0 line ≡ o → o ≡ first_code line
first-other line o other is = sym (ap (λ b. if b then None else code_from all_codes 0 line) other ∙ is)

-- one more line of those that references point to
pub shown-next : {X : Type 0} (f : X → List ℕ) (g : List ℕ → List ℕ) (xs : List X) (i : ℕ) (d : X) (old new : List ℕ) → i < length xs
    → old ≡ flat_map g (map f (take i xs)) → new ≡ old ++ g (f (get_or xs i d)) → new ≡ flat_map g (map f (take (i + 1) xs))
shown-next f g xs i d old new lt before is =
    is ∙ ap (λ l. l ++ g (f (get_or xs i d))) before
    ∙ sym (ap (λ l. flat_map g (map f l)) (take_more xs i d lt) ∙ ap (flat_map g) (map-append f (take i xs) (get_or xs i d ∷ []))
    ∙ flat_map-append g (map f (take i xs)) (f (get_or xs i d) ∷ []) ∙ ap (λ l. flat_map g (map f (take i xs)) ++ l) (append-nil (g (f (get_or xs i d)))))
