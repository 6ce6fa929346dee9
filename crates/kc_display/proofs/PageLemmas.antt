-- Pages that are filled line by line.
use Rattle.std.proofs.{Common.{List, Vec, [], ap, append-nil, append_assoc, arith, codes, false, length, length-append, subst, sym, ℕ, ◌++◌, ◌+◌, ◌-◌, ◌<◌, ◌^◌, ◌∙◌, ◌∷◌, ◌≡◌, ◌≤◌}, lemmas.{Grind.flat_map-append, List.{take-append-le, take_all}}}
use Rattle.std.specs.{Prelude.{min, nat_le}, declared.alloc.Global.Global}
use Rattle.kc_display.specs.{Difference.{lines_text, most_lines}, Pages.{Adds, IsPage}, declared.page.Page.Page}

min_more : (n m : ℕ) → min (min n m + 1) m ≡ min (n + 1) m
min_more n m = grind arith

long_by : (n count : ℕ) → count ≡ min n (2 ^ 64 - 1) → 50 ≤ count → 50 ≤ n
long_by n count is le = grind (arith, is, le)

short_by : (n count : ℕ) → count ≡ min n (2 ^ 64 - 1) → count < 50 → (n < 50) × (min n (2 ^ 64 - 1) + 1 ≡ min (n + 1) (2 ^ 64 - 1))
short_by n count is lt = grind (arith, is, lt)

one_longer : (lines : List (List ℕ)) (line : List ℕ) → length (lines ++ line ∷ []) ≡ length lines + 1
one_longer lines line = length-append lines (line ∷ [])

-- a line that is not shown
pub skip-page : (page : Page) (line : List ℕ) (lines : List (List ℕ)) (count : ℕ) → most_lines ≤ page.count → count ≡ min (page.count + 1) (2 ^ 64 - 1)
    → IsPage lines page → IsPage (lines ++ line ∷ []) (record { text = page.text; count = count })
skip-page page line lines count full next is = record {
  text = is.text ∙ sym (ap lines_text (take-append-le most_lines lines (line ∷ []) (long_by (length lines) page.count is.count full)));
  count = next ∙ ap (λ n. min (n + 1) (2 ^ 64 - 1)) is.count ∙ min_more (length lines) (2 ^ 64 - 1) ∙ sym (ap (λ n. min n (2 ^ 64 - 1)) (one_longer lines line));
}

-- a line that is shown
pub add-page : (page : Page) (line : List ℕ) (lines : List (List ℕ)) (text : Vec ℕ Global) → page.count < 50 → text.items ≡ page.text.items ++ (line ++ 10 ∷ [])
    → IsPage lines page → IsPage (lines ++ line ∷ []) (record { text = text; count = page.count + 1 })
add-page page line lines text room more is =
    let short = short_by (length lines) page.count is.count room in record {
      text = more ∙ ap (λ t. t ++ (line ++ 10 ∷ [])) (is.text ∙ ap lines_text (take_all most_lines lines (omega (arith, short.0))))
          ∙ ap (λ t. lines_text lines ++ t) (sym (append-nil (line ++ 10 ∷ []))) ∙ sym (flat_map-append (λ l. l ++ codes "\n") lines (line ∷ []))
          ∙ sym (ap lines_text (take_all most_lines (lines ++ line ∷ []) (let e = one_longer lines line in omega (arith, e, short.0))));
      count = ap (λ n. n + 1) is.count ∙ short.1 ∙ sym (ap (λ n. min n (2 ^ 64 - 1)) (one_longer lines line));
    }

pub page-empty : (b : ℕ) → nat_le 50 b ≡ false → b < 50
page-empty b h = grind (arith, h)

-- lines and more lines
pub adds-on : (a b : List (List ℕ)) (one two three : Page) → Adds a one two → Adds b two three → Adds (a ++ b) one three
adds-on a b one two three first next = λ lines is. subst (λ (l : List (List ℕ)). IsPage l three) (append_assoc lines a b) (next (lines ++ a) (first lines is))

pub adds-nothing : (one : Page) → Adds [] one one
adds-nothing one = λ lines is. subst (λ (l : List (List ℕ)). IsPage l one) (sym (append-nil lines)) is
