-- For proofs: A page of lines while it is filled.
use Rattle.std.specs.{Prelude.{List, Vec, length, min, take, ℕ, ◌++◌, ◌-◌, ◌^◌, ◌≡◌}, declared.alloc.Global.Global}
use Rattle.kc_display.specs.{Difference.{lines_text, most_lines, page_text}, declared.page.Page.Page}

-- the page has the first of these lines, and counts all of them
pub record IsPage (lines : List (List ℕ)) (page : Page) : Type 0 where
  pub text : page.text.items ≡ lines_text (take most_lines lines)
  pub count : page.count ≡ min (length lines) (2 ^ 64 - 1)

-- these lines were added
abbrev pub Adds : List (List ℕ) → Page → Page → Type 0
Adds more old new = (lines : List (List ℕ)) → IsPage lines old → IsPage (lines ++ more) new

-- the text of a page
abbrev pub IsTextOf : Page → Vec ℕ Global → Type 0
IsTextOf page text = (lines : List (List ℕ)) → IsPage lines page → text.items ≡ page_text lines
