-- For proofs: What is printed for edits.
use Rattle.std.specs.{List.{enumerate_from, flat_map}, Prelude.{List, Some, slice_get, take, ℕ, ◌≡◌}}
use Rattle.kc_display.specs.{Difference.lines_at, Pages.Adds, declared.{edits.Edit.Edit, page.Page.Page}}

-- the lines of the first n edits were added
abbrev pub AddsAll : List Edit → ℕ → Page → Page → Type 0
AddsAll edits n old new = Adds (flat_map (λ (k, e). lines_at edits k e) (enumerate_from 0 (take n edits))) old new

-- the lines of this edit were added
abbrev pub AddsAt : List Edit → ℕ → Page → Page → Type 0
AddsAt edits k old new = (e : Edit) → slice_get edits k ≡ Some e → Adds (lines_at edits k e) old new
