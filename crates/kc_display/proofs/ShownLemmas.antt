-- Places of edits, and lines as they are shown.
use Rattle.std.proofs.{Common.{Bool, Err, IfOk, List, None, Ok, Result, Some, Vec, [], ap, append-nil, append_assoc, arith, codes, false, if◌then◌else◌, length, refl, subst, suc, sym, take, true, zero, ℕ, ◌++◌, ◌+◌, ◌-◌, ◌<◌, ◌==◌, ◌∙◌, ◌∷◌, ◌≡◌}, lemmas.{Grind.flat_map-append, List.take_all}}
use Rattle.std.specs.{Fmt.decimal, List.{enumerate_from, flat_map}, Prelude.slice_get, declared.alloc.{AllocError.AllocError, Global.Global}}
use Rattle.kc_display.specs.{Difference.{IsDifference, ShowsDifference, hunk_end, is_shown, lines_at, page_text, range_text, shown_lines}, Pages.{Adds, IsPage, IsTextOf}, Places.{AddsAll, AddsAt}, declared.{edits.Edit.Edit, page.Page.Page}}
use Rattle.kc_display.proofs.PageLemmas.{adds-on}

-- the end of a hunk, one place further
hunk-step : (edits : List Edit) (n m k : ℕ) → n ≡ suc m → hunk_end edits n k ≡ (if is_shown edits k then hunk_end edits m (k + 1) else k)
hunk-step edits n m k is = ap (λ x. hunk_end edits x k) is

pub hunk-on : (edits : List Edit) (len at : ℕ) (b : Bool) → at < len → b ≡ is_shown edits at → b ≡ true → hunk_end edits (len - at) at ≡ hunk_end edits (len - (at + 1)) (at + 1)
hunk-on edits len at b lt is near =
    hunk-step edits (len - at) (len - (at + 1)) at (omega arith) ∙ ap (λ c. if c then hunk_end edits (len - (at + 1)) (at + 1) else at) (sym is ∙ near)

pub hunk-off : (edits : List Edit) (len at : ℕ) (b : Bool) → at < len → b ≡ is_shown edits at → b ≡ false → hunk_end edits (len - at) at ≡ at
hunk-off edits len at b lt is far =
    hunk-step edits (len - at) (len - (at + 1)) at (omega arith) ∙ ap (λ c. if c then hunk_end edits (len - (at + 1)) (at + 1) else at) (sym is ∙ far)

-- one more place
enumerated-more : {X : Type 0} (xs : List X) (n k : ℕ) (x : X) → slice_get xs k ≡ Some x → enumerate_from n (take (suc k) xs) ≡ enumerate_from n (take k xs) ++ (n + k, x) ∷ []
enumerated-more [] n k x is = absurd (let e : None ≡ Some x = is in cc)
enumerated-more {X = X} (y ∷ ys) n zero x is =
    let e : y ≡ x = cc in
    let one : X → List (ℕ × X) = λ z. (n, z) ∷ [] in
    let other : ℕ → List (ℕ × X) = λ m. (m, x) ∷ [] in
    let same : n ≡ n + 0 = omega arith in
    ap one e ∙ ap other same
enumerated-more {X = X} (y ∷ ys) n (suc k) x is =
    let front : List (ℕ × X) → List (ℕ × X) = λ l. (n, y) ∷ l in
    let last : ℕ → List (ℕ × X) = λ m. enumerate_from (n + 1) (take k ys) ++ (m, x) ∷ [] in
    let same : (n + 1) + k ≡ n + suc k = omega arith in
    ap front (enumerated-more ys (n + 1) k x is ∙ ap last same)

slice_some : {X : Type 0} (xs : List X) (k : ℕ) → k < length xs → (x : X) × (slice_get xs k ≡ Some x)
slice_some [] k lt = absurd (omega arith)
slice_some (x ∷ xs) zero lt = (x, refl)
slice_some (x ∷ xs) (suc k) lt = slice_some xs k (omega arith)

pub places-more : (edits : List Edit) (k : ℕ) (one two three : Page) → k < length edits → AddsAll edits k one two → AddsAt edits k two three → AddsAll edits (k + 1) one three
places-more edits k one two three lt before at =
    let found = slice_some edits k lt in
    let place : ℕ × Edit → List (List ℕ) = λ p. lines_at edits p.0 p.1 in
    let next : k + 1 ≡ suc k = omega arith in
    let here : 0 + k ≡ k = omega arith in
    let at_here : ℕ → List (List ℕ) = λ m. lines_at edits m found.0 in
    subst (λ (l : List (List ℕ)). Adds l one three)
    (sym (ap (λ (m : ℕ). flat_map place (enumerate_from 0 (take m edits))) next ∙ ap (flat_map place) (enumerated-more edits 0 k found.0 found.1)
    ∙ flat_map-append place (enumerate_from 0 (take k edits)) ((0 + k, found.0) ∷ [])
    ∙ ap (λ l. flat_map place (enumerate_from 0 (take k edits)) ++ l) (append-nil (place (0 + k, found.0)) ∙ ap at_here here)))
    (adds-on (flat_map place (enumerate_from 0 (take k edits))) (lines_at edits k found.0) one two three before (at found.0 found.1))

-- all places
pub places-all : (edits : List Edit) (one two : Page) → AddsAll edits (length edits) one two → Adds (flat_map (λ (k, e). lines_at edits k e) (enumerate_from 0 edits)) one two
places-all edits one two all =
    subst (λ (l : List Edit). Adds (flat_map (λ (k, e). lines_at edits k e) (enumerate_from 0 l)) one two) (take_all (length edits) edits (omega arith)) all

-- the text of all lines
pub shows : (name bytes old new : List ℕ) (edits items : List Edit) (empty page : Page) (r : Result (Vec ℕ Global) AllocError) → bytes ≡ name → items ≡ edits → IsDifference old new edits
    → IsPage [] empty → Adds (shown_lines bytes items) empty page → IfOk r (IsTextOf page) → IfOk r (λ text. ShowsDifference name old new text.items)
shows name bytes old new edits items empty page (Ok text) names same is empty_is adds h =
    (edits, is, h (shown_lines bytes items) (adds [] empty_is) ∙ ap (λ n. page_text (shown_lines n items)) names ∙ ap (λ (l : List Edit). page_text (shown_lines name l)) same)
shows name bytes old new edits items empty page (Err e) names same is empty_is adds h = tt

-- the range of a hunk, written
pub ranged : (text : List ℕ) (first before count : ℕ) → text ≡ decimal first ++ (codes "," ++ decimal count) → first ≡ (if count == 0 then before else before + 1) → text ≡ range_text before count
ranged text first before count is same =
    is ∙ ap (λ n. decimal n ++ (codes "," ++ decimal count)) same ∙ sym (append_assoc (decimal (if count == 0 then before else before + 1)) (codes ",") (decimal count))
