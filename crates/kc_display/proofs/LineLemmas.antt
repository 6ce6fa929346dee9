-- Lines of a text, and edits that are added.
use Rattle.std.proofs.{Common.{Bool, List, None, Option, Some, [], ap, append-nil, append_assoc, arith, bytes_eq, drop, false, get_or, if◌then◌else◌, length, map, refl, subst, suc, sym, take, true, zero, ℕ, ◌++◌, ◌+◌, ◌-◌, ◌<◌, ◌==◌, ◌||◌, ◌∙◌, ◌∷◌, ◌≡◌, ◌≤◌}, Math.Seq.take-add, lemmas.{List.{Elements.filter-append, length-drop, map-append, take_more}, Slice.Eq.bytes_eq-Decides}}
use Rattle.std.specs.{List.{filter, last_or, list_any}, Prelude.{min, slice_index_or}}
use Rattle.kc_display.specs.{Difference.{is_ended, is_line_feed, is_new, is_old, lines, new_lines, old_lines, put_first}, Steps.{Adds, IsFirstLine, Takes}, declared.edits.{Edit.Edit, Mark.{Mark, TheVariants.{Added, Kept, Removed}}}}

-- the first line ends at the first line feed
cut_by : (x : ℕ) (xs : List ℕ) (i : ℕ) (b : Bool) → is_line_feed x ≡ b → (b || list_any is_line_feed (take i xs)) ≡ false
    → (list_any is_line_feed (take i xs) ≡ false → lines xs ≡ take (suc i) xs ∷ lines (drop (suc i) xs))
    → (if b then (x ∷ []) ∷ lines xs else put_first x (lines xs)) ≡ (x ∷ take (suc i) xs) ∷ lines (drop (suc i) xs)
cut_by x xs i true is none rest = absurd (let e : true ≡ false = none in cc)
cut_by x xs i false is none rest = ap (put_first x) (rest none)

pub cut-line : (xs : List ℕ) (i : ℕ) → i < length xs → list_any is_line_feed (take i xs) ≡ false → is_line_feed (slice_index_or xs i 0) ≡ true
    → lines xs ≡ take (suc i) xs ∷ lines (drop (suc i) xs)
cut-line [] i lt none at = absurd (omega arith)
cut-line (x ∷ xs) zero lt none at = ap (λ b. if b then (x ∷ []) ∷ lines xs else put_first x (lines xs)) at
cut-line (x ∷ xs) (suc i) lt none at = cut_by x xs i (is_line_feed x) refl none (λ rest. cut-line xs i (omega arith) rest at)

-- without a line feed all is one line
whole_by : (x : ℕ) (xs : List ℕ) (b : Bool) → is_line_feed x ≡ b → (b || list_any is_line_feed xs) ≡ false → (list_any is_line_feed xs ≡ false → put_first x (lines xs) ≡ (x ∷ xs) ∷ [])
    → (if b then (x ∷ []) ∷ lines xs else put_first x (lines xs)) ≡ (x ∷ xs) ∷ []
whole_by x xs true is none rest = absurd (let e : true ≡ false = none in cc)
whole_by x xs false is none rest = rest none

pub whole-line : (x : ℕ) (xs : List ℕ) → list_any is_line_feed (x ∷ xs) ≡ false → lines (x ∷ xs) ≡ (x ∷ xs) ∷ []
whole-line x [] none = whole_by x [] (is_line_feed x) refl none (λ rest. refl)
whole-line x (y ∷ ys) none = whole_by x (y ∷ ys) (is_line_feed x) refl none (λ rest. ap (put_first x) (whole-line y ys rest))

pub first-cut : (xs : List ℕ) (i : ℕ) → i < length xs → list_any is_line_feed (take i xs) ≡ false → is_line_feed (slice_index_or xs i 0) ≡ true
    → (line rest : List ℕ) → line ≡ take (i + 1) xs → rest ≡ drop (i + 1) xs → IsFirstLine xs line rest
first-cut xs i lt none at line rest line_is rest_is = record {
  lines_are = cut-line xs i lt none at ∙ ap (λ l. l ∷ lines (drop (suc i) xs)) (ap (λ n. take n xs) one ∙ sym line_is) ∙ ap (λ r. line ∷ lines r) (ap (λ n. drop n xs) one ∙ sym rest_is);
  shorter = subst (λ (r : List ℕ). length r < length xs) (sym rest_is) (let e : length (drop (i + 1) xs) ≡ length xs - (i + 1) = length-drop (i + 1) xs in omega (arith, e));
}
  where
    one : suc i ≡ i + 1
    one = omega arith

pub first-whole : (xs : List ℕ) → 0 < length xs → list_any is_line_feed xs ≡ false → (rest : List ℕ) → rest ≡ [] → IsFirstLine xs xs rest
first-whole [] lt none rest is = absurd (omega arith)
first-whole (x ∷ xs) lt none rest is = record {
  lines_are = whole-line x xs none ∙ ap (λ r. (x ∷ xs) ∷ lines r) (sym is);
  shorter = subst (λ (r : List ℕ). length r < suc (length xs)) (sym is) (omega arith);
}

-- ---- edits

old_more : (edits : List Edit) (e : Edit) → old_lines (edits ++ e ∷ []) ≡ old_lines edits ++ old_lines (e ∷ [])
old_more edits e = ap (map (λ x. x.line.now)) (filter-append (λ x. is_old x.mark) edits (e ∷ [])) ∙ map-append (λ x. x.line.now) (filter (λ x. is_old x.mark) edits) (filter (λ x. is_old x.mark) (e ∷ []))

new_more : (edits : List Edit) (e : Edit) → new_lines (edits ++ e ∷ []) ≡ new_lines edits ++ new_lines (e ∷ [])
new_more edits e = ap (map (λ x. x.line.now)) (filter-append (λ x. is_new x.mark) edits (e ∷ [])) ∙ map-append (λ x. x.line.now) (filter (λ x. is_new x.mark) edits) (filter (λ x. is_new x.mark) (e ∷ []))

one_more : (before : List (List ℕ)) (added : List (List ℕ)) (line : List ℕ) (all : List (List ℕ)) → all ≡ before ++ added → all ++ line ∷ [] ≡ before ++ (added ++ line ∷ [])
one_more before added line all is = ap (λ x. x ++ line ∷ []) is ∙ append_assoc before added (line ∷ [])

none_more : (before : List (List ℕ)) (all : List (List ℕ)) → all ≡ before ++ [] → all ++ [] ≡ before ++ []
none_more before all is = append-nil all ∙ is

pub adds-none : (mark : Mark) (edits : List Edit) → Adds mark [] edits edits
adds-none Kept edits = record { old_are = sym (append-nil _); new_are = sym (append-nil _) }
adds-none Removed edits = record { old_are = sym (append-nil _); new_are = sym (append-nil _) }
adds-none Added edits = record { old_are = sym (append-nil _); new_are = sym (append-nil _) }

old_of : (e : Edit) (m : Mark) → e.mark ≡ m → old_lines (e ∷ []) ≡ (if is_old m then e.line.now ∷ [] else [])
old_of e m is = by (is_old e.mark) refl ∙ ap (λ (k : Mark). if is_old k then e.line.now ∷ [] else []) is
  where
    by : (b : Bool) → is_old e.mark ≡ b → map (λ x. x.line.now) (if is_old e.mark then e ∷ [] else []) ≡ (if is_old e.mark then e.line.now ∷ [] else [])
    by true h = ap (λ c. map (λ x. x.line.now) (if c then e ∷ [] else [])) h ∙ sym (ap (λ c. if c then e.line.now ∷ [] else []) h)
    by false h = ap (λ c. map (λ x. x.line.now) (if c then e ∷ [] else [])) h ∙ sym (ap (λ c. if c then e.line.now ∷ [] else []) h)

new_of : (e : Edit) (m : Mark) → e.mark ≡ m → new_lines (e ∷ []) ≡ (if is_new m then e.line.now ∷ [] else [])
new_of e m is = by (is_new e.mark) refl ∙ ap (λ (k : Mark). if is_new k then e.line.now ∷ [] else []) is
  where
    by : (b : Bool) → is_new e.mark ≡ b → map (λ x. x.line.now) (if is_new e.mark then e ∷ [] else []) ≡ (if is_new e.mark then e.line.now ∷ [] else [])
    by true h = ap (λ c. map (λ x. x.line.now) (if c then e ∷ [] else [])) h ∙ sym (ap (λ c. if c then e.line.now ∷ [] else []) h)
    by false h = ap (λ c. map (λ x. x.line.now) (if c then e ∷ [] else [])) h ∙ sym (ap (λ c. if c then e.line.now ∷ [] else []) h)

old_one : (added : List (List ℕ)) (before edits : List Edit) (e : Edit) (m : Mark) → e.mark ≡ m → old_lines edits ≡ old_lines before ++ (if is_old m then added else [])
    → old_lines (edits ++ e ∷ []) ≡ old_lines before ++ (if is_old m then added ++ e.line.now ∷ [] else [])
old_one added before edits e m is so = old_more edits e ∙ ap (λ l. old_lines edits ++ l) (old_of e m is) ∙ by (is_old m) so
  where
    by : (b : Bool) → old_lines edits ≡ old_lines before ++ (if b then added else []) → old_lines edits ++ (if b then e.line.now ∷ [] else []) ≡ old_lines before ++ (if b then added ++ e.line.now ∷ [] else [])
    by true h = one_more (old_lines before) added e.line.now (old_lines edits) h
    by false h = none_more (old_lines before) (old_lines edits) h

new_one : (added : List (List ℕ)) (before edits : List Edit) (e : Edit) (m : Mark) → e.mark ≡ m → new_lines edits ≡ new_lines before ++ (if is_new m then added else [])
    → new_lines (edits ++ e ∷ []) ≡ new_lines before ++ (if is_new m then added ++ e.line.now ∷ [] else [])
new_one added before edits e m is so = new_more edits e ∙ ap (λ l. new_lines edits ++ l) (new_of e m is) ∙ by (is_new m) so
  where
    by : (b : Bool) → new_lines edits ≡ new_lines before ++ (if b then added else []) → new_lines edits ++ (if b then e.line.now ∷ [] else []) ≡ new_lines before ++ (if b then added ++ e.line.now ∷ [] else [])
    by true h = one_more (new_lines before) added e.line.now (new_lines edits) h
    by false h = none_more (new_lines before) (new_lines edits) h

pub adds-one : (added : List (List ℕ)) (before edits : List Edit) (e : Edit) (m : Mark) → e.mark ≡ m → Adds m added before edits → Adds m (added ++ e.line.now ∷ []) before (edits ++ e ∷ [])
adds-one added before edits e m is so = record {
  old_are = old_one added before edits e m is so.old_are;
  new_are = new_one added before edits e m is so.new_are;
}

-- kept lines, then removed ones, then added ones
two_takes : {X : Type 0} (f : X → List ℕ) (xs : List X) (k n : ℕ) → map f (take k xs) ++ map f (take n (drop k xs)) ≡ map f (take (k + n) xs)
two_takes f xs k n = sym (map-append f (take k xs) (take n (drop k xs))) ∙ ap (map f) (sym (take-add k n xs))

pub taken : {X : Type 0} (f : X → List ℕ) (old new : List X) (k r n : ℕ) (a b c d : List Edit)
    → map f (take k old) ≡ map f (take k new)
    → Adds Kept (map f (take k old)) a b → Adds Removed (map f (take r (drop k old))) b c → Adds Added (map f (take n (drop k new))) c d
    → Takes (map f (take (k + r) old)) (map f (take (k + n) new)) a d
taken f old new k r n a b c d same one two three = record {
  old_are = three.old_are ∙ append-nil (old_lines c) ∙ two.old_are ∙ ap (λ l. l ++ map f (take r (drop k old))) one.old_are
      ∙ append_assoc (old_lines a) (map f (take k old)) (map f (take r (drop k old))) ∙ ap (λ l. old_lines a ++ l) (two_takes f old k r);
  new_are = three.new_are ∙ ap (λ l. l ++ map f (take n (drop k new))) (two.new_are ∙ append-nil (new_lines b) ∙ one.new_are)
      ∙ append_assoc (new_lines a) (map f (take k old)) (map f (take n (drop k new)))
      ∙ ap (λ l. new_lines a ++ l) (ap (λ l. l ++ map f (take n (drop k new))) same ∙ two_takes f new k n);
}

pub taken-rests : {X : Type 0} (f : X → List ℕ) (old new old_rest new_rest : List X) (k r n : ℕ) (a b c d : List Edit) → old_rest ≡ drop k old → new_rest ≡ drop k new
    → map f (take k old) ≡ map f (take k new)
    → Adds Kept (map f (take k old)) a b → Adds Removed (map f (take r old_rest)) b c → Adds Added (map f (take n new_rest)) c d
    → Takes (map f (take (k + r) old)) (map f (take (k + n) new)) a d
taken-rests {X = X} f old new old_rest new_rest k r n a b c d old_is new_is same one two three =
    taken f old new k r n a b c d same one (subst (λ (l : List X). Adds Removed (map f (take r l)) b c) old_is two) (subst (λ (l : List X). Adds Added (map f (take n l)) c d) new_is three)

pub below-both : (i m a b : ℕ) → i < m → m ≡ min a b → (i < a) × (i < b)
below-both i m a b lt is = grind (arith, lt, is)

-- what was taken so far, and what was taken now
pub taken-on : {X : Type 0} (f : X → List ℕ) (xs : List X) (at n : ℕ) (before now : List (List ℕ)) → before ≡ map f (take at xs) → now ≡ before ++ map f (take n (drop at xs)) → now ≡ map f (take (at + n) xs)
taken-on f xs at n before now is more = more ∙ ap (λ l. l ++ map f (take n (drop at xs))) is ∙ two_takes f xs at n

pub taken-on-rest : {X : Type 0} (f : X → List ℕ) (xs rest : List X) (at n : ℕ) (before now : List (List ℕ)) → rest ≡ drop at xs → before ≡ map f (take at xs) → now ≡ before ++ map f (take n rest)
    → now ≡ map f (take (at + n) xs)
taken-on-rest {X = X} f xs rest at n before now rest_is is more = taken-on f xs at n before now is (more ∙ ap (λ (l : List X). before ++ map f (take n l)) rest_is)

pub within-rest : {X : Type 0} (xs rest : List X) (at n : ℕ) → rest ≡ drop at xs → n ≤ length rest → at ≤ length xs → at + n ≤ length xs
within-rest {X = X} xs rest at n rest_is le at_le = let e : length rest ≡ length xs - at = ap (λ (l : List X). length l) rest_is ∙ length-drop at xs in omega (arith, e, le, at_le)

-- one more line is the same
pub same-more : {X : Type 0} (f : X → List ℕ) (xs ys : List X) (i : ℕ) (x y : X) → i < length xs → i < length ys → map f (take i xs) ≡ map f (take i ys)
    → bytes_eq (f (get_or xs i x)) (f (get_or ys i y)) ≡ true → map f (take (i + 1) xs) ≡ map f (take (i + 1) ys)
same-more f xs ys i x y lx ly so eq =
    ap (map f) (take_more xs i x lx) ∙ map-append f (take i xs) (get_or xs i x ∷ [])
    ∙ ap (λ l. l ++ f (get_or xs i x) ∷ []) so ∙ ap (λ l. map f (take i ys) ++ l ∷ []) ((bytes_eq-Decides (f (get_or xs i x)) (f (get_or ys i y))).0 eq)
    ∙ sym (ap (map f) (take_more ys i y ly) ∙ map-append f (take i ys) (get_or ys i y ∷ []))

-- the last byte
ends : Option ℕ → Bool
ends o = elim o [ None ↦ false | Some b ↦ is_line_feed b ]

last_is : (o : Option ℕ) (b : ℕ) (rest : List ℕ) → last_or o (b ∷ rest) ≡ Some (slice_index_or (b ∷ rest) (length rest) 0)
last_is o b [] = refl
last_is o b (x ∷ rest) = last_is (Some b) x rest

pub ended-last : (line : List ℕ) → 1 ≤ length line → (slice_index_or line (length line - 1) 0 == 10) ≡ is_ended line
unfolding ends
ended-last [] some = absurd (omega (arith, some))
ended-last (b ∷ rest) some = ap ends (ap (λ (n : ℕ). Some (slice_index_or (b ∷ rest) n 0)) (omega arith) ∙ sym (last_is None b rest))
