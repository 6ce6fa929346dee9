-- The lines of entries, one line more.
use Rattle.std.proofs.{Common.{Bool, List, None, Some, [], ap, append-nil, append_assoc, arith, drop, false, if◌then◌else◌, length, length-append, refl, slice_get, subst, suc, sym, take, true, zero, ℕ, ◌++◌, ◌-◌, ◌∙◌, ◌∷◌, ◌≡◌, ◌≤◌}, lemmas.List.map-append}
use Rattle.kc_entries.specs.{Entries.{attribute_line, first_line, lines_of, own_lines, own_of}, EntryStarts.{AreInOrder, start_of}, declared.entries.{AttributeLine.AttributeLine, Entry.Entry}}
use Rattle.kc_language.specs.Expansion.{last_of}

start-push : (es : List Entry) (e : Entry) (n : ℕ) → e.start ≡ n → start_of (es ++ e ∷ []) n ≡ start_of es n
start-push [] e n at = at
start-push (x ∷ xs) e n at = refl

order-push : (es : List Entry) (e : Entry) (n : ℕ) → e.start ≡ n → AreInOrder es n → AreInOrder (es ++ e ∷ []) n
order-push [] e n at o = (omega (arith, at), tt)
order-push (x ∷ xs) e n at o = (subst (λ k. x.start ≤ k) (sym (start-push xs e n at)) o.0, order-push xs e n at o.1)

-- an entry that begins behind all attributes has none
none-own : (e : Entry) (ls : List AttributeLine) → e.start ≡ length ls → own_of e (length ls) ls ≡ []
none-own e ls at = let zero_is : length ls - e.start ≡ 0 = omega (arith, at) in ap (λ n. take n (drop e.start ls)) zero_is

pub lines-push : (es : List Entry) (e : Entry) (ls : List AttributeLine) → e.start ≡ length ls → lines_of (es ++ e ∷ []) ls ≡ lines_of es ls ++ first_line e ∷ []
lines-push [] e ls at = ap (λ l. first_line e ∷ own_lines e l ++ []) (none-own e ls at)
lines-push (x ∷ xs) e ls at =
    (λ i. first_line x ∷ own_lines x (own_of x (start-push xs e (length ls) at i) ls) ++ lines-push xs e ls at i)
    ∙ ap (λ l. first_line x ∷ l) (sym (append_assoc (own_lines x (own_of x (start_of xs (length ls)) ls)) (lines_of xs ls) (first_line e ∷ [])))

-- One attribute more.
start-grows : (es : List Entry) (n : ℕ) → start_of es n ≤ start_of es (suc n)
start-grows [] n = omega arith
start-grows (x ∷ xs) n = omega arith

order-grows : (es : List Entry) (n : ℕ) → AreInOrder es n → AreInOrder es (suc n)
order-grows [] n o = tt
order-grows (x ∷ xs) n o = (let g = start-grows xs n in let h = o.0 in omega arith, order-grows xs n o.1)

order-add : (es : List Entry) (ls : List AttributeLine) (a : AttributeLine) → AreInOrder es (length ls) → AreInOrder es (length (ls ++ a ∷ []))
order-add es ls a o = subst (AreInOrder es) (let many = length-append ls (a ∷ []) in omega arith) (order-grows es (length ls) o)

start-within : (es : List Entry) (n : ℕ) → AreInOrder es n → start_of es n ≤ n
start-within [] n o = omega arith
start-within (x ∷ xs) n o = let w = start-within xs n o.1 in let h = o.0 in omega arith

drop-add : {X : Type 0} (xs : List X) (x : X) (k : ℕ) → k ≤ length xs → drop k (xs ++ x ∷ []) ≡ drop k xs ++ x ∷ []
drop-add xs x zero le = refl
drop-add [] x (suc k) le = absurd (omega arith)
drop-add (y ∷ ys) x (suc k) le = drop-add ys x k (omega arith)

take-add : {X : Type 0} (xs : List X) (x : X) (k : ℕ) → k ≤ length xs → take k (xs ++ x ∷ []) ≡ take k xs
take-add xs x zero le = refl
take-add [] x (suc k) le = absurd (omega arith)
take-add (y ∷ ys) x (suc k) le = ap (λ l. y ∷ l) (take-add ys x k (omega arith))

pub take-whole : {X : Type 0} (xs : List X) (k : ℕ) → length xs ≤ k → take k xs ≡ xs
take-whole [] zero le = refl
take-whole [] (suc k) le = refl
take-whole (x ∷ xs) zero le = absurd (omega arith)
take-whole (x ∷ xs) (suc k) le = ap (λ l. x ∷ l) (take-whole xs k (omega arith))

left : {X : Type 0} (xs : List X) (k : ℕ) → length (drop k xs) ≡ length xs - k
left xs zero = omega arith
left [] (suc k) = omega arith
left (x ∷ xs) (suc k) = let h = left xs k in omega arith

same-own : (e : Entry) (ls : List AttributeLine) (a : AttributeLine) (end : ℕ) → e.start ≤ end → end ≤ length ls → own_of e end (ls ++ a ∷ []) ≡ own_of e end ls
same-own e ls a end up within =
    ap (take (end - e.start)) (drop-add ls a e.start (omega arith))
    ∙ take-add (drop e.start ls) a (end - e.start) (let many = left ls e.start in omega arith)

more-own : (e : Entry) (ls : List AttributeLine) (a : AttributeLine) → e.start ≤ length ls →
    own_of e (length (ls ++ a ∷ [])) (ls ++ a ∷ []) ≡ own_of e (length ls) ls ++ a ∷ []
more-own e ls a up =
    let many = left ls e.start in
    let more = length-append (drop e.start ls) (a ∷ []) in
    let all = length-append ls (a ∷ []) in
    ap (take (length (ls ++ a ∷ []) - e.start)) (drop-add ls a e.start up)
    ∙ take-whole (drop e.start ls ++ a ∷ []) (length (ls ++ a ∷ []) - e.start) (omega arith)
    ∙ ap (λ l. l ++ a ∷ []) (sym (take-whole (drop e.start ls) (length ls - e.start) (omega arith)))

pub lines-add : (es : List Entry) (e : Entry) (ls : List AttributeLine) (a : AttributeLine) → AreInOrder es (length ls) → last_of es ≡ Some e →
    lines_of es (ls ++ a ∷ []) ≡ lines_of es ls ++ attribute_line e.file.value.items a.line a.attribute ∷ []
lines-add [] e ls a o last = absurd cc
lines-add (x ∷ []) e ls a o last =
    let is : x ≡ e = cc in
    let added : own_lines x (own_of x (length (ls ++ a ∷ [])) (ls ++ a ∷ [])) ≡ own_lines x (own_of x (length ls) ls) ++ attribute_line x.file.value.items a.line a.attribute ∷ [] =
    ap (own_lines x) (more-own x ls a o.0) ∙ map-append _ (own_of x (length ls) ls) (a ∷ []) in
    ap (λ l. first_line x ∷ l)
    (append-nil _ ∙ added ∙ ap (λ y. own_lines x (own_of x (length ls) ls) ++ attribute_line y.file.value.items a.line a.attribute ∷ []) is
    ∙ ap (λ l. l ++ attribute_line e.file.value.items a.line a.attribute ∷ []) (sym (append-nil (own_lines x (own_of x (length ls) ls)))))
lines-add (x ∷ y ∷ zs) e ls a o last =
    let within = start-within (y ∷ zs) (length ls) o.1 in
    (λ i. first_line x ∷ own_lines x (same-own x ls a y.start o.0 within i) ++ lines-add (y ∷ zs) e ls a o.1 last i)
    ∙ ap (λ l. first_line x ∷ l) (sym (append_assoc (own_lines x (own_of x y.start ls)) (lines_of (y ∷ zs) ls) (attribute_line e.file.value.items a.line a.attribute ∷ [])))

-- where what was pushed is there, and where it is not
pub order-push_if : (b : Bool) (es : List Entry) (e : Entry) (n : ℕ) → e.start ≡ n → AreInOrder es n → AreInOrder (if b then es ++ e ∷ [] else es) n
order-push_if true es e n at o = order-push es e n at o
order-push_if false es e n at o = o

pub order-add_if : (b : Bool) (es : List Entry) (ls : List AttributeLine) (a : AttributeLine) → AreInOrder es (length ls) →
    AreInOrder es (length (if b then ls ++ a ∷ [] else ls))
order-add_if true es ls a o = order-add es ls a o
order-add_if false es ls a o = o

-- The entry with a number.
pub order-from : (i : ℕ) (es : List Entry) (n : ℕ) → AreInOrder es n → AreInOrder (drop i es) n
order-from zero es n o = o
order-from (suc i) [] n o = tt
order-from (suc i) (e ∷ es) n o = order-from i es n o.1

pub front-is : (i : ℕ) (es : List Entry) (e : Entry) → slice_get es i ≡ Some e → drop i es ≡ e ∷ drop (suc i) es
front-is i [] e at = absurd cc
front-is zero (x ∷ xs) e at = let is : x ≡ e = cc in ap (λ y. y ∷ xs) is
front-is (suc i) (x ∷ xs) e at = front-is i xs e at

drop-none : (i : ℕ) → drop {A = Entry} i [] ≡ []
drop-none zero = refl
drop-none (suc i) = refl

pub none-left : (i : ℕ) (es : List Entry) → slice_get es i ≡ None → drop i es ≡ []
none-left i [] at = drop-none i
none-left zero (x ∷ xs) at = absurd cc
none-left (suc i) (x ∷ xs) at = none-left i xs at

pub starts-before : (i : ℕ) (es : List Entry) (e : Entry) (n : ℕ) → AreInOrder es n → slice_get es i ≡ Some e → e.start ≤ start_of (drop (suc i) es) n
starts-before i es e n o at = (subst (λ l. AreInOrder l n) (front-is i es e at) (order-from i es n o)).0

pub starts-within : (i : ℕ) (es : List Entry) (n : ℕ) → AreInOrder es n → start_of (drop i es) n ≤ n
starts-within i es n o = start-within (drop i es) n (order-from i es n o)
