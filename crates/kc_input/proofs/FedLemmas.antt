-- Where a reader stands after some bytes.
use Rattle.std.proofs.{Common.{Bool, List, [], ap, append-nil, append_assoc, arith, cond, count_by, drop, false, inl, inr, length, length-append, min, refl, subst, suc, sym, take, true, zero, ℕ, ◌++◌, ◌+◌, ◌-◌, ◌<◌, ◌∙◌, ◌∷◌, ◌≡◌, ◌≤◌}, lemmas.{Bool.{cases_Bool, eqb-false, eqb-true, not_from_false, not_from_true}, List.{Elements.{All-from_get_or, All-get_or}, Sums.{suffix_len-le-length, suffix_len_is, sum_by-append}, drop-append-le, drop_all, reverse-append, take_all}}}
use Rattle.std.specs.{List.{after_last, suffix_len}, Prelude.{not, ◌==◌}}
use Rattle.kc_text.specs.PartsOfText.{last_count, one_more}
use Rattle.kc_language.specs.{Lines.is_line_feed, Text.longest_input_line}
use Rattle.kc_input.specs.Feeding.{IsWithinLine, StreamPosition, fed, number_after}
use Rattle.kc_input.proofs.LineLemmas.{HasNoLf}

abbrev other : ℕ → Bool
other b = not (is_line_feed b)

suffix_push : (bytes : List ℕ) (b : ℕ) → suffix_len other (bytes ++ b ∷ []) ≡ cond (other b) (1 + suffix_len other bytes) 0
suffix_push bytes b = rw reverse-append refl

length_push : (bytes : List ℕ) (b : ℕ) → length (bytes ++ b ∷ []) ≡ length bytes + 1
length_push bytes b = length-append bytes (b ∷ [])

-- another byte waits behind the others
pub after_last-other : (bytes : List ℕ) (b : ℕ) → is_line_feed b ≡ false → after_last is_line_feed (bytes ++ b ∷ []) ≡ after_last is_line_feed bytes ++ b ∷ []
after_last-other bytes b is =
    let s : suffix_len other (bytes ++ b ∷ []) ≡ 1 + suffix_len other bytes = suffix_push bytes b ∙ rw (not_from_false _ is) refl in
    let le : suffix_len other bytes ≤ length bytes = suffix_len-le-length other bytes in
    let k : length (bytes ++ b ∷ []) - (1 + suffix_len other bytes) ≡ length bytes - suffix_len other bytes = omega (arith, length_push bytes b) in
    let within : length bytes - suffix_len other bytes ≤ length bytes = omega arith in
    rw (s, k) (drop-append-le (length bytes - suffix_len other bytes) bytes (b ∷ []) within)

-- nothing waits behind an LF
pub after_last-lf : (bytes : List ℕ) (b : ℕ) → is_line_feed b ≡ true → after_last is_line_feed (bytes ++ b ∷ []) ≡ []
after_last-lf bytes b is =
    let s : suffix_len other (bytes ++ b ∷ []) ≡ 0 = suffix_push bytes b ∙ rw (not_from_true _ is) refl in
    rw s (drop_all (length (bytes ++ b ∷ []) - 0) (bytes ++ b ∷ []) (omega arith))

-- without an LF all wait
pub after_last-none : (bytes : List ℕ) → HasNoLf bytes → after_last is_line_feed bytes ≡ bytes
after_last-none bytes one =
    let s : suffix_len other bytes ≡ length bytes - 0 =
    suffix_len_is other bytes 0 0 (omega arith) (λ k low lt. not_from_false _ (All-get_or (λ b. is_line_feed b ≡ false) bytes k 0 lt one)) (λ (h : 0 < 0). absurd (omega arith)) in
    let k : length bytes - (length bytes - 0) ≡ 0 = omega arith in
    rw (s, k) refl

number-other : (n b : ℕ) → n ≤ last_count → is_line_feed b ≡ false → number_after n (b ∷ []) ≡ n
number-other n b small is =
    let e : n + 0 ≡ n = omega arith in
    let m : min n last_count ≡ n = omega arith in
    rw (is, e, m) refl

number-append : (n : ℕ) (a b : List ℕ) → number_after n (a ++ b) ≡ number_after (number_after n a) b
number-append n a b =
    let c : count_by is_line_feed (a ++ b) ≡ count_by is_line_feed a + count_by is_line_feed b = sum_by-append (λ x. cond (is_line_feed x) 1 0) a b in
    rw c (omega arith)

pub fed-other : (b : ℕ) (old : StreamPosition) → IsWithinLine old → is_line_feed b ≡ false → let new : StreamPosition =
    record { number = old.number; pending = old.pending ++ b ∷ [] } in new ≡ fed (b ∷ []) old
fed-other b old opened is =
    rw (number-other old.number b opened.numbered is, after_last-other old.pending b is, after_last-none old.pending opened.one_line) refl

-- bytes without an LF wait behind what waits
after_last-others : (bytes more : List ℕ) → HasNoLf more → after_last is_line_feed (bytes ++ more) ≡ after_last is_line_feed bytes ++ more
after_last-others bytes [] one = ap (after_last is_line_feed) (append-nil bytes) ∙ sym (append-nil (after_last is_line_feed bytes))
after_last-others bytes (b ∷ more) one =
    let is : is_line_feed b ≡ false = All-get_or (λ x. is_line_feed x ≡ false) (b ∷ more) 0 b (omega arith) one in
    let rest : HasNoLf more = All-from_get_or (λ x. is_line_feed x ≡ false) more b (λ i lt. All-get_or (λ x. is_line_feed x ≡ false) (b ∷ more) (suc i) b (omega arith) one) in
    let e = after_last-others (bytes ++ b ∷ []) more rest in
    let f = after_last-other bytes b is in
    ap (after_last is_line_feed) (sym (append_assoc bytes (b ∷ []) more)) ∙ e ∙ ap (λ t. t ++ more) f ∙ append_assoc (after_last is_line_feed bytes) (b ∷ []) more

count-others : (more : List ℕ) → HasNoLf more → count_by is_line_feed more ≡ 0
count-others [] one = refl
count-others (b ∷ more) one =
    let is : is_line_feed b ≡ false = All-get_or (λ x. is_line_feed x ≡ false) (b ∷ more) 0 b (omega arith) one in
    let rest : HasNoLf more = All-from_get_or (λ x. is_line_feed x ≡ false) more b (λ i lt. All-get_or (λ x. is_line_feed x ≡ false) (b ∷ more) (suc i) b (omega arith) one) in
    rw is (count-others more rest)

-- several bytes that are no LF wait for the end of their line
pub fed-others : (a more : List ℕ) (old mid : StreamPosition) → IsWithinLine mid → HasNoLf more → mid ≡ fed a old →
    let new : StreamPosition = record { number = mid.number; pending = mid.pending ++ more } in new ≡ fed (a ++ more) old
fed-others a more old mid opened one is =
    let n : mid.number ≡ number_after old.number (a ++ more) =
    ap (λ (s : StreamPosition). s.number) is ∙ let c : count_by is_line_feed (a ++ more) ≡ count_by is_line_feed a + count_by is_line_feed more =
    sum_by-append (λ x. cond (is_line_feed x) 1 0) a more in
    let z = count-others more one in
    let same : count_by is_line_feed (a ++ more) ≡ count_by is_line_feed a = omega arith in
    rw same refl in
    let p : mid.pending ++ more ≡ after_last is_line_feed (old.pending ++ (a ++ more)) =
    ap (λ (s : StreamPosition). s.pending ++ more) is ∙ sym (after_last-others (old.pending ++ a) more one) ∙ ap (after_last is_line_feed) (append_assoc old.pending a more) in
    rw (n, p) refl

-- the first bytes are the first of them, and the first that follow
pub take_on : (at n : ℕ) (bytes : List ℕ) → take (at + n) bytes ≡ take at bytes ++ take n (drop at bytes)
take_on zero n bytes = let e : 0 + n ≡ n = omega arith in rw e refl
take_on (suc at) n [] = let e : suc at + n ≡ suc (at + n) = omega arith in rw e (sym (take_all n [] (omega arith)))
take_on (suc at) n (b ∷ bytes) = let e : suc at + n ≡ suc (at + n) = omega arith in rw e (ap (λ l. b ∷ l) (take_on at n bytes))

-- nothing was fed
pub fed-nothing : (old : StreamPosition) → IsWithinLine old → old ≡ fed [] old
fed-nothing old opened =
    let n : min (old.number + 0) last_count ≡ old.number = let small = opened.numbered in omega arith in
    rw (n, append-nil, after_last-none old.pending opened.one_line) refl

-- one byte more
pub fed-append : (a : List ℕ) (b : ℕ) (old mid : StreamPosition) → IsWithinLine mid → mid ≡ fed a old → fed (b ∷ []) mid ≡ fed (a ++ b ∷ []) old
fed-append a b old mid opened is = elim (cases_Bool (is_line_feed b)) [
  | inl e ↦
      let p : after_last is_line_feed (mid.pending ++ b ∷ []) ≡ after_last is_line_feed (old.pending ++ (a ++ b ∷ [])) =
      after_last-lf mid.pending b e ∙ sym (rw (← append_assoc) (after_last-lf (old.pending ++ a) b e)) in
      both p
  | inr e ↦
      let p : after_last is_line_feed (mid.pending ++ b ∷ []) ≡ after_last is_line_feed (old.pending ++ (a ++ b ∷ [])) =
      after_last-other mid.pending b e ∙ ap (λ t. t ++ b ∷ []) (after_last-none mid.pending opened.one_line ∙ ap (λ (s : StreamPosition). s.pending) is)
      ∙ sym (rw (← append_assoc) (after_last-other (old.pending ++ a) b e)) in
      both p
]
  where
    n : number_after mid.number (b ∷ []) ≡ number_after old.number (a ++ b ∷ [])
    n = ap (λ (s : StreamPosition). number_after s.number (b ∷ [])) is ∙ sym (number-append old.number a (b ∷ []))

    both : after_last is_line_feed (mid.pending ++ b ∷ []) ≡ after_last is_line_feed (old.pending ++ (a ++ b ∷ [])) → fed (b ∷ []) mid ≡ fed (a ++ b ∷ []) old
    both p = rw (n, p) refl

-- an LF ends the line
fed-lf : (b : ℕ) (old : StreamPosition) → is_line_feed b ≡ true → fed (b ∷ []) old ≡ record { number = one_more old.number; pending = [] }
fed-lf b old ends = rw (after_last-lf old.pending b ends, ends) refl

-- a whole line, of which nothing was pending
pub fed-line : (a front : List ℕ) (b : ℕ) (old mid new : StreamPosition) → IsWithinLine mid → mid.pending ≡ [] → HasNoLf front → length front ≤ longest_input_line →
    is_line_feed b ≡ true → new ≡ record { number = one_more mid.number; pending = [] } → mid ≡ fed a old → new ≡ fed (a ++ (front ++ b ∷ [])) old
fed-line a front b old mid new opened empty one within ends next is =
    let waits : StreamPosition = record { number = mid.number; pending = mid.pending ++ front } in
    let all : mid.pending ++ front ≡ front = ap (λ p. p ++ front) empty in
    let still : IsWithinLine waits =
    record { numbered = opened.numbered; within = subst (λ p. length p ≤ longest_input_line) (sym all) within; one_line = subst HasNoLf (sym all) one }
    in
    next ∙ sym (fed-lf b waits ends) ∙ fed-append (a ++ front) b old waits still (fed-others a front old mid opened one is) ∙ ap (λ bytes. fed bytes old) (append_assoc a front (b ∷ []))

-- the place of the next line, where nothing is pending
pub line_next : (n m : ℕ) (bytes : List ℕ) → m ≡ one_more n → bytes ≡ [] → let next : StreamPosition = record { number = m; pending = bytes } in
    next ≡ record { number = one_more n; pending = [] }
line_next n m bytes number nothing = rw (number, nothing) refl

no_length : (bytes : List ℕ) → length bytes ≡ 0 → bytes ≡ []
no_length [] none = refl
no_length (b ∷ bytes) none = absurd (omega arith)

pub no_bytes : (bytes : List ℕ) (n : ℕ) → length bytes ≡ n → true ≡ (n == 0) → bytes ≡ []
no_bytes bytes n count none = no_length bytes (count ∙ eqb-true n 0 (sym none))

pub some_bytes : (bytes : List ℕ) (n : ℕ) → length bytes ≡ n → false ≡ (n == 0) → 0 < length bytes
some_bytes bytes n count some =
    let e = eqb-false n 0 (sym some) in
    omega arith
