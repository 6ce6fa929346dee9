-- Each line is cut, or refused.
use Rattle.std.proofs.{Common.{Bool, List, None, Option, Some, [], ap, arith, cond, drop, false, get_or, inl, inr, length, length-drop, refl, suc, sym, take, true, zero, ℕ, ◌+◌, ◌-◌, ◌<◌, ◌∙◌, ◌∷◌, ◌≡◌, ◌≢◌, ◌≤◌, ◌⊎◌}, lemmas.{Bool.{both_ways, cases_Bool, cases_eq, cases_lt}, List.{Elements.All-cons, length-take-le, take_all}, Slice.Eq.bytes_eq-Decides}}
use Rattle.std.specs.{Prelude.{All, IsTrue}, Str.bytes_eq}
use Rattle.kc_language.specs.{Tokens.{AQuoted, AWord, AnOp, CannotBeCut, IsCut, IsCutIn, IsLongest, IsQuotedBody, Lexeme, ended, holds_dollar, is_blank, is_word_byte, op_text, skipped, stuck, taken}, declared.tokens.{Op.Op, TextFault.TextFault}}
use Rattle.kc_language.specs.declared.tokens.TextFault.TheVariants as faults
use Rattle.kc_language.specs.declared.tokens.Op.TheVariants as ops
use Rattle.kc_text.specs.{LexerParts.{HasNoEnd, HasNoOp, IsLongestOp, IsQuoteFault}, PartsOfTokens.{HasNoToken, IsEnd, IsQuote, IsReason, are_refused}, Tokens.OneCutting}
use Rattle.kc_text.proofs.{Once.{op_back, op_of, same_cutting_in}, Quoted.{IsScanned, no_end, no_end_taken, scanned_none, scanned_plain, scanned_taken}, Spelled.{apart, no_macro_here, no_token, op_length, op_token, quoted_fault, quoted_token, spelled_nonempty, word_token_more}}

-- ---- a word

-- the bytes of a word at the front
record WordFront (body : List ℕ) : Type 0 where
  pub count : ℕ
  pub fits : count ≤ length body
  pub word : All (λ b. IsTrue (is_word_byte b)) (take count body)
  pub stops : count < length body → is_word_byte (get_or body count 0) ≡ false

word_front : (body : List ℕ) → WordFront body
word_front [] = record { count = 0; fits = omega arith; word = λ k d h. absurd (omega arith); stops = λ lt. absurd (omega arith) }
word_front (b ∷ body) = by (is_word_byte b) refl (word_front body)
  where
    by : (w : Bool) → is_word_byte b ≡ w → WordFront body → WordFront (b ∷ body)
    by true e r = record {
      count = suc r.count;
      fits = let f = r.fits in omega arith;
      word = All-cons (λ c. IsTrue (is_word_byte c)) b (take r.count body) e r.word;
      stops = λ lt. r.stops (omega arith);
    }
    by false e r = record { count = 0; fits = omega arith; word = λ k d h. absurd (omega arith); stops = λ lt. e }

-- ---- a quoted text

-- where the quoted text ends
record Quoted (q : ℕ) (body : List ℕ) : Type 0 where
  pub count : ℕ
  pub within : count < length body
  pub ends : get_or body count 0 ≡ q
  pub inside : IsQuotedBody q (take count body)

abbrev QuotedOrNot : ℕ → List ℕ → Type 0
QuotedOrNot q body = Quoted q body ⊎ ((f : TextFault) × IsQuoteFault q body f)

module _ (q : ℕ) (body : List ℕ) (iq : IsQuote q) where
  open_quote : HasNoEnd q body → QuotedOrNot q body
  open_quote none = elim (cases_Bool (holds_dollar body)) [ inl e ↦ inr (faults.Macro, (none, e)) | inr e ↦ inr (faults.BadToken, (none, e)) ]

  at_end : (n : ℕ) → length body ≤ n → IsScanned q body n → QuotedOrNot q body
  at_end n le s =
      let r = s.in_range in
      let same : n ≡ length body = omega arith in
      let whole : IsScanned q body (length body) = rw same at s in
      open_quote (no_end q body iq whole)

  scan_from : (fuel n : ℕ) → length body - n ≤ fuel → IsScanned q body n → QuotedOrNot q body
  scan_from zero n few s = at_end n (omega arith) s
  scan_from (suc fuel) n few s = elim (cases_lt n (length body)) [
    | inr le ↦ at_end n le s
    | inl lt ↦ elim (cases_eq (get_or body n 0) q) [
      | inl e ↦ inl (record { count = n; within = lt; ends = e; inside = s.inside })
      | inr nq ↦ elim (cases_eq (get_or body n 0) 92) [
        | inr nb ↦ scan_from fuel (n + 1) (omega arith) (scanned_plain q body n s lt nq nb)
        | inl b ↦ elim (cases_lt (n + 1) (length body)) [
          | inr le ↦
              let last : n + 1 ≡ length body = omega arith in
              open_quote (no_end_taken q body n iq s last b)
          | inl lt2 ↦ scan_from fuel (n + 2) (omega arith) (scanned_taken q body n s lt2 b)
        ]
      ]
    ]
  ]

  quoted_or_not : QuotedOrNot q body
  quoted_or_not = scan_from (length body) 0 (omega arith) (scanned_none q body)

-- ---- a sign

-- the sign that is spelled so, or there is none: it can only be that of the first two bytes
find_op : (text : List ℕ) → ((o : Op) × (op_text o ≡ text)) ⊎ ((o : Op) → op_text o ≢ text)
find_op text = by (bytes_eq (op_text candidate) text) refl
  where
    candidate : Op
    candidate = op_of (get_or text 0 0) (get_or text 1 0)

    other : op_text candidate ≢ text → (o : Op) → op_text o ≢ text
    other ne o e = ne (ap op_text (ap (λ (t : List ℕ). op_of (get_or t 0 0) (get_or t 1 0)) (sym e) ∙ op_back o) ∙ e)

    by : (b : Bool) → bytes_eq (op_text candidate) text ≡ b → ((o : Op) × (op_text o ≡ text)) ⊎ ((o : Op) → op_text o ≢ text)
    by true e = inl (candidate, (bytes_eq-Decides (op_text candidate) text).0 e)
    by false e = inr (other (λ same. both_ways _ e ((bytes_eq-Decides (op_text candidate) text).1 same)))

sign_length : (rest : List ℕ) (m : ℕ) (p : Op) → m ≤ length rest → take m rest ≡ op_text p → m ≡ length (op_text p)
sign_length rest m p le s = sym (length-take-le m rest le) ∙ ap length s

abbrev SignOrNot : List ℕ → Type 0
SignOrNot rest = ((n : ℕ) × ((o : Op) × IsLongestOp rest n o)) ⊎ HasNoOp rest

-- a front of two bytes or more, where none of two spells a sign
no_longer : (b c : ℕ) (more : List ℕ) → ((o : Op) → op_text o ≡ b ∷ c ∷ [] → ⊥) → (m : ℕ) (p : Op) → m ≤ length (b ∷ c ∷ more) → take m (b ∷ c ∷ more) ≡ op_text p → m ≡ 1
no_longer b c more none zero p le s = absurd (omega (arith, sign_length (b ∷ c ∷ more) 0 p le s, (op_length p).0))
no_longer b c more none (suc zero) p le s = refl
no_longer b c more none (suc (suc zero)) p le s = absurd (none p (sym s))
no_longer b c more none (suc (suc (suc m))) p le s = absurd (omega (arith, sign_length (b ∷ c ∷ more) (suc (suc (suc m))) p le s, (op_length p).1))

lone : (b : ℕ) → ((o : Op) → op_text o ≡ b ∷ [] → ⊥) → (m : ℕ) (p : Op) → m ≤ 1 → take m (b ∷ []) ≡ op_text p → ⊥
lone b none zero p le s = absurd (omega (arith, sign_length (b ∷ []) 0 p le s, (op_length p).0))
lone b none (suc zero) p le s = none p (sym s)
lone b none (suc (suc m)) p le s = absurd (omega arith)

sign_or_not : (b : ℕ) (body : List ℕ) → SignOrNot (b ∷ body)
sign_or_not b [] = elim (find_op (b ∷ [])) [
  | inl (o, e) ↦ inl (1, (o, record { fits = omega arith; spelled = sym e; longest = λ m p le s. le }))
  | inr none ↦ inr (λ m p le s. lone b none m p le s)
]
sign_or_not b (c ∷ more) = elim (find_op (b ∷ c ∷ [])) [
  | inl (o, e) ↦ inl (2, (o, record { fits = omega arith; spelled = sym e; longest = λ m p le s. omega (arith, sign_length (b ∷ c ∷ more) m p le s, (op_length p).1) }))
  | inr none2 ↦ elim (find_op (b ∷ [])) [
    | inl (o, e) ↦ inl (1, (o, record { fits = omega arith; spelled = sym e; longest = λ m p le s. omega (arith, no_longer b c more none2 m p le s) }))
    | inr none1 ↦ inr (λ m p le s. none1 p (sym (ap (λ k. take k (b ∷ c ∷ more)) (sym (no_longer b c more none2 m p le s)) ∙ s)))
  ]
]

-- ---- a token

abbrev TokenOrNot : List ℕ → Type 0
TokenOrNot rest = ((n : ℕ) × ((x : Lexeme) × IsLongest rest n x)) ⊎ (HasNoToken rest × ((f : TextFault) × IsReason rest f))

quoted_token_or_not : (q : ℕ) (body : List ℕ) → IsQuote q → TokenOrNot (q ∷ body)
quoted_token_or_not q body iq = elim (quoted_or_not q body iq) [
  | inl t ↦ inl (t.count + 2, (AQuoted (take t.count body), quoted_token (q ∷ body) body q t.count refl iq t.within t.ends t.inside))
  | inr (f, h) ↦ let r = quoted_fault (q ∷ body) body q f refl iq h in inr (r.0, (f, r.1))
]

other_token_or_not : (b : ℕ) (body : List ℕ) → is_word_byte b ≡ false → (IsQuote b → ⊥) → TokenOrNot (b ∷ body)
other_token_or_not b body no_word no_quote = elim (sign_or_not b body) [
  | inl (n, (o, h)) ↦ inl (n, (AnOp o, op_token (b ∷ body) body b n o refl no_word no_quote h))
  | inr none ↦ inr (no_token (b ∷ body) body b refl no_word no_quote none, why)
]
  where
    why : (f : TextFault) × IsReason (b ∷ body) f
    why = elim (cases_eq b 36) [
      | inl e ↦ (faults.Macro, inl e)
      | inr ne ↦ (faults.BadToken, no_macro_here (b ∷ body) ne no_quote)
    ]

token_or_not : (b : ℕ) (body : List ℕ) → TokenOrNot (b ∷ body)
token_or_not b body = by (is_word_byte b) refl
  where
    by : (w : Bool) → is_word_byte b ≡ w → TokenOrNot (b ∷ body)
    by true e = let w = word_front body in inl (1 + w.count, (AWord (take (1 + w.count) (b ∷ body)), word_token_more (b ∷ body) body b w.count refl e w.fits w.word w.stops))
    by false e = elim (cases_eq b 34) [
      | inl q ↦ quoted_token_or_not b body (inl q)
      | inr n34 ↦ elim (cases_eq b 39) [
        | inl q ↦ quoted_token_or_not b body (inr q)
        | inr n39 ↦ other_token_or_not b body e (apart b n34 n39)
      ]
    ]

-- ---- a line

-- a place that cannot be cut
pub cannot_be_cut : (rest : List ℕ) (fault : TextFault) → 0 < length rest → is_blank (get_or rest 0 0) ≡ false → get_or rest 0 0 ≢ 35 → HasNoToken rest → IsReason rest fault → CannotBeCut rest fault
cannot_be_cut rest fault some no_blank no_comment none reason = record { not_end = no_end; not_blank = λ b. both_ways _ no_blank b; no_token = none; reason = reason }
  where
    no_end : IsEnd rest → ⊥
    no_end (inl z) = omega arith
    no_end (inr c) = no_comment c

-- what comes of cutting a line
abbrev pub Cut : List ℕ → Type 0
Cut line = (ts : List Lexeme) × (out : Option TextFault) × IsCut line ts out

-- a token takes at least one byte
longest_some : (rest : List ℕ) (n : ℕ) (x : Lexeme) → IsLongest rest n x → 0 < n
longest_some rest zero x h = absurd (omega (arith, spelled_nonempty [] x h.spelled))
longest_some rest (suc n) x h = omega arith

-- a line that is not empty, where what is left after a byte or more is cut
cut_more : (b : ℕ) (body : List ℕ) → ((n : ℕ) → 0 < n → Cut (drop n (b ∷ body))) → Cut (b ∷ body)
cut_more b body after = by (is_blank b) refl
  where
    by : (w : Bool) → is_blank b ≡ w → Cut (b ∷ body)
    by true e = let (ts, out, c) = after 1 (omega arith) in (ts, out, skipped e c)
    by false e = elim (cases_eq b 35) [
      | inl c ↦ ([], None, ended (inr c))
      | inr no_comment ↦ elim (token_or_not b body) [
        | inl (n, (x, h)) ↦ let (ts, out, c) = after n (longest_some (b ∷ body) n x h) in (x ∷ ts, out, taken h c)
        | inr (none, (f, why)) ↦ ([], Some f, stuck (cannot_be_cut (b ∷ body) f (omega arith) e no_comment none why))
      ]
    ]

cut_from : (fuel : ℕ) (line : List ℕ) → length line ≤ fuel → Cut line
cut_from fuel [] few = ([], None, ended (inl refl))
cut_from zero (b ∷ body) few = absurd (omega arith)
cut_from (suc fuel) (b ∷ body) few = cut_more b body (λ n some. cut_from fuel (drop n (b ∷ body)) (omega (arith, length-drop n (b ∷ body))))

pub cut_there : (line : List ℕ) → Cut line
cut_there line = cut_from (length line) line (omega arith)

-- the same of a line of a file
pub cut_there_in : (flat : Bool) (line : List ℕ) → (ts : List Lexeme) × (out : Option TextFault) × IsCutIn flat line ts out
cut_there_in flat line = let (ts, stop, c) = cut_there line in (ts, cond (are_refused flat ts) (Some faults.Macro) stop, record { stop = stop; cut = c; out_is = refl })

pub one_cutting_law : OneCutting
one_cutting_law flat line = let (ts, out, c) = cut_there_in flat line in (ts, (out, c, λ us other d. same_cutting_in c d))
