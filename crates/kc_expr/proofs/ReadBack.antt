-- The text of an expression is cut into its tokens.
use Rattle.std.proofs.{Common.{Bool, List, None, Option, Some, [], ap, append-nil, append_assoc, arith, codes, drop, eqb-true, false, get_or, inl, inr, length, length-append, refl, subst, sym, take, true, true≢false, ℕ, ◌++◌, ◌+◌, ◌<◌, ◌∙◌, ◌∷◌, ◌≡◌, ◌≢◌}, Math.Seq.{drop-append_seam, get_or-append_seam, take-append_seam}, lemmas.{Bool.{cases_Bool, cases_lt, eqb-false, or_parts}, List.{Elements.{All-cons, All-head, All-nil, All-tail}, get_or-append-add, get_or-take, get_or_append_left, length-take-le}}}
use Rattle.std.specs.Prelude.{All, IsTrue, is_some, not, ◌==◌, ◌||◌}
use Rattle.kc_language.specs.{ExpressionTexts.{AreReadable, IsOperand, IsReadBack, IsReadable, chain_text, expression_text, has_two, is_and, is_relation, joint, operand_text, parenthesized, quoted, text_at}, Expressions.{Every, Form, Forms, Leaf, LoneM, MoreForms, Negated, NoForms, Related, Single, Some_of, Symbol, Text, number_of, tristate_constant}, Symbols.name_by, Text.escape, Tokens.{AQuoted, AWord, AnOp, IsCut, IsLongest, IsQuotedBody, Lexeme, ended, escaped, is_word_byte, nothing, op_text, plain, relation_text, skipped, taken}, declared.{expressions.Connective.{Connective, TheVariants.{And, Or}}, tokens.{Op.Op, TextFault.TextFault}}}
use Rattle.kc_language.specs.declared.tokens.Op.TheVariants as ops
use Rattle.kc_language.proofs.{ExpressionTexts.{between, chain_tokens, derives_the_tokens, means_the_same, op_of, operand_token, tokens_at, tree_of}, FewestParentheses.fewest}
use Rattle.kc_text.specs.LexerParts.{IsLongestOp}
use Rattle.kc_text.proofs.Spelled.{op_byte, op_first, op_length, op_token, quoted_token, word_token}

-- ---- Operators: none goes on with a byte other than `=`
op_cons : (o : Op) → op_text o ≡ op_first o ∷ drop 1 (op_text o)
op_cons = elim [ ops.Eq ↦ refl | _ ↦ refl ]

short_first : (o : Op) → length (op_text o) ≡ 1 → (op_first o ≢ 38) × (op_first o ≢ 124)
short_first = elim [ ops.Eq ↦ λ h. (λ e. omega (arith, e), λ e. omega (arith, e)) | _ ↦ λ h. (λ e. absurd (omega (arith, e, h)), λ e. absurd (omega (arith, e, h))) ]

long_second : (p : Op) → length (op_text p) ≡ 2 → op_first p ≢ 38 → op_first p ≢ 124 → get_or (op_text p) 1 0 ≡ 61
long_second = elim [
  | ops.And ↦ λ h x y. absurd (x refl)
  | ops.Or ↦ λ h x y. absurd (y refl)
  | ops.Ne ↦ λ h x y. refl
  | ops.Le ↦ λ h x y. refl
  | ops.Ge ↦ λ h x y. refl
  | _ ↦ λ h x y. absurd (omega (arith, h))
]

longest_op : (o : Op) (rest : List ℕ) → get_or rest 0 0 ≢ 61 → IsLongestOp (op_text o ++ rest) (length (op_text o)) o
longest_op o rest h = record {
  fits = omega (arith, length-append (op_text o) rest);
  spelled = take-append_seam (op_text o) rest;
  longest = λ m p le e.
      let here = ap length e in
      let len = length-take-le m (op_text o ++ rest) le in
      elim (cases_lt (length (op_text o)) m) [
        | inr ge ↦ ge
        | inl lt ↦
            let one : length (op_text o) ≡ 1 = omega (arith, op_length p, op_length o, here, len) in
            let two : length (op_text p) ≡ 2 = omega (arith, op_length p, op_length o, here, len) in
            let zeroth : 0 < m = omega arith in
            let next : 1 < m = omega arith in
            let first : op_first p ≡ op_first o = sym (ap (λ t. get_or t 0 0) e) ∙ get_or-take m (op_text o ++ rest) 0 0 zeroth
            ∙ get_or_append_left (op_text o) rest 0 0 (op_length o).0 in
            let at : length (op_text o) + 0 ≡ 1 = omega arith in
            let second : get_or (op_text p) 1 0 ≡ get_or rest 0 0 = sym (ap (λ t. get_or t 1 0) e) ∙ get_or-take m (op_text o ++ rest) 1 0 next
            ∙ ap (λ k. get_or (op_text o ++ rest) k 0) (sym at) ∙ get_or-append-add (op_text o) rest 0 0 in
            let apart = short_first o one in
            absurd (h (sym second ∙ long_second p two (λ x. apart.0 (sym first ∙ x)) (λ x. apart.1 (sym first ∙ x))))
      ];
}

module _ {ts : List Lexeme} {out : Option TextFault} where
  cut_op : (o : Op) (rest : List ℕ) → get_or rest 0 0 ≢ 61 → IsCut rest ts out → IsCut (op_text o ++ rest) (AnOp o ∷ ts) out
  cut_op o rest h c =
      let longest = op_token (op_text o ++ rest) (drop 1 (op_text o) ++ rest) (op_first o) (length (op_text o)) o (ap (λ t. t ++ rest) (op_cons o))
      (op_byte o).no_word (op_byte o).no_quote (longest_op o rest h) in
      taken longest (rw (drop-append_seam (op_text o) rest) c)

-- ---- Words and quoted texts
abbrev ends_word : List ℕ → Bool
ends_word [] = true
ends_word (b ∷ rest) = not (is_word_byte b)

-- What may follow an expression: no byte of a word, and no `=`.
record Follows (rest : List ℕ) : Type 0 where
  ends : ends_word rest ≡ true
  no_equals : get_or rest 0 0 ≢ 61

not_true : (b : Bool) → not b ≡ true → b ≡ false
not_true false e = refl
not_true true e = cc

stops : (w rest : List ℕ) → ends_word rest ≡ true → length w < length (w ++ rest) → is_word_byte (get_or (w ++ rest) (length w) 0) ≡ false
stops [] [] e lt = absurd (omega (arith, lt))
stops [] (b ∷ rest) e lt = not_true (is_word_byte b) e
stops (b ∷ w) rest e lt = stops w rest e (omega (arith, lt))

word_here : (b : ℕ) (w rest : List ℕ) → All (λ b. IsTrue (is_word_byte b)) (b ∷ w) → ends_word rest ≡ true →
    IsLongest (b ∷ (w ++ rest)) (length (b ∷ w)) (AWord (take (length (b ∷ w)) (b ∷ (w ++ rest))))
word_here b w rest all e = word_token (b ∷ (w ++ rest)) (w ++ rest) b (length (b ∷ w)) refl (All-head (λ b. IsTrue (is_word_byte b)) b w all)
    (omega (arith, length-append w rest)) (subst (λ t. All (λ b. IsTrue (is_word_byte b)) t) (sym (take-append_seam (b ∷ w) rest)) all) (stops (b ∷ w) rest e)

body_of : (t : List ℕ) → IsQuotedBody 34 (escape t)
body_of [] = nothing
body_of (b ∷ t) = elim (cases_Bool (b == 34 || b == 92)) [
  | inl e ↦ rw e (escaped (body_of t))
  | inr e ↦ rw e (plain (eqb-false b 34 (or_parts _ _ e).0) (eqb-false b 92 (or_parts _ _ e).1) (body_of t))
]

quoted_here : (t rest : List ℕ) →
    IsLongest (34 ∷ (escape t ++ 34 ∷ rest)) (length (escape t) + 2) (AQuoted (take (length (escape t)) (escape t ++ 34 ∷ rest)))
quoted_here t rest =
    let front : take (length (escape t)) (escape t ++ 34 ∷ rest) ≡ escape t = take-append_seam (escape t) (34 ∷ rest) in
    quoted_token (34 ∷ (escape t ++ 34 ∷ rest)) (escape t ++ 34 ∷ rest) 34 (length (escape t)) refl (inl refl) (omega (arith, length-append (escape t) (34 ∷ rest)))
    (get_or-append_seam (escape t) 34 rest 0) (rw front (body_of t))

constant_byte : (b : ℕ) → is_some (tristate_constant (b ∷ [])) ≡ true → is_word_byte b ≡ true
constant_byte b h = elim (cases_Bool (b == 110)) [
  | inl e ↦ rw (eqb-true b 110 e) refl
  | inr e ↦ elim (cases_Bool (b == 109)) [
    | inl d ↦ rw (eqb-true b 109 d) refl
    | inr d ↦ elim (cases_Bool (b == 121)) [ inl f ↦ rw (eqb-true b 121 f) refl | inr f ↦ absurd (true≢false (sym (rw (e, d, f) at h))) ]
  ]
]

constant_word : (t : List ℕ) → is_some (tristate_constant t) ≡ true → (0 < length t) × All (λ b. IsTrue (is_word_byte b)) t
constant_word [] h = absurd (true≢false (sym h))
constant_word (b ∷ []) h = (omega arith, All-cons (λ b. IsTrue (is_word_byte b)) b [] (constant_byte b h) (All-nil (λ b. IsTrue (is_word_byte b))))
constant_word (b ∷ c ∷ t) h = absurd (true≢false (sym h))

module _ {ts : List Lexeme} {out : Option TextFault} where
  cut_word : (w rest : List ℕ) → 0 < length w → All (λ b. IsTrue (is_word_byte b)) w → Follows rest → IsCut rest ts out → IsCut (w ++ rest) (AWord w ∷ ts) out
  cut_word [] rest some all f c = absurd (omega (arith, some))
  cut_word (b ∷ w) rest some all f c =
      let longest = subst (λ v. IsLongest (b ∷ (w ++ rest)) (length (b ∷ w)) (AWord v)) (take-append_seam (b ∷ w) rest) (word_here b w rest all f.ends) in
      taken longest (rw (drop-append_seam (b ∷ w) rest) c)

  cut_quoted : (t rest : List ℕ) → IsCut rest ts out → IsCut (quoted t ++ rest) (AQuoted (escape t) ∷ ts) out
  cut_quoted t rest c =
      let body = escape t ++ 34 ∷ rest in
      let longest = subst (λ v. IsLongest (34 ∷ body) (length (escape t) + 2) (AQuoted v)) (take-append_seam (escape t) (34 ∷ rest)) (quoted_here t rest) in
      let whole : quoted t ++ rest ≡ 34 ∷ body = ap (λ x. 34 ∷ x) (append_assoc (escape t) (34 ∷ []) rest) in
      let len : length (escape t) + 2 ≡ length (quoted t) = omega (arith, length-append (escape t) (34 ∷ [])) in
      let left : drop (length (escape t) + 2) (34 ∷ body) ≡ rest = ap (λ k. drop k (34 ∷ body)) len ∙ ap (drop (length (quoted t))) (sym whole) ∙ drop-append_seam (quoted t) rest in
      subst (λ x. IsCut x (AQuoted (escape t) ∷ ts) out) (sym whole) (taken longest (subst (λ x. IsCut x ts out) (sym left) c))

  cut_operand : (names : List (List ℕ)) (a : Leaf) (rest : List ℕ) → IsOperand names a → Follows rest → IsCut rest ts out →
      IsCut (operand_text names a ++ rest) (operand_token names a ∷ ts) out
  cut_operand names (Text t) rest h f c = elim (cases_Bool (is_some (tristate_constant t))) [
    | inl e ↦ rw e (cut_word t rest (constant_word t e).0 (constant_word t e).1 f c)
    | inr e ↦ rw e (cut_quoted t rest c)
  ]
  cut_operand names (Symbol s) rest h f c = cut_word (name_by names s) rest h.some h.word f c

-- ---- How an expression begins: with no `=`
record Starts (x : List ℕ) : Type 0 where
  some : 0 < length x
  no_equals : get_or x 0 0 ≢ 61

starts_append : (x y : List ℕ) → Starts x → Starts (x ++ y)
starts_append [] y s = absurd (omega (arith, s.some))
starts_append (b ∷ x) y s = record { some = omega arith; no_equals = s.no_equals }

starts_word : (w : List ℕ) → 0 < length w → All (λ b. IsTrue (is_word_byte b)) w → Starts w
starts_word [] some all = absurd (omega (arith, some))
starts_word (b ∷ w) some all = let h = All-head (λ b. IsTrue (is_word_byte b)) b w all in
    record { some = omega arith; no_equals = λ e. true≢false (sym (subst (λ b. is_word_byte b ≡ true) e h)) }

starts_operand : (names : List (List ℕ)) (a : Leaf) → IsOperand names a → Starts (operand_text names a)
starts_operand names (Text t) h = elim (cases_Bool (is_some (tristate_constant t))) [
  | inl e ↦ rw e (starts_word t (constant_word t e).0 (constant_word t e).1)
  | inr e ↦ rw e (record { some = omega arith; no_equals = λ x. omega (arith, x) })
]
starts_operand names (Symbol s) h = starts_word (name_by names s) h.some h.word

starts_parenthesized : (needed : Bool) (t : List ℕ) → Starts t → Starts (parenthesized needed t)
starts_parenthesized true t s = record { some = omega arith; no_equals = λ x. omega (arith, x) }
starts_parenthesized false t s = s

module _ (condition : Bool) (names : List (List ℕ)) where
  mutual
    starts : (f : Form) → IsReadable condition names f → (place : Option Connective) → Starts (text_at names place f)
    starts (Single a) h place = starts_operand names a h.0
    starts (Related o a b) h place = let s = starts_append _ (codes " ") (starts_operand names a h.1) in
        starts_append _ (operand_text names b) (starts_append _ (codes " ") (starts_append _ (relation_text o) s))
    starts (Negated f) h place = record { some = omega arith; no_equals = λ x. omega (arith, x) }
    starts LoneM h place = record { some = omega arith; no_equals = λ x. omega (arith, x) }
    starts (Every fs) h place = starts_parenthesized (is_and place) _ (starts_chain And fs h.0 h.1)
    starts (Some_of fs) h place = starts_parenthesized (is_some place) _ (starts_chain Or fs h.0 h.1)

    starts_chain : (c : Connective) (fs : Forms) → IsTrue (has_two fs) → AreReadable condition names fs → Starts (chain_text names c [] fs)
    starts_chain c NoForms two h = absurd (true≢false (sym two))
    starts_chain c (MoreForms f fs) two h = starts_append (text_at names (Some c) f) (chain_text names c (joint c) fs) (starts f h.0 (Some c))

-- ---- The whole text
relation_is : (o : Op) → IsTrue (is_relation o) → op_text o ≡ relation_text o
relation_is = elim [
  | ops.Not ↦ λ h. absurd (true≢false (sym h))
  | ops.And ↦ λ h. absurd (true≢false (sym h))
  | ops.Or ↦ λ h. absurd (true≢false (sym h))
  | ops.LParen ↦ λ h. absurd (true≢false (sym h))
  | ops.RParen ↦ λ h. absurd (true≢false (sym h))
  | _ ↦ λ h. refl
]

blank_follows : (rest : List ℕ) → Follows (32 ∷ rest)
blank_follows rest = record { ends = refl; no_equals = λ x. omega (arith, x) }

regroup : (a r b rest : List ℕ) → ((((a ++ 32 ∷ []) ++ r) ++ 32 ∷ []) ++ b) ++ rest ≡ a ++ (32 ∷ (r ++ (32 ∷ (b ++ rest))))
regroup a r b rest = simp append_assoc

cut_joint : (c : Connective) (x : List ℕ) {ts : List Lexeme} {out : Option TextFault} → IsCut x ts out → IsCut (joint c ++ x) (AnOp (op_of c) ∷ ts) out
cut_joint And x h = skipped refl (cut_op ops.And (32 ∷ x) (λ e. omega (arith, e)) (skipped refl h))
cut_joint Or x h = skipped refl (cut_op ops.Or (32 ∷ x) (λ e. omega (arith, e)) (skipped refl h))

module _ (out : Option TextFault) where
  abbrev Cuts : List ℕ → List Lexeme → Type 0
  Cuts text tokens = (rest : List ℕ) (ts : List Lexeme) → Follows rest → IsCut rest ts out → IsCut (text ++ rest) (tokens ++ ts) out

  cut_parenthesized : (needed : Bool) (text : List ℕ) (tokens : List Lexeme) → Starts text → Cuts text tokens → Cuts (parenthesized needed text) (between needed tokens)
  cut_parenthesized true text tokens s inner rest ts f c = rw (append_assoc text (41 ∷ []) rest, append_assoc tokens (AnOp ops.RParen ∷ []) ts)
      (cut_op ops.LParen (text ++ 41 ∷ rest) (starts_append text (41 ∷ rest) s).no_equals
      (inner (41 ∷ rest) (AnOp ops.RParen ∷ ts) (record { ends = refl; no_equals = λ x. omega (arith, x) }) (cut_op ops.RParen rest f.no_equals c)))
  cut_parenthesized false text tokens s inner rest ts f c = inner rest ts f c

  module _ (condition : Bool) (names : List (List ℕ)) where
    follows_more : (c : Connective) (fs : Forms) (rest : List ℕ) → Follows rest → Follows (chain_text names c (joint c) fs ++ rest)
    follows_more c NoForms rest f = f
    follows_more And (MoreForms g gs) rest f = blank_follows _
    follows_more Or (MoreForms g gs) rest f = blank_follows _

    mutual
      cut_form : (f : Form) → IsReadable condition names f → (place : Option Connective) → Cuts (text_at names place f) (tokens_at names place f)
      cut_form (Single a) h place rest ts f c = cut_operand names a rest h.0 f c
      cut_form (Related o a b) h place rest ts f c =
          let right = operand_text names b ++ rest in
          let signed = cut_op o (32 ∷ right) (λ e. omega (arith, e)) (skipped refl (cut_operand names b rest h.2 f c)) in
          let left = relation_text o ++ 32 ∷ right in
          subst (λ x. IsCut x (operand_token names a ∷ AnOp o ∷ operand_token names b ∷ ts) out) (sym (regroup (operand_text names a) (relation_text o) (operand_text names b) rest))
          (cut_operand names a (32 ∷ left) h.1 (blank_follows left) (skipped refl
          (subst (λ r. IsCut (r ++ 32 ∷ right) (AnOp o ∷ operand_token names b ∷ ts) out) (relation_is o h.0) signed)))
      cut_form (Negated g) h place rest ts f c =
          cut_op ops.Not (text_at names (Some And) g ++ rest) (starts_append (text_at names (Some And) g) rest (starts condition names g h (Some And))).no_equals (cut_form g h (Some And) rest ts f c)
      cut_form LoneM h place rest ts f c = cut_word (109 ∷ []) rest (omega arith) (constant_word (109 ∷ []) refl).1 f c
      cut_form (Every fs) h place rest ts f c = cut_parenthesized (is_and place) (chain_text names And [] fs) (chain_tokens names And [] fs)
          (starts_chain condition names And fs h.0 h.1) (cut_chain And fs h.1) rest ts f c
      cut_form (Some_of fs) h place rest ts f c = cut_parenthesized (is_some place) (chain_text names Or [] fs) (chain_tokens names Or [] fs)
          (starts_chain condition names Or fs h.0 h.1) (cut_chain Or fs h.1) rest ts f c

      cut_chain : (c : Connective) (fs : Forms) → AreReadable condition names fs → Cuts (chain_text names c [] fs) (chain_tokens names c [] fs)
      cut_chain c NoForms h rest ts f e = e
      cut_chain c (MoreForms g gs) h rest ts f e =
          let more = chain_text names c (joint c) gs in let tokens = chain_tokens names c (AnOp (op_of c) ∷ []) gs in
          rw (append_assoc (text_at names (Some c) g) more rest, append_assoc (tokens_at names (Some c) g) tokens ts)
          (cut_form g h.0 (Some c) (more ++ rest) (tokens ++ ts) (follows_more c gs rest f) (cut_more c gs h.1 rest ts f e))

      cut_more : (c : Connective) (fs : Forms) → AreReadable condition names fs → Cuts (chain_text names c (joint c) fs) (chain_tokens names c (AnOp (op_of c) ∷ []) fs)
      cut_more c NoForms h rest ts f e = e
      cut_more c (MoreForms g gs) h rest ts f e =
          let more = chain_text names c (joint c) gs in let tokens = chain_tokens names c (AnOp (op_of c) ∷ []) gs in
          rw (append_assoc (joint c ++ text_at names (Some c) g) more rest, append_assoc (joint c) (text_at names (Some c) g) (more ++ rest), append_assoc (tokens_at names (Some c) g) tokens ts)
          (cut_joint c (text_at names (Some c) g ++ (more ++ rest))
          (cut_form g h.0 (Some c) (more ++ rest) (tokens ++ ts) (follows_more c gs rest f) (cut_more c gs h.1 rest ts f e)))

pub reads_back : (condition : Bool) (names : List (List ℕ)) (f : Form) → IsReadable condition names f → IsReadBack condition names f
reads_back condition names f h =
    let text = expression_text names f in let tokens = tokens_at names None f in
    let whole = cut_form None condition names f h None [] [] (record { ends = refl; no_equals = λ x. omega (arith, x) }) (ended (inl refl)) in
    record {
      tokens = tokens;
      tree = tree_of names f;
      cut = subst (λ x. IsCut x tokens None) (append-nil text) (subst (λ y. IsCut (text ++ []) y None) (append-nil tokens) whole);
      derives = derives_the_tokens condition names f h;
      means = means_the_same condition names f h;
      fewest = fewest condition names (number_of names) f;
    }
