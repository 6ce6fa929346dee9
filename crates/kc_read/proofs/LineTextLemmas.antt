-- What stands in a line of a Kconfig file: each text of its tokens is one line of at most 8,191 bytes.
use Rattle.std.proofs.{Common.{Bool, List, None, Option, Some, [], arith, drop, false, if◌then◌else◌, length, length-append, length-drop, length-take, refl, subst, sym, take, true, ℕ, ◌++◌, ◌-◌, ◌==◌, ◌∷◌, ◌≡◌, ◌≤◌}, lemmas.List.{Elements.{All-append, All-cons, All-drop, All-head, All-nil, All-tail, All-take}, Splits.{slice_split-cons_no, slice_split-cons_yes}}}
use Rattle.std.specs.{List.{onto_first, slice_index, slice_split}, Prelude.All, Str.Lines.strip_carriage_return}
use Rattle.kc_language.specs.{Expressions.{Atom, Bang, Chain, Close, Compares, Joins, Keyword, Negation, Open, OperandToken, Part, QuotedAtom, Terminal, WordAtom, bang, compare, conjunction, group, if_word, joined, leaf, lone, meaning, meaning_not, meaning_part, names_in_atom, negation, only, same_name, spell, spell_not, spell_part, terminal_of}, Lines.{Physical, TakesLine, UnreadLines, after_help, after_text, column, continues, from_other, is_help_line, joined_text, lines_of_parts, physical_lines}, Text.unescape, Tokens.{AQuoted, AWord, AnOp, IsCut, Lexeme, Spells, ended, skipped, stuck, taken}, declared.tokens.{Op.Op, TextFault.TextFault}}
use Rattle.kc_language.specs.declared.tokens.Op.TheVariants as op
use Rattle.kc_text.specs.PartsOfLines.{without_continuation}
use Rattle.kc_expr.specs.PartsOfExpressions.{is_tristate_constant, lone_form, names_in_terminal, names_in_terminals, op_terminal, terminals}
use Rattle.kc_entries.specs.WellFormed.{IsLineForm, IsLineText}

-- The parts of what holds of each element.
module _ {X : Type 0} (P : X → Type 0) where
  pub all_front : (xs ys : List X) → All P (xs ++ ys) → All P xs
  all_front [] ys h = All-nil P
  all_front (x ∷ xs) ys h = All-cons P x xs (All-head P x (xs ++ ys) h) (all_front xs ys (All-tail P x (xs ++ ys) h))

  pub all_after : (xs ys : List X) → All P (xs ++ ys) → All P ys
  all_after [] ys h = h
  all_after (x ∷ xs) ys h = all_after xs ys (All-tail P x (xs ++ ys) h)

-- no byte is a line feed
abbrev HasNoLf : List ℕ → Type 0
HasNoLf = All (λ b. (b == 10) ≡ false)

abbrev is_lf : ℕ → Bool
is_lf b = b == 10

-- no line holds one
abbrev pub AreOneLine : List Physical → Type 0
AreOneLine = All (λ (l : Physical). HasNoLf l.text)

onto_part : (x : ℕ) (parts : List (List ℕ)) → is_lf x ≡ false → All HasNoLf parts → All HasNoLf (onto_first x parts)
onto_part x [] n h = All-cons HasNoLf (x ∷ []) [] (All-cons (λ b. (b == 10) ≡ false) x [] n (All-nil (λ b. (b == 10) ≡ false))) (All-nil HasNoLf)
onto_part x (y ∷ ys) n h = All-cons HasNoLf (x ∷ y) ys (All-cons (λ b. (b == 10) ≡ false) x y n (All-head HasNoLf y ys h)) (All-tail HasNoLf y ys h)

part_by : (x : ℕ) (xs : List ℕ) (b : Bool) → is_lf x ≡ b → All HasNoLf (slice_split is_lf xs) → All HasNoLf (slice_split is_lf (x ∷ xs))
part_by x xs true e h = rw (slice_split-cons_yes is_lf x xs e) (All-cons HasNoLf [] (slice_split is_lf xs) (All-nil (λ b. (b == 10) ≡ false)) h)
part_by x xs false e h = rw (slice_split-cons_no is_lf x xs e) (onto_part x (slice_split is_lf xs) e h)

each_part : (file : List ℕ) → All HasNoLf (slice_split is_lf file)
each_part [] = All-cons HasNoLf [] [] (All-nil (λ b. (b == 10) ≡ false)) (All-nil HasNoLf)
each_part (x ∷ xs) = part_by x xs (is_lf x) refl (each_part xs)

stripped : (x : List ℕ) → HasNoLf x → HasNoLf (strip_carriage_return x)
stripped x h = by (slice_index x (length x - 1) == 13)
  where
    by : (b : Bool) → HasNoLf (if b then take (length x - 1) x else x)
    by true = All-take (λ b. (b == 10) ≡ false) (length x - 1) x h
    by false = h

lines_by : (parts : List (List ℕ)) → All HasNoLf parts → AreOneLine (lines_of_parts parts)
lines_by [] h = All-nil (λ (l : Physical). HasNoLf l.text)
lines_by (x ∷ []) h = by (length x == 0)
  where
    by : (b : Bool) → AreOneLine (if b then [] else record { text = x; ended = false } ∷ [])
    by true = All-nil (λ (l : Physical). HasNoLf l.text)
    by false = All-cons (λ (l : Physical). HasNoLf l.text) (record { text = x; ended = false }) [] (All-head HasNoLf x [] h) (All-nil (λ (l : Physical). HasNoLf l.text))
lines_by (x ∷ y ∷ more) h =
    All-cons (λ (l : Physical). HasNoLf l.text) (record { text = strip_carriage_return x; ended = true }) (lines_of_parts (y ∷ more))
    (stripped x (All-head HasNoLf x (y ∷ more) h)) (lines_by (y ∷ more) (All-tail HasNoLf x (y ∷ more) h))

-- the lines of a file
pub file_lines : (file : List ℕ) → AreOneLine (physical_lines file)
unfolding physical_lines
file_lines file = lines_by (slice_split is_lf file) (each_part file)

-- A logical line, and what is left after it.
shared : (l : Physical) → HasNoLf l.text → HasNoLf (without_continuation l)
shared l h = by (continues l)
  where
    by : (b : Bool) → HasNoLf (if b then take (length l.text - 1) l.text else l.text)
    by true = All-take (λ b. (b == 10) ≡ false) (length l.text - 1) l.text h
    by false = h

joined_lines : (front : List Physical) → AreOneLine front → HasNoLf (joined_text front)
joined_lines [] h = All-nil (λ b. (b == 10) ≡ false)
joined_lines (l ∷ ls) h =
    All-append (λ b. (b == 10) ≡ false) (without_continuation l) (joined_text ls) (shared l (All-head (λ (l : Physical). HasNoLf l.text) l ls h))
    (joined_lines ls (All-tail (λ (l : Physical). HasNoLf l.text) l ls h))

pub taken_line : (old new : UnreadLines) (text : List ℕ) → TakesLine old new text → AreOneLine old.lines → IsLineText text × AreOneLine new.lines
taken_line old new text (front, first, is, short, number, refusal) h =
    let both : AreOneLine (front ++ new.lines) = subst AreOneLine first.split h in
    let here : HasNoLf (joined_text front) = joined_lines front (all_front (λ (l : Physical). HasNoLf l.text) front new.lines both) in
    (record { within = short; one_line = subst HasNoLf (sym is) here }, all_after (λ (l : Physical). HasNoLf l.text) front new.lines both)

others : (p : Physical → Bool) (ls : List Physical) → AreOneLine ls → AreOneLine (from_other p ls)
others p [] h = h
others p (l ∷ ls) h = by (p l) (others p ls (All-tail (λ (l : Physical). HasNoLf l.text) l ls h))
  where
    by : (b : Bool) → AreOneLine (from_other p ls) → AreOneLine (if b then from_other p ls else l ∷ ls)
    by true rest = rest
    by false rest = h

after_texts : (ls : List Physical) → AreOneLine ls → AreOneLine (after_text ls)
after_texts [] h = h
after_texts (l ∷ ls) h = by (column 0 l.text == 0)
  where
    by : (b : Bool) → AreOneLine (if b then l ∷ ls else from_other (is_help_line (Some (column 0 l.text))) (l ∷ ls))
    by true = h
    by false = others (is_help_line (Some (column 0 l.text))) (l ∷ ls) h

pub helped : (ls : List Physical) → AreOneLine ls → AreOneLine (after_help ls)
helped ls h = after_texts (from_other (is_help_line None) ls) (others (is_help_line None) ls h)

-- Tokens.
abbrev pub IsLineLexeme : Lexeme → Type 0
IsLineLexeme (AWord w) = IsLineText w
IsLineLexeme (AQuoted t) = IsLineText (unescape t)
IsLineLexeme (AnOp o) = Unit {0}

front_part : (line : List ℕ) (n : ℕ) → IsLineText line → IsLineText (take n line)
front_part line n h =
    let within = h.within in
    let a = length-take n line in
    record { within = omega arith; one_line = All-take (λ b. (b == 10) ≡ false) n line h.one_line }

after_part : (line : List ℕ) (n : ℕ) → IsLineText line → IsLineText (drop n line)
after_part line n h =
    let within = h.within in
    let a = length-drop n line in
    record { within = omega arith; one_line = All-drop (λ b. (b == 10) ≡ false) n line h.one_line }

unescaped : (t : List ℕ) → HasNoLf t → HasNoLf (unescape t)
unescaped [] h = h
unescaped (b ∷ []) h = h
unescaped (b ∷ c ∷ bs) h =
    by (b == 92) (unescaped bs (All-tail (λ b. (b == 10) ≡ false) c bs after)) (unescaped (c ∷ bs) after)
  where
    after : HasNoLf (c ∷ bs)
    after = All-tail (λ b. (b == 10) ≡ false) b (c ∷ bs) h

    by : (x : Bool) → HasNoLf (unescape bs) → HasNoLf (unescape (c ∷ bs)) → HasNoLf (if x then c ∷ unescape bs else b ∷ unescape (c ∷ bs))
    by true r s = All-cons (λ b. (b == 10) ≡ false) c (unescape bs) (All-head (λ b. (b == 10) ≡ false) c bs after) r
    by false r s = All-cons (λ b. (b == 10) ≡ false) b (unescape (c ∷ bs)) (All-head (λ b. (b == 10) ≡ false) b (c ∷ bs) h) s

unescaped_shorter : (t : List ℕ) → length (unescape t) ≤ length t
unescaped_shorter [] = omega arith
unescaped_shorter (b ∷ []) = omega arith
unescaped_shorter (b ∷ c ∷ bs) = by (b == 92) (unescaped_shorter bs) (unescaped_shorter (c ∷ bs))
  where
    by : (x : Bool) → length (unescape bs) ≤ length bs → length (unescape (c ∷ bs)) ≤ length (c ∷ bs) → length (if x then c ∷ unescape bs else b ∷ unescape (c ∷ bs)) ≤ length (b ∷ c ∷ bs)
    by true r s = omega arith
    by false r s = omega arith

spelled : (text : List ℕ) (x : Lexeme) → IsLineText text → Spells text x → IsLineLexeme x
spelled text (AWord w) h (is, some, bytes) = subst IsLineText is h
spelled text (AQuoted t) h (q, quote, inside, is) =
    let whole : IsLineText (q ∷ t ++ q ∷ []) = subst IsLineText is h in
    let within = whole.within in
    let long = length-append t (q ∷ []) in
    let shorter = unescaped_shorter t in
    let one : HasNoLf t = all_front (λ b. (b == 10) ≡ false) t (q ∷ []) (All-tail (λ b. (b == 10) ≡ false) q (t ++ q ∷ []) whole.one_line) in
    record { within = omega arith; one_line = unescaped t one }
spelled text (AnOp o) h s = tt

-- the tokens of a line
pub cut_line : {line : List ℕ} {ts : List Lexeme} {out : Option TextFault} → IsLineText line → IsCut line ts out → All IsLineLexeme ts
cut_line h (ended e) = All-nil IsLineLexeme
cut_line h (stuck s) = All-nil IsLineLexeme
cut_line {line} h (skipped b c) = cut_line (after_part line 1 h) c
cut_line {line} h (taken {n = n} {x = x} {ts = ts} t c) = All-cons IsLineLexeme x ts (spelled (take n line) x (front_part line n h) t.spelled) (cut_line (after_part line n h) c)

-- The same as the grammar sees them.
abbrev pub IsLineAtom : Atom → Type 0
IsLineAtom (WordAtom w) = IsLineText w
IsLineAtom (QuotedAtom t) = IsLineText (unescape t)

abbrev pub IsLineTerminal : Terminal → Type 0
IsLineTerminal (OperandToken a) = IsLineAtom a
IsLineTerminal (Compares o) = Unit {0}
IsLineTerminal Bang = Unit {0}
IsLineTerminal (Joins c) = Unit {0}
IsLineTerminal Open = Unit {0}
IsLineTerminal Close = Unit {0}
IsLineTerminal Keyword = Unit {0}

op_line : (o : Op) → IsLineTerminal (op_terminal o)
op_line op.Eq = tt
op_line op.Ne = tt
op_line op.Lt = tt
op_line op.Gt = tt
op_line op.Le = tt
op_line op.Ge = tt
op_line op.Not = tt
op_line op.And = tt
op_line op.Or = tt
op_line op.LParen = tt
op_line op.RParen = tt

terminal_line : (x : Lexeme) → IsLineLexeme x → IsLineTerminal (terminal_of x)
terminal_line (AWord w) h = by (same_name w if_word)
  where
    by : (b : Bool) → IsLineTerminal (if b then Keyword else OperandToken (WordAtom w))
    by true = tt
    by false = h
terminal_line (AQuoted t) h = h
terminal_line (AnOp o) h = op_line o

pub terminal_lines : (ts : List Lexeme) → All IsLineLexeme ts → All IsLineTerminal (terminals ts)
terminal_lines [] h = All-nil IsLineTerminal
terminal_lines (t ∷ ts) h = All-cons IsLineTerminal (terminal_of t) (terminals ts) (terminal_line t (All-head IsLineLexeme t ts h)) (terminal_lines ts (All-tail IsLineLexeme t ts h))

-- the names that they mention
word_line : (w : List ℕ) (b : Bool) → IsLineText w → All IsLineText (if b then [] else w ∷ [])
word_line w true h = All-nil IsLineText
word_line w false h = All-cons IsLineText w [] h (All-nil IsLineText)

pub atom_lines : (a : Atom) → IsLineAtom a → All IsLineText (names_in_atom a)
atom_lines (WordAtom w) h = word_line w (is_tristate_constant w) h
atom_lines (QuotedAtom t) h = All-nil IsLineText

mentioned_by : (t : Terminal) → IsLineTerminal t → All IsLineText (names_in_terminal t)
mentioned_by (OperandToken a) h = atom_lines a h
mentioned_by (Compares o) h = All-nil IsLineText
mentioned_by Bang h = All-nil IsLineText
mentioned_by (Joins c) h = All-nil IsLineText
mentioned_by Open h = All-nil IsLineText
mentioned_by Close h = All-nil IsLineText
mentioned_by Keyword h = All-nil IsLineText

pub word_lines : (ts : List Terminal) → All IsLineTerminal ts → All IsLineText (names_in_terminals ts)
word_lines [] h = All-nil IsLineText
word_lines (t ∷ ts) h = All-append IsLineText (names_in_terminal t) (names_in_terminals ts) (mentioned_by t (All-head IsLineTerminal t ts h)) (word_lines ts (All-tail IsLineTerminal t ts h))

-- Their value: a constant that stands alone is one of their texts.
leaf_by : (number : List ℕ → ℕ) (w : List ℕ) (b : Bool) → is_tristate_constant w ≡ b → IsLineText w → IsLineForm (lone_form false (leaf number (WordAtom w)))
leaf_by number w true e h = rw e h
leaf_by number w false e h = rw e tt

leaf_line : (number : List ℕ → ℕ) (a : Atom) → IsLineAtom a → IsLineForm (lone_form false (leaf number a))
leaf_line number (WordAtom w) h = leaf_by number w (is_tristate_constant w) refl h
leaf_line number (QuotedAtom t) h = h

mutual
  pub value_line : {c : _} (number : List ℕ → ℕ) (d : Chain c) → All IsLineTerminal (spell d) → IsLineForm (meaning false number d)
  value_line number (only p) h = part_value number p h
  value_line number (joined (negation n) ps) h = tt
  value_line number (joined (conjunction ps) qs) h = tt

  part_value : {c : _} (number : List ℕ → ℕ) (p : Part c) → All IsLineTerminal (spell_part p) → IsLineForm (meaning_part false number p)
  part_value number (negation n) h = not_value number n h
  part_value number (conjunction ps) h = value_line number ps h

  not_value : (number : List ℕ → ℕ) (n : Negation) → All IsLineTerminal (spell_not n) → IsLineForm (meaning_not false number n)
  not_value number (bang n) h = tt
  not_value number (group d) h = value_line number d (all_front IsLineTerminal (spell d) (Close ∷ []) (All-tail IsLineTerminal Open (spell d ++ Close ∷ []) h))
  not_value number (lone a) h = leaf_line number a (All-head IsLineTerminal (OperandToken a) [] h)
  not_value number (compare o a b) h = tt
