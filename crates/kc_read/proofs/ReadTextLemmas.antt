-- The texts of an expanded list: each stands in one line of a Kconfig file.
use Rattle.std.proofs.{Common.{Bool, Err, List, MatchOption, None, Ok, Option, Result, Some, [], codes, drop, false, if◌then◌else◌, inl, inr, refl, subst, sym, true, ℕ, ◌++◌, ◌||◌, ◌∷◌, ◌≡◌}, lemmas.List.{Elements.{All-append, All-cons, All-drop, All-head, All-nil, All-push}, map-append}}
use Rattle.std.specs.Prelude.{All}
use Rattle.kc_language.specs.{Expansion.{Expands, FileContext, Files, NextLine, ReadSoFar, Reading, Refused, Rest, at_end, at_root, blank, bytes_cause, context_of, goes_on, moved, refusal_at, refused, refused_inside, renumbered, source, statement, unclosed, with_line, without_help}, Expressions.{Atom, Disjunction, QuotedAtom, WordAtom, if_word, names_in, names_in_atom, same_name, spell}, Lines.{UnreadLines, unread_lines}, Statements.{After, Cause, ChoiceLine, CommentLine, ConfigLine, DefLine, DefaultLine, DependsLine, EndChoiceLine, EndIfLine, EndMenuLine, Front, HelpLine, IfLine, IgnoredLine, ImplyLine, InputPrompt, IsCondition, LineContext, Located, MainMenuLine, MenuLine, ModulesLine, Named, PromptLine, RangeLine, ReadsCondition, ReadsLine, ReadsPrompt, ReadsRest, ReadsTextLine, ReadsValue, ReadsWhole, SelectLine, SourceLine, StartsExpression, Statement, TypeLine, VisibleLine, begins_with, finish, in_place, is_good_name, keyword_of, keyword_or_refusal, named_target, names_in_condition, names_in_statement, operand_of, option_line, placement_cause, plain_text, statements, text_of, word_of}, Text.unescape, Tokens.{AQuoted, AWord, AnOp, Lexeme}, declared.{expressions.SymbolType.SymbolType, statements.Keyword.Keyword, tokens.TextFault.TextFault}}
use Rattle.kc_expr.specs.PartsOfExpressions.{is_tristate_constant, terminals}
use Rattle.kc_language.specs.declared.diagnostics.Cause.TheVariants as cause
use Rattle.kc_language.specs.declared.statements.Keyword.TheVariants as key
use Rattle.kc_entries.specs.{PartsOfExpansion.is_help, PartsOfStatements.{IsWhole, ReadsPlaced, ReadsTarget, ReadsType, choice_line, expected, front, good_name, value_form}, WellFormed.{IsLineForm, IsLineText}}
use Rattle.kc_read.proofs.{LineTextLemmas.{AreOneLine, IsLineAtom, IsLineLexeme, IsLineTerminal, all_front, atom_lines, cut_line, file_lines, helped, taken_line, terminal_lines, value_line, word_lines}, TurnLemmas.after}

-- a value whose constant, where one stands alone, is one line's text
abbrev pub IsLineValue : Disjunction → Type 0
IsLineValue d = (number : List ℕ → ℕ) → IsLineForm (value_form number d)

-- the texts that a tree takes over from a statement, where V holds of a default's value
abbrev pub HasTexts : {E L S : Type 0} → (E → Type 0) → Statement E L S → Type 0
HasTexts V (CommentLine t) = IsLineText t
HasTexts V (MenuLine t) = IsLineText t
HasTexts V (MainMenuLine t) = IsLineText t
HasTexts V (DefaultLine v w) = V v
HasTexts V (DefLine k v w) = V v
HasTexts V _ = Unit {0}

-- they are one line's texts, and so are the names that the statement mentions
pub record IsInLines (s : Named) : Type 0 where
  pub texts : HasTexts IsLineValue s
  pub names : All IsLineText (names_in_statement s)

-- A part that is one token.
abbrev AreInLine : List Lexeme → Type 0
AreInLine = All IsLineLexeme

unless_word : (w t : List ℕ) (b : Bool) → IsLineText w → ◌≡◌ {A = Result (List ℕ) Cause} (if b then Err cause.Syntax else Ok w) (Ok t) → IsLineText t
unless_word w t true h e = absurd cc
unless_word w t false h e = let same : w ≡ t = cc in subst IsLineText same h

text_line : (ts : List Lexeme) (t : List ℕ) → AreInLine ts → text_of ts ≡ Ok t → IsLineText t
text_line [] t h e = absurd cc
text_line (AWord w ∷ ts) t h e = unless_word w t (same_name w if_word) (All-head IsLineLexeme (AWord w) ts h) e
text_line (AQuoted q ∷ ts) t h e =
    let same : unescape q ≡ t = cc in
    subst IsLineText same (All-head IsLineLexeme (AQuoted q) ts h)
text_line (AnOp o ∷ ts) t h e = absurd cc

word_line : (ts : List Lexeme) (w : List ℕ) → AreInLine ts → word_of ts ≡ Ok w → IsLineText w
word_line [] w h e = absurd cc
word_line (AWord v ∷ ts) w h e = let same : v ≡ w = cc in subst IsLineText same (All-head IsLineLexeme (AWord v) ts h)
word_line (AQuoted q ∷ ts) w h e = absurd cc
word_line (AnOp o ∷ ts) w h e = absurd cc

target_line : (ts : List Lexeme) (w : List ℕ) → AreInLine ts → named_target ts ≡ Ok w → IsLineText w
target_line [] w h e = absurd cc
target_line (AWord v ∷ ts) w h e = unless_word v w (same_name v if_word || is_tristate_constant v) (All-head IsLineLexeme (AWord v) ts h) e
target_line (AQuoted q ∷ ts) w h e = absurd cc
target_line (AnOp o ∷ ts) w h e = absurd cc

unless_atom : (w : List ℕ) (a : Atom) (b : Bool) → IsLineText w → ◌≡◌ {A = Result Atom Cause} (if b then Err cause.Syntax else Ok (WordAtom w)) (Ok a) → IsLineAtom a
unless_atom w a true h e = absurd cc
unless_atom w a false h e = let same : WordAtom w ≡ a = cc in subst IsLineAtom same h

operand_line : (ts : List Lexeme) (a : Atom) → AreInLine ts → operand_of ts ≡ Ok a → IsLineAtom a
operand_line [] a h e = absurd cc
operand_line (AWord w ∷ ts) a h e = unless_atom w a (same_name w if_word) (All-head IsLineLexeme (AWord w) ts h) e
operand_line (AQuoted q ∷ ts) a h e = let same : QuotedAtom q ≡ a = cc in subst IsLineAtom same (All-head IsLineLexeme (AQuoted q) ts h)
operand_line (AnOp o ∷ ts) a h e = absurd cc

-- Expressions.
abbrev AreTerminals : Disjunction → Type 0
AreTerminals d = All IsLineTerminal (spell d)

started : (ts : List Lexeme) (f : Front) → AreInLine ts → StartsExpression ts f → AreTerminals f.tree
started ts f h s = all_front IsLineTerminal (spell f.tree) (terminals f.rest) (subst (All IsLineTerminal) s.longest.whole (terminal_lines ts h))

left_over : (ts : List Lexeme) (f : Front) → AreInLine ts → StartsExpression ts f → AreInLine f.rest
left_over ts f h s = subst AreInLine (sym s.rest_is) (All-drop IsLineLexeme s.used ts h)

whole_names : (ts : List Lexeme) (d : Disjunction) → AreInLine ts → IsWhole ts d → All IsLineText (names_in d)
whole_names ts d h s = word_lines (spell d) (started ts (front d []) h s)

condition_names : (ts : List Lexeme) (w : Option Disjunction) → AreInLine ts → IsCondition ts w → All IsLineText (names_in_condition w)
condition_names ts None h c = All-nil IsLineText
condition_names ts (Some d) h c = whole_names (drop 1 ts) d (All-drop IsLineLexeme 1 ts h) c.1

expected_by : (ts us : List Lexeme) (b : Bool) → AreInLine ts → ◌≡◌ {A = Result (List Lexeme) Cause} (if b then Ok (drop 1 ts) else Err cause.Syntax) (Ok us) → AreInLine us
expected_by ts us true h e = let same : drop 1 ts ≡ us = cc in subst AreInLine same (All-drop IsLineLexeme 1 ts h)
expected_by ts us false h e = absurd cc

expected_line : (w : List ℕ) (ts us : List Lexeme) → AreInLine ts → expected w ts ≡ Ok us → AreInLine us
expected_line w ts us h e = expected_by ts us (begins_with w ts) h e

-- Statements.
same_lines : (s x : Named) → s ≡ x → IsInLines x → IsInLines s
same_lines s x e h = subst IsInLines (sym e) h

without_names : (s : Named) → HasTexts IsLineValue s → names_in_statement s ≡ [] → IsInLines s
without_names s t e = record { texts = t; names = subst (All IsLineText) (sym e) (All-nil IsLineText) }

finished : (x s : Named) (ts : List Lexeme) → IsInLines x → Ok s ≡ finish x ts → IsInLines s
finished x s [] h e = same_lines s x (let same : s ≡ x = cc in same) h
finished x s (t ∷ ts) h e = absurd cc

whole : (make : Disjunction → Named) (ts : List Lexeme) (s : Named) → AreInLine ts → ((d : Disjunction) → All IsLineText (names_in d) → IsInLines (make d)) → ReadsWhole make ts (Ok s) → IsInLines s
whole make ts s l k h = same_lines s (make h.0) h.2 (k h.0 (whole_names ts h.0 l h.1))

condition : (make : Option Disjunction → Named) (ts : List Lexeme) (s : Named) → AreInLine ts →
    ((w : Option Disjunction) → All IsLineText (names_in_condition w) → IsInLines (make w)) → ReadsCondition make ts (Ok s) → IsInLines s
condition make ts s l k h = same_lines s (make h.0) h.2 (k h.0 (condition_names ts h.0 l h.1))

value : (make : Disjunction → Option Disjunction → Named) (ts : List Lexeme) (s : Named) → AreInLine ts →
    ((d : Disjunction) (w : Option Disjunction) → IsLineValue d → All IsLineText (names_in d ++ names_in_condition w) → IsInLines (make d w)) →
    ReadsValue make ts (Ok s) → IsInLines s
value make ts s l k (f, w, starts, asks, is) =
    let spelled = started ts f l starts in
    same_lines s (make f.tree w) is (k f.tree w (λ number. value_line number f.tree spelled)
    (All-append IsLineText (names_in f.tree) (names_in_condition w) (word_lines (spell f.tree) spelled)
    (condition_names f.rest w (left_over ts f l starts) asks)))

text : (make : List ℕ → Named) (ts : List Lexeme) (s : Named) → AreInLine ts → ((t : List ℕ) → IsLineText t → IsInLines (make t)) → ReadsTextLine make ts (Ok s) → IsInLines s
text make ts s l k h =
    after (text_of ts) (λ t r. r ≡ finish (make t) (drop 1 ts)) s (IsInLines s) h (λ t e f. finished (make t) s (drop 1 ts) (k t (text_line ts t l e)) f)

asked : (make : InputPrompt Disjunction → Named) (ts : List Lexeme) (s : Named) → AreInLine ts →
    ((p : InputPrompt Disjunction) → All IsLineText (names_in_condition p.when) → IsInLines (make p)) → ReadsPrompt make ts (Ok s) → IsInLines s
asked make ts s l k h =
    after (text_of ts) (λ t. ReadsCondition (λ w. make (record { text = t; when = w })) (drop 1 ts)) s (IsInLines s) h
    (λ t e f. condition (λ w. make (record { text = t; when = w })) (drop 1 ts) s (All-drop IsLineLexeme 1 ts l) (λ w n. k (record { text = t; when = w }) n) f)

typed : (k : SymbolType) (ts : List Lexeme) (s : Named) → AreInLine ts → ReadsType k ts (Ok s) → IsInLines s
typed k ts s l (inl h) =
    same_lines s (TypeLine k None) (let e : ◌≡◌ {A = Result Named Cause} (Ok s) (Ok (TypeLine k None)) = h.1 in let same : s ≡ TypeLine k None = cc in same) (without_names (TypeLine k None) tt refl)
typed k ts s l (inr h) = asked (λ p. TypeLine k (Some p)) ts s l (λ p n. record { texts = tt; names = n }) h.1

named : (w : List ℕ) (s : Named) (b : Bool) → IsLineText w → ◌≡◌ {A = Result Named Cause} (Ok s) (if b then Ok (ConfigLine w) else Err (cause.BadName w)) → IsInLines s
named w s true h e =
    same_lines s (ConfigLine w) (let same : s ≡ ConfigLine w = cc in same) (record { texts = tt; names = All-cons IsLineText w [] h (All-nil IsLineText) })
named w s false h e = absurd cc

still_word : (v w : List ℕ) (ts : List Lexeme) → IsLineText v → finish v ts ≡ Ok w → IsLineText w
still_word v w [] h e = let same : v ≡ w = cc in subst IsLineText same h
still_word v w (t ∷ ts) h e = absurd cc

choice : (ts : List Lexeme) (s : Named) → Ok s ≡ choice_line ts → IsInLines s
choice [] s h = same_lines s ChoiceLine (let same : s ≡ ChoiceLine = cc in same) (without_names ChoiceLine tt refl)
choice (t ∷ ts) s h = absurd cc

option : (ts : List Lexeme) (s : Named) → Ok s ≡ option_line ts → IsInLines s
option ts s h = by (begins_with (codes "modules") ts) (begins_with (codes "allnoconfig_y") ts) (begins_with (codes "env") ts) (begins_with (codes "defconfig_list") ts) h
  where
    by : (a b c d : Bool) → ◌≡◌ {A = Result Named Cause} (Ok s)
        (if a then finish ModulesLine (drop 1 ts) else if b then finish IgnoredLine (drop 1 ts) else if c then Err (cause.LeftOut (codes "option env"))
        else if d then Err (cause.LeftOut (codes "option defconfig_list")) else Err cause.Syntax) → IsInLines s
    by true b c d e = finished ModulesLine s (drop 1 ts) (without_names ModulesLine tt refl) e
    by false true c d e = finished IgnoredLine s (drop 1 ts) (without_names IgnoredLine tt refl) e
    by false false true d e = absurd cc
    by false false false true e = absurd cc
    by false false false false e = absurd cc

target : (make : List ℕ → Option Disjunction → Named) (ts : List Lexeme) (s : Named) → AreInLine ts →
    ((t : List ℕ) (w : Option Disjunction) → All IsLineText (t ∷ names_in_condition w) → IsInLines (make t w)) → ReadsTarget make ts (Ok s) → IsInLines s
target make ts s l k h =
    after (named_target ts) (λ t. ReadsCondition (make t) (drop 1 ts)) s (IsInLines s) h
    (λ t e f. condition (make t) (drop 1 ts) s (All-drop IsLineLexeme 1 ts l) (λ w n. k t w (All-cons IsLineText t (names_in_condition w) (target_line ts t l e) n)) f)

rest_of : (w : List ℕ) (k : Keyword) (ts : List Lexeme) (s : Named) → AreInLine ts → ReadsRest w k ts (Ok s) → IsInLines s
rest_of w key.Config ts s l h =
    after (word_of ts) (λ v. After (finish v (drop 1 ts)) (λ u r. r ≡ good_name u)) s (IsInLines s) h
    (λ v e f. after (finish v (drop 1 ts)) (λ u r. r ≡ good_name u) s (IsInLines s) f (λ u g m. named u s (is_good_name u) (still_word v u (drop 1 ts) (word_line ts v l e) g) m))
rest_of w key.If ts s l h = whole IfLine ts s l (λ d n. record { texts = tt; names = n }) h
rest_of w key.EndIf ts s l h = finished EndIfLine s ts (without_names EndIfLine tt refl) h
rest_of w key.Comment ts s l h = text CommentLine ts s l (λ t i. without_names (CommentLine t) i refl) h
rest_of w key.Source ts s l h =
    after (text_of ts) (λ t. After (plain_text t) (λ u r. r ≡ finish (SourceLine u) (drop 1 ts))) s (IsInLines s) h
    (λ t e f. after (plain_text t) (λ u r. r ≡ finish (SourceLine u) (drop 1 ts)) s (IsInLines s) f (λ u g m. finished (SourceLine u) s (drop 1 ts) (without_names (SourceLine u) tt refl) m))
rest_of w key.Menu ts s l h = text MenuLine ts s l (λ t i. without_names (MenuLine t) i refl) h
rest_of w key.EndMenu ts s l h = finished EndMenuLine s ts (without_names EndMenuLine tt refl) h
rest_of w key.Choice ts s l h = choice ts s h
rest_of w key.EndChoice ts s l h = finished EndChoiceLine s ts (without_names EndChoiceLine tt refl) h
rest_of w key.MainMenu ts s l h = text MainMenuLine ts s l (λ t i. without_names (MainMenuLine t) i refl) h
rest_of w (key.Type k) ts s l h = typed k ts s l h
rest_of w key.Prompt ts s l h = asked PromptLine ts s l (λ p n. record { texts = tt; names = n }) h
rest_of w key.Default ts s l h = value DefaultLine ts s l (λ d c v n. record { texts = v; names = n }) h
rest_of w (key.Def k) ts s l h = value (DefLine k) ts s l (λ d c v n. record { texts = v; names = n }) h
rest_of w key.Depends ts s l h =
    after (expected (codes "on") ts) (λ us. ReadsWhole DependsLine us) s (IsInLines s) h
    (λ us e f. whole DependsLine us s (expected_line (codes "on") ts us l e) (λ d n. record { texts = tt; names = n }) f)
rest_of w key.Visible ts s l h =
    after (expected if_word ts) (λ us. ReadsWhole VisibleLine us) s (IsInLines s) h (λ us e f. whole VisibleLine us s (expected_line if_word ts us l e) (λ d n. record { texts = tt; names = n }) f)
rest_of w key.Select ts s l h = target SelectLine ts s l (λ t c n. record { texts = tt; names = n }) h
rest_of w key.Imply ts s l h = target ImplyLine ts s l (λ t c n. record { texts = tt; names = n }) h
rest_of w key.Range ts s l h =
    after (operand_of ts) (λ a. After (operand_of (drop 1 ts)) (λ b. ReadsCondition (RangeLine a b) (drop 2 ts))) s (IsInLines s) h
    (λ a e f. after (operand_of (drop 1 ts)) (λ b. ReadsCondition (RangeLine a b) (drop 2 ts)) s (IsInLines s) f
    (λ b g m. condition (RangeLine a b) (drop 2 ts) s (All-drop IsLineLexeme 2 ts l) (λ c n. record {
      texts = tt;
      names = All-append IsLineText (names_in_atom a) (names_in_atom b ++ names_in_condition c) (atom_lines a (operand_line ts a l e))
          (All-append IsLineText (names_in_atom b) (names_in_condition c) (atom_lines b (operand_line (drop 1 ts) b (All-drop IsLineLexeme 1 ts l) g)) n);
    }) m))
rest_of w key.Help ts s l h = finished HelpLine s ts (without_names HelpLine tt refl) h
rest_of w key.Modules ts s l h = finished ModulesLine s ts (without_names ModulesLine tt refl) h
rest_of w key.«Option» ts s l h = option ts s h
rest_of w key.LeftOut ts s l h = absurd (let e : ◌≡◌ {A = Result Named Cause} (Ok s) (Err (cause.LeftOut w)) = h in cc)

line_of : (c : LineContext) (ts : List Lexeme) (s : Named) → AreInLine ts → ReadsLine c ts (Ok s) → IsInLines s
line_of c ts s l h =
    after (word_of ts) (λ w. After (keyword_or_refusal (keyword_of w)) (ReadsPlaced c w (drop 1 ts))) s (IsInLines s) h
    (λ w e f. after (keyword_or_refusal (keyword_of w)) (ReadsPlaced c w (drop 1 ts)) s (IsInLines s) f
    (λ k g m. after (in_place k (placement_cause c w (drop 1 ts) k)) (λ j. ReadsRest w j (drop 1 ts)) s (IsInLines s) m (λ j i n. rest_of w j (drop 1 ts) s (All-drop IsLineLexeme 1 ts l) n)))

-- The next line: its tokens, and what is left after it.
after_help_lines : (m : UnreadLines) (b : Bool) → AreOneLine m.lines → AreOneLine (if b then without_help m else m).lines
after_help_lines m true h = helped m.lines h
after_help_lines m false h = h

next_line : {flat : Bool} (l m : UnreadLines) (ts : List Lexeme) (out : Option TextFault) → NextLine flat l m ts out → AreOneLine l.lines → AreInLine ts × AreOneLine m.lines
next_line l m ts out n h =
    let taken = taken_line l n.middle n.text n.taken h in
    (cut_line taken.0 n.cut.cut, subst (λ (r : UnreadLines). AreOneLine r.lines) (sym n.left_after) (after_help_lines n.middle (is_help ts) taken.1))

abbrev AreInLines : List (Located Named) → Type 0
AreInLines ls = All IsInLines (statements ls)

with_next : (ls : List (Located Named)) (a : FileContext) (n : ℕ) (s : Named) → IsInLines s → AreInLines ls → AreInLines (with_line ls a n s)
with_next ls a n s i h =
    subst (All IsInLines) (sym (map-append (λ l. l.statement) ls (record { file = a.file; line = n; statement = s } ∷ []))) (All-push IsInLines (statements ls) s h i)

module _ (files : Files) where
  abbrev Outcome : Result ReadSoFar Refused → Type 0
  Outcome (Ok log) = AreInLines log.lines
  Outcome (Err r) = Unit {0}

  rest_lines : {at : Reading} {r : Result ReadSoFar Refused} → Rest files at r → AreOneLine at.unread.lines → AreInLines at.log.lines → Outcome r
  rest_lines (at_end at e o) h k = k
  rest_lines (unclosed at line e u) h k = tt
  rest_lines (refused at c here) h k = tt
  rest_lines (goes_on at next r (blank m n) rest) h k = rest_lines rest (next_line at.unread m [] None n.0 h).1 k
  rest_lines (goes_on at next r (renumbered m n marks) rest) h k = rest_lines rest (next_line at.unread m [] None marks.0 h).1 k
  rest_lines (goes_on at next r (moved m n name marks differs) rest) h k = rest_lines rest (next_line at.unread m [] None marks.0 h).1 k
  rest_lines (goes_on at next r (statement m s n modeless effect) rest) h k =
      let found = next_line at.unread m n.tokens None n.next h in
      rest_lines rest found.1 (with_next at.log.lines at.context at.unread.number s (line_of (context_of at.context at.own at.log) n.tokens s found.0 n.reads) k)
  rest_lines (refused_inside at f e inner) h k = tt
  rest_lines (source at f more r inner rest) h k =
      rest_lines rest (next_line at.unread f.after f.next.tokens None f.next.next h).1 (rest_lines inner (file_lines f.bytes) k)

  by_bytes : (root : List ℕ) (log : ReadSoFar) (o : Option Cause) →
      MatchOption o ((bytes : List ℕ) × (files.bytes root ≡ Some bytes)
      × Rest files (at_root files root bytes) (Ok log)) (λ c. Ok log ≡ Err (refusal_at c root 0)) →
      AreInLines log.lines
  by_bytes root log None h = rest_lines h.2 (file_lines h.0) (All-nil IsInLines)
  by_bytes root log (Some c) h = absurd (let e : ◌≡◌ {A = Result ReadSoFar Refused} (Ok log) (Err (refusal_at c root 0)) = h in cc)

  -- each statement of an expanded list is what a line says
  pub expanded_lines : (root : List ℕ) (log : ReadSoFar) → Expands files root (Ok log) → All IsInLines (statements log.lines)
  expanded_lines root log h = by_bytes root log (bytes_cause root 0 (files.bytes root)) h
