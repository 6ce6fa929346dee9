-- A tool for the example of a whole run: a file without `source` lines opens no other file.
use Rattle.std.proofs.Common.{◌≡◌, refl, sym, ◌∙◌, ap, subst, true≢false, arith, inl, inr}
use Rattle.std.proofs.lemmas.List.{append-nil}
use Rattle.std.proofs.lemmas.Slice.Eq.{bytes_eq-Decides}
use Rattle.std.specs.List.{list_all, list_any}
use Rattle.std.specs.Map.{lookup}
use Rattle.std.specs.Prelude.{Bool, Err, List, None, Ok, Option, Result, Some, [], bytes_eq, codes, drop, false, if◌then◌else◌, is_some, length, not, suc, slice_index, take, true, zero, ℕ, ◌&&◌, ◌++◌, ◌-◌, ◌==◌, ◌||◌, ◌∷◌}
use Rattle.kc_language.specs.Expansion.{Files, NextLine, NextStatement, ReadSoFar, Reading, Refused, Rest, at_end, blank, goes_on, moved, renumbered, source, statement, without_help}
use Rattle.kc_language.specs.Expressions.{Disjunction, if_word}
use Rattle.kc_language.specs.Lines.{AreJoined, Physical, UnreadLines, after_help, after_text, column, continues, from_other, is_help_line, joined_text}
use Rattle.kc_language.specs.Statements.{After, Cause, ChoiceLine, CommentLine, ConfigLine, DefLine, DefaultLine, DependsLine, IfLine, IgnoredLine, ImplyLine, InputPrompt, LineContext, MainMenuLine, MenuLine, ModulesLine, Named, PromptLine, RangeLine, ReadsLine, ReadsCondition, ReadsPrompt, ReadsRest, ReadsWhole, ReadsTextLine, SelectLine, SourceLine, TypeLine, VisibleLine, begins_with, finish, is_good_name, keyword_of, keyword_words, named_target, operand_of, option_line, placement_cause, text_of, word_of}
use Rattle.kc_language.specs.Tokens.{AQuoted, AWord, AnOp, IsCut, Lexeme, ended, is_blank, skipped, stuck, taken}
use Rattle.kc_language.specs.declared.diagnostics.Cause.TheVariants as cause
use Rattle.kc_language.specs.declared.statements.Keyword.{Keyword}
use Rattle.kc_language.specs.declared.statements.Keyword.TheVariants as key
use Rattle.kc_language.specs.declared.tokens.TextFault.{TextFault}
use Rattle.kc_language.proofs.ExampleTools.{both, not_true}

-- ---- The first byte of a line that is no blank, and of its first token if that is a word

abbrev pub first_byte : List ℕ → ℕ
first_byte [] = 0
first_byte (b ∷ bs) = if is_blank b then first_byte bs else b

lead : List Lexeme → ℕ
lead (AWord w ∷ ts) = slice_index w 0
lead _ = 0

word_leads : (rest w : List ℕ) (n : ℕ) → take n rest ≡ w → slice_index w 0 ≡ 115 → first_byte rest ≡ 115
word_leads [] w zero e s = absurd (omega (arith, s, ap (λ v. slice_index v 0) e))
word_leads [] w (suc n) e s = absurd (omega (arith, s, ap (λ v. slice_index v 0) e))
word_leads (b ∷ bs) w zero e s = absurd (omega (arith, s, ap (λ v. slice_index v 0) e))
word_leads (b ∷ bs) w (suc n) e s = subst (λ c. first_byte (c ∷ bs) ≡ 115) (sym (ap (λ v. slice_index v 0) e ∙ s)) refl

after_blank : (text : List ℕ) → is_blank (slice_index text 0) ≡ true → first_byte (drop 1 text) ≡ 115 → first_byte text ≡ 115
after_blank [] e h = absurd (true≢false (sym e))
after_blank (b ∷ bs) e h = ap (λ c. if c then first_byte bs else b) e ∙ h

lead_is : {text : List ℕ} {ts : List Lexeme} {o : Option TextFault} → IsCut text ts o → lead ts ≡ 115 → first_byte text ≡ 115
unfolding lead
lead_is (ended e) h = absurd (omega (arith, h))
lead_is (stuck e) h = absurd (omega (arith, h))
lead_is {text} (skipped e c) h = after_blank text e (lead_is c h)
lead_is {text} (taken {n = n} {x = AWord w} l c) h = word_leads text w n l.spelled.0 h
lead_is (taken {x = AQuoted t} l c) h = absurd (omega (arith, h))
lead_is (taken {x = AnOp o} l c) h = absurd (omega (arith, h))

-- ---- Only a line with the keyword `source` reads as a `source` line

-- The statement is a `source` line; the result is one; the keyword is `source`.
abbrev pub is_source : Named → Bool
is_source s = elim s [ SourceLine t ↦ true | _ ↦ false ]

is_ok_source : Result Named Cause → Bool
is_ok_source (Ok s) = is_source s
is_ok_source (Err c) = false

is_source_key : Keyword → Bool
is_source_key = elim [ key.Source ↦ true | _ ↦ false ]

or_false : (b : Bool) → (b || false) ≡ true → b ≡ true
or_false true e = e
or_false false e = e

by_test : (b : Bool) (x k : Keyword) (rest : Option Keyword) (more : Bool) → (if b then Some x else rest) ≡ Some k → is_source_key k ≡ true →
    (rest ≡ Some k → more ≡ true) → (is_source_key x && b || more) ≡ true
by_test true x k rest more e s f = ap (λ c. c && true || more) (ap key_of e ∙ s)
  where
    key_of : Option Keyword → Bool
    key_of None = false
    key_of (Some y) = is_source_key y
by_test false x k rest more e s f = dropped (is_source_key x) ∙ f e
  where
    dropped : (c : Bool) → (c && false || more) ≡ more
    dropped true = refl
    dropped false = refl

lookup_source : (test : List ℕ → Bool) (es : List (List ℕ × Keyword)) (k : Keyword) → lookup test es ≡ Some k → is_source_key k ≡ true →
    list_any (λ e. is_source_key e.1 && test e.0) es ≡ true
lookup_source test [] k e s = absurd (true≢false (sym (ap is_some e)))
lookup_source test (x ∷ es) k e s = by_test (test x.0) x.1 k (lookup test es) _ e s (λ h. lookup_source test es k h s)

module _ (name : List ℕ) where
  abbrev source_line : Result Named Cause
  source_line = Ok (SourceLine name)

  -- What these parts of a line read as is no `source` line.
  not_this : (r : Result Named Cause) → is_ok_source r ≡ false → source_line ≡ r → ⊥
  unfolding is_ok_source
  not_this r is_no e = true≢false (ap is_ok_source e ∙ is_no)

  no_error : (c : Cause) → source_line ≡ Err c → ⊥
  unfolding is_ok_source
  no_error c e = not_this (Err c) refl e

  not_equal : (s : Named) → is_source s ≡ false → ◌≡◌ {A = Named} (SourceLine name) s → ⊥
  not_equal s is_no e = true≢false (ap is_source e ∙ is_no)

  not_finish : (s : Named) (ts : List Lexeme) → is_source s ≡ false → source_line ≡ finish s ts → ⊥
  unfolding is_ok_source
  not_finish s [] is_no = not_this (Ok s) is_no
  not_finish s (t ∷ ts) is_no = not_this (Err cause.Syntax) refl

  not_after : {A : Type 0} (o : Result A Cause) (Next : A → Result Named Cause → Type 0) → ((a : A) → Next a source_line → ⊥) →
      After o Next source_line → ⊥
  not_after (Ok a) Next other h = other a h
  not_after (Err c) Next other h = no_error c h

  not_if : (b : Bool) (x y : Result Named Cause) → is_ok_source x ≡ false → is_ok_source y ≡ false → is_ok_source (if b then x else y) ≡ false
  not_if true x y e f = e
  not_if false x y e f = f

  finish_no : (s : Named) (ts : List Lexeme) → is_source s ≡ false → is_ok_source (finish s ts) ≡ false
  unfolding is_ok_source
  finish_no s [] e = e
  finish_no s (t ∷ ts) e = refl

  not_choice : (ts : List Lexeme) → is_ok_source (elim ts [ [] ↦ Ok ChoiceLine | _ ↦ Err (cause.LeftOut (codes "named choice")) ]) ≡ false
  unfolding is_ok_source
  not_choice [] = refl
  not_choice (t ∷ ts) = refl

  not_option : (ts : List Lexeme) → is_ok_source (option_line ts) ≡ false
  unfolding is_ok_source
  not_option ts = not_if (begins_with (codes "modules") ts) _ _ (finish_no ModulesLine (drop 1 ts) refl)
      (not_if (begins_with (codes "allnoconfig_y") ts) _ _ (finish_no IgnoredLine (drop 1 ts) refl)
      (not_if (begins_with (codes "env") ts) _ _ refl (not_if (begins_with (codes "defconfig_list") ts) _ _ refl refl)))

  not_text : (make : List ℕ → Named) (ts : List Lexeme) → ((t : List ℕ) → is_source (make t) ≡ false) → ReadsTextLine make ts source_line → ⊥
  not_text make ts other = not_after (text_of ts) (λ t r. ◌≡◌ {A = Result Named Cause} r (finish (make t) (drop 1 ts)))
      (λ t. not_finish (make t) (drop 1 ts) (other t))

  not_prompt : (make : InputPrompt Disjunction → Named) (ts : List Lexeme) → ((p : InputPrompt Disjunction) → is_source (make p) ≡ false) →
      ReadsPrompt make ts source_line → ⊥
  not_prompt make ts other = not_after (text_of ts) (λ t. ReadsCondition (λ w. make (record { text = t; when = w })) (drop 1 ts))
      (λ t h. not_equal (make (record { text = t; when = h.0 })) (other _) h.2)

  not_target : (make : List ℕ → Option Disjunction → Named) (ts : List Lexeme) →
      ((t : List ℕ) (w : Option Disjunction) → is_source (make t w) ≡ false) →
      After (named_target ts) (λ t. ReadsCondition (make t) (drop 1 ts)) source_line → ⊥
  not_target make ts other = not_after (named_target ts) (λ t. ReadsCondition (make t) (drop 1 ts)) (λ t h. not_equal (make t h.0) (other t h.0) h.2)

  not_good : (b : Bool) (v : List ℕ) → source_line ≡ (if b then Ok (ConfigLine v) else Err (cause.BadName v)) → ⊥
  unfolding is_ok_source
  not_good true v = not_this _ refl
  not_good false v = no_error _

  abbrev checked : List ℕ → Result Named Cause → Type 0
  checked v r = ◌≡◌ {A = Result Named Cause} r (if is_good_name v then Ok (ConfigLine v) else Err (cause.BadName v))

  not_config : (ts : List Lexeme) → After (word_of ts) (λ w. After (finish w (drop 1 ts)) checked) source_line → ⊥
  not_config ts = not_after (word_of ts) (λ w. After (finish w (drop 1 ts)) checked)
      (λ w. not_after (finish w (drop 1 ts)) checked (λ v. not_good (is_good_name v) v))

  not_range : (ts : List Lexeme) → After (operand_of ts) (λ a. After (operand_of (drop 1 ts)) (λ b. ReadsCondition (RangeLine a b) (drop 2 ts)))
      source_line → ⊥
  not_range ts = not_after (operand_of ts) (λ a. After (operand_of (drop 1 ts)) (λ b. ReadsCondition (RangeLine a b) (drop 2 ts)))
      (λ a. not_after (operand_of (drop 1 ts)) (λ b. ReadsCondition (RangeLine a b) (drop 2 ts)) (λ b h. not_equal (RangeLine a b h.0) refl h.2))

  -- So of all keywords only `source` begins one, and its first byte is `s`.
  only_source : (w : List ℕ) (k : Keyword) (ts : List Lexeme) → ReadsRest w k ts source_line → is_source_key k ≡ true
  unfolding is_source_key is_ok_source
  only_source w key.Source ts h = refl
  only_source w key.EndIf ts h = absurd (not_finish _ ts refl h)
  only_source w key.EndMenu ts h = absurd (not_finish _ ts refl h)
  only_source w key.EndChoice ts h = absurd (not_finish _ ts refl h)
  only_source w key.Help ts h = absurd (not_finish _ ts refl h)
  only_source w key.Modules ts h = absurd (not_finish _ ts refl h)
  only_source w key.Choice ts h = absurd (not_this _ (not_choice ts) h)
  only_source w key.«Option» ts h = absurd (not_this _ (not_option ts) h)
  only_source w key.Comment ts h = absurd (not_text CommentLine ts (λ t. refl) h)
  only_source w key.Menu ts h = absurd (not_text MenuLine ts (λ t. refl) h)
  only_source w key.MainMenu ts h = absurd (not_text MainMenuLine ts (λ t. refl) h)
  only_source w key.Config ts h = absurd (not_config ts h)
  only_source w (key.Type t) ts (inl h) = absurd (not_this (Ok (TypeLine t None)) refl h.1)
  only_source w (key.Type t) ts (inr h) = absurd (not_prompt (λ p. TypeLine t (Some p)) ts (λ p. refl) h.1)
  only_source w key.Prompt ts h = absurd (not_prompt PromptLine ts (λ p. refl) h)
  only_source w key.Default ts h = absurd (not_equal (DefaultLine _ _) refl h.4)
  only_source w (key.Def t) ts h = absurd (not_equal (DefLine t _ _) refl h.4)
  only_source w key.Select ts h = absurd (not_target SelectLine ts (λ t o. refl) h)
  only_source w key.Imply ts h = absurd (not_target ImplyLine ts (λ t o. refl) h)
  only_source w key.If ts h = absurd (not_equal (IfLine _) refl h.2)
  only_source w key.Depends ts h =
      absurd (not_after (if begins_with (codes "on") ts then Ok (drop 1 ts) else Err cause.Syntax) (ReadsWhole DependsLine) (λ us i. not_equal (DependsLine i.0) refl i.2) h)
  only_source w key.Visible ts h = absurd (not_after (if begins_with if_word ts then Ok (drop 1 ts) else Err cause.Syntax) (ReadsWhole VisibleLine) (λ us i. not_equal (VisibleLine i.0) refl i.2) h)
  only_source w key.Range ts h = absurd (not_range ts h)
  only_source w key.LeftOut ts h = absurd (no_error _ h)

  source_word : (w : List ℕ) → (k : Keyword) → keyword_of w ≡ Some k → is_source_key k ≡ true → slice_index w 0 ≡ 115
  unfolding is_source_key
  source_word w k e s =
      ap (λ v. slice_index v 0) ((bytes_eq-Decides w (codes "source")).0 (or_false _ (lookup_source (bytes_eq w) keyword_words k e s)))

  by_placement : (w : List ℕ) (ts : List Lexeme) (k : Keyword) (p : Option Cause) →
      After (elim p [ None ↦ Ok k | Some why ↦ Err why ]) (λ j. ReadsRest w j ts) source_line → is_source_key k ≡ true
  by_placement w ts k None h = only_source w k ts h
  by_placement w ts k (Some c) h = absurd (no_error c h)

  by_keyword : (w : List ℕ) (ts : List Lexeme) (c : LineContext) (o : Option Keyword) → keyword_of w ≡ o →
      After (elim o [ None ↦ Err cause.Syntax | Some k ↦ Ok k ]) (λ k. After (elim (placement_cause c w ts k) [ None ↦ Ok k | Some why ↦ Err why ])
      (λ j. ReadsRest w j ts)) source_line → slice_index w 0 ≡ 115
  by_keyword w ts c None e h = absurd (no_error _ h)
  by_keyword w ts c (Some k) e h = source_word w k e (by_placement w ts k (placement_cause c w ts k) h)

  reads_source : (c : LineContext) (ts : List Lexeme) → ReadsLine c ts source_line → lead ts ≡ 115
  unfolding lead
  reads_source c [] h = absurd (no_error _ h)
  reads_source c (AWord w ∷ ts) h = by_keyword w ts c (keyword_of w) refl h
  reads_source c (AQuoted t ∷ ts) h = absurd (no_error _ h)
  reads_source c (AnOp o ∷ ts) h = absurd (no_error _ h)

-- ---- A file without such lines

-- The line does not continue, and its first byte that is no blank is no `s`.
abbrev pub opens_none : Physical → Bool
opens_none l = not (continues l) && not (first_byte l.text == 115)

-- Such lines stay such lines where some of them are dropped.
module _ (q : Physical → Bool) where
  all_after : (xs ys : List Physical) → list_all q (xs ++ ys) ≡ true → list_all q ys ≡ true
  all_after [] ys e = e
  all_after (x ∷ xs) ys e = all_after xs ys (both (q x) _ e).1

  all_either : (b : Bool) (xs ys : List Physical) → list_all q xs ≡ true → list_all q ys ≡ true → list_all q (if b then xs else ys) ≡ true
  all_either true xs ys e f = e
  all_either false xs ys e f = f

  all_from : (p : Physical → Bool) (ls : List Physical) → list_all q ls ≡ true → list_all q (from_other p ls) ≡ true
  all_from p [] e = e
  all_from p (l ∷ ls) e = all_either (p l) _ _ (all_from p ls (both (q l) _ e).1) e

  all_text : (ls : List Physical) → list_all q ls ≡ true → list_all q (after_text ls) ≡ true
  all_text [] e = e
  all_text (l ∷ ls) e = all_either (column 0 l.text == 0) _ _ e (all_from (is_help_line (Some (column 0 l.text))) (l ∷ ls) e)

  all_help : (ls : List Physical) → list_all q ls ≡ true → list_all q (after_help ls) ≡ true
  all_help ls e = all_text _ (all_from (is_help_line None) ls e)

-- So no logical line begins with `s`, and the lines after a line are such lines too.
one_text : (front after : List Physical) → AreJoined front → list_all opens_none (front ++ after) ≡ true →
    first_byte (joined_text front) ≡ 115 → ⊥
one_text [] after j e h = j
one_text (l ∷ []) after j e h = let parts = both (not (continues l)) _ (both (opens_none l) _ e).0 in
    let whole : joined_text (l ∷ []) ≡ l.text =
    ap (λ b. (if b then take (length l.text - 1) l.text else l.text) ++ []) (not_true _ parts.0) ∙ append-nil l.text in
    true≢false (sym parts.1 ∙ ap (λ b. not (b == 115)) (sym (ap first_byte whole) ∙ h))
one_text (l ∷ m ∷ more) after j e h = true≢false (sym j.0 ∙ not_true _ (both (not (continues l)) _ (both (opens_none l) _ e).0).0)

help_keeps : (b : Bool) (l m : UnreadLines) → list_all opens_none l.lines ≡ true → m ≡ (if b then without_help l else l) →
    list_all opens_none m.lines ≡ true
help_keeps true l m e is = ap (λ x. list_all opens_none x.lines) is ∙ all_help opens_none l.lines e
help_keeps false l m e is = ap (λ x. list_all opens_none x.lines) is ∙ e

line_keeps : {flat : Bool} {l m : UnreadLines} {ts : List Lexeme} {o : Option TextFault} → NextLine flat l m ts o → list_all opens_none l.lines ≡ true →
    list_all opens_none m.lines ≡ true
line_keeps {m = m} {ts = ts} next e = let front = next.taken.0 in let first = next.taken.1 in
    help_keeps (begins_with (codes "help") ts || begins_with (codes "---help---") ts) next.middle m
    (all_after opens_none front next.middle.lines (ap (list_all opens_none) (sym first.split) ∙ e)) next.left_after

no_source : {flat : Bool} {l m : UnreadLines} {c : LineContext} {name : List ℕ} → NextStatement flat l m c (Ok (SourceLine name)) →
    list_all opens_none l.lines ≡ true → ⊥
no_source {c = c} {name = name} next e = let line = next.next in
    one_text line.taken.0 line.middle.lines line.taken.1.joined (ap (list_all opens_none) (sym line.taken.1.split) ∙ e)
    (ap first_byte (sym line.taken.2) ∙ lead_is line.cut.cut (reads_source name c next.tokens next.reads))

-- The files that are opened up to the end of the file, by induction on how it is read.
opened_in : List (List ℕ) → Result ReadSoFar Refused → List (List ℕ)
opened_in names (Ok log) = log.opened
opened_in names (Err r) = names

opened_stay : {files : Files} {at : Reading} {r : Result ReadSoFar Refused} →
    files.flat ≡ false → Rest files at r → list_all opens_none at.unread.lines ≡ true → opened_in at.log.opened r ≡ at.log.opened
unfolding opened_in
opened_stay f (at_end _ _ _) e = refl
opened_stay f (goes_on _ _ _ (blank _ next) rest) e = opened_stay f rest (line_keeps next.0 e)
opened_stay f (goes_on _ _ _ (renumbered _ _ marks) rest) e = absurd (true≢false (sym marks.1 ∙ f))
opened_stay f (goes_on _ _ _ (moved _ _ _ marks _) rest) e = absurd (true≢false (sym marks.1 ∙ f))
opened_stay f (goes_on _ _ _ (statement _ _ next _ _) rest) e = opened_stay f rest (line_keeps next.next e)
opened_stay f (source _ opens _ _ _ _) e = absurd (no_source opens.next e)
opened_stay f _ e = refl

-- A file with only such lines that is not flat opens no other file.
pub opens_no_other : {files : Files} {at : Reading} {result : ReadSoFar} →
    files.flat ≡ false → Rest files at (Ok result) → list_all opens_none at.unread.lines ≡ true → at.log.opened ≡ result.opened
unfolding opened_in
opens_no_other f rest e = sym (opened_stay f rest e)
