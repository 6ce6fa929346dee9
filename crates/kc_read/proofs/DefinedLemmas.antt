-- The names that an expanded list defines: which they may be, and how many; and that no line of it gives the type that stands
-- for none.
use Rattle.std.proofs.{Common.{Bool, Err, List, MatchOption, None, Ok, Option, Result, Some, [], ap, arith, codes, drop, false, if◌then◌else◌, inl, inr, length, map, nat_lt, refl, subst, suc, sym, true, zero, ℕ, ◌++◌, ◌∙◌, ◌∷◌, ◌≡◌, ◌≤◌}, lemmas.{Bool.Decides.nat_tests, List.{Elements.{All-nil, All-push}, map-append}}}
use Rattle.std.specs.{List.{list_all, list_any, slice_get}, Prelude.All}
use Rattle.kc_read.proofs.{KeywordLemmas.both, StateLemmas.defined_push}
use Rattle.kc_language.specs.{Expansion.{Expands, FileContext, Files, ReadSoFar, Reading, Refused, Rest, at_end, at_root, blank, bytes_cause, context_of, defined_name, goes_on, limit_cause, moved, refusal_at, refused, refused_inside, renumbered, source, statement, unclosed, with_line}, Expressions.{Disjunction, if_word, mention, same_name}, Lines.{UnreadLines, unread_lines}, Statements.{After, Cause, ChoiceLine, CommentLine, ConfigLine, DefLine, DefaultLine, DependsLine, EndChoiceLine, EndIfLine, EndMenuLine, HelpLine, IfLine, IgnoredLine, ImplyLine, InputPrompt, LineContext, Located, MainMenuLine, MenuLine, ModulesLine, Named, PromptLine, RangeLine, ReadsCondition, ReadsLine, ReadsPrompt, ReadsRest, ReadsValue, ReadsWhole, SelectLine, SourceLine, TypeLine, VisibleLine, begins_with, finish, in_place, is_good_name, keyword_of, keyword_or_refusal, keyword_words, named_target, numbered, operand_of, option_line, placement_cause, plain_text, statements, text_of, word_of}, Symbols.stated_type, Tokens.Lexeme, declared.{expressions.SymbolType.SymbolType, statements.Keyword.Keyword}}
use Rattle.kc_language.specs.declared.expressions.SymbolType.TheVariants as symbol_type
use Rattle.kc_language.specs.declared.diagnostics.Cause.TheVariants as cause
use Rattle.kc_language.specs.declared.statements.Keyword.TheVariants as key
use Rattle.kc_entries.specs.{ListFacts.AreTypesDefined, PartsOfExpansion.{defined, located_numbered, symbol_cause}, PartsOfStatements.{ReadsPlaced, ReadsTarget, ReadsType, choice_line, expected, good_name, keyword_in}}
use Rattle.kc_read.specs.Progress.{defined_after, naming_cause}
use Rattle.kc_entries.proofs.ElementLemmas.{get_snoc}

-- a statement defines no name that no symbol may have
abbrev Allows : Option (List ℕ) → Type 0
Allows None = Unit {0}
Allows (Some n) = is_good_name n ≡ true

-- and gives a type
abbrev pub IsGiven : SymbolType → Type 0
IsGiven k = k ≡ symbol_type.Undefined → ⊥

abbrev pub IsAllowed : Named → Type 0
IsAllowed (ConfigLine n) = is_good_name n ≡ true
IsAllowed (TypeLine k p) = IsGiven k
IsAllowed (DefLine k v w) = IsGiven k
IsAllowed _ = Unit {0}

allowed_name : (s : Named) → IsAllowed s → Allows (defined_name s)
allowed_name (ConfigLine n) a = a
allowed_name _ a = tt

-- so does the word of a type
abbrev AllowsKey : Keyword → Type 0
AllowsKey (key.Type k) = IsGiven k
AllowsKey (key.Def k) = IsGiven k
AllowsKey _ = Unit {0}

-- whether it does
abbrev allows_key : Keyword → Bool
allows_key k = elim k [ key.Type symbol_type.Undefined ↦ false | key.Def symbol_type.Undefined ↦ false | _ ↦ true ]

allowed_key : (k : Keyword) → allows_key k ≡ true → AllowsKey k
allowed_key (key.Type k) e = λ u. let h : true ≡ false = sym e ∙ ap (λ t. allows_key (key.Type t)) u in cc
allowed_key (key.Def k) e = λ u. let h : true ≡ false = sym e ∙ ap (λ t. allows_key (key.Def t)) u in cc
allowed_key _ e = tt

key_in : (ks : List (List ℕ × Keyword)) (w : List ℕ) (k : Keyword) → list_all (λ j. allows_key j.1) ks ≡ true → keyword_in ks w ≡ Some k → AllowsKey k
key_in [] w k a e = absurd cc
key_in (j ∷ more) w k a e = by (same_name w j.0) (key_in more w k own.1) e
  where
    own : (allows_key j.1 ≡ true) × (list_all (λ i. allows_key i.1) more ≡ true)
    own = both (allows_key j.1) (list_all (λ i. allows_key i.1) more) a

    by : (b : Bool) → (keyword_in more w ≡ Some k → AllowsKey k) → (if b then Some j.1 else keyword_in more w) ≡ Some k → AllowsKey k
    by true rest q = subst AllowsKey (let same : j.1 ≡ k = cc in same) (allowed_key j.1 own.0)
    by false rest q = rest q

key_of : (w : List ℕ) (k : Keyword) → keyword_of w ≡ Some k → AllowsKey k
key_of w k e = key_in keyword_words w k refl e

-- A line that is read gives such a statement.
after : {A : Type 0} (o : Result A Cause) (Next : A → Result Named Cause → Type 0) (s : Named) → After o Next (Ok s) → ((a : A) → Next a (Ok s) → IsAllowed s) → IsAllowed s
after (Ok a) Next s h k = k a h
after (Err c) Next s h k = absurd (let e : ◌≡◌ {A = Result Named Cause} (Ok s) (Err c) = h in cc)

same_allowed : (s x : Named) → s ≡ x → IsAllowed x → IsAllowed s
same_allowed s x e a = subst IsAllowed (sym e) a

finished : (x s : Named) (ts : List Lexeme) → IsAllowed x → Ok s ≡ finish x ts → IsAllowed s
finished x s [] a e = same_allowed s x (let same : s ≡ x = cc in same) a
finished x s (t ∷ ts) a e = absurd cc

whole : (make : Disjunction → Named) (ts : List Lexeme) (s : Named) → ((d : Disjunction) → IsAllowed (make d)) → ReadsWhole make ts (Ok s) → IsAllowed s
whole make ts s a h = same_allowed s (make h.0) h.2 (a h.0)

condition : (make : Option Disjunction → Named) (ts : List Lexeme) (s : Named) → ((w : Option Disjunction) → IsAllowed (make w)) → ReadsCondition make ts (Ok s) → IsAllowed s
condition make ts s a h = same_allowed s (make h.0) h.2 (a h.0)

value : (make : Disjunction → Option Disjunction → Named) (ts : List Lexeme) (s : Named) → ((d : Disjunction) (w : Option Disjunction) → IsAllowed (make d w)) → ReadsValue make ts (Ok s) → IsAllowed s
value make ts s a h = same_allowed s (make h.0.tree h.1) h.4 (a h.0.tree h.1)

good : (w : List ℕ) (s : Named) → Ok s ≡ good_name w → IsAllowed s
good w s h = by (is_good_name w) refl h
  where
    by : (b : Bool) → is_good_name w ≡ b → ◌≡◌ {A = Result Named Cause} (Ok s) (if b then Ok (ConfigLine w) else Err (cause.BadName w)) → IsAllowed s
    by true e f = same_allowed s (ConfigLine w) (let same : s ≡ ConfigLine w = cc in same) e
    by false e f = absurd cc

choice : (ts : List Lexeme) (s : Named) → Ok s ≡ choice_line ts → IsAllowed s
choice [] s h = same_allowed s ChoiceLine (let same : s ≡ ChoiceLine = cc in same) tt
choice (t ∷ ts) s h = absurd cc

option : (ts : List Lexeme) (s : Named) → Ok s ≡ option_line ts → IsAllowed s
option ts s h = by (begins_with (codes "modules") ts) (begins_with (codes "allnoconfig_y") ts) (begins_with (codes "env") ts) (begins_with (codes "defconfig_list") ts) h
  where
    by : (a b c d : Bool) → ◌≡◌ {A = Result Named Cause} (Ok s)
        (if a then finish ModulesLine (drop 1 ts) else if b then finish IgnoredLine (drop 1 ts) else if c then Err (cause.LeftOut (codes "option env"))
        else if d then Err (cause.LeftOut (codes "option defconfig_list")) else Err cause.Syntax) → IsAllowed s
    by true b c d e = finished ModulesLine s (drop 1 ts) tt e
    by false true c d e = finished IgnoredLine s (drop 1 ts) tt e
    by false false true d e = absurd cc
    by false false false true e = absurd cc
    by false false false false e = absurd cc

text_line : (make : List ℕ → Named) (ts : List Lexeme) (s : Named) → ((t : List ℕ) → IsAllowed (make t)) → After (text_of ts) (λ t r. r ≡ finish (make t) (drop 1 ts)) (Ok s) → IsAllowed s
text_line make ts s a h = after (text_of ts) (λ t r. r ≡ finish (make t) (drop 1 ts)) s h (λ t e. finished (make t) s (drop 1 ts) (a t) e)

asked : (make : InputPrompt Disjunction → Named) (ts : List Lexeme) (s : Named) → ((p : InputPrompt Disjunction) → IsAllowed (make p)) → ReadsPrompt make ts (Ok s) → IsAllowed s
asked make ts s a h =
    after (text_of ts) (λ t. ReadsCondition (λ w. make (record { text = t; when = w })) (drop 1 ts)) s h
    (λ t e. condition (λ w. make (record { text = t; when = w })) (drop 1 ts) s (λ w. a (record { text = t; when = w })) e)

typed : (k : SymbolType) (ts : List Lexeme) (s : Named) → IsGiven k → ReadsType k ts (Ok s) → IsAllowed s
typed k ts s g (inl h) = same_allowed s (TypeLine k None) (let e : ◌≡◌ {A = Result Named Cause} (Ok s) (Ok (TypeLine k None)) = h.1 in let same : s ≡ TypeLine k None = cc in same) g
typed k ts s g (inr h) = asked (λ p. TypeLine k (Some p)) ts s (λ p. g) h.1

target : (make : List ℕ → Option Disjunction → Named) (ts : List Lexeme) (s : Named) → ((t : List ℕ) (w : Option Disjunction) → IsAllowed (make t w)) → ReadsTarget make ts (Ok s) → IsAllowed s
target make ts s a h =
    after (named_target ts) (λ t. ReadsCondition (make t) (drop 1 ts)) s h (λ t e. condition (make t) (drop 1 ts) s (a t) e)

rest_of : (w : List ℕ) (k : Keyword) (ts : List Lexeme) (s : Named) → AllowsKey k → ReadsRest w k ts (Ok s) → IsAllowed s
rest_of w key.Config ts s g h =
    after (word_of ts) (λ v. After (finish v (drop 1 ts)) (λ u r. r ≡ good_name u)) s h (λ v e. after (finish v (drop 1 ts)) (λ u r. r ≡ good_name u) s e (λ u f. good u s f))
rest_of w key.If ts s g h = whole IfLine ts s (λ d. tt) h
rest_of w key.EndIf ts s g h = finished EndIfLine s ts tt h
rest_of w key.Comment ts s g h = text_line CommentLine ts s (λ t. tt) h
rest_of w key.Source ts s g h =
    after (text_of ts) (λ t. After (plain_text t) (λ u r. r ≡ finish (SourceLine u) (drop 1 ts))) s h
    (λ t e. after (plain_text t) (λ u r. r ≡ finish (SourceLine u) (drop 1 ts)) s e (λ u f. finished (SourceLine u) s (drop 1 ts) tt f))
rest_of w key.Menu ts s g h = text_line MenuLine ts s (λ t. tt) h
rest_of w key.EndMenu ts s g h = finished EndMenuLine s ts tt h
rest_of w key.Choice ts s g h = choice ts s h
rest_of w key.EndChoice ts s g h = finished EndChoiceLine s ts tt h
rest_of w key.MainMenu ts s g h = text_line MainMenuLine ts s (λ t. tt) h
rest_of w (key.Type k) ts s g h = typed k ts s g h
rest_of w key.Prompt ts s g h = asked PromptLine ts s (λ p. tt) h
rest_of w key.Default ts s g h = value DefaultLine ts s (λ d v. tt) h
rest_of w (key.Def k) ts s g h = value (DefLine k) ts s (λ d v. g) h
rest_of w key.Depends ts s g h =
    after (expected (codes "on") ts) (λ us. ReadsWhole DependsLine us) s h (λ us e. whole DependsLine us s (λ d. tt) e)
rest_of w key.Visible ts s g h =
    after (expected if_word ts) (λ us. ReadsWhole VisibleLine us) s h (λ us e. whole VisibleLine us s (λ d. tt) e)
rest_of w key.Select ts s g h = target SelectLine ts s (λ t v. tt) h
rest_of w key.Imply ts s g h = target ImplyLine ts s (λ t v. tt) h
rest_of w key.Range ts s g h =
    after (operand_of ts) (λ a. After (operand_of (drop 1 ts)) (λ b. ReadsCondition (RangeLine a b) (drop 2 ts))) s h
    (λ a e. after (operand_of (drop 1 ts)) (λ b. ReadsCondition (RangeLine a b) (drop 2 ts)) s e
    (λ b f. condition (RangeLine a b) (drop 2 ts) s (λ v. tt) f))
rest_of w key.Help ts s g h = finished HelpLine s ts tt h
rest_of w key.Modules ts s g h = finished ModulesLine s ts tt h
rest_of w key.«Option» ts s g h = option ts s h
rest_of w key.LeftOut ts s g h = absurd (let e : ◌≡◌ {A = Result Named Cause} (Ok s) (Err (cause.LeftOut w)) = h in cc)

placed_of : (c : LineContext) (w : List ℕ) (ts : List Lexeme) (k : Keyword) (s : Named) → AllowsKey k → ReadsPlaced c w ts k (Ok s) → IsAllowed s
placed_of c w ts k s g h = by (placement_cause c w ts k) h
  where
    by : (o : Option Cause) → After (in_place k o) (λ j. ReadsRest w j ts) (Ok s) → IsAllowed s
    by None e = rest_of w k ts s g e
    by (Some why) e = absurd (let f : ◌≡◌ {A = Result Named Cause} (Ok s) (Err why) = e in cc)

worded_of : (c : LineContext) (w : List ℕ) (ts : List Lexeme) (o : Option Keyword) (s : Named) → keyword_of w ≡ o → After (keyword_or_refusal o) (ReadsPlaced c w ts) (Ok s) → IsAllowed s
worded_of c w ts None s e h = absurd (let f : ◌≡◌ {A = Result Named Cause} (Ok s) (Err cause.Syntax) = h in cc)
worded_of c w ts (Some k) s e h = placed_of c w ts k s (key_of w k e) h

line_of : (c : LineContext) (ts : List Lexeme) (s : Named) → ReadsLine c ts (Ok s) → IsAllowed s
line_of c ts s h =
    after (word_of ts) (λ w. After (keyword_or_refusal (keyword_of w)) (ReadsPlaced c w (drop 1 ts))) s h (λ w e. worded_of c w (drop 1 ts) (keyword_of w) s refl e)

-- The defined names: symbols may have them, and there are no more than there may be.
pub record AreNames (names : List (List ℕ)) : Type 0 where
  pub good : All (λ n. is_good_name n ≡ true) names
  pub few : length names ≤ 65535

few_by : (b : Bool) (n : ℕ) → nat_lt 65535 n ≡ b → ◌≡◌ {A = Option Cause} (if b then Some cause.TooManySymbols else None) None → n ≤ 65535
few_by true n e h = absurd cc
few_by false n e h = grind (arith, nat_tests)

named_more : (names : List (List ℕ)) (n : List ℕ) → AreNames names → is_good_name n ≡ true → symbol_cause names n ≡ None → AreNames (mention names n)
named_more names n a g c = record {
  good = by (list_any (same_name n) names);
  few = few_by (nat_lt 65535 (length (mention names n))) (length (mention names n)) refl c;
}
  where
    by : (b : Bool) → All (λ m. is_good_name m ≡ true) (if b then names else names ++ n ∷ [])
    by true = a.good
    by false = All-push (λ m. is_good_name m ≡ true) names n a.good g

named_after : (names : List (List ℕ)) (o : Option (List ℕ)) → AreNames names → Allows o → naming_cause names o ≡ None → AreNames (defined_after names o)
named_after names None a g c = a
named_after names (Some n) a g c = named_more names n a g c

naming : (a : FileContext) (own : List (Located Named)) (log : ReadSoFar) (s : Named) → limit_cause a own log s ≡ None → naming_cause (defined (statements log.lines)) (defined_name s) ≡ None
naming a own log (ConfigLine n) h = h
naming a own log _ h = refl

abbrev Known : List (Located Named) → Type 0
Known ls = AreNames (defined (statements ls))

known_next : (a b : FileContext) (own ls : List (Located Named)) (log : ReadSoFar) (n : ℕ) (s : Named) → ls ≡ log.lines → IsAllowed s → limit_cause a own log s ≡ None → Known ls → Known (with_line ls b n s)
known_next a b own ls log n s same g c k =
    let pushed : statements (with_line ls b n s) ≡ statements ls ++ s ∷ [] = map-append (λ l. l.statement) ls (record { file = b.file; line = n; statement = s } ∷ []) in
    let names : defined (statements (with_line ls b n s)) ≡ defined_after (defined (statements ls)) (defined_name s) = ap defined pushed ∙ sym (defined_push (statements ls) s) in
    let caused : naming_cause (defined (statements ls)) (defined_name s) ≡ None =
    ap (λ (l : List (Located Named)). naming_cause (defined (statements l)) (defined_name s)) same ∙ naming a own log s c in
    subst AreNames (sym names) (named_after (defined (statements ls)) (defined_name s) k (allowed_name s g) caused)

module _ (files : Files) where
  abbrev Outcome : Result ReadSoFar Refused → Type 0
  Outcome (Ok log) = Known log.lines
  Outcome (Err r) = Unit {0}

  rest_known : {at : Reading} {r : Result ReadSoFar Refused} → Rest files at r → Known at.log.lines → Outcome r
  rest_known (at_end at e o) k = k
  rest_known (unclosed at line e u) k = tt
  rest_known (refused at c here) k = tt
  rest_known (goes_on at next r (blank m n) rest) k = rest_known rest k
  rest_known (goes_on at next r (renumbered m n marks) rest) k = rest_known rest k
  rest_known (goes_on at next r (moved m n name marks differs) rest) k = rest_known rest k
  rest_known (goes_on at next r (statement m s n modeless effect) rest) k =
      rest_known rest (known_next at.context at.context at.own at.log.lines at.log at.unread.number s refl
      (line_of (context_of at.context at.own at.log) n.tokens s n.reads) effect k)
  rest_known (refused_inside at f e inner) k = tt
  rest_known (source at f more r inner rest) k = rest_known rest (rest_known inner k)

  by_bytes : (root : List ℕ) (log : ReadSoFar) (o : Option Cause) →
      MatchOption o ((bytes : List ℕ) × (files.bytes root ≡ Some bytes)
      × Rest files (at_root files root bytes) (Ok log)) (λ c. Ok log ≡ Err (refusal_at c root 0)) →
      Known log.lines
  by_bytes root log None h = rest_known h.2 (record { good = All-nil (λ m. is_good_name m ≡ true); few = omega arith })
  by_bytes root log (Some c) h = absurd (let e : ◌≡◌ {A = Result ReadSoFar Refused} (Ok log) (Err (refusal_at c root 0)) = h in cc)

  pub expanded_known : (root : List ℕ) (log : ReadSoFar) → Expands files root (Ok log) → AreNames (defined (statements log.lines))
  expanded_known root log h = by_bytes root log (bytes_cause root 0 (files.bytes root)) h

  -- Each line is allowed.
  abbrev AreAllowed : List (Located Named) → Type 0
  AreAllowed ls = (i : ℕ) (l : Located Named) → slice_get ls i ≡ Some l → IsAllowed l.statement

  allowed_next : (ls : List (Located Named)) (l : Located Named) → IsAllowed l.statement → AreAllowed ls → AreAllowed (ls ++ l ∷ [])
  allowed_next ls l a k = λ i m e.
      elim (get_snoc ls l m i e) as (λ _. IsAllowed m.statement) [
        | inl h ↦ k i m h
        | inr h ↦ subst (λ (x : Located Named). IsAllowed x.statement) h.1 a
      ]

  abbrev AllowedOutcome : Result ReadSoFar Refused → Type 0
  AllowedOutcome (Ok log) = AreAllowed log.lines
  AllowedOutcome (Err r) = Unit {0}

  rest_allowed : {at : Reading} {r : Result ReadSoFar Refused} → Rest files at r → AreAllowed at.log.lines → AllowedOutcome r
  rest_allowed (at_end at e o) k = k
  rest_allowed (unclosed at line e u) k = tt
  rest_allowed (refused at c here) k = tt
  rest_allowed (goes_on at next r (blank m n) rest) k = rest_allowed rest k
  rest_allowed (goes_on at next r (renumbered m n marks) rest) k = rest_allowed rest k
  rest_allowed (goes_on at next r (moved m n name marks differs) rest) k = rest_allowed rest k
  rest_allowed (goes_on at next r (statement m s n modeless effect) rest) k =
      rest_allowed rest (allowed_next at.log.lines (record { file = at.context.file; line = at.unread.number; statement = s })
      (line_of (context_of at.context at.own at.log) n.tokens s n.reads) k)
  rest_allowed (refused_inside at f e inner) k = tt
  rest_allowed (source at f more r inner rest) k = rest_allowed rest (rest_allowed inner k)

  allowed_by : (root : List ℕ) (log : ReadSoFar) (o : Option Cause) →
      MatchOption o ((bytes : List ℕ) × (files.bytes root ≡ Some bytes)
      × Rest files (at_root files root bytes) (Ok log)) (λ c. Ok log ≡ Err (refusal_at c root 0)) →
      AreAllowed log.lines
  allowed_by root log None h = rest_allowed h.2 (λ i l e. absurd cc)
  allowed_by root log (Some c) h = absurd (let e : ◌≡◌ {A = Result ReadSoFar Refused} (Ok log) (Err (refusal_at c root 0)) = h in cc)

  pub expanded_allowed : (root : List ℕ) (log : ReadSoFar) → Expands files root (Ok log) → (i : ℕ) (l : Located Named) → slice_get log.lines i ≡ Some l → IsAllowed l.statement
  expanded_allowed root log h = allowed_by root log (bytes_cause root 0 (files.bytes root)) h

-- The same of numbered lines.
module _ (number : List ℕ → ℕ) where
  untyped_not : (s : Named) → IsAllowed s → stated_type (numbered number s) ≡ Some symbol_type.Undefined → ⊥
  untyped_not (TypeLine k p) a e = a (let same : k ≡ symbol_type.Undefined = cc in same)
  untyped_not (DefLine k v w) a e = a (let same : k ≡ symbol_type.Undefined = cc in same)
  untyped_not _ a e = absurd cc

  pub numbered_typed : (ls : List (Located Named)) → ((i : ℕ) (l : Located Named) → slice_get ls i ≡ Some l → IsAllowed l.statement) →
      AreTypesDefined (map (λ l. l.statement) (map (located_numbered number) ls))
  numbered_typed [] h i s e t = absurd cc
  numbered_typed (l ∷ ls) h zero s e t = untyped_not l.statement (h zero l refl) (ap stated_type (let same : numbered number l.statement ≡ s = cc in same) ∙ t)
  numbered_typed (l ∷ ls) h (suc i) s e t = numbered_typed ls (λ j. h (suc j)) i s e t
