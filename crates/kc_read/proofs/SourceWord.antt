-- The lines that begin with the word `source`, and no others, are `source` lines.
use Rattle.std.proofs.{Common.{Bool, Err, List, None, Ok, Option, Result, Some, [], ap, codes, cond, drop, false, inl, inr, not, refl, subst, sym, true, ℕ, ◌||◌, ◌∙◌, ◌∷◌, ◌≡◌}, lemmas.Bool.cases_Bool}
use Rattle.std.specs.List.{list_all}
use Rattle.kc_read.proofs.{FileLemmas.same_name_eq, KeywordLemmas.both, OneExpansion.source_line}
use Rattle.kc_language.specs.{Expressions.{Disjunction, if_word, same_name}, Statements.{After, Cause, CommentLine, ConfigLine, DefLine, DefaultLine, DependsLine, EndChoiceLine, EndIfLine, EndMenuLine, HelpLine, IfLine, IgnoredLine, ImplyLine, InputPrompt, LineContext, MainMenuLine, MenuLine, ModulesLine, Named, PromptLine, RangeLine, ReadsCondition, ReadsLine, ReadsPrompt, ReadsRest, ReadsSource, ReadsTextLine, ReadsValue, ReadsWhole, SelectLine, SourceLine, TypeLine, VisibleLine, begins_with, finish, in_place, is_good_name, keyword_of, keyword_or_refusal, keyword_words, named_target, operand_of, option_line, placement_cause, text_of, word_of}, Tokens.{AQuoted, AWord, AnOp, Lexeme}, declared.{expressions.SymbolType.SymbolType, statements.Keyword.Keyword}}
use Rattle.kc_language.specs.declared.expressions.SymbolType.TheVariants as symbol_type
use Rattle.kc_language.specs.declared.statements.Keyword.TheVariants as key
use Rattle.kc_entries.specs.PartsOfStatements.{ReadsConfig, ReadsPlaced, ReadsRange, ReadsTarget, ReadsType, choice_line, expected, good_name, keyword_in}
use Rattle.kc_language.specs.declared.diagnostics.Cause.TheVariants as cause

-- ---- The word

abbrev is_source_key : Option Keyword → Bool
is_source_key (Some key.Source) = true
is_source_key _ = false

other_word : (b : Bool) (k : Keyword) (o : Option Keyword) → is_source_key (Some k) ≡ false → is_source_key o ≡ false → is_source_key (cond b (Some k) o) ≡ false
other_word true k o e f = e
other_word false k o e f = f

-- the word is `source`, or its keyword is another one
abbrev is_other : List ℕ × Keyword → Bool
is_other k = not (is_source_key (Some k.1)) || same_name k.0 (codes "source")

other_in : (ks : List (List ℕ × Keyword)) (w : List ℕ) → list_all is_other ks ≡ true → same_name w (codes "source") ≡ false
    → is_source_key (keyword_in ks w) ≡ false
other_in [] w a e = refl
other_in (k ∷ more) w a e =
    let own : (is_other k ≡ true) × (list_all is_other more ≡ true) = both (is_other k) (list_all is_other more) a in
    elim (cases_Bool (is_source_key (Some k.1))) [
      | inr other ↦ other_word (same_name w k.0) k.1 (keyword_in more w) other (other_in more w own.1 e)
      | inl found ↦
          let same : k.0 ≡ codes "source" = same_name_eq k.0 (codes "source") (sym (ap (λ b. not b || same_name k.0 (codes "source")) found) ∙ own.0) in
          ap (λ b. is_source_key (cond b (Some k.1) (keyword_in more w))) (ap (same_name w) same ∙ e) ∙ other_in more w own.1 e
    ]

keyword_other : (w : List ℕ) → same_name w (codes "source") ≡ false → is_source_key (keyword_of w) ≡ false
keyword_other w e = other_in keyword_words w refl e

-- ---- What is read

-- no `source` line is read
abbrev NoSource : (Result Named Cause → Type 0) → Type 0
NoSource R = (name : List ℕ) → R (Ok (SourceLine name)) → ⊥

-- this is no `source` line
abbrev IsOther : Result Named Cause → Type 0
IsOther t = (name : List ℕ) → Ok (source_line name) ≡ t → ⊥

none_after : {A : Type 0} (o : Result A Cause) (Next : A → Result Named Cause → Type 0) → ((a : A) → NoSource (Next a)) → NoSource (After o Next)
none_after (Ok a) Next h name x = h a name x
none_after (Err c) Next h name x = let e : Ok (source_line name) ≡ Err c = x in cc

none_whole : (make : Disjunction → Named) (ts : List Lexeme) → ((d : Disjunction) → IsOther (Ok (make d))) → NoSource (ReadsWhole make ts)
none_whole make ts h name x = h x.0 name (ap Ok x.2)

none_condition : (make : Option Disjunction → Named) (ts : List Lexeme) → ((w : Option Disjunction) → IsOther (Ok (make w))) → NoSource (ReadsCondition make ts)
none_condition make ts h name x = h x.0 name (ap Ok x.2)

none_value : (make : Disjunction → Option Disjunction → Named) (ts : List Lexeme) → ((d : Disjunction) (w : Option Disjunction) → IsOther (Ok (make d w))) → NoSource (ReadsValue make ts)
none_value make ts h name x = h x.0.tree x.1 name (ap Ok x.4)

other_end : (s : Named) (ts : List Lexeme) → IsOther (Ok s) → IsOther (finish s ts)
other_end s [] h name e = h name e
other_end s (t ∷ ts) h name e = cc

none_text : (make : List ℕ → Named) (ts : List Lexeme) → ((t : List ℕ) → IsOther (Ok (make t))) → NoSource (ReadsTextLine make ts)
none_text make ts h = none_after (text_of ts) (λ t r. r ≡ finish (make t) (drop 1 ts)) (λ t. other_end (make t) (drop 1 ts) (h t))

none_asked : (make : InputPrompt Disjunction → Named) (ts : List Lexeme) → ((p : InputPrompt Disjunction) → IsOther (Ok (make p))) → NoSource (ReadsPrompt make ts)
none_asked make ts h = none_after (text_of ts) (λ t. ReadsCondition (λ w. make (record { text = t; when = w })) (drop 1 ts))
    (λ t. none_condition (λ w. make (record { text = t; when = w })) (drop 1 ts) (λ w. h (record { text = t; when = w })))

none_target : (make : List ℕ → Option Disjunction → Named) (ts : List Lexeme) → ((t : List ℕ) (w : Option Disjunction) → IsOther (Ok (make t w))) → NoSource (ReadsTarget make ts)
none_target make ts h = none_after (named_target ts) (λ t. ReadsCondition (make t) (drop 1 ts)) (λ t. none_condition (make t) (drop 1 ts) (h t))

none_expected : (make : Disjunction → Named) (w : List ℕ) (ts : List Lexeme) → ((d : Disjunction) → IsOther (Ok (make d))) → NoSource (After (expected w ts) (ReadsWhole make))
none_expected make w ts h = none_after (expected w ts) (ReadsWhole make) (λ us. none_whole make us h)

none_range : (ts : List Lexeme) → NoSource (ReadsRange ts)
none_range ts = none_after (operand_of ts) (λ a. After (operand_of (drop 1 ts)) (λ b. ReadsCondition (RangeLine a b) (drop 2 ts)))
    (λ a. none_after (operand_of (drop 1 ts)) (λ b. ReadsCondition (RangeLine a b) (drop 2 ts)) (λ b. none_condition (RangeLine a b) (drop 2 ts) (λ w name e. cc)))

other_if : (b : Bool) (x y : Result Named Cause) → IsOther x → IsOther y → IsOther (cond b x y)
other_if true x y h i = h
other_if false x y h i = i

other_refused : (c : Cause) → IsOther (Err c)
other_refused c name e = cc

other_good : (w : List ℕ) → IsOther (good_name w)
other_good w = other_if (is_good_name w) (Ok (ConfigLine w)) (Err (cause.BadName w)) (λ name e. cc) (other_refused _)

none_config : (ts : List Lexeme) → NoSource (ReadsConfig ts)
none_config ts = none_after (word_of ts) (λ w. After (finish w (drop 1 ts)) (λ v r. r ≡ good_name v)) (λ w. none_after (finish w (drop 1 ts)) (λ v r. r ≡ good_name v) other_good)

none_type : (k : SymbolType) (ts : List Lexeme) → NoSource (ReadsType k ts)
none_type k ts name (inl x) = let e : Ok (source_line name) ≡ Ok (TypeLine k None) = x.1 in cc
none_type k ts name (inr x) = none_asked (λ p. TypeLine k (Some p)) ts (λ p n e. cc) name x.1

other_choice : (ts : List Lexeme) → IsOther (choice_line ts)
other_choice [] name e = cc
other_choice (t ∷ ts) name e = cc

other_option : (ts : List Lexeme) → IsOther (option_line ts)
other_option ts =
    other_if (begins_with (codes "modules") ts) _ _ (other_end ModulesLine (drop 1 ts) (λ name e. cc))
    (other_if (begins_with (codes "allnoconfig_y") ts) _ _ (other_end IgnoredLine (drop 1 ts) (λ name e. cc))
    (other_if (begins_with (codes "env") ts) _ _ (other_refused _) (other_if (begins_with (codes "defconfig_list") ts) _ _ (other_refused _) (other_refused _))))

none_rest : (w : List ℕ) (k : Keyword) (ts : List Lexeme) → is_source_key (Some k) ≡ false → NoSource (ReadsRest w k ts)
none_rest w key.Config ts e = none_config ts
none_rest w key.If ts e = none_whole IfLine ts (λ d name f. cc)
none_rest w key.EndIf ts e = other_end EndIfLine ts (λ name f. cc)
none_rest w key.Comment ts e = none_text CommentLine ts (λ t name f. cc)
none_rest w key.Source ts e = absurd (let h : true ≡ false = e in cc)
none_rest w key.Menu ts e = none_text MenuLine ts (λ t name f. cc)
none_rest w key.EndMenu ts e = other_end EndMenuLine ts (λ name f. cc)
none_rest w key.Choice ts e = other_choice ts
none_rest w key.EndChoice ts e = other_end EndChoiceLine ts (λ name f. cc)
none_rest w key.MainMenu ts e = none_text MainMenuLine ts (λ t name f. cc)
none_rest w (key.Type k) ts e = none_type k ts
none_rest w key.Prompt ts e = none_asked PromptLine ts (λ p name f. cc)
none_rest w key.Default ts e = none_value DefaultLine ts (λ d v name f. cc)
none_rest w (key.Def k) ts e = none_value (DefLine k) ts (λ d v name f. cc)
none_rest w key.Depends ts e = none_expected DependsLine (codes "on") ts (λ d name f. cc)
none_rest w key.Visible ts e = none_expected VisibleLine if_word ts (λ d name f. cc)
none_rest w key.Select ts e = none_target SelectLine ts (λ t v name f. cc)
none_rest w key.Imply ts e = none_target ImplyLine ts (λ t v name f. cc)
none_rest w key.Range ts e = none_range ts
none_rest w key.Help ts e = other_end HelpLine ts (λ name f. cc)
none_rest w key.Modules ts e = other_end ModulesLine ts (λ name f. cc)
none_rest w key.«Option» ts e = other_option ts
none_rest w key.LeftOut ts e = other_refused _

none_placed : (c : LineContext) (w : List ℕ) (ts : List Lexeme) (o : Option Keyword) → is_source_key o ≡ false → NoSource (After (keyword_or_refusal o) (ReadsPlaced c w ts))
none_placed c w ts None e name x = let f : Ok (source_line name) ≡ Err cause.Syntax = x in cc
none_placed c w ts (Some k) e name x = by (placement_cause c w ts k) x
  where
    by : (o : Option Cause) → After (in_place k o) (λ j. ReadsRest w j ts) (Ok (SourceLine name)) → ⊥
    by None y = none_rest w k ts e name y
    by (Some why) y = let f : Ok (source_line name) ≡ Err why = y in cc

-- a `source` line begins with that word
pub source_begins : (c : LineContext) (ts : List Lexeme) (name : List ℕ) → ReadsLine c ts (Ok (SourceLine name)) → begins_with (codes "source") ts ≡ true
source_begins c [] name x = absurd (let e : Ok (source_line name) ≡ Err cause.Syntax = x in cc)
source_begins c (AQuoted t ∷ ts) name x = absurd (let e : Ok (source_line name) ≡ Err cause.Syntax = x in cc)
source_begins c (AnOp o ∷ ts) name x = absurd (let e : Ok (source_line name) ≡ Err cause.Syntax = x in cc)
source_begins c (AWord w ∷ ts) name x = elim (cases_Bool (same_name w (codes "source"))) [
  | inl e ↦ e
  | inr e ↦ absurd (none_placed c w ts (keyword_of w) (keyword_other w e) name x)
]

-- what begins with the word is read as a `source` line
pub begins_source : (c : LineContext) (ts : List Lexeme) (r : Result Named Cause) → begins_with (codes "source") ts ≡ true → ReadsLine c ts r → ReadsSource (drop 1 ts) r
begins_source c [] r b x = absurd cc
begins_source c (AQuoted t ∷ ts) r b x = absurd cc
begins_source c (AnOp o ∷ ts) r b x = absurd cc
begins_source c (AWord w ∷ ts) r b x = subst (λ v. After (keyword_or_refusal (keyword_of v)) (ReadsPlaced c v ts) r) (same_name_eq w (codes "source") b) x
