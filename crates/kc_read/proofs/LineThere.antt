-- Each line is a statement, or is refused for a cause.
use Rattle.std.proofs.Common.{Bool, Err, List, None, Ok, Option, Result, Some, [], codes, drop, false, inl, inr, length, refl, subst, sym, true, ℕ, ◌++◌, ◌∷◌, ◌≡◌, ◌⊎◌}
use Rattle.kc_language.specs.{Expressions.{Disjunction, LongestFront, Terminal, if_word}, Statements.{After, Cause, CommentLine, ConditionFault, DefLine, DefaultLine, DependsLine, EndChoiceLine, EndIfLine, EndMenuLine, ExpressionFault, HelpLine, IfLine, ImplyLine, InputPrompt, IsCondition, LineContext, MainMenuLine, MenuLine, ModulesLine, Named, PromptLine, RangeLine, ReadsCondition, ReadsLine, ReadsPrompt, ReadsRest, ReadsSource, ReadsTextLine, ReadsValue, ReadsWhole, SelectLine, SourceLine, StartsExpression, TypeLine, VisibleLine, WholeFault, begins_with, finish, in_place, keyword_of, keyword_or_refusal, named_target, operand_of, option_line, placement_cause, plain_text, text_of, word_of}, Tokens.Lexeme, declared.{expressions.SymbolType.SymbolType, statements.Keyword.Keyword}}
use Rattle.kc_expr.specs.{Parsing.{Answer, Answers, Derived, NoExpression, TooManyLevels}, PartsOfExpressions.{spell_or, terminals}}
use Rattle.kc_expr.proofs.OneAnswer.{one_answer_law}
use Rattle.kc_language.specs.declared.diagnostics.Cause.TheVariants as cause
use Rattle.kc_language.specs.declared.statements.Keyword.TheVariants as key
use Rattle.kc_entries.specs.PartsOfStatements.{IsWhole, ReadsConfig, ReadsPlaced, ReadsRange, ReadsTarget, ReadsType, choice_line, expected, front, good_name}
use Rattle.kc_read.specs.Lines.{OneStatement}
use Rattle.kc_read.proofs.OneLine.{one_line}

-- ---- Expressions and conditions

rest_of : (ts : List Lexeme) (a b : List Terminal) → terminals ts ≡ a ++ b → terminals (drop (length a) ts) ≡ b
rest_of ts [] b e = e
rest_of [] (x ∷ a) b e = absurd cc
rest_of (t ∷ ts) (x ∷ a) b e = let f : terminals ts ≡ a ++ b = cc in rest_of ts a b f

abbrev Expression : List Lexeme → Type 0
Expression ts = ((d : Disjunction) × ((rest : List Lexeme) × StartsExpression ts (front d rest))) ⊎ ((c : Cause) × ExpressionFault ts c)

expression_of : (ts : List Lexeme) (a : Answer) → Answers (terminals ts) a → Expression ts
expression_of ts (Derived d rest) h =
    let there = rest_of ts (spell_or d) rest h.0.whole in
    inl (
      d,
      (
        drop (length (spell_or d)) ts,
        record {
          used = length (spell_or d);
          rest_is = refl;
          longest = subst (λ r. LongestFront (terminals ts) (spell_or d) r) (sym there) h.0;
          within = h.1;
        },
      ),
    )
expression_of ts NoExpression h = inr (cause.Syntax, inl (h, refl))
expression_of ts TooManyLevels h = inr (cause.TooDeep, inr (h, refl))

expression_there : (ts : List Lexeme) → Expression ts
expression_there ts = let a = one_answer_law (terminals ts) in expression_of ts a.0 a.1

abbrev Whole : List Lexeme → Type 0
Whole ts = ((d : Disjunction) × IsWhole ts d) ⊎ ((c : Cause) × WholeFault ts c)

whole_of : (ts : List Lexeme) → Expression ts → Whole ts
whole_of ts (inr x) = inr (x.0, inl x.1)
whole_of ts (inl x) = by x.0 x.1.0 x.1.1
  where
    by : (d : Disjunction) (rest : List Lexeme) → StartsExpression ts (front d rest) → Whole ts
    by d [] s = inl (d, s)
    by d (t ∷ us) s = inr (cause.Syntax, inr (front d (t ∷ us), s, (t, us, refl), refl))

whole_there : (ts : List Lexeme) → Whole ts
whole_there ts = whole_of ts (expression_there ts)

abbrev Condition : List Lexeme → Type 0
Condition ts = ((w : Option Disjunction) × IsCondition ts w) ⊎ ((c : Cause) × ConditionFault ts c)

condition_there : (ts : List Lexeme) → Condition ts
condition_there [] = inl (None, refl)
condition_there (t ∷ us) = by (begins_with if_word (t ∷ us)) refl (whole_there us)
  where
    by : (b : Bool) → begins_with if_word (t ∷ us) ≡ b → Whole us → Condition (t ∷ us)
    by true e (inl x) = inl (Some x.0, (e, x.1))
    by true e (inr x) = inr (x.0, inl (e, x.1))
    by false e x = inr (cause.Syntax, inr ((t, us, refl), e, refl))

-- ---- Lines

-- there is an outcome
abbrev IsThere : {A : Type 0} → (Result A Cause → Type 0) → Type 0
IsThere {A} R = (r : Result A Cause) × R r

there_it_is : {A : Type 0} (t : Result A Cause) → IsThere (λ r. r ≡ t)
there_it_is t = (t, refl)

after : {A B : Type 0} (o : Result A Cause) (Next : A → Result B Cause → Type 0) → ((a : A) → IsThere (Next a)) → IsThere (After o Next)
after (Ok a) Next h = h a
after (Err c) Next h = (Err c, refl)

whole_line : (make : Disjunction → Named) (ts : List Lexeme) → IsThere (ReadsWhole make ts)
whole_line make ts = by (whole_there ts)
  where
    by : Whole ts → IsThere (ReadsWhole make ts)
    by (inl x) = (Ok (make x.0), (x.0, x.1, refl))
    by (inr x) = (Err x.0, x.1)

condition_line : (make : Option Disjunction → Named) (ts : List Lexeme) → IsThere (ReadsCondition make ts)
condition_line make ts = by (condition_there ts)
  where
    by : Condition ts → IsThere (ReadsCondition make ts)
    by (inl x) = (Ok (make x.0), (x.0, x.1, refl))
    by (inr x) = (Err x.0, x.1)

value_line : (make : Disjunction → Option Disjunction → Named) (ts : List Lexeme) → IsThere (ReadsValue make ts)
value_line make ts = by (expression_there ts)
  where
    more : (d : Disjunction) (rest : List Lexeme) → StartsExpression ts (front d rest) → Condition rest → IsThere (ReadsValue make ts)
    more d rest s (inl x) = (Ok (make d x.0), (front d rest, x.0, s, x.1, refl))
    more d rest s (inr x) = (Err x.0, inr (front d rest, s, x.1))

    by : Expression ts → IsThere (ReadsValue make ts)
    by (inl x) = more x.0 x.1.0 x.1.1 (condition_there x.1.0)
    by (inr x) = (Err x.0, inl x.1)

text_line : (make : List ℕ → Named) (ts : List Lexeme) → IsThere (ReadsTextLine make ts)
text_line make ts = after (text_of ts) (λ t r. r ≡ finish (make t) (drop 1 ts)) (λ t. there_it_is (finish (make t) (drop 1 ts)))

pub source_line : (ts : List Lexeme) → IsThere (ReadsSource ts)
source_line ts = after (text_of ts) (λ t. After (plain_text t) (λ u r. r ≡ finish (SourceLine u) (drop 1 ts)))
    (λ t. after (plain_text t) (λ u r. r ≡ finish (SourceLine u) (drop 1 ts)) (λ u. there_it_is (finish (SourceLine u) (drop 1 ts))))

config_line : (ts : List Lexeme) → IsThere (ReadsConfig ts)
config_line ts = after (word_of ts) (λ w. After (finish w (drop 1 ts)) (λ v r. r ≡ good_name v))
    (λ w. after (finish w (drop 1 ts)) (λ v r. r ≡ good_name v) (λ v. there_it_is (good_name v)))

asked_line : (make : InputPrompt Disjunction → Named) (ts : List Lexeme) → IsThere (ReadsPrompt make ts)
asked_line make ts = after (text_of ts) (λ t. ReadsCondition (λ w. make (record { text = t; when = w })) (drop 1 ts)) (λ t. condition_line (λ w. make (record { text = t; when = w })) (drop 1 ts))

type_line : (k : SymbolType) (ts : List Lexeme) → IsThere (ReadsType k ts)
type_line k [] = (Ok (TypeLine k None), inl (refl, refl))
type_line k (t ∷ us) = let r = asked_line (λ p. TypeLine k (Some p)) (t ∷ us) in (r.0, inr ((t, us, refl), r.1))

target_line : (make : List ℕ → Option Disjunction → Named) (ts : List Lexeme) → IsThere (ReadsTarget make ts)
target_line make ts = after (named_target ts) (λ t. ReadsCondition (make t) (drop 1 ts)) (λ t. condition_line (make t) (drop 1 ts))

range_line : (ts : List Lexeme) → IsThere (ReadsRange ts)
range_line ts = after (operand_of ts) (λ a. After (operand_of (drop 1 ts)) (λ b. ReadsCondition (RangeLine a b) (drop 2 ts)))
    (λ a. after (operand_of (drop 1 ts)) (λ b. ReadsCondition (RangeLine a b) (drop 2 ts)) (λ b. condition_line (RangeLine a b) (drop 2 ts)))

expected_line : (make : Disjunction → Named) (w : List ℕ) (ts : List Lexeme) → IsThere (After (expected w ts) (ReadsWhole make))
expected_line make w ts = after (expected w ts) (ReadsWhole make) (whole_line make)

rest_there : (w : List ℕ) (k : Keyword) (ts : List Lexeme) → IsThere (ReadsRest w k ts)
rest_there w key.Config ts = config_line ts
rest_there w key.If ts = whole_line IfLine ts
rest_there w key.EndIf ts = there_it_is (finish EndIfLine ts)
rest_there w key.Comment ts = text_line CommentLine ts
rest_there w key.Source ts = source_line ts
rest_there w key.Menu ts = text_line MenuLine ts
rest_there w key.EndMenu ts = there_it_is (finish EndMenuLine ts)
rest_there w key.Choice ts = there_it_is (choice_line ts)
rest_there w key.EndChoice ts = there_it_is (finish EndChoiceLine ts)
rest_there w key.MainMenu ts = text_line MainMenuLine ts
rest_there w (key.Type k) ts = type_line k ts
rest_there w key.Prompt ts = asked_line PromptLine ts
rest_there w key.Default ts = value_line DefaultLine ts
rest_there w (key.Def k) ts = value_line (DefLine k) ts
rest_there w key.Depends ts = expected_line DependsLine (codes "on") ts
rest_there w key.Visible ts = expected_line VisibleLine if_word ts
rest_there w key.Select ts = target_line SelectLine ts
rest_there w key.Imply ts = target_line ImplyLine ts
rest_there w key.Range ts = range_line ts
rest_there w key.Help ts = there_it_is (finish HelpLine ts)
rest_there w key.Modules ts = there_it_is (finish ModulesLine ts)
rest_there w key.«Option» ts = there_it_is (option_line ts)
rest_there w key.LeftOut ts = there_it_is (Err (cause.LeftOut w))

placed_there : (c : LineContext) (w : List ℕ) (ts : List Lexeme) (k : Keyword) → IsThere (ReadsPlaced c w ts k)
placed_there c w ts k = after (in_place k (placement_cause c w ts k)) (λ j. ReadsRest w j ts) (λ j. rest_there w j ts)

pub line_there : (c : LineContext) (ts : List Lexeme) → (r : Result Named Cause) × ReadsLine c ts r
line_there c ts = after (word_of ts) (λ w. After (keyword_or_refusal (keyword_of w)) (ReadsPlaced c w (drop 1 ts)))
    (λ w. after (keyword_or_refusal (keyword_of w)) (ReadsPlaced c w (drop 1 ts)) (placed_there c w (drop 1 ts)))

pub one_statement_law : OneStatement
one_statement_law c ts =
    let r = line_there c ts in
    (r.0, r.1, λ other h. one_line c ts r.0 other r.1 h)
