-- A line has one outcome.
use Rattle.kc_language.specs.declared.diagnostics.Cause.TheVariants as cause
use Rattle.std.proofs.{Common.{Bool, Err, List, None, Ok, Option, Result, Some, [], ap, append-nil, arith, codes, drop, false, inl, inr, length, length-drop, refl, subst, suc, sym, true, zero, ℕ, ◌∙◌, ◌∷◌, ◌≡◌, ◌⊎◌}, lemmas.List.length-map}
use Rattle.kc_language.specs.{Expressions.{Disjunction, if_word, terminal_of}, Statements.{After, Cause, CommentLine, ConditionFault, DefLine, DefaultLine, DependsLine, EndChoiceLine, EndIfLine, EndMenuLine, ExpressionFault, Front, HelpLine, IfLine, ImplyLine, InputPrompt, IsCondition, IsMore, LineContext, MainMenuLine, MenuLine, ModulesLine, Named, PromptLine, RangeLine, ReadsCondition, ReadsLine, ReadsPrompt, ReadsRest, ReadsSource, ReadsTextLine, ReadsValue, ReadsWhole, SelectLine, SourceLine, StartsExpression, TypeLine, VisibleLine, WholeFault, begins_with, finish, in_place, keyword_of, keyword_or_refusal, named_target, operand_of, option_line, placement_cause, plain_text, text_of, word_of}, Tokens.Lexeme, declared.{expressions.SymbolType.SymbolType, statements.Keyword.Keyword}}
use Rattle.kc_expr.specs.PartsOfExpressions.{spell_or, terminals}
use Rattle.kc_expr.proofs.{LongestLemmas.{determined, is_expression, not_too_deep, one_longest}, OneTree.unambiguous}
use Rattle.kc_language.specs.declared.statements.Keyword.TheVariants as key
use Rattle.kc_entries.specs.PartsOfStatements.{IsWhole, ReadsConfig, ReadsPlaced, ReadsRange, ReadsTarget, ReadsType, choice_line, expected, front, good_name}

-- ---- Expressions

same_drop : {A : Type 0} (xs : List A) (m n : ℕ) → length (drop m xs) ≡ length (drop n xs) → drop m xs ≡ drop n xs
same_drop xs zero zero e = refl
same_drop [] zero (suc n) e = refl
same_drop [] (suc m) zero e = refl
same_drop [] (suc m) (suc n) e = refl
same_drop (x ∷ xs) zero (suc n) e = absurd (omega (arith, length-drop n xs, e))
same_drop (x ∷ xs) (suc m) zero e = absurd (omega (arith, length-drop m xs, e))
same_drop (x ∷ xs) (suc m) (suc n) e = same_drop xs m n e

-- an expression and what follows it are one
same_front : (ts : List Lexeme) (f g : Front) → StartsExpression ts f → StartsExpression ts g → f ≡ g
same_front ts f g s t =
    let (spelled, after) = one_longest (terminals ts) (spell_or f.tree) (terminals f.rest) (spell_or g.tree) (terminals g.rest) s.longest t.longest in
    let tree : f.tree ≡ g.tree = unambiguous f.tree g.tree spelled in
    let many : length f.rest ≡ length g.rest = sym (length-map f.rest terminal_of) ∙ ap length after ∙ length-map g.rest terminal_of in
    let rest : f.rest ≡ g.rest = s.rest_is ∙ same_drop ts s.used t.used (ap length (sym s.rest_is) ∙ many ∙ ap length t.rest_is) ∙ sym t.rest_is in
    λ i. record { tree = tree i; rest = rest i }

starts_or_not : (ts : List Lexeme) (f : Front) (c : Cause) → StartsExpression ts f → ExpressionFault ts c → ⊥
starts_or_not ts f c s (inl none) = is_expression (terminals ts) (terminals f.rest) f.tree s.longest none.0
starts_or_not ts f c s (inr deep) = not_too_deep (terminals ts) (spell_or f.tree) (terminals f.rest) s.longest (f.tree, [], s.within, sym (append-nil (spell_or f.tree))) deep.0

same_fault : (ts : List Lexeme) (c d : Cause) → ExpressionFault ts c → ExpressionFault ts d → c ≡ d
same_fault ts c d (inl x) (inl y) = x.1 ∙ sym y.1
same_fault ts c d (inl x) (inr y) = absurd ((determined (terminals ts)).one_refusal x.0 y.0)
same_fault ts c d (inr x) (inl y) = absurd ((determined (terminals ts)).one_refusal y.0 x.0)
same_fault ts c d (inr x) (inr y) = x.1 ∙ sym y.1

same_whole : (ts : List Lexeme) (d e : Disjunction) → IsWhole ts d → IsWhole ts e → d ≡ e
same_whole ts d e s t = ap (λ f. f.tree) (same_front ts (front d []) (front e []) s t)

more_or_none : (ts : List Lexeme) → IsMore ts → ts ≡ [] → ⊥
more_or_none ts m e = let h : m.0 ∷ m.1 ≡ [] = sym m.2 ∙ e in absurd cc

whole_or_not : (ts : List Lexeme) (d : Disjunction) (c : Cause) → IsWhole ts d → WholeFault ts c → ⊥
whole_or_not ts d c s (inl x) = starts_or_not ts (front d []) c s x
whole_or_not ts d c s (inr x) = more_or_none x.0.rest x.2 (sym (ap (λ f. f.rest) (same_front ts (front d []) x.0 s x.1)))

same_whole_fault : (ts : List Lexeme) (c d : Cause) → WholeFault ts c → WholeFault ts d → c ≡ d
same_whole_fault ts c d (inl x) (inl y) = same_fault ts c d x y
same_whole_fault ts c d (inl x) (inr y) = absurd (starts_or_not ts y.0 c y.1 x)
same_whole_fault ts c d (inr x) (inl y) = absurd (starts_or_not ts x.0 d x.1 y)
same_whole_fault ts c d (inr x) (inr y) = x.3 ∙ sym y.3

both_ways : (b : Bool) → b ≡ true → b ≡ false → ⊥
both_ways b t f = let h : true ≡ false = sym t ∙ f in absurd cc

if_or_none : (ts : List Lexeme) → ts ≡ [] → begins_with if_word ts ≡ true → ⊥
if_or_none ts e b = both_ways (begins_with if_word ts) b (ap (begins_with if_word) e)

same_condition : (ts : List Lexeme) (w v : Option Disjunction) → IsCondition ts w → IsCondition ts v → w ≡ v
same_condition ts None None x y = refl
same_condition ts None (Some e) x y = absurd (if_or_none ts x y.0)
same_condition ts (Some d) None x y = absurd (if_or_none ts y x.0)
same_condition ts (Some d) (Some e) x y = ap Some (same_whole (drop 1 ts) d e x.1 y.1)

condition_or_not : (ts : List Lexeme) (w : Option Disjunction) (c : Cause) → IsCondition ts w → ConditionFault ts c → ⊥
condition_or_not ts None c x (inl y) = if_or_none ts x y.0
condition_or_not ts None c x (inr y) = more_or_none ts y.0 x
condition_or_not ts (Some d) c x (inl y) = whole_or_not (drop 1 ts) d c x.1 y.1
condition_or_not ts (Some d) c x (inr y) = both_ways (begins_with if_word ts) x.0 y.1

same_condition_fault : (ts : List Lexeme) (c d : Cause) → ConditionFault ts c → ConditionFault ts d → c ≡ d
same_condition_fault ts c d (inl x) (inl y) = same_whole_fault (drop 1 ts) c d x.1 y.1
same_condition_fault ts c d (inl x) (inr y) = absurd (both_ways (begins_with if_word ts) x.0 y.1)
same_condition_fault ts c d (inr x) (inl y) = absurd (both_ways (begins_with if_word ts) y.0 x.1)
same_condition_fault ts c d (inr x) (inr y) = x.2 ∙ sym y.2

-- ---- Lines

-- at most one outcome
abbrev pub AtMostOne : {A : Type 0} → (Result A Cause → Type 0) → Type 0
AtMostOne {A} R = (r s : Result A Cause) → R r → R s → r ≡ s

this_one : {A : Type 0} (t : Result A Cause) → AtMostOne (λ r. r ≡ t)
this_one t r s x y = x ∙ sym y

one_after : {A B : Type 0} (o : Result A Cause) (Next : A → Result B Cause → Type 0) → ((a : A) → AtMostOne (Next a)) → AtMostOne (After o Next)
one_after (Ok a) Next h r s x y = h a r s x y
one_after (Err c) Next h r s x y = x ∙ sym y

one_whole : (make : Disjunction → Named) (ts : List Lexeme) → AtMostOne (ReadsWhole make ts)
one_whole make ts (Ok x) (Ok y) a b = ap Ok (a.2 ∙ ap make (same_whole ts a.0 b.0 a.1 b.1) ∙ sym b.2)
one_whole make ts (Ok x) (Err d) a b = absurd (whole_or_not ts a.0 d a.1 b)
one_whole make ts (Err c) (Ok y) a b = absurd (whole_or_not ts b.0 c b.1 a)
one_whole make ts (Err c) (Err d) a b = ap Err (same_whole_fault ts c d a b)

one_condition : (make : Option Disjunction → Named) (ts : List Lexeme) → AtMostOne (ReadsCondition make ts)
one_condition make ts (Ok x) (Ok y) a b = ap Ok (a.2 ∙ ap make (same_condition ts a.0 b.0 a.1 b.1) ∙ sym b.2)
one_condition make ts (Ok x) (Err d) a b = absurd (condition_or_not ts a.0 d a.1 b)
one_condition make ts (Err c) (Ok y) a b = absurd (condition_or_not ts b.0 c b.1 a)
one_condition make ts (Err c) (Err d) a b = ap Err (same_condition_fault ts c d a b)

value_or_not : (ts : List Lexeme) (f : Front) (w : Option Disjunction) (c : Cause) → StartsExpression ts f → IsCondition f.rest w →
    ExpressionFault ts c ⊎ ((g : Front) × StartsExpression ts g × ConditionFault g.rest c) → ⊥
value_or_not ts f w c s i (inl x) = starts_or_not ts f c s x
value_or_not ts f w c s i (inr x) = condition_or_not f.rest w c i (subst (λ g. ConditionFault g.rest c) (same_front ts x.0 f x.1 s) x.2)

one_value : (make : Disjunction → Option Disjunction → Named) (ts : List Lexeme) → AtMostOne (ReadsValue make ts)
one_value make ts (Ok x) (Ok y) a b =
    let f : a.0 ≡ b.0 = same_front ts a.0 b.0 a.2 b.2 in
    let w : a.1 ≡ b.1 = same_condition b.0.rest a.1 b.1 (subst (λ g. IsCondition g.rest a.1) f a.3) b.3 in
    ap Ok (a.4 ∙ ap (λ g. make g.tree a.1) f ∙ ap (make b.0.tree) w ∙ sym b.4)
one_value make ts (Ok x) (Err d) a b = absurd (value_or_not ts a.0 a.1 d a.2 a.3 b)
one_value make ts (Err c) (Ok y) a b = absurd (value_or_not ts b.0 b.1 c b.2 b.3 a)
one_value make ts (Err c) (Err d) (inl x) (inl y) = ap Err (same_fault ts c d x y)
one_value make ts (Err c) (Err d) (inl x) (inr y) = absurd (starts_or_not ts y.0 c y.1 x)
one_value make ts (Err c) (Err d) (inr x) (inl y) = absurd (starts_or_not ts x.0 d x.1 y)
one_value make ts (Err c) (Err d) (inr x) (inr y) = ap Err (same_condition_fault y.0.rest c d (subst (λ g. ConditionFault g.rest c) (same_front ts x.0 y.0 x.1 y.1) x.2) y.2)

one_text : (make : List ℕ → Named) (ts : List Lexeme) → AtMostOne (ReadsTextLine make ts)
one_text make ts = one_after (text_of ts) (λ t r. r ≡ finish (make t) (drop 1 ts)) (λ t. this_one (finish (make t) (drop 1 ts)))

pub one_source : (ts : List Lexeme) → AtMostOne (ReadsSource ts)
one_source ts = one_after (text_of ts) (λ t. After (plain_text t) (λ u r. r ≡ finish (SourceLine u) (drop 1 ts)))
    (λ t. one_after (plain_text t) (λ u r. r ≡ finish (SourceLine u) (drop 1 ts)) (λ u. this_one (finish (SourceLine u) (drop 1 ts))))

one_config : (ts : List Lexeme) → AtMostOne (ReadsConfig ts)
one_config ts = one_after (word_of ts) (λ w. After (finish w (drop 1 ts)) (λ v r. r ≡ good_name v))
    (λ w. one_after (finish w (drop 1 ts)) (λ v r. r ≡ good_name v) (λ v. this_one (good_name v)))

one_asked : (make : InputPrompt Disjunction → Named) (ts : List Lexeme) → AtMostOne (ReadsPrompt make ts)
one_asked make ts = one_after (text_of ts) (λ t. ReadsCondition (λ w. make (record { text = t; when = w })) (drop 1 ts)) (λ t. one_condition (λ w. make (record { text = t; when = w })) (drop 1 ts))

one_type : (k : SymbolType) (ts : List Lexeme) → AtMostOne (ReadsType k ts)
one_type k ts r s (inl x) (inl y) = x.1 ∙ sym y.1
one_type k ts r s (inl x) (inr y) = absurd (more_or_none ts y.0 x.0)
one_type k ts r s (inr x) (inl y) = absurd (more_or_none ts x.0 y.0)
one_type k ts r s (inr x) (inr y) = one_asked (λ p. TypeLine k (Some p)) ts r s x.1 y.1

one_target : (make : List ℕ → Option Disjunction → Named) (ts : List Lexeme) → AtMostOne (ReadsTarget make ts)
one_target make ts = one_after (named_target ts) (λ t. ReadsCondition (make t) (drop 1 ts)) (λ t. one_condition (make t) (drop 1 ts))

one_range : (ts : List Lexeme) → AtMostOne (ReadsRange ts)
one_range ts = one_after (operand_of ts) (λ a. After (operand_of (drop 1 ts)) (λ b. ReadsCondition (RangeLine a b) (drop 2 ts)))
    (λ a. one_after (operand_of (drop 1 ts)) (λ b. ReadsCondition (RangeLine a b) (drop 2 ts)) (λ b. one_condition (RangeLine a b) (drop 2 ts)))

one_expected : (make : Disjunction → Named) (w : List ℕ) (ts : List Lexeme) → AtMostOne (After (expected w ts) (ReadsWhole make))
one_expected make w ts = one_after (expected w ts) (ReadsWhole make) (one_whole make)

one_rest : (w : List ℕ) (k : Keyword) (ts : List Lexeme) → AtMostOne (ReadsRest w k ts)
one_rest w key.Config ts = one_config ts
one_rest w key.If ts = one_whole IfLine ts
one_rest w key.EndIf ts = this_one (finish EndIfLine ts)
one_rest w key.Comment ts = one_text CommentLine ts
one_rest w key.Source ts = one_source ts
one_rest w key.Menu ts = one_text MenuLine ts
one_rest w key.EndMenu ts = this_one (finish EndMenuLine ts)
one_rest w key.Choice ts = this_one (choice_line ts)
one_rest w key.EndChoice ts = this_one (finish EndChoiceLine ts)
one_rest w key.MainMenu ts = one_text MainMenuLine ts
one_rest w (key.Type k) ts = one_type k ts
one_rest w key.Prompt ts = one_asked PromptLine ts
one_rest w key.Default ts = one_value DefaultLine ts
one_rest w (key.Def k) ts = one_value (DefLine k) ts
one_rest w key.Depends ts = one_expected DependsLine (codes "on") ts
one_rest w key.Visible ts = one_expected VisibleLine if_word ts
one_rest w key.Select ts = one_target SelectLine ts
one_rest w key.Imply ts = one_target ImplyLine ts
one_rest w key.Range ts = one_range ts
one_rest w key.Help ts = this_one (finish HelpLine ts)
one_rest w key.Modules ts = this_one (finish ModulesLine ts)
one_rest w key.«Option» ts = this_one (option_line ts)
one_rest w key.LeftOut ts = this_one (Err (cause.LeftOut w))

one_placed : (c : LineContext) (w : List ℕ) (ts : List Lexeme) (k : Keyword) → AtMostOne (ReadsPlaced c w ts k)
one_placed c w ts k = one_after (in_place k (placement_cause c w ts k)) (λ j. ReadsRest w j ts) (λ j. one_rest w j ts)

pub one_line : (c : LineContext) (ts : List Lexeme) → AtMostOne (ReadsLine c ts)
one_line c ts = one_after (word_of ts) (λ w. After (keyword_or_refusal (keyword_of w)) (ReadsPlaced c w (drop 1 ts)))
    (λ w. one_after (keyword_or_refusal (keyword_of w)) (ReadsPlaced c w (drop 1 ts)) (one_placed c w (drop 1 ts)))

-- ---- A statement does not depend on the context, once it may stand there

placed_rest : (c : LineContext) (w : List ℕ) (ts : List Lexeme) (k : Keyword) (s : Named) → ReadsPlaced c w ts k (Ok s) → ReadsRest w k ts (Ok s)
placed_rest c w ts k s x = by (placement_cause c w ts k) x
  where
    by : (o : Option Cause) → After (in_place k o) (λ j. ReadsRest w j ts) (Ok s) → ReadsRest w k ts (Ok s)
    by None y = y
    by (Some why) e = absurd cc

both_after : {A B : Type 0} (o : Result A Cause) (P Q : A → Result B Cause → Type 0) (s t : B) → ((a : A) → P a (Ok s) → Q a (Ok t) → s ≡ t) →
    After o P (Ok s) → After o Q (Ok t) → s ≡ t
both_after (Ok a) P Q s t same x y = same a x y
both_after (Err c) P Q s t same x y = absurd cc

abbrev read : Named → Result Named Cause
read s = Ok s

same_ok : (s t : Named) → read s ≡ read t → s ≡ t
same_ok s t e = cc

pub same_statement : (c d : LineContext) (ts : List Lexeme) (s t : Named) → ReadsLine c ts (Ok s) → ReadsLine d ts (Ok t) → s ≡ t
same_statement c d ts s t =
    both_after (word_of ts) (λ w. After (keyword_or_refusal (keyword_of w)) (ReadsPlaced c w (drop 1 ts))) (λ w. After (keyword_or_refusal (keyword_of w)) (ReadsPlaced d w (drop 1 ts))) s t
    (λ w. both_after (keyword_or_refusal (keyword_of w)) (ReadsPlaced c w (drop 1 ts)) (ReadsPlaced d w (drop 1 ts)) s t
    (λ k x y. same_ok s t (one_rest w k (drop 1 ts) (Ok s) (Ok t) (placed_rest c w (drop 1 ts) k s x) (placed_rest d w (drop 1 ts) k t y))))
