-- Parts of a line, and refusals that are passed on.
use Rattle.std.proofs.{Common.{Bool, Err, IfErr, IsErrAnd, List, None, Ok, Option, Result, Some, [], ap, codes, drop, false, inl, inr, refl, subst, sym, true, ℕ, ◌∷◌, ◌≡◌}, lemmas.Result.err_from_is_err_and}
use Rattle.std.specs.Prelude.{is_some}
use Rattle.kc_language.specs.{Expressions.{Atom, Disjunction, Form, QuotedAtom, Symbol, Text, WordAtom, if_word, mention, same_name, tri_text, tristate_constant}, Statements.{Cause, ConditionFault, ConfigLine, DependsLine, ExpressionFault, IgnoredLine, InputPrompt, IsCondition, IsMore, LineContext, ModulesLine, Named, RangeLine, ReadsLine, ReadsPrompt, ReadsRest, ReadsSource, ReadsTextLine, ReadsValue, SourceLine, TypeLine, VisibleLine, WholeFault, begins_with, is_good_name, keyword_of, named_target, operand_of, option_line, placement_cause, text_of, word_of}, Text.unescape, Tokens.{AQuoted, AWord, Lexeme}, declared.{expressions.{SymId.SymId, SymbolType.SymbolType, Tri.Tri}, statements.Keyword.Keyword}}
use Rattle.kc_expr.specs.{Names.IsNumber, PartsOfExpressions.is_tristate_constant}
use Rattle.kc_expr.proofs.ConstantLemmas.{constant_text}
use Rattle.kc_language.specs.declared.diagnostics.Cause.TheVariants as cause
use Rattle.kc_entries.specs.{PartsOfStatements.{IsWhole, ReadsConfig, ReadsDepends, ReadsRange, ReadsTarget, ReadsType, ReadsVisible, front, is_pattern}, declared.statement.Statement.Statement}
use Rattle.kc_read.specs.LineReads.{IsConditionForm, IsFault, IsFront, IsOperand, IsRead, IsWholeForm, LineFault, cause_of}

pub fault_passed : {A : Type 0} (r : Result A LineFault) (P : LineFault → Type 0) (e : LineFault) → IsErrAnd r (λ y. y ≡ e) → P e → IfErr r P
fault_passed r P e a h = let p = err_from_is_err_and r a in rw (p.1, p.2) h

pub operand_constant : (ls rest : List Lexeme) (w : List ℕ) (t : Tri) (names : List (List ℕ)) → ls ≡ AWord w ∷ rest → same_name w if_word ≡ false →
    tristate_constant w ≡ Some t → IsOperand names names (operand_of ls) (Text (tri_text t))
operand_constant ls rest w t names e n l =
    let is_constant : is_tristate_constant w ≡ true = ap is_some l in
    record {
      atom = WordAtom w;
      part_is = rw (e, n) refl;
      mentions = rw is_constant refl;
      form = λ later x. rw (is_constant, constant_text w t l) refl;
    }

pub operand_name : (ls rest : List Lexeme) (w : List ℕ) (id : SymId) (old names : List (List ℕ)) → ls ≡ AWord w ∷ rest → same_name w if_word ≡ false →
    is_tristate_constant w ≡ false → IsNumber names w id → names ≡ mention old w → IsOperand old names (operand_of ls) (Symbol id)
operand_name ls rest w id old names e n l s m = record {
  atom = WordAtom w;
  part_is = rw (e, n) refl;
  mentions = rw l m;
  form = λ later x. rw l (ap Symbol (s later x));
}

pub operand_quoted : (ls rest : List Lexeme) (t b : List ℕ) (names : List (List ℕ)) → ls ≡ AQuoted t ∷ rest → b ≡ unescape t → IsOperand names names (operand_of ls) (Text b)
operand_quoted ls rest t b names e s = record {
  atom = QuotedAtom t;
  part_is = rw e refl;
  mentions = refl;
  form = λ later x. ap Text s;
}

pub condition_fault : (ls ts : List Lexeme) (f : LineFault) → begins_with if_word ls ≡ true → drop 1 ls ≡ ts → IsFault f (WholeFault ts) → IsFault f (ConditionFault ls)
condition_fault ls ts f b e h n = inl (b, subst (λ us. WholeFault us (cause_of f)) (sym e) (h n))

pub condition_if : (old names : List (List ℕ)) (ls ts : List Lexeme) (e : Form) → begins_with if_word ls ≡ true → drop 1 ls ≡ ts →
    IsWholeForm old names ts e → IsConditionForm old names ls (Some e)
condition_if old names ls ts e b d w = record {
  tree = Some w.tree;
  mentions = w.mentions;
  condition_is = (b, subst (λ us. IsWhole us w.tree) (sym d) w.whole);
  form = λ later x. ap Some (w.form later x);
}

-- a refusal of a part is one of the line
pub read_passed : (old names : List (List ℕ)) (Reads : Result Named Cause → Type 0) (r : Result Statement LineFault) (e : LineFault) →
    IsErrAnd r (λ y. y ≡ e) → IsFault e (λ c. Reads (Err c)) → IsRead old names Reads r
read_passed old names Reads r e a h = let p = err_from_is_err_and r a in rw (p.1, p.2) h

-- memory ran out
pub memory_passed : (old names : List (List ℕ)) (Reads : Result Named Cause → Type 0) (r : Result Statement LineFault) →
    IsErrAnd r (λ y. y ≡ cause.Memory) → IsRead old names Reads r
memory_passed old names Reads r a = let p = err_from_is_err_and r a in rw p.1 (λ n. absurd (n p.2))

-- a value is refused
pub value_refused : (old names : List (List ℕ)) (make : Disjunction → Option Disjunction → Named) (ts : List Lexeme)
    (r : Result Statement LineFault) (e : LineFault) → IsErrAnd r (λ y. y ≡ e) → IsFault e (ExpressionFault ts) → IsRead old names (ReadsValue make ts) r
value_refused old names make ts r e a h = read_passed old names (ReadsValue make ts) r e a (λ n. inl (h n))

pub text_line_ok : (make : List ℕ → Named) (ls : List Lexeme) (t : List ℕ) → text_of ls ≡ Ok t → drop 1 ls ≡ [] → ReadsTextLine make ls (Ok (make t))
text_line_ok make ls t e d = rw (e, d) refl

pub source_ok : (ls : List Lexeme) (t : List ℕ) → text_of ls ≡ Ok t → is_pattern t ≡ false → drop 1 ls ≡ [] → ReadsSource ls (Ok (SourceLine t))
source_ok ls t e p d = rw (e, p, d) refl

pub config_ok : (ls : List Lexeme) (w : List ℕ) → word_of ls ≡ Ok w → is_good_name w ≡ true → drop 1 ls ≡ [] → ReadsConfig ls (Ok (ConfigLine w))
config_ok ls w e g d = rw (e, d, g) refl

pub asked_ok : (make : InputPrompt Disjunction → Named) (ls ts : List Lexeme) (t : List ℕ) (w : Option Disjunction) → text_of ls ≡ Ok t → drop 1 ls ≡ ts →
    IsCondition ts w → ReadsPrompt make ls (Ok (make (record { text = t; when = w })))
asked_ok make ls ts t w e d c = rw (e, d) (w, c, refl)

pub asked_fault : (make : InputPrompt Disjunction → Named) (ls ts : List Lexeme) (t : List ℕ) (f : LineFault) → text_of ls ≡ Ok t → drop 1 ls ≡ ts →
    IsFault f (ConditionFault ts) → IsFault f (λ c. ReadsPrompt make ls (Err c))
asked_fault make ls ts t f e d h n = rw (e, d) (h n)

pub depends_ok : (ls ts : List Lexeme) (d : Disjunction) → begins_with (codes "on") ls ≡ true → drop 1 ls ≡ ts → IsWhole ts d → ReadsDepends ls (Ok (DependsLine d))
depends_ok ls ts d b e w = rw (b, e) (d, w, refl)

pub depends_fault : (ls ts : List Lexeme) (f : LineFault) → begins_with (codes "on") ls ≡ true → drop 1 ls ≡ ts → IsFault f (WholeFault ts) → IsFault f (λ c. ReadsDepends ls (Err c))
depends_fault ls ts f b e h n = rw (b, e) (h n)

pub target_ok : (make : List ℕ → Option Disjunction → Named) (ls ts : List Lexeme) (t : List ℕ) (w : Option Disjunction) → named_target ls ≡ Ok t →
    drop 1 ls ≡ ts → IsCondition ts w → ReadsTarget make ls (Ok (make t w))
target_ok make ls ts t w e d c = rw (e, d) (w, c, refl)

pub target_fault : (make : List ℕ → Option Disjunction → Named) (ls ts : List Lexeme) (t : List ℕ) (f : LineFault) → named_target ls ≡ Ok t → drop 1 ls ≡ ts →
    IsFault f (ConditionFault ts) → IsFault f (λ c. ReadsTarget make ls (Err c))
target_fault make ls ts t f e d h n = rw (e, d) (h n)

pub visible_ok : (ls ts : List Lexeme) (d : Disjunction) → begins_with if_word ls ≡ true → drop 1 ls ≡ ts → IsWhole ts d → ReadsVisible ls (Ok (VisibleLine d))
visible_ok ls ts d b e w = rw (b, e) (d, w, refl)

pub visible_fault : (ls ts : List Lexeme) (f : LineFault) → begins_with if_word ls ≡ true → drop 1 ls ≡ ts → IsFault f (WholeFault ts) → IsFault f (λ c. ReadsVisible ls (Err c))
visible_fault ls ts f b e h n = rw (b, e) (h n)

pub option_modules : (ls : List Lexeme) → begins_with (codes "modules") ls ≡ true → drop 1 ls ≡ [] → Ok ModulesLine ≡ option_line ls
option_modules ls b e = rw (b, e) refl

pub option_ignored : (ls : List Lexeme) → begins_with (codes "modules") ls ≡ false → begins_with (codes "allnoconfig_y") ls ≡ true → drop 1 ls ≡ [] → Ok IgnoredLine ≡ option_line ls
option_ignored ls a b e = rw (a, b, e) refl

pub typed_read : (old names : List (List ℕ)) (k : SymbolType) (ls : List Lexeme) (r : Result Statement LineFault) → IsMore ls →
    IsRead old names (ReadsPrompt (λ p. TypeLine k (Some p)) ls) r → IsRead old names (ReadsType k ls) r
typed_read old names k ls (Ok s) m h = (h.0, inr (m, h.1), h.2)
typed_read old names k ls (Err f) m h = λ n. inr (m, h n)

pub range_ok : (ls ms ts : List Lexeme) (a b : Atom) (w : Option Disjunction) → operand_of ls ≡ Ok a → drop 1 ls ≡ ms → operand_of ms ≡ Ok b → drop 2 ls ≡ ts →
    IsCondition ts w → ReadsRange ls (Ok (RangeLine a b w))
range_ok ls ms ts a b w e d f g c = rw (e, d, f, g) (w, c, refl)

pub range_fault : (ls ms ts : List Lexeme) (a b : Atom) (f : LineFault) → operand_of ls ≡ Ok a → drop 1 ls ≡ ms → operand_of ms ≡ Ok b → drop 2 ls ≡ ts →
    IsFault f (ConditionFault ts) → IsFault f (λ c. ReadsRange ls (Err c))
range_fault ls ms ts a b f e d g h i n = rw (e, d, g, h) (i n)

pub line_rest : (old names : List (List ℕ)) (c : LineContext) (ls us : List Lexeme) (w : List ℕ) (k : Keyword)
    (r : Result Statement LineFault) → word_of ls ≡ Ok w → keyword_of w ≡ Some k → drop 1 ls ≡ us → placement_cause c w us k ≡ None →
    IsRead old names (ReadsRest w k us) r → IsRead old names (ReadsLine c ls) r
line_rest old names c ls us w k (Ok s) e f d p h = (h.0, rw (e, f, d, p) h.1, h.2)
line_rest old names c ls us w k (Err y) e f d p h = λ n. rw (e, f, d, p) (h n)

pub line_place : (c : LineContext) (ls us : List Lexeme) (w : List ℕ) (k : Keyword) (f : LineFault) → word_of ls ≡ Ok w → keyword_of w ≡ Some k → drop 1 ls ≡ us →
    placement_cause c w us k ≡ Some (cause_of f) → IsFault f (λ y. ReadsLine c ls (Err y))
line_place c ls us w k f e g d p n = rw (e, g, d, p) refl

-- something is left after an expression
pub whole_more : (condition : Bool) (old names : List (List ℕ)) (ts rest : List Lexeme) (e : Form) (f : LineFault) → IsFront condition old names ts rest e →
    IsMore rest → cause_of f ≡ cause.Syntax → IsFault f (WholeFault ts)
whole_more condition old names ts rest e f i more c n = inr (front i.tree rest, i.starts, more, c)

-- the condition after a value is refused
pub value_fault : (make : Disjunction → Option Disjunction → Named) (condition : Bool) (old names : List (List ℕ)) (ts rest : List Lexeme) (e : Form)
    (f : LineFault) → IsFront condition old names ts rest e → IsFault f (ConditionFault rest) → IsFault f (λ c. ReadsValue make ts (Err c))
value_fault make condition old names ts rest e f i h n = inr (front i.tree rest, i.starts, h n)
