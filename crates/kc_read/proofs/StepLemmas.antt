-- The next line of a file.
use Rattle.std.proofs.Common.{Bool, Err, List, None, Result, Some, [], ap, codes, cond, false, refl, subst, sym, true, ℕ, ◌∙◌, ◌∷◌, ◌≡◌, ◌≢◌}
use Rattle.std.specs.Prelude.{MatchOption}
use Rattle.kc_language.specs.{Expansion.{NextLine, NextStatement, refusal_at, text_cause, without_help}, Lines.{TakesLine, UnreadLines, after_help}, Statements.{Cause, LineContext, Named, ReadsLine, begins_with}, Tokens.{IsCutIn, Lexeme}, declared.tokens.TextFault.TextFault}
use Rattle.kc_language.specs.declared.tokens.TextFault.TheVariants as fault
use Rattle.kc_text.specs.{Help.Drops, Lexemes.lexemes, Lines.IsLineFault, Tokens.{IsCutting, IsRefused}, declared.tokens.Token.Token}
use Rattle.kc_read.specs.{LineReads.{IsFault, LineFault, cause_of, lexemes_from}, NextStep.{IsMarked, IsStep, IsStepRefusal, StepFault, long_line, no_tokens, refused_line, too_long}, RefusalView.{out_of_memory, refusal_view}, declared.{refusal.Refusal.Refusal, step.Step.Step}}
use Rattle.kc_diagnostics.proofs.CauseLemmas.{no_other_memory}
use Rattle.kc_language.specs.declared.diagnostics.Cause.TheVariants as cause
use Rattle.kc_read.specs.declared.step.Step.TheVariants as step
use Rattle.kc_entries.specs.PartsOfExpansion.{is_help}
use Rattle.kc_read.proofs.SourceLemmas.{cause_none}

pub help_first : (ls : List Lexeme) (b : Bool) → b ≡ begins_with (codes "help") ls → b ≡ true → b ≡ is_help ls
help_first ls b e t = let h : begins_with (codes "help") ls ≡ true = sym e ∙ t in rw h t

pub help_second : (ls : List Lexeme) (b d : Bool) → b ≡ begins_with (codes "help") ls → b ≡ false → d ≡ begins_with (codes "---help---") ls → d ≡ is_help ls
help_second ls b d e t g = let h : begins_with (codes "help") ls ≡ false = sym e ∙ t in rw h g

view_with : (r : Refusal) (a b : Cause) (file : List ℕ) (m n : ℕ) → a ≡ b → m ≡ n → refusal_view r ≡ refusal_at a file m → refusal_view r ≡ refusal_at b file n
view_with r a b file m n e d h = h ∙ ap (λ c. refusal_at c file m) e ∙ ap (λ k. refusal_at b file k) d

pub line_fault : (flat : Bool) (file : List ℕ) (c : LineContext) (old : UnreadLines) (why : TextFault) (r : Refusal) (line : ℕ) (a : Cause) → old.refusal ≡ None →
    MatchOption old.refusal (IsLineFault old why) (λ given. given ≡ why) → line ≡ long_line why → a ≡ text_cause why →
    (r.cause ≢ cause.Memory → refusal_view r ≡ refusal_at a file line) → IsStepRefusal flat file c old r
line_fault flat file c old why r line a clear cause_is number_is a_is view = by why (cause_none old.refusal (IsLineFault old why) (λ given. given ≡ why) clear cause_is) number_is a_is
  where
    by : (w : TextFault) → IsLineFault old w → line ≡ long_line w → a ≡ text_cause w → IsStepRefusal flat file c old r
    by (fault.LineTooLong n) h d e ne = (cause.LineTooLong, too_long h.1, view_with r a cause.LineTooLong file line old.number e (d ∙ h.0) (view ne))
    by fault.Memory h d e ne = absurd (ne (no_other_memory (λ name. name.items) r.cause (ap (λ v. v.cause) (view ne) ∙ e)))
    by fault.BadToken h d e ne = absurd h
    by fault.Macro h d e ne = absurd h

refused_tokens : (flat : Bool) (c : LineContext) (old mid : UnreadLines) (text : List ℕ) (ts : List Lexeme) (why : TextFault) → TakesLine old mid text →
    IsCutIn flat text ts (Some why) → StepFault flat c old (text_cause why)
refused_tokens flat c old mid text ts why t k = no_tokens (cond (is_help ts) (without_help mid) mid) ts why (record { middle = mid; text = text; taken = t; cut = k; left_after = refl })

pub lex_fault : (flat : Bool) (file : List ℕ) (c : LineContext) (old mid : UnreadLines) (text : List ℕ) (why : TextFault) (r : Refusal) (line : ℕ) (a : Cause) →
    TakesLine old mid text → IsRefused flat text why → line ≡ old.number → a ≡ text_cause why → (r.cause ≢ cause.Memory → refusal_view r ≡ refusal_at a file line) →
    IsStepRefusal flat file c old r
lex_fault flat file c old mid text fault.Memory r line a t k d e view ne = absurd (ne (no_other_memory (λ name. name.items) r.cause (ap (λ v. v.cause) (view ne) ∙ e)))
lex_fault flat file c old mid text why r line a t k d e view ne = (text_cause why, refused_tokens flat c old mid text k.0 why t k.1, view_with r a (text_cause why) file line old.number e d (view ne))

pub left_help : (ls : List Lexeme) (mid new : UnreadLines) → is_help ls ≡ true → Drops mid new (after_help mid.lines) → new ≡ cond (is_help ls) (without_help mid) mid
left_help ls mid new t d = rw t (λ i. record { lines = d.lines i; number = d.number i; refusal = d.refusal i })

pub left_other : (ls : List Lexeme) (mid new : UnreadLines) → is_help ls ≡ false → new ≡ mid → new ≡ cond (is_help ls) (without_help mid) mid
left_other ls mid new f e = rw f e

pub next_statement : (flat : Bool) (c : LineContext) (old mid new : UnreadLines) (text : List ℕ) (ts : List Token) (r : Result Named Cause) → TakesLine old mid text →
    IsCutting flat text (lexemes ts) → ts ≢ [] → ReadsLine c (lexemes_from ts 0) r → new ≡ cond (is_help (lexemes ts)) (without_help mid) mid →
    NextStatement flat old new c r
next_statement flat c old mid new text [] r t k some reads e = absurd (some refl)
next_statement flat c old mid new text (x ∷ xs) r t k some reads e = record {
  tokens = lexemes (x ∷ xs);
  some = λ p. absurd cc;
  next = record { middle = mid; text = text; taken = t; cut = k; left_after = e };
  reads = reads;
}

pub read_refused : (flat : Bool) (file : List ℕ) (c : LineContext) (old mid new : UnreadLines) (text : List ℕ) (ts : List Token) (f : LineFault) (r : Refusal) (line : ℕ) →
    TakesLine old mid text → IsCutting flat text (lexemes ts) → ts ≢ [] → new ≡ cond (is_help (lexemes ts)) (without_help mid) mid →
    IsFault f (λ y. ReadsLine c (lexemes_from ts 0) (Err y)) → line ≡ old.number → (r.cause ≢ cause.Memory → refusal_view r ≡ refusal_at (cause_of f) file line) →
    IsStepRefusal flat file c old r
read_refused flat file c old mid new text ts f r line t k some e h d view ne =
    let g : f ≢ cause.Memory = λ p. ne (no_other_memory (λ name. name.items) r.cause (ap (λ v. v.cause) (view ne) ∙ ap cause_of p)) in
    (cause_of f, refused_line new (cause_of f) (next_statement flat c old mid new text ts (Err (cause_of f)) t k some (h g) e), view ne ∙ ap (λ n. refusal_at (cause_of f) file n) d)

-- a line without tokens
pub marked_step : (flat : Bool) (file : List ℕ) (known names : List (List ℕ)) (c : LineContext) (old new : UnreadLines) (text : List ℕ) (s : Step) → names ≡ known →
    TakesLine old new text → IsCutting flat text [] → IsMarked flat file text s → IsStep flat file known names c old new s
marked_step flat file known names c old new text s same t k is = by s is
  where
    next : NextLine flat old new [] None
    next = record { middle = new; text = text; taken = t; cut = k; left_after = refl }

    by : (s : Step) → IsMarked flat file text s → IsStep flat file known names c old new s
    by step.Blank h = ((next, h), same)
    by (step.Renumbered n) h = ((next, h.0, h.1), same)
    by (step.Moved n name) h = ((next, h.0, h.1), h.2, same)
    by step.End h = absurd h
    by (step.Next n x) h = absurd h

pub step_of_marked : (flat : Bool) (file : List ℕ) (known : List (List ℕ)) (c : LineContext) (old mid new : UnreadLines) (text : List ℕ) (ts : List Token) (s : Step) →
    TakesLine old mid text → IsCutting flat text (lexemes ts) → ts ≡ [] → new ≡ cond (is_help (lexemes ts)) (without_help mid) mid → IsMarked flat file text s →
    IsStep flat file known known c old new s
step_of_marked flat file known c old mid new text ts s t k none left is =
    let same : new ≡ mid = left ∙ ap (λ xs. cond (is_help (lexemes xs)) (without_help mid) mid) none in
    subst (λ m. IsStep flat file known known c old m s) (sym same)
    (marked_step flat file known known c old mid text s refl t (subst (λ xs. IsCutting flat text (lexemes xs)) none k) is)

-- a refusal for want of memory is no refusal of the line
pub no_step_refusal : (flat : Bool) (file : List ℕ) (c : LineContext) (old : UnreadLines) (r : Refusal) → refusal_view r ≡ out_of_memory → IsStepRefusal flat file c old r
no_step_refusal flat file c old r e ne = absurd (ne (no_other_memory (λ name. name.items) r.cause (ap (λ v. v.cause) e)))
