-- The names of a file's `source` lines, one line after another.
use Rattle.std.proofs.Common.{Bool, Err, IfOk, List, MatchOption, None, Ok, Option, Result, Some, [], ap, append_assoc, codes, cond, drop, false, length, map, refl, subst, sym, true, ℕ, ◌++◌, ◌<◌, ◌∙◌, ◌∷◌, ◌≡◌, ◌≢◌}
use Rattle.kc_language.specs.{Expansion.{NextLine, SourceNames, without_help}, Lines.{TakesLine, UnreadLines}, Statements.{Cause, ReadsSource, SourceLine, begins_with}, Tokens.{IsCutIn, Lexeme}, declared.tokens.TextFault.TextFault}
use Rattle.kc_language.specs.declared.tokens.TextFault.TheVariants as fault
use Rattle.kc_text.specs.{Lexemes.lexemes, Lines.IsLineFault, Tokens.{IsCutting, IsRefused}, declared.tokens.Token.Token}
use Rattle.kc_read.specs.{LineReads.lexemes_from, SourceSteps.{HasMoreLines, IsFound}, declared.sources.NextSource.NextSource}
use Rattle.kc_entries.specs.PartsOfExpansion.{is_help}
use Rattle.kc_read.proofs.{FrontLemmas.after_one, RestLemmas.{next_clear, next_less}, SourceLines.{bad_source, before_other, before_source, no_tokens, too_long}}
use Rattle.std.specs.declared.{alloc.{AllocError.AllocError, Global.Global}, vec.Vec.Vec}
use Rattle.kc_entries.proofs.ListLemmas.{map-push}
use Rattle.kc_read.specs.declared.sources.NextSource.TheVariants as found

pub cause_none : (o : Option TextFault) (P : Type 0) (Q : TextFault → Type 0) → o ≡ None → MatchOption o P Q → P
cause_none None P Q e h = h
cause_none (Some x) P Q e h = absurd cc

-- a line that cannot be taken, or cannot be cut, ends the names
pub line_ends : (old : UnreadLines) (why : TextFault) → old.refusal ≡ None → MatchOption old.refusal (IsLineFault old why) (λ given. given ≡ why) → why ≢ fault.Memory → SourceNames old []
line_ends old why clear is ne = by why (cause_none old.refusal (IsLineFault old why) (λ given. given ≡ why) clear is) ne
  where
    by : (w : TextFault) → IsLineFault old w → w ≢ fault.Memory → SourceNames old []
    by (fault.LineTooLong n) h ne = too_long old h.1
    by fault.Memory h ne = absurd (ne refl)
    by fault.BadToken h ne = absurd h
    by fault.Macro h ne = absurd h

refused_line : (old mid : UnreadLines) (text : List ℕ) (ts : List Lexeme) (why : TextFault) → TakesLine old mid text → IsCutIn false text ts (Some why) → SourceNames old []
refused_line old mid text ts why t k = no_tokens old (cond (is_help ts) (without_help mid) mid) ts why (record { middle = mid; text = text; taken = t; cut = k; left_after = refl })

pub cut_ends : (old mid : UnreadLines) (text : List ℕ) (why : TextFault) → TakesLine old mid text → IsRefused false text why → why ≢ fault.Memory → SourceNames old []
cut_ends old mid text fault.Memory t k ne = absurd (ne refl)
cut_ends old mid text why t k ne = refused_line old mid text k.0 why t k.1

-- a line that is taken
pub taken_line : (old mid new : UnreadLines) (text : List ℕ) (ts : List Token) → TakesLine old mid text → IsCutting false text (lexemes ts) →
    new ≡ cond (is_help (lexemes ts)) (without_help mid) mid → NextLine false old new (lexemes ts) None
taken_line old mid new text ts t k e = record { middle = mid; text = text; taken = t; cut = k; left_after = e }

pub begins_pieces : (ts : List Token) (b : Bool) → b ≡ begins_with (codes "source") (lexemes_from ts 0) → begins_with (codes "source") (lexemes ts) ≡ b
begins_pieces ts b e = sym e

rest_pieces : (ts : List Token) → drop 1 (lexemes ts) ≡ lexemes_from ts 1
rest_pieces ts = after_one ts 0

pub source_found : (ts : List Token) (name : List ℕ) → ReadsSource (lexemes_from ts 1) (Ok (SourceLine name)) → ReadsSource (drop 1 (lexemes ts)) (Ok (SourceLine name))
source_found ts name h = subst (λ ls. ReadsSource ls (Ok (SourceLine name))) (sym (rest_pieces ts)) h

pub source_bad : (old new : UnreadLines) (ts : List Token) (c : Cause) → NextLine false old new (lexemes ts) None →
    begins_with (codes "source") (lexemes ts) ≡ true → ReadsSource (lexemes_from ts 1) (Err c) → SourceNames old []
source_bad old new ts c n b h = bad_source old new (lexemes ts) c n b (subst (λ ls. ReadsSource ls (Err c)) (sym (rest_pieces ts)) h)

-- The names so far, and those that follow.
abbrev pub Follows : UnreadLines → UnreadLines → List (List ℕ) → Type 0
Follows start now names = (rest : List (List ℕ)) → SourceNames now rest → SourceNames start (names ++ rest)

pub follows_other : (start now next : UnreadLines) (names : List (List ℕ)) → Follows start now names → IsFound now next found.Other → Follows start next names
follows_other start now next names f h = λ rest g. f rest (before_other now next rest h g)

pub follows_name : (start now next : UnreadLines) (name : Vec ℕ Global) (names : List (Vec ℕ Global)) → Follows start now (map (λ n. n.items) names) →
    IsFound now next (found.Name name) → Follows start next (map (λ n. n.items) (names ++ name ∷ []))
follows_name start now next name names f h = λ rest g.
    subst (SourceNames start) (sym (ap (λ ns. ns ++ rest) (map-push (λ n. n.items) names name) ∙ append_assoc (map (λ n. n.items) names) (name.items ∷ []) rest))
    (f (name.items ∷ rest) (before_source now next name.items rest h g))

-- a line after which another follows
pub found_clear : (old new : UnreadLines) (f : NextSource) → IsFound old new f → HasMoreLines f → new.refusal ≡ None
found_clear old new found.Nothing h g = absurd g
found_clear old new found.Other h g = next_clear old new h.0 None h.1
found_clear old new (found.Name t) h g = next_clear old new h.0 None h.1

pub found_less : (old new : UnreadLines) (f : NextSource) → IsFound old new f → HasMoreLines f → length new.lines < length old.lines
found_less old new found.Nothing h g = absurd g
found_less old new found.Other h g = next_less old new h.0 None h.1
found_less old new (found.Name t) h g = next_less old new h.0 None h.1

-- what a line says, whatever the lines were before it
abbrev pub SaysSource : UnreadLines → UnreadLines → List ℕ → NextSource → Type 0
SaysSource mid new text f = (before : UnreadLines) → TakesLine before mid text → IsFound before new f

pub says_clear : (old mid new : UnreadLines) (text : List ℕ) (r : Result NextSource AllocError) → TakesLine old mid text → IfOk r (SaysSource mid new text) →
    IfOk r (λ f. HasMoreLines f → new.refusal ≡ None)
says_clear old mid new text (Ok f) taken says = found_clear old new f (says old taken)
says_clear old mid new text (Err e) taken says = says

pub says_less : (old mid new : UnreadLines) (text : List ℕ) (r : Result NextSource AllocError) → TakesLine old mid text → IfOk r (SaysSource mid new text) →
    IfOk r (λ f. HasMoreLines f → length new.lines < length old.lines)
says_less old mid new text (Ok f) taken says = found_less old new f (says old taken)
says_less old mid new text (Err e) taken says = says

-- a line that could not be taken or cut
pub ended_found : (P : NextSource → Type 0) (r : Result NextSource AllocError) (why : TextFault) → IfOk r (λ f. (f ≡ found.Nothing) × (why ≢ fault.Memory)) →
    (why ≢ fault.Memory → P found.Nothing) → IfOk r P
ended_found P (Ok f) why h names = subst P (sym h.0) (names h.1)
ended_found P (Err e) why h names = h
