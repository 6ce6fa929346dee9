-- An expression at the front of a line's tokens.
use Rattle.std.proofs.{Common.{Bool, List, [], ap, arith, drop, inl, inr, map, refl, subst, suc, sym, zero, ℕ, ◌+◌, ◌-◌, ◌∙◌, ◌∷◌, ◌≡◌, ◌≤◌}, lemmas.List.drop-map}
use Rattle.kc_text.specs.{Lexemes.{lexeme, lexemes}, declared.tokens.Token.Token}
use Rattle.kc_expr.specs.{Grammar.terminals_from, Parsing.{IsParsed, IsRefused}, PartsOfExpressions.terminals, declared.parse.ExprFault.ExprFault}
use Rattle.kc_expr.specs.declared.parse.ExprFault.TheVariants as expr
use Rattle.kc_language.specs.{Expressions.{Form, LongestFront, terminal_of}, Statements.ExpressionFault}
use Rattle.kc_diagnostics.proofs.CauseLemmas.{no_other_memory}
use Rattle.kc_read.specs.LineReads.{IsFault, IsFront, LineFault, cause_of, expression_cause, lexemes_from}

terminals-map : (ts : List Token) → map terminal_of (lexemes ts) ≡ map (λ t. terminal_of (lexeme t)) ts
terminals-map [] = refl
terminals-map (t ∷ ts) = ap (λ l. terminal_of (lexeme t) ∷ l) (terminals-map ts)

pub terminals-lexemes_from : (tokens : List Token) (at : ℕ) → terminals (lexemes_from tokens at) ≡ terminals_from tokens at
terminals-lexemes_from tokens at = terminals-map (drop at tokens)

drop_empty : {A : Type 0} (n : ℕ) (xs : List A) → xs ≡ [] → drop n xs ≡ []
drop_empty zero xs e = e
drop_empty (suc n) [] e = refl
drop_empty (suc n) (x ∷ xs) e = absurd cc

drop_twice : {A : Type 0} (m n : ℕ) (xs : List A) → drop n (drop m xs) ≡ drop (m + n) xs
drop_twice zero n xs = let e : 0 + n ≡ n = omega arith in rw e refl
drop_twice (suc m) n [] = drop_empty n [] refl ∙ sym (drop_empty (suc m + n) [] refl)
drop_twice (suc m) n (x ∷ xs) = let e : suc m + n ≡ suc (m + n) = omega arith in rw e (drop_twice m n xs)

pub lexemes_later : (tokens : List Token) (at end : ℕ) → at ≤ end → lexemes_from tokens end ≡ drop (end - at) (lexemes_from tokens at)
lexemes_later tokens at end h =
    let e : at + (end - at) ≡ end = omega arith in
    ap (lexemes_from tokens) (sym e) ∙ ap lexemes (sym (drop_twice at (end - at) tokens)) ∙ sym (drop-map lexeme (end - at) (drop at tokens))

pub is_front : (condition : Bool) (old names : List (List ℕ)) (tokens : List Token) (at end : ℕ) (e : Form) → at ≤ end →
    IsParsed condition (terminals_from tokens at) (terminals_from tokens end) old names e →
    IsFront condition old names (lexemes_from tokens at) (lexemes_from tokens end) e
is_front condition old names tokens at end e h p = record {
  tree = p.tree;
  starts = record {
    used = end - at;
    rest_is = lexemes_later tokens at end h;
    longest = rw (terminals-lexemes_from tokens at, terminals-lexemes_from tokens end) (subst (λ f. LongestFront (terminals_from tokens at) f (terminals_from tokens end)) (sym p.derives) p.longest);
    within = p.within;
  };
  mentions = p.mentions;
  form = p.form;
}

pub is_expression_fault : (tokens : List Token) (at : ℕ) (e : ExprFault) (f : LineFault) → cause_of f ≡ expression_cause e →
    IsRefused e (terminals_from tokens at) → IsFault f (ExpressionFault (lexemes_from tokens at))
is_expression_fault tokens at expr.Syntax f is r n = inl (rw (terminals-lexemes_from tokens at) r, is)
is_expression_fault tokens at expr.TooDeep f is r n = inr (rw (terminals-lexemes_from tokens at) r, is)
is_expression_fault tokens at expr.Memory f is r n = absurd (n (no_other_memory (λ name. name.now) f is))

pub after_one : (tokens : List Token) (at : ℕ) → drop 1 (lexemes_from tokens at) ≡ lexemes_from tokens (at + 1)
after_one tokens at =
    let e : (at + 1) - at ≡ 1 = omega arith in
    sym (lexemes_later tokens at (at + 1) (omega arith) ∙ ap (λ k. drop k (lexemes_from tokens at)) e)

pub after_two : (tokens : List Token) (at : ℕ) → drop 2 (lexemes_from tokens at) ≡ lexemes_from tokens (at + 2)
after_two tokens at =
    let e : (at + 2) - at ≡ 2 = omega arith in
    sym (lexemes_later tokens at (at + 2) (omega arith) ∙ ap (λ k. drop k (lexemes_from tokens at)) e)
