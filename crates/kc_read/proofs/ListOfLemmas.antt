-- A file has at most one list.
use Rattle.std.proofs.{Common.{Bool, List, None, Ok, Some, [], ap, false, inl, inr, refl, subst, sym, ℕ, ◌++◌, ◌∙◌, ◌∷◌, ◌≡◌, ◌≢◌, ◌⊎◌}, lemmas.Bool.both_ways}
use Rattle.kc_language.specs.{Expansion.{Files, NextLine, NextStatement, sourced}, Lines.{UnreadLines, unread_lines}, Statements.{LineContext, Located, Named, ReadsLine, SourceLine}, Tokens.Lexeme}
use Rattle.kc_entries.specs.PartsOfExpansion.{is_source}
use Rattle.kc_read.specs.Replaced.{OneListOf, Owns, Replaces, kept, located, no_line, no_tokens, nothing, one_more, other_file, replaced, same_file}
use Rattle.kc_read.proofs.{OneExpansion.{Ends, IsMark, IsTurn, Line, Long, Mark, NoMark, Number, Place, Turn, one_mark, one_some, one_turn, same_source}, OneLine.same_statement}

-- ---- The statements of a file, by its next line

-- the next line has tokens, which are a statement
record Begins (flat : Bool) (file : List ℕ) (l m : UnreadLines) (ts : List Lexeme) (own : List (Located Named)) : Type 0 where
  pub some : ts ≢ []
  pub context : LineContext
  pub first : Named
  pub more : List (Located Named)
  pub reads : ReadsLine context ts (Ok first)
  pub owns : Owns flat file m more
  pub is : own ≡ located file l.number first ∷ more

-- behind a line without tokens
abbrev Behind : Bool → List ℕ → UnreadLines → Mark → List (Located Named) → Type 0
Behind flat file m NoMark own = Owns flat file m own
Behind flat file m (Number n) own = Owns flat file (record m { number = n }) own
Behind flat file m (Place n name) own = Owns flat name (record m { number = n }) own

abbrev Gives : Bool → List ℕ → UnreadLines → Turn → List (Located Named) → Type 0
Gives flat file l Ends own = own ≡ []
Gives flat file l Long own = ⊥
Gives flat file l (Line m ts (Some why)) own = ⊥
Gives flat file l (Line m ts None) own = ((ts ≡ []) × ((x : Mark) × IsMark flat file l m x × Behind flat file m x own)) ⊎ Begins flat file l m ts own

goes : {flat : Bool} {file : List ℕ} {l : UnreadLines} {own : List (Located Named)} → Owns flat file l own → (t : Turn) × IsTurn flat l t × Gives flat file l t own
goes (no_line file l none) = (Ends, none, refl)
goes (no_tokens file l m own next d) = (Line m [] None, next.0, inl (refl, (NoMark, next, d)))
goes (same_file file l m n own marks d) = (Line m [] None, marks.0, inl (refl, (Number n, marks, d)))
goes (other_file file l m n name own marks differs d) = (Line m [] None, marks.0, inl (refl, (Place n name, (marks, differs), d)))
goes (one_more file l m c s own n d) = (Line m n.tokens None, n.next, inr (record { some = n.some; context = c; first = s; more = own; reads = n.reads; owns = d; is = refl }))

-- what the next line gives
gives : (flat : Bool) (file : List ℕ) (l : UnreadLines) (own : List (Located Named)) (t : Turn) → IsTurn flat l t → Owns flat file l own → Gives flat file l t own
gives flat file l own t is d =
    let (u, is', h) = goes d in
    subst (λ v. Gives flat file l v own) (one_turn flat l u t is' is) h

behind : (flat : Bool) (file : List ℕ) (l m : UnreadLines) (own : List (Located Named)) (x : Mark) → NextLine flat l m [] None → IsMark flat file l m x →
    Owns flat file l own → Behind flat file m x own
behind flat file l m own x n is d = by (gives flat file l own (Line m [] None) n d)
  where
    by : Gives flat file l (Line m [] None) own → Behind flat file m x own
    by (inl (e, (y, is_y, h))) = subst (λ z. Behind flat file m z own) (one_mark flat file l m y x is_y is) h
    by (inr h) = absurd (h.some refl)

same_after_statement : {flat : Bool} (file : List ℕ) (l m : UnreadLines) (c : LineContext) (s : Named) (n : NextStatement flat l m c (Ok s)) (own other : List (Located Named)) →
    ((more : List (Located Named)) → Owns flat file m more → own ≡ more) → Gives flat file l (Line m n.tokens None) other → located file l.number s ∷ own ≡ other
same_after_statement file l m c s n own other same (inl x) = absurd (n.some x.0)
same_after_statement file l m c s n own other same (inr x) =
    ap (λ t. located file l.number t ∷ own) (same_statement c x.context n.tokens s x.first n.reads x.reads)
    ∙ ap (λ ls. located file l.number x.first ∷ ls) (same x.more x.owns) ∙ sym x.is

one_own : {flat : Bool} {file : List ℕ} {l : UnreadLines} {own : List (Located Named)} → Owns flat file l own → (other : List (Located Named)) → Owns flat file l other → own ≡ other
one_own {flat} (no_line file l none) other e = sym (gives flat file l other Ends none e)
one_own {flat} (no_tokens file l m own next d) other e = one_own d other (behind flat file l m other NoMark next.0 next e)
one_own {flat} (same_file file l m n own marks d) other e = one_own d other (behind flat file l m other (Number n) marks.0 marks e)
one_own {flat} (other_file file l m n name own marks differs d) other e = one_own d other (behind flat file l m other (Place n name) marks.0 (marks, differs) e)
one_own {flat} (one_more file l m c s own n d) other e = same_after_statement file l m c s n own other (λ more f. one_own d more f) (gives flat file l other (Line m n.tokens None) n.next e)

-- ---- The list, by the first statement

record Inside (files : Files) (s : Located Named) (own list : List (Located Named)) : Type 0 where
  pub name : List ℕ
  pub bytes : List ℕ
  pub inner : List (Located Named)
  pub inside : List (Located Named)
  pub more : List (Located Named)
  pub names : s.statement ≡ SourceLine name
  pub there : sourced files name ≡ Some bytes
  pub owns : Owns files.flat name (unread_lines bytes 1) inner
  pub replaces : Replaces files inner inside
  pub behind : Replaces files own more
  pub is : list ≡ inside ++ more

record Stays (files : Files) (s : Located Named) (own list : List (Located Named)) : Type 0 where
  pub plain : is_source s.statement ≡ false
  pub more : List (Located Named)
  pub behind : Replaces files own more
  pub is : list ≡ s ∷ more

abbrev ByFirst : Files → List (Located Named) → List (Located Named) → Type 0
ByFirst files [] list = list ≡ []
ByFirst files (s ∷ own) list = Stays files s own list ⊎ Inside files s own list

by_first : {files : Files} {own list : List (Located Named)} → Replaces files own list → ByFirst files own list
by_first nothing = refl
by_first (kept s own list plain d) = inl (record { plain = plain; more = list; behind = d; is = refl })
by_first (replaced s name bytes own inner inside list names there owns d f) = inr (record {
  name = name;
  bytes = bytes;
  inner = inner;
  inside = inside;
  more = list;
  names = names;
  there = there;
  owns = owns;
  replaces = d;
  behind = f;
  is = refl;
})

plain_or_source : {B : Type 0} (s : Located Named) (name : List ℕ) → is_source s.statement ≡ false → s.statement ≡ SourceLine name → B
plain_or_source s name plain names = absurd (both_ways (is_source s.statement) plain (ap is_source names))

same_kept : (files : Files) (s : Located Named) (own list other : List (Located Named)) → is_source s.statement ≡ false →
    ((more : List (Located Named)) → Replaces files own more → list ≡ more) → ByFirst files (s ∷ own) other → s ∷ list ≡ other
same_kept files s own list other plain same (inl x) = ap (λ ls. s ∷ ls) (same x.more x.behind) ∙ sym x.is
same_kept files s own list other plain same (inr x) = plain_or_source s x.name plain x.names

same_replaced : (files : Files) (s : Located Named) (name bytes : List ℕ) (own inner inside list other : List (Located Named)) → s.statement ≡ SourceLine name →
    sourced files name ≡ Some bytes → Owns files.flat name (unread_lines bytes 1) inner → ((more : List (Located Named)) → Replaces files inner more → inside ≡ more) →
    ((more : List (Located Named)) → Replaces files own more → list ≡ more) → ByFirst files (s ∷ own) other → inside ++ list ≡ other
same_replaced files s name bytes own inner inside list other names there owns same_inside same (inl x) = plain_or_source s name x.plain names
same_replaced files s name bytes own inner inside list other names there owns same_inside same (inr x) =
    let named : x.name ≡ name = same_source s.statement x.name name x.names names in
    let held : sourced files name ≡ Some x.bytes = subst (λ w. sourced files w ≡ Some x.bytes) named x.there in
    let read : x.bytes ≡ bytes = one_some (sourced files name) x.bytes bytes held there in
    let owned : Owns files.flat name (unread_lines bytes 1) x.inner = subst (λ b. Owns files.flat name (unread_lines b 1) x.inner) read (subst (λ w. Owns files.flat w (unread_lines x.bytes 1) x.inner) named x.owns) in
    let own_is : x.inner ≡ inner = one_own owned inner owns in
    let first : inside ≡ x.inside = same_inside x.inside (subst (λ ls. Replaces files ls x.inside) own_is x.replaces) in
    ap (λ ls. ls ++ list) first ∙ ap (λ ls. x.inside ++ ls) (same x.more x.behind) ∙ sym x.is

one_replaced : {files : Files} {own list : List (Located Named)} → Replaces files own list → (other : List (Located Named)) → Replaces files own other → list ≡ other
one_replaced nothing other e = sym (by_first e)
one_replaced {files} (kept s own list plain d) other e = same_kept files s own list other plain (λ more f. one_replaced d more f) (by_first e)
one_replaced {files} (replaced s name bytes own inner inside list names there owns d f) other e =
    same_replaced files s name bytes own inner inside list other names there owns (λ more g. one_replaced d more g) (λ more g. one_replaced f more g) (by_first e)

pub one_list_of : OneListOf
one_list_of files name list other x y =
    let read : x.bytes ≡ y.bytes = one_some (files.bytes name) x.bytes y.bytes x.there y.there in
    let own_is : x.own ≡ y.own = one_own (subst (λ b. Owns files.flat name (unread_lines b 1) x.own) read x.owns) y.own y.owns in
    one_replaced (subst (λ ls. Replaces files ls list) own_is x.replaces) other y.replaces
