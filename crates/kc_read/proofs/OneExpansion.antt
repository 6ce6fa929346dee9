-- A root file has one expansion.
use Rattle.std.proofs.{Common.{Bool, Err, List, MatchOption, None, Ok, Option, Result, Some, [], ap, arith, cond, false, inl, inr, length, map, refl, slice_get, subst, sym, true, ℕ, ◌∙◌, ◌∷◌, ◌≡◌, ◌≢◌, ◌⊎◌}, lemmas.Bool.{both_ways, cases_Bool, false≢true}}
use Rattle.kc_language.specs.{Expansion.{FileContext, Files, IsBlankNext, IsMarker, IsUnclosed, MarksNext, NextLine, NextStatement, ReadSoFar, Reading, Refused, Rest, after_file, at_end, at_root, bad_line, bad_source, blank, bytes_cause, context_of, goes_on, inside, last_of, limit_cause, moved, no_tokens, open_blocks, over_limit, refusal_at, refused, refused_inside, renumbered, source, sourced, statement, text_cause, too_long, unclosed, with_file, with_line, without_help}, Expressions.{mention, same_name}, Lines.{IsTooLong, UnreadLines, unread_lines}, Statements.{Cause, Located, Named, ReadsLine, SourceLine, statements}, Tokens.{IsCutIn, Lexeme}, declared.tokens.TextFault.TextFault}
use Rattle.kc_text.proofs.{Joins.{taken_is_short, takes_less, takes_one, too_long_some}, MarkerLemmas.{marked_or_not, one_marker}, Once.same_cutting_in}
use Rattle.kc_read.proofs.{BlockLemmas.{blocks_of_located, located_blocks-opens, no_places, opens}, FileLemmas.same_name_eq, OneLine.one_line}
use Rattle.kc_expr.proofs.NamesLemmas.{same_name-refl}
use Rattle.kc_language.specs.declared.diagnostics.Cause.TheVariants as cause
use Rattle.kc_entries.specs.PartsOfExpansion.{innermost, is_help, is_source, logged, reading, source_cause}
use Rattle.kc_read.specs.{Expansion.OneExpansion, Progress.located_blocks}

-- ---- The next line

pub data Turn : Type 0 where
  Ends : Turn
  Long : Turn
  Line : UnreadLines → List Lexeme → Option TextFault → Turn

-- how the rest of a file goes on
abbrev pub IsTurn : Bool → UnreadLines → Turn → Type 0
IsTurn flat l Ends = l.lines ≡ []
IsTurn flat l Long = IsTooLong l
IsTurn flat l (Line m ts out) = NextLine flat l m ts out

pub one_next : {flat : Bool} (l m n : UnreadLines) (ts us : List Lexeme) (out other : Option TextFault) → NextLine flat l m ts out → NextLine flat l n us other → (m ≡ n) × (ts ≡ us) × (out ≡ other)
one_next {flat} l m n ts us out other a b =
    let (middle, text) = takes_one l a.middle b.middle a.text b.text a.taken b.taken in
    let (tokens, fault) = same_cutting_in (subst (λ t. IsCutIn flat t ts out) text a.cut) b.cut in
    (a.left_after ∙ ap (λ t. cond (is_help t) (without_help a.middle) a.middle) tokens ∙ ap (λ k. cond (is_help us) (without_help k) k) middle ∙ sym b.left_after, tokens, fault)

ended_or_next : {flat : Bool} (l m : UnreadLines) (ts : List Lexeme) (out : Option TextFault) → l.lines ≡ [] → NextLine flat l m ts out → ⊥
ended_or_next l m ts out e n = let less = takes_less l n.middle n.text n.taken in omega (arith, less, ap length e)

ended_or_long : (l : UnreadLines) → l.lines ≡ [] → IsTooLong l → ⊥
ended_or_long l e t = let some = too_long_some l t in omega (arith, some, ap length e)

pub one_turn : (flat : Bool) (l : UnreadLines) (t u : Turn) → IsTurn flat l t → IsTurn flat l u → t ≡ u
one_turn flat l Ends Ends a b = refl
one_turn flat l Ends Long a b = absurd (ended_or_long l a b)
one_turn flat l Ends (Line m ts out) a b = absurd (ended_or_next l m ts out a b)
one_turn flat l Long Ends a b = absurd (ended_or_long l b a)
one_turn flat l Long Long a b = refl
one_turn flat l Long (Line m ts out) a b = absurd (taken_is_short l b.middle b.text b.taken a)
one_turn flat l (Line m ts out) Ends a b = absurd (ended_or_next l m ts out b a)
one_turn flat l (Line m ts out) Long a b = absurd (taken_is_short l a.middle a.text a.taken b)
one_turn flat l (Line m ts out) (Line n us other) a b =
    let (e, f, g) = one_next l m n ts us out other a b in λ i. Line (e i) (f i) (g i)

-- ---- Markers

-- what a line without tokens says: no more, another number, or another file too
pub data Mark : Type 0 where
  NoMark : Mark
  Number : ℕ → Mark
  Place : ℕ → List ℕ → Mark

abbrev pub IsMark : Bool → List ℕ → UnreadLines → UnreadLines → Mark → Type 0
IsMark flat file l m NoMark = IsBlankNext flat l m
IsMark flat file l m (Number n) = MarksNext flat l m n file
IsMark flat file l m (Place n name) = MarksNext flat l m n name × (same_name name file ≡ false)

-- it says one thing
marks_one : {flat : Bool} (l m : UnreadLines) (n k : ℕ) (name other : List ℕ) → MarksNext flat l m n name → MarksNext flat l m k other → (n ≡ k) × (name ≡ other)
marks_one l m n k name other (x, f, a) (y, g, b) =
    let text = (takes_one l x.middle y.middle x.text y.text x.taken y.taken).1 in
    one_marker y.text n k name other (subst (λ t. IsMarker t n name) text a) b

marks_or_not : {B : Type 0} (flat : Bool) (l m : UnreadLines) (n : ℕ) (name : List ℕ) → IsBlankNext flat l m → MarksNext flat l m n name → B
marks_or_not flat l m n name (x, none) (y, f, a) =
    let text = (takes_one l y.middle x.middle y.text x.text y.taken x.taken).1 in
    absurd (none f n name (subst (λ t. IsMarker t n name) text a))

same_or_not : {B : Type 0} (file name : List ℕ) → same_name name file ≡ false → file ≡ name → B
same_or_not file name differs e = absurd (both_ways (same_name file file) (ap (λ f. same_name f file) e ∙ differs) (same_name-refl file))

pub one_mark : (flat : Bool) (file : List ℕ) (l m : UnreadLines) (x y : Mark) → IsMark flat file l m x → IsMark flat file l m y → x ≡ y
one_mark flat file l m NoMark NoMark a b = refl
one_mark flat file l m NoMark (Number k) a b = marks_or_not flat l m k file a b
one_mark flat file l m NoMark (Place k other) a b = marks_or_not flat l m k other a b.0
one_mark flat file l m (Number n) NoMark a b = marks_or_not flat l m n file b a
one_mark flat file l m (Number n) (Number k) a b = ap Number (marks_one l m n k file file a b).0
one_mark flat file l m (Number n) (Place k other) a b = same_or_not file other b.1 (marks_one l m n k file other a b.0).1
one_mark flat file l m (Place n name) NoMark a b = marks_or_not flat l m n name b a.0
one_mark flat file l m (Place n name) (Number k) a b = same_or_not file name a.1 (sym (marks_one l m n k name file a.0 b).1)
one_mark flat file l m (Place n name) (Place k other) a b = let (e, f) = marks_one l m n k name other a.0 b.0 in λ i. Place (e i) (f i)

-- and it says something
pub mark_there : (flat : Bool) (file : List ℕ) (l m : UnreadLines) → NextLine flat l m [] None → (x : Mark) × IsMark flat file l m x
mark_there false file l m x = (NoMark, (x, λ e. absurd (false≢true e)))
mark_there true file l m x = elim (marked_or_not x.text) [
  | inr none ↦ (NoMark, (x, λ e. none))
  | inl (n, name, is) ↦ elim (cases_Bool (same_name name file)) [
    | inl same ↦ (Number n, (x, refl, subst (IsMarker x.text n) (same_name_eq name file same) is))
    | inr differs ↦ (Place n name, ((x, refl, is), differs))
  ]
]

-- ---- The blocks of a file

-- where none is open, none is the innermost
closed_or_not : (own : List (Located Named)) (line : Located Named) → open_blocks (statements own) ≡ [] → IsUnclosed own line → ⊥
closed_or_not own line e u =
    let none : opens own ≡ [] = sym (located_blocks-opens own) ∙ nothing (λ o. o.block) (located_blocks own) (blocks_of_located own ∙ e) in
    let last : innermost own ≡ None = ap last_of (no_places own none) in
    let h : Some u.0 ≡ None = sym u.1 ∙ last in
    absurd cc
  where
    nothing : {A B : Type 0} (f : A → B) (xs : List A) → map f xs ≡ [] → xs ≡ []
    nothing f [] e = refl
    nothing f (x ∷ xs) e = absurd cc

one_unclosed : (own : List (Located Named)) (line other : Located Named) → IsUnclosed own line → IsUnclosed own other → line ≡ other
one_unclosed own line other u v =
    let place : Some u.0 ≡ Some v.0 = sym u.1 ∙ v.1 in
    let same : u.0 ≡ v.0 = cc in
    let found : Some line ≡ Some other = sym u.2 ∙ ap (slice_get own) same ∙ v.2 in
    cc

-- ---- What the rest of a file gives, by its next line

module _ (files : Files) (a : FileContext) (l : UnreadLines) (own : List (Located Named)) (log : ReadSoFar) where
  -- after a statement
  data Said (m : UnreadLines) (s : Named) (r : Result ReadSoFar Refused) : Type 0 where
    said_effect : (c : Cause) → limit_cause a own log s ≡ Some c → r ≡ Err (refusal_at c a.file l.number) → Said m s r
    said_plain : is_source s ≡ false → limit_cause a own log s ≡ None → Rest files (reading a m (with_line own a l.number s) (logged log a l.number s)) r → Said m s r
    said_bad_source : (name : List ℕ) (c : Cause) → s ≡ SourceLine name → source_cause files a log.total_lines name ≡ Some c → r ≡ Err (refusal_at c a.file l.number) → Said m s r
    said_inside : (name bytes : List ℕ) (e : Refused) → s ≡ SourceLine name → source_cause files a log.total_lines name ≡ None → sourced files name ≡ Some bytes →
        Rest files (reading (inside a own name) (unread_lines bytes 1) [] (with_file log name bytes)) (Err e) → r ≡ Err e → Said m s r
    said_source : (name bytes : List ℕ) (more : ReadSoFar) → s ≡ SourceLine name → source_cause files a log.total_lines name ≡ None → sourced files name ≡ Some bytes →
        Rest files (reading (inside a own name) (unread_lines bytes 1) [] (with_file log name bytes)) (Ok more) →
        Rest files (reading a m (with_line own a l.number (SourceLine name)) more) r → Said m s r

  abbrev Says : UnreadLines → Result Named Cause → Result ReadSoFar Refused → Type 0
  Says m (Ok s) r = Said m s r
  Says m (Err c) r = r ≡ Err (refusal_at c a.file l.number)

  -- behind a line without tokens
  abbrev Behind : UnreadLines → Mark → Result ReadSoFar Refused → Type 0
  Behind m NoMark r = Rest files (reading a m own log) r
  Behind m (Number n) r = Rest files (reading a (record m { number = n }) own log) r
  Behind m (Place n name) r =
      Rest files (reading (record a { file = name }) (record m { number = n }) (with_line own a l.number (SourceLine name)) (record log { opened = mention log.opened name })) r

  abbrev Gives : Turn → Result ReadSoFar Refused → Type 0
  Gives Ends r = ((open_blocks (statements own) ≡ []) × (r ≡ Ok log)) ⊎ ((line : Located Named) × IsUnclosed own line × (r ≡ Err (refusal_at cause.Block line.file line.line)))
  Gives Long r = r ≡ Err (refusal_at cause.LineTooLong a.file l.number)
  Gives (Line m ts (Some why)) r = r ≡ Err (refusal_at (text_cause why) a.file l.number)
  Gives (Line m ts None) r = ((ts ≡ []) × ((x : Mark) × IsMark files.flat a.file l m x × Behind m x r)) ⊎ ((ts ≢ []) × ((s : Result Named Cause) × ReadsLine (context_of a own log) ts s × Says m s r))

  -- how the file goes on, and what that gives
  abbrev Goes : Result ReadSoFar Refused → Type 0
  Goes r = (t : Turn) × IsTurn files.flat l t × Gives t r

  goes_statement : (m : UnreadLines) (s : Result Named Cause) (r : Result ReadSoFar Refused) → NextStatement files.flat l m (context_of a own log) s → Says m s r → Goes r
  goes_statement m s r n h = (Line m n.tokens None, n.next, inr (n.some, (s, n.reads, h)))

goes : {files : Files} {at : Reading} {r : Result ReadSoFar Refused} → Rest files at r → Goes files at.context at.unread at.own at.log r
goes (at_end at none closed) = (Ends, none, inl (closed, refl))
goes (unclosed at line none unmatched) = (Ends, none, inr (line, unmatched, refl))
goes (refused at c (too_long long)) = (Long, long, refl)
goes (refused at c (no_tokens m ts why next)) = (Line m ts (Some why), next, refl)
goes {files} (refused at c (bad_line m why n)) = goes_statement files at.context at.unread at.own at.log m (Err c) _ n refl
goes {files} (refused at c (over_limit m s why n e)) = goes_statement files at.context at.unread at.own at.log m (Ok s) _ n (said_effect c e refl)
goes {files} (refused at c (bad_source m name why n e)) =
    goes_statement files at.context at.unread at.own at.log m (Ok (SourceLine name)) _ n (said_bad_source name c refl e refl)
goes (goes_on at next r (blank m n) d) = (Line m [] None, n.0, inl (refl, (NoMark, n, d)))
goes (goes_on at next r (renumbered m n marks) d) = (Line m [] None, marks.0, inl (refl, (Number n, marks, d)))
goes (goes_on at next r (moved m n name marks differs) d) = (Line m [] None, marks.0, inl (refl, (Place n name, (marks, differs), d)))
goes {files} (goes_on at next r (statement m s n plain e) d) = goes_statement files at.context at.unread at.own at.log m (Ok s) r n (said_plain plain e d)
goes {files} (refused_inside at f e d) =
    goes_statement files at.context at.unread at.own at.log f.after (Ok (SourceLine f.name)) _ f.next (said_inside f.name f.bytes e refl f.allowed f.found d refl)
goes {files} (source at f more r d after) =
    goes_statement files at.context at.unread at.own at.log f.after (Ok (SourceLine f.name)) r f.next (said_source f.name f.bytes more refl f.allowed f.found d after)

-- what the next line gives
gives : (files : Files) (a : FileContext) (l : UnreadLines) (own : List (Located Named)) (log : ReadSoFar) (r : Result ReadSoFar Refused) (t : Turn) → IsTurn files.flat l t →
    Rest files (reading a l own log) r → Gives files a l own log t r
gives files a l own log r t is d =
    let (u, is', h) = goes d in
    subst (λ v. Gives files a l own log v r) (one_turn files.flat l u t is' is) h

-- what a line without tokens gives
behind : (files : Files) (a : FileContext) (l m : UnreadLines) (own : List (Located Named)) (log : ReadSoFar) (x : Mark) (r : Result ReadSoFar Refused) →
    NextLine files.flat l m [] None → IsMark files.flat a.file l m x → Rest files (reading a l own log) r → Behind files a l own log m x r
behind files a l m own log x r n is d = by (gives files a l own log r (Line m [] None) n d)
  where
    by : Gives files a l own log (Line m [] None) r → Behind files a l own log m x r
    by (inl (e, (y, is_y, h))) = subst (λ z. Behind files a l own log m z r) (one_mark files.flat a.file l m y x is_y is) h
    by (inr h) = absurd (h.0 refl)

-- what the next statement gives
says : (files : Files) (a : FileContext) (l m : UnreadLines) (own : List (Located Named)) (log : ReadSoFar) (s : Result Named Cause) (r : Result ReadSoFar Refused) →
    NextStatement files.flat l m (context_of a own log) s → Rest files (reading a l own log) r → Says files a l own log m s r
says files a l m own log s r n d = by (gives files a l own log r (Line m n.tokens None) n.next d)
  where
    by : ((n.tokens ≡ []) × ((x : Mark) × IsMark files.flat a.file l m x × Behind files a l own log m x r)) ⊎ ((n.tokens ≢ [])
        × ((t : Result Named Cause) × ReadsLine (context_of a own log) n.tokens t × Says files a l own log m t r)) → Says files a l own log m s r
    by (inl x) = absurd (n.some x.0)
    by (inr x) = subst (λ t. Says files a l own log m t r) (one_line (context_of a own log) n.tokens x.1.0 s x.1.1 n.reads) x.1.2

-- ---- One outcome

pub none_or_some : {A B : Type 0} (o : Option A) (x : A) → o ≡ None → o ≡ Some x → B
none_or_some o x e f = let h : None ≡ Some x = sym e ∙ f in absurd cc

pub one_some : {A : Type 0} (o : Option A) (x y : A) → o ≡ Some x → o ≡ Some y → x ≡ y
one_some o x y e f = let h : Some x ≡ Some y = sym e ∙ f in cc

plain_or_source : {B : Type 0} (s : Named) (name : List ℕ) → is_source s ≡ false → s ≡ SourceLine name → B
plain_or_source s name e f = let h : true ≡ false = ap is_source (sym f) ∙ e in absurd cc

abbrev pub source_line : List ℕ → Named
source_line name = SourceLine name

pub one_name : (name other : List ℕ) → source_line name ≡ source_line other → name ≡ other
one_name name other e = cc

pub same_source : (s : Named) (name other : List ℕ) → s ≡ SourceLine name → s ≡ SourceLine other → name ≡ other
same_source s name other e f = one_name name other (sym e ∙ f)

-- a `source` line opens no block and defines nothing
source_effect : (a : FileContext) (own : List (Located Named)) (log : ReadSoFar) (s : Named) (name : List ℕ) → s ≡ SourceLine name → limit_cause a own log s ≡ None
source_effect a own log s name e = ap (limit_cause a own log) e

abbrev refused_at : FileContext → UnreadLines → Cause → Result ReadSoFar Refused
refused_at a l c = Err (refusal_at c a.file l.number)

module _ (files : Files) (a : FileContext) (l m : UnreadLines) (own : List (Located Named)) (log : ReadSoFar) (other : Result ReadSoFar Refused) where
  same_effect : (s : Named) (c : Cause) → limit_cause a own log s ≡ Some c → Said files a l own log m s other → refused_at a l c ≡ other
  same_effect s c f (said_effect d g e) = ap (refused_at a l) (one_some (limit_cause a own log s) c d f g) ∙ sym e
  same_effect s c f (said_plain p g e) = none_or_some (limit_cause a own log s) c g f
  same_effect s c f (said_bad_source name d e g h) = none_or_some (limit_cause a own log s) c (source_effect a own log s name e) f
  same_effect s c f (said_inside name bytes d e g h i j) = none_or_some (limit_cause a own log s) c (source_effect a own log s name e) f
  same_effect s c f (said_source name bytes more e g h i j) = none_or_some (limit_cause a own log s) c (source_effect a own log s name e) f

  same_plain : (s : Named) → is_source s ≡ false → limit_cause a own log s ≡ None → Said files a l own log m s other → Rest files (reading a m (with_line own a l.number s) (logged log a l.number s)) other
  same_plain s p f (said_effect d g e) = none_or_some (limit_cause a own log s) d f g
  same_plain s p f (said_plain q g e) = e
  same_plain s p f (said_bad_source name d e g h) = plain_or_source s name p e
  same_plain s p f (said_inside name bytes d e g h i j) = plain_or_source s name p e
  same_plain s p f (said_source name bytes more e g h i j) = plain_or_source s name p e

  module _ (name : List ℕ) where
    same_bad_source : (c : Cause) → source_cause files a log.total_lines name ≡ Some c → Said files a l own log m (SourceLine name) other → refused_at a l c ≡ other
    same_bad_source c f (said_effect d g e) = none_or_some (limit_cause a own log (SourceLine name)) d refl g
    same_bad_source c f (said_plain p g e) = plain_or_source (SourceLine name) name p refl
    same_bad_source c f (said_bad_source n d e g h) =
        ap (refused_at a l) (one_some (source_cause files a log.total_lines n) c d (subst (λ k. source_cause files a log.total_lines k ≡ Some c) (one_name name n e) f) g) ∙ sym h
    same_bad_source c f (said_inside n bytes d e g h i j) =
        none_or_some (source_cause files a log.total_lines n) c g (subst (λ k. source_cause files a log.total_lines k ≡ Some c) (one_name name n e) f)
    same_bad_source c f (said_source n bytes more e g h i j) =
        none_or_some (source_cause files a log.total_lines n) c g (subst (λ k. source_cause files a log.total_lines k ≡ Some c) (one_name name n e) f)

    module _ (bytes : List ℕ) (free : source_cause files a log.total_lines name ≡ None) (there : sourced files name ≡ Some bytes) where
      -- the same file is opened
      abbrev Inner : Result ReadSoFar Refused → Type 0
      Inner r = Rest files (reading (inside a own name) (unread_lines bytes 1) [] (with_file log name bytes)) r

      inner : (n b : List ℕ) (r : Result ReadSoFar Refused) → source_line name ≡ source_line n → sourced files n ≡ Some b → Rest files (reading (inside a own n) (unread_lines b 1) [] (with_file log n b)) r → Inner r
      inner n b r e f d =
          let g : n ≡ name = sym (one_name name n e) in
          let h : b ≡ bytes = one_some (sourced files name) b bytes (subst (λ k. sourced files k ≡ Some b) g f) there in
          subst (λ x. Rest files (reading (inside a own name) (unread_lines x 1) [] (with_file log name x)) r) h (subst (λ k. Rest files (reading (inside a own k) (unread_lines b 1) [] (with_file log k b)) r) g d)

      -- what the file gives, and what follows it
      abbrev Entered : Type 0
      Entered = ((e : Refused) × Inner (Err e) × (other ≡ Err e)) ⊎ ((more : ReadSoFar) × Inner (Ok more) × Rest files (reading a m (with_line own a l.number (SourceLine name)) more) other)

      entered : Said files a l own log m (SourceLine name) other → Entered
      entered (said_effect d g e) = none_or_some (limit_cause a own log (SourceLine name)) d refl g
      entered (said_plain p g e) = plain_or_source (SourceLine name) name p refl
      entered (said_bad_source n d e g h) = none_or_some (source_cause files a log.total_lines name) d free (subst (λ k. source_cause files a log.total_lines k ≡ Some d) (sym (one_name name n e)) g)
      entered (said_inside n b d e g h i j) = inl (d, inner n b (Err d) e h i, j)
      entered (said_source n b more e g h i j) =
          inr (more, inner n b (Ok more) e h i, subst (λ k. Rest files (reading a m (with_line own a l.number (SourceLine k)) more) other) (sym (one_name name n e)) j)

abbrev refusal : Refused → Result ReadSoFar Refused
refusal e = Err e

err_or_ok : {B : Type 0} (e : Refused) (log : ReadSoFar) → refusal e ≡ Ok log → B
err_or_ok e log h = absurd cc

abbrev outcome : ReadSoFar → Result ReadSoFar Refused
outcome g = Ok g

pub one_rest : {files : Files} {at : Reading} {r : Result ReadSoFar Refused} → Rest files at r → (other : Result ReadSoFar Refused) → Rest files at other → r ≡ other
one_rest {files} (at_end at none closed) other e = by (gives files at.context at.unread at.own at.log other Ends none e)
  where
    by : ((open_blocks (statements at.own) ≡ []) × (other ≡ Ok at.log)) ⊎ ((line : Located Named) × IsUnclosed at.own line
        × (other ≡ Err (refusal_at cause.Block line.file line.line))) → Ok at.log ≡ other
    by (inl x) = sym x.1
    by (inr x) = absurd (closed_or_not at.own x.0 closed x.1)
one_rest {files} (unclosed at line none unmatched) other e = by (gives files at.context at.unread at.own at.log other Ends none e)
  where
    by : ((open_blocks (statements at.own) ≡ []) × (other ≡ Ok at.log)) ⊎ ((n : Located Named) × IsUnclosed at.own n × (other ≡ Err (refusal_at cause.Block n.file n.line))) →
        Err (refusal_at cause.Block line.file line.line) ≡ other
    by (inl x) = absurd (closed_or_not at.own line x.0 unmatched)
    by (inr x) = ap (λ n. Err (refusal_at cause.Block n.file n.line)) (one_unclosed at.own line x.0 unmatched x.1) ∙ sym x.2
one_rest {files} (refused at c (too_long long)) other e = sym (gives files at.context at.unread at.own at.log other Long long e)
one_rest {files} (refused at c (no_tokens m ts why next)) other e = sym (gives files at.context at.unread at.own at.log other (Line m ts (Some why)) next e)
one_rest {files} (refused at c (bad_line m why n)) other e = sym (says files at.context at.unread m at.own at.log (Err c) other n e)
one_rest {files} (refused at c (over_limit m s why n f)) other e =
    same_effect files at.context at.unread m at.own at.log other s c f (says files at.context at.unread m at.own at.log (Ok s) other n e)
one_rest {files} (refused at c (bad_source m name why n f)) other e =
    same_bad_source files at.context at.unread m at.own at.log other name c f (says files at.context at.unread m at.own at.log (Ok (SourceLine name)) other n e)
one_rest {files} (goes_on at next r (blank m n) d) other e = one_rest d other (behind files at.context at.unread m at.own at.log NoMark other n.0 n e)
one_rest {files} (goes_on at next r (renumbered m n marks) d) other e =
    one_rest d other (behind files at.context at.unread m at.own at.log (Number n) other marks.0 marks e)
one_rest {files} (goes_on at next r (moved m n name marks differs) d) other e =
    one_rest d other (behind files at.context at.unread m at.own at.log (Place n name) other marks.0 (marks, differs) e)
one_rest {files} (goes_on at next r (statement m s n plain f) d) other e =
    one_rest d other (same_plain files at.context at.unread m at.own at.log other s plain f (says files at.context at.unread m at.own at.log (Ok s) other n e))
one_rest {files} (refused_inside at f c d) other e =
    elim (entered files at.context at.unread f.after at.own at.log other f.name f.bytes f.allowed f.found
    (says files at.context at.unread f.after at.own at.log (Ok (SourceLine f.name)) other f.next e)) [
      | inl x ↦ one_rest d (Err x.0) x.1 ∙ sym x.2
      | inr x ↦ err_or_ok c x.0 (one_rest d (Ok x.0) x.1)
    ]
one_rest {files} (source at f more r d after) other e =
    elim (entered files at.context at.unread f.after at.own at.log other f.name f.bytes f.allowed f.found
    (says files at.context at.unread f.after at.own at.log (Ok (SourceLine f.name)) other f.next e)) [
      | inl x ↦ err_or_ok x.0 more (sym (one_rest d (Err x.0) x.1))
      | inr x ↦ one_rest after other (subst (λ g. Rest files (after_file at f g) other) (sym (one_log more x.0 (one_rest d (Ok x.0) x.1))) x.2)
    ]
  where
    one_log : (g h : ReadSoFar) → outcome g ≡ outcome h → g ≡ h
    one_log g h i = cc

abbrev RootGives : Files → List ℕ → Result ReadSoFar Refused → Type 0
RootGives files root r = (bytes : List ℕ) × (files.bytes root ≡ Some bytes) × Rest files (at_root files root bytes) r

pub one_expansion_law : OneExpansion
one_expansion_law files root r other d e = by (bytes_cause root 0 (files.bytes root)) d e
  where
    by : (o : Option Cause) → MatchOption o (RootGives files root r) (λ c. r ≡ Err (refusal_at c root 0)) → MatchOption o (RootGives files root other) (λ c. other ≡ Err (refusal_at c root 0)) → r ≡ other
    by (Some c) x y = x ∙ sym y
    by None x y =
        let b : y.0 ≡ x.0 = one_some (files.bytes root) y.0 x.0 y.1 x.1 in
        one_rest x.2 other (subst (λ b. Rest files (at_root files root b) other) b y.2)
