-- The rest of a file, one line after another.
use Rattle.std.specs.Bool.{⊤}
use Rattle.std.proofs.{Common.{Bool, Err, IfErr, IsErrAnd, List, None, Ok, Option, Result, Some, [], ap, append-nil, arith, cond, false, length, map, option_map, refl, subst, sym, take, true, ℕ, ◌++◌, ◌-◌, ◌<◌, ◌∙◌, ◌∷◌, ◌≡◌, ◌≢◌}, lemmas.Result.err_from_is_err_and}
use Rattle.kc_language.specs.{Expansion.{FileContext, Files, IsBlankNext, MarksNext, NextLine, NextStatement, ReadSoFar, Rest, at_end, bad_line, bad_source, blank, context_of, goes_on, inside, is_attribute, last_of, moved, no_tokens, over_limit, refusal_at, refused, refused_inside, renumbered, source, sourced, sourcing_cause, statement, too_long, unclosed, with_file, with_line, without_help}, Expressions.{mention, same_name}, Lines.{UnreadLines, unread_lines}, Statements.{Cause, LineContext, Located, Named, SourceLine, is_config}, Tokens.Lexeme, declared.tokens.TextFault.TextFault}
use Rattle.kc_text.proofs.{Helps.after_help-le, Joins.takes_less}
use Rattle.kc_read.specs.{LineReads.{IsMade, LineFault, cause_of}, NextStep.{IsStepRefusal, StepFault}, Progress.{HasAdvanced, IsEnded, IsFileRead, IsLineTaken, IsMarkedOpened, IsMovedFrame, IsNextRead, IsOpenAtEnd, IsProgress, IsReading, IsRestRefusal, IsState, IsStatementRead, IsTaken, limit_view, open_names, opener_of, openers}, RefusalView.refusal_view, declared.{frame.Frame.Frame, progress.Progress.Progress, refusal.Refusal.Refusal}}
use Rattle.kc_language.specs.declared.diagnostics.Cause.TheVariants as cause
use Rattle.kc_diagnostics.proofs.CauseLemmas.{no_other_memory}
use Rattle.kc_language.specs.declared.statements.EntryKind.TheVariants as entry
use Rattle.kc_entries.specs.{Entries.IsLastFile, PartsOfExpansion.{is_help, is_source, logged, reading, source_cause}, PartsOfStatements.is_entry, StatementViews.statement_view, declared.statement.{Attribute.Attribute, Statement.Statement}}
use Rattle.kc_entries.specs.declared.statement.Statement.TheVariants as made
use Rattle.kc_read.specs.NextStep as step
use Rattle.kc_read.proofs.BlockLemmas as blocks
use Rattle.kc_entries.proofs.ListLemmas.{but_last, but_last-append, but_last-take, last_of-map}
use Rattle.kc_read.proofs.{HeadLemmas.attribute_is, ShapeLemmas.made_shape, StateLemmas.{effect_same, frame_push, no_entry, state_moved, state_taken}, TurnLemmas.{adds, enables, read_suits}}

-- A line is taken from what is left of a file.
pub next_less : {flat : Bool} (l m : UnreadLines) (ts : List Lexeme) (out : Option TextFault) → NextLine flat l m ts out → length m.lines < length l.lines
next_less l m ts out n =
    let less : length n.middle.lines < length l.lines = takes_less l n.middle n.text n.taken in
    by (is_help ts) less n.left_after
  where
    by : (b : Bool) → length n.middle.lines < length l.lines → m ≡ cond b (without_help n.middle) n.middle → length m.lines < length l.lines
    by true less e = omega (arith, less, after_help-le n.middle.lines, ap (λ x. length x.lines) e)
    by false less e = omega (arith, less, ap (λ x. length x.lines) e)

pub next_clear : {flat : Bool} (l m : UnreadLines) (ts : List Lexeme) (out : Option TextFault) → NextLine flat l m ts out → m.refusal ≡ None
next_clear l m ts out n = by (is_help ts) n.left_after
  where
    by : (b : Bool) → m ≡ cond b (without_help n.middle) n.middle → m.refusal ≡ None
    by true e = ap (λ x. x.refusal) e ∙ n.taken.5
    by false e = ap (λ x. x.refusal) e ∙ n.taken.5

pub next_taken : {flat : Bool} (l m : UnreadLines) (ts : List Lexeme) → NextLine flat l m ts None → IsLineTaken l m
next_taken l m ts n = (next_less l m ts None n, next_clear l m ts None n)

-- a refusal of the next line is one of the rest
fault_of_rest : (files : Files) (a : FileContext) (l : UnreadLines) (own : List (Located Named)) (log : ReadSoFar) (c : LineContext) (why : Cause) →
    c ≡ context_of a own log → StepFault files.flat c l why → Rest files (reading a l own log) (Err (refusal_at why a.file l.number))
fault_of_rest files a l own log c why e (step.too_long t) = refused (reading a l own log) _ (too_long t)
fault_of_rest files a l own log c why e (step.no_tokens new ts w n) = refused (reading a l own log) _ (no_tokens new ts w n)
fault_of_rest files a l own log c why e (step.refused_line new w n) = refused (reading a l own log) _ (bad_line new w (subst (λ k. NextStatement files.flat l new k (Err w)) e n))

-- a refusal that is made for a cause and a line
pub refusal_stands : (files : Files) (a : FileContext) (l : UnreadLines) (own : List (Located Named)) (log : ReadSoFar) (r : Refusal) (why : Cause) (file : List ℕ)
    (line : ℕ) → refusal_view r ≡ refusal_at why file line → file ≡ a.file → line ≡ l.number → Rest files (reading a l own log) (Err (refusal_at why a.file l.number)) →
    Rest files (reading a l own log) (Err (refusal_view r))
refusal_stands files a l own log r why file line v e n rest =
    subst (λ x. Rest files (reading a l own log) (Err x)) (sym (v ∙ ap (λ f. refusal_at why f line) e ∙ ap (λ k. refusal_at why a.file k) n)) rest

pub step_refused : (files : Files) (a : FileContext) (l : UnreadLines) (own : List (Located Named)) (log : ReadSoFar) (c : LineContext) (file : List ℕ) (r : Refusal)
    → c ≡ context_of a own log → file ≡ a.file → IsStepRefusal files.flat file c l r → IsRestRefusal files a l own log r
step_refused files a l own log c file r e f h ne =
    let w = h ne in
    refusal_stands files a l own log r w.0 file l.number w.2 f refl (fault_of_rest files a l own log c w.0 e w.1)

-- the end of a file
pub ended : (files : Files) (first : List (List ℕ)) (names : List (List ℕ)) (a : FileContext) (l : UnreadLines)
    (own : List (Located Named)) (log : ReadSoFar) (p : Progress) (f : Frame) → IsState first names a own log p f → l.lines ≡ [] → f.blocks.items ≡ [] →
    IsEnded files first names a l own log p
ended files first names a l own log p f i e none = record {
  rest = at_end (reading a l own log) e (sym (blocks.blocks_of_located own) ∙ ap (map (λ o. o.block)) (sym i.frame.blocks ∙ ap (map opener_of) none));
  progress = i.progress;
}

pub end_refused : (files : Files) (first : List (List ℕ)) (names : List (List ℕ)) (a : FileContext) (l : UnreadLines)
    (own : List (Located Named)) (log : ReadSoFar) (p : Progress) (f : Frame) (r : Refusal) → IsState first names a own log p f → l.lines ≡ [] →
    IsOpenAtEnd f (refusal_view r) → Rest files (reading a l own log) (Err (refusal_view r))
end_refused files first names a l own log p f r i e o =
    let found : last_of (openers f) ≡ Some (opener_of o.0) = last_of-map opener_of f.blocks.items ∙ ap (option_map opener_of) o.1 in
    let (opener, is_open, file, line) = blocks.unclosed own (opener_of o.0) (ap last_of (sym i.frame.blocks) ∙ found) in
    subst (λ x. Rest files (reading a l own log) (Err x)) (sym (o.2 ∙ (λ j. refusal_at cause.Block (file j) (line j)))) (unclosed (reading a l own log) opener e is_open)

-- a line without tokens
pub blank_goes : (files : Files) (first : List (List ℕ)) (names : List (List ℕ)) (a : FileContext) (l m : UnreadLines)
    (own : List (Located Named)) (log : ReadSoFar) (p : Progress) (f : Frame) → IsState first names a own log p f → IsBlankNext files.flat l m →
    HasAdvanced files first names a l m own log p f
blank_goes files first names a l m own log p f i n = record {
  context_now = a;
  own_now = own;
  log_now = log;
  state = i;
  follows = λ r rest. goes_on (reading a l own log) _ r (blank m n) rest;
}

-- a marker
pub renumbered_goes : (files : Files) (first : List (List ℕ)) (names : List (List ℕ)) (a : FileContext) (l m : UnreadLines)
    (own : List (Located Named)) (log : ReadSoFar) (p : Progress) (f : Frame) (n : ℕ) (file : List ℕ) → IsState first names a own log p f → file ≡ a.file →
    MarksNext files.flat l m n file → HasAdvanced files first names a l (record m { number = n }) own log p f
renumbered_goes files first names a l m own log p f n file i e marks = record {
  context_now = a;
  own_now = own;
  log_now = log;
  state = i;
  follows = λ r rest. goes_on (reading a l own log) _ r (renumbered m n (subst (MarksNext files.flat l m n) e marks)) rest;
}

pub moved_goes : (files : Files) (first : List (List ℕ)) (names : List (List ℕ)) (a : FileContext) (l m : UnreadLines)
    (own : List (Located Named)) (log : ReadSoFar) (p q : Progress) (f g : Frame) (n : ℕ) (name file : List ℕ) → IsState first names a own log p f → file ≡ a.file →
    MarksNext files.flat l m n name → same_name name file ≡ false → IsMovedFrame name f g → IsMarkedOpened name p q →
    HasAdvanced files first names a l (record m { number = n }) own log q g
moved_goes files first names a l m own log p q f g n name file i e marks differs moves opens = record {
  context_now = record a { file = name };
  own_now = with_line own a l.number (SourceLine name);
  log_now = record log { opened = mention log.opened name };
  state = state_moved first names a own log f g p q l.number name i moves opens;
  follows = λ r rest. goes_on (reading a l own log) _ r (moved m n name marks (ap (same_name name) (sym e) ∙ differs)) rest;
}

-- an attribute belongs to the last entry
pub last_is : (files : Files) (first : List (List ℕ)) (known names : List (List ℕ)) (a : FileContext) (l m : UnreadLines)
    (own : List (Located Named)) (log : ReadSoFar) (f : Frame) (p : Progress) (b : Attribute) (x : Named) → IsState first known a own log p f →
    IsMade known names (made.Attribute b) x → NextStatement files.flat l m (context_of a own log) (Ok x) → IsLastFile p.entries f.file.value.items
last_is files first known names a l m own log f p b x i is next =
    let here : is_attribute x ≡ true = sym (ap (λ z. z.1) (made_shape known names (made.Attribute b) x is)) ∙ attribute_is b in
    subst (IsLastFile p.entries) (sym i.frame.file) (i.goes_on (adds (context_of a own log) x (read_suits (context_of a own log) next.tokens x next.reads) here))

-- a statement that is no `source` line
pub statement_goes : (files : Files) (first : List (List ℕ)) (known names : List (List ℕ)) (a : FileContext) (l m : UnreadLines)
    (own : List (Located Named)) (log : ReadSoFar) (f g : Frame) (p q : Progress) (s : Statement) (x : Named) (line : ℕ) → IsState first known a own log p f →
    IsMade known names s x → NextStatement files.flat l m (context_of a own log) (Ok x) → line ≡ l.number → is_source (statement_view s) ≡ false →
    IsTaken (statement_view s) line f g p q → limit_view (statement_view s) f p ≡ None → HasAdvanced files first names a l m own log q g
statement_goes files first known names a l m own log f g p q s x line i is next e src t allowed = record {
  context_now = a;
  own_now = with_line own a line x;
  log_now = logged log a line x;
  state = state_taken first known names a own log f g p q s x line i is t
      (enables (context_of a own log) x (read_suits (context_of a own log) next.tokens x next.reads));
  follows = λ r rest.
      goes_on (reading a l own log) _ r
      (statement m x next (sym (ap (λ z. z.4) (made_shape known names s x is)) ∙ src) (sym (effect_same first known names a own log f p s x i is) ∙ allowed))
      (subst (λ n. Rest files (reading a m (with_line own a n x) (logged log a n x)) r) e rest);
}

pub effect_refused : (files : Files) (first : List (List ℕ)) (known names : List (List ℕ)) (a : FileContext) (l m : UnreadLines)
    (own : List (Located Named)) (log : ReadSoFar) (f : Frame) (p : Progress) (s : Statement) (x : Named) (line : ℕ) (file : List ℕ) (why : Cause) (r : Refusal) →
    IsState first known a own log p f → IsMade known names s x → NextStatement files.flat l m (context_of a own log) (Ok x) → line ≡ l.number →
    file ≡ f.file.value.items → limit_view (statement_view s) f p ≡ Some why → refusal_view r ≡ refusal_at why file line →
    Rest files (reading a l own log) (Err (refusal_view r))
effect_refused files first known names a l m own log f p s x line file why r i is next e g effect v =
    refusal_stands files a l own log r why file line v (g ∙ i.frame.file) e
    (refused (reading a l own log) why (over_limit m x why next (sym (effect_same first known names a own log f p s x i is) ∙ effect)))

-- a `source` line
pub source_refused : (files : Files) (first : List (List ℕ)) (names : List (List ℕ)) (a : FileContext) (l m : UnreadLines)
    (own : List (Located Named)) (log : ReadSoFar) (f : Frame) (p : Progress) (name : List ℕ) (line : ℕ) (file : List ℕ) (why : Cause) (r : Refusal) →
    IsState first names a own log p f → NextStatement files.flat l m (context_of a own log) (Ok (SourceLine name)) → line ≡ l.number → file ≡ f.file.value.items →
    sourcing_cause files (open_names p) p.total_lines name ≡ Some why → refusal_view r ≡ refusal_at why file line → Rest files (reading a l own log) (Err (refusal_view r))
source_refused files first names a l m own log f p name line file why r i next e g bad v =
    refusal_stands files a l own log r why file line v (g ∙ i.frame.file) e
    (refused (reading a l own log) why (bad_source m name why next ((λ j. sourcing_cause files (sym i.files j) (sym i.progress.total_lines j) name) ∙ bad)))

source_allowed : (files : Files) (first : List (List ℕ)) (names : List (List ℕ)) (a : FileContext) (own : List (Located Named))
    (log : ReadSoFar) (f : Frame) (p : Progress) (name : List ℕ) → IsState first names a own log p f →
    sourcing_cause files (open_names p) p.total_lines name ≡ None → source_cause files a log.total_lines name ≡ None
source_allowed files first names a own log f p name i allowed = (λ j. sourcing_cause files (sym i.files j) (sym i.progress.total_lines j) name) ∙ allowed

pub inside_refused : (files : Files) (first : List (List ℕ)) (names : List (List ℕ)) (a : FileContext) (l m : UnreadLines)
    (own : List (Located Named)) (log : ReadSoFar) (f : Frame) (p : Progress) (name bytes : List ℕ) (r : Refusal) → IsState first names a own log p f →
    NextStatement files.flat l m (context_of a own log) (Ok (SourceLine name)) → sourcing_cause files (open_names p) p.total_lines name ≡ None → sourced files name ≡ Some bytes →
    IsRestRefusal files (inside a own name) (unread_lines bytes 1) [] (with_file log name bytes) r → IsRestRefusal files a l own log r
inside_refused files first names a l m own log f p name bytes r i next allowed found inner ne =
    refused_inside (reading a l own log)
    (record { after = m; name = name; bytes = bytes; next = next; allowed = source_allowed files first names a own log f p name i allowed; found = found })
    (refusal_view r) (inner ne)

pub source_goes : (files : Files) (first : List (List ℕ)) (known names : List (List ℕ)) (a : FileContext) (l m : UnreadLines)
    (own : List (Located Named)) (log : ReadSoFar) (f g : Frame) (p q done : Progress) (name bytes : List ℕ) (line : ℕ) → IsState first known a own log p f →
    NextStatement files.flat l m (context_of a own log) (Ok (SourceLine name)) → line ≡ l.number → sourcing_cause files (open_names p) p.total_lines name ≡ None →
    sourced files name ≡ Some bytes → IsFileRead files first names (inside a own name) (unread_lines bytes 1) (with_file log name bytes) q →
    g ≡ record f { entry = entry.Nothing } → open_names done ≡ open_names p → done ≡ record q { open_files = done.open_files } →
    HasAdvanced files first names a l m own log done g
source_goes files first known names a l m own log f g p q done name bytes line i next e allowed found inner frame_is files_are done_is = record {
  context_now = a;
  own_now = with_line own a line (SourceLine name);
  log_now = inner.log_now;
  state = record {
    progress = subst (IsProgress first names inner.log_now) (sym done_is) (record {
      lines = inner.progress.lines;
      mentions = inner.progress.mentions;
      total_lines = inner.progress.total_lines;
      opened = inner.progress.opened;
      defined_is = inner.progress.defined_is;
      config = inner.progress.config;
      modules_is = inner.progress.modules_is;
      marked = inner.progress.marked;
    });
    frame = frame_push a own f g (SourceLine name) line i.frame (ap (λ x. x.file) frame_is) (ap (λ x. x.depth) frame_is) (ap (λ x. x.in_choice) frame_is)
        (ap openers frame_is) (ap (λ x. x.entry) frame_is);
    files = files_are ∙ i.files;
    entered = λ e. absurd (let none : is_config entry.Nothing ≡ true = subst (λ k. is_config k ≡ true) (no_entry a own line name) e in cc);
    goes_on = λ e. absurd (let none : is_entry entry.Nothing ≡ true = subst (λ k. is_entry k ≡ true) (no_entry a own line name) e in cc);
  };
  follows = λ r rest.
      source (reading a l own log)
      (record { after = m; name = name; bytes = bytes; next = next; allowed = source_allowed files first known a own log f p name i allowed; found = found })
      inner.log_now r inner.rest (subst (λ n. Rest files (reading a m (with_line own a n (SourceLine name)) inner.log_now) r) e rest);
}

-- one line after another
pub lines_go_on : (files : Files) (first : List (List ℕ)) (mid names : List (List ℕ)) (a : FileContext) (k l m : UnreadLines) (log : ReadSoFar)
    (p q : Progress) (f g : Frame) (h : HasAdvanced files first mid a k l [] log p f) →
    HasAdvanced files first names h.context_now l m h.own_now h.log_now q g → HasAdvanced files first names a k m [] log q g
lines_go_on files first mid names a k l m log p q f g h n = record {
  context_now = n.context_now;
  own_now = n.own_now;
  log_now = n.log_now;
  state = n.state;
  follows = λ r rest. h.follows r (n.follows r rest);
}

pub file_read : (files : Files) (first : List (List ℕ)) (mid names : List (List ℕ)) (a : FileContext) (k l : UnreadLines) (log : ReadSoFar)
    (p q : Progress) (f : Frame) (h : HasAdvanced files first mid a k l [] log p f) → IsEnded files first names h.context_now l h.own_now h.log_now q →
    IsFileRead files first names a k log q
file_read files first mid names a k l log p q f h n = record {
  log_now = h.log_now;
  rest = h.follows (Ok h.log_now) n.rest;
  progress = n.progress;
}

pub file_refused : (files : Files) (first : List (List ℕ)) (mid : List (List ℕ)) (a : FileContext) (k l : UnreadLines) (log : ReadSoFar)
    (p : Progress) (f : Frame) (r : Refusal) (h : HasAdvanced files first mid a k l [] log p f) → IsRestRefusal files h.context_now l h.own_now h.log_now r →
    IsRestRefusal files a k [] log r
file_refused files first mid a k l log p f r h n ne = h.follows (Err (refusal_view r)) (n ne)

-- a refusal that is passed on
pub reading_passed : (files : Files) (first : List (List ℕ)) (names : List (List ℕ)) (a : FileContext) (l : UnreadLines) (log : ReadSoFar)
    (p : Progress) (r : Result ⊤ Refusal) (e : Refusal) → IsErrAnd r (λ y. y ≡ e) → IsRestRefusal files a l [] log e →
    IsReading files first names a l log p r
reading_passed files first names a l log p r e is h = let q = err_from_is_err_and r is in rw (q.1, q.2) h

pub next_passed : (files : Files) (first : List (List ℕ)) (names : List (List ℕ)) (a : FileContext) (l m : UnreadLines)
    (own : List (Located Named)) (log : ReadSoFar) (p : Progress) (f : Frame) (r : Result Bool Refusal) (e : Refusal) → IsErrAnd r (λ y. y ≡ e) →
    IsRestRefusal files a l own log e → IsNextRead files first names a l m own log p f r
next_passed files first names a l m own log p f r e is h = let q = err_from_is_err_and r is in rw (q.1, q.2) h

pub statement_passed : (files : Files) (first : List (List ℕ)) (names : List (List ℕ)) (a : FileContext) (l m : UnreadLines)
    (own : List (Located Named)) (log : ReadSoFar) (p : Progress) (f : Frame) (r : Result ⊤ Refusal) (e : Refusal) → IsErrAnd r (λ y. y ≡ e) →
    IsRestRefusal files a l own log e → IsStatementRead files first names a l m own log p f r
statement_passed files first names a l m own log p f r e is h = let q = err_from_is_err_and r is in rw (q.1, q.2) h

-- a cause that is not being out of memory
pub no_memory : (r : Refusal) (f : LineFault) (file : List ℕ) (line : ℕ) → r.cause ≢ cause.Memory → (r.cause ≢ cause.Memory → refusal_view r ≡ refusal_at (cause_of f) file line) → f ≢ cause.Memory
no_memory r f file line ne view e = ne (no_other_memory (λ name. name.items) r.cause (ap (λ v. v.cause) (view ne) ∙ ap cause_of e))

-- what was put at the end is taken away again
pub popped : {A : Type 0} (old mid new : List A) (n : ℕ) (x : A) → new ≡ take (n - 1) mid → n ≡ length mid → mid ≡ old ++ x ∷ [] → new ≡ old
popped old mid new n x e l f = e ∙ ap (λ k. take (k - 1) mid) l ∙ but_last-take mid ∙ ap but_last f ∙ but_last-append old x [] ∙ append-nil old

pub refusal_passed : {A : Type 0} (r : Result A Refusal) (P : Refusal → Type 0) (e : Refusal) → IsErrAnd r (λ y. y ≡ e) → P e → IfErr r P
refusal_passed r P e is h = let q = err_from_is_err_and r is in rw (q.1, q.2) h
