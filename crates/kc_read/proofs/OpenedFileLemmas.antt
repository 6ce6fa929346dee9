-- The files that an expansion asks for are named in those that it opened before.
use Rattle.std.proofs.{Common.{Bool, Err, List, None, Ok, Option, Result, Some, [], ap, arith, codes, cond, drop, false, inl, inr, length, refl, subst, suc, sym, true, true≢false, zero, ℕ, ◌++◌, ◌<◌, ◌∙◌, ◌∷◌, ◌≡◌, ◌≤◌, ◌⊎◌}, lemmas.Bool.cases_Bool}
use Rattle.std.specs.List.{Contains}
use Rattle.kc_language.specs.{Expansion.{Files, NextLine, NextStatement, ReadSoFar, Reading, Refused, Rest, SourceNames, at_end, bad_line, bad_source, blank, context_of, goes_on, moved, no_tokens, over_limit, refused, refused_inside, renumbered, source, sourced, statement, too_long, unclosed, without_help}, Lines.{TakesLine, UnreadLines, unread_lines}, Statements.{After, Cause, LineContext, Located, Named, ReadsSource, SourceLine, begins_with, finish, plain_text, text_of}, Tokens.Lexeme, declared.tokens.TextFault.TextFault}
use Rattle.kc_text.specs.Lines.{Ended, IsNextLine, Next, Taken, TooLong}
use Rattle.kc_text.proofs.{Joins.one_next_line_law, There.one_cutting_law}
use Rattle.kc_entries.specs.PartsOfExpansion.{is_help}
use Rattle.kc_read.specs.OpenedFiles.{HasOneListOfNames, IsNamedByOne, IsNamedIn, SourcedFilesAreNamed, sourced_files}
use Rattle.kc_read.proofs.{LineThere.source_line, RestLemmas.next_less, SourceLines.{before_other, before_source, one_list}, SourceWord.{begins_source, source_begins}}
use Rattle.kc_read.proofs.SourceLines as lines

abbrev begins : List Lexeme → Bool
begins ts = begins_with (codes "source") ts

-- ---- What a `source` line reads

read_on : {A : Type 0} (o : Result A Cause) (Next : A → Result Named Cause → Type 0) (s : Named) → After o Next (Ok s) → (a : A) × Next a (Ok s)
read_on (Ok a) Next s h = (a, h)
read_on (Err c) Next s h = absurd (let e : Ok s ≡ Err c = h in cc)

ends_as : (s t : Named) (ts : List Lexeme) → Ok s ≡ finish t ts → s ≡ t
ends_as s t [] e = cc
ends_as s t (x ∷ xs) e = absurd cc

-- nothing else than a `source` line
pub reads_source : (ts : List Lexeme) (s : Named) → ReadsSource ts (Ok s) → (name : List ℕ) × (s ≡ SourceLine name)
reads_source ts s h =
    let (t, plain) = read_on (text_of ts) (λ t. After (plain_text t) (λ u r. r ≡ finish (SourceLine u) (drop 1 ts))) s h in
    let (u, e) = read_on (plain_text t) (λ u r. r ≡ finish (SourceLine u) (drop 1 ts)) s plain in
    (u, ends_as s (SourceLine u) (drop 1 ts) e)

-- ---- The names of lines are there, by the lines that are left

abbrev NamesThere : UnreadLines → Type 0
NamesThere l = (names : List (List ℕ)) × SourceNames l names

module _ (l : UnreadLines) (on : (m : UnreadLines) → length m.lines < length l.lines → NamesThere m) where
  source_names : (m : UnreadLines) (ts : List Lexeme) → NextLine false l m ts None → begins ts ≡ true → (r : Result Named Cause) → ReadsSource (drop 1 ts) r → NamesThere l
  source_names m ts next b (Err c) reads = ([], lines.bad_source l m ts c next b reads)
  source_names m ts next b (Ok s) reads =
      let (name, e) = reads_source (drop 1 ts) s reads in
      let (names, d) = on m (next_less l m ts None next) in
      (name ∷ names, before_source l m name names (ts, next, b, subst (λ x. ReadsSource (drop 1 ts) (Ok x)) e reads) d)

  cut_names : (m : UnreadLines) (ts : List Lexeme) (out : Option TextFault) → NextLine false l m ts out → NamesThere l
  cut_names m ts (Some why) next = ([], lines.no_tokens l m ts why next)
  cut_names m ts None next = elim (cases_Bool (begins ts)) [
    | inl b ↦ let r = source_line (drop 1 ts) in source_names m ts next b r.0 r.1
    | inr b ↦ let (names, d) = on m (next_less l m ts None next) in (names, before_other l m names (ts, next, b) d)
  ]

  taken_names : (m : UnreadLines) (text : List ℕ) → TakesLine l m text → NamesThere l
  taken_names m text taken =
      let c = one_cutting_law false text in
      cut_names (cond (is_help c.0) (without_help m) m) c.0 c.1.0 (record { middle = m; text = text; taken = taken; cut = c.1.1; left_after = refl })

  next_names : (next : Next) → IsNextLine l next → NamesThere l
  next_names Ended g = ([], lines.at_end l g)
  next_names (Taken m text) g = taken_names m text g
  next_names TooLong g = ([], lines.too_long l g)

names_within : (fuel : ℕ) (l : UnreadLines) → length l.lines ≤ fuel → NamesThere l
names_within zero l le = let next = one_next_line_law l in next_names l (λ m less. absurd (omega arith)) next.0 next.1
names_within (suc fuel) l le = let next = one_next_line_law l in next_names l (λ m less. names_within fuel m (omega arith)) next.0 next.1

names_there : (l : UnreadLines) → NamesThere l
names_there l = names_within (length l.lines) l (omega arith)

-- ---- Lists

here : (x : List ℕ) (xs : List (List ℕ)) → Contains (x ∷ xs) x
here x xs = (0, omega arith, refl)

later : (x y : List ℕ) (xs : List (List ℕ)) → Contains xs x → Contains (y ∷ xs) x
later x y xs h = (suc h.0, omega (arith, h.1), h.2)

later_all : (x : List ℕ) (xs ys : List (List ℕ)) → Contains ys x → Contains (xs ++ ys) x
later_all x [] ys h = h
later_all x (y ∷ xs) ys h = later x y (xs ++ ys) (later_all x xs ys h)

-- an element of two lists joined stands in the one or in the other
split_append : (xs ys before after : List (List ℕ)) (x : List ℕ) → xs ++ ys ≡ before ++ x ∷ after →
    ((more : List (List ℕ)) × (xs ≡ before ++ x ∷ more)) ⊎ ((front : List (List ℕ)) × (before ≡ xs ++ front) × (ys ≡ front ++ x ∷ after))
split_append [] ys before after x e = inr (before, refl, e)
split_append (y ∷ xs) ys [] after x e =
    let h : y ≡ x = cc in inl (xs, ap (λ z. z ∷ xs) h)
split_append (y ∷ xs) ys (z ∷ before) after x e =
    let h : y ≡ z = cc in
    let t : xs ++ ys ≡ before ++ x ∷ after = cc in
    elim (split_append xs ys before after x t) [
      | inl r ↦ inl (r.0, ap (λ k. k ∷ xs) h ∙ ap (λ k. z ∷ k) r.1)
      | inr r ↦ inr (r.0, ap (λ k. z ∷ k) r.1 ∙ ap (λ k. k ∷ (xs ++ r.0)) (sym h), r.2)
    ]

-- ---- The law

-- what the next line's file names after it, it names
named_later : (l m : UnreadLines) (ts : List Lexeme) (name : List ℕ) → NextLine false l m ts None →
    (begins ts ≡ true → (s : Named) × ReadsSource (drop 1 ts) (Ok s)) → IsNamedIn m name → IsNamedIn l name
named_later l m ts name next reads (names, d, has) = elim (cases_Bool (begins ts)) [
  | inl b ↦
      let (s, r) = reads b in
      let (k, e) = reads_source (drop 1 ts) s r in
      (k ∷ names, before_source l m k names (ts, next, b, subst (λ x. ReadsSource (drop 1 ts) (Ok x)) e r) d, later name k names has)
  | inr b ↦ (names, before_other l m names (ts, next, b) d, has)
]

-- also after a statement
named_after : (l m : UnreadLines) (c : LineContext) (s : Named) (name : List ℕ) → NextStatement false l m c (Ok s) → IsNamedIn m name → IsNamedIn l name
named_after l m c s name n h = named_later l m n.tokens name n.next (λ b. (s, begins_source c n.tokens (Ok s) b n.reads)) h

-- a `source` line's file is named
named_here : (l m : UnreadLines) (c : LineContext) (name : List ℕ) → NextStatement false l m c (Ok (SourceLine name)) → IsNamedIn l name
named_here l m c name n =
    let b = source_begins c n.tokens name n.reads in
    let (names, d) = names_there m in
    (name ∷ names, before_source l m name names (n.tokens, n.next, b, begins_source c n.tokens (Ok (SourceLine name)) b n.reads) d, here name names)

-- named along the rest of the file, or in a file that was opened
abbrev IsNamed : Files → UnreadLines → List (List ℕ) → List ℕ → Type 0
IsNamed files l before name = IsNamedIn l name ⊎ IsNamedByOne files before name

-- one more file was opened before
one_more : (files : Files) (before : List (List ℕ)) (name k : List ℕ) → IsNamedByOne files before name → IsNamedByOne files (k ∷ before) name
one_more files before name k (by, bytes, has, there, names) = (by, bytes, later by k before has, there, names)

no_split : {B : Type 0} (before after : List (List ℕ)) (x : List ℕ) → [] ≡ before ++ x ∷ after → B
no_split [] after x e = absurd cc
no_split (y ∷ before) after x e = absurd cc

-- along a file that is opened
within : (files : Files) (bytes : List ℕ) (before : List (List ℕ)) (name k : List ℕ) → files.bytes k ≡ Some bytes → IsNamed files (unread_lines bytes 1) before name → IsNamedByOne files (k ∷ before) name
within files bytes before name k there (inl h) = (k, bytes, here k before, there, h)
within files bytes before name k there (inr h) = one_more files before name k h

-- the tree is not flat
in_tree : {flat : Bool} {l m : UnreadLines} {c : LineContext} {s : Result Named Cause} → flat ≡ false → NextStatement flat l m c s → NextStatement false l m c s
in_tree {l = l} {m = m} {c = c} {s = s} f n = subst (λ b. NextStatement b l m c s) f n

held_in_tree : (files : Files) (name bytes : List ℕ) → files.flat ≡ false → sourced files name ≡ Some bytes → files.bytes name ≡ Some bytes
held_in_tree files name bytes f h = sym (ap (λ b. cond b None (files.bytes name)) f) ∙ h

pub named : {files : Files} (g : files.flat ≡ false) {at : Reading} {r : Result ReadSoFar Refused} (d : Rest files at r)
    (before after : List (List ℕ)) (name : List ℕ) → sourced_files d ≡ before ++ name ∷ after → IsNamed files at.unread before name
named g (at_end at none closed) before after name e = no_split before after name e
named g (unclosed at line none unmatched) before after name e = no_split before after name e
named g (refused at c (too_long long)) before after name e = no_split before after name e
named g (refused at c (no_tokens m ts why next)) before after name e = no_split before after name e
named g (refused at c (bad_line m why n)) before after name e = no_split before after name e
named g (refused at c (over_limit m s why n f)) before after name e = no_split before after name e
named g (refused at c (bad_source m k why n f)) [] after name e =
    let h : k ≡ name = cc in inl (subst (IsNamedIn at.unread) h (named_here at.unread m (context_of at.context at.own at.log) k (in_tree g n)))
named g (refused at c (bad_source m k why n f)) (b ∷ before) after name e = no_split before after name (let h : [] ≡ before ++ name ∷ after = cc in h)
named g (goes_on at next r (blank m n) d) before after name e = elim (named g d before after name e) [
  | inl h ↦ inl (named_later at.unread m [] name (subst (λ b. NextLine b at.unread m [] None) g n.0) (λ b. absurd cc) h)
  | inr h ↦ inr h
]
named g (goes_on at next r (renumbered m n marks) d) before after name e = absurd (true≢false (sym marks.1 ∙ g))
named g (goes_on at next r (moved m n k marks differs) d) before after name e = absurd (true≢false (sym marks.1 ∙ g))
named g (goes_on at next r (statement m s n plain f) d) before after name e = elim (named g d before after name e) [
  | inl h ↦ inl (named_after at.unread m (context_of at.context at.own at.log) s name (in_tree g n) h)
  | inr h ↦ inr h
]
named g (refused_inside at f c d) [] after name e =
    let h : f.name ≡ name = cc in inl (subst (IsNamedIn at.unread) h (named_here at.unread f.after (context_of at.context at.own at.log) f.name (in_tree g f.next)))
named {files} g (refused_inside at f c d) (b ∷ before) after name e =
    let h : f.name ≡ b = cc in
    let t : sourced_files d ≡ before ++ name ∷ after = cc in
    inr (subst (λ x. IsNamedByOne files (x ∷ before) name) h
    (within files f.bytes before name f.name (held_in_tree files f.name f.bytes g f.found) (named g d before after name t)))
named g (source at f more r d behind) [] after name e =
    let h : f.name ≡ name = cc in inl (subst (IsNamedIn at.unread) h (named_here at.unread f.after (context_of at.context at.own at.log) f.name (in_tree g f.next)))
named {files} g (source at f more r d behind) (b ∷ before) after name e =
    let h : f.name ≡ b = cc in
    let t : sourced_files d ++ sourced_files behind ≡ before ++ name ∷ after = cc in
    elim (split_append (sourced_files d) (sourced_files behind) before after name t) [
      | inl x ↦ inr (subst (λ y. IsNamedByOne files (y ∷ before) name) h
          (within files f.bytes before name f.name (held_in_tree files f.name f.bytes g f.found) (named g d before x.0 name x.1)))
      | inr x ↦ elim (named g behind x.0 after name x.2) [
        | inl y ↦ inl (named_after at.unread f.after (context_of at.context at.own at.log) (SourceLine f.name) name (in_tree g f.next) y)
        | inr y ↦ let (by, text, has, there, names) = y in inr (by, text, subst (λ z. Contains (b ∷ z) by) (sym x.1) (later by b (sourced_files d ++ x.0) (later_all by (sourced_files d) x.0 has)), there, names)
      ]
    ]

pub sourced_are_named : SourcedFilesAreNamed
sourced_are_named files root bytes r g there d before after name e = within files bytes before name root there (named g d before after name e)

pub has_one_list_of_names : HasOneListOfNames
has_one_list_of_names l =
    let (names, d) = names_there l in
    (names, d, λ other e. one_list l names other d e)
