-- What an expansion asks for, the loading asked for: along the rest of a file, by the walk through its names.
use Rattle.std.proofs.{Common.{Bool, Contains, Err, List, None, Ok, Option, Result, Some, [], ap, arith, codes, cond, drop, false, inl, inr, length, min, nat_le, nat_lt, refl, subst, sym, true, ℕ, ◌++◌, ◌+◌, ◌||◌, ◌∙◌, ◌∷◌, ◌≡◌, ◌≤◌}, lemmas.{Bool.{Decides.nat_tests, both_ways, cases_Bool, false≢true, or_from, or_parts, true≢false}, List.{Elements.Contains-append_cases, Folds.list_any-append}, Str.IsUtf8-from_is_utf8}}
use Rattle.std.specs.{List.list_any, Str.is_utf8}
use Rattle.kc_language.specs.{Expansion.{FileContext, NextStatement, ReadSoFar, Reading, Refused, Rest, SourceNames, at_end, bad_line, bad_source, blank, bytes_cause, goes_on, moved, no_tokens, over_limit, refused, refused_inside, renumbered, source, sourcing_cause, statement, too_long, unclosed}, Expressions.{mention, same_name}, Files.path_of, Lines.UnreadLines, Statements.{After, Cause, LineContext, Located, Named, ReadsSource, SourceLine, begins_with, finish, plain_text, text_of}, Text.most_lines, Tokens.Lexeme}
use Rattle.kc_expr.proofs.NamesLemmas.{same_name-refl}
use Rattle.kc_language.specs.declared.diagnostics.Cause.TheVariants as cause
use Rattle.kc_entries.specs.PartsOfExpansion.{is_source, lines_of}
use Rattle.kc_read.specs.OpenedFiles.{sourced_files}
use Rattle.kc_read.proofs.{FileLemmas.same_name_eq, OneExpansion.{none_or_some, one_some, source_line}, SourceWord.{begins_source, source_begins}}
use Rattle.kc_read.proofs.SourceLines as lines
use Rattle.kc_load.specs.{Asking.{AreSources, FileBytes, tree_of}, PartsOfFolder.named, Steps.was_requested}
use Rattle.kc_text.specs.PartsOfText.{last_count}
use Rattle.kc_load.proofs.{RequestedLemmas.{only_element, requested_cases, requested_itself, requested_still}, Walks.{IsMetIn, Walks, all_passed, first_is_met, first_or_later, grows, meets, missing, no_name, passed, split, stopped, taken}}
use Rattle.kc_load.proofs.Walks as walks

-- ---- The names behind a line

read_on : {A : Type 0} (o : Result A Cause) (Next : A → Result Named Cause → Type 0) (s : Named) → After o Next (Ok s) → (a : A) × Next a (Ok s)
read_on (Ok a) Next s h = (a, h)
read_on (Err c) Next s h = absurd (let e : Ok s ≡ Err c = h in cc)

ends_as : (s t : Named) (ts : List Lexeme) → Ok s ≡ finish t ts → s ≡ t
ends_as s t [] e = cc
ends_as s t (x ∷ xs) e = absurd cc

-- nothing else than a `source` line
reads_source : (ts : List Lexeme) (s : Named) → ReadsSource ts (Ok s) → is_source s ≡ true
reads_source ts s h =
    let (t, plain) = read_on (text_of ts) (λ t. After (plain_text t) (λ u r. r ≡ finish (SourceLine u) (drop 1 ts))) s h in
    let (u, e) = read_on (plain_text t) (λ u r. r ≡ finish (SourceLine u) (drop 1 ts)) s plain in
    let is : s ≡ source_line u = ends_as s (source_line u) (drop 1 ts) e in
    ap is_source is

-- behind a statement that is no `source` line the names are those before it
names_plain : (l m : UnreadLines) (c : LineContext) (s : Named) (ns : List (List ℕ)) → NextStatement false l m c (Ok s) → is_source s ≡ false → SourceNames l ns → SourceNames m ns
names_plain l m c s ns n plain d = elim (cases_Bool (begins_with (codes "source") n.tokens)) [
  | inl b ↦ absurd (both_ways (is_source s) plain (reads_source (drop 1 n.tokens) s (begins_source c n.tokens (Ok s) b n.reads)))
  | inr b ↦ lines.after_other l m ns (n.tokens, n.next, b) d
]

-- a `source` line names its file first
names_source : (l m : UnreadLines) (c : LineContext) (name : List ℕ) (ns : List (List ℕ)) → NextStatement false l m c (Ok (SourceLine name)) → SourceNames l ns →
    (more : List (List ℕ)) × (ns ≡ name ∷ more) × SourceNames m more
names_source l m c name ns n d =
    let b = source_begins c n.tokens name n.reads in
    lines.after_source l m name ns (n.tokens, n.next, b, begins_source c n.tokens (Ok (SourceLine name)) b n.reads) d

-- ---- A file that may be opened

-- with its lines there are no more than the limit
pub few_lines : (name bytes : List ℕ) (n : ℕ) (o : Option (List ℕ)) → bytes_cause name n o ≡ None → o ≡ Some bytes → n + lines_of bytes ≤ most_lines
few_lines name bytes n None e f = absurd cc
few_lines name bytes n (Some c) e f =
    let same : c ≡ bytes = cc in
    subst (λ b. n + lines_of b ≤ most_lines) same (by (nat_lt most_lines (n + lines_of c)) refl e)
  where
    by : (b : Bool) → nat_lt most_lines (n + lines_of c) ≡ b → ◌≡◌ {A = Option Cause} (cond b (Some cause.TooManyLines) None) None → n + lines_of c ≤ most_lines
    by true g h = absurd cc
    by false g h = grind (arith, nat_tests)

-- and it is not open
may_open : (files : FileBytes) (opens : List (List ℕ)) (n : ℕ) (name bytes : List ℕ) → sourcing_cause (tree_of files) opens n name ≡ None → files name ≡ Some bytes →
    (list_any (same_name name) opens ≡ false) × (n + lines_of bytes ≤ most_lines)
may_open files opens n name bytes h there = by (list_any (same_name name) opens) (nat_le 64 (length opens)) refl h
  where
    by : (open_now full : Bool) → list_any (same_name name) opens ≡ open_now →
        cond open_now (Some (cause.InclusionLoop name)) (cond full (Some cause.TooDeep) (bytes_cause name n (files name))) ≡ None →
        (list_any (same_name name) opens ≡ false) × (n + lines_of bytes ≤ most_lines)
    by true full e g = absurd cc
    by false true e g = absurd cc
    by false false e g = (e, few_lines name bytes n (files name) g there)

-- ---- The folder

module _ (folder_files : List ℕ → Option (List ℕ)) (dir : List ℕ) where
  abbrev pub all : FileBytes
  all = named folder_files dir

  -- a name that has a file is text, and the folder tells that file
  pub is_found : (x bytes : List ℕ) → all x ≡ Some bytes → (is_utf8 x ≡ true) × (folder_files (path_of dir x) ≡ Some bytes)
  is_found x bytes e = by (is_utf8 x) refl e
    where
      by : (b : Bool) → is_utf8 x ≡ b → cond b (folder_files (path_of dir x)) None ≡ Some bytes → (is_utf8 x ≡ true) × (folder_files (path_of dir x) ≡ Some bytes)
      by true u h = (u, h)
      by false u h = absurd cc

  -- the names that the file sources were asked for
  abbrev pub AreAsked : List (List ℕ) → List ℕ → Type 0
  AreAsked v bytes = (names : List (List ℕ)) × AreSources bytes names × ((y : List ℕ) → Contains names y → IsMetIn v y)

  -- so were those of each file that was asked for and is not open
  abbrev pub IsClosed : List (List ℕ) → List (List ℕ) → Type 0
  IsClosed opens v = (x bytes : List ℕ) → was_requested v x ≡ true → list_any (same_name x) opens ≡ false → all x ≡ Some bytes → AreAsked v bytes

  module _ (opens : List (List ℕ)) (x : List ℕ) where
    one_open_more : (z : List ℕ) → list_any (same_name z) (opens ++ x ∷ []) ≡ (list_any (same_name z) opens || (same_name z x || false))
    one_open_more z = list_any-append (same_name z) opens (x ∷ [])

    apart : (z : List ℕ) → list_any (same_name z) (opens ++ x ∷ []) ≡ false → (list_any (same_name z) opens ≡ false) × (same_name z x ≡ false)
    apart z h =
        let p = or_parts (list_any (same_name z) opens) (same_name z x || false) (sym (one_open_more z) ∙ h) in
        (p.0, (or_parts (same_name z x) false p.1).0)

    not_open : (z : List ℕ) → list_any (same_name z) opens ≡ false → same_name z x ≡ false → list_any (same_name z) (opens ++ x ∷ []) ≡ false
    not_open z h g = one_open_more z ∙ or_from (list_any (same_name z) opens) (same_name z x || false) h (or_from (same_name z x) false g refl)

    -- one more file is open
    wider : (v : List (List ℕ)) → IsClosed opens v → IsClosed (opens ++ x ∷ []) v
    wider v shut z c a h = shut z c a (apart z h).0

    -- and was asked for now
    opened : (v : List (List ℕ)) → was_requested v x ≡ false → IsClosed opens v → IsClosed (opens ++ x ∷ []) (mention v x)
    opened v new shut z c a h e =
        let p = apart z h in
        elim (requested_cases v x new z a) [
          | inl before ↦ let k = shut z c before p.0 e in (k.0, k.1, λ y among t. requested_still v x new y (k.2 y among t))
          | inr is ↦ absurd (false≢true (sym p.1 ∙ ap (λ (q : List ℕ). same_name q x) is ∙ same_name-refl x))
        ]

    -- its names were asked for: it is open no more
    left_now : (v : List (List ℕ)) (bytes : List ℕ) → all x ≡ Some bytes → AreAsked v bytes → IsClosed (opens ++ x ∷ []) v → IsClosed opens v
    left_now v bytes there own shut z c a h e = by (same_name z x) refl
      where
        by : (b : Bool) → same_name z x ≡ b → AreAsked v c
        by true g =
            let same : bytes ≡ c = one_some (all x) bytes c there (ap all (sym (same_name_eq z x g)) ∙ e) in
            subst (AreAsked v) same own
        by false g = shut z c a (not_open z h g) e

    -- The walk goes into a file that may be opened, and on behind it.
    pub record Enters (bytes : List ℕ) (total_lines : ℕ) (rest w : List (List ℕ)) (m : ℕ) (b : Bool) : Type 0 where
      pub names : List (List ℕ)
      pub sources : AreSources bytes names
      pub before : List (List ℕ)
      pub count : ℕ
      pub after : List (List ℕ)
      pub count_after : ℕ
      pub over : Bool
      pub walk : Walks (Some folder_files) dir before count names after count_after over
      pub closed : IsClosed (opens ++ x ∷ []) before
      pub fewer : count ≤ total_lines + lines_of bytes
      pub grown : (y : List ℕ) → IsMetIn after y → IsMetIn w y
      pub met : IsMetIn w x
      pub leaves : over ≡ false → IsClosed (opens ++ x ∷ []) after → IsClosed opens after × Walks (Some folder_files) dir after count_after rest w m b

    -- a file that was not asked for before
    entered_new : (bytes : List ℕ) (total_lines : ℕ) (rest v w names : List (List ℕ)) (n m : ℕ) (b : Bool) → all x ≡ Some bytes → n ≤ total_lines →
        IsClosed opens v → was_requested v x ≡ false → AreSources bytes names →
        Walks (Some folder_files) dir (mention v x) (min (n + lines_of bytes) last_count) (names ++ rest) w m b → Enters bytes total_lines rest w m b
    entered_new bytes total_lines rest v w names n m b there le shut new are d = elim (split d names rest refl) [
      | inl r ↦ record {
        names = names;
        sources = are;
        before = mention v x;
        count = min (n + lines_of bytes) last_count;
        after = r.0;
        count_after = r.1;
        over = false;
        walk = r.2;
        closed = opened v new shut;
        fewer = omega arith;
        grown = λ y h t. grows r.3 y (h t);
        met = λ t. grows r.3 x (grows r.2 x (requested_itself v x new));
        leaves = λ e c. (left_now r.0 bytes there (names, are, meets r.2 refl) c, r.3);
      }
      | inr r ↦ record {
        names = names;
        sources = are;
        before = mention v x;
        count = min (n + lines_of bytes) last_count;
        after = w;
        count_after = m;
        over = true;
        walk = r.1;
        closed = opened v new shut;
        fewer = omega arith;
        grown = λ y h. h;
        met = λ t. grows r.1 x (requested_itself v x new);
        leaves = λ e c. absurd (true≢false e);
      }
    ]

  pub enter : {opens v rest w : List (List ℕ)} {x : List ℕ} {n m : ℕ} {b : Bool} (bytes : List ℕ) (total_lines : ℕ) → all x ≡ Some bytes →
      list_any (same_name x) opens ≡ false → n ≤ total_lines → total_lines ≤ most_lines → IsClosed opens v → Walks (Some folder_files) dir v n (x ∷ rest) w m b →
      Enters opens x bytes total_lines rest w m b
  enter bytes total_lines there free le lim shut (stopped v xs n lt) = absurd (omega arith)
  enter {opens} bytes total_lines there free le lim shut (passed v xs w x n m b met d) =
      let now = met (IsUtf8-from_is_utf8 x (is_found x bytes there).0) in
      let own = shut x bytes now free there in
      record {
        names = own.0;
        sources = own.1;
        before = v;
        count = n;
        after = v;
        count_after = n;
        over = false;
        walk = all_passed (Some folder_files) dir v n own.0 own.2;
        closed = wider opens x v shut;
        fewer = omega arith;
        grown = λ y h t. grows d y (h t);
        met = λ t. grows d x now;
        leaves = λ e c. (shut, d);
      }
  enter bytes total_lines there free le lim shut (missing v xs w x n m b new none d) =
      none_or_some (folder_files (path_of dir x)) bytes none (is_found x bytes there).1
  enter {opens} bytes total_lines there free le lim shut (taken v xs w names x c n m b new some are d) =
      let same : c ≡ bytes = one_some (folder_files (path_of dir x)) c bytes some (is_found x bytes there).1 in
      entered_new opens x bytes total_lines xs v w names n m b there le shut new (subst (λ k. AreSources k names) same are)
      (subst (λ k. Walks (Some folder_files) dir (mention v x) (min (n + lines_of k) last_count) (names ++ xs) w m b) same d)

  -- ---- The rest of a file

  -- where the rest of the file is whole, so was the walk
  abbrev pub Ends : FileContext → Result ReadSoFar Refused → List (List ℕ) → ℕ → Bool → Type 0
  Ends a (Ok log) w m b = (b ≡ false) × IsClosed a.open_files w × (m ≤ log.total_lines) × (log.total_lines ≤ most_lines)
  Ends a (Err e) w m b = Unit {0}

  -- the walk asked for these names
  pub record Follows (a : FileContext) (r : Result ReadSoFar Refused) (names w : List (List ℕ)) (m : ℕ) (b : Bool) : Type 0 where
    pub asks : (y : List ℕ) → Contains names y → IsMetIn w y
    pub ends : Ends a r w m b

  none_requested : (a : FileContext) (e : Refused) (w : List (List ℕ)) (m : ℕ) (b : Bool) → Follows a (Err e) [] w m b
  none_requested a e w m b = record { asks = λ y c. absurd (no_name y c); ends = tt }

  pub follow : {at : Reading} {r : Result ReadSoFar Refused} (d : Rest (tree_of all) at r)
      {v w : List (List ℕ)} {n m : ℕ} {b : Bool} (ns : List (List ℕ)) → SourceNames at.unread ns → Walks (Some folder_files) dir v n ns w m b →
      IsClosed at.context.open_files v → n ≤ at.log.total_lines → at.log.total_lines ≤ most_lines → Follows at.context r (sourced_files d) w m b
  follow (at_end at none closed) ns names walk shut le lim =
      let e = walks.at_end walk (lines.one_list at.unread ns [] names (lines.at_end at.unread none)) (omega arith) in
      record { asks = λ y c. absurd (no_name y c); ends = (e.2, subst (IsClosed at.context.open_files) e.0 shut, let k = e.1 in omega arith, lim) }
  follow (unclosed at line none unmatched) ns names walk shut le lim = none_requested at.context _ _ _ _
  follow (refused at c (too_long long)) ns names walk shut le lim = none_requested at.context _ _ _ _
  follow (refused at c (no_tokens m ts why next)) ns names walk shut le lim = none_requested at.context _ _ _ _
  follow (refused at c (bad_line m why n)) ns names walk shut le lim = none_requested at.context _ _ _ _
  follow (refused at c (over_limit m s why n f)) ns names walk shut le lim = none_requested at.context _ _ _ _
  follow (refused at c (bad_source l' name why next f)) {v} {w} {n} {m} {b} ns names walk shut le lim =
      let x = names_source at.unread l' _ name ns next names in
      let met = first_is_met (omega arith) (subst (λ zs. Walks (Some folder_files) dir v n zs w m b) x.1 walk) in
      record { asks = λ y c. subst (IsMetIn w) (only_element name y c) met; ends = tt }
  follow (goes_on at next r (blank m n) d) ns names walk shut le lim = follow d ns (lines.after_other at.unread m ns ([], n.0, refl) names) walk shut le lim
  follow (goes_on at next r (renumbered m n marks) d) ns names walk shut le lim = absurd (false≢true marks.1)
  follow (goes_on at next r (moved m n name marks differs) d) ns names walk shut le lim = absurd (false≢true marks.1)
  follow (goes_on at next r (statement m s n plain f) d) ns names walk shut le lim = follow d ns (names_plain at.unread m _ s ns n plain names) walk shut le lim
  follow (refused_inside at o e d) {v} {w} {n} {m} {b} ns names walk shut le lim =
      let x = names_source at.unread o.after _ o.name ns o.next names in
      let may = may_open all at.context.open_files at.log.total_lines o.name o.bytes o.allowed o.found in
      let en = enter o.bytes at.log.total_lines o.found may.0 le lim shut (subst (λ zs. Walks (Some folder_files) dir v n zs w m b) x.1 walk) in
      let f = follow d en.names en.sources en.walk en.closed en.fewer may.1 in
      record {
        asks = λ y c. elim (first_or_later o.name (sourced_files d) y c) [
          | inl is ↦ subst (IsMetIn w) is en.met
          | inr inside ↦ en.grown y (f.asks y inside)
        ];
        ends = tt;
      }
  follow (source at o more r d g) {v} {w} {n} {m} {b} ns names walk shut le lim =
      let x = names_source at.unread o.after _ o.name ns o.next names in
      let may = may_open all at.context.open_files at.log.total_lines o.name o.bytes o.allowed o.found in
      let en = enter o.bytes at.log.total_lines o.found may.0 le lim shut (subst (λ zs. Walks (Some folder_files) dir v n zs w m b) x.1 walk) in
      let f = follow d en.names en.sources en.walk en.closed en.fewer may.1 in
      let on = en.leaves f.ends.0 f.ends.1 in
      let h = follow g x.0 x.2 on.1 on.0 f.ends.2 f.ends.3 in
      record {
        asks = λ y c. elim (first_or_later o.name (sourced_files d ++ sourced_files g) y c) [
          | inl is ↦ subst (IsMetIn w) is en.met
          | inr later ↦ elim (Contains-append_cases (sourced_files d) (sourced_files g) y later) [
            | inl inside ↦ en.grown y (f.asks y inside)
            | inr behind ↦ h.asks y behind
          ]
        ];
        ends = h.ends;
      }
