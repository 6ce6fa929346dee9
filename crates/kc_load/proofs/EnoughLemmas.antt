-- What was loaded is enough: the expansion over it is the expansion over the folder's files.
use Rattle.std.proofs.{Common.{Bool, Contains, Err, IsUtf8, List, MatchOption, None, Ok, Option, Result, Some, [], ap, arith, cond, false, length, nat_le, refl, subst, sym, true, ℕ, ◌++◌, ◌∙◌, ◌∷◌, ◌≡◌}, lemmas.{Bool.false≢true, List.Elements.{All-append, All-cons, All-nil, Contains-append_left, Contains-append_right}, Str.{IsUtf8-from_is_utf8, is_utf8-from_IsUtf8}}}
use Rattle.std.specs.{List.list_any, Prelude.{All, IfOk, ◌&&◌}, Str.is_utf8}
use Rattle.kc_language.specs.{Expansion.{Expands, OpensFile, ReadSoFar, Reading, Refused, Rest, at_end, at_root, bad_line, bad_source, blank, bytes_cause, goes_on, moved, no_tokens, over_limit, refusal_at, refused, refused_inside, renumbered, source, sourcing_cause, statement, too_long, unclosed}, Expressions.same_name, Files.path_of, Lines.{UnreadLines, unread_lines}, Statements.{Cause, Located, Named}}
use Rattle.kc_language.specs.declared.diagnostics.Cause.TheVariants as cause
use Rattle.kc_read.specs.OpenedFiles.{sourced_files}
use Rattle.kc_read.proofs.{ExpansionThere.has_one_expansion, OneExpansion.one_expansion_law}
use Rattle.kc_load.specs.{Asking.{FileBytes, tree_of}, Folder.{FolderFiles, files_found}, Loading.{ExpandsAlike, Suffices}, PartsOfFolder.named, Steps.{State, was_requested}}
use Rattle.kc_load.proofs.{FollowLemmas.{IsClosed, enter, few_lines, follow}, FoundLemmas.{at_name, found_absent, names_of}, Ongoing.Ongoing, Walks.{IsMetIn, Walks, first_is_met}}

-- ---- Files that agree on all that is asked for

here : (x : List ℕ) (xs : List (List ℕ)) → Contains (x ∷ xs) x
here x xs = (0, omega arith, refl)

module _ (files others : FileBytes) where
  same_cause : (opens : List (List ℕ)) (n : ℕ) (name : List ℕ) (o : Option Cause) → others name ≡ files name → sourcing_cause (tree_of files) opens n name ≡ o → sourcing_cause (tree_of others) opens n name ≡ o
  same_cause opens n name o e h =
      ap (λ f. cond (list_any (same_name name) opens) (Some (cause.InclusionLoop name)) (cond (nat_le 64 (length opens)) (Some cause.TooDeep) (bytes_cause name n f))) e ∙ h

  -- the file is opened over the other too
  abbrev opens : (at : Reading) (f : OpensFile (tree_of files) at) → others f.name ≡ files f.name → OpensFile (tree_of others) at
  opens at f same = record {
    after = f.after;
    name = f.name;
    bytes = f.bytes;
    next = f.next;
    allowed = same_cause at.context.open_files at.log.total_lines f.name None same f.allowed;
    found = same ∙ f.found;
  }

  -- the expansion over the one is one over the other
  pub over : {at : Reading} {r : Result ReadSoFar Refused} (d : Rest (tree_of files) at r) →
      ((y : List ℕ) → Contains (sourced_files d) y → others y ≡ files y) → Rest (tree_of others) at r
  over (at_end at none closed) h = at_end at none closed
  over (unclosed at line none unmatched) h = unclosed at line none unmatched
  over (refused at c (too_long long)) h = refused at c (too_long long)
  over (refused at c (no_tokens m ts why next)) h = refused at c (no_tokens m ts why next)
  over (refused at c (bad_line m why n)) h = refused at c (bad_line m why n)
  over (refused at c (over_limit m s why n f)) h = refused at c (over_limit m s why n f)
  over (refused at c (bad_source m name why n f)) h =
      refused at c (bad_source m name why n (same_cause at.context.open_files at.log.total_lines name (Some c) (h name (here name [])) f))
  over (goes_on at next r (blank m n) d) h = goes_on at next r (blank m n) (over d h)
  over (goes_on at next r (renumbered m n marks) d) h = absurd (false≢true marks.1)
  over (goes_on at next r (moved m n name marks differs) d) h = absurd (false≢true marks.1)
  over (goes_on at next r (statement m s n plain f) d) h = goes_on at next r (statement m s n plain f) (over d h)
  over (refused_inside at f e d) h = refused_inside at (opens at f (h f.name (here f.name (sourced_files d)))) e
      (over d (λ y c. h y (Contains-append_right (f.name ∷ []) (sourced_files d) y c)))
  over (source at f more r d g) h = source at (opens at f (h f.name (here f.name (sourced_files d ++ sourced_files g)))) more r
      (over d (λ y c. h y (Contains-append_right (f.name ∷ []) (sourced_files d ++ sourced_files g) y (Contains-append_left (sourced_files d) (sourced_files g) y c))))
      (over g (λ y c. h y (Contains-append_right (f.name ∷ []) (sourced_files d ++ sourced_files g) y (Contains-append_right (sourced_files d) (sourced_files g) y c))))

-- What holds of the file that is read and of those that are sourced holds of the file of each line.
module _ (files : FileBytes) (P : List ℕ → Type 0) where
  abbrev OfLines : List (Located Named) → Type 0
  OfLines ls = All (λ (l : Located Named). P l.file) ls

  pub of_lines : {at : Reading} {r : Result ReadSoFar Refused} (d : Rest (tree_of files) at r) →
      P at.context.file → ((y : List ℕ) → Contains (sourced_files d) y → P y) → OfLines at.log.lines → IfOk r (λ more. OfLines more.lines)
  of_lines (at_end at none closed) p h all = all
  of_lines (unclosed at line none unmatched) p h all = tt
  of_lines (refused at c here) p h all = tt
  of_lines (goes_on at next r (blank m n) d) p h all = of_lines d p h all
  of_lines (goes_on at next r (renumbered m n marks) d) p h all = absurd (false≢true marks.1)
  of_lines (goes_on at next r (moved m n name marks differs) d) p h all = absurd (false≢true marks.1)
  of_lines (goes_on at next r (statement m s n plain f) d) p h all =
      let last : Located Named = record { file = at.context.file; line = at.unread.number; statement = s } in
      of_lines d p h (All-append (λ (x : Located Named). P x.file) at.log.lines (last ∷ []) all
      (All-cons (λ (x : Located Named). P x.file) last [] p (All-nil (λ (x : Located Named). P x.file))))
  of_lines (refused_inside at f e d) p h all = tt
  of_lines (source at f more r d g) p h all =
      let within : OfLines more.lines =
      of_lines d (h f.name (here f.name (sourced_files d ++ sourced_files g)))
      (λ y c. h y (Contains-append_right (f.name ∷ []) (sourced_files d ++ sourced_files g) y (Contains-append_left (sourced_files d) (sourced_files g) y c))) all in
      of_lines g p (λ y c. h y (Contains-append_right (f.name ∷ []) (sourced_files d ++ sourced_files g) y (Contains-append_right (sourced_files d) (sourced_files g) y c))) within

-- ---- From the root file on

abbrev RootGives : FileBytes → List ℕ → Result ReadSoFar Refused → Type 0
RootGives files root r = (bytes : List ℕ) × (files root ≡ Some bytes) × Rest (tree_of files) (at_root (tree_of files) root bytes) r

module _ (folder_files : List ℕ → Option (List ℕ)) (dir first : List ℕ) (loaded : FileBytes) (w : List (List ℕ)) (m : ℕ) (b : Bool)
    (walk : Walks (Some folder_files) dir [] 0 (first ∷ []) w m b) (agree : (y : List ℕ) → IsMetIn w y → loaded y ≡ named folder_files dir y) where
  same_root : loaded first ≡ named folder_files dir first
  same_root = agree first (first_is_met (omega arith) walk)

  -- what the root file asks for was loaded
  requested_agree : (bytes : List ℕ) (r : Result ReadSoFar Refused) → bytes_cause first 0 (named folder_files dir first) ≡ None → named folder_files dir first ≡ Some bytes →
      (d : Rest (tree_of (named folder_files dir)) (at_root (tree_of (named folder_files dir)) first bytes) r) → (y : List ℕ) → Contains (sourced_files d) y → loaded y ≡ named folder_files dir y
  requested_agree bytes r free there d y c =
      let few = few_lines first bytes 0 (named folder_files dir first) free there in
      let free : list_any (same_name first) [] ≡ false = refl in
      let shut : IsClosed folder_files dir [] [] = λ x c now. absurd (false≢true now) in
      let en = enter folder_files dir {opens = []} bytes 0 there free (omega arith) (omega arith) shut walk in
      let f = follow folder_files dir d en.names en.sources en.walk en.closed (omega (arith, en.fewer)) (omega (arith, few)) in
      agree y (en.grown y (f.asks y c))

  opened_alike : (r : Result ReadSoFar Refused) → bytes_cause first 0 (named folder_files dir first) ≡ None → RootGives (named folder_files dir) first r → RootGives loaded first r
  opened_alike r free (bytes, there, d) = (bytes, same_root ∙ there, over (named folder_files dir) loaded d (requested_agree bytes r free there d))

  pub forward : (r : Result ReadSoFar Refused) → Expands (tree_of (named folder_files dir)) first r → Expands (tree_of loaded) first r
  forward r d = by (bytes_cause first 0 (named folder_files dir first)) refl d
    where
      by : (o : Option Cause) → bytes_cause first 0 (named folder_files dir first) ≡ o → MatchOption o (RootGives (named folder_files dir) first r) (λ c. r ≡ Err (refusal_at c first 0)) → Expands (tree_of loaded) first r
      by None e x = subst (λ (k : Option Cause). MatchOption k (RootGives loaded first r) (λ c. r ≡ Err (refusal_at c first 0))) (sym (ap (bytes_cause first 0) same_root ∙ e)) (opened_alike r e x)
      by (Some c) e x = subst (λ (k : Option Cause). MatchOption k (RootGives loaded first r) (λ c. r ≡ Err (refusal_at c first 0))) (sym (ap (bytes_cause first 0) same_root ∙ e)) x

  -- the files of the lines
  lines_alike : (log : ReadSoFar) → Expands (tree_of (named folder_files dir)) first (Ok log) → All (λ (l : Located Named). loaded l.file ≡ named folder_files dir l.file) log.lines
  lines_alike log d = by (bytes_cause first 0 (named folder_files dir first)) refl d
    where
      by : (o : Option Cause) → bytes_cause first 0 (named folder_files dir first) ≡ o →
          MatchOption o (RootGives (named folder_files dir) first (Ok log)) (λ c. Ok log ≡ Err (refusal_at c first 0)) →
          All (λ (l : Located Named). loaded l.file ≡ named folder_files dir l.file) log.lines
      by None e (bytes, there, d) =
          of_lines (named folder_files dir) (λ y. loaded y ≡ named folder_files dir y) d same_root (requested_agree bytes (Ok log) e there d)
          (All-nil (λ (l : Located Named). loaded l.file ≡ named folder_files dir l.file))
      by (Some c) e x = absurd (let clash : Ok log ≡ Err (refusal_at c first 0) = x in cc)

  pub alike : ExpandsAlike first (tree_of (named folder_files dir)) (tree_of loaded)
  alike = record { gives = λ r. (forward r, back r); holds = lines_alike }
    where
      back : (r : Result ReadSoFar Refused) → Expands (tree_of loaded) first r → Expands (tree_of (named folder_files dir)) first r
      back r h =
          let x = has_one_expansion (tree_of (named folder_files dir)) first in
          subst (Expands (tree_of (named folder_files dir)) first) (one_expansion_law (tree_of loaded) first x.0 r (forward x.0 x.1) h) x.1

-- ---- The end of the loading

and_true : (a : Bool) → (a && true) ≡ a
and_true true = refl
and_true false = refl

module _ (folder_files : List ℕ → Option (List ℕ)) (dir first : List ℕ) (s : State) (h : Ongoing (Some folder_files) dir first s) where
  -- each name that was asked for has the folder's file
  requested_are_whole : (y : List ℕ) → IsMetIn s.requested y → s.files y ≡ named folder_files dir y
  requested_are_whole y met = h.held y ∙ by (is_utf8 y) refl
    where
      there : IsUtf8 y → was_requested (names_of h.asked) y ≡ true
      there text = ap (λ (l : List (List ℕ)). was_requested l y) (sym h.requested_are) ∙ met text

      not_requested : is_utf8 y ≡ false → (b : Bool) → was_requested (names_of h.asked) y ≡ b → b ≡ false
      not_requested u true e = absurd (false≢true (sym u ∙ is_utf8-from_IsUtf8 y (at_name (λ x o. IsUtf8 x) h.asked h.texts y e)))
      not_requested u false e = refl

      by : (b : Bool) → is_utf8 y ≡ b → files_found h.asked y ≡ cond b (folder_files (path_of dir y)) None
      by true u = sym (at_name (λ x o. folder_files (path_of dir x) ≡ o) h.asked h.answers y (there (IsUtf8-from_is_utf8 y u)))
      by false u = found_absent h.asked y (not_requested u (was_requested (names_of h.asked) y) refl)

  pub enough_told : (b : Bool) → Walks (Some folder_files) dir [] 0 (first ∷ []) s.requested s.lines b → Suffices (Some folder_files) dir first false (tree_of s.files)
  enough_told b walk = (
    tree_of (named folder_files dir),
    record { flat_is = refl; bytes_are = λ j name. cond (sym (and_true (is_utf8 name)) j) (folder_files (path_of dir name)) None },
    alike folder_files dir first s.files s.requested s.lines b walk requested_are_whole,
  )

pub enough : (folder_files : FolderFiles) (dir first : List ℕ) (s : State) → Ongoing folder_files dir first s → (b : Bool) → Walks folder_files dir [] 0 (first ∷ []) s.requested s.lines b → Suffices folder_files dir first false (tree_of s.files)
enough None dir first s h b walk =
    (tree_of s.files, record { flat_is = refl; bytes_are = tt }, record { gives = λ r. (λ x. x, λ x. x); holds = λ log d i l within. refl })
enough (Some folder_files) dir first s h b walk = enough_told folder_files dir first s h b walk
