-- The beginning of the loading, its ends, and why it ends.
use Rattle.std.proofs.{Common.{Bool, Contains, IsUtf8, List, None, Option, [], ap, append-nil, arith, false, length, length-append, map, min, nat_lt, refl, reverse, subst, suc, sym, true, vec_len, zero, ℕ, ◌*◌, ◌++◌, ◌+◌, ◌-◌, ◌<◌, ◌∙◌, ◌∷◌, ◌≡◌, ◌≤◌}, Math.ListN.length-map, lemmas.{Bool.Decides.nat_tests, List.{Elements.{All-nil, Contains-append_left}, nil_from_length}}}
use Rattle.std.specs.declared.{alloc.Global.Global, vec.Vec.Vec}
use Rattle.kc_load.specs.{Asking.{AreSourcesOf, AskedAlong, asked, ended}, Folder.{Answer, AnswersAs, AreAsked, FolderFiles, IsLoadFault, IsNext, files_found}, Loading.Loads, Steps.{FailsAt, IsDue, State, Visits, file, initial_state, no_file, no_text, not_new, was_requested}, declared.fault.LoadFault.{LoadFault, TheVariants.{CannotRead, Memory}}}
use Rattle.kc_language.specs.{Files.path_of, Text.most_lines}
use Rattle.kc_text.specs.PartsOfText.{last_count}
use Rattle.kc_entries.specs.PartsOfExpansion.{lines_of}
use Rattle.kc_load.proofs.{FoundLemmas.{found_absent, names_of}, Ongoing.Ongoing, OrderLemmas.flat, RequestedLemmas.in_requested, SourceLemmas.no_lines_no_sources, TurnLemmas.{is_new, waits_first}}

pub not_over : (n : ℕ) → false ≡ nat_lt most_lines n → n ≤ most_lines
not_over n e = grind (arith, nat_tests)

pub is_over : (n : ℕ) → true ≡ nat_lt most_lines n → most_lines < n
is_over n e = grind (arith, nat_tests)

-- a vector's elements are fewer than 2^64, and none where its length is 0
pub fits : (v : Vec (Vec ℕ Global) Global) → length (map (λ n. n.items) v.items) < 18446744073709551616
fits v =
    let n : length (map (λ (w : Vec ℕ Global). w.items) v.items) ≡ length v.items = simp length-map in
    let a = v.ok.0 in
    let b = v.ok.1 in
    let c = v.small in
    omega arith

pub none_waits : (v : Vec (Vec ℕ Global) Global) → vec_len v ≡ 0 → map (λ n. n.items) v.items ≡ []
none_waits v e = ap (map (λ (w : Vec ℕ Global). w.items)) (nil_from_length v.items (sym v.ok.0 ∙ e))

pub at_start : (folder_files : FolderFiles) (dir first : List ℕ) → Ongoing folder_files dir first (initial_state first)
at_start folder_files dir first = record {
  asked = [];
  requested_are = refl;
  held = λ name. refl;
  answers = All-nil (λ (a : Answer). AnswersAs folder_files (path_of dir a.name) a.bytes);
  texts = All-nil (λ (a : Answer). IsUtf8 a.name);
  total = refl;
  within = λ before after a e. absurd (let n : 0 ≡ length before + suc (length after) = ap length e ∙ length-append before (a ∷ after) in omega arith);
  in_order = λ files more agree d. d;
}

module _ (folder_files : FolderFiles) (dir first : List ℕ) (s : State) (h : Ongoing folder_files dir first s) where
  -- over what was found, whatever is asked for along the names that wait
  found_in_order : (more : List (List ℕ)) → AskedAlong (files_found h.asked) (names_of h.asked) (reverse s.waiting) more → AreAsked folder_files dir first h.asked more
  found_in_order more d = record { in_order = h.in_order (files_found h.asked) more (λ x there. refl) d; answers = h.answers }

  -- a name that was not asked for has no file
  none_found : (x : List ℕ) → (Contains (names_of h.asked) x → ⊥) → files_found h.asked x ≡ None
  none_found x new = by (was_requested (names_of h.asked) x) refl
    where
      by : (b : Bool) → was_requested (names_of h.asked) x ≡ b → files_found h.asked x ≡ None
      by true e = absurd (new (in_requested (names_of h.asked) x e))
      by false e = found_absent h.asked x e

  pub at_end : s.waiting ≡ [] → Loads folder_files dir first s.files
  at_end none = record {
    asked = h.asked;
    next = [];
    are_asked = found_in_order [] (subst (λ (l : List (List ℕ)). AskedAlong (files_found h.asked) (names_of h.asked) (reverse l) []) (sym none) (ended (names_of h.asked)));
    within = h.within;
    are_all = λ few. refl;
    held = h.held;
  }

  pub when_over : most_lines < s.lines → Loads folder_files dir first s.files
  when_over over =
      let (next, d) = flat (files_found h.asked) (reverse s.waiting) (names_of h.asked) none_found in
      record {
        asked = h.asked;
        next = next;
        are_asked = found_in_order next d;
        within = h.within;
        are_all = λ few. absurd (let t = h.total in omega arith);
        held = h.held;
      }

  -- the name that waits first comes next
  next_is : (rest : List (List ℕ)) (name : List ℕ) → s.waiting ≡ rest ++ name ∷ [] → IsDue s name → (behind : List (List ℕ)) × AreAsked folder_files dir first h.asked (name ∷ behind)
  next_is rest name last due =
      let new = is_new folder_files dir first s h rest name last due in
      let (behind, d) = flat (files_found h.asked) (reverse rest) (names_of h.asked ++ name ∷ []) (λ x c. none_found x (λ there. c (Contains-append_left (names_of h.asked) (name ∷ []) x there))) in
      let own = subst (λ (o : Option (List ℕ)). AreSourcesOf o []) (sym (none_found name new.1)) refl in
      let along : AskedAlong (files_found h.asked) (names_of h.asked) (name ∷ reverse rest) (name ∷ [] ++ behind) =
      asked (names_of h.asked) (reverse rest) [] [] behind name new own (ended (names_of h.asked ++ name ∷ [])) d in (
        behind,
        found_in_order (name ∷ behind)
            (subst (λ (l : List (List ℕ)). AskedAlong (files_found h.asked) (names_of h.asked) l (name ∷ behind)) (sym (waits_first folder_files dir first s h rest name last)) along),
      )

  pub at_fault : s.lines ≤ most_lines → (rest : List (List ℕ)) (name : List ℕ) → s.waiting ≡ rest ++ name ∷ [] →
      (fault : LoadFault) → FailsAt (record s { waiting = rest }) name fault → IsLoadFault folder_files dir first fault
  at_fault within rest name last (CannotRead n) f =
      let (behind, are) = next_is rest name last (record { utf8 = f.1.utf8; is_new = f.1.is_new }) in
      subst (λ (x : List ℕ). IsNext folder_files dir first x) (sym f.0) (record {
        asked = h.asked;
        behind = behind;
        are_asked = are;
        within = let t = h.total in omega arith;
      })
  at_fault within rest name last Memory f = tt

-- What falls with each turn: the lines that may still come, and, where none came, the names that wait.
abbrev pub still_left : State → ℕ
still_left s = (most_lines - s.lines) * 18446744073709551616 + length s.waiting

pub falls : (folder_files : FolderFiles) (dir : List ℕ) (s : State) (rest : List (List ℕ)) (name : List ℕ) (n : State) → s.waiting ≡ rest ++ name ∷ [] →
    s.lines ≤ most_lines → n.lines ≤ most_lines → length n.waiting < 18446744073709551616 → Visits folder_files dir name (record s { waiting = rest }) n →
    still_left n < still_left s
falls folder_files dir s rest name n last within later fits v = by v
  where
    shorter : length s.waiting ≡ length rest + 1
    shorter = ap length last ∙ length-append rest (name ∷ [])

    fewer : n.waiting ≡ rest → n.lines ≡ s.lines → still_left n < still_left s
    fewer w l = let k : length n.waiting ≡ length rest = ap length w in let more = shorter in omega arith

    by : Visits folder_files dir name (record s { waiting = rest }) n → still_left n < still_left s
    by (no_text not_text same) = fewer (ap (λ m. m.waiting) same) (ap (λ m. m.lines) same)
    by (not_new a same) = fewer (ap (λ m. m.waiting) same) (ap (λ m. m.lines) same)
    by (no_file due answer asks) = fewer asks.waiting_is asks.lines_are
    by (file middle bytes due answer asks takes) = taken (lines_of bytes) refl
      where
        lines_now : n.lines ≡ min (s.lines + lines_of bytes) last_count
        lines_now = takes.lines_are ∙ ap (λ k. min (k + lines_of bytes) last_count) asks.lines_are

        taken : (k : ℕ) → lines_of bytes ≡ k → still_left n < still_left s
        taken zero e =
            let none : takes.names ≡ [] = no_lines_no_sources bytes takes.names takes.sources e in
            let waits : n.waiting ≡ rest = takes.waiting_is ∙ ap (λ l. l ++ reverse takes.names) asks.waiting_is ∙ ap (λ l. rest ++ reverse l) none ∙ append-nil rest in
            let same : n.lines ≡ s.lines = let l = lines_now in omega arith in
            fewer waits same
        taken (suc k) e = let l = lines_now in let more = shorter in omega arith
