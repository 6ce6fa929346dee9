-- The turn of one name keeps what holds while files are loaded.
use Rattle.std.proofs.{Common.{Bool, IsUtf8, List, None, Option, Some, [], ap, append-nil, append_assoc, arith, cond, false, length, length-append, min, refl, reverse, subst, suc, sym, take, true, ℕ, ◌++◌, ◌+◌, ◌∙◌, ◌∷◌, ◌≡◌, ◌≤◌}, lemmas.List.{Elements.{All-push, Contains-append_left, Contains-push}, reverse-append, reverse-reverse, take-append-le, take_at}}
use Rattle.kc_language.specs.{Expressions.{mention, same_name}, Files.path_of, Text.most_lines}
use Rattle.kc_text.specs.PartsOfText.{last_count}
use Rattle.kc_read.proofs.FileLemmas.{same_name_eq}
use Rattle.kc_load.specs.{Asking.{AreSourcesOf, AskedAlong, AskedInOrder, FileBytes, IsNew, asked, passed}, Folder.{Answer, AnswersAs, FolderFiles, files_found, line_total}, Loading.WereWithin, PartsOfFolder.lines_found, Steps.{AddsFile, AddsName, IsDue, State, Visits, file, no_file, no_text, not_new, was_requested}}
use Rattle.kc_load.proofs.{FoundLemmas.{found_absent, found_itself, found_push, found_still, names_of, names_push, total_append, total_take}, Ongoing.{Agree, IsInOrder, Ongoing}, OrderLemmas.split, RequestedLemmas.{in_requested, mention_is, not_in, requested_in}}

-- one answer more, where the lines were within the limit
pub within_push : (before : List Answer) (a : Answer) → line_total before ≤ most_lines → WereWithin (before ++ a ∷ [])
within_push before a le front after b e =
    let n : length before + 1 ≡ length front + suc (length after) = sym (length-append before (a ∷ [])) ∙ ap length e ∙ length-append front (b ∷ after) in
    let short : length front ≤ length before = omega arith in
    let is_front : take (length front) before ≡ front =
    sym (take-append-le (length front) before (a ∷ []) short) ∙ ap (take (length front)) e ∙ take_at front (b ∷ after) (length front) refl in
    let fewer = total_take (length front) before in
    let same : line_total (take (length front) before) ≡ line_total front = ap line_total is_front in
    omega arith

module _ (folder_files : FolderFiles) (dir first : List ℕ) (s : State) (h : Ongoing folder_files dir first s) (rest : List (List ℕ)) (name : List ℕ) (last : s.waiting ≡ rest ++ name ∷ []) where
  pub waits_first : reverse s.waiting ≡ name ∷ reverse rest
  waits_first = ap reverse last ∙ reverse-append rest (name ∷ [])

  -- the name is left out
  left_out : (IsNew (names_of h.asked) name → ⊥) → Ongoing folder_files dir first (record s { waiting = rest })
  left_out known = record {
    asked = h.asked;
    requested_are = h.requested_are;
    held = h.held;
    answers = h.answers;
    texts = h.texts;
    total = h.total;
    within = h.within;
    in_order = λ files more agree d. h.in_order files more agree
        (subst (λ (l : List (List ℕ)). AskedAlong files (names_of h.asked) l more) (sym waits_first) (passed (names_of h.asked) (reverse rest) more name known d));
  }

  module _ (due : IsDue s name) where
    not_asked : was_requested (names_of h.asked) name ≡ false
    not_asked = ap (λ (l : List (List ℕ)). was_requested l name) (sym h.requested_are) ∙ due.is_new

    pub is_new : IsNew (names_of h.asked) name
    is_new = (due.utf8, not_in (names_of h.asked) name not_asked)

    -- the name is asked for, and answered
    module _ (within : s.lines ≤ most_lines) (o : Option (List ℕ)) (sources : List (List ℕ)) (answer : AnswersAs folder_files (path_of dir name) o) (are : AreSourcesOf o sources) where
      abbrev now : Answer
      now = record { name = name; bytes = o }

      abbrev asked_now : List Answer
      asked_now = h.asked ++ now ∷ []

      agreed : (files : FileBytes) → Agree asked_now files → Agree h.asked files
      agreed files agree x there =
          let still : was_requested (names_of asked_now) x ≡ true =
          ap (λ (l : List (List ℕ)). was_requested l x) (names_push h.asked now)
          ∙ requested_in (names_of h.asked ++ name ∷ []) x (Contains-append_left (names_of h.asked) (name ∷ []) x (in_requested (names_of h.asked) x there)) in
          agree x still ∙ found_still h.asked now not_asked x there

      agreed_here : (files : FileBytes) → Agree asked_now files → files name ≡ o
      agreed_here files agree =
          let there : was_requested (names_of asked_now) name ≡ true =
          ap (λ (l : List (List ℕ)). was_requested l name) (names_push h.asked now)
          ∙ requested_in (names_of h.asked ++ name ∷ []) name (Contains-push (names_of h.asked) name) in
          agree name there ∙ found_itself h.asked now not_asked

      goes_on : IsInOrder first asked_now (sources ++ reverse rest)
      goes_on files more agree d =
          let (inside, behind, more_is, own, others) = split (subst (λ (l : List (List ℕ)). AskedAlong files l (sources ++ reverse rest) more) (names_push h.asked now) d) sources (reverse rest) refl in
          let on : AskedAlong files (names_of h.asked ++ name ∷ inside) (reverse rest) behind =
          subst (λ (l : List (List ℕ)). AskedAlong files l (reverse rest) behind) (append_assoc (names_of h.asked) (name ∷ []) inside) others in
          let along : AskedAlong files (names_of h.asked) (name ∷ reverse rest) (name ∷ inside ++ behind) =
          asked (names_of h.asked) (reverse rest) sources inside behind name is_new (subst (λ (p : Option (List ℕ)). AreSourcesOf p sources) (sym (agreed_here files agree)) are) own on in
          let names_are : names_of h.asked ++ (name ∷ inside ++ behind) ≡ names_of asked_now ++ more =
          sym (append_assoc (names_of h.asked) (name ∷ []) (inside ++ behind)) ∙ ap (λ (l : List (List ℕ)). names_of h.asked ++ name ∷ [] ++ l) (sym more_is)
          ∙ ap (λ (l : List (List ℕ)). l ++ more) (sym (names_push h.asked now)) in
          subst (AskedInOrder files first) names_are
          (h.in_order files (name ∷ inside ++ behind) (agreed files agree) (subst (λ (l : List (List ℕ)). AskedAlong files (names_of h.asked) l (name ∷ inside ++ behind)) (sym waits_first) along))

      answered : (n : State) → ((x : List ℕ) → n.files x ≡ cond (same_name x name) o (s.files x)) → n.requested ≡ mention s.requested name →
          n.waiting ≡ rest ++ reverse sources → n.lines ≡ min (s.lines + lines_found o) last_count → Ongoing folder_files dir first n
      answered n files_are requested_are waiting_are lines_are = record {
        asked = asked_now;
        requested_are = requested_are ∙ mention_is s.requested name due.is_new ∙ ap (λ (l : List (List ℕ)). l ++ name ∷ []) h.requested_are ∙ sym (names_push h.asked now);
        held = λ x. files_are x ∙ ap (cond (same_name x name) o) (h.held x) ∙ sym (found_push h.asked now not_asked x);
        answers = All-push (λ (a : Answer). AnswersAs folder_files (path_of dir a.name) a.bytes) h.asked now h.answers answer;
        texts = All-push (λ (a : Answer). IsUtf8 a.name) h.asked now h.texts due.utf8;
        total = let t = h.total in let more = total_append h.asked (now ∷ []) in omega arith;
        within = within_push h.asked now (let t = h.total in omega arith);
        in_order = subst (IsInOrder first asked_now)
            (sym (ap reverse waiting_are ∙ reverse-append rest (reverse sources) ∙ ap (λ (l : List (List ℕ)). l ++ reverse rest) (reverse-reverse sources))) goes_on;
      }

    -- there is no file of the name
    missing : s.lines ≤ most_lines → (n : State) → AnswersAs folder_files (path_of dir name) None → AddsName name (record s { waiting = rest }) n → Ongoing folder_files dir first n
    missing within n answer asks = answered within None [] answer refl n
        (λ x. ap (λ f. f x) asks.files_are ∙ none_there x (same_name x name) refl)
        asks.requested_are
        (asks.waiting_is ∙ sym (append-nil rest))
        (let e = asks.lines_are in omega arith)
      where
        none_there : (x : List ℕ) (b : Bool) → same_name x name ≡ b → s.files x ≡ cond b None (s.files x)
        none_there x true e = h.held x ∙ ap (files_found h.asked) (same_name_eq x name e) ∙ found_absent h.asked name not_asked
        none_there x false e = refl

    -- the file of the name is read
    taken : s.lines ≤ most_lines → (n middle : State) (bytes : List ℕ) → AnswersAs folder_files (path_of dir name) (Some bytes) → AddsName name (record s { waiting = rest }) middle →
        AddsFile name bytes middle n → Ongoing folder_files dir first n
    taken within n middle bytes answer asks takes = answered within (Some bytes) takes.names answer takes.sources n
        (λ x. takes.puts x ∙ ap (λ f. cond (same_name x name) (Some bytes) (f x)) asks.files_are)
        (takes.requested_are ∙ asks.requested_are)
        (takes.waiting_is ∙ ap (λ l. l ++ reverse takes.names) asks.waiting_is)
        (let e = takes.lines_are in let f = asks.lines_are in omega arith)

  -- the turn of the name
  pub turn : s.lines ≤ most_lines → (n : State) → Visits folder_files dir name (record s { waiting = rest }) n → Ongoing folder_files dir first n
  turn within n (no_text not_text same) = subst (Ongoing folder_files dir first) (sym same) (left_out (λ new. absurd (not_text new.0)))
  turn within n (not_new a same) =
      subst (Ongoing folder_files dir first) (sym same)
      (left_out (λ new. new.1 (in_requested (names_of h.asked) name (ap (λ (l : List (List ℕ)). was_requested l name) (sym h.requested_are) ∙ a))))
  turn within n (no_file due answer asks) = missing (record { utf8 = due.utf8; is_new = due.is_new }) within n answer asks
  turn within n (file middle bytes due answer asks takes) = taken (record { utf8 = due.utf8; is_new = due.is_new }) within n middle bytes answer asks takes
