-- Over a folder that tells its files there is a map that loading gives.
use Rattle.std.proofs.{Common.{Bool, List, None, Option, Some, [], ap, append-nil, arith, cond, false, inl, inr, length, length-append, min, nat_lt, refl, reverse, suc, true, zero, ℕ, ◌++◌, ◌+◌, ◌-◌, ◌<◌, ◌∙◌, ◌∷◌, ◌≡◌, ◌≤◌, ◌⊎◌}, lemmas.{Bool.both_ways, Str.{IsUtf8-from_is_utf8, is_utf8-from_IsUtf8}}}
use Rattle.std.specs.Str.{is_utf8}
use Rattle.kc_language.specs.{Expressions.{mention, same_name}, Files.path_of, Lines.unread_lines, Text.most_lines}
use Rattle.kc_text.specs.PartsOfText.{last_count}
use Rattle.kc_read.proofs.OpenedFileLemmas.{has_one_list_of_names}
use Rattle.kc_load.specs.{Asking.{AreSources, FileBytes}, Loading.{Loads, MapExists}, Steps.{AddsName, State, Visits, file, initial_state, no_file, no_text, not_new, was_requested}}
use Rattle.kc_entries.specs.PartsOfExpansion.{lines_of}
use Rattle.kc_load.proofs.{EndLemmas.{at_end, at_start, is_over, not_over, when_over}, Ongoing.Ongoing, SourceLemmas.no_lines_no_sources, TurnLemmas.turn}

-- there are no names, or there is a last one
none_or_last : (names : List (List ℕ)) → (names ≡ []) ⊎ ((rest : List (List ℕ)) × (name : List ℕ) × (names ≡ rest ++ name ∷ []))
none_or_last [] = inl refl
none_or_last (x ∷ xs) = elim (none_or_last xs) [
  | inl none ↦ inr ([], x, ap (λ l. x ∷ l) none)
  | inr (rest, name, last) ↦ inr (x ∷ rest, name, ap (λ l. x ∷ l) last)
]

-- ---- One turn

module _ (s : State) (name : List ℕ) where
  -- the state after the name was asked for
  abbrev asked_for : State
  asked_for = record s { requested = mention s.requested name }

  -- the state after a file of the name that sources these names
  abbrev file_taken : List ℕ → List (List ℕ) → State
  file_taken bytes names = record {
    files = λ x. cond (same_name x name) (Some bytes) (s.files x);
    requested = mention s.requested name;
    waiting = s.waiting ++ reverse names;
    lines = min (s.lines + lines_of bytes) last_count;
  }

  -- to ask for the name changes nothing else
  asks : AddsName name s asked_for
  asks = record { files_are = refl; waiting_is = refl; requested_are = refl; lines_are = refl }

  -- the turn brought no line and no name that waits, or it brought a line
  abbrev Brings : State → Type 0
  Brings n = ((n.waiting ≡ s.waiting) × (n.lines ≡ s.lines)) ⊎ (s.lines < n.lines)

  -- a file without lines sources nothing
  file_brings : s.lines ≤ most_lines → (bytes : List ℕ) (names : List (List ℕ)) → AreSources bytes names → (k : ℕ) → lines_of bytes ≡ k → Brings (file_taken bytes names)
  file_brings within bytes names sources zero e =
      inl (ap (λ l. s.waiting ++ reverse l) (no_lines_no_sources bytes names sources e) ∙ append-nil s.waiting, omega arith)
  file_brings within bytes names sources (suc k) e = inr (omega arith)

  -- the name has its turn, whatever the folder tells of it
  turn_of : (folder_files : List ℕ → Option (List ℕ)) (dir : List ℕ) → s.lines ≤ most_lines → (n : State) × Visits (Some folder_files) dir name s n × Brings n
  turn_of folder_files dir within = by (is_utf8 name) (was_requested s.requested name) (folder_files (path_of dir name)) refl refl refl
    where
      by : (text there : Bool) (found : Option (List ℕ)) → is_utf8 name ≡ text → was_requested s.requested name ≡ there → folder_files (path_of dir name) ≡ found →
          (n : State) × Visits (Some folder_files) dir name s n × Brings n
      by false there found t r f = (s, no_text (λ text. both_ways (is_utf8 name) t (is_utf8-from_IsUtf8 name text)) refl, inl (refl, refl))
      by true true found t r f = (s, not_new r refl, inl (refl, refl))
      by true false None t r f = (asked_for, no_file (record { utf8 = IsUtf8-from_is_utf8 name t; is_new = r }) f asks, inl (refl, refl))
      by true false (Some bytes) t r f =
          let (names, sources, one) = has_one_list_of_names (unread_lines bytes 1) in (
            file_taken bytes names,
            file asked_for bytes (record { utf8 = IsUtf8-from_is_utf8 name t; is_new = r }) f asks
                (record { names = names; sources = sources; waiting_is = refl; puts = λ x. refl; requested_are = refl; lines_are = refl }),
            file_brings within bytes names sources (lines_of bytes) refl,
          )

-- ---- Turn by turn to the end

-- one more than the lines that may still come within the limit
abbrev lines_left : State → ℕ
lines_left s = most_lines + 1 - s.lines

-- fewer lines are left, or as many and fewer names wait
abbrev IsLess : State → State → Type 0
IsLess n s = (lines_left n < lines_left s) ⊎ ((lines_left n ≡ lines_left s) × (length n.waiting < length s.waiting))

module _ (folder_files : List ℕ → Option (List ℕ)) (dir first : List ℕ) where
  -- there is a map that loading gives
  abbrev There : Type 0
  There = (files : FileBytes) × Loads (Some folder_files) dir first files

  -- the loading has come to this state
  abbrev IsOn : State → Type 0
  IsOn s = Ongoing (Some folder_files) dir first s

  -- the loading ends, or goes on with less
  ends_or_goes_on : (s : State) → IsOn s → There ⊎ ((n : State) × IsOn n × IsLess n s)
  ends_or_goes_on s on = by (nat_lt most_lines s.lines) refl (none_or_last s.waiting)
    where
      by : (over : Bool) → over ≡ nat_lt most_lines s.lines → (s.waiting ≡ []) ⊎ ((rest : List (List ℕ)) × (name : List ℕ) × (s.waiting ≡ rest ++ name ∷ [])) →
          There ⊎ ((n : State) × IsOn n × IsLess n s)
      by true e waits = inl (s.files, when_over (Some folder_files) dir first s on (is_over s.lines e))
      by false e (inl none) = inl (s.files, at_end (Some folder_files) dir first s on none)
      by false e (inr (rest, name, last)) =
          let within = not_over s.lines e in
          let shorter : length s.waiting ≡ length rest + 1 = ap length last ∙ length-append rest (name ∷ []) in
          let (n, visits, brings) = turn_of (record s { waiting = rest }) name folder_files dir within in
          inr (
            n,
            turn (Some folder_files) dir first s on rest name last within n visits,
            elim brings [
              | inl (waits, lines) ↦ let same : length n.waiting ≡ length rest = ap length waits in inr (omega arith, omega arith)
              | inr more ↦ inl (omega arith)
            ],
          )

  -- there is one from each state on with fewer lines left
  abbrev ThereBelow : ℕ → Type 0
  ThereBelow k = (s : State) → IsOn s → lines_left s < k → There

  -- and so there is from one with as many lines, by the count of the names that wait
  along : (k : ℕ) → ThereBelow k → (m : ℕ) (s : State) → IsOn s → lines_left s < suc k → length s.waiting < m → There
  along k deeper zero s on few short = absurd (omega arith)
  along k deeper (suc m) s on few short = elim (ends_or_goes_on s on) [
    | inl there ↦ there
    | inr (n, still, inl less) ↦ deeper n still (omega arith)
    | inr (n, still, inr (same, shorter)) ↦ along k deeper m n still (omega arith) (omega arith)
  ]

  -- there is one from each state on
  there_below : (k : ℕ) → ThereBelow k
  there_below zero s on few = absurd (omega arith)
  there_below (suc k) s on few = along k (there_below k) (suc (length s.waiting)) s on few (omega arith)

-- from the beginning on there is a map that loading gives
pub map_exists : MapExists
map_exists folder_files dir first =
    there_below folder_files dir first (suc (lines_left (initial_state first))) (initial_state first) (at_start (Some folder_files) dir first) (omega arith)
