-- Streams handed in pieces are read as they are at once, and reading keeps places that hold what is allowed.
use Rattle.std.proofs.{Common.{Bool, List, None, Option, Some, [], ap, append-nil, arith, cond, drop, false, get_or, length, map, not, refl, replicate, reverse, slice_set, subst, sym, true, ℕ, ◌++◌, ◌+◌, ◌-◌, ◌<◌, ◌∙◌, ◌∷◌, ◌≡◌, ◌≤◌}, lemmas.{Bool.{lt-leb, ne_eqb, not-true}, List.{Elements.{All-append, All-cons, All-nil}, Sums.{prefix_len_passes, suffix_len-le-length, take_while-cons}, get_or-drop, get_or-replicate, get_or-reverse, length-append, length-drop, length-replicate, length-reverse}}}
use Rattle.std.specs.{List.{AllByRecursion, Contains, after_last, concat, cons_option, onto_first, slice_split, suffix_len}, Option.option_and_then, Prelude.{slice_get, ◌==◌}, Str.Lines.strip_carriage_return}
use Rattle.kc_language.specs.{ConfigFile.{Assignment, Assigns, Effect, Line, Notation, Places, ReadResult, Silent, Stream, StreamLocation, UserInput, Warns, effect, effect_of, is_within, lines_from, lines_in_stream, lines_of, meaning_of, no_input, places_given, reading, stream_location}, Lines.is_line_feed, Symbols.{SymbolFacts, TreeFacts}, Values.{GivenValue, is_yes}, declared.expressions.SymId.SymId}
use Rattle.kc_entries.specs.WellFormed.{IsWellFormed}
use Rattle.kc_user.specs.{Laws.{EmptyArePlaces, SelectingKeepsPlaces, SettingKeepsPlaces}, Places.{ArePlaces, allowed, members_of}}
use Rattle.kc_input.specs.{Calls.{AllAnswered, Answers, Call, Feed, Finish}, Feeding.{EndsStream, ReadsPiece, StreamPosition}, LineSteps.with_member, PartsOfConfigFile.{assignment_of, assignments, before_too_long, choice_of, last_line, line, text_of}, ReaderState.ReaderState, Reading.with_warnings, Streams.{ReadingKeepsPlaces, RefusalsKeepPlaces, StreamsAreRead, StreamsLeavePlaces, feeds, reader_of, stream_of}}
use Rattle.kc_text.specs.PartsOfText.{one_more}
use Rattle.kc_input.proofs.{AllowedLemmas.{assigned_allowed, strip_no_lf}, LineLemmas.{HasNoLf, lines_from-last}, PlaceLemmas.{places_given-append, places_given-nothing, places_given-one}, ReadingLemmas.{reading-nothing, reading_long, with_warnings-with_warnings}}

-- What one stream gives, whatever lines follow.
one_stream : (pieces : List (List ℕ)) (old end : ReaderState) (before after : UserInput) (warned : List ℕ) (more : List Line) →
    AllAnswered (feeds pieces ++ Finish ∷ []) old end before after warned →
    reading old.tree old.prefix before (lines_from old.name old.position.number (old.position.pending ++ concat pieces) ++ more)
    ≡ with_warnings warned (reading old.tree old.prefix after more)
one_stream [] old end before after warned more (mid, middle, first, later, (is, ends), (same, places, nothing), joined) =
    rw (joined, nothing, places, append-nil first, append-nil old.position.pending) (ends more)
one_stream (piece ∷ pieces) old end before after warned more (mid, middle, first, later, (is, goes), run, joined) =
    let rest = rw is at (one_stream pieces mid end middle after later more run) in
    rw joined (rw is at (goes (concat pieces) more) ∙ ap (with_warnings first) rest ∙ with_warnings-with_warnings first later (reading old.tree old.prefix after more))

pub streams_are_read : StreamsAreRead
streams_are_read tree prefix [] before after warned (same, nothing) = rw (same, nothing) (reading-nothing tree prefix before)
streams_are_read tree prefix (s ∷ streams) before after warned (end, middle, first, later, run, handed, joined) =
    rw joined (one_stream s.pieces (reader_of tree prefix s.name) end before middle first (lines_of (map stream_of streams)) run
    ∙ ap (with_warnings first) (streams_are_read tree prefix streams middle after later handed))

-- Places that hold what is allowed.
module _ (tree : TreeFacts) (prefix : Notation) (formed : IsWellFormed tree) (setting : SettingKeepsPlaces) (selecting : SelectingKeepsPlaces) where
  abbrev IsAllowed : Assignment → Type 0
  IsAllowed a = allowed tree a.symbol a.given ≡ true

  member_of_choice : (s : SymId) (c : ℕ) (o : Option SymbolFacts) → slice_get tree.symbols s.0 ≡ o →
      option_and_then (λ (f : SymbolFacts). f.choice) o ≡ Some c → Contains (members_of (slice_get tree.choices c)) s
  member_of_choice s c None at e = cc
  member_of_choice s c (Some f) at e =
      let (cf, found, member) = formed.members_listed s.0 f at c e in
      subst (λ o. Contains (members_of o) s) (sym found) member

  chosen_keeps : (symbols : List (Option GivenValue)) (choices : List (Option SymId)) (s : SymId) (yes_now : Bool) (choice : Option ℕ) → choice_of tree s ≡ choice →
      ArePlaces tree (record { symbols = symbols; choices = choices }) → ArePlaces tree (record { symbols = symbols; choices = with_member yes_now choice s choices })
  chosen_keeps symbols choices s false choice is old = old
  chosen_keeps symbols choices s true None is old = old
  chosen_keeps symbols choices s true (Some c) is old =
      selecting tree (record { symbols = symbols; choices = choices }) c s old (member_of_choice s c (slice_get tree.symbols s.0) refl is)

  one_keeps : (places : Places) (a : Assignment) → IsAllowed a → ArePlaces tree places → ArePlaces tree (places_given tree places (a ∷ []))
  one_keeps places a ok old =
      rw (places_given-one tree places a.symbol a.given)
      (chosen_keeps (slice_set places.symbols a.symbol.0 (Some a.given)) places.choices a.symbol (is_yes a.given) (choice_of tree a.symbol) refl (setting tree places a.symbol a.given old ok))

  all_keep : (given : List Assignment) (places : Places) → AllByRecursion IsAllowed given → ArePlaces tree places → ArePlaces tree (places_given tree places given)
  all_keep [] places ok old = rw (places_given-nothing tree places) old
  all_keep (a ∷ given) places ok old =
      rw (places_given-append tree places (a ∷ []) given) (all_keep given (places_given tree places (a ∷ [])) ok.1 (one_keeps places a ok.0 old))

  abbrev OneLine : Line → Type 0
  OneLine l = HasNoLf l.bytes

  line_no_lf : (l : Line) → OneLine l → HasNoLf (text_of l)
  line_no_lf l none = by l.ended
    where
      by : (b : Bool) → HasNoLf (cond b (strip_carriage_return l.bytes) l.bytes)
      by true = strip_no_lf l.bytes none
      by false = none

  effect_allowed : (l : Line) → OneLine l → (e : Effect) → effect_of prefix.is_raw tree (meaning_of prefix.prefix (text_of l)) ≡ e → (rest : List Assignment) →
      AllByRecursion IsAllowed rest → AllByRecursion IsAllowed (cons_option (assignment_of e) rest)
  effect_allowed l none Silent is rest ok = ok
  effect_allowed l none (Warns line_warning) is rest ok = ok
  effect_allowed l none (Assigns s given) is rest ok = (assigned_allowed tree prefix (text_of l) s given (line_no_lf l none) is, ok)

  lines_allowed : (lines : List Line) → AllByRecursion OneLine lines → AllByRecursion IsAllowed (assignments tree prefix lines)
  unfolding effect
  lines_allowed [] none = tt
  lines_allowed (l ∷ lines) none = effect_allowed l none.0 (effect_of prefix.is_raw tree (meaning_of prefix.prefix (text_of l))) refl (assignments tree prefix lines) (lines_allowed lines none.1)

  counted_lines : (lines : List Line) → AllByRecursion OneLine lines → AllByRecursion OneLine (before_too_long lines)
  counted_lines [] none = tt
  counted_lines (l ∷ lines) none = rw (take_while-cons is_within l lines) (by (is_within l) (counted_lines lines none.1))
    where
      by : (b : Bool) → AllByRecursion OneLine (before_too_long lines) → AllByRecursion OneLine (cond b (l ∷ before_too_long lines) [])
      by true rest = (none.0, rest)
      by false rest = tt

  reading_keeps : (lines : List Line) (input : UserInput) → AllByRecursion OneLine lines → ArePlaces tree input.places → ArePlaces tree (reading tree prefix input lines).input.places
  unfolding reading
  reading_keeps lines input none old = all_keep (assignments tree prefix (before_too_long lines)) input.places (lines_allowed (before_too_long lines) (counted_lines lines none)) old

-- The lines of a stream hold no line feed.
parts_no_lf : (bytes : List ℕ) → AllByRecursion HasNoLf (slice_split is_line_feed bytes)
parts_no_lf [] = (All-nil (λ b. is_line_feed b ≡ false), tt)
parts_no_lf (b ∷ bytes) = by (is_line_feed b) refl (parts_no_lf bytes)
  where
    onto : is_line_feed b ≡ false → (parts : List (List ℕ)) → AllByRecursion HasNoLf parts → AllByRecursion HasNoLf (onto_first b parts)
    onto other [] ok = (All-cons (λ x. is_line_feed x ≡ false) b [] other (All-nil (λ x. is_line_feed x ≡ false)), tt)
    onto other (part ∷ parts) ok = (All-cons (λ x. is_line_feed x ≡ false) b part other ok.0, ok.1)

    by : (c : Bool) → is_line_feed b ≡ c → AllByRecursion HasNoLf (slice_split is_line_feed bytes) →
        AllByRecursion HasNoLf (cond c ([] ∷ slice_split is_line_feed bytes) (onto_first b (slice_split is_line_feed bytes)))
    by true is ok = (All-nil (λ x. is_line_feed x ≡ false), ok)
    by false is ok = onto is (slice_split is_line_feed bytes) ok

last_line_no_lf : (stream : List ℕ) (n : ℕ) (bytes : List ℕ) → HasNoLf bytes → AllByRecursion (λ (l : Line). HasNoLf l.bytes) (last_line stream n bytes)
last_line_no_lf stream n bytes none = by (length bytes == 0)
  where
    by : (b : Bool) → AllByRecursion (λ (l : Line). HasNoLf l.bytes) (cond b [] (line stream n bytes false ∷ []))
    by true = tt
    by false = (none, tt)

part_lines : (stream : List ℕ) (n : ℕ) (parts : List (List ℕ)) → AllByRecursion HasNoLf parts → AllByRecursion (λ (l : Line). HasNoLf l.bytes) (lines_in_stream stream n parts)
part_lines stream n [] ok = tt
part_lines stream n (part ∷ []) ok = last_line_no_lf stream n part ok.0
part_lines stream n (part ∷ next ∷ parts) ok = (ok.0, part_lines stream (one_more n) (next ∷ parts) ok.1)

pub stream_lines : (stream : List ℕ) (n : ℕ) (bytes : List ℕ) → AllByRecursion (λ (l : Line). HasNoLf l.bytes) (lines_from stream n bytes)
unfolding lines_from
stream_lines stream n bytes = part_lines stream n (slice_split is_line_feed bytes) (parts_no_lf bytes)

all_lines-append : (ls ms : List Line) → AllByRecursion (λ (l : Line). HasNoLf l.bytes) ls → AllByRecursion (λ (l : Line). HasNoLf l.bytes) ms →
    AllByRecursion (λ (l : Line). HasNoLf l.bytes) (ls ++ ms)
all_lines-append [] ms a b = b
all_lines-append (l ∷ ls) ms a b = (a.0, all_lines-append ls ms a.1 b)

streams_lines : (streams : List Stream) → AllByRecursion (λ (l : Line). HasNoLf l.bytes) (lines_of streams)
streams_lines [] = tt
streams_lines (s ∷ streams) = all_lines-append (lines_from s.name 1 s.bytes) (lines_of streams) (stream_lines s.name 1 s.bytes) (streams_lines streams)

-- what waits behind the last line feed holds none
pub waiting_no_lf : (bytes : List ℕ) → HasNoLf (after_last is_line_feed bytes)
waiting_no_lf bytes k d lt =
    let p : ℕ → Bool = λ b. not (is_line_feed b) in
    let s : suffix_len p bytes ≤ length bytes = suffix_len-le-length p bytes in
    let n : ℕ = length bytes - suffix_len p bytes in
    let long : length (drop n bytes) ≡ length bytes - n = length-drop n bytes in
    let j : ℕ = length bytes - 1 - (n + k) in
    let within : j < suffix_len p bytes = omega (arith, lt, long, s) in
    let back : length (reverse bytes) - 1 - j ≡ n + k = omega (arith, lt, long, s, length-reverse bytes) in
    let at : get_or (reverse bytes) j d ≡ get_or bytes (n + k) d = get_or-reverse bytes j d (omega (arith, lt, long, s)) ∙ ap (λ m. get_or bytes m d) (omega (arith, lt, long, s)) in
    let passes : p (get_or (reverse bytes) j d) ≡ true = prefix_len_passes p (reverse bytes) j d within in
    not-true (is_line_feed (get_or (drop n bytes) k d)) (ap p (get_or-drop n bytes k d ∙ sym at) ∙ passes)

-- a line that is too long changes nothing, and warns of nothing
pub reading-long_end : (tree : TreeFacts) (prefix : Notation) (name : List ℕ) (position : StreamPosition) (after : UserInput) (n : ℕ) → 65535 < n → HasNoLf position.pending →
    (stop : Option StreamLocation)
    × (reading tree prefix after (lines_from name position.number (position.pending ++ replicate n 120) ++ []) ≡ record { input = after; warned = []; stopped = stop })
reading-long_end tree prefix name position after n far none =
    let bytes : List ℕ = position.pending ++ replicate n 120 in
    let size : length bytes ≡ length position.pending + n = length-append position.pending (replicate n 120) ∙ ap (λ k. length position.pending + k) (length-replicate n 120) in
    let one : HasNoLf bytes = All-append (λ b. is_line_feed b ≡ false) position.pending (replicate n 120) none
    (λ k d lt. ap is_line_feed (get_or-replicate n k 120 d (subst (λ m. k < m) (length-replicate n 120) lt))) in
    let some : (length bytes == 0) ≡ false = ne_eqb (length bytes) 0 (λ e. absurd (omega arith)) in
    let l : Line = line name position.number bytes false in
    let lines : lines_from name position.number bytes ++ [] ≡ l ∷ [] = append-nil (lines_from name position.number bytes)
    ∙ lines_from-last name position.number bytes one ∙ ap (λ b. cond b [] (l ∷ [])) some in
    let long : is_within l ≡ false = lt-leb (length bytes) 65535 (omega arith) in
    (Some (stream_location l), ap (reading tree prefix after) lines ∙ reading_long tree prefix after l [] long)

-- A call leaves places that hold what is allowed.
module _ (setting : SettingKeepsPlaces) (selecting : SelectingKeepsPlaces) where
  no_more_lines : (name : List ℕ) (n : ℕ) (bytes : List ℕ) → AllByRecursion (λ (l : Line). HasNoLf l.bytes) (lines_from name n bytes ++ [])
  no_more_lines name n bytes = subst (λ lines. AllByRecursion (λ (l : Line). HasNoLf l.bytes) lines) (sym (append-nil (lines_from name n bytes))) (stream_lines name n bytes)

  end_keeps : (tree : TreeFacts) (prefix : Notation) (name : List ℕ) (position : StreamPosition) (before after : UserInput) (warned : List ℕ) → IsWellFormed tree →
      EndsStream tree prefix name position before after warned → ArePlaces tree before.places → ArePlaces tree after.places
  end_keeps tree prefix name position before after warned formed ends old =
      let is : (reading tree prefix before (lines_from name position.number position.pending ++ [])).input.places ≡ after.places =
      ap (λ (r : ReadResult). r.input.places) (ends [] ∙ ap (with_warnings warned) (reading-nothing tree prefix after)) in
      subst (ArePlaces tree) is (reading_keeps tree prefix formed setting selecting (lines_from name position.number position.pending ++ []) before
      (no_more_lines name position.number position.pending) old)

  feed_keeps : (tree : TreeFacts) (prefix : Notation) (name piece : List ℕ) (old new : StreamPosition) (before after : UserInput) (warned : List ℕ) (n : ℕ) → 65535 < n →
      IsWellFormed tree → HasNoLf new.pending → ReadsPiece tree prefix name piece old new before after warned → ArePlaces tree before.places → ArePlaces tree after.places
  feed_keeps tree prefix name piece old new before after warned n far formed none goes held =
      let is : (reading tree prefix before (lines_from name old.number (old.pending ++ (piece ++ replicate n 120)) ++ [])).input.places ≡ after.places =
      ap (λ (r : ReadResult). r.input.places) (goes (replicate n 120) [] ∙ ap (with_warnings warned) (reading-long_end tree prefix name new after n far none).1) in
      subst (ArePlaces tree) is (reading_keeps tree prefix formed setting selecting
      (lines_from name old.number (old.pending ++ (piece ++ replicate n 120)) ++ []) before
      (no_more_lines name old.number (old.pending ++ (piece ++ replicate n 120))) held)

  call_keeps : (call : Call) (old new : ReaderState) (before after : UserInput) (warned : List ℕ) → IsWellFormed old.tree →
      Answers call old new before after warned → ArePlaces old.tree before.places → (new.tree ≡ old.tree) × ArePlaces old.tree after.places
  call_keeps (Feed piece) old new before after warned formed (is, goes) held = (
    ap (λ (r : ReaderState). r.tree) is,
    feed_keeps old.tree old.prefix old.name piece old.position new.position before after warned 65536 (omega arith) formed
        (subst HasNoLf (sym (ap (λ (r : ReaderState). r.position.pending) is)) (waiting_no_lf (old.position.pending ++ piece))) goes held,
  )
  call_keeps Finish old new before after warned formed (is, ends) held =
      (ap (λ (r : ReaderState). r.tree) is, end_keeps old.tree old.prefix old.name old.position before after warned formed ends held)

  pub calls_keep : ReadingKeepsPlaces
  calls_keep [] old new before after warned formed (same, places, nothing) held = subst (λ (i : UserInput). ArePlaces old.tree i.places) (sym places) held
  calls_keep (call ∷ calls) old new before after warned formed (mid, middle, first, later, answers, run, joined) held =
      let (same, there_now) = call_keeps call old mid before middle first formed answers held in
      subst (λ t. ArePlaces t after.places) same
      (calls_keep calls mid new middle after later (subst IsWellFormed (sym same) formed) run (subst (λ t. ArePlaces t middle.places) (sym same) there_now))

  -- what reading streams leaves, from empty places
  pub streams_leave : EmptyArePlaces → StreamsLeavePlaces
  streams_leave empty tree prefix keeps_lines gone asks_unset lead streams formed =
      reading_keeps tree prefix formed setting selecting (lines_of streams) (record (no_input keeps_lines tree) { gone = gone; asks_unset = asks_unset; lead = lead }) (streams_lines streams) (empty tree)

  -- the lines before a refused one
  pub refusals_keep : RefusalsKeepPlaces
  refusals_keep tree prefix name fault piece old new before after told told_after formed refuses held =
      feed_keeps tree prefix name refuses.done old new before after refuses.warned 65536 (omega arith) formed
      (subst HasNoLf (sym (ap (λ (s : StreamPosition). s.pending) refuses.stands)) (waiting_no_lf (old.pending ++ refuses.done))) refuses.goes held
