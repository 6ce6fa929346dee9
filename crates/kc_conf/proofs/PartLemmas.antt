-- What was read and told of a stream up to a place of it.
use Rattle.std.proofs.Common.{◌≡◌, inl, inr, ℕ, zero, suc, ◌<◌, ◌≤◌, Bool, true, false, List, [], ◌∷◌, ◌++◌, length, codes, refl, sym, ap, subst, ◌∙◌, append_assoc, append-nil, length-append, arith, cond, Option, Some, None}
use Rattle.std.specs.Prelude.{◌==◌, filter, find, not, slice_index_or, take, if◌then◌else◌, option_map}
use Rattle.std.specs.List.{All, enumerate_from, flat_map, onto_first, slice_split}
use Rattle.std.proofs.lemmas.Bool.{cases_Bool, le-leb, lt-leb}
use Rattle.std.proofs.lemmas.Grind.{flat_map-append}
use Rattle.std.proofs.lemmas.List.Elements.{All-nil, All-cons, All-append}
use Rattle.std.proofs.lemmas.List.Splits.{slice_split_at, slice_split_none, slice_split-cons_no, slice_split-cons_yes}
use Rattle.std.proofs.lemmas.List.Sums.{take_while-cons}
use Rattle.kc_text.specs.PartsOfText.{one_more}
use Rattle.kc_language.specs.Lines.{is_line_feed}
use Rattle.kc_text.specs.PartsOfLines.{HoldsNoLineFeed}
use Rattle.kc_language.specs.Symbols.{TreeFacts, Warning, located_warning}
use Rattle.kc_language.specs.declared.expressions.SymbolType.{SymbolType}
use Rattle.kc_language.specs.Values.{GivenValue, SymbolPlace, same_given, name as name_of}
use Rattle.kc_language.specs.ConfigFile.{Notation, place_at, plain_line, StreamLocation, change_text, value_text, Effect, Silent, Warns, Assigns, located_warning_line, UserInput, Line, ReadResult, effect, effect_warning, is_within, lines_from, lines_in_stream, input_after, reading, stream_location, warning, warnings}
use Rattle.kc_input.specs.PartsOfConfigFile.{change_line}
use Rattle.kc_input.specs.PartsOfConfigFile.{type_of, before_too_long, effect_change, effect_text, last_line, line, warning_line_if}
use Rattle.kc_language.specs.declared.diagnostics.Warning.TheVariants.{Changed}
use Rattle.kc_input.specs.Feeding.{StreamPosition, stream_start, ReadsPiece}
use Rattle.kc_language.specs.Texts.{HasShortLines}
use Rattle.kc_input.specs.Reading.{with_warnings}
use Rattle.kc_outcome.specs.Outcome.{lines_text}
use Rattle.kc_conf.specs.Faults.{AreLines}
use Rattle.kc_conf.specs.PartsOfFaults.{ended_lines}

-- ---- whole lines

pub AreLines-nothing : AreLines []
AreLines-nothing = ([], refl)

pub AreLines-append : (a b : List ℕ) → AreLines a → AreLines b → AreLines (a ++ b)
AreLines-append a b (ls, is) (ms, is') =
    (ls ++ ms, ap (λ t. t ++ b) is ∙ ap (λ t. lines_text ls ++ t) is' ∙ sym (flat_map-append (λ line. line ++ codes "\n") ls ms))

-- texts of which each is whole lines
pub AreLines-each : {X : Type 0} (f : X → List ℕ) (xs : List X) → ((x : X) → AreLines (f x)) → AreLines (flat_map f xs)
AreLines-each f [] each = AreLines-nothing
AreLines-each f (x ∷ xs) each = AreLines-append (f x) (flat_map f xs) (each x) (AreLines-each f xs each)

pub AreLines-warning_if : (stream : List ℕ) (number : ℕ) (told : Option Warning) → AreLines (warning_line_if stream number told)
AreLines-warning_if stream number None = AreLines-nothing
AreLines-warning_if stream number (Some told) =
    (located_warning stream number told ∷ [], sym (append-nil (located_warning_line stream number told)))

AreLines-change : (is_raw : Bool) (at : StreamLocation) (name : List ℕ) (symbol_type : SymbolType) (old : Option GivenValue) (from : Option StreamLocation) (given : GivenValue) →
    AreLines (change_text is_raw at name symbol_type old from given)
AreLines-change is_raw at name symbol_type None from given = AreLines-nothing
AreLines-change is_raw at name symbol_type (Some old) None given = AreLines-nothing
AreLines-change is_raw at name symbol_type (Some old) (Some from) given = by (same_given old given)
  where
    front : List ℕ
    front = located_warning at.stream at.number (Changed name (value_text is_raw symbol_type old) from.stream from.number (value_text is_raw symbol_type given))

    whole : change_line is_raw at name symbol_type old from given ≡ (front ++ codes "\n") ++ []
    whole = sym (append-nil (front ++ codes "\n"))

    by : (b : Bool) → AreLines (if b then [] else change_line is_raw at name symbol_type old from given)
    by true = AreLines-nothing
    by false = (front ∷ [], whole)

AreLines-effect : (is_raw : Bool) (tree : TreeFacts) (input : UserInput) (at : StreamLocation) (e : Effect) → AreLines (effect_text is_raw tree input at e)
AreLines-effect is_raw tree input at e =
    AreLines-append (warning_line_if at.stream at.number (effect_warning input.asks_unset tree input.places e)) (effect_change is_raw tree input at e)
    (AreLines-warning_if at.stream at.number (effect_warning input.asks_unset tree input.places e)) (changed e)
  where
    changed : (e : Effect) → AreLines (effect_change is_raw tree input at e)
    changed Silent = AreLines-nothing
    changed (Warns line_warning) = AreLines-nothing
    changed (Assigns s given) = AreLines-change is_raw at (name_of tree s) (type_of tree s) (place_at input.places (SymbolPlace s.0)) (plain_line input input.lines s) given

-- a line that is too long, behind the others, does not count
counted-long_end : (lines : List Line) (l : Line) → is_within l ≡ false → before_too_long (lines ++ l ∷ []) ≡ before_too_long lines
counted-long_end [] l long = take_while-cons is_within l [] ∙ ap (λ b. cond b (l ∷ []) []) long
counted-long_end (m ∷ lines) l long =
    take_while-cons is_within m (lines ++ l ∷ [])
    ∙ ap (λ ls. cond (is_within m) (m ∷ ls) []) (counted-long_end lines l long)
    ∙ sym (take_while-cons is_within m lines)

module _ (tree : TreeFacts) (prefix : Notation) where
  AreLines-warning : (input : UserInput) (l : Line) → AreLines (warning tree prefix input l)
  unfolding warning
  AreLines-warning input l = AreLines-effect prefix.is_raw tree input (stream_location l) (effect tree prefix l)

  -- what lines warn of is whole lines
  pub AreLines-warnings : (lines : List Line) (places : UserInput) → AreLines (warnings tree prefix places lines)
  unfolding warnings
  AreLines-warnings lines places = AreLines-each _ (enumerate_from 0 lines) (λ x. AreLines-warning (input_after tree prefix places (take x.0 lines)) x.1)

  -- and so is what a reading warns of
  pub AreLines-reading : (lines : List Line) (places : UserInput) → AreLines (reading tree prefix places lines).warned
  unfolding reading
  AreLines-reading lines places = AreLines-warnings (before_too_long lines) places

  -- no line warns of nothing
  warned-none : (places : UserInput) → (reading tree prefix places []).warned ≡ []
  unfolding reading warnings
  warned-none places = refl

  -- a line that is too long, behind the others, warns of nothing
  warned-long_end : (lines : List Line) (places : UserInput) (l : Line) → is_within l ≡ false → (reading tree prefix places (lines ++ l ∷ [])).warned ≡ (reading tree prefix places lines).warned
  unfolding reading
  warned-long_end lines places l long = ap (warnings tree prefix places) (counted-long_end lines l long)

-- ---- the lines of bytes

-- there is a first part
first_part : (bytes : List ℕ) → (part : List ℕ) × (parts : List (List ℕ)) × (slice_split is_line_feed bytes ≡ part ∷ parts)
first_part [] = ([], [], refl)
first_part (b ∷ bytes) = elim (cases_Bool (is_line_feed b)) [
  | inl e ↦ ([], slice_split is_line_feed bytes, slice_split-cons_yes is_line_feed b bytes e)
  | inr e ↦
      let (part, parts, is) = first_part bytes in
      (b ∷ part, parts, slice_split-cons_no is_line_feed b bytes e ∙ ap (onto_first b) is)
]

-- a line feed ends the line, and the next line follows
lines_from-lf : (stream : List ℕ) (n : ℕ) (bytes : List ℕ) (b : ℕ) (rest : List ℕ) → HoldsNoLineFeed bytes → is_line_feed b ≡ true →
    lines_from stream n (bytes ++ b ∷ rest) ≡ line stream n bytes true ∷ lines_from stream (one_more n) rest
unfolding lines_from
lines_from-lf stream n bytes b rest one ends =
    let (part, parts, is) = first_part rest in
    rw (slice_split_at is_line_feed bytes b rest one ends, is) refl

-- without one the bytes are the last line
pub lines_from-last : (stream : List ℕ) (n : ℕ) (bytes : List ℕ) → HoldsNoLineFeed bytes → lines_from stream n bytes ≡ last_line stream n bytes
unfolding lines_from
lines_from-last stream n bytes one = rw (slice_split_none is_line_feed bytes one) refl

-- ---- the lines that have ended

-- so many bytes that hold no line feed
tail_of : (n : ℕ) → (tail : List ℕ) × HoldsNoLineFeed tail × (length tail ≡ n)
tail_of zero = ([], All-nil (λ b. is_line_feed b ≡ false), refl)
tail_of (suc n) =
    let (tail, one, long) = tail_of n in
    (120 ∷ tail, All-cons (λ b. is_line_feed b ≡ false) 120 tail refl one, ap suc long)

last_ended : (name : List ℕ) (n : ℕ) (bytes : List ℕ) → filter (λ (l : Line). l.ended) (last_line name n bytes) ≡ []
last_ended name n bytes = by (length bytes == 0)
  where
    by : (b : Bool) → filter (λ (l : Line). l.ended) (if b then [] else line name n bytes false ∷ []) ≡ []
    by true = refl
    by false = refl

last_some : (name : List ℕ) (n : ℕ) (bytes : List ℕ) → 0 < length bytes → last_line name n bytes ≡ line name n bytes false ∷ []
last_some name n [] some = absurd (omega arith)
last_some name n (b ∷ bytes) some =
    let e : (length (b ∷ bytes) == 0) ≡ false = grind arith in
    ap (λ t. if t then [] else line name n (b ∷ bytes) false ∷ []) e

module _ (name tail : List ℕ) (one : HoldsNoLineFeed tail) (some : 0 < length tail) where
  -- behind bytes the lines that have ended are followed by one line, which ends with the tail
  ended_before : (bytes front : List ℕ) (n : ℕ) → HoldsNoLineFeed front →
      (l : Line) × (lines_from name n ((front ++ bytes) ++ tail) ≡ filter (λ (m : Line). m.ended) (lines_from name n (front ++ bytes)) ++ l ∷ []) × (length tail ≤ length l.bytes)
  ended_before [] front n waits =
      let whole : lines_from name n ((front ++ []) ++ tail) ≡ line name n (front ++ tail) false ∷ [] =
      ap (λ t. lines_from name n (t ++ tail)) (append-nil front) ∙ lines_from-last name n (front ++ tail) (All-append (λ b. is_line_feed b ≡ false) front tail waits one)
      ∙ last_some name n (front ++ tail) (omega (arith, length-append front tail)) in
      let none : filter (λ (m : Line). m.ended) (lines_from name n (front ++ [])) ≡ [] =
      ap (λ t. filter (λ (m : Line). m.ended) (lines_from name n t)) (append-nil front)
      ∙ ap (filter (λ (m : Line). m.ended)) (lines_from-last name n front waits) ∙ last_ended name n front in (
        line name n (front ++ tail) false,
        whole ∙ ap (λ ls. ls ++ line name n (front ++ tail) false ∷ []) (sym none),
        omega (arith, length-append front tail),
      )
  ended_before (b ∷ bytes) front n waits = elim (cases_Bool (is_line_feed b)) [
    | inl e ↦
        let (l, is, most) = ended_before bytes [] (one_more n) (All-nil (λ x. is_line_feed x ≡ false)) in
        let whole : lines_from name n ((front ++ b ∷ bytes) ++ tail) ≡ line name n front true ∷ lines_from name (one_more n) (bytes ++ tail) =
        ap (lines_from name n) (append_assoc front (b ∷ bytes) tail) ∙ lines_from-lf name n front b (bytes ++ tail) waits e in
        let part : filter (λ (m : Line). m.ended) (lines_from name n (front ++ b ∷ bytes)) ≡ line name n front true ∷ filter (λ (m : Line). m.ended) (lines_from name (one_more n) bytes) =
        ap (filter (λ (m : Line). m.ended)) (lines_from-lf name n front b bytes waits e) in
        (l, whole ∙ ap (λ ls. line name n front true ∷ ls) is ∙ ap (λ ls. ls ++ l ∷ []) (sym part), most)
    | inr e ↦
        let more : HoldsNoLineFeed (front ++ b ∷ []) =
        All-append (λ x. is_line_feed x ≡ false) front (b ∷ []) waits (All-cons (λ x. is_line_feed x ≡ false) b [] e (All-nil (λ x. is_line_feed x ≡ false))) in
        let (l, is, most) = ended_before bytes (front ++ b ∷ []) n more in
        let same : (front ++ b ∷ []) ++ bytes ≡ front ++ b ∷ bytes = append_assoc front (b ∷ []) bytes in (
          l,
          ap (λ t. lines_from name n (t ++ tail)) (sym same) ∙ is ∙ ap (λ t. filter (λ (m : Line). m.ended) (lines_from name n t) ++ l ∷ []) same,
          most,
        )
  ]

module _ (tree : TreeFacts) (prefix : Notation) (name : List ℕ) where
  -- what was told of these bytes is what their lines warn of that have ended
  pub warned-ended : (bytes : List ℕ) (new : StreamPosition) (before after : UserInput) (warned : List ℕ) → HoldsNoLineFeed new.pending →
      ReadsPiece tree prefix name bytes stream_start new before after warned → warned ≡ (reading tree prefix before (ended_lines name bytes)).warned
  warned-ended bytes new before after warned one goes =
      let (tail, none, long) = tail_of 65536 in
      let (l, split, most) = ended_before name tail none (omega (arith, long)) bytes [] 1 (All-nil (λ b. is_line_feed b ≡ false)) in
      let last = line name new.number (new.pending ++ tail) false in
      let l_long : is_within l ≡ false = lt-leb (length l.bytes) 65535 (omega (arith, long, most)) in
      let last_long : is_within last ≡ false = lt-leb (length (new.pending ++ tail)) 65535 (omega (arith, long, length-append new.pending tail)) in
      let left : (reading tree prefix before (lines_from name 1 (bytes ++ tail) ++ [])).warned ≡ (reading tree prefix before (ended_lines name bytes)).warned =
      ap (λ ls. (reading tree prefix before ls).warned) (append-nil (lines_from name 1 (bytes ++ tail)) ∙ split)
      ∙ warned-long_end tree prefix (ended_lines name bytes) before l l_long in
      let lines : lines_from name new.number (new.pending ++ tail) ++ [] ≡ last ∷ [] =
      append-nil (lines_from name new.number (new.pending ++ tail))
      ∙ lines_from-last name new.number (new.pending ++ tail) (All-append (λ b. is_line_feed b ≡ false) new.pending tail one none)
      ∙ last_some name new.number (new.pending ++ tail) (omega (arith, long, length-append new.pending tail)) in
      let right : warned ++ (reading tree prefix after (lines_from name new.number (new.pending ++ tail) ++ [])).warned ≡ warned =
      ap (λ ls. warned ++ (reading tree prefix after ls).warned) lines
      ∙ ap (λ w. warned ++ w) (warned-long_end tree prefix [] after last last_long ∙ warned-none tree prefix after) ∙ append-nil warned in
      sym right ∙ sym (ap (λ (r : ReadResult). r.warned) (goes tail [])) ∙ left

-- ---- short lines

abbrev AreShort : List Line → Type 0
AreShort [] = Unit {0}
AreShort (l ∷ lines) = (is_within l ≡ true) × AreShort lines

AreShort-all : (lines : List Line) → AreShort lines → All (λ l. is_within l ≡ true) lines
AreShort-all [] short = All-nil (λ l. is_within l ≡ true)
AreShort-all (l ∷ lines) short = All-cons (λ m. is_within m ≡ true) l lines short.0 (AreShort-all lines short.1)

-- the name of a stream makes no line of it longer
short_last : (a b : List ℕ) (n : ℕ) (part : List ℕ) → AreShort (last_line a n part) → AreShort (last_line b n part)
short_last a b n part = by (length part == 0)
  where
    by : (e : Bool) → AreShort (if e then [] else line a n part false ∷ []) → AreShort (if e then [] else line b n part false ∷ [])
    by true short = tt
    by false short = short

short_parts : (a b : List ℕ) (n : ℕ) (parts : List (List ℕ)) → AreShort (lines_in_stream a n parts) → AreShort (lines_in_stream b n parts)
short_parts a b n [] short = tt
short_parts a b n (part ∷ []) short = short_last a b n part short
short_parts a b n (part ∷ next ∷ parts) short = (short.0, short_parts a b (one_more n) (next ∷ parts) short.1)

short_lines : (a b : List ℕ) (n : ℕ) (bytes : List ℕ) → AreShort (lines_from a n bytes) → AreShort (lines_from b n bytes)
unfolding lines_from
short_lines a b n bytes = short_parts a b n (slice_split is_line_feed bytes)

-- where no line is found that is too long, none is
short-none_found : (lines : List Line) → option_map stream_location (find (λ l. not (is_within l)) lines) ≡ None → AreShort lines
short-none_found [] none = tt
short-none_found (l ∷ lines) none = by (is_within l) refl (short-none_found lines)
  where
    by : (b : Bool) → is_within l ≡ b → (option_map stream_location (find (λ m. not (is_within m)) lines) ≡ None → AreShort lines) → AreShort (l ∷ lines)
    by true e others = (e, others (rw e at none))
    by false e others = absurd (let stops : Some (stream_location l) ≡ None = rw e at none in cc)

-- where none is too long, none is found
short-not_found : (lines : List Line) → All (λ l. is_within l ≡ true) lines → option_map stream_location (find (λ l. not (is_within l)) lines) ≡ None
short-not_found [] short = refl
short-not_found (l ∷ lines) short =
    let first : is_within l ≡ true = short 0 l (omega arith) in
    rw first (short-not_found lines (λ i d within. short (suc i) d (omega (arith, within))))

module _ (tree : TreeFacts) (prefix : Notation) where
  -- lines of which none is too long stop no reading
  unstopped-short : (lines : List Line) (places : UserInput) → All (λ l. is_within l ≡ true) lines → (reading tree prefix places lines).stopped ≡ None
  unfolding reading
  unstopped-short lines places = short-not_found lines

  -- a reading that does not stop met no line that is too long
  short-unstopped : (lines : List Line) (places : UserInput) → (reading tree prefix places lines).stopped ≡ None → AreShort lines
  unfolding reading
  short-unstopped lines places = short-none_found lines

  -- no line stops nothing, nor does one that is not too long
  unstopped-none : (places : UserInput) → (reading tree prefix places []).stopped ≡ None
  unfolding reading
  unstopped-none places = refl

  unstopped-one : (places : UserInput) (l : Line) → is_within l ≡ true → (reading tree prefix places (l ∷ [])).stopped ≡ None
  unfolding reading
  unstopped-one places l short = rw short refl

  -- a line that waits, and is not too long, stops nothing
  unstopped-last : (name : List ℕ) (n : ℕ) (pending : List ℕ) (places : UserInput) → HoldsNoLineFeed pending → length pending ≤ 65535 →
      (reading tree prefix places (lines_from name n (pending ++ []) ++ [])).stopped ≡ None
  unstopped-last name n pending places one few =
      ap (λ ls. (reading tree prefix places ls).stopped)
      (append-nil (lines_from name n (pending ++ [])) ∙ ap (lines_from name n) (append-nil pending) ∙ lines_from-last name n pending one)
      ∙ by (length pending == 0)
    where
      by : (e : Bool) → (reading tree prefix places (if e then [] else line name n pending false ∷ [])).stopped ≡ None
      by true = unstopped-none places
      by false = unstopped-one places (line name n pending false) (le-leb (length pending) 65535 few)

  -- no line is too long of bytes that were taken and wait
  pub short-piece : (name bytes : List ℕ) (new : StreamPosition) (before after : UserInput) (warned : List ℕ) → HoldsNoLineFeed new.pending → length new.pending ≤ 65535 →
      ReadsPiece tree prefix name bytes stream_start new before after warned → HasShortLines bytes
  short-piece name bytes new before after warned one few goes other =
      let lines : lines_from name 1 (bytes ++ []) ++ [] ≡ lines_from name 1 bytes =
      append-nil (lines_from name 1 (bytes ++ [])) ∙ ap (lines_from name 1) (append-nil bytes) in
      let none : (reading tree prefix before (lines_from name 1 bytes)).stopped ≡ None =
      ap (λ ls. (reading tree prefix before ls).stopped) (sym lines) ∙ ap (λ (r : ReadResult). r.stopped) (goes [] [])
      ∙ unstopped-last name new.number new.pending after one few in
      AreShort-all (lines_from other 1 bytes) (short_lines name other 1 bytes (short-unstopped (lines_from name 1 bytes) before none))

  -- nor of a stream that was read to its end
  pub short-stream : (name bytes : List ℕ) (before after : UserInput) (warned : List ℕ) →
      ((more : List Line) → reading tree prefix before (lines_from name 1 bytes ++ more) ≡ with_warnings warned (reading tree prefix after more)) → HasShortLines bytes
  short-stream name bytes before after warned reads other =
      let none : (reading tree prefix before (lines_from name 1 bytes)).stopped ≡ None =
      ap (λ ls. (reading tree prefix before ls).stopped) (sym (append-nil (lines_from name 1 bytes))) ∙ ap (λ (r : ReadResult). r.stopped) (reads [])
      ∙ unstopped-none after in
      AreShort-all (lines_from other 1 bytes) (short_lines name other 1 bytes (short-unstopped (lines_from name 1 bytes) before none))

  -- but some line of a stream at which the reading stops is too long
  pub long-stream : (name bytes : List ℕ) (before : UserInput) (stop : StreamLocation) →
      ((more : List Line) → (reading tree prefix before (lines_from name 1 bytes ++ more)).stopped ≡ Some stop) → HasShortLines bytes → ⊥
  long-stream name bytes before stop stops short =
      let lines = lines_from name 1 bytes in
      let clash : Some stop ≡ None =
      sym (stops []) ∙ ap (λ ls. (reading tree prefix before ls).stopped) (append-nil lines) ∙ unstopped-short lines before (short name) in
      cc
