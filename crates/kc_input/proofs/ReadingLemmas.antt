-- Reading line by line.
use Rattle.std.proofs.{Common.{Bool, List, None, Option, Some, [], ap, append-nil, append_assoc, false, length, not, refl, sym, true, ℕ, ◌++◌, ◌∙◌, ◌∷◌, ◌≡◌}, Math.Dec.eqb-suc-zero, lemmas.List.{Concat.flat_map-append, Elements.filter_map-append, Sums.take_while-cons}}
use Rattle.std.specs.{List.{filter_map, last_or}, Prelude.{find, option_map, ◌&&◌, ◌==◌}}
use Rattle.kc_language.specs.{ConfigFile.{Line, LineMeaning, Notation, Places, ReadResult, RefusedLine, StreamLocation, UserInput, effect, gone_after, gone_text, input_after, is_on, is_within, lines_after, not_allowed, places_after, reading, refused_after, stream_location, untaken, untaken_line, warning, warnings}, Symbols.TreeFacts}
use Rattle.kc_input.specs.{PartsOfConfigFile.{assignments, before_too_long, line_for, refused_for, refused_line}, Reading.with_warnings}
use Rattle.kc_input.proofs.{InTurnLemmas.{told-append, told-cons}, PlaceLemmas.{each_last, each_same, length-each_from, places_given-append, places_given-nothing}}

abbrev read_to : UserInput → List ℕ → Option StreamLocation → ReadResult
read_to input warned stopped = record { input = input; warned = warned; stopped = stopped }

no_lines_left : (a b : List Line) → (length (a ++ b) == 0) ≡ ((length a == 0) && (length b == 0))
no_lines_left [] b = refl
no_lines_left (l ∷ a) b =
    let left : (length (l ∷ a) == 0) ≡ false = eqb-suc-zero (length a) in
    eqb-suc-zero (length (a ++ b)) ∙ sym (ap (λ c. c && (length b == 0)) left)

and_assoc : (a b c : Bool) → (a && (b && c)) ≡ ((a && b) && c)
and_assoc true b c = refl
and_assoc false b c = refl

and_true : (b : Bool) → (b && true) ≡ b
and_true true = refl
and_true false = refl

module _ (tree : TreeFacts) (prefix : Notation) where
  pub places_after-append : (places : Places) (a b : List Line) → places_after tree prefix places (a ++ b) ≡ places_after tree prefix (places_after tree prefix places a) b
  places_after-append places a b =
      rw filter_map-append (places_given-append tree places (assignments tree prefix a) (assignments tree prefix b))

  pub places_after-nothing : (places : Places) → places_after tree prefix places [] ≡ places
  places_after-nothing places = places_given-nothing tree places

  untaken-nothing : (asked : Bool) (places : Places) → untaken tree prefix asked places [] ≡ []
  unfolding untaken
  untaken-nothing asked places = refl

  pub untaken-cons : (asked : Bool) (places : Places) (l : Line) (lines : List Line) →
      untaken tree prefix asked places (l ∷ lines) ≡ untaken_line tree prefix asked places l ++ untaken tree prefix asked (places_after tree prefix places (l ∷ [])) lines
  unfolding untaken
  untaken-cons asked places l lines = told-cons (places_after tree prefix) places_after-nothing places_after-append (untaken_line tree prefix asked) places l lines

  pub untaken-append : (asked : Bool) (places : Places) (a b : List Line) →
      untaken tree prefix asked places (a ++ b) ≡ untaken tree prefix asked places a ++ untaken tree prefix asked (places_after tree prefix places a) b
  unfolding untaken
  untaken-append asked places a b = told-append (places_after tree prefix) places_after-nothing places_after-append (untaken_line tree prefix asked) places a b

  lines_after-nothing : (old : List (Option StreamLocation)) → lines_after tree prefix old [] ≡ old
  unfolding lines_after
  lines_after-nothing old = each_same 0 old

  lines_after-append : (old : List (Option StreamLocation)) (a b : List Line) → lines_after tree prefix old (a ++ b) ≡ lines_after tree prefix (lines_after tree prefix old a) b
  unfolding lines_after
  lines_after-append old a b = each_last (λ i l. line_for i (stream_location l) (effect tree prefix l)) a b old

  pub lines_after-length : (old : List (Option StreamLocation)) (lines : List Line) → length (lines_after tree prefix old lines) ≡ length old
  unfolding lines_after
  lines_after-length old lines = length-each_from (λ i last. last_or last (filter_map (λ l. line_for i (stream_location l) (effect tree prefix l)) lines)) 0 old

  -- the lines whose values were not allowed
  refused_after-nothing : (old : List (Option RefusedLine)) → refused_after tree prefix old [] ≡ old
  unfolding refused_after
  refused_after-nothing old = each_same 0 old

  refused_after-append : (old : List (Option RefusedLine)) (a b : List Line) → refused_after tree prefix old (a ++ b) ≡ refused_after tree prefix (refused_after tree prefix old a) b
  unfolding refused_after
  refused_after-append old a b = each_last (λ i l. refused_for i (refused_line tree prefix l) (not_allowed tree (effect tree prefix l))) a b old

  pub refused_after-length : (old : List (Option RefusedLine)) (lines : List Line) → length (refused_after tree prefix old lines) ≡ length old
  unfolding refused_after
  refused_after-length old lines =
      length-each_from (λ i last. last_or last (filter_map (λ l. refused_for i (refused_line tree prefix l) (not_allowed tree (effect tree prefix l))) lines)) 0 old

  -- the gone lines
  gone_after-nothing : (old : Option (List ℕ × List ℕ)) → gone_after tree prefix old [] ≡ old
  unfolding gone_after
  gone_after-nothing None = refl
  gone_after-nothing (Some told) = λ i. Some (append-nil told.0 i, append-nil told.1 i)

  gone_text-more : (is_kind : LineMeaning → Bool) (told : List ℕ) (a b : List Line) →
      told ++ gone_text tree prefix is_kind (a ++ b) ≡ (told ++ gone_text tree prefix is_kind a) ++ gone_text tree prefix is_kind b
  gone_text-more is_kind told a b =
      ap (λ t. told ++ t) (flat_map-append _ a b) ∙ sym (append_assoc told (gone_text tree prefix is_kind a) (gone_text tree prefix is_kind b))

  gone_after-append : (old : Option (List ℕ × List ℕ)) (a b : List Line) → gone_after tree prefix old (a ++ b) ≡ gone_after tree prefix (gone_after tree prefix old a) b
  unfolding gone_after
  gone_after-append None a b = refl
  gone_after-append (Some told) a b = λ i. Some (gone_text-more is_on told.0 a b i, gone_text-more (λ m. not (is_on m)) told.1 a b i)

  -- the input that some lines leave is the input before the others
  pub input_after-append : (input : UserInput) (a b : List Line) → input_after tree prefix input (a ++ b) ≡ input_after tree prefix (input_after tree prefix input a) b
  input_after-append input a b =
      let left = untaken tree prefix input.asks_unset input.places a in
      let right = untaken tree prefix input.asks_unset (places_after tree prefix input.places a) b in
      rw (places_after-append input.places a b, lines_after-append input.lines a b, refused_after-append input.refused a b, gone_after-append input.gone a b, untaken-append input.asks_unset input.places a b, no_lines_left left right, and_assoc input.all_taken (length left == 0) (length right == 0)) refl

  pub input_after-nothing : (input : UserInput) → input_after tree prefix input [] ≡ input
  input_after-nothing input =
      rw (places_after-nothing input.places, lines_after-nothing input.lines, refused_after-nothing input.refused, gone_after-nothing input.gone, untaken-nothing input.asks_unset input.places, and_true input.all_taken) refl

  -- a line's warning, and then those of the others from the input after it
  pub warnings-cons : (input : UserInput) (l : Line) (lines : List Line) →
      warnings tree prefix input (l ∷ lines) ≡ warning tree prefix input l ++ warnings tree prefix (input_after tree prefix input (l ∷ [])) lines
  unfolding warnings
  warnings-cons input l lines = told-cons (input_after tree prefix) input_after-nothing input_after-append (warning tree prefix) input l lines

  pub warnings-nothing : (input : UserInput) → warnings tree prefix input [] ≡ []
  unfolding warnings
  warnings-nothing input = refl

  -- the warnings of some lines, and then those of others from the input after them
  pub warnings-append : (input : UserInput) (a b : List Line) →
      warnings tree prefix input (a ++ b) ≡ warnings tree prefix input a ++ warnings tree prefix (input_after tree prefix input a) b
  unfolding warnings
  warnings-append input a b = told-append (input_after tree prefix) input_after-nothing input_after-append (warning tree prefix) input a b

  -- a line that is not too long, and then the others from the places after it
  pub reading_within : (input : UserInput) (l : Line) (lines : List Line) → is_within l ≡ true →
      reading tree prefix input (l ∷ lines) ≡ with_warnings (warning tree prefix input l) (reading tree prefix (input_after tree prefix input (l ∷ [])) lines)
  unfolding reading
  reading_within input l lines short =
      let front : before_too_long (l ∷ lines) ≡ l ∷ before_too_long lines = take_while-cons is_within l lines ∙ rw short refl in
      let kept = before_too_long lines in
      let stop = option_map stream_location (find (λ l. not (is_within l)) lines) in
      let found : option_map stream_location (find (λ l. not (is_within l)) (l ∷ lines)) ≡ stop = rw short refl in
      rw (front, found)
      (ap (λ (after : UserInput). read_to after (warnings tree prefix input (l ∷ kept)) stop) (input_after-append input (l ∷ []) kept)
      ∙ ap (λ text. read_to (input_after tree prefix (input_after tree prefix input (l ∷ [])) kept) text stop) (warnings-cons input l kept))

  -- a line that is too long ends it
  pub reading_long : (input : UserInput) (l : Line) (lines : List Line) → is_within l ≡ false →
      reading tree prefix input (l ∷ lines) ≡ record { input = input; warned = []; stopped = Some (stream_location l) }
  unfolding reading
  reading_long input l lines long =
      let front : before_too_long (l ∷ lines) ≡ [] = take_while-cons is_within l lines ∙ rw long refl in
      let found : option_map stream_location (find (λ l. not (is_within l)) (l ∷ lines)) ≡ Some (stream_location l) = rw long refl in
      rw (front, found) (ended_here input (Some (stream_location l)))
    where
      ended_here : (input : UserInput) (stop : Option StreamLocation) →
          read_to (input_after tree prefix input []) (warnings tree prefix input []) stop ≡ read_to input [] stop
      ended_here input stop = ap (λ w. read_to (input_after tree prefix input []) w stop) (warnings-nothing input) ∙ ap (λ (after : UserInput). read_to after [] stop) (input_after-nothing input)

  pub reading-nothing : (input : UserInput) → reading tree prefix input [] ≡ record { input = input; warned = []; stopped = None }
  unfolding reading
  reading-nothing input =
      ap (λ w. read_to (input_after tree prefix input []) w None) (warnings-nothing input) ∙ ap (λ (after : UserInput). read_to after [] None) (input_after-nothing input)

pub with_warnings-with_warnings : (a b : List ℕ) (read : ReadResult) → with_warnings a (with_warnings b read) ≡ with_warnings (a ++ b) read
with_warnings-with_warnings a b read = rw append_assoc refl
