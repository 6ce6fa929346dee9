-- What the text of a fragment gives, alone and after the input files.
use Rattle.std.proofs.{Common.{Bool, Err, List, None, Ok, Option, Result, Some, [], ap, arith, false, length, refl, replicate, subst, suc, sym, true, zero, ℕ, ◌++◌, ◌+◌, ◌∙◌, ◌∷◌, ◌≡◌}, lemmas.List.{append-nil}}
use Rattle.std.specs.{List.{filter_map, last_or}, Option.option_or, Prelude.{drop, is_some, not, take, take_while}, declared.{alloc.Global.Global, vec.Vec.Vec}}
use Rattle.kc_language.specs.{ConfigFile.{ArePlacesOf, Assignment, Notation, Places, ReadResult, Stream, StreamLocation, UserInput, each_from, is_within, lines_from, lines_of, no_input, place_at, places_given, reading, reading_of}, Symbols.TreeFacts, Texts.{IsSolutionFor, Solution, read_alone}, Values.SymbolPlace}
use Rattle.kc_user.specs.PartsOfConfigFile.{no_places}
use Rattle.kc_user.proofs.PlacesLemmas.{empty_are}
use Rattle.kc_input.specs.{Feeding.{EndsStream, ReadsPiece, Refuses, StreamPosition, ended, fed, stream_start}, PartsOfConfigFile.{assignments, chosen_in, given_to}, ReaderCalls.{AnswersEnd, AnswersFeed}, ReaderState.ReaderState, Reading.with_warnings, declared.fault.InputFault.{InputFault, TheVariants.{InputLineTooLong}}}
use Rattle.kc_input.proofs.{PlaceLemmas.{ArePlacesOf-given}, ReadingLemmas.{reading-nothing}}
use Rattle.kc_how.specs.{Fragments.{HasValues, IsRead, NeedsEach, with_text}, How.{IsFix, fragment_text, reaches}, Merged.{laid_over, merged_places}, Questions.goal_of, declared.{fix.Alone.Alone, question.Question.Question}}

module _ {A : Type 0} where
  stays : (y : A) (ys : List A) (x : Option A) → last_or (Some y) ys ≡ option_or (last_or (Some y) ys) x
  stays y [] x = refl
  stays y (z ∷ zs) x = stays z zs x

  either : (x : Option A) (ys : List A) → last_or x ys ≡ option_or (last_or None ys) x
  either x [] = refl
  either x (y ∷ ys) = stays y ys x

  -- what lines give over old values is what they give alone, over these values
  each-over : (given : ℕ → List A) (n k : ℕ) (xs : List (Option A)) → length xs ≡ k →
      each_from (λ i old. last_or old (given i)) n xs ≡ laid_over xs (each_from (λ i old. last_or old (given i)) n (replicate k None))
  each-over given n k [] is = refl
  each-over given n zero (x ∷ xs) is = absurd (omega (arith, is))
  each-over given n (suc k) (x ∷ xs) is =
      ap (λ y. y ∷ each_from (λ i old. last_or old (given i)) (n + 1) xs) (either x (given n))
      ∙ ap (λ ys. option_or (last_or None (given n)) x ∷ ys) (each-over given (n + 1) k xs (omega (arith, is)))

given-over : (tree : TreeFacts) (places : Places) (given : List Assignment) → ArePlacesOf tree places →
    places_given tree places given ≡ merged_places places (places_given tree (no_places tree) given)
unfolding places_given
given-over tree places given fits =
    let symbols = each-over (λ i. filter_map (given_to i) given) 0 (length tree.symbols) places.symbols fits.symbols in
    let choices = each-over (λ c. filter_map (chosen_in tree c) given) 0 (length tree.choices) places.choices fits.choices in
    ap (λ xs. let p : Places = record { symbols = xs; choices = each_from (λ c old. last_or old (filter_map (chosen_in tree c) given)) 0 places.choices } in p) symbols
    ∙ ap (λ xs. let p : Places = record {
      symbols = laid_over places.symbols (each_from (λ i old. last_or old (filter_map (given_to i) given)) 0 (replicate (length tree.symbols) None));
      choices = xs;
    } in p) choices

module _ (tree : TreeFacts) (notation : Notation) (text : List ℕ) where
  abbrev stream : List Stream
  stream = record { name = []; bytes = text } ∷ []

  abbrev given : List Assignment
  given = assignments tree notation (take_while is_within (lines_of stream))

  places-read : (input : UserInput) → (reading_of tree notation input stream).input.places ≡ places_given tree input.places given
  unfolding reading
  places-read input = refl

  pub alone-are : ArePlacesOf tree (read_alone tree notation [] text).input.places
  alone-are = subst (ArePlacesOf tree) (sym (places-read (no_input false tree))) (ArePlacesOf-given tree (no_places tree) given (empty_are tree).there)

  pub merged-read : (input : UserInput) → ArePlacesOf tree input.places →
      merged_places input.places (read_alone tree notation [] text).input.places ≡ (reading_of tree notation input stream).input.places
  merged-read input fits =
      ap (merged_places input.places) (places-read (no_input false tree)) ∙ sym (given-over tree input.places given fits) ∙ sym (places-read input)

  abbrev Read : UserInput → List ℕ → Option StreamLocation → ReadResult
  Read input warned stopped = record { input = input; warned = warned; stopped = stopped }

  -- the text is read to its end
  pub read-whole : (before mid after : UserInput) (position : StreamPosition) (first last : List ℕ) →
      ReadsPiece tree notation [] text stream_start position before mid first → EndsStream tree notation [] position mid after last →
      reading_of tree notation before stream ≡ Read after (first ++ last) None
  read-whole before mid after position first last piece ends =
      ap (λ t. reading tree notation before (lines_from [] 1 t ++ [])) (sym (append-nil text)) ∙ piece [] []
      ∙ ap (λ t. with_warnings first (reading tree notation mid (lines_from [] position.number t ++ []))) (append-nil position.pending)
      ∙ ap (with_warnings first) (ends [])
      ∙ ap (λ r. with_warnings first (with_warnings last r)) (reading-nothing tree notation after)
      ∙ ap (λ w. Read after (first ++ w) None) (append-nil last)

  -- a line of it is too long
  pub read-part : (n : ℕ) (before after : UserInput) (position : StreamPosition) (told told_after : List ℕ) →
      Refuses tree notation [] (InputLineTooLong n) text stream_start position before after told told_after →
      (warned : List ℕ) × (told_after ≡ told ++ warned) × (reading_of tree notation before stream ≡ Read after warned (Some (record { stream = []; number = position.number })))
  read-part n before after position told told_after refuses = (
    refuses.warned,
    refuses.tells,
    ap (λ t. reading tree notation before (lines_from [] 1 t ++ [])) refuses.split ∙ refuses.goes refuses.left []
        ∙ ap (λ t. with_warnings refuses.warned (reading tree notation after (lines_from [] position.number (position.pending ++ t) ++ []))) (sym (append-nil refuses.left))
        ∙ ap (with_warnings refuses.warned) (refuses.because.3 [] [])
        ∙ ap (λ w. Read after w (Some (record { stream = []; number = position.number }))) (append-nil refuses.warned),
  )

pub is-read : (read : ReadResult) (alone : Alone) (warned : List ℕ) (stopped : Option StreamLocation) →
    read ≡ record { input = alone.input; warned = warned; stopped = stopped } → alone.warned.items ≡ warned → alone.is_whole ≡ not (is_some stopped) → IsRead read alone
is-read read alone warned stopped is tells whole = record {
  input = sym (ap (λ (r : ReadResult). r.input) is);
  warned = tells ∙ sym (ap (λ (r : ReadResult). r.warned) is);
  whole = whole ∙ sym (ap (λ (r : ReadResult). not (is_some r.stopped)) is);
}

-- A reader at the start of a text that is read alone.
module _ (tree : TreeFacts) (notation : Notation) (text : List ℕ) where
  abbrev begin : ReaderState
  begin = record { tree = tree; prefix = notation; name = []; position = stream_start; refusal = None }

  abbrev behind : ReaderState
  behind = record { tree = tree; prefix = notation; name = []; position = fed text stream_start; refusal = None }

  -- it met a line that is too long
  pub part-read : (n : ℕ) (result : Result (Unit {0}) InputFault) (start next : ReaderState) (before after : UserInput) (told : List ℕ) (told_after : Vec ℕ Global) →
      AnswersFeed text result start next before after told told_after.items →
      result ≡ Err (InputLineTooLong n) → start ≡ begin → before ≡ no_input false tree → told ≡ [] →
      IsRead (read_alone tree notation [] text) (record { input = after; warned = told_after; is_whole = false })
  part-read n result start next before after told told_after answers is_result is_start is_before is_told =
      let fails : AnswersFeed text (Err (InputLineTooLong n)) begin next (no_input false tree) after [] told_after.items = rw (is_result, is_start, is_before, is_told) at answers in
      let (warned, tells, is) = read-part tree notation text n (no_input false tree) after next.position [] told_after.items (fails.refused refl) in
      is-read (read_alone tree notation [] text) (record { input = after; warned = told_after; is_whole = false }) warned (Some (record { stream = []; number = next.position.number })) is tells refl

  -- it read all of it
  pub all-read : (start mid next : ReaderState) (before between after : UserInput) (told : List ℕ) (told_between told_after : Vec ℕ Global) →
      AnswersFeed text (Ok tt) start mid before between told told_between.items →
      AnswersEnd (record mid { position = ended mid.position }) (Ok tt) mid next between after told_between.items told_after.items →
      start ≡ begin → before ≡ no_input false tree → told ≡ [] →
      IsRead (read_alone tree notation [] text) (record { input = after; warned = told_after; is_whole = true })
  all-read start mid next before between after told told_between told_after answers_feed answers_end is_start is_before is_told =
      let feeds : AnswersFeed text (Ok tt) begin mid (no_input false tree) between [] told_between.items = rw (is_start, is_before, is_told) at answers_feed in
      let ends : AnswersEnd (record behind { position = ended behind.position }) (Ok tt) behind next between after told_between.items told_after.items = rw feeds.stands.1 at answers_end in
      let (first, tells_first, piece) = (rw feeds.stands.1 at feeds).ok in
      let (last, tells_last, finishes) = ends.ok in
      is-read (read_alone tree notation [] text) (record { input = after; warned = told_after; is_whole = true }) (first ++ last) None
      (read-whole tree notation text (no_input false tree) between after behind.position first last piece finishes) (tells_last ∙ ap (λ w. w ++ last) tells_first) refl

not-stopped : (o : Option StreamLocation) → true ≡ not (is_some o) → o ≡ None
not-stopped None e = refl
not-stopped (Some at) e = cc

-- all that is asked of a fix
pub fix-is : (q : Question) (lines : List (List ℕ)) (text : List ℕ) (alone : Alone) (after : Solution) → text ≡ fragment_text lines →
    IsRead (read_alone q.laid.now.tree.now q.prefix.now [] text) alone → alone.warned.items ≡ [] → alone.is_whole ≡ true →
    IsSolutionFor q.laid.now.tree.now (with_text q text) after → reaches (goal_of q.goal.now) q.before.now after ≡ true →
    HasValues alone.input.places after → NeedsEach q lines →
    IsFix q.laid.now.tree.now q.prefix.now q.input.now q.before.now (goal_of q.goal.now) lines
fix-is q lines text alone after is read-so quiet whole solves reached values needs =
    let read : IsRead (read_alone q.laid.now.tree.now q.prefix.now [] (fragment_text lines)) alone = subst (λ t. IsRead (read_alone q.laid.now.tree.now q.prefix.now [] t) alone) is read-so in
    record {
      quiet = sym read.warned ∙ quiet;
      whole = not-stopped _ (sym whole ∙ read.whole);
      ends = record { solution = after; is_solution = subst (λ t. IsSolutionFor q.laid.now.tree.now (with_text q t) after) is solves; reached = reached };
      taken = λ s given at. values s given (ap (λ (i : UserInput). place_at i.places (SymbolPlace s.0)) read.input ∙ at);
      needed = needs;
    }
