-- What the lines of a text give to the places, wherever it stands in a stream.
use Rattle.std.proofs.Common.{List, None, Option, [], ap, append-nil, append_assoc, arith, length, refl, suc, sym, true, ℕ, ◌++◌, ◌<◌, ◌∙◌, ◌∷◌, ◌≡◌, ◌≤◌}
use Rattle.std.specs.{List.{Contains, cons_option, flat_map}, Str.Lines.strip_carriage_return}
use Rattle.kc_language.specs.{ConfigFile.{Assignment, Line, Notation, Places, ReadResult, UserInput, effect, effect_of, input_after, lines_from, meaning_of, places_after, places_given, reading, warning}, Symbols.TreeFacts}
use Rattle.kc_input.specs.{PartsOfConfigFile.{assignment_of, line}, Reading.with_warnings}
use Rattle.kc_text.specs.PartsOfText.{one_more}
use Rattle.kc_input.proofs.{LineLemmas.{HasNoLf, is_within-line, lines_from-last, lines_from-lf}, PlaceLemmas.{places_given-append, places_given-nothing}, ReadingLemmas.{reading-nothing, reading_within, with_warnings-with_warnings}}

module _ (tree : TreeFacts) (prefix : Notation) (stream : List ℕ) where
  -- reading goes on from here, with these assignments made
  abbrev Goes : List Line → UserInput → List Assignment → List Line → Type 0
  Goes lines input given rest =
      (warned : List ℕ) × (after : UserInput) × (after.places ≡ places_given tree input.places given)
      × (reading tree prefix input lines ≡ with_warnings warned (reading tree prefix after rest))

  -- wherever the text stands, reading it makes these assignments and goes on behind it
  abbrev pub Gives : List ℕ → List Assignment → Type 0
  Gives text given =
      (n : ℕ) (rest : List ℕ) (input : UserInput) → (next : ℕ) × Goes (lines_from stream n (text ++ rest)) input given (lines_from stream next rest)

  pub gives_nothing : Gives [] []
  gives_nothing n rest input = (n, ([], input, sym (places_given-nothing tree input.places), refl))

  pub gives_append : (a b : List ℕ) (g h : List Assignment) → Gives a g → Gives b h → Gives (a ++ b) (g ++ h)
  gives_append a b g h first second n rest input =
      let (mid, (w, middle, made, is)) = first n (b ++ rest) input in
      let (next, (v, after, more, then_)) = second mid rest middle in
      let goes = ap (λ t. reading tree prefix input (lines_from stream n t)) (append_assoc a b rest) ∙ is ∙ ap (with_warnings w) then_
      ∙ with_warnings-with_warnings w v (reading tree prefix after (lines_from stream next rest)) in
      (next, (w ++ v, after, more ∙ ap (λ (p : Places). places_given tree p h) made ∙ sym (places_given-append tree input.places g h), goes))

  -- one line
  pub gives_line : (body : List ℕ) (o : Option Assignment) → HasNoLf body → length body ≤ 65535 →
      assignment_of (effect_of prefix.is_raw tree (meaning_of prefix.prefix (strip_carriage_return body))) ≡ o → Gives (body ++ 10 ∷ []) (cons_option o [])
  unfolding effect
  gives_line body o none short is n rest input =
      let l = line stream n body true in
      let e : (body ++ 10 ∷ []) ++ rest ≡ body ++ 10 ∷ rest = append_assoc body (10 ∷ []) rest in
      let after : places_after tree prefix input.places (l ∷ []) ≡ places_given tree input.places (cons_option o []) = ap (λ x. places_given tree input.places (cons_option x [])) is in
      let goes = ap (λ t. reading tree prefix input (lines_from stream n t)) e ∙ ap (reading tree prefix input) (lines_from-lf stream n body 10 rest none refl)
      ∙ reading_within tree prefix input l (lines_from stream (one_more n) rest) (is_within-line stream n body true short) in
      (one_more n, (warning tree prefix input l, input_after tree prefix input (l ∷ []), after, goes))

  -- one after another
  pub gives_all : {X : Type 0} (text : X → List ℕ) (given : X → List Assignment) (xs : List X) → ((x : X) → Contains xs x → Gives (text x) (given x)) → Gives (flat_map text xs) (flat_map given xs)
  gives_all text given [] each = gives_nothing
  gives_all text given (x ∷ xs) each =
      gives_append (text x) (flat_map text xs) (given x) (flat_map given xs) (each x (0, omega arith, refl))
      (gives_all text given xs (λ y (n, l, e). each y (suc n, omega arith, e)))

  -- the whole text is read, and leaves these places
  pub gives_whole : (text : List ℕ) (given : List Assignment) (input : UserInput) → Gives text given →
      let read = reading tree prefix input (lines_from stream 1 text) in (read.stopped ≡ None) × (read.input.places ≡ places_given tree input.places given)
  gives_whole text given input gives =
      let (next, (w, after, made, is)) = gives 1 [] input in
      let last : lines_from stream next [] ≡ [] = lines_from-last stream next [] (λ k d lt. absurd (no lt)) in
      let whole : reading tree prefix input (lines_from stream 1 text) ≡ record { input = after; warned = w ++ []; stopped = None } =
      sym (ap (λ t. reading tree prefix input (lines_from stream 1 t)) (append-nil text)) ∙ is
      ∙ ap (λ ls. with_warnings w (reading tree prefix after ls)) last ∙ ap (with_warnings w) (reading-nothing tree prefix after) in
      (ap (λ (r : ReadResult). r.stopped) whole, ap (λ (r : ReadResult). r.input.places) whole ∙ made)
    where
      no : {k : ℕ} → k < length {A = ℕ} [] → ⊥
      no lt = absurd (omega arith)
