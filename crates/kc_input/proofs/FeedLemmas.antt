-- Feeding in pieces is reading at once.
use Rattle.std.proofs.{Common.{Err, List, Ok, OnOk, Result, [], ap, append-nil, append_assoc, arith, drop, false, length, length-append, refl, sym, take, true, ℕ, ◌++◌, ◌+◌, ◌<◌, ◌∙◌, ◌∷◌, ◌≡◌, ◌≤◌}, lemmas.{Bool.ne_eqb, List.take-append-drop}}
use Rattle.std.specs.Prelude.{◌==◌}
use Rattle.kc_language.specs.{ConfigFile.{Notation, UserInput, input_after, lines_from, reading, warning}, Lines.is_line_feed, Symbols.TreeFacts, Text.longest_input_line}
use Rattle.kc_input.specs.{Feeding.{Feeds, FinishesStream, IsWithinLine, ReadsPiece, Refuses, StopsBecause, StreamPosition, fed, to_come}, PartsOfConfigFile.line, Reading.with_warnings, declared.fault.InputFault.{InputFault, TheVariants.{InputLineTooLong, Memory}}}
use Rattle.kc_text.specs.PartsOfText.{one_more}
use Rattle.kc_input.proofs.{LineLemmas.{HasNoLf, is_within-line, lines_from-last, lines_from-lf}, LongLineLemmas.{MeetsLongLine-long, MeetsLongLine-longer}, ReadingLemmas.{reading_within, with_warnings-with_warnings}}

module _ (tree : TreeFacts) (prefix : Notation) (name : List ℕ) where
  pub ReadsPiece-nothing : (position : StreamPosition) (places : UserInput) → ReadsPiece tree prefix name [] position position places places []
  ReadsPiece-nothing position places rest more = refl

  -- two pieces are one
  pub ReadsPiece-append : (a b : List ℕ) (old mid new : StreamPosition) (before middle after : UserInput) (w v : List ℕ) →
      ReadsPiece tree prefix name a old mid before middle w → ReadsPiece tree prefix name b mid new middle after v → ReadsPiece tree prefix name (a ++ b) old new before after (w ++ v)
  ReadsPiece-append a b old mid new before middle after w v first second rest more =
      rw append_assoc (first (b ++ rest) more ∙ ap (with_warnings w) (second rest more) ∙ with_warnings-with_warnings w v (reading tree prefix after (to_come name new rest more)))

  pub Feeds-nothing : (position : StreamPosition) (places : UserInput) (told : List ℕ) → Feeds tree prefix name [] position position places places told told
  Feeds-nothing position places told = ([], sym (append-nil told), ReadsPiece-nothing position places)

  pub Feeds-append : (a b : List ℕ) (old mid new : StreamPosition) (before middle after : UserInput) (told told_mid told_after : List ℕ) →
      Feeds tree prefix name a old mid before middle told told_mid → Feeds tree prefix name b mid new middle after told_mid told_after →
      Feeds tree prefix name (a ++ b) old new before after told told_after
  Feeds-append a b old mid new before middle after told told_mid told_after (w, t, k) (v, u, l) =
      (w ++ v, u ∙ ap (λ o. o ++ v) t ∙ append_assoc told w v, ReadsPiece-append a b old mid new before middle after w v k l)

  -- more bytes are pending
  pub Feeds-more : (piece : List ℕ) (old : StreamPosition) (pending : List ℕ) (places : UserInput) (told : List ℕ) → pending ≡ old.pending ++ piece →
      Feeds tree prefix name piece old (record { number = old.number; pending = pending }) places places told told
  Feeds-more piece old pending places told is =
      ([], sym (append-nil told), λ rest more. ap (λ t. reading tree prefix places (lines_from name old.number t ++ more)) (sym (append_assoc old.pending piece rest) ∙ ap (λ t. t ++ rest) (sym is)))

  -- an LF ends the line
  pub ReadsPiece-lf : (b : ℕ) (old : StreamPosition) (before : UserInput) → IsWithinLine old → is_line_feed b ≡ true →
      let l = line name old.number old.pending true in
      ReadsPiece tree prefix name (b ∷ []) old (record { number = one_more old.number; pending = [] }) before (input_after tree prefix before (l ∷ [])) (warning tree prefix before l)
  ReadsPiece-lf b old before open' lf rest more =
      let l = line name old.number old.pending true in
      let e : lines_from name old.number (old.pending ++ b ∷ rest) ≡ l ∷ lines_from name (one_more old.number) rest = lines_from-lf name old.number old.pending b rest open'.one_line lf in
      rw e (reading_within tree prefix before l (lines_from name (one_more old.number) rest ++ more) (is_within-line name old.number old.pending true open'.within))

  -- the 65,536th byte of a line
  pub StopsBecause-long : (b : ℕ) (old : StreamPosition) (places : UserInput) → IsWithinLine old → is_line_feed b ≡ false → 65535 ≤ length old.pending →
      StopsBecause tree prefix name (InputLineTooLong old.number) (b ∷ []) old places
  StopsBecause-long b old places open' other long =
      let within = open'.within in
      (refl, omega arith, (b, [], refl, other), MeetsLongLine-long tree prefix name b old places open' other long)

  -- whatever else follows in the piece
  pub StopsBecause-longer : (fault : InputFault) (a b : List ℕ) (position : StreamPosition) (places : UserInput) →
      StopsBecause tree prefix name fault a position places → StopsBecause tree prefix name fault (a ++ b) position places
  StopsBecause-longer (InputLineTooLong n) a b position places (number, long, (x, rest, is, other), stops) =
      (number, long, (x, rest ++ b, ap (λ t. t ++ b) is, other), MeetsLongLine-longer tree prefix name a b position places stops)
  StopsBecause-longer Memory a b position places some =
      let count : length (a ++ b) ≡ length a + length b = length-append a b in
      omega arith

  -- a refusal at one place of the piece
  pub Refuses-at : (fault : InputFault) (piece : List ℕ) (at : ℕ) (old new : StreamPosition) (before after : UserInput) (told told_after : List ℕ) →
      new ≡ fed (take at piece) old → Feeds tree prefix name (take at piece) old new before after told told_after →
      StopsBecause tree prefix name fault (drop at piece) new after →
      Refuses tree prefix name fault piece old new before after told told_after
  Refuses-at fault piece at old new before after told told_after stands (w, t, k) because =
      record {
        done = take at piece;
        left = drop at piece;
        warned = w;
        split = sym (take-append-drop at piece);
        stands = stands;
        goes = k;
        tells = t;
        because = because;
      }

  -- an LF's warning was told
  pub Feeds-lf : (b : ℕ) (old new : StreamPosition) (before after : UserInput) (told told_after : List ℕ) → IsWithinLine old → is_line_feed b ≡ true →
      after ≡ input_after tree prefix before (line name old.number old.pending true ∷ []) →
      told_after ≡ told ++ warning tree prefix before (line name old.number old.pending true) →
      new ≡ record { number = one_more old.number; pending = [] } →
      Feeds tree prefix name (b ∷ []) old new before after told told_after
  Feeds-lf b old new before after told told_after open' lf places tells next =
      (warning tree prefix before (line name old.number old.pending true), tells, λ rest more. rw (places, next) (ReadsPiece-lf b old before open' lf rest more))

  -- a whole line was read, of which nothing was pending
  pub Feeds-line : (front : List ℕ) (b : ℕ) (old new : StreamPosition) (before after : UserInput) (told told_after : List ℕ) → IsWithinLine old → old.pending ≡ [] →
      HasNoLf front → length front ≤ longest_input_line → is_line_feed b ≡ true →
      after ≡ input_after tree prefix before (line name old.number front true ∷ []) →
      told_after ≡ told ++ warning tree prefix before (line name old.number front true) →
      new ≡ record { number = one_more old.number; pending = [] } →
      Feeds tree prefix name (front ++ b ∷ []) old new before after told told_after
  Feeds-line front b old new before after told told_after open' empty one within lf places tells next =
      let waits : StreamPosition = record { number = old.number; pending = front } in
      let (w, t, k) = Feeds-lf b waits new before after told told_after (record { numbered = open'.numbered; within = within; one_line = one }) lf places tells next in
      (w, t, λ rest more. rw (empty, append_assoc front (b ∷ []) rest) (k rest more))

pub OnOk-three : {T E : Type 0} → (r : Result T E) (P Q R S : Type 0) → (P → Q → R → S) → OnOk r P → OnOk r Q → OnOk r R → OnOk r S
OnOk-three (Ok x) P Q R S f p q r = f p q r
OnOk-three (Err e) P Q R S f p q r = tt

module _ (tree : TreeFacts) (prefix : Notation) (name : List ℕ) where
  -- there is no last line
  pub FinishesStream-nothing : (position : StreamPosition) (places : UserInput) (told : List ℕ) → position.pending ≡ [] → FinishesStream tree prefix name position places places told told
  FinishesStream-nothing position places told empty =
      ([], sym (append-nil told), λ more. rw (empty, lines_from-last name position.number [] (λ k d lt. absurd (omega arith))) refl)

  last_is : (position : StreamPosition) → IsWithinLine position → 0 < length position.pending → lines_from name position.number position.pending ≡ line name position.number position.pending false ∷ []
  last_is position opened some =
      let e : (length position.pending == 0) ≡ false = ne_eqb (length position.pending) 0 (omega arith) in
      lines_from-last name position.number position.pending opened.one_line ∙ rw e refl

  -- the last line was read
  pub FinishesStream-line : (position : StreamPosition) (before after : UserInput) (told told_after : List ℕ) → IsWithinLine position → 0 < length position.pending →
      after ≡ input_after tree prefix before (line name position.number position.pending false ∷ []) →
      told_after ≡ told ++ warning tree prefix before (line name position.number position.pending false) →
      FinishesStream tree prefix name position before after told told_after
  FinishesStream-line position before after told told_after opened some places tells =
      let l = line name position.number position.pending false in (
        warning tree prefix before l,
        tells,
        λ more. rw (last_is position opened some, places)
            (reading_within tree prefix before l more (is_within-line name position.number position.pending false opened.within)),
      )
