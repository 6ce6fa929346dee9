-- What is told is whole lines.
use Rattle.std.proofs.Common.{Bool, List, None, Option, Some, [], ap, append-nil, append_assoc, arith, codes, false, refl, subst, sym, true, ℕ, ◌++◌, ◌<◌, ◌∙◌, ◌∷◌, ◌≡◌}
use Rattle.std.specs.{List.last_or, Prelude.{if◌then◌else◌, replicate}}
use Rattle.kc_language.specs.{ConfigFile.{Assigns, Effect, Line, Notation, ReadResult, Silent, StreamLocation, UserInput, Warns, change_text, effect, effect_warning, input_after, lines_from, place_at, plain_line, reading, stream_location, value_text, warning, warnings}, Lines.is_whole_lines, Symbols.{TreeFacts, Warning, located_warning}, Values.{GivenValue, SymbolPlace, name as name_of, same_given}, declared.{diagnostics.Warning.TheVariants.Changed, expressions.SymbolType.SymbolType}}
use Rattle.kc_input.specs.{Feeding.{EndsStream, Feeds, FinishesStream, ReadsPiece, Refuses, StreamPosition, fed}, PartsOfConfigFile.{before_too_long, change_line, effect_change, effect_text, type_of, warning_line_if}, Reading.with_warnings, WholeLines.AddsWholeLines, declared.fault.InputFault.InputFault}
use Rattle.kc_text.specs.PartsOfLines.{ends_line}
use Rattle.kc_input.proofs.{LineLemmas.HasNoLf, ReadingLemmas.{reading-nothing, warnings-cons, warnings-nothing}, StreamLemmas.{reading-long_end, waiting_no_lf}}

-- the last of two lists is that of the second, where it has one
last_or-append : {A : Type 0} (o : Option A) (a b : List A) → last_or o (a ++ b) ≡ last_or (last_or o a) b
last_or-append o [] b = refl
last_or-append o (x ∷ a) b = last_or-append (Some x) a b

-- whole lines behind whole lines are whole lines
pub is_whole_lines-append : (a b : List ℕ) → is_whole_lines a ≡ true → is_whole_lines b ≡ true → is_whole_lines (a ++ b) ≡ true
is_whole_lines-append a [] first second = rw append-nil first
is_whole_lines-append a (x ∷ b) first second = ap ends_line (last_or-append None a (x ∷ b)) ∙ second

-- a text with a line feed behind it is whole lines
pub is_whole_lines-line : (text : List ℕ) → is_whole_lines (text ++ codes "\n") ≡ true
is_whole_lines-line text = ap ends_line (last_or-append None text (codes "\n"))

pub AddsWholeLines-nothing : (told : List ℕ) → AddsWholeLines told told
AddsWholeLines-nothing told = ([], sym (append-nil told), refl)

pub AddsWholeLines-same : (old new : List ℕ) → new ≡ old → AddsWholeLines old new
AddsWholeLines-same old new same = rw same (AddsWholeLines-nothing old)

-- what whole lines were added, where nothing was told before
pub AddsWholeLines-first : (told : List ℕ) → AddsWholeLines [] told → is_whole_lines told ≡ true
AddsWholeLines-first told (added, is, whole) = rw is whole

-- whole lines that were added in two steps were added
pub AddsWholeLines-then : (old mid new : List ℕ) → AddsWholeLines old mid → AddsWholeLines mid new → AddsWholeLines old new
AddsWholeLines-then old mid new (a, is_a, first) (b, is_b, second) =
    (a ++ b, is_b ∙ ap (λ t. t ++ b) is_a ∙ append_assoc old a b, is_whole_lines-append a b first second)

whole-warning_if : (stream : List ℕ) (number : ℕ) (warned : Option Warning) → is_whole_lines (warning_line_if stream number warned) ≡ true
whole-warning_if stream number None = refl
whole-warning_if stream number (Some w) = is_whole_lines-line (located_warning stream number w)

whole-change : (is_raw : Bool) (at : StreamLocation) (name : List ℕ) (symbol_type : SymbolType) (old : Option GivenValue) (from : Option StreamLocation) (given : GivenValue) →
    is_whole_lines (change_text is_raw at name symbol_type old from given) ≡ true
whole-change is_raw at name symbol_type None from given = refl
whole-change is_raw at name symbol_type (Some old) None given = refl
whole-change is_raw at name symbol_type (Some old) (Some from) given = by (same_given old given)
  where
    front : List ℕ
    front = located_warning at.stream at.number (Changed name (value_text is_raw symbol_type old) from.stream from.number (value_text is_raw symbol_type given))

    by : (b : Bool) → is_whole_lines (if b then [] else change_line is_raw at name symbol_type old from given) ≡ true
    by true = refl
    by false = is_whole_lines-line front

whole-effect : (is_raw : Bool) (tree : TreeFacts) (input : UserInput) (at : StreamLocation) (e : Effect) → is_whole_lines (effect_text is_raw tree input at e) ≡ true
whole-effect is_raw tree input at e =
    is_whole_lines-append (warning_line_if at.stream at.number (effect_warning input.asks_unset tree input.places e)) (effect_change is_raw tree input at e)
    (whole-warning_if at.stream at.number (effect_warning input.asks_unset tree input.places e)) (changed e)
  where
    changed : (e : Effect) → is_whole_lines (effect_change is_raw tree input at e) ≡ true
    changed Silent = refl
    changed (Warns line_warning) = refl
    changed (Assigns s given) = whole-change is_raw at (name_of tree s) (type_of tree s) (place_at input.places (SymbolPlace s.0)) (plain_line input input.lines s) given

module _ (tree : TreeFacts) (prefix : Notation) where
  -- what a line warns of
  pub whole-warning : (input : UserInput) (l : Line) → is_whole_lines (warning tree prefix input l) ≡ true
  unfolding warning
  whole-warning input l = whole-effect prefix.is_raw tree input (stream_location l) (effect tree prefix l)

  -- what lines warn of
  pub whole-warnings : (lines : List Line) (input : UserInput) → is_whole_lines (warnings tree prefix input lines) ≡ true
  whole-warnings [] input = rw (warnings-nothing tree prefix input) refl
  whole-warnings (l ∷ lines) input =
      let after = input_after tree prefix input (l ∷ []) in
      rw (warnings-cons tree prefix input l lines)
      (is_whole_lines-append (warning tree prefix input l) (warnings tree prefix after lines) (whole-warning input l) (whole-warnings lines after))

  -- what a reading warns of
  pub whole-reading : (lines : List Line) (input : UserInput) → is_whole_lines (reading tree prefix input lines).warned ≡ true
  unfolding reading
  whole-reading lines input = whole-warnings (before_too_long lines) input

module _ (tree : TreeFacts) (prefix : Notation) (name : List ℕ) where
  -- what the lines of a piece warn of: a line that is too long, behind the piece, warns of nothing
  whole-long : (n : ℕ) → 65535 < n → (piece : List ℕ) (old new : StreamPosition) (before after : UserInput) (warned : List ℕ) → HasNoLf new.pending →
      ReadsPiece tree prefix name piece old new before after warned → is_whole_lines warned ≡ true
  whole-long n far piece old new before after warned none goes =
      let (stop, ends) = reading-long_end tree prefix name new after n far none in
      let lines = lines_from name old.number (old.pending ++ (piece ++ replicate n 120)) ++ [] in
      let is : (reading tree prefix before lines).warned ≡ warned =
      ap (λ (r : ReadResult). r.warned) (goes (replicate n 120) [] ∙ ap (with_warnings warned) ends) ∙ append-nil warned in
      subst (λ text. is_whole_lines text ≡ true) is (whole-reading tree prefix lines before)

  pub whole-piece : (piece : List ℕ) (old new : StreamPosition) (before after : UserInput) (warned : List ℕ) → new ≡ fed piece old →
      ReadsPiece tree prefix name piece old new before after warned → is_whole_lines warned ≡ true
  whole-piece piece old new before after warned stands goes =
      whole-long 65536 (omega arith) piece old new before after warned
      (subst HasNoLf (sym (ap (λ (s : StreamPosition). s.pending) stands)) (waiting_no_lf (old.pending ++ piece))) goes

  -- what the last line warns of
  pub whole-end : (position : StreamPosition) (before after : UserInput) (warned : List ℕ) → EndsStream tree prefix name position before after warned → is_whole_lines warned ≡ true
  whole-end position before after warned ends =
      let lines = lines_from name position.number position.pending ++ [] in
      let is : (reading tree prefix before lines).warned ≡ warned =
      ap (λ (r : ReadResult). r.warned) (ends [] ∙ ap (with_warnings warned) (reading-nothing tree prefix after)) ∙ append-nil warned in
      subst (λ text. is_whole_lines text ≡ true) is (whole-reading tree prefix lines before)

  pub Feeds-lines : (piece : List ℕ) (old new : StreamPosition) (before after : UserInput) (told told_after : List ℕ) → new ≡ fed piece old →
      Feeds tree prefix name piece old new before after told told_after → AddsWholeLines told told_after
  Feeds-lines piece old new before after told told_after stands (warned, tells, goes) =
      (warned, tells, whole-piece piece old new before after warned stands goes)

  pub Refuses-lines : (fault : InputFault) (piece : List ℕ) (old new : StreamPosition) (before after : UserInput) (told told_after : List ℕ) →
      Refuses tree prefix name fault piece old new before after told told_after → AddsWholeLines told told_after
  Refuses-lines fault piece old new before after told told_after refuses =
      (refuses.warned, refuses.tells, whole-piece refuses.done old new before after refuses.warned refuses.stands refuses.goes)

  pub FinishesStream-lines : (position : StreamPosition) (before after : UserInput) (told told_after : List ℕ) →
      FinishesStream tree prefix name position before after told told_after → AddsWholeLines told told_after
  FinishesStream-lines position before after told told_after (warned, tells, ends) =
      (warned, tells, whole-end position before after warned ends)
