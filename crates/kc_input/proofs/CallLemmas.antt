-- Any list of calls is one reading.
use Rattle.std.proofs.Common.{List, [], ap, append-nil, refl, ℕ, ◌++◌, ◌∙◌, ◌∷◌, ◌≡◌}
use Rattle.kc_input.specs.{Calls.{Call, CallsJoin, Feed, Finish, lines_fed, more_of, rest_of}, Feeding.{EndsStream, ReadsPiece, ended, fed}, ReaderState.ReaderState, Reading.with_warnings}
use Rattle.kc_language.specs.ConfigFile.{ReadResult, UserInput, lines_from, reading}
use Rattle.kc_input.proofs.ReadingLemmas.{with_warnings-with_warnings}

-- One call, and then the others, which come to `later`.
module _ (old : ReaderState) (before middle : UserInput) (first : List ℕ) (calls : List Call) (later : ReadResult) where
  feed_first : (piece : List ℕ) → ReadsPiece old.tree old.prefix old.name piece old.position (fed piece old.position) before middle first →
      reading old.tree old.prefix middle (lines_fed (record old { position = fed piece old.position }) calls) ≡ later →
      reading old.tree old.prefix before (lines_fed old (Feed piece ∷ calls)) ≡ with_warnings first later
  feed_first piece goes rest = goes (rest_of calls) (more_of old.name (fed piece old.position) calls) ∙ ap (with_warnings first) rest

  finish_first : EndsStream old.tree old.prefix old.name old.position before middle first →
      reading old.tree old.prefix middle (lines_fed (record old { position = ended old.position }) calls) ≡ later →
      reading old.tree old.prefix before (lines_fed old (Finish ∷ calls)) ≡ with_warnings first later
  finish_first ends rest =
      let e : old.position.pending ++ [] ≡ old.position.pending = append-nil old.position.pending in
      rw e (ends (lines_fed (record old { position = ended old.position }) calls) ∙ ap (with_warnings first) rest)

pub calls_join : CallsJoin
calls_join [] old new before after warned (same, places, nothing) =
    let e : lines_from old.name old.position.number (old.position.pending ++ []) ++ [] ≡ lines_from old.name old.position.number old.position.pending =
    append-nil (lines_from old.name old.position.number (old.position.pending ++ [])) ∙ ap (lines_from old.name old.position.number) (append-nil old.position.pending) in
    rw (same, places, nothing, e) refl
calls_join (Feed piece ∷ calls) old new before after warned (mid, middle, first, later, (is, goes), run, joined) =
    let rest = rw is at (calls_join calls mid new middle after later run) in
    rw joined (feed_first old before middle first calls (with_warnings later
    (reading old.tree old.prefix after (lines_from new.name new.position.number new.position.pending))) piece (rw is at goes) rest
    ∙ with_warnings-with_warnings first later (reading old.tree old.prefix after (lines_from new.name new.position.number new.position.pending)))
calls_join (Finish ∷ calls) old new before after warned (mid, middle, first, later, (is, ends), run, joined) =
    let rest = rw is at (calls_join calls mid new middle after later run) in
    rw joined (finish_first old before middle first calls (with_warnings later (reading old.tree old.prefix after (lines_from new.name new.position.number new.position.pending))) ends rest
    ∙ with_warnings-with_warnings first later (reading old.tree old.prefix after (lines_from new.name new.position.number new.position.pending)))
