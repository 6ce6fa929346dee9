-- Trusted: What one call of a reader leaves, for any result.
use Rattle.std.specs.Prelude.{Err, IfErr, List, None, OnOk, Result, Some, ℕ, ◌≡◌}
use Rattle.kc_language.specs.ConfigFile.{ArePlacesOf, UserInput}
use Rattle.kc_input.specs.{Feeding.{FailsToEnd, Feeds, FinishesStream, Refuses, fed}, ReaderState.ReaderState, WholeLines.AddsWholeLines, declared.fault.InputFault.InputFault}

-- A reader that stores a fault returns it again and changes nothing.
abbrev pub RefusesAgain : Result (Unit {0}) InputFault → ReaderState → ReaderState → UserInput → UserInput → List ℕ → List ℕ → Type 0
RefusesAgain result old new before after told told_after =
    (fault : InputFault) → old.refusal ≡ Some fault → (result ≡ Err fault) × (new ≡ old) × (after ≡ before) × (told_after ≡ told)

-- The result of feeding a chunk: it was read and its warnings were added, or the call failed, and so does every later call.
pub record AnswersFeed (piece : List ℕ) (result : Result (Unit {0}) InputFault) (old new : ReaderState) (before after : UserInput) (told told_after : List ℕ) : Type 0 where
  pub ok : OnOk result (Feeds old.tree old.prefix old.name piece old.position new.position before after told told_after)
  pub stands : OnOk result ((old.refusal ≡ None) × (new ≡ record old { position = fed piece old.position }))
  pub refused : old.refusal ≡ None → IfErr result (λ fault. Refuses old.tree old.prefix old.name fault piece old.position new.position before after told told_after)
  pub kept : old.refusal ≡ None → IfErr result (λ fault. new ≡ record old { position = new.position; refusal = Some fault })
  pub again : RefusesAgain result old new before after told told_after
  pub lines : AddsWholeLines told told_after
  pub user : ArePlacesOf new.tree after.places

-- The result of finishing an input file: the last line was finished and its warning added, and the reader is in the next state; or the call failed,
-- and so does every later call.
pub record AnswersEnd (next : ReaderState) (result : Result (Unit {0}) InputFault) (old new : ReaderState) (before after : UserInput) (told told_after : List ℕ) : Type 0 where
  pub ok : OnOk result (FinishesStream old.tree old.prefix old.name old.position before after told told_after)
  pub stands : OnOk result ((old.refusal ≡ None) × (new ≡ next))
  pub failed : old.refusal ≡ None → IfErr result (λ fault. FailsToEnd fault old.position told told_after)
  pub kept : old.refusal ≡ None → IfErr result (λ fault. (new ≡ record old { refusal = Some fault }) × (after ≡ before))
  pub again : RefusesAgain result old new before after told told_after
  pub lines : AddsWholeLines told told_after
  pub user : ArePlacesOf new.tree after.places
