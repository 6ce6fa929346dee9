-- What a call of a reader answers.
use Rattle.std.proofs.Common.{Err, List, None, Ok, Option, Some, refl, ℕ, ◌≡◌}
use Rattle.kc_language.specs.{ConfigFile.{ArePlacesOf, Notation, UserInput}, Symbols.TreeFacts}
use Rattle.kc_input.specs.{Feeding.{Feeds, FinishesStream, Refuses, StreamPosition, ended, fed}, ReaderCalls.{AnswersEnd, AnswersFeed}, ReaderState.ReaderState, declared.fault.InputFault.InputFault}
use Rattle.kc_input.proofs.WholeLinesLemmas.{Feeds-lines, FinishesStream-lines, Refuses-lines}

module _ (tree : TreeFacts) (prefix : Notation) (name : List ℕ) where
  abbrev pub reader_at : StreamPosition → Option InputFault → ReaderState
  reader_at position refusal = record { tree = tree; prefix = prefix; name = name; position = position; refusal = refusal }

  -- the piece was taken
  pub AnswersFeed-ok : (piece : List ℕ) (old new : StreamPosition) (before after : UserInput) (told told_after : List ℕ) →
      Feeds tree prefix name piece old new before after told told_after → new ≡ fed piece old → ArePlacesOf tree after.places →
      AnswersFeed piece (Ok tt) (reader_at old None) (reader_at new None) before after told told_after
  AnswersFeed-ok piece old new before after told told_after feeds stands user = record {
    ok = feeds;
    stands = (refl, rw stands refl);
    refused = λ fresh. tt;
    kept = λ fresh. tt;
    again = λ fault was. cc;
    lines = Feeds-lines tree prefix name piece old new before after told told_after stands feeds;
    user = user;
  }

  -- the piece was refused
  pub AnswersFeed-err : (fault : InputFault) (piece : List ℕ) (old new : StreamPosition) (before after : UserInput) (told told_after : List ℕ) →
      Refuses tree prefix name fault piece old new before after told told_after → ArePlacesOf tree after.places →
      AnswersFeed piece (Err fault) (reader_at old None) (reader_at new (Some fault)) before after told told_after
  AnswersFeed-err fault piece old new before after told told_after refuses user = record {
    ok = tt;
    stands = tt;
    refused = λ fresh. refuses;
    kept = λ fresh. refl;
    again = λ other was. cc;
    lines = Refuses-lines tree prefix name fault piece old new before after told told_after refuses;
    user = user;
  }

  -- the last line was ended
  pub AnswersEnd-ok : (position new : StreamPosition) (before after : UserInput) (told told_after : List ℕ) →
      FinishesStream tree prefix name position before after told told_after → new ≡ ended position → ArePlacesOf tree after.places →
      AnswersEnd (reader_at (ended position) None) (Ok tt) (reader_at position None) (reader_at new None) before after told told_after
  AnswersEnd-ok position new before after told told_after finishes stands user = record {
    ok = finishes;
    stands = (refl, rw stands refl);
    failed = λ fresh. tt;
    kept = λ fresh. tt;
    again = λ fault was. cc;
    lines = FinishesStream-lines tree prefix name position before after told told_after finishes;
    user = user;
  }
