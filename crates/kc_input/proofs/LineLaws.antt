-- The laws of lines that are read one after another.
use Rattle.std.proofs.Common.{Bool, List, Option, Some, [], ap, append-nil, refl, ℕ, ◌++◌, ◌∙◌, ◌∷◌, ◌≡◌}
use Rattle.std.specs.Prelude.{slice_set}
use Rattle.kc_language.specs.{ConfigFile.{Assigns, Effect, Line, Notation, Places, RefusedLine, Silent, UserInput, Warns, effect, gone_after, input_after, line_meaning, not_allowed, places_after, refused_after, stream_location, untaken, untaken_line, warning, warnings}, Symbols.TreeFacts, Values.GivenValue, declared.expressions.SymId.SymId}
use Rattle.kc_input.specs.{LineSteps.{gone_by, input_by, refused_by}, PartsOfConfigFile.{assignments, refused_line}, ReadingLaws.{GoesLineByLine, LinesAddUp, LinesAreCut, LinesDoWhatTheySay, LinesInTurn, LinesKeepCounts}}
use Rattle.kc_input.proofs.{LineLemmas.{gone_after-line, input_after-parts, lines_from-last, lines_from-lf, refused_after-line}, PlaceLemmas.{ArePlacesOf-given, places_given-one}, ReadingLemmas.{input_after-append, input_after-nothing, lines_after-length, reading-nothing, reading_long, reading_within, refused_after-length, untaken-append, untaken-cons, warnings-append, warnings-cons, warnings-nothing}, StreamLemmas.waiting_no_lf}

pub lines_cut : LinesAreCut
lines_cut = record {
  ended = λ stream n bytes rest b one ends. lines_from-lf stream n bytes b rest one ends;
  last = lines_from-last;
  waiting = waiting_no_lf;
}

module _ (tree : TreeFacts) (prefix : Notation) where
  pub line_by_line : GoesLineByLine tree prefix
  line_by_line = record { nothing = reading-nothing tree prefix; short = reading_within tree prefix; too_long = reading_long tree prefix }

  -- ---- lines add up

  one_warns : (input : UserInput) (l : Line) → warnings tree prefix input (l ∷ []) ≡ warning tree prefix input l
  one_warns input l =
      warnings-cons tree prefix input l []
      ∙ ap (λ t. warning tree prefix input l ++ t) (warnings-nothing tree prefix (input_after tree prefix input (l ∷ [])))
      ∙ append-nil (warning tree prefix input l)

  none_untaken : (asked : Bool) (places : Places) → untaken tree prefix asked places [] ≡ []
  unfolding untaken
  none_untaken asked places = refl

  one_untaken : (asked : Bool) (places : Places) (l : Line) → untaken tree prefix asked places (l ∷ []) ≡ untaken_line tree prefix asked places l
  one_untaken asked places l =
      untaken-cons tree prefix asked places l []
      ∙ ap (λ (ls : List Line). untaken_line tree prefix asked places l ++ ls) (none_untaken asked (places_after tree prefix places (l ∷ [])))
      ∙ append-nil (untaken_line tree prefix asked places l)

  add_up : LinesAddUp tree prefix
  add_up = record {
    none_leave = input_after-nothing tree prefix;
    leave = input_after-append tree prefix;
    one_warns = one_warns;
    warn = warnings-append tree prefix;
    one_untaken = one_untaken;
    are_untaken = untaken-append tree prefix;
  }

  -- ---- what a line does

  step : (input : UserInput) (l : Line) (e : Effect) → effect tree prefix l ≡ e →
      input_after tree prefix input (l ∷ []) ≡ record (input_by tree input (stream_location l) e) {
        refused = refused_after tree prefix input.refused (l ∷ []);
        gone = gone_after tree prefix input.gone (l ∷ []);
      }
  unfolding effect
  step input l e is =
      input_after-parts tree prefix input l ∙ ap (λ x. record (input_by tree input (stream_location l) x) {
        refused = refused_after tree prefix input.refused (l ∷ []);
        gone = gone_after tree prefix input.gone (l ∷ []);
      }) is

  silent : (input : UserInput) (l : Line) → effect tree prefix l ≡ Silent → input_after tree prefix input (l ∷ []) ≡ input
  silent input l is =
      let kept : refused_after tree prefix input.refused (l ∷ []) ≡ input.refused =
      refused_after-line tree prefix input.refused l ∙ ap (λ e. refused_by (refused_line tree prefix l) (not_allowed tree e) input.refused) is in
      let same : gone_after tree prefix input.gone (l ∷ []) ≡ input.gone =
      gone_after-line tree prefix input.gone l ∙ ap (λ e. gone_by prefix (line_meaning tree prefix l) e input.gone) is in
      step input l Silent is
      ∙ ap (λ (refused : List (Option RefusedLine)). record input { refused = refused; gone = gone_after tree prefix input.gone (l ∷ []) }) kept
      ∙ ap (λ (gone : Option (List ℕ × List ℕ)). record input { gone = gone }) same

  value : (input : UserInput) (l : Line) (s : SymId) (given : GivenValue) → effect tree prefix l ≡ Assigns s given →
      (input_after tree prefix input (l ∷ [])).places.symbols ≡ slice_set input.places.symbols s.0 (Some given)
  value input l s given is =
      ap (λ (i : UserInput). i.places.symbols) (step input l (Assigns s given) is)
      ∙ ap (λ (p : Places). p.symbols) (places_given-one tree input.places s given)

  refused : (input : UserInput) (l : Line) (s : SymId) → not_allowed tree (effect tree prefix l) ≡ Some s →
      (input_after tree prefix input (l ∷ [])).refused ≡ slice_set input.refused s.0 (Some (refused_line tree prefix l))
  refused input l s is = refused_after-line tree prefix input.refused l ∙ ap (λ o. refused_by (refused_line tree prefix l) o input.refused) is

  says : LinesDoWhatTheySay tree prefix
  says = record {
    silent = silent;
    warned = λ input l line_warning is. step input l (Warns line_warning) is;
    value = value;
    by_line = λ input l s given is. ap (λ (i : UserInput). i.lines) (step input l (Assigns s given) is);
    refused = refused;
  }

  -- ---- what is as it was

  counts : LinesKeepCounts tree prefix
  counts = record {
    places = λ input lines there. ArePlacesOf-given tree input.places (assignments tree prefix lines) there;
    lines = λ input lines. lines_after-length tree prefix input.lines lines;
    refused = λ input lines. refused_after-length tree prefix input.refused lines;
  }

  pub in_turn : LinesInTurn tree prefix
  in_turn = record { add_up = add_up; says = says; counts = counts }
