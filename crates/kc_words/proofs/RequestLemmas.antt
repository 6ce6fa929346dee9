-- What the arguments ask for, by what was read of them.
use Rattle.std.proofs.Common.{◌≡◌, ◌∙◌, Bool, List, None, Option, Some, ap, codes, false, option_map, refl, string_bytes, subst, sym, true}
use Rattle.std.specs.Option.{is_some}
use Rattle.clap.specs.Words.{Row, Text, first_of}
use Rattle.kc_outcome.specs.Outcome.{Options}
use Rattle.kc_words.specs.CommandLine.{AreOptionsOf, AsksAlone, AsksFor, IsEachHowOf, IsEachOf, IsHowOf, goal_option, has_value, is_each}
use Rattle.kc_words.specs.Inputs.{IsAsked, IsQuestionOrRun, IsQuestionOrRuns, goal_view}
use Rattle.kc_words.specs.declared.each.Each.{Each}
use Rattle.kc_words.specs.declared.how.HowQuestion.{HowQuestion}
use Rattle.kc_words.specs.declared.options.Asked.{Asked}
use Rattle.kc_words.specs.declared.options.Request.{Request}
use Rattle.kc_words.specs.declared.options.Request.TheVariants as request

module _ (rows : List Row) (options : Options) (asked : Asked) (dead : first_of (codes "list-dead") rows ≡ None) (is : IsAsked rows asked) (are : AreOptionsOf rows options) where
  pub asks-alone : (r : Request) → IsQuestionOrRun options asked r → AsksAlone rows r
  asks-alone (request.One one) (none, same) = (dead, sym is.is_there ∙ ap is_some none, subst (AreOptionsOf rows) (sym same) are)
  asks-alone (request.How how) (goal, some, same) = (
    dead,
    sym is.is_there ∙ ap is_some some,
    subst (IsHowOf rows) (sym same) (record {
      options = are;
      value = ap (option_map (λ (g : Text × Text). g.1)) (ap (option_map goal_view) (sym some) ∙ is.goal);
      steps = is.steps;
    }),
  )
  asks-alone (request.Dead d) h = absurd h
  asks-alone (request.Each e) h = absurd h
  asks-alone (request.HowEach how) h = absurd h

pub asks-for : (rows : List Row) (r : Request) → is_each rows ≡ false → AsksAlone rows r → AsksFor rows r
asks-for rows (request.One one) alone h = (alone, h)
asks-for rows (request.How how) alone h = (alone, h)
asks-for rows (request.Dead d) alone h = (alone, h)
asks-for rows (request.Each e) alone h = absurd h
asks-for rows (request.HowEach how) alone h = absurd h

pub asks-many : (rows : List Row) (each : Each) (asked : Asked) (r : Request) → is_each rows ≡ true → IsAsked rows asked → IsEachOf rows each → IsQuestionOrRuns each asked r → AsksFor rows r
asks-many rows each asked (request.Each many) on is are (none, same) = (on, sym is.is_there ∙ ap is_some none, subst (IsEachOf rows) (sym same) are)
asks-many rows each asked (request.HowEach how) on is are (goal, some, same) = (
  on,
  sym is.is_there ∙ ap is_some some,
  subst (IsEachHowOf rows) (sym same) (record {
    each = are;
    value = ap (option_map (λ (g : Text × Text). g.1)) (ap (option_map goal_view) (sym some) ∙ is.goal);
    steps = is.steps;
  }),
)
asks-many rows each asked (request.One one) on is are h = absurd h
asks-many rows each asked (request.How how) on is are h = absurd h
asks-many rows each asked (request.Dead d) on is are h = absurd h

pub ruleset requests = (asks-alone, asks-for, asks-many)
