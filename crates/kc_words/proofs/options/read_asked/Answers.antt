-- The goal is valid, and the number of tries is not.
use Rattle.std.proofs.Common.{◌∙◌, codes, option_map, subst}
use Rattle.clap.specs.Words.{Text, first_of, found_of, rows_of}
use Rattle.kc_words.specs.CommandLine.{goal_error, number_error, steps_option}
use Rattle.kc_words.specs.Inputs.{goal_view}
use Rattle.kc_words.specs.Refusals.{IsNoNumber}
use Rattle.kc_words.proofs.ApartLemmas.{some-map}
use Rattle.kc_words.proofs.RefusalLemmas.{goal-good, next-error, no-number}
use Rattle.kc_words.proofs.options.read_asked.Goals as goal

pub returns-in-Err-checked_number-clause-err : goal.returns-in-Err-checked_number-clause-err
returns-in-Err-checked_number-clause-err c =
    let rows = rows_of (found_of c.args.matches.now) in
    let u = c.in-Err-checked_number.usage in
    next-error (goal_error (first_of (codes "how") rows)) (number_error (codes "--how-steps") (steps_option rows)) u
    (goal-good (first_of (codes "how") rows) (option_map goal_view c.in-Ok.goal) (some-map goal_view c.in-Ok.goal ∙ c.in-Ok.ensures.is_there) c.in-Ok.ensures.ok)
    (no-number (codes "--how-steps") (steps_option rows) u (subst (λ (t : Text). IsNoNumber (codes "--how-steps") t u) (c.as_str.ensures.value ∙ c.in_ok-steps-in-Ok.ensures) c.in-Err-checked_number.ensures.err))
