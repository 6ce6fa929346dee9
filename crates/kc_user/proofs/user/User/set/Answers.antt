use Rattle.std.proofs.Common.{List, Option, ap, map, ◌∙◌}
use Rattle.std.specs.Prelude.{option_map}
use Rattle.kc_language.specs.ConfigFile.{Places}
use Rattle.kc_user.specs.{ValueView.given_of_value, declared.value.UserValue.UserValue}
use Rattle.kc_user.proofs.UserLemmas.{fills, on_err, on_ok}
use Rattle.kc_user.proofs.user.User.set.Goals as goal

pub returns : goal.returns
returns c =
    let symbols = c.self.inside.symbols in
    let choices = c.self.inside.choices.items in
    let seen : List (Option UserValue) → Places = λ xs. record { symbols = map (option_map given_of_value) xs; choices = choices } in
    record {
      done = on_ok c.set.result _ _ (λ e. ap seen e ∙ (rw (← c.self.view_is) (fills symbols choices c.args.id.0 c.args.value))) c.set.ensures.done;
      failed = on_err c.set.result _ _ (λ e. ap seen e ∙ c.self.view_is) c.set.ensures.failed;
    }
