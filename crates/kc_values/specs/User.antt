-- Trusted: User values as the code holds them.
use Rattle.std.specs.{Borrow.Bor, Prelude.{None, Option, Some}}
use Rattle.kc_language.specs.Values.{GivenValue}
use Rattle.kc_user.specs.{ValueView.given_of_value, declared.value.UserValue.UserValue}

abbrev pub given_in : Option (Bor UserValue) → Option GivenValue
given_in None = None
given_in (Some u) = Some (given_of_value u.now)
