-- Trusted: The meaning of a user value.
use Rattle.kc_language.specs.Values.{GivenText, GivenTruth, GivenValue}
use Rattle.kc_user.specs.declared.value.UserValue.{TheVariants.{Text, Tri}, UserValue}

abbrev pub given_of_value : UserValue → GivenValue
given_of_value (Tri t) = GivenTruth t
given_of_value (Text bytes) = GivenText bytes.items
