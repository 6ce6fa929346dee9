-- Trusted: The meaning of the fields of user values.
use Rattle.std.specs.Prelude.{map, option_map}
use Rattle.kc_language.specs.ConfigFile.{Places}
use Rattle.kc_user.specs.{ValueView.given_of_value, declared.user.User.TheInside.Inside}

abbrev pub places_of : Inside → Places
places_of user = record { symbols = map (option_map given_of_value) user.symbols; choices = user.choices.items }
