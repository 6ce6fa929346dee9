-- Trusted: A printed value as a user value, a line of an input file, and one whose value was not allowed.
use Rattle.kc_language.specs.{ConfigFile.StreamLocation, Values.{GivenText, GivenTruth, GivenValue}}
use Rattle.kc_language.specs.ConfigFile as spec
use Rattle.kc_input.specs.declared.shown.{InputLine.InputLine, RefusedLine.RefusedLine, ShownValue.{ShownValue, TheVariants.{Text, Truth}}}

abbrev pub given_by : ShownValue → GivenValue
given_by (Truth t) = GivenTruth t
given_by (Text bytes) = GivenText bytes.now

abbrev pub location_of : InputLine → StreamLocation
location_of l = record { stream = l.file.now; number = l.number }

abbrev pub refused_of : RefusedLine → spec.RefusedLine
refused_of l = record { at = location_of l.at; value = l.value.now }
