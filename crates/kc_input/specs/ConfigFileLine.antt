-- Trusted: The meaning of one line of a .config under a prefix, for any tree.
use Rattle.kc_input.specs.declared.line.ConfigFileLine.{ConfigFileLine}
use Rattle.kc_language.specs.ConfigFile.{LineMeaning, Nothing, Unset, Set, Malformed}
use Rattle.kc_input.specs.declared.line.ConfigFileLine.TheVariants as line

abbrev pub meaning_view : ConfigFileLine → LineMeaning
meaning_view line.Nothing = Nothing
meaning_view (line.Unset name) = Unset name.now
meaning_view (line.Set name value) = Set name.now value.now
meaning_view line.Malformed = Malformed
