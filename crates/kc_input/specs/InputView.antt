-- Trusted: The meaning of the fields of a user's input.
use Rattle.std.specs.Prelude.{List, map, option_map, ℕ}
use Rattle.kc_language.specs.ConfigFile.{RefusedLine, UserInput}
use Rattle.kc_input.specs.{ShownView.location_of, declared.{gone.GoneLines.GoneLines, refused.KeptLine.KeptLine, user_input.UserInput.TheInside.Inside}}

abbrev pub gone_of : GoneLines → List ℕ × List ℕ
gone_of gone = (gone.on.items, gone.off.items)

abbrev pub kept_of : KeptLine → RefusedLine
kept_of line = record { at = location_of line.at; value = line.value.items }

abbrev pub input_of : Inside → UserInput
input_of input = record {
  places = input.user;
  lines = map (option_map location_of) input.lines.items;
  refused = map (option_map kept_of) input.refused.items;
  all_taken = input.all_taken;
  gone = option_map gone_of input.gone;
  asks_unset = input.asks_unset;
  lead = input.lead.items;
}
