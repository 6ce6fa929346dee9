-- For proofs: Names for parts of the definitions of CommandLine.
use Rattle.clap.specs.Words.{Row, Text}
use Rattle.kc_words.specs.CommandLine.{is_given, has_value, is_each}
use Rattle.std.specs.Prelude.{◌&&◌, List, Bool, codes, not}

abbrev pub are_exclusive : List Row → Bool
are_exclusive rows = is_given (codes "check") rows && is_given (codes "replace") rows

abbrev pub lacks_check : List Row → Bool
lacks_check rows = is_given (codes "diff") rows && not (is_given (codes "check") rows)

abbrev pub is_one_of_many : List Row → Bool
is_one_of_many rows = is_each rows && has_value (codes "config") rows

abbrev pub explains_many : List Row → Bool
explains_many rows = is_each rows && has_value (codes "explain") rows

abbrev pub is_dead_of_many : List Row → Bool
is_dead_of_many rows = has_value (codes "list-dead") rows && is_each rows

abbrev pub explains_dead : List Row → Bool
explains_dead rows = has_value (codes "list-dead") rows && has_value (codes "explain") rows

abbrev pub lacks_target : List Row → Bool
lacks_target rows = is_each rows && (has_value (codes "depfile") rows && not (has_value (codes "out") rows))

abbrev pub exclusion_text : Text
exclusion_text = codes "error: the argument '--check' cannot be used with '--replace'\n\nFor more information, try '--help'.\n"

abbrev pub no_check_text : Text
no_check_text = codes "error: the argument '--diff' needs '--check'\n\nFor more information, try '--help'.\n"

abbrev pub one_of_many_text : Text
one_of_many_text = codes "error: the argument '--config <FILE>' cannot be used with '--each'\n\nFor more information, try '--help'.\n"

abbrev pub explains_many_text : Text
explains_many_text = codes "error: the argument '--explain <NAME>' cannot be used with '--each'\n\nFor more information, try '--help'.\n"

abbrev pub dead_of_many_text : Text
dead_of_many_text = codes "error: the argument '--list-dead <FILE>' cannot be used with '--each'\n\nFor more information, try '--help'.\n"

abbrev pub explains_dead_text : Text
explains_dead_text = codes "error: the argument '--list-dead <FILE>' cannot be used with '--explain'\n\nFor more information, try '--help'.\n"

abbrev pub target_text : Text
target_text = codes "error: the argument '--depfile <FILE>' needs '--out <FILE>' with '--each'\n\nFor more information, try '--help'.\n"

abbrev pub explains_how_text : Text
explains_how_text = codes "error: the argument '--how <NAME=VALUE>' cannot be used with '--explain'\n\nFor more information, try '--help'.\n"

abbrev pub dead_how_text : Text
dead_how_text = codes "error: the argument '--how <NAME=VALUE>' cannot be used with '--list-dead'\n\nFor more information, try '--help'.\n"
