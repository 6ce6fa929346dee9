-- Trusted: The other results of this crate's calls: usage errors with their texts, and the names in a list.
use Rattle.std.specs.{Prelude.{◌≡◌, ◌≢◌, ◌<◌, List, Option, None, Some, String, Vec, false, codes, length, map, string_bytes}, Str.IsUtf8, declared.alloc.Global.Global}
use Rattle.clap.specs.{Words.{Row, Text}, declared.error.kind.ErrorKind.ErrorKind}
use Rattle.kc_language.specs.ConfigFile.{is_prefix}
use Rattle.kc_language.specs.Statements.{out_of_memory_line}
use Rattle.kc_words.specs.{CommandLine.{form_error, goal_in, how_error, listed, no_goal_text, no_number_text, no_prefix_text, number_of, refusal_of, value_error}, declared.usage.UsageError.UsageError}
use Rattle.clap.specs.declared.error.kind.ErrorKind.TheVariants as kind
use Rattle.kc_words.specs.declared.usage.UsageError.TheVariants as usage

-- the name and the version of the program (our own)
abbrev pub version_text : Text
version_text = codes "kconf 0.9.0\n"

-- the text to print
abbrev pub text_of : UsageError → Text
text_of (usage.Help text) = string_bytes text
text_of usage.Version = version_text
text_of (usage.Bad text) = string_bytes text
text_of usage.Memory = out_of_memory_line

-- the names in the lines, or none if the bytes are not UTF-8
abbrev pub IsListOf : Text → Option (Vec (String Global) Global) → Type 0
IsListOf bytes None = IsUtf8 bytes → ⊥
IsListOf bytes (Some names) = IsUtf8 bytes × (map string_bytes names.items ≡ listed bytes)

-- an error about arguments has a text that is not empty
abbrev pub IsTold : UsageError → Type 0
IsTold (usage.Bad told) = 0 < length (string_bytes told)
IsTold _ = Unit {0}

-- out of memory, or wrong arguments
abbrev pub IsBadWords : UsageError → Type 0
IsBadWords (usage.Bad _) = Unit {0}
IsBadWords usage.Memory = Unit {0}
IsBadWords _ = ⊥

-- the usage error for a clap error of this kind; it may always be out of memory, since its text needs some
abbrev pub IsKindOf : ErrorKind → UsageError → Type 0
IsKindOf k (usage.Help text) = k ≡ kind.DisplayHelp
IsKindOf k usage.Version = k ≡ kind.DisplayVersion
IsKindOf k (usage.Bad text) = (k ≢ kind.DisplayHelp) × (k ≢ kind.DisplayVersion) × (k ≢ kind.OutOfMemory)
IsKindOf k usage.Memory = Unit {0}

-- out of memory, or this text reports wrong arguments
abbrev pub IsBadFor : Text → UsageError → Type 0
IsBadFor text (usage.Bad told) = string_bytes told ≡ text
IsBadFor text usage.Memory = Unit {0}
IsBadFor text _ = ⊥

-- out of memory, or the text is not a prefix, and this reports it
abbrev pub IsNoPrefix : Text → UsageError → Type 0
IsNoPrefix text (usage.Bad told) = (is_prefix text ≡ false) × (string_bytes told ≡ no_prefix_text text)
IsNoPrefix text usage.Memory = Unit {0}
IsNoPrefix text _ = ⊥

-- out of memory, or the text is not a number, and this reports it for this option
abbrev pub IsNoNumber : Text → Text → UsageError → Type 0
IsNoNumber option text (usage.Bad told) = (number_of text ≡ None) × (string_bytes told ≡ no_number_text option text)
IsNoNumber option text usage.Memory = Unit {0}
IsNoNumber option text _ = ⊥

-- out of memory, or the text is no name with a value, and this reports it
abbrev pub IsNoGoal : Text → UsageError → Type 0
IsNoGoal text (usage.Bad told) = (goal_in text ≡ None) × (string_bytes told ≡ no_goal_text text)
IsNoGoal text usage.Memory = Unit {0}
IsNoGoal text _ = ⊥

-- out of memory, or this is the text of an error
abbrev pub IsErrorOf : Option Text → UsageError → Type 0
IsErrorOf error (usage.Bad told) = error ≡ Some (string_bytes told)
IsErrorOf error usage.Memory = Unit {0}
IsErrorOf error _ = ⊥

-- out of memory, or this reports a value that is not valid: any; the prefix or the depth; what --how asks
abbrev pub IsNoValue : List Row → UsageError → Type 0
IsNoValue rows = IsErrorOf (value_error rows)

abbrev pub IsNoForm : List Row → UsageError → Type 0
IsNoForm rows = IsErrorOf (form_error rows)

abbrev pub IsNotAsked : List Row → UsageError → Type 0
IsNotAsked rows = IsErrorOf (how_error rows)

-- out of memory, or this reports why the arguments are refused
abbrev pub IsNoRequest : List Row → UsageError → Type 0
IsNoRequest rows = IsErrorOf (refusal_of rows)
