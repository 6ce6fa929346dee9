-- Trusted: What the command line requests, why it is refused, and which files configurations share (our own; see `kconf --help`).
-- The crate clap reads the arguments. It has a rule for each argument, and returns rows: the name of a rule with its values. A flag that is set has
-- the value `true`.
use Rattle.std.specs.{Prelude.{◌≡◌, ◌≢◌, ◌==◌, ◌<◌, ◌&&◌, ◌||◌, ◌⊎◌, ◌++◌, ◌^◌, ℕ, List, [], ◌∷◌, Bool, true, false, not, Option, Some, None, is_some, unwrap_or, option_map, String, string_bytes, codes, decimal, bytes_eq, nat_eq, if◌then◌else◌, map, fold, filter, flat_map, length, drop, slice_index_or}, List.{after_first, before_first, last_or, list_any, slice_split, starts_with}, Option.option_or, Str.Lines.lines, declared.alloc.Global.Global}
use Rattle.clap.specs.{Words.{App, IsAmong, Kinds, Row, Rule, Text, all_of, first_of, matches_of, new_app, new_rule, with_rule}, Simple.on_top, declared.{builder.action.ArgAction.TheVariants.{Append, SetTrue}, error.kind.ErrorKind.{ErrorKind, TheVariants.{DisplayHelp, DisplayVersion}}}}
use Rattle.kc_language.specs.{Text.{byte, longest_prefix, natural_of}, ConfigFile.{Notation, is_prefix}}
use Rattle.kc_outcome.specs.{Outcome.{Options}, declared.outcome.{Delivery.{Delivery, TheVariants.{Check, Replace, Write}}, Output.{Output, TheVariants.{Config, DependencyFile, Explanation, GoneLines, Header, Minimal, NewSymbols}}}}
use Rattle.kc_words.specs.declared.{each.Each.Each, how.{EachQuestion.EachQuestion, HowQuestion.HowQuestion}, options.{DeadList.DeadList, Request.{Request, TheVariants.{Dead, How, HowEach, One, Each as Many}}}, usage.UsageError.{UsageError, TheVariants.{Help, Version, Bad, Memory}}}

-- ---- The command
-- The rules: --NAME VALUE; --NAME; --NAME VALUE, which may be repeated; KCONFIG, which is required; and the arguments after it.
abbrev pub option_rule : Text → Rule
option_rule name = record (new_rule name) { long = Some name; value_names = 1 }

abbrev pub flag_rule : Text → Rule
flag_rule name = record (new_rule name) { long = Some name; action = Some SetTrue }

abbrev pub repeated_rule : Text → Rule
repeated_rule name = record (new_rule name) { long = Some name; action = Some Append; value_names = 1 }

abbrev pub kconfig_rule : Rule
kconfig_rule = record (new_rule (codes "KCONFIG")) { required = true }

abbrev pub fragment_rule : Rule
fragment_rule = record (new_rule (codes "FRAGMENT")) { action = Some Append }

-- A command with only --help and --version. The program's name is not among the arguments.
abbrev pub empty_app : App
empty_app = on_top (λ s. record s { no_binary_name = true; has_version = true }) (new_app (codes "kconf"))

-- The options; and the command: kconf [OPTIONS] KCONFIG [FRAGMENT ..]
unfoldable pub with_options : App → App
with_options app = fold with_rule app
    (option_rule (codes "root") ∷ flag_rule (codes "flat") ∷ option_rule (codes "include") ∷ option_rule (codes "config") ∷ option_rule (codes "out") ∷ option_rule (codes "header")
    ∷ option_rule (codes "savedefconfig") ∷ option_rule (codes "list-new") ∷ flag_rule (codes "with-help") ∷ option_rule (codes "list-gone")
    ∷ option_rule (codes "list-dead") ∷ option_rule (codes "depfile") ∷ option_rule (codes "prefix")
    ∷ flag_rule (codes "raw-strings")
    ∷ flag_rule (codes "must-exist") ∷ flag_rule (codes "strict") ∷ flag_rule (codes "strict-tree") ∷ flag_rule (codes "quiet-tree")
    ∷ flag_rule (codes "hints") ∷ flag_rule (codes "warn-lost")
    ∷ flag_rule (codes "explain-lost") ∷ repeated_rule (codes "explain") ∷ option_rule (codes "explain-depth")
    ∷ option_rule (codes "how") ∷ option_rule (codes "how-steps")
    ∷ flag_rule (codes "replace") ∷ flag_rule (codes "check") ∷ flag_rule (codes "diff") ∷ flag_rule (codes "each")
    ∷ option_rule (codes "each-from") ∷ repeated_rule (codes "fragment") ∷ [])

unfoldable pub kconf_app : App
kconf_app = with_rule (with_rule (with_options empty_app) kconfig_rule) fragment_rule

-- The arguments as text; and the rows that the command finds in them.
abbrev pub arguments_of : List (String Global) → List Text
arguments_of = map string_bytes

abbrev pub rows_for : List (String Global) → List Row
rows_for words = matches_of kconf_app (arguments_of words)

-- ---- The request
-- Whether a flag is set; whether an argument has a value; and all its values.
abbrev pub is_given : Text → List Row → Bool
is_given id rows = bytes_eq (unwrap_or (first_of id rows) []) (codes "true")

abbrev pub has_value : Text → List Row → Bool
has_value id rows = is_some (first_of id rows)

abbrev pub values_of : Text → List Row → List Text
values_of id rows = unwrap_or (all_of id rows) []

-- Whether there are many configurations; the prefix of symbol names; and how the texts are delivered.
abbrev pub is_each : List Row → Bool
is_each rows = is_given (codes "each") rows || has_value (codes "each-from") rows

abbrev pub prefix_option : List Row → Text
prefix_option rows = unwrap_or (first_of (codes "prefix") rows) (codes "CONFIG_")

-- The notation of names and strings in files.
abbrev pub notation_option : List Row → Notation
notation_option rows = record { prefix = prefix_option rows; is_raw = is_given (codes "raw-strings") rows }

-- The number of steps of an explanation, and of tries for --how: decimal digits of a number below 2^63. Any other text is refused.
abbrev pub depth_option : List Row → Text
depth_option rows = unwrap_or (first_of (codes "explain-depth") rows) (codes "3")

abbrev pub steps_option : List Row → Text
steps_option rows = unwrap_or (first_of (codes "how-steps") rows) (codes "200")

abbrev pub number_of : Text → Option ℕ
number_of = natural_of 10 (2 ^ 63)

-- The name and the value of --how, in `NAME=VALUE`: what stands before the first `=`, and what stands after it. The name is not empty. Any other text is
-- refused.
abbrev pub if_named : Text → Text → Option (Text × Text)
if_named name value = if length name == 0 then None else Some (name, value)

abbrev pub goal_in : Text → Option (Text × Text)
goal_in text = if list_any (λ b. b == byte "=") text
    then if_named (before_first (λ b. b == byte "=") text) (after_first (λ b. b == byte "=") text)
    else None

abbrev pub goal_option : List Row → Option (Text × Text)
goal_option rows = elim (first_of (codes "how") rows) [ None ↦ None | Some text ↦ goal_in text ]

-- The names that are asked about: those of --explain, or the one of --how.
abbrev pub asked_names : List Row → List Text
asked_names rows = elim (goal_option rows) [ None ↦ values_of (codes "explain") rows | Some goal ↦ goal.0 ∷ [] ]

-- With --explain no file is refused because of a warning. With --explain or --how only the answer is written, and no file is compared. Other arguments
-- that request that are ignored.
abbrev pub unless_explained : {A : Type 0} → List Row → A → A → A
unless_explained rows absent asked = if has_value (codes "explain") rows then absent else asked

abbrev pub asks : List Row → Bool
asks rows = has_value (codes "explain") rows || has_value (codes "how") rows

abbrev pub unless_asking : {A : Type 0} → List Row → A → A → A
unless_asking rows absent asked = if asks rows then absent else asked

abbrev pub delivery_of : List Row → Delivery
delivery_of rows = if is_given (codes "check") rows then Check else if is_given (codes "replace") rows then Replace else Write

-- The outputs that are asked for, with their files. `out` is the file of the full `.config`. The others follow it in the order of `other_outputs`. With
-- --explain or --how there is only the answer, which goes to standard output.
abbrev pub other_outputs : List (Text × Output)
other_outputs = (codes "header", Header) ∷ (codes "savedefconfig", Minimal) ∷ (codes "list-new", NewSymbols) ∷ (codes "list-gone", GoneLines)
    ∷ (codes "depfile", DependencyFile) ∷ []

abbrev pub output_if : Output → Option Text → List (Output × Text)
output_if kind None = []
output_if kind (Some file) = (kind, file) ∷ []

abbrev pub asked_outputs : List Row → Option Text → List (Output × Text)
asked_outputs rows out = unless_asking rows ((Explanation, codes "/dev/stdout") ∷ [])
    (output_if Config out ++ flat_map (λ other. output_if other.1 (first_of other.0 rows)) other_outputs)

abbrev pub outputs_of : Options → List (Output × Text)
outputs_of options = map (λ wanted. (wanted.kind, string_bytes wanted.file)) options.outputs.items

-- The options that are the same for one configuration and for many: the values of the arguments, or the defaults.
pub record AreSharedOptions (rows : List Row) (options : Options) : Type 0 where
  pub root : string_bytes options.root ≡ unwrap_or (first_of (codes "root") rows) (codes ".")
  pub kconfig : string_bytes options.kconfig ≡ unwrap_or (first_of (codes "KCONFIG") rows) []
  pub is_flat : options.is_flat ≡ is_given (codes "flat") rows
  pub include : option_map string_bytes options.include ≡ first_of (codes "include") rows
  pub with_help : options.with_help ≡ is_given (codes "with-help") rows
  pub explain : map string_bytes options.explain.items ≡ asked_names rows
  pub explain_depth : Some options.explain_depth ≡ number_of (depth_option rows)
  pub explain_lost : options.explain_lost ≡ is_given (codes "explain-lost") rows
  pub prefix : options.prefix ≡ notation_option rows
  pub prefix_is_one : is_prefix (prefix_option rows) ≡ true
  pub strict : options.strict ≡ unless_explained rows false (is_given (codes "strict") rows)
  pub strict_tree : options.strict_tree ≡ unless_explained rows false (is_given (codes "strict-tree") rows)
  pub quiet_tree : options.quiet_tree ≡ is_given (codes "quiet-tree") rows
  pub hints : options.hints ≡ is_given (codes "hints") rows
  pub warn_lost : options.warn_lost ≡ is_given (codes "warn-lost") rows
  pub delivery : options.delivery ≡ unless_asking rows Write (delivery_of rows)
  pub shows_difference : options.shows_difference ≡ unless_asking rows false (is_given (codes "diff") rows)

-- The options of one configuration.
pub record AreOptionsOf (rows : List Row) (options : Options) : Type 0 where
  pub shared : AreSharedOptions rows options
  pub config : string_bytes options.config ≡ unwrap_or (first_of (codes "config") rows) (codes ".config")
  pub outputs : outputs_of options ≡ asked_outputs rows (Some (unwrap_or (first_of (codes "out") rows) (string_bytes options.config)))
  pub fragments : map string_bytes options.fragments.items ≡ values_of (codes "FRAGMENT") rows ++ values_of (codes "fragment") rows
  pub must_exist : options.must_exist ≡ is_given (codes "must-exist") rows
  pub names_config : options.names_config ≡ false

-- Many configurations: the arguments after KCONFIG, and those that the file `list` names. The output files are patterns.
pub record IsEachOf (rows : List Row) (each : Each) : Type 0 where
  pub shared : AreSharedOptions rows each.options
  pub config : string_bytes each.options.config ≡ []
  pub outputs : outputs_of each.options ≡ asked_outputs rows (first_of (codes "out") rows)
  pub fragments : map string_bytes each.options.fragments.items ≡ values_of (codes "fragment") rows
  pub must_exist : each.options.must_exist ≡ true
  pub names_config : each.options.names_config ≡ true
  pub configurations : map string_bytes each.configurations.items ≡ values_of (codes "FRAGMENT") rows
  pub list : option_map string_bytes each.list ≡ first_of (codes "each-from") rows

-- A list of dead prompts in this file. Nothing else is read or written.
pub record IsDeadOf (rows : List Row) (file : Text) (dead : DeadList) : Type 0 where
  pub shared : AreSharedOptions rows dead.options
  pub config : string_bytes dead.options.config ≡ unwrap_or (first_of (codes "config") rows) (codes ".config")
  pub outputs : outputs_of dead.options ≡ []
  pub fragments : map string_bytes dead.options.fragments.items ≡ []
  pub must_exist : dead.options.must_exist ≡ false
  pub names_config : dead.options.names_config ≡ false
  pub file_is : string_bytes dead.file ≡ file

-- What must be set so that a symbol has this value, in at most this number of tries. The options are those of one configuration.
pub record IsHowOf (rows : List Row) (how : HowQuestion) : Type 0 where
  pub options : AreOptionsOf rows how.options
  pub value : Some (string_bytes how.value) ≡ option_map (λ goal. goal.1) (goal_option rows)
  pub steps : Some how.steps ≡ number_of (steps_option rows)

-- The same for many configurations. Each answer goes to standard output.
pub record IsEachHowOf (rows : List Row) (how : EachQuestion) : Type 0 where
  pub each : IsEachOf rows how.each
  pub value : Some (string_bytes how.value) ≡ option_map (λ goal. goal.1) (goal_option rows)
  pub steps : Some how.steps ≡ number_of (steps_option rows)

-- One configuration, a list of dead prompts, or what must be set; and many configurations, or what must be set in each of them.
abbrev pub AsksAlone : List Row → Request → Type 0
AsksAlone rows (One options) = (first_of (codes "list-dead") rows ≡ None) × (has_value (codes "how") rows ≡ false) × AreOptionsOf rows options
AsksAlone rows (How how) = (first_of (codes "list-dead") rows ≡ None) × (has_value (codes "how") rows ≡ true) × IsHowOf rows how
AsksAlone rows (Dead dead) = (file : Text) × (first_of (codes "list-dead") rows ≡ Some file) × IsDeadOf rows file dead
AsksAlone rows request = ⊥

abbrev pub AsksFor : List Row → Request → Type 0
AsksFor rows (Many each) = (is_each rows ≡ true) × (has_value (codes "how") rows ≡ false) × IsEachOf rows each
AsksFor rows (HowEach how) = (is_each rows ≡ true) × (has_value (codes "how") rows ≡ true) × IsEachHowOf rows how
AsksFor rows request = (is_each rows ≡ false) × AsksAlone rows request

-- ---- Refusals
-- The end of an error about the arguments.
abbrev pub with_hint : Text → Text
with_hint text = text ++ codes "\n\nFor more information, try '--help'.\n"

-- The error if arguments exclude each other: the first that applies. And the errors if a prefix, a number or a goal is not valid.
abbrev pub how_exclusion : List Row → Option Text
how_exclusion rows =
    if not (has_value (codes "how") rows) then None
    else if has_value (codes "explain") rows then Some (with_hint (codes "error: the argument '--how <NAME=VALUE>' cannot be used with '--explain'"))
    else if has_value (codes "list-dead") rows then Some (with_hint (codes "error: the argument '--how <NAME=VALUE>' cannot be used with '--list-dead'"))
    else None

abbrev pub exclusion_of : List Row → Option Text
exclusion_of rows =
    if is_given (codes "check") rows && is_given (codes "replace") rows
    then Some (with_hint (codes "error: the argument '--check' cannot be used with '--replace'"))
    else if is_given (codes "diff") rows && not (is_given (codes "check") rows)
    then Some (with_hint (codes "error: the argument '--diff' needs '--check'"))
    else if is_each rows && has_value (codes "config") rows
    then Some (with_hint (codes "error: the argument '--config <FILE>' cannot be used with '--each'"))
    else if is_each rows && has_value (codes "explain") rows
    then Some (with_hint (codes "error: the argument '--explain <NAME>' cannot be used with '--each'"))
    else if has_value (codes "list-dead") rows && is_each rows
    then Some (with_hint (codes "error: the argument '--list-dead <FILE>' cannot be used with '--each'"))
    else if has_value (codes "list-dead") rows && has_value (codes "explain") rows
    then Some (with_hint (codes "error: the argument '--list-dead <FILE>' cannot be used with '--explain'"))
    else if is_each rows && (has_value (codes "depfile") rows && not (has_value (codes "out") rows))
    then Some (with_hint (codes "error: the argument '--depfile <FILE>' needs '--out <FILE>' with '--each'"))
    else how_exclusion rows

abbrev pub no_prefix_text : Text → Text
no_prefix_text text = codes "error: invalid value '" ++ text ++ with_hint (codes "' for '--prefix <TEXT>': at most " ++ decimal longest_prefix
    ++ codes " letters, digits and _, of which the first is no digit")

abbrev pub no_number_text : Text → Text → Text
no_number_text option text =
    codes "error: invalid value '" ++ (text ++ (codes "' for '" ++ (option ++ with_hint (codes " <N>': a decimal number below 2^63"))))

abbrev pub no_goal_text : Text → Text
no_goal_text text = codes "error: invalid value '" ++ text ++ with_hint (codes "' for '--how <NAME=VALUE>': NAME=VALUE is expected")

abbrev pub number_error : Text → Text → Option Text
number_error option text = if is_some (number_of text) then None else Some (no_number_text option text)

abbrev pub form_error : List Row → Option Text
form_error rows = if is_prefix (prefix_option rows) then number_error (codes "--explain-depth") (depth_option rows) else Some (no_prefix_text (prefix_option rows))

abbrev pub goal_error : Option Text → Option Text
goal_error None = None
goal_error (Some text) = if is_some (goal_in text) then None else Some (no_goal_text text)

abbrev pub how_error : List Row → Option Text
how_error rows = option_or (goal_error (first_of (codes "how") rows)) (number_error (codes "--how-steps") (steps_option rows))

abbrev pub value_error : List Row → Option Text
value_error rows = option_or (form_error rows) (how_error rows)

-- The error for arguments that clap accepts, if there is one.
abbrev pub refusal_of : List Row → Option Text
refusal_of rows = option_or (exclusion_of rows) (value_error rows)

-- What the arguments request, if they do not exclude each other.
pub record IsRequestOf (rows : List Row) (request : Request) : Type 0 where
  pub asks : AsksFor rows request
  pub together : exclusion_of rows ≡ None

-- Why the arguments request no run: they request help or the version; clap finds another error, which its own text reports; there is an error of
-- ours; or memory ran out.
abbrev pub IsRefused : Kinds → List Row → UsageError → Type 0
IsRefused kinds rows (Help _) = IsAmong DisplayHelp kinds
IsRefused kinds rows Version = IsAmong DisplayVersion kinds
IsRefused kinds rows (Bad told) = ((k : ErrorKind) × (k ≢ DisplayHelp) × (k ≢ DisplayVersion) × IsAmong k kinds)
    ⊎ ((kinds ≡ []) × (refusal_of rows ≡ Some (string_bytes told)))
IsRefused kinds rows Memory = Unit {0}

-- ---- Many configurations
-- The configurations in a file: its lines, without the empty ones.
abbrev pub listed : Text → List Text
listed bytes = filter (λ line. not (length line == 0)) (lines bytes)

-- The part of a path after its last `/`. And a pattern with the configuration in place of each `{}` and its file name in place of each `{/}`: it is
-- split at each `{`, and any other `{` stays.
abbrev pub file_name : Text → Text
file_name path = unwrap_or (last_or None (slice_split (λ b. b == byte "/") path)) []

abbrev pub filled_part : Text → Text → Text
filled_part config part =
    if starts_with nat_eq part (codes "}") then config ++ drop 1 part
    else if starts_with nat_eq part (codes "/}") then file_name config ++ drop 2 part
    else codes "{" ++ part

abbrev pub filled_parts : Text → List Text → Text
filled_parts config [] = []
filled_parts config (first ∷ others) = first ++ flat_map (filled_part config) others

abbrev pub filled : Text → Text → Text
filled config pattern = filled_parts config (slice_split (λ b. b == byte "{") pattern)

-- The options of one of many configurations: the shared options, with this name, and with the patterns of the outputs filled in.
pub record AreOptionsFor (each : Each) (name : Text) (options : Options) : Type 0 where
  pub root : string_bytes options.root ≡ string_bytes each.options.root
  pub config : string_bytes options.config ≡ name
  pub outputs : outputs_of options ≡ map (λ wanted. (wanted.kind, filled name (string_bytes wanted.file))) each.options.outputs.items
  pub kconfig : string_bytes options.kconfig ≡ string_bytes each.options.kconfig
  pub is_flat : options.is_flat ≡ each.options.is_flat
  pub include : option_map string_bytes options.include ≡ option_map string_bytes each.options.include
  pub with_help : options.with_help ≡ each.options.with_help
  pub explain : map string_bytes options.explain.items ≡ map string_bytes each.options.explain.items
  pub explain_depth : options.explain_depth ≡ each.options.explain_depth
  pub explain_lost : options.explain_lost ≡ each.options.explain_lost
  pub fragments : map string_bytes options.fragments.items ≡ map string_bytes each.options.fragments.items
  pub prefix : options.prefix ≡ each.options.prefix
  pub must_exist : options.must_exist ≡ each.options.must_exist
  pub strict : options.strict ≡ each.options.strict
  pub strict_tree : options.strict_tree ≡ each.options.strict_tree
  pub quiet_tree : options.quiet_tree ≡ each.options.quiet_tree
  pub hints : options.hints ≡ each.options.hints
  pub warn_lost : options.warn_lost ≡ each.options.warn_lost
  pub delivery : options.delivery ≡ each.options.delivery
  pub shows_difference : options.shows_difference ≡ each.options.shows_difference
  pub names_config : options.names_config ≡ each.options.names_config

-- The files that a configuration writes; and those from which it reads user values.
abbrev pub writes : Each → Text → List Text
writes each config = map (λ wanted. filled config (string_bytes wanted.file)) each.options.outputs.items

abbrev pub reads : Each → Text → List Text
reads each config = config ∷ map string_bytes each.options.fragments.items

-- The i-th configuration writes the file of this name; or it reads it.
abbrev pub is_among : Text → List Text → Bool
is_among name = list_any (bytes_eq name)

abbrev pub Writes : Each → List Text → ℕ → Text → Type 0
Writes each configs i name = (i < length configs) × (is_among name (writes each (slice_index_or configs i [])) ≡ true)

abbrev pub Reads : Each → List Text → ℕ → Text → Type 0
Reads each configs i name = (i < length configs) × (is_among name (reads each (slice_index_or configs i [])) ≡ true)

-- No configuration writes a file that another one writes or reads. Otherwise one such file is reported, unless memory ran out.
abbrev pub AreApart : Each → List Text → Type 0
AreApart each configs =
    (i j : ℕ) (name : Text) → i ≢ j → Writes each configs i name → (Writes each configs j name → ⊥) × (Reads each configs j name → ⊥)

abbrev pub IsWrittenTwice : Each → List Text → Text → Type 0
IsWrittenTwice each configs name = (i : ℕ) × (j : ℕ) × (i ≢ j) × Writes each configs i name × Writes each configs j name

abbrev pub IsWrittenAndRead : Each → List Text → Text → Type 0
IsWrittenAndRead each configs name = (i : ℕ) × (j : ℕ) × (i ≢ j) × Writes each configs i name × Reads each configs j name

abbrev pub written_twice_text : Text → Text
written_twice_text name = codes "error: two configurations write the file '" ++ name ++ with_hint (codes "'")

abbrev pub written_and_read_text : Text → Text
written_and_read_text name = codes "error: a configuration writes the file '" ++ name ++ with_hint (codes "', which another one reads")

abbrev pub IsClash : Each → List Text → UsageError → Type 0
IsClash each configs (Bad told) = (name : Text) × ((IsWrittenTwice each configs name × (string_bytes told ≡ written_twice_text name))
    ⊎ (IsWrittenAndRead each configs name × (string_bytes told ≡ written_and_read_text name)))
IsClash each configs Memory = Unit {0}
IsClash each configs _ = ⊥
