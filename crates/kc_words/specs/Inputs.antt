-- For proofs: The options hold what differs between one configuration and many, and the values that were checked.
use Rattle.std.specs.Prelude.{◌≡◌, List, None, Option, Some, codes, map, is_some, option_map, string_bytes, true}
use Rattle.clap.specs.Words.{Row, Text}
use Rattle.kc_language.specs.ConfigFile.{is_prefix}
use Rattle.kc_outcome.specs.Outcome.{Options}
use Rattle.kc_outcome.specs.declared.outcome.Output.{Output}
use Rattle.kc_outcome.specs.declared.outcome.WantedOutput.{WantedOutput}
use Rattle.kc_words.specs.CommandLine.{asked_names, depth_option, filled, goal_option, has_value, notation_option, number_of, prefix_option, steps_option}
use Rattle.kc_words.specs.declared.each.Each.{Each}
use Rattle.kc_words.specs.declared.how.Goal.{Goal}
use Rattle.kc_words.specs.declared.options.Asked.{Asked}
use Rattle.kc_words.specs.declared.options.Form.{Form}
use Rattle.kc_words.specs.declared.options.Inputs.{Inputs}
use Rattle.kc_words.specs.declared.options.Request.{Request, TheVariants.{How, HowEach, One, Each as Many}}
use Rattle.kc_words.specs.declared.options.Values.{Values}

-- an output and its file; the same with the pattern of the file filled; that file
abbrev pub output_view : WantedOutput → Output × Text
output_view wanted = (wanted.kind, string_bytes wanted.file)

abbrev pub filled_view : Text → WantedOutput → Output × Text
filled_view config wanted = (wanted.kind, filled config (string_bytes wanted.file))

abbrev pub filled_file : Text → WantedOutput → Text
filled_file config wanted = filled config (string_bytes wanted.file)

pub record HasInputs (inputs : Inputs) (options : Options) : Type 0 where
  pub config : options.config ≡ inputs.config
  pub outputs : options.outputs ≡ inputs.outputs
  pub fragments : options.fragments ≡ inputs.fragments
  pub must_exist : options.must_exist ≡ inputs.must_exist
  pub names_config : options.names_config ≡ inputs.names_config

pub record IsForm (rows : List Row) (form : Form) : Type 0 where
  pub prefix : form.prefix ≡ notation_option rows
  pub prefix_is_one : is_prefix (prefix_option rows) ≡ true
  pub explain_depth : Some form.explain_depth ≡ number_of (depth_option rows)

-- a name and a value
abbrev pub goal_view : Goal → Text × Text
goal_view goal = (string_bytes goal.name, string_bytes goal.value)

pub record IsAsked (rows : List Row) (asked : Asked) : Type 0 where
  pub goal : option_map goal_view asked.goal ≡ goal_option rows
  pub is_there : is_some asked.goal ≡ has_value (codes "how") rows
  pub steps : Some asked.steps ≡ number_of (steps_option rows)

pub record AreValues (rows : List Row) (values : Values) : Type 0 where
  pub form : IsForm rows values.form
  pub explain : map string_bytes values.explain.items ≡ asked_names rows

-- a request with these options: for what must be set, if a goal is asked for, or for a run
abbrev pub IsQuestionOrRun : Options → Asked → Request → Type 0
IsQuestionOrRun options asked (One one) = (asked.goal ≡ None) × (one ≡ options)
IsQuestionOrRun options asked (How how) = (goal : Goal) × (asked.goal ≡ Some goal) × (how ≡ record { options = options; value = goal.value; steps = asked.steps })
IsQuestionOrRun options asked _ = ⊥

-- the same for many configurations
abbrev pub IsQuestionOrRuns : Each → Asked → Request → Type 0
IsQuestionOrRuns each asked (Many many) = (asked.goal ≡ None) × (many ≡ each)
IsQuestionOrRuns each asked (HowEach how) = (goal : Goal) × (asked.goal ≡ Some goal) × (how ≡ record { each = each; value = goal.value; steps = asked.steps })
IsQuestionOrRuns each asked _ = ⊥
