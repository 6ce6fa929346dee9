-- For proofs: What is computed from the user's input.
use Rattle.kc_read.specs.Files.{files_in}
use Rattle.kc_read.specs.declared.file_map.FileMap.{FileMap}
use Rattle.std.specs.Borrow.{Bor}
use Rattle.std.specs.Option.{option_map_or}
use Rattle.std.specs.Prelude.{◌≡◌, ℕ, Bool, false, ◌||◌, ◌&&◌, if◌then◌else◌, List, [], ◌++◌, map, Option, None, Some, string_bytes}
use Rattle.kc_language.specs.Expansion.{Files}
use Rattle.kc_outcome.specs.Explanations.{new_text_with_help}
use Rattle.kc_language.specs.Symbols.{TreeFacts}
use Rattle.kc_language.specs.Texts.{Solution, new_text, solution_view, warnings}
use Rattle.kc_language.specs.ConfigFile.{Notation, UserInput}
use Rattle.kc_language.specs.{Texts.{IsSolutionFor}, Files.{rule_text}}
use Rattle.kc_outcome.specs.Outcome.{Options, done_outcome, is_not_empty, lead, lines_text, lost_text, refuses_input, target, text_of}
use Rattle.kc_outcome.specs.declared.outcome.Output.{Output}
use Rattle.kc_outcome.specs.declared.outcome.WantedOutput.{WantedOutput}
use Rattle.kc_io.specs.Delivery.{NamedText, texts_of}
use Rattle.kc_conf.specs.declared.compute.Basis.{Basis}

-- the list of new symbols, with help from these files, if there are any; and if it is wanted
abbrev pub new_by : Option (Bor FileMap) → Notation → Solution → List ℕ
new_by None prefix solution = new_text solution.tree prefix (solution_view solution)
new_by (Some files) prefix solution = new_text_with_help (files_in files.now) solution.tree.lines solution.tree prefix (solution_view solution)

abbrev pub new_from : Options → Option (Bor FileMap) → Solution → List ℕ
new_from options files solution = if options.with_help then new_by files options.prefix solution else new_by None options.prefix solution

-- the dependency file that lists these names
abbrev pub rule_by : Options → Option (List (List ℕ)) → List ℕ
rule_by options names = option_map_or (rule_text (target options)) names []

-- a map without files
abbrev no_files : Files
no_files = record { bytes = λ file. None; flat = false }

-- the text of an output, from what the texts are made of
module _ (options : Options) (basis : Basis) where
  abbrev pub text_from : Output → List ℕ
  text_from Output.NewSymbols = new_from options basis.files basis.solved.now
  text_from Output.DependencyFile = rule_by options basis.names.now
  text_from kind = text_of no_files options [] basis.input.now basis.solved.now kind

  -- an output with its text
  abbrev pub named_from : WantedOutput → NamedText
  named_from wanted = record { name = string_bytes wanted.file; bytes = text_from wanted.kind }

-- the warnings about values, and the lost values
abbrev pub value_lines : Options → UserInput → Solution → List ℕ
value_lines options input solution = lines_text (map (λ line. lead options ++ line) (warnings solution)) ++ lost_text options input solution

-- the texts are refused, because of an earlier warning or of these warnings
abbrev pub refuses : Options → UserInput → Solution → Bool → List ℕ → Bool
refuses options input solution before warned = refuses_input options input solution || (options.strict_tree && (before || is_not_empty warned))

-- The warnings of the one solution for the user values were added, and these are its texts, unless they are refused.
-- The files and the files that it opens are those of the tree.
pub record Computes (files : Files) (options : Options) (opened : List (List ℕ)) (tree : TreeFacts) (input : UserInput) (old new : List ℕ)
    (texts : Option (List NamedText)) : Type 0 where
  pub solution : Solution
  pub solution_is : IsSolutionFor tree input.places solution
  pub adds : new ≡ old ++ value_lines options input solution
  pub texts_are : texts ≡ (if refuses options input solution (is_not_empty (lines_text tree.warnings)) new then None else Some (texts_of options (done_outcome files options opened input solution)))
