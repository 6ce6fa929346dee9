-- Examples for the chapter Outcome: a dependency file, and a whole run from the bytes of its input to the texts that it writes.
use Rattle.std.proofs.Common.{◌≡◌, refl, sym, ◌∙◌, ap, subst, arith, inl, inr, ◌≤◌, ◌+◌, suc, zero}
use Rattle.std.proofs.lemmas.List.{append-nil}
use Rattle.std.specs.List.{list_all, list_any}
use Rattle.std.specs.Prelude.{List, None, Ok, Option, Some, [], codes, false, find, if◌then◌else◌, is_some, not, String, length, map, min, string_bytes, take, true, ℕ, ◌++◌, ◌-◌, ◌^◌, ◌||◌, ◌∷◌}
use Rattle.std.specs.Fmt.{digits}
use Rattle.std.specs.declared.alloc.Global.{Global}
use Rattle.kc_language.specs.{ConfigFile.{Notation, ReadResult, UserInput, effect, gone_after, lines_after, lines_from, no_input, place_at, places_given, reading, reading_of, refused_after, untaken, untaken_line, warning, warnings}, Expansion.{AreOpened, Expands, Files, NextStatement, ReadSoFar, Reading, Rest, at_end, at_root, bytes_in, goes_on, numbered_lines, statement, without_help}}
use Rattle.kc_language.specs.Expressions.{Atom, Disjunction, OperandToken, QuotedAtom, Single, Symbol, Text, TextValue, Truth, WordAtom, conjunction, lone, negation, only, symbol, terminal_of}
use Rattle.kc_outcome.specs.Explanations.{asked_symbol}
use Rattle.kc_language.specs.Lines.{Physical, UnreadLines, continues, joined_text, physical_lines}
use Rattle.kc_language.specs.Needs.{IsAccepted}
use Rattle.kc_outcome.proofs.OutputLemmas.{has_kind}
use Rattle.kc_outcome.specs.Outcome.{IsAcceptedTree, IsOutcome, IsOutcomeOfReading, Options, Outcome, accepted_tree, first_line, input_names, names_listed, read_of, root_file, streams, target, text_of, unknown_name, unreadable_name, whole}
use Rattle.kc_language.specs.{Files.{is_read_by_make, rule_text}, Statements.{run_error_text}}
use Rattle.kc_language.specs.Statements.{ConfigLine, DefaultLine, LineContext, Located, Named, ReadsLine, ReadsRest, ReadsValue, TypeLine, begins_with, error_line}
use Rattle.kc_language.specs.Symbols.{IsTreeOf, SymbolShown, TreeFacts}
use Rattle.kc_language.specs.Text.{longest_line, natural_of, unescape}
use Rattle.kc_language.specs.Texts.{IsSolution, Solution, config_text, header_text, minimal_text, value_of}
use Rattle.kc_language.specs.Tokens.{AQuoted, AWord, IsCut, Lexeme, ended, is_macro, is_word_byte, skipped, taken}
use Rattle.kc_language.specs.Values.{GivenTruth, IsOnlySolution, Solves, equations, rhs}
use Rattle.kc_language.specs.declared.diagnostics.RunError.{RunError}
use Rattle.kc_language.specs.declared.expressions.SymbolType.{SymbolType}
use Rattle.kc_language.specs.declared.statements.Keyword.TheVariants as key
use Rattle.kc_language.specs.declared.expressions.SymbolType.TheVariants.{Bool as IsBool, Int}
use Rattle.kc_language.specs.declared.expressions.Tri.TheVariants.{Y}
use Rattle.kc_outcome.specs.declared.outcome.Output.TheVariants.{Config, DependencyFile, Explanation, GoneLines, Header, Minimal}
use Rattle.kc_outcome.specs.declared.outcome.Status.TheVariants.{Done}
use Rattle.kc_outcome.specs.declared.outcome.WantedOutput.{WantedOutput}
use Rattle.kc_language.specs.declared.tokens.TextFault.TheVariants.{Macro}
use Rattle.kc_language.proofs.ExampleTools.{one_line, quoted, word}
use Rattle.kc_outcome.proofs.OpenedTools.{opens_no_other}
use Rattle.kc_language.proofs.ValuesExamples.{always, plain}

-- ---- The dependency file

-- The rule has each prerequisite on its own line, and an empty rule for each. A space in a name gets a `\`.
rule_of_two : rule_text (codes "out/.config") (codes "Kconfig" ∷ codes "my board" ∷ [])
    ≡ codes "out/.config: \\\n Kconfig \\\n my\\ board\n\nKconfig:\n\nmy\\ board:\n"
rule_of_two = refl

-- Make cannot read a name with a `*` in it. Such a name is refused with E23.
star_is_unreadable : is_read_by_make (codes "boards/*") ≡ false
star_is_unreadable = refl

star_error : error_line (run_error_text (RunError.UnreadableName (first_line (codes "boards/*")))) ≡ codes "error E23: make cannot read the name boards/*\n"
star_error = refl

-- ---- A whole run: its two input files

-- The root file `Kconfig`. B has no prompt, and its default is A.
--
--     config A
--         bool "a"
--     config B
--         bool
--         default A
--     config C
--         int "c"
--         default "7"
abbrev root_text : List ℕ
root_text = codes "config A\n\tbool \"a\"\nconfig B\n\tbool\n\tdefault A\nconfig C\n\tint \"c\"\n\tdefault \"7\"\n"

abbrev files : Files
files = record { bytes = bytes_in ((codes "Kconfig", root_text) ∷ []); flat = false }

-- The `.config` that is read. Its second line names no symbol of the tree.
abbrev old_config : List ℕ
old_config = codes "CONFIG_A=y\nCONFIG_D=y\n"

-- ---- From the bytes to the statements

-- A physical line with its line feed, and lines that are not read yet.
abbrev row : List ℕ → Physical
row text = record { text = text; ended = true }

abbrev unread : ℕ → List Physical → UnreadLines
unread n rows = record { lines = rows; number = n; refusal = None }

-- A line that does not continue on the next one, and is no help line, reads as its tokens do.
next_line : (text : List ℕ) (more : List Physical) (n : ℕ) (t : Lexeme) (ts : List Lexeme) (c : LineContext) (s : Named) →
    continues (row text) ≡ false → length text ≤ longest_line → IsCut text (t ∷ ts) None → list_any is_macro (t ∷ ts) ≡ false →
    (begins_with (codes "help") (t ∷ ts) || begins_with (codes "---help---") (t ∷ ts)) ≡ false → ReadsLine c (t ∷ ts) (Ok s) →
    NextStatement false (unread n (row text ∷ more)) (unread (min (n + 1) (2 ^ 32 - 1)) more) c (Ok s)
next_line text more n t ts c s ends short cut no_macro no_help reads = record {
  tokens = t ∷ ts;
  some = λ e. omega (arith, ap length e);
  reads = reads;
  next = record {
    middle = middle;
    text = text;
    taken = (row text ∷ [], one_line (row text) more ends, joined, short, refl, refl);
    cut = record { stop = None; cut = cut; out_is = sym (ap (λ b. if b then Some Macro else None) no_macro) };
    left_after = sym (ap (λ b. if b then without_help middle else middle) no_help);
  };
}
  where
    middle : UnreadLines
    middle = unread (min (n + 1) (2 ^ 32 - 1)) more

    joined : text ≡ joined_text (row text ∷ [])
    joined = sym (ap (λ b. (if b then take (length text - 1) text else text) ++ []) ends ∙ append-nil text)

-- The expressions that are one word or one quoted text.
abbrev single : Atom → Disjunction
single a = only (conjunction (only (negation (lone a))))

-- The statements of the root file, by line.
abbrev at : ℕ → Named → Located Named
at n s = record { file = codes "Kconfig"; line = n; statement = s }

abbrev read_statements : List (Located Named)
read_statements =
    at 1 (ConfigLine (codes "A")) ∷ at 2 (TypeLine IsBool (Some (record { text = codes "a"; when = None }))) ∷
    at 3 (ConfigLine (codes "B")) ∷ at 4 (TypeLine IsBool None) ∷ at 5 (DefaultLine (single (WordAtom (codes "A"))) None) ∷
    at 6 (ConfigLine (codes "C")) ∷ at 7 (TypeLine Int (Some (record { text = codes "c"; when = None }))) ∷
    at 8 (DefaultLine (single (QuotedAtom (codes "7"))) None) ∷ []

abbrev log_of : List (Located Named) → ReadSoFar
log_of ls = record { lines = ls; total_lines = 8; opened = codes "Kconfig" ∷ [] }

-- One operand to the end of the line is a value.
reads_operand : (t : Lexeme) (a : Atom) → terminal_of t ≡ OperandToken a → ReadsValue DefaultLine (t ∷ []) (Ok (DefaultLine (single a) None))
reads_operand t a e = (
  record { tree = single a; rest = [] },
  None,
  record {
    used = 1;
    rest_is = refl;
    within = omega arith;
    longest = record { whole = ap (λ x. x ∷ []) e; begins = (single a, [], refl); longest = tt };
  },
  refl,
  refl,
)

-- A text and no condition is the prompt of a type.
reads_prompt : (k : SymbolType) (text : List ℕ) →
    ReadsRest [] (key.Type k) (AQuoted text ∷ []) (Ok (TypeLine k (Some (record { text = unescape text; when = None }))))
reads_prompt k text = inr ((_, _, refl), (None, refl, refl))

-- How the lines are cut.
cut_config : (c : ℕ) → list_all is_word_byte (c ∷ []) ≡ true → IsCut (codes "config " ++ c ∷ []) (AWord (codes "config") ∷ AWord (c ∷ []) ∷ []) None
cut_config c e = taken (word _ (codes "onfig") (32 ∷ c ∷ []) refl refl) (skipped refl (taken (word c [] [] e refl) (ended (inl refl))))

cut_bool_prompt : IsCut (codes "\tbool \"a\"") (AWord (codes "bool") ∷ AQuoted (codes "a") ∷ []) None
cut_bool_prompt = skipped refl (taken (word _ (codes "ool") _ refl refl) (skipped refl (taken (quoted (codes "a") _ refl) (ended (inl refl)))))

cut_bool : IsCut (codes "\tbool") (AWord (codes "bool") ∷ []) None
cut_bool = skipped refl (taken (word _ (codes "ool") [] refl refl) (ended (inl refl)))

cut_default_word : IsCut (codes "\tdefault A") (AWord (codes "default") ∷ AWord (codes "A") ∷ []) None
cut_default_word = skipped refl (taken (word _ (codes "efault") _ refl refl) (skipped refl (taken (word _ [] [] refl refl) (ended (inl refl)))))

cut_int_prompt : IsCut (codes "\tint \"c\"") (AWord (codes "int") ∷ AQuoted (codes "c") ∷ []) None
cut_int_prompt = skipped refl (taken (word _ (codes "nt") _ refl refl) (skipped refl (taken (quoted (codes "c") _ refl) (ended (inl refl)))))

cut_default_text : IsCut (codes "\tdefault \"7\"") (AWord (codes "default") ∷ AQuoted (codes "7") ∷ []) None
cut_default_text = skipped refl (taken (word _ (codes "efault") _ refl refl) (skipped refl (taken (quoted (codes "7") _ refl) (ended (inl refl)))))

-- The physical lines of the root file, and what reading them gives.
abbrev rows : List Physical
rows = row (codes "config A") ∷ row (codes "\tbool \"a\"") ∷ row (codes "config B") ∷ row (codes "\tbool") ∷ row (codes "\tdefault A") ∷
    row (codes "config C") ∷ row (codes "\tint \"c\"") ∷ row (codes "\tdefault \"7\"") ∷ []

-- No other file is open, and no block.
abbrev at_first : Reading
at_first = record { context = record { open_files = codes "Kconfig" ∷ []; file = codes "Kconfig"; blocks = [] }; unread = unread 1 rows; own = []; log = log_of [] }

rest_is_read : Rest files at_first (Ok (log_of read_statements))
rest_is_read =
    goes_on _ _ _ (statement _ _ (next_line (codes "config A") _ _ _ _ _ _ refl (omega arith) (cut_config 65 refl) refl refl refl) refl refl) (
    goes_on _ _ _ (statement _ _ (next_line (codes "\tbool \"a\"") _ _ _ _ _ _ refl (omega arith) cut_bool_prompt refl refl (reads_prompt _ _)) refl refl) (
    goes_on _ _ _ (statement _ _ (next_line (codes "config B") _ _ _ _ _ _ refl (omega arith) (cut_config 66 refl) refl refl refl) refl refl) (
    goes_on _ _ _ (statement _ _ (next_line (codes "\tbool") _ _ _ _ _ _ refl (omega arith) cut_bool refl refl (inl (refl, refl))) refl refl) (
    goes_on _ _ _ (statement _ _ (next_line (codes "\tdefault A") _ _ _ _ _ _ refl (omega arith) cut_default_word refl refl
    (reads_operand _ _ refl)) refl refl) (
    goes_on _ _ _ (statement _ _ (next_line (codes "config C") _ _ _ _ _ _ refl (omega arith) (cut_config 67 refl) refl refl refl) refl refl) (
    goes_on _ _ _ (statement _ _ (next_line (codes "\tint \"c\"") _ _ _ _ _ _ refl (omega arith) cut_int_prompt refl refl (reads_prompt _ _)) refl refl) (
    goes_on _ _ _ (statement _ _ (next_line (codes "\tdefault \"7\"") _ _ _ _ _ _ refl (omega arith) cut_default_text refl refl
    (reads_operand _ _ refl)) refl refl) (
    at_end _ refl refl))))))))

-- The root file expands to these statements.
root_expands : Expands files (codes "Kconfig") (Ok (log_of read_statements))
unfolding physical_lines
root_expands = (root_text, refl, rest_is_read)

-- It has no `source` line, so it is the only file that is opened.
only_root_opened : AreOpened files (codes "Kconfig") (codes "Kconfig" ∷ [])
unfolding physical_lines
only_root_opened log expands = opens_no_other refl (subst (λ text. rest_of text) (same_text expands.1) expands.2) refl
  where
    rest_of : List ℕ → Type 0
    rest_of text = Rest files (at_root files (codes "Kconfig") text) (Ok log)

    text_of : Option (List ℕ) → List ℕ
    text_of None = []
    text_of (Some text) = text

    same_text : {bytes : List ℕ} → files.bytes (codes "Kconfig") ≡ Some bytes → bytes ≡ root_text
    same_text e = sym (ap text_of e)

-- ---- From the statements to the tree

-- What the tree says of the three symbols.
abbrev tree : TreeFacts
tree = record {
  names = codes "A" ∷ codes "B" ∷ codes "C" ∷ [];
  symbols =
      record plain { prompts = always ∷ [] } ∷
      record plain { defaults = record { what = Single (Symbol (symbol 0)); when = always } ∷ [] } ∷
      record plain { symbol_type = Int; prompts = always ∷ []; defaults = record { what = Single (Text (codes "7")); when = always } ∷ [] } ∷ [];
  defined = symbol 0 ∷ symbol 1 ∷ symbol 2 ∷ [];
  choices = [];
  entries = SymbolShown (symbol 0) ∷ SymbolShown (symbol 1) ∷ SymbolShown (symbol 2) ∷ [];
  warnings = [];
  main_menu = codes "Main menu";
  modules = None;
  lines = numbered_lines (log_of read_statements).lines;
}

tree_is_built : IsTreeOf files (codes "Kconfig") (Ok tree)
tree_is_built = (Ok (log_of read_statements), root_expands, refl)

-- B needs A, and nothing needs B or C: there is no loop.
tree_is_accepted : IsAccepted tree
tree_is_accepted zero h = refl
tree_is_accepted (suc zero) h = refl
tree_is_accepted (suc (suc zero)) h = refl
tree_is_accepted (suc (suc (suc s))) h = absurd (omega (arith, h))

-- ---- From the `.config` to the values

-- Reading the `.config` gives A the value y, and one warning.
abbrev read : ReadResult
read = record {
  input = record { places = record { symbols = Some (GivenTruth Y) ∷ None ∷ None ∷ []; choices = [] }; lines = []; refused = []; all_taken = false; gone = None; asks_unset = false; lead = [] };
  warned = codes ".config:2: warning K7: unknown symbol D\n";
  stopped = None;
}

-- The names have the prefix CONFIG_, and strings have escapes.
abbrev plain_notation : Notation
plain_notation = record { prefix = codes "CONFIG_"; is_raw = false }

config_is_read :
    reading_of tree plain_notation (no_input false tree) (record { name = codes ".config"; bytes = old_config } ∷ []) ≡ read
unfolding reading warnings warning untaken untaken_line lines_after refused_after gone_after places_given effect lines_from digits
config_is_read = refl

-- The values: A and B are y, and C is 7.
abbrev solution : Solution
solution = record { tree = tree; places = read.input.places; values = Truth Y ∷ Truth Y ∷ TextValue Int (codes "7") ∷ [] }

-- They solve the equations, and no others do: the equations give A and C their values, and then B its value from that of A.
is_solution : IsSolution solution
unfolding natural_of digits
is_solution = record { places = record { symbols = refl; choices = refl }; count = refl; solves = solves; only = only_these }
  where
    solves : Solves 3 (equations tree (place_at solution.places)) (value_of solution)
    solves zero h = refl
    solves (suc zero) h = refl
    solves (suc (suc zero)) h = refl
    solves (suc (suc (suc s))) h = absurd (omega (arith, h))

    only_these : IsOnlySolution 3 (equations tree (place_at solution.places)) (value_of solution)
    only_these W solved zero h = solved 0 h
    only_these W solved (suc zero) h = solved 1 h ∙ ap (λ v. rhs tree 1 None (λ i. v)) (solved 0 (omega arith))
    only_these W solved (suc (suc zero)) h = solved 2 h
    only_these W solved (suc (suc (suc s))) h = absurd (omega (arith, h))

-- ---- The outcome

-- The run writes a `.config`, a header and a minimal file. Warnings are not refused. The other options may be anything.
module _ (any : Options) (out header minimal : String Global) (root_is : string_bytes any.kconfig ≡ codes "Kconfig")
    (config_is : string_bytes any.config ≡ codes ".config") (no_fragments : any.fragments.items ≡ []) (no_names : any.explain.items ≡ [])
    (outputs_are : any.outputs.items ≡ record { kind = Config; file = out } ∷ record { kind = Header; file = header } ∷ record { kind = Minimal; file = minimal } ∷ []) where
  abbrev options : Options
  options = record any {
    prefix = plain_notation;
    strict = false;
    strict_tree = false;
    warn_lost = false;
    names_config = false;
    with_help = false;
    explain_lost = false;
  }

  -- The texts, the diagnostics and the status that the run is to leave. Only A differs from its default, so only A is in the minimal file.
  abbrev outcome : Outcome
  outcome = record {
    texts =
        codes "#\n# Automatically generated file; DO NOT EDIT.\n# Main menu\n#\nCONFIG_A=y\nCONFIG_B=y\nCONFIG_C=7\n" ∷
        codes "/*\n * Automatically generated file; DO NOT EDIT.\n * Main menu\n */\n#define CONFIG_A 1\n#define CONFIG_B 1\n#define CONFIG_C 7\n" ∷
        codes "CONFIG_A=y\n" ∷ [];
    warned = codes ".config:2: warning K7: unknown symbol D\n";
    refusal = [];
    status = Done;
  }

  -- What stands before the first line, with these outputs.
  abbrev input_for : List WantedOutput → UserInput
  input_for outputs = record (no_input (has_kind outputs Explanation) tree) { gone = if has_kind outputs GoneLines then Some ([], []) else None }

  -- The `.config` is the only input file.
  input_is_read : read_of options tree (old_config ∷ []) ≡ read
  input_is_read =
      ap (λ outputs. reading_of tree plain_notation (input_for outputs) (streams (input_names options) (old_config ∷ []))) outputs_are
      ∙ ap (λ items. reading_of tree plain_notation (no_input false tree)
      (streams (string_bytes any.config ∷ map (λ name. [] ++ string_bytes name) items) (old_config ∷ []))) no_fragments
      ∙ ap (λ name. reading_of tree plain_notation (no_input false tree) (record { name = name; bytes = old_config } ∷ [])) config_is
      ∙ config_is_read

  -- From the reading to the outcome.
  reading_has_outcome : (opened : List (List ℕ)) → IsOutcomeOfReading files options opened tree read outcome
  unfolding config_text header_text minimal_text natural_of digits
  reading_has_outcome opened = whole solution refl (record { tree_is = refl; places_are = refl; solves = is_solution })
      (ap (λ (outputs : List WantedOutput). let o : Outcome = record outcome {
        texts = map (λ wanted. text_of files options opened read.input solution wanted.kind) outputs;
      } in o) (sym outputs_are))

  -- The whole run: from the bytes of `Kconfig` and of `.config` to the outcome.
  run_has_outcome : IsOutcome files options (old_config ∷ []) outcome
  run_has_outcome = (outcome, codes "Kconfig" ∷ [], accepted_tree tree accepted none_unread none_unknown (outcome, read_outcome, refl), opened, refl)
    where
      accepted : IsAcceptedTree files (root_file options) tree
      accepted = subst (λ root. IsAcceptedTree files root tree) (sym root_is) (record { built = tree_is_built; accepted = tree_is_accepted })

      read_outcome : IsOutcomeOfReading files options (codes "Kconfig" ∷ []) tree (read_of options tree (old_config ∷ [])) outcome
      read_outcome = subst (λ r. IsOutcomeOfReading files options (codes "Kconfig" ∷ []) tree r outcome) (sym input_is_read) (reading_has_outcome (codes "Kconfig" ∷ []))

      none_unread : unreadable_name options (codes "Kconfig" ∷ []) ≡ None
      none_unread = ap (λ outputs. if has_kind outputs DependencyFile
          then find (λ name. not (is_read_by_make name)) (target options ∷ names_listed options (codes "Kconfig" ∷ [])) else None) outputs_are

      none_unknown : unknown_name options tree ≡ None
      none_unknown = ap (λ names. find (λ asked. not (is_some (asked_symbol tree (codes "CONFIG_") asked))) (map string_bytes names)) no_names

      opened : AreOpened files (root_file options) (codes "Kconfig" ∷ [])
      opened = subst (λ root. AreOpened files root (codes "Kconfig" ∷ [])) (sym root_is) only_root_opened
