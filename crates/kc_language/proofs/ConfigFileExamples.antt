-- Examples for the chapter ConfigFile: lines of a `.config`, the values that they give, and the warnings about them.
use Rattle.std.proofs.Common.{refl, ◌≡◌}
use Rattle.std.specs.{Fmt.digits, Prelude.{Bool as Bool_, List, None, Some, [], codes, false, true, ℕ, ◌∷◌}}
use Rattle.kc_language.specs.{ConfigFile.{Malformed, Nothing, ReadResult, Set, Unset, effect, gone_after, lines_after, lines_from, meaning_of, no_input, places_given, reading, reading_of, refused_after, untaken, untaken_line, value_by, warning, warnings}, Symbols.{SymbolFacts, TreeFacts}, Values.{GivenText, GivenTruth}, declared.expressions.{SymbolType.TheVariants.{Bool, Str}, Tri.TheVariants.{N, Y}}}

-- ---- Lines, under the prefix CONFIG_

-- `CONFIG_A="x=y"` sets A: only the first `=` ends the name. Blanks at the end of a line do not count.
set_line : meaning_of (codes "CONFIG_") (codes "CONFIG_A=\"x=y\" \t") ≡ Set (codes "A") (codes "\"x=y\"")
set_line = refl

-- `# CONFIG_A is not set` says that A is not set. Any other comment says nothing.
unset_line : meaning_of (codes "CONFIG_") (codes "# CONFIG_A is not set") ≡ Unset (codes "A")
unset_line = refl

comment_line : meaning_of (codes "CONFIG_") (codes "  # CONFIG_A is set") ≡ Nothing
comment_line = refl

-- A line with a blank at its start is malformed.
blank_at_the_start : meaning_of (codes "CONFIG_") (codes " CONFIG_A=y") ≡ Malformed
blank_at_the_start = refl

-- ---- Values

-- `"a\"b" # x` gives a string symbol the text `a"b`: what follows the closing `"` does not count.
string_value : value_by false Str (codes "\"a\\\"b\" # x") ≡ Some (GivenText (codes "a\"b"))
string_value = refl

-- A raw string has no escapes: it is all between the first `"` and the last byte, which has to be a `"`.
raw_string : value_by true Str (codes "\"a\\\"b\"\"") ≡ Some (GivenText (codes "a\\\"b\""))
raw_string = refl

raw_string_without_end : value_by true Str (codes "\"a\" # x") ≡ None
raw_string_without_end = refl

raw_string_of_one_quote : value_by true Str (codes "\"") ≡ None
raw_string_of_one_quote = refl

-- A bool is y or n by its first byte.
first_byte : value_by false Bool (codes "yes") ≡ Some (GivenTruth Y)
first_byte = refl

-- ---- Whole files

-- A tree with the two bools A and B. What is not named here may be anything.
module _ (any_tree : TreeFacts) (any_facts : SymbolFacts) where
  two_bools : TreeFacts
  two_bools = record any_tree {
    names = codes "A" ∷ codes "B" ∷ [];
    symbols = record any_facts { symbol_type = Bool; choice = None } ∷ record any_facts { symbol_type = Bool; choice = None } ∷ [];
    choices = [];
  }

  -- What the input file `.config` with this text gives, where nothing was given before.
  read_text : List ℕ → ReadResult
  unfolding two_bools reading warnings warning untaken untaken_line lines_after refused_after places_given effect lines_from digits
  read_text text = reading_of two_bools (record { prefix = codes "CONFIG_"; is_raw = false }) (no_input true two_bools) (record { name = codes ".config"; bytes = text } ∷ [])

  -- A gets y. The last line needs no line feed. A symbol that no line names has no value.
  one_value : (read_text (codes "# A comment\r\nCONFIG_A=y")).input.places.symbols ≡ Some (GivenTruth Y) ∷ None ∷ []
  unfolding read_text
  one_value = refl

  -- The last value counts. The second line is reported twice: A is set again (K10), and to another value (K15).
  set_twice : (read_text (codes "CONFIG_A=y\n# CONFIG_A is not set\n")).input.places.symbols ≡ Some (GivenTruth N) ∷ None ∷ []
  unfolding read_text
  set_twice = refl

  set_twice_warned : (read_text (codes "CONFIG_A=y\n# CONFIG_A is not set\n")).warned
      ≡ codes ".config:2: warning K10: A is set again\n.config:2: warning K15: A was y (.config:1) and is now n\n"
  unfolding read_text
  set_twice_warned = refl

  -- An unknown name, a value that the type does not allow, and a malformed line (K7, K8, K9).
  warned_lines : (read_text (codes "CONFIG_C=y\nCONFIG_B=m\nCONFIG_B\n")).warned
      ≡ codes ".config:1: warning K7: unknown symbol C\n.config:2: warning K8: value not allowed for B\n.config:3: warning K9: malformed line\n"
  unfolding read_text
  warned_lines = refl

  -- An unset line of a string has no effect. It is reported (K16) and not taken as written only if this is asked for.
  with_string : TreeFacts
  with_string = record two_bools { symbols = record any_facts { symbol_type = Str; choice = None } ∷ record any_facts { symbol_type = Bool; choice = None } ∷ [] }

  unset_string : Bool_ → ReadResult
  unfolding with_string two_bools reading warnings warning untaken untaken_line lines_after refused_after places_given effect lines_from digits
  unset_string asked =
      reading_of with_string (record { prefix = codes "CONFIG_"; is_raw = false }) (record (no_input true with_string) { asks_unset = asked })
      (record { name = codes ".config"; bytes = codes "# CONFIG_A is not set\n" } ∷ [])

  unset_string_reported : (unset_string true).warned ≡ codes ".config:1: warning K16: A is not bool or tristate, the line has no effect\n"
  unfolding unset_string
  unset_string_reported = refl

  unset_string_untaken : (unset_string true).input.all_taken ≡ false
  unfolding unset_string
  unset_string_untaken = refl

  unset_string_passes : (unset_string false).input.all_taken ≡ true
  unfolding unset_string
  unset_string_passes = refl

  unset_string_silent : (unset_string false).warned ≡ []
  unfolding unset_string
  unset_string_silent = refl

  -- The last line whose value for B is not allowed stays known, even after one that gives B a value.
  refused_lines : (read_text (codes "CONFIG_B=1\nCONFIG_B=m\nCONFIG_B=y\nCONFIG_C=m\n")).input.refused ≡ None ∷ Some (record { at = record { stream = codes ".config"; number = 2 }; value = codes "m" }) ∷ []
  unfolding read_text
  refused_lines = refl

  -- The lines of unknown names, if they are kept: those that are on, and then the others. B has a type, and its line is not among them.
  gone_lines :
      (reading_of two_bools (record { prefix = codes "CONFIG_"; is_raw = false }) (record (no_input false two_bools) { gone = Some ([], []) }) (record {
        name = codes ".config";
        bytes = codes "CONFIG_C=n  \n# CONFIG_D is not set\nCONFIG_E=\"n\" \nCONFIG_B=m\n";
      } ∷ [])).input.gone
      ≡ Some (codes "CONFIG_E=\"n\"\n", codes "CONFIG_C=n\n# CONFIG_D is not set\n")
  unfolding two_bools reading warnings warning untaken untaken_line lines_after refused_after gone_after places_given effect lines_from digits
  gone_lines = refl
