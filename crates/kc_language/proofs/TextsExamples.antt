-- Examples for the chapter Texts: lines and layout of the files that a run writes.
use Rattle.std.proofs.Common.{refl, ◌≡◌}
use Rattle.std.specs.Prelude.{None, [], codes, false, true, ◌==◌, ◌∷◌}
use Rattle.kc_language.specs.{Expressions.{TextValue, Truth, symbol}, Symbols.{Condition, EndShown, MenuShown, SymbolFacts, SymbolShown, TreeFacts}, Texts.{SolutionView, config_file_line, config_text, header_line, header_text, minimal_text, new_text}, declared.expressions.{SymbolType.TheVariants.{Bool, Hex, Str}, Tri.TheVariants.{M, N, Y}}}

-- The `.config` line of a bool that is n, and of a string with a `"` in it.
written_n : config_file_line false (codes "CONFIG_A") (Truth N) ≡ codes "# CONFIG_A is not set\n"
written_n = refl

written_string : config_file_line false (codes "CONFIG_A") (TextValue Str (codes "a\"b")) ≡ codes "CONFIG_A=\"a\\\"b\"\n"
written_string = refl

-- A raw string is written as it is, in a header too.
written_raw_string : config_file_line true (codes "CONFIG_A") (TextValue Str (codes "a\"\\b")) ≡ codes "CONFIG_A=\"a\"\\b\"\n"
written_raw_string = refl

header_raw_string : header_line true (codes "CONFIG_A") (TextValue Str (codes "a\"\\b")) ≡ codes "#define CONFIG_A \"a\"\\b\"\n"
header_raw_string = refl

-- A header writes a hex with `0x`, also where the value has none.
header_hex : header_line false (codes "CONFIG_A") (TextValue Hex (codes "ff")) ≡ codes "#define CONFIG_A 0xff\n"
header_hex = refl

-- In a header the name of a module ends in `_MODULE`. A symbol that is n has no line.
header_m : header_line false (codes "CONFIG_A") (Truth M) ≡ codes "#define CONFIG_A_MODULE 1\n"
header_m = refl

header_n : header_line false (codes "CONFIG_A") (Truth N) ≡ []
header_n = refl

-- A tree with two bools: A in the menu `Net`, and B after it. What is not named here may be anything.
module _ (any_tree : TreeFacts) (any_facts : SymbolFacts) (always : Condition) where
  two_bools : TreeFacts
  two_bools = record any_tree {
    names = codes "A" ∷ codes "B" ∷ [];
    symbols = record any_facts { symbol_type = Bool; choice = None } ∷ record any_facts { symbol_type = Bool; choice = None } ∷ [];
    defined = symbol 0 ∷ symbol 1 ∷ [];
    entries = MenuShown (codes "Net") always ∷ SymbolShown (symbol 0) ∷ EndShown 0 ∷ SymbolShown (symbol 1) ∷ [];
    main_menu = codes "Main";
  }

  -- Both are y and written, and the menu is shown. Only B differs from what it is without the user, and only A is new.
  all_y : SolutionView
  all_y = record { value = λ s. Truth Y; written = λ s. true; differs = λ s. s.0 == 1; is_new = λ s. s.0 == 0; truth = λ c. Y }

  -- A menu has its title after an empty line, its symbols, and an end line. An empty line stands before the symbol after it.
  menu_layout : config_text two_bools (record { prefix = codes "CONFIG_"; is_raw = false }) all_y
      ≡ codes "#\n# Automatically generated file; DO NOT EDIT.\n# Main\n#\n\n#\n# Net\n#\nCONFIG_A=y\n# end of Net\n\nCONFIG_B=y\n"
  unfolding two_bools all_y config_text
  menu_layout = refl

  -- The header has a line for each of them, and no menus.
  header_layout : header_text two_bools (record { prefix = codes "CONFIG_"; is_raw = false }) all_y
      ≡ codes "/*\n * Automatically generated file; DO NOT EDIT.\n * Main\n */\n#define CONFIG_A 1\n#define CONFIG_B 1\n"
  unfolding two_bools all_y header_text
  header_layout = refl

  -- The minimal file has the one that differs, and no heading.
  minimal_layout : minimal_text two_bools (record { prefix = codes "CONFIG_"; is_raw = false }) all_y ≡ codes "CONFIG_B=y\n"
  unfolding two_bools all_y minimal_text
  minimal_layout = refl

  -- The list of new symbols has the one that is new, and no heading.
  new_layout : new_text two_bools (record { prefix = codes "CONFIG_"; is_raw = false }) all_y ≡ codes "CONFIG_A=y\n"
  unfolding two_bools all_y new_text
  new_layout = refl
