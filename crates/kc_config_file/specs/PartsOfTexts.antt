-- For proofs: Names for parts of the definitions of Texts.
use Rattle.std.specs.{List.{enumerate_from, flat_map}, Prelude.{Bool, List, None, Option, Some, [], codes, false, if◌then◌else◌, take, true, ℕ, ◌++◌, ◌<◌, ◌≡◌}}
use Rattle.kc_language.specs.{ConfigFile.{Notation, Places, place_at}, Expressions.{SymbolValue, TextValue}, Symbols.{CommentShown, EndShown, MenuShown, Shown, SymbolShown, TreeFacts}, Text.has_hex_prefix, Texts.{EndsPlainly, SolutionView, end_is_last, entry_text, header_line, symbol_config, symbol_new, title_lines}, Values.{Solves, equations, name as name_of, name_count}, declared.expressions.{SymId.SymId, SymbolType.TheVariants.{Hex, Int}}}

-- a hex starts with `0x` in a header
abbrev pub hex_text : List ℕ → List ℕ
hex_text text = if has_hex_prefix text then text else codes "0x" ++ text

abbrev pub config_heading : List ℕ → List ℕ
config_heading title = codes "#\n# Automatically generated file; DO NOT EDIT.\n# " ++ title ++ codes "\n#\n"

abbrev pub header_heading : List ℕ → List ℕ
header_heading title = codes "/*\n * Automatically generated file; DO NOT EDIT.\n * " ++ title ++ codes "\n */\n"

abbrev pub end_line : List ℕ → List ℕ
end_line text = codes "# end of " ++ text ++ codes "\n"

abbrev pub title_if : Bool → List ℕ → List ℕ
title_if shown text = if shown then title_lines text else []

abbrev pub end_if : Option (List ℕ) → List ℕ
end_if None = []
end_if (Some text) = end_line text

-- an empty line separates an end line from a symbol's line directly after it
abbrev pub gap : Bool → List ℕ
gap after_end = if after_end then codes "\n" else []

abbrev pub is_end : Shown → Bool
is_end (SymbolShown s) = false
is_end (MenuShown text when) = false
is_end (EndShown menu) = true
is_end (CommentShown text when) = false

module _ (tree : TreeFacts) (prefix : Notation) (solution : SolutionView) where
  abbrev pub symbol_header : SymId → List ℕ
  symbol_header s = header_line prefix.is_raw (prefix.prefix ++ name_of tree s) (solution.value s)

  -- the text of all entries, in order: each one depends on the entries before it
  abbrev pub entries_text : List Shown → List ℕ
  entries_text entries = flat_map (λ (i, entry). entry_text tree prefix solution (end_is_last tree solution (take i entries)) entry) (enumerate_from 0 entries)

  abbrev pub header_if : SymId → List ℕ
  header_if s = if solution.written s then symbol_header s else []

  abbrev pub minimal_if : SymId → List ℕ
  minimal_if s = if solution.differs s then symbol_config tree prefix solution s else []

  abbrev pub new_if : SymId → List ℕ
  new_if s = if solution.is_new s then symbol_new tree prefix solution s else []

abbrev pub IsPlainNumber : SymbolValue → Type 0
IsPlainNumber v = elim v [ TextValue Int text ↦ EndsPlainly text | TextValue Hex text ↦ EndsPlainly text | _ ↦ Unit {0} ]

-- V is not a solution for these user values
abbrev pub HasOtherSolution : TreeFacts → Places → (ℕ → SymbolValue) → Type 0
HasOtherSolution tree places V =
    (W : ℕ → SymbolValue) → Solves (name_count tree) (equations tree (place_at places)) W → ((i : ℕ) → i < name_count tree → W i ≡ V i) → ⊥

-- the line of a title, between the `#` lines around it
abbrev pub title_line : List ℕ → List ℕ
title_line text = codes "# " ++ text

-- the lines of the minimal file for the symbols that pass the test
abbrev pub kept_lines : TreeFacts → Notation → SolutionView → (SymId → Bool) → List ℕ
kept_lines tree prefix solution keep = flat_map (λ s. if keep s then minimal_if tree prefix solution s else []) tree.defined
