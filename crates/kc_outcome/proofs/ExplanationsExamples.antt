-- Examples for the chapter Explanations: expressions with and without parentheses, explanations, causes of lost values, and definitions as comments.
use Rattle.std.proofs.Common.{◌≡◌, refl}
use Rattle.std.specs.Fmt.{digits}
use Prim.Native.String.{String}
use Rattle.std.specs.Prelude.{List, None, Option, Some, [], codes, false, true, ℕ, ◌++◌, ◌∷◌}
use Rattle.kc_language.specs.{ConfigFile.{Places, RefusedLine, StreamLocation, UserInput}, Expressions.{Every, Form, LoneM, Negated, Related, Single, Some_of, Symbol, SymbolValue, Text, TextValue, Truth, forms, symbol}, ExpressionTexts.{expression_text}, Lines.{physical_lines}, Statements.{ChoiceLine, ConfigLine, DefaultLine, DependsLine, EndChoiceLine, EndMenuLine, HelpLine, ImplyLine, InputPrompt, Located, MenuLine, Numbered, PromptLine, RangeLine, SelectLine, TypeLine}, Symbols.{facts_with}, Text.{natural_of}, Texts.{Solution}, Values.{GivenText, GivenTruth}, declared.expressions.{SymbolType.TheVariants.{Bool as IsBool, Int, Tristate, Undefined}, Tri.TheVariants.{M, N, Y}}}
use Rattle.kc_outcome.specs.Explanations.{causes_lines, definition_comments, differs_by_one, excerpt, explanation_text, text_of_lines}
use Rattle.kc_language.specs.declared.tokens.Op.TheVariants as op

abbrev names : List (List ℕ)
names = codes "A" ∷ codes "B" ∷ codes "C" ∷ codes "1" ∷ codes "10" ∷ codes "20" ∷ []

abbrev a : Form
a = Single (Symbol (symbol 0))

abbrev b : Form
b = Single (Symbol (symbol 1))

abbrev c : Form
c = Single (Symbol (symbol 2))

-- `A && (B && C)` and `A && B && C` are two expressions.
keeps_the_grouping : expression_text names (Every (forms (a ∷ Every (forms (b ∷ c ∷ [])) ∷ []))) ≡ codes "A && (B && C)"
keeps_the_grouping = refl

needs_no_parentheses : expression_text names (Some_of (forms (Every (forms (a ∷ b ∷ c ∷ [])) ∷ Negated (Related op.Ne (Symbol (symbol 1)) (Text (codes "a\"b"))) ∷ LoneM ∷ []))) ≡
    codes "A && B && C || !B != \"a\\\"b\" || m"
needs_no_parentheses = refl

needs_parentheses : expression_text names (Negated (Some_of (forms (a ∷ Every (forms (Some_of (forms (b ∷ c ∷ [])) ∷ b ∷ [])) ∷ [])))) ≡ codes "!(A || (B || C) && B)"
needs_parentheses = refl

-- ---- Why has B its value?
--
--     1 config A
--     2     bool "a"
--     3     default y
--     4 menu "Bus"
--     5     depends on A
--     6 config B
--     7     int "b" if !C
--     8     range 1 10 if A
--     9     default 20
--    10 endmenu
--    11 config C
--    12     bool "c"
--
-- C is y, so B has no prompt, and the user's 5 (line 2 of the .config) is lost.
abbrev at : ℕ → Numbered → Located Numbered
at n s = record { file = codes "K"; line = n; statement = s }

abbrev shown : Option Form → Option (InputPrompt Form)
shown w = Some (record { text = []; when = w })

abbrev lines : List (Located Numbered)
lines =
    at 1 (ConfigLine (symbol 0)) ∷ at 2 (TypeLine IsBool (shown None)) ∷ at 3 (DefaultLine (Single (Text (codes "y"))) None) ∷
    at 4 (MenuLine (codes "Bus")) ∷ at 5 (DependsLine a) ∷ at 6 (ConfigLine (symbol 1)) ∷ at 7 (TypeLine Int (shown (Some (Negated c)))) ∷
    at 8 (RangeLine (Symbol (symbol 3)) (Symbol (symbol 4)) (Some a)) ∷ at 9 (DefaultLine (Single (Symbol (symbol 5))) None) ∷ at 10 EndMenuLine ∷
    at 11 (ConfigLine (symbol 2)) ∷ at 12 (TypeLine IsBool (shown None)) ∷ []

abbrev word : String → SymbolValue
word called = TextValue Undefined (codes called)

abbrev solution : Solution
solution = record {
  tree = facts_with names lines;
  places = record { symbols = None ∷ Some (GivenText (codes "5")) ∷ Some (GivenTruth Y) ∷ None ∷ None ∷ None ∷ []; choices = [] };
  values = Truth Y ∷ TextValue Int (codes "10") ∷ Truth Y ∷ word "1" ∷ word "10" ∷ word "20" ∷ [];
}

abbrev line : ℕ → StreamLocation
line number = record { stream = codes ".config"; number = number }

abbrev refused : ℕ → String → Option RefusedLine
refused number value = Some (record { at = line number; value = codes value })

abbrev given : Places → List (Option StreamLocation) → List (Option RefusedLine) → UserInput
given places lines refused = record { places = places; lines = lines; refused = refused; all_taken = true; gone = None; asks_unset = false; lead = [] }

abbrev input : UserInput
input = given solution.places (None ∷ Some (line 2) ∷ Some (line 1) ∷ []) (None ∷ refused 3 "1x" ∷ refused 4 "m" ∷ [])

-- The range that counts is told with its bounds. C is the symbol that holds B down.
explanation_of_B : explanation_text input solution false 1 (symbol 1) ≡
    codes "B=10 (int): default, moved into its range\n"
    ++ codes "  in Bus\n"
    ++ codes "  .config:2: user value 5\n"
    ++ codes "  .config:3: user value 1x: not allowed for an int\n"
    ++ codes "  K:6: dependencies: y\n"
    ++ codes "    K:5: depends on A: y\n"
    ++ codes "  K:7: prompt: n\n"
    ++ codes "    K:7: if !C: n\n"
    ++ codes "  K:8: range 1 10 if A: y, 1 to 10\n"
    ++ codes "  K:9: default 20: y, value 20\n"
    ++ codes "  C=y (bool): user value\n"
    ++ codes "    .config:1: user value y\n"
    ++ codes "    .config:4: user value m: not allowed for a bool\n"
    ++ codes "    K:11: dependencies: y\n"
    ++ codes "    K:12: prompt: y\n"
unfolding natural_of digits
explanation_of_B = refl

-- Why is the user's value of B lost? C holds it down.
causes_of_lost_B : text_of_lines (codes "  ") (causes_lines input solution false (symbol 1 ∷ []) 1) ≡
    codes "  C=y holds down 1 of them: B\n"
    ++ codes "    C=y (bool): user value\n"
    ++ codes "      .config:1: user value y\n"
    ++ codes "      .config:4: user value m: not allowed for a bool\n"
    ++ codes "      K:11: dependencies: y\n"
    ++ codes "      K:12: prompt: y\n"
unfolding natural_of digits
causes_of_lost_B = refl

-- ---- A choice: the line that chose the member is told, and the member. The choice is K:1, and A and B are its members.
choice_lines : List (Located Numbered)
choice_lines =
    at 1 ChoiceLine ∷ at 2 (PromptLine (record { text = []; when = None })) ∷
    at 3 (ConfigLine (symbol 0)) ∷ at 4 (TypeLine IsBool (shown None)) ∷ at 5 (ConfigLine (symbol 1)) ∷ at 6 (TypeLine IsBool (shown None)) ∷ at 7 EndChoiceLine ∷ []

abbrev choice_solution : Solution
choice_solution = record {
  tree = facts_with (codes "A" ∷ codes "B" ∷ []) choice_lines;
  places = record { symbols = Some (GivenTruth Y) ∷ Some (GivenTruth Y) ∷ []; choices = Some (symbol 1) ∷ [] };
  values = Truth N ∷ Truth Y ∷ [];
}

explanation_of_A : explanation_text (given choice_solution.places (Some (line 1) ∷ Some (line 2) ∷ []) []) choice_solution false 1 (symbol 0) ≡
    codes "A=n (bool): choice of the user\n"
    ++ codes "  .config:1: user value y\n"
    ++ codes "  K:3: dependencies: y\n"
    ++ codes "    K:1: choice: y\n"
    ++ codes "  K:4: prompt: y\n"
    ++ codes "  K:1: choice: y\n"
    ++ codes "  K:2: prompt: y\n"
    ++ codes "  .config:2: chosen member B\n"
    ++ codes "  member B: y\n"
unfolding natural_of digits choice_lines
explanation_of_A = refl

-- ---- Lines that select and imply a tristate: those that raise are told one by one, the others as one.
--
--     1 config T
--     2     tristate
--     3     default m
--     4 config S
--     5     tristate "s"
--     6     select T if MODULES
--     7     imply T
--     8 config R
--     9     tristate "r"
--    10     select T
--    11     select T if S
--    12 config MODULES
--    13     bool
--    14     default y
raised_lines : List (Located Numbered)
raised_lines =
    at 1 (ConfigLine (symbol 0)) ∷ at 2 (TypeLine Tristate None) ∷ at 3 (DefaultLine (Single (Text (codes "m"))) None) ∷
    at 4 (ConfigLine (symbol 1)) ∷ at 5 (TypeLine Tristate (shown None)) ∷ at 6 (SelectLine (symbol 0) (Some (Single (Symbol (symbol 3))))) ∷
    at 7 (ImplyLine (symbol 0) None) ∷
    at 8 (ConfigLine (symbol 2)) ∷ at 9 (TypeLine Tristate (shown None)) ∷ at 10 (SelectLine (symbol 0) None) ∷ at 11 (SelectLine (symbol 0) (Some b)) ∷
    at 12 (ConfigLine (symbol 3)) ∷ at 13 (TypeLine IsBool None) ∷ at 14 (DefaultLine (Single (Text (codes "y"))) None) ∷ []

abbrev raised_solution : Solution
raised_solution = record {
  tree = facts_with (codes "T" ∷ codes "S" ∷ codes "R" ∷ codes "MODULES" ∷ []) raised_lines;
  places = record { symbols = None ∷ Some (GivenTruth M) ∷ None ∷ None ∷ []; choices = [] };
  values = Truth M ∷ Truth M ∷ Truth N ∷ Truth Y ∷ [];
}

explanation_of_T : explanation_text (given raised_solution.places [] []) raised_solution false 1 (symbol 0) ≡
    codes "T=m (tristate): default\n"
    ++ codes "  K:1: dependencies: y\n"
    ++ codes "  modules MODULES=y\n"
    ++ codes "  K:6: selected by S=m if MODULES: m\n"
    ++ codes "  not selected: 2 lines, all n\n"
    ++ codes "  K:3: default m: y, value m\n"
    ++ codes "  K:7: implied by S=m: m\n"
unfolding natural_of digits raised_lines
explanation_of_T = refl

-- ---- A definition as it is written: attributes that are not indented, a help text, a comment, an indented neighbour, and an attribute in two lines. The file
-- is sourced twice.
--
--     1 config A
--     2 bool "a"
--     3 help
--     4     Text.
--     5
--     6   # Neither of them.
--     7   config B
--     8   bool \
--     9 "b"
--    10   source "more"
abbrev written : List ℕ
written = codes "config A\nbool \"a\"\nhelp\n    Text.\n\n  # Neither of them.\n  config B\n  bool \\\n\"b\"\n  source \"more\"\n"

excerpt_of_A : excerpt written 1 3 true ≡ codes "config A" ∷ codes "bool \"a\"" ∷ codes "help" ∷ codes "    Text." ∷ []
unfolding physical_lines
excerpt_of_A = refl

excerpt_of_B : excerpt written 7 8 false ≡ codes "  config B" ∷ codes "  bool \\" ∷ codes "\"b\"" ∷ []
unfolding physical_lines
excerpt_of_B = refl

written_once : List (Located Numbered)
written_once = at 1 (ConfigLine (symbol 0)) ∷ at 2 (TypeLine IsBool (shown None)) ∷ at 3 HelpLine ∷
    at 7 (ConfigLine (symbol 1)) ∷ at 8 (TypeLine IsBool (shown None)) ∷ []

definition_of_A : definition_comments (record { bytes = λ name. Some written; flat = false }) (written_once ++ written_once) (symbol 0) ≡
    codes "# K:1\n" ++ codes "# config A\n" ++ codes "# bool \"a\"\n" ++ codes "# help\n" ++ codes "#     Text.\n"
unfolding digits written_once physical_lines
definition_of_A = refl

-- `HYPERV_NTE` differs from `HYPERV_NET` by two letters, `HYPER_NET` and `HYPERV_NETS` by one.
one_letter : (differs_by_one (codes "HYPERV_NET") (codes "HYPER_NET") ≡ true) × (differs_by_one (codes "HYPERV_NET") (codes "HYPERV_NETS") ≡ true)
    × (differs_by_one (codes "HYPERV_NET") (codes "HYPERV_BET") ≡ true) × (differs_by_one (codes "HYPERV_NET") (codes "HYPERV_NTE") ≡ false)
    × (differs_by_one (codes "HYPERV_NET") (codes "HYPERV_NET") ≡ false)
one_letter = (refl, refl, refl, refl, refl)
