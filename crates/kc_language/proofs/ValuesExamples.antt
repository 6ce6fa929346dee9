-- Examples for the chapter Values: the equations of a tree of five symbols. The lines `unfolding` let the checker compute with numbers in texts.
use Rattle.std.proofs.Common.{refl, ◌≡◌}
use Rattle.std.specs.{Fmt.digits, Prelude.{List, None, Option, Some, [], codes, filter, map, slice_index_or, ℕ, ◌∷◌}}
use Prim.Native.String.{String}
use Rattle.kc_language.specs.{Expressions.{Form, Related, Single, Symbol, SymbolValue, Text, TextValue, Truth, symbol}, Statements.{ChoiceLine, ConfigLine, DefaultLine, DependsLine, EndChoiceLine, ImplyLine, InputPrompt, Numbered, PromptLine, RangeLine, SelectLine, TypeLine}, Symbols.{Condition, SymbolFacts, SymbolShown, TreeFacts, facts_with}, Text.natural_of, Values.{ChoicePlace, GivenTruth, GivenValue, Member, SymbolPlace, UserPlace, differs, equations, known_from, rhs, selection, written}, declared.expressions.{SymId.SymId, SymbolType.TheVariants.{Bool as IsBool, Int}, Tri.TheVariants.{N, Y}}}
use Rattle.kc_language.specs.declared.tokens.Op.TheVariants as op

-- All examples are about the tree of this Kconfig file. Its symbols are 0 SMALL, 1 FAST, 2 CRC, 3 LOG and 4 BUFFERS.
--
--     choice
--         prompt "Code"
--     config SMALL
--         bool "Small"
--         select CRC
--         imply LOG
--     config FAST
--         bool "Fast" if BUFFERS > "64"
--     endchoice
--     config CRC
--         bool
--         depends on FAST
--     config LOG
--         bool "Log"
--     config BUFFERS
--         int
--         range "1" "64"
--         default "500"

-- A condition that asks for nothing, and one that asks only that the choice's mode is not n.
abbrev pub always : Condition
always = record { conjuncts = []; mode = None }

abbrev in_choice : Condition
in_choice = record { conjuncts = []; mode = Some 0 }

-- What `config NAME` and `bool` alone say of a symbol.
abbrev pub plain : SymbolFacts
plain = record {
  symbol_type = IsBool;
  choice = None;
  dependencies = always ∷ [];
  prompts = [];
  defaults = [];
  ranges = [];
  selectors = [];
  impliers = [];
}

abbrev small : SymbolFacts
small = record plain { choice = Some 0; dependencies = in_choice ∷ []; prompts = in_choice ∷ [] }

abbrev fast : SymbolFacts
fast = record plain {
  choice = Some 0;
  dependencies = in_choice ∷ [];
  prompts = record { conjuncts = Related op.Gt (Symbol (symbol 4)) (Text (codes "64")) ∷ []; mode = Some 0 } ∷ [];
}

abbrev crc : SymbolFacts
crc = record plain {
  dependencies = record { conjuncts = Single (Symbol (symbol 1)) ∷ []; mode = None } ∷ [];
  selectors = record { what = symbol 0; when = in_choice } ∷ [];
}

abbrev log : SymbolFacts
log = record plain { prompts = always ∷ []; impliers = record { what = symbol 0; when = in_choice } ∷ [] }

abbrev buffers : SymbolFacts
buffers = record plain {
  symbol_type = Int;
  defaults = record { what = Single (Text (codes "500")); when = always } ∷ [];
  ranges = record { what = record { low = Text (codes "1"); high = Text (codes "64") }; when = always } ∷ [];
}

abbrev ids : List SymId
ids = symbol 0 ∷ symbol 1 ∷ symbol 2 ∷ symbol 3 ∷ symbol 4 ∷ []

-- The statements of that file. Only warnings would use a line's number.
abbrev prompt : String → Option Form → InputPrompt Form
prompt text when = record { text = codes text; when = when }

abbrev lines : List Numbered
lines =
    ChoiceLine ∷ PromptLine (prompt "Code" None)
    ∷ ConfigLine (symbol 0) ∷ TypeLine IsBool (Some (prompt "Small" None)) ∷ SelectLine (symbol 2) None ∷ ImplyLine (symbol 3) None
    ∷ ConfigLine (symbol 1) ∷ TypeLine IsBool (Some (prompt "Fast" (Some (Related op.Gt (Symbol (symbol 4)) (Text (codes "64"))))))
    ∷ EndChoiceLine
    ∷ ConfigLine (symbol 2) ∷ TypeLine IsBool None ∷ DependsLine (Single (Symbol (symbol 1)))
    ∷ ConfigLine (symbol 3) ∷ TypeLine IsBool (Some (prompt "Log" None))
    ∷ ConfigLine (symbol 4) ∷ TypeLine Int None ∷ RangeLine (Text (codes "1")) (Text (codes "64")) None
    ∷ DefaultLine (Single (Text (codes "500"))) None
    ∷ []

-- The tree is what they say.
abbrev pub tree : TreeFacts
tree = record {
  names = codes "SMALL" ∷ codes "FAST" ∷ codes "CRC" ∷ codes "LOG" ∷ codes "BUFFERS" ∷ [];
  symbols = small ∷ fast ∷ crc ∷ log ∷ buffers ∷ [];
  defined = ids;
  choices = record { prompt = Some always; defaults = []; members = symbol 0 ∷ symbol 1 ∷ [] } ∷ [];
  entries = map SymbolShown ids;
  warnings = [];
  main_menu = codes "Main menu";
  modules = None;
  lines = map (λ s. record { file = codes "Kconfig"; line = 1; statement = s }) lines;
}

tree_of_the_lines : facts_with tree.names tree.lines ≡ tree
tree_of_the_lines = refl

-- The user selects FAST, and gives nothing else.
abbrev user : UserPlace → Option GivenValue
user (ChoicePlace c) = Some (Member (symbol 1))
user (SymbolPlace i) = None

-- The values: SMALL, CRC and LOG are y, FAST is n, and BUFFERS is 64.
abbrev V : ℕ → SymbolValue
V i = slice_index_or (Truth Y ∷ Truth N ∷ Truth Y ∷ Truth Y ∷ TextValue Int (codes "64") ∷ []) i (Truth N)

-- A default above the range becomes the range's high bound: BUFFERS is 64, not 500.
default_is_clamped : equations tree user 4 V ≡ TextValue Int (codes "64")
unfolding natural_of digits
default_is_clamped = refl

-- FAST is hidden because BUFFERS is not greater than 64, so the choice selects its first visible member: SMALL.
hidden_member : selection tree user V 0 ≡ Some (symbol 0)
unfolding natural_of
hidden_member = refl

-- A `select` wins against `depends on`: CRC depends on FAST, which is n, but SMALL selects CRC, and CRC is y.
select_against_depends : equations tree user 2 V ≡ Truth Y
select_against_depends = refl

-- An `imply` makes LOG y as long as the user gives it no value.
implied_value : equations tree user 3 V ≡ Truth Y
implied_value = refl

-- The user may still set LOG to n: `imply` is weaker than the user.
implied_and_given : rhs tree 3 (Some (GivenTruth N)) V ≡ Truth N
implied_and_given = refl

-- Each of the five symbols has the value that its equation gives. Of the two members the selected one is y, and the other is n.
all_equations : map (λ i. equations tree user i V) (0 ∷ 1 ∷ 2 ∷ 3 ∷ 4 ∷ []) ≡ map (λ i. V i) (0 ∷ 1 ∷ 2 ∷ 3 ∷ 4 ∷ [])
unfolding natural_of digits
all_equations = refl

-- All but FAST have a line in the .config: a member has one only if it is visible.
written_symbols : filter (written tree (known_from tree V)) ids ≡ symbol 0 ∷ symbol 2 ∷ symbol 3 ∷ symbol 4 ∷ []
unfolding natural_of
written_symbols = refl

-- No symbol differs from what it is without the user: the user's choice of FAST had no effect.
none_differs : filter (differs tree user V) (0 ∷ 1 ∷ 2 ∷ 3 ∷ 4 ∷ []) ≡ []
unfolding natural_of digits
none_differs = refl
