-- Trusted: Names for parts of the definitions of Needs.
use Rattle.std.specs.{List.{filter, flat_map}, Prelude.{List, None, Option, Some, [], map, ℕ, ◌++◌, ◌∷◌}}
use Rattle.kc_language.specs.{Expressions.leaf_symbols, Needs.{condition_names, conjunct_names, names_by_type, names_of_choice}, Symbols.{Bounds, ChoiceFacts, SymbolFacts, TreeFacts, listed}, Values.choice_at, declared.expressions.{SymId.SymId, SymbolType.{SymbolType, TheVariants.{Bool as IsBool, Hex, Int, Str, Tristate, Undefined}}}}
use Rattle.kc_values.specs.PartsOfValues.{is_mentioned}

abbrev pub one_name : SymId → List SymId
one_name s = s ∷ []

abbrev pub no_name : SymId → List SymId
no_name s = []

abbrev pub bounds_names : Bounds → List SymId
bounds_names r = leaf_symbols r.low ++ leaf_symbols r.high

module _ (tree : TreeFacts) where
  -- a mode names what the prompt condition of its choice names
  abbrev pub prompt_names : Option ChoiceFacts → List SymId
  prompt_names None = []
  prompt_names (Some c) = conjunct_names tree c.prompt

  abbrev pub mode_names : Option ℕ → List SymId
  mode_names mode = elim mode [ None ↦ [] | Some k ↦ elim (choice_at tree k) [ None ↦ [] | Some c ↦ conjunct_names tree c.prompt ] ]

  abbrev pub prompts_names : Option SymbolFacts → List SymId
  prompts_names None = []
  prompts_names (Some f) = flat_map (condition_names tree) f.prompts

  -- a tristate type names the modules symbol
  abbrev pub type_names : SymbolType → List SymId
  type_names Undefined = []
  type_names IsBool = []
  type_names Tristate = listed tree.modules
  type_names Str = []
  type_names Int = []
  type_names Hex = []

  abbrev pub names_by_choice : SymbolFacts → Option ℕ → List SymId
  names_by_choice f (Some c) = names_of_choice tree (choice_at tree c)
  names_by_choice f None = names_by_type tree f f.symbol_type

  -- the numbers of the symbols in a list that the tree mentions
  abbrev pub mentioned_numbers : List SymId → List ℕ
  mentioned_numbers ss = map (λ (s : SymId). s.0) (filter (is_mentioned tree) ss)
