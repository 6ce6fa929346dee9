-- For proofs: The words of facts, without their layout in memory.
use Rattle.std.specs.Prelude.{Bool, List, None, Option, Some, [], codes, decimal, if◌then◌else◌, ℕ, ◌++◌, ◌==◌}
use Rattle.std.specs.List.{flat_map}
use Rattle.kc_language.specs.ConfigFile.{StreamLocation, value_text}
use Rattle.kc_language.specs.Expressions.{Form}
use Rattle.kc_language.specs.ExpressionTexts.{expression_text, operand_text}
use Rattle.kc_language.specs.Statements.{DependsLine, Located, Numbered, VisibleLine}
use Rattle.kc_language.specs.Symbols.{Bounds, StatedDefault, TreeFacts, listed}
use Rattle.kc_language.specs.Values.{GivenTruth, GivenValue, facts, name, type_in}
use Rattle.kc_language.specs.declared.expressions.{SymId.{SymId}, SymbolType.{SymbolType}, Tri.{Tri}}
use Rattle.kc_language.specs.declared.symbols.SelectOrImply.{SelectOrImply}
use Rattle.kc_outcome.specs.Explanations as rules
use Rattle.kc_outcome.specs.Explanations.{ending}
use Rattle.kc_explain.specs.FactViews.{FactView}
use Rattle.kc_explain.specs.FactViews as fact
use Rattle.kc_explain.specs.PartViews.{Part, Said}

-- the location of a line, and its keyword before an expression
abbrev pub location_text : Option (Located Numbered) → List ℕ
location_text o = elim o [ None ↦ [] | Some l ↦ l.file ++ codes ":" ++ decimal l.line ++ codes ": " ]

abbrev pub word_of : Numbered → List ℕ
word_of s = elim s [ DependsLine e ↦ codes "depends on " | VisibleLine e ↦ codes "visible if " | _ ↦ codes "if " ]

abbrev pub word_in : Option (Located Numbered) → List ℕ
word_in o = elim o [ None ↦ codes "if " | Some l ↦ word_of l.statement ]

-- the location in an input file that a fact has
abbrev pub input_place : FactView → Option StreamLocation
input_place f = elim f [ fact.UserGave at place given ↦ at | fact.NotAllowed s line ↦ Some line.at | _ ↦ None ]

-- a line of this kind, and its value
abbrev pub line_words : Option (Located Numbered) → List ℕ → Tri → List ℕ
line_words line word t = location_text line ++ word ++ ending t

-- a value that is not allowed for a symbol of this type; how many lines have the value n
abbrev pub refused_text : SymbolType → List ℕ → List ℕ
refused_text kind value = codes "user value " ++ value ++ codes ": not allowed for " ++ rules.article kind ++ rules.type_text kind

abbrev pub count_text : ℕ → List ℕ
count_text n = if n == 1 then codes ": 1 line, n" else codes ": " ++ decimal n ++ codes " lines, all n"

module _ (is_raw : Bool) (tree : TreeFacts) where
  -- an expression, a part of a condition, and ` if EXPRESSION`
  abbrev pub form_text : Form → List ℕ
  form_text e = expression_text tree.names e

  abbrev pub asked_text : Option (Located Numbered) → rules.Asked → List ℕ
  asked_text line asks = elim asks [ rules.ModeOf k ↦ codes "choice" | rules.Worth e ↦ word_in line ++ form_text e ]

  abbrev pub own_part_words : Part → Tri → List ℕ
  own_part_words p t = location_text p.line ++ asked_text p.line p.asks ++ ending t

  abbrev pub part_words : Part → Tri → List ℕ
  part_words p t = codes "  " ++ own_part_words p t

  abbrev pub if_text : Option Form → List ℕ
  if_text w = elim w [ None ↦ [] | Some e ↦ codes " if " ++ form_text e ]

  -- the value of the user that counts, and the member that the user chose; a value that is not allowed
  abbrev pub user_words : SymbolType → Option GivenValue → List ℕ
  user_words kind given = elim given [ None ↦ codes "no user value" | Some g ↦ codes "user value " ++ value_text is_raw kind g ]

  abbrev pub chosen_words : Option SymId → List ℕ
  chosen_words member = elim member [ None ↦ codes "no chosen member" | Some m ↦ codes "chosen member " ++ name tree m ]

  abbrev pub refused_words : SymId → List ℕ → List ℕ
  refused_words s value = refused_text (type_in (facts tree s)) value

  -- a default and what it gives; a range, with the value of its condition, and its bounds
  abbrev pub default_words : Said StatedDefault → Tri → List ℕ
  default_words d t = location_text d.line ++ codes "default " ++ form_text (d.what).value ++ if_text (d.what).when ++ ending t

  abbrev pub value_words : SymbolType → Option GivenValue → List ℕ
  value_words kind given = flat_map (λ g. codes ", value " ++ value_text is_raw kind g) (listed given)

  abbrev pub plain_range_words : Said (Bounds × Option Form) → List ℕ
  plain_range_words r = let bound = operand_text tree.names in
      location_text r.line ++ codes "range " ++ bound (r.what).0.low ++ codes " " ++ bound (r.what).0.high ++ if_text (r.what).1

  abbrev pub range_words : Said (Bounds × Option Form) → Tri → List ℕ
  range_words r t = let bound = operand_text tree.names in
      location_text r.line ++ codes "range " ++ bound (r.what).0.low ++ codes " " ++ bound (r.what).0.high ++ if_text (r.what).1 ++ ending t

  abbrev pub bounds_words : Option (List ℕ × List ℕ) → List ℕ
  bounds_words bounds = flat_map (λ b. codes ", " ++ b.0 ++ codes " to " ++ b.1) (listed bounds)

  -- a line that raises a symbol
  abbrev pub raised_words : SelectOrImply → SymId → Said (Option Form) → Tri → Tri → List ℕ
  raised_words word s r t u = location_text r.line ++ rules.raised_word word ++ codes " by " ++ rules.worth_text is_raw tree s (GivenTruth t)
      ++ if_text r.what ++ ending u

  -- a member of a choice; a default of a choice
  abbrev pub member_words : SymId → Tri → List ℕ
  member_words m t = codes "member " ++ name tree m ++ ending t

  abbrev pub member_default_words : Said (SymId × Option Form) → Tri → Tri → List ℕ
  member_default_words d t u = location_text d.line ++ codes "default " ++ name tree (d.what).0 ++ if_text (d.what).1 ++ ending t ++ codes ", its prompt" ++ ending u

  -- a line that raises, and a default of a choice; these, or a default or a range; the words of any fact
  abbrev pub raising_words : FactView → List ℕ
  raising_words (fact.RaisedBy word s r t u) = raised_words word s r t u
  raising_words (fact.MemberDefaultIs d t u) = member_default_words d t u
  raising_words _ = []

  abbrev pub stated_words : FactView → List ℕ
  stated_words (fact.DefaultIs kind d t given) = default_words d t ++ value_words kind given
  stated_words (fact.RangeIs kind r t bounds) = range_words r t ++ bounds_words bounds
  stated_words f = raising_words f

  abbrev pub words : FactView → List ℕ
  words (fact.UserGave at place given) = rules.given_text is_raw tree place given
  words (fact.NotAllowed s line) = refused_words s line.value
  words (fact.PartIs p t) = part_words p t
  words (fact.DependencyIs line t) = line_words line (codes "dependencies") t
  words (fact.PromptIs line t) = line_words line (codes "prompt") t
  words (fact.NotRaised word n) = codes "not " ++ rules.raised_word word ++ count_text n
  words (fact.ModulesAre m t) = codes "modules " ++ rules.worth_text is_raw tree m (GivenTruth t)
  words (fact.ModeIs line t) = line_words line (codes "choice") t
  words (fact.MemberIs m t) = member_words m t
  words f = stated_words f

  -- the line of a fact; the lines of facts, each with the lead
  abbrev pub fact_line : FactView → List ℕ
  fact_line f = codes "  " ++ rules.input_location (input_place f) ++ words f

  abbrev pub fact_text : List ℕ → FactView → List ℕ
  fact_text lead f = lead ++ fact_line f ++ codes "\n"

  abbrev pub facts_text : List ℕ → List FactView → List ℕ
  facts_text lead fs = flat_map (fact_text lead) fs

  -- the words of a fact that no line can change, and its line
  abbrev pub fixed_words : FactView → List ℕ
  fixed_words (fact.PartIs p t) = own_part_words p t
  fixed_words f = words f

  abbrev pub fixed_text : List ℕ → FactView → List ℕ
  fixed_text lead f = lead ++ fixed_words f ++ codes "\n"
