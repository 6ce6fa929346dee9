-- Trusted: 15. Explanations: why a symbol has its value, as a list of facts. Our own.
use Rattle.std.specs.{List.{enumerate_from, filter_map, flat_map, list_all, list_any, slice_split, suffix_len}, Option.{option_map_or, option_or}, Prelude.{[], All, Bool, IfSome, List, None, Ok, Option, Some, codes, decimal, drop, false, filter, if◌then◌else◌, is_some, length, map, nat_lt, not, option_and_then, option_map, slice_get, suc, take, take_while, true, zero, ℕ, ◌&&◌, ◌++◌, ◌-◌, ◌+◌, ◌<◌, ◌==◌, ◌||◌, ◌∷◌, ◌≡◌}}
use Rattle.kc_language.specs.{ConfigFile.{Notation, RefusedLine, StreamLocation, UserInput, place_at, plain_line, plain_refused, symbol_named, value_by, value_text, without_prefix}, Expansion.{Files, attributes, enclosing, is_attribute, last_of}, Expressions.{Form, SymbolValue, leaf_symbols, least, lesser, number_of_text, same_name, same_symbol, symbol, symbols, text, tri_text, truth_of_value, value}, ExpressionTexts.{expression_text, operand_text}, Lines.{Physical, after_help, continues, is_line_feed, physical_lines}, Sources.{source}, Statements.{DependsLine, HelpLine, IfLine, InputPrompt, Located, MenuLine, Numbered, VisibleLine, statements}, Symbols.{Bounds, Condition, IsTreeOf, StatedDefault, SymbolFacts, TreeFacts, all_added, can_be_target, choice_number, definitions_of, dependency, dependency_in, facts_with, guarded, holds_text, indices, is_selectable, listed, members_of, of_block, prompt_of, range_in, same_type, shown_under, single_symbol, stated_default, symbol_at, symbol_facts, targets, type_of, visible_in}, Text.{byte}, Texts.{IsSolution, Solution, SolutionView, known, symbol_new, value_of}, Tokens.{is_blank}, Values.{ChoicePlace, GivenText, GivenTruth, GivenValue, Member, SymbolPlace, UserPlace, active_range, choice_at, condition, conditions, equations, facts, given_of, if_within_range, is_n, is_visible, is_yes, known_from, mode_of, name, number_as, selected_to, single_text, type_in, visibility, visible_text}, declared.{sources.Source.{Source}, expressions.{SymId.{SymId}, SymbolType.{SymbolType, TheVariants.{Bool as IsBool, Hex, Int, Str, Tristate, Undefined}}, Tri.{TheVariants.{N, Y}, Tri}}, statements.Block.{Block}, symbols.SelectOrImply.{SelectOrImply}}}

-- ---- What the tree says about a symbol, and in which lines
-- A line of the entry at `entry`: its number among all statements, and what it says.
pub record Said (X : Type 0) : Type 0 where
  pub entry : ℕ
  pub at : ℕ
  pub what : X

-- A part of a condition: an expression or the mode of a choice, with the number of the statement that adds it.
pub data Asked : Type 0 where
  Worth : Form → Asked
  ModeOf : ℕ → Asked

pub record ConditionPart : Type 0 where
  pub at : ℕ
  pub asks : Asked

abbrev pub worth : ℕ → Form → ConditionPart
worth i e = record { at = i; asks = Worth e }

-- The default of a choice with these members, if it names one of them.
abbrev pub default_member : List SymId → Numbered → Option (SymId × Option Form)
default_member members l = option_and_then (λ g. option_and_then (λ s. if list_any (same_symbol s) members then Some (s, g.when) else None)
    (single_symbol g.value)) (stated_default l)

-- The list up to the first element that passes the test, with it.
abbrev pub through : {X : Type 0} → (X → Bool) → List X → List X
through p [] = []
through p (x ∷ xs) = if p x then x ∷ [] else x ∷ through p xs

module _ (ss : List Numbered) where
  -- The attributes of the entry at i that `read` accepts, with their statement numbers: they follow i. Those of all definitions of a symbol.
  abbrev pub said_at : {X : Type 0} → (Numbered → Option X) → ℕ → List (Said X)
  said_at read i =
      filter_map (λ (k, l). option_map (λ x. record { entry = i; at = k; what = x }) (read l)) (enumerate_from (suc i) (attributes ss i))

  abbrev pub said_of : {X : Type 0} → (Numbered → Option X) → SymId → List (Said X)
  said_of read s = flat_map (said_at read) (definitions_of ss s)

  abbrev pub parts_at : (Numbered → Option Form) → ℕ → List ConditionPart
  parts_at read i = map (λ l. worth l.at l.what) (said_at read i)

  -- The parts that a block adds: an `if` its condition, a menu its `depends on` lines. The mode of the innermost choice around an entry.
  abbrev pub block_parts : ℕ → List ConditionPart
  block_parts j = elim (slice_get ss j) [ Some (IfLine e) ↦ worth j e ∷ [] | Some (MenuLine t) ↦ parts_at dependency_in j | _ ↦ [] ]

  abbrev pub mode_parts : ℕ → List ConditionPart
  mode_parts i = map (λ j. record { at = j; asks = ModeOf (choice_number ss j) }) (listed (last_of (filter (of_block ss Block.Choice) (enclosing ss i))))

  -- What an entry depends on. A line of the entry depends on the same, and on its own `if`.
  abbrev pub dependency_parts : ℕ → List ConditionPart
  dependency_parts i = flat_map block_parts (enclosing ss i) ++ parts_at dependency_in i ++ mode_parts i

  abbrev pub line_parts : {X : Type 0} → (X → Option Form) → Said X → List ConditionPart
  line_parts own l = dependency_parts l.entry ++ map (worth l.at) (listed (own l.what))

  -- The prompt that counts in each of these entries. `shown_parts`: its conditions besides its entry's dependency. `prompt_parts`: all its conditions.
  abbrev pub prompt_lines : List ℕ → List (Said (InputPrompt Form))
  prompt_lines entries = filter_map (λ i. last_of (said_at prompt_of i)) entries

  abbrev pub shown_parts : Said (InputPrompt Form) → List ConditionPart
  shown_parts p = flat_map (parts_at visible_in) (filter (of_block ss Block.Menu) (enclosing ss p.entry)) ++ map (worth p.at) (listed (p.what).when)

  abbrev pub prompt_parts : Said (InputPrompt Form) → List ConditionPart
  prompt_parts p = dependency_parts p.entry ++ shown_parts p

  -- The lines that select or imply a symbol, each with the symbol that it belongs to. A symbol that cannot be raised has none.
  abbrev pub lines_naming : (Numbered → Option (Option Form)) → ℕ → List (SymId × Said (Option Form))
  lines_naming read i = flat_map (λ t. map (λ l. (t, l)) (said_at read i)) (listed (symbol_at ss i))

  abbrev pub raising_lines : SelectOrImply → SymId → List (SymId × Said (Option Form))
  raising_lines word s = if can_be_target ss s then flat_map (lines_naming (targets word s)) (indices ss) else []

  -- The statement that begins choice k. The defaults of the choice at j that name a member of it.
  abbrev pub choice_entry : ℕ → List ℕ
  choice_entry k = listed (slice_get (filter (of_block ss Block.Choice) (indices ss)) k)

  abbrev pub default_members : ℕ → List (Said (SymId × Option Form))
  default_members j = said_at (default_member (members_of ss (choice_number ss j))) j

-- ---- A fact: what it is about, and the values that it gives. A condition has the value of all that its line depends on.
pub data Fact : Type 0 where
  -- what the input files gave for the symbol or the choice, and in which line; the last line whose value was not allowed
  UserGave : Option StreamLocation → UserPlace → Option GivenValue → Fact
  NotAllowed : SymId → RefusedLine → Fact
  -- a part of a condition; the dependency of the entry at this number; a prompt
  PartIs : ConditionPart → Tri → Fact
  DependencyIs : ℕ → Tri → Fact
  PromptIs : Said (InputPrompt Form) → Tri → Fact
  -- the condition of a default or range and, if it is the one that counts, what it gives: a value, the numbers of the bounds
  DefaultIs : SymbolType → Said StatedDefault → Tri → Option GivenValue → Fact
  RangeIs : SymbolType → Said (Bounds × Option Form) → Tri → Option (List ℕ × List ℕ) → Fact
  -- a line that selects or implies, with the value of its symbol, and the value up to which it raises; the lines that raise nothing
  RaisedBy : SelectOrImply → SymId × Said (Option Form) → Tri → Tri → Fact
  NotRaised : SelectOrImply → List (SymId × Said (Option Form)) → Fact
  ModulesAre : SymId → Tri → Fact
  -- the mode of this choice, which begins at the statement; what a member's prompts are worth; a choice's default, with that of its member
  ModeIs : ℕ → ℕ → Tri → Fact
  MemberIs : SymId → Tri → Fact
  MemberDefaultIs : Said (SymId × Option Form) → Tri → Tri → Fact

abbrev pub is_y : Tri → Bool
is_y t = elim t [ Y ↦ true | _ ↦ false ]

-- ---- When a fact holds, in the words of the chapters Symbols and Values
-- The number of a bound as it is written. A text that is no number counts as 0.
abbrev pub bound_text : SymbolType → List ℕ → List ℕ
bound_text kind bytes = if is_some (number_as kind bytes) then bytes else codes "0"

-- The prompts of a symbol.
abbrev pub prompts_in : TreeFacts → SymId → List Condition
prompts_in tree m = flat_map (λ f. f.prompts) (listed (facts tree m))

module _ (tree : TreeFacts) (known : SymId → SymbolValue) where
  abbrev pub part_value : ConditionPart → Tri
  part_value p = elim p.asks [ Worth e ↦ value known tree.modules e | ModeOf k ↦ mode_of tree known (choice_at tree k) ]

  abbrev pub parts_value : List ConditionPart → Tri
  parts_value ps = least (map part_value ps)

  -- Whether the user's value counts for a bool or tristate.
  abbrev pub is_users : SymbolFacts → Option GivenValue → Bool
  is_users f user = is_visible tree known f && elim user [ Some (GivenTruth u) ↦ true | _ ↦ false ]

  -- What a default gives, and the numbers of a range's bounds.
  abbrev pub default_given : SymbolType → Form → GivenValue
  default_given kind e = if holds_text kind then GivenText (single_text known e) else GivenTruth (value known tree.modules e)

  abbrev pub bound_texts : SymbolType → Bounds → List ℕ × List ℕ
  bound_texts kind b = (bound_text kind (text known b.low), bound_text kind (text known b.high))

-- The condition of a line of an entry. The value up to which a line raises.
module _ (ss : List Numbered) (tree : TreeFacts) (known : SymId → SymbolValue) where
  abbrev pub line_condition : {X : Type 0} → (X → Option Form) → Said X → Tri
  line_condition own l = condition tree known (guarded ss l.entry l (own l.what)).when

  abbrev pub raised_to : SymId × Said (Option Form) → Tri
  raised_to r = lesser (truth_of_value (known r.0)) (line_condition (λ w. w) r.1)

module _ (ss : List Numbered) (tree : TreeFacts) (input : UserInput) (known : SymId → SymbolValue) where
  abbrev pub Holds : Fact → Type 0
  Holds fact = elim fact [
    | UserGave at place given ↦ place_at input.places place ≡ given
    | NotAllowed s line ↦ plain_refused input s ≡ Some line
    | PartIs p t ↦ part_value tree known p ≡ t
    | DependencyIs i t ↦ condition tree known (dependency ss i) ≡ t
    | PromptIs p t ↦ condition tree known (shown_under ss p.entry (listed (p.what).when)) ≡ t
    | DefaultIs kind d t given ↦ (line_condition ss tree known (λ x. x.when) d ≡ t) × IfSome given (λ g. default_given tree known kind (d.what).value ≡ g)
    | RangeIs kind r t bounds ↦ (line_condition ss tree known (λ x. x.1) r ≡ t) × IfSome bounds (λ b. bound_texts tree known kind (r.what).0 ≡ b)
    | RaisedBy word r t u ↦ (truth_of_value (known r.0) ≡ t) × (raised_to ss tree known r ≡ u)
    | NotRaised word rs ↦ All (λ r. raised_to ss tree known r ≡ N) rs
    | ModulesAre m t ↦ truth_of_value (known m) ≡ t
    | ModeIs j k t ↦ mode_of tree known (choice_at tree k) ≡ t
    | MemberIs m t ↦ conditions tree known (prompts_in tree m) ≡ t
    | MemberDefaultIs d t u ↦ (line_condition ss tree known (λ x. x.1) d ≡ t) × (conditions tree known (prompts_in tree (d.what).0) ≡ u)
  ]

  -- ---- The facts about a symbol
  abbrev pub part_facts : List ConditionPart → List Fact
  part_facts ps = map (λ p. PartIs p (part_value tree known p)) ps

  -- What a line depends on, with its own condition. Whether that is not n.
  abbrev pub line_value : {X : Type 0} → (X → Option Form) → Said X → Tri
  line_value own l = parts_value tree known (line_parts ss own l)

  abbrev pub is_met : {X : Type 0} → (X → Option Form) → Said X → Bool
  is_met own l = not (is_n (line_value own l))

  abbrev pub dependency_facts : ℕ → List Fact
  dependency_facts i = let ps = dependency_parts ss i in DependencyIs i (parts_value tree known ps) ∷ part_facts ps

  abbrev pub prompt_facts : Said (InputPrompt Form) → List Fact
  prompt_facts p = PromptIs p (parts_value tree known (prompt_parts ss p)) ∷ part_facts (shown_parts ss p)

  -- The defaults and the ranges up to the first one whose condition is not n.
  abbrev pub default_fact : SymbolType → Said StatedDefault → Fact
  default_fact kind d = DefaultIs kind d (line_value (λ x. x.when) d)
      (if is_met (λ x. x.when) d then Some (default_given tree known kind (d.what).value) else None)

  abbrev pub default_facts : SymId → SymbolType → List Fact
  default_facts s kind = map (default_fact kind) (through (is_met (λ x. x.when)) (said_of ss stated_default s))

  abbrev pub range_fact : SymbolType → Said (Bounds × Option Form) → Fact
  range_fact kind r =
      RangeIs kind r (line_value (λ x. x.1) r) (if is_met (λ x. x.1) r then Some (bound_texts tree known kind (r.what).0) else None)

  abbrev pub range_facts : SymId → SymbolType → List Fact
  range_facts s kind = map (range_fact kind) (through (is_met (λ x. x.1)) (said_of ss range_in s))

  -- The lines that raise the symbol. One fact for all the others that name it.
  abbrev pub raise_value : SymId × Said (Option Form) → Tri
  raise_value r = lesser (truth_of_value (known r.0)) (line_value (λ w. w) r.1)

  abbrev pub raise_facts : SelectOrImply → SymId → List Fact
  raise_facts word s = let rs = raising_lines ss word s in
      map (λ r. RaisedBy word r (truth_of_value (known r.0)) (raise_value r)) (filter (λ r. not (is_n (raise_value r))) rs)
      ++ elim (filter (λ r. is_n (raise_value r)) rs) [ [] ↦ [] | r ∷ more ↦ NotRaised word (r ∷ more) ∷ [] ]

  -- What the user gave a symbol is a fact if something was given, or if it could count. A value that is given to a member of a choice does not count.
  abbrev pub user_facts : SymId → SymbolFacts → List Fact
  user_facts s f = let given = place_at input.places (SymbolPlace s.0) in
      (if is_some given || (not (is_some f.choice) && is_visible tree known f)
      then UserGave (plain_line input input.lines s) (SymbolPlace s.0) given ∷ [] else [])
      ++ map (NotAllowed s) (listed (plain_refused input s))

  -- A bool or tristate that is not selected to y, and has no user value that counts, has its defaults and the lines that imply it.
  abbrev pub truth_facts : SymId → SymbolFacts → List Fact
  truth_facts s f = raise_facts SelectOrImply.Select s
      ++ (if is_users tree known f (place_at input.places (SymbolPlace s.0)) || is_y (selected_to tree known f) then []
      else default_facts s f.symbol_type ++ raise_facts SelectOrImply.Imply s)

  -- A string, int or hex has its defaults if no value of the user counts. An int or hex has its ranges.
  abbrev pub text_facts : SymId → SymbolFacts → Option (List ℕ) → List Fact
  text_facts s f used = if is_some used then [] else default_facts s f.symbol_type

  abbrev pub value_facts : SymId → SymbolFacts → SymbolType → List Fact
  value_facts s f kind = let shown = visible_text (place_at input.places (SymbolPlace s.0)) (visibility tree known f) in elim kind [
    | Undefined ↦ []
    | IsBool ↦ truth_facts s f
    | Tristate ↦ map (λ m. ModulesAre m (truth_of_value (known m))) (listed tree.modules) ++ truth_facts s f
    | Str ↦ text_facts s f shown
    | _ ↦ range_facts s f.symbol_type ++ text_facts s f (if_within_range f.symbol_type (active_range tree known f) shown)
  ]

  -- A choice: its mode and what it depends on. Unless the mode is n, the member that a line chose. If that one is not visible, the defaults up to the
  -- first one that counts. If none counts, the members up to the first visible one.
  abbrev pub member_value : SymId → Tri
  member_value m = conditions tree known (prompts_in tree m)

  abbrev pub member_fact : SymId → Fact
  member_fact m = MemberIs m (member_value m)

  abbrev pub is_shown_member : ℕ → SymId → Bool
  is_shown_member j m = list_any (same_symbol m) (members_of ss (choice_number ss j)) && not (is_n (member_value m))

  abbrev pub counts : ℕ → Said (SymId × Option Form) → Bool
  counts j d = is_met (λ x. x.1) d && is_shown_member j (d.what).0

  abbrev pub member_default_fact : Said (SymId × Option Form) → Fact
  member_default_fact d = MemberDefaultIs d (line_value (λ x. x.1) d) (member_value (d.what).0)

  abbrev pub preset_facts : ℕ → List Fact
  preset_facts j = map member_default_fact (through (counts j) (default_members ss j))
      ++ (if list_any (counts j) (default_members ss j) then []
      else map member_fact (through (λ m. not (is_n (member_value m))) (members_of ss (choice_number ss j))))

  abbrev pub selection_facts : ℕ → Option GivenValue → List Fact
  selection_facts j chosen = elim chosen [
    | Some (Member m) ↦ member_fact m ∷ (if is_shown_member j m then [] else preset_facts j)
    | _ ↦ preset_facts j
  ]

  -- The line that made a member y last, if it is the last line of that member.
  abbrev pub choosing_line : Option GivenValue → Option StreamLocation
  choosing_line chosen = elim chosen [
    | Some (Member m) ↦ option_and_then (λ g. if is_yes g then plain_line input input.lines m else None) (place_at input.places (SymbolPlace m.0))
    | _ ↦ None
  ]

  abbrev pub choice_facts_at : ℕ → ℕ → List Fact
  choice_facts_at k j = let mode = mode_of tree known (choice_at tree k) in let chosen = place_at input.places (ChoicePlace k) in
      ModeIs j k mode ∷ part_facts (dependency_parts ss j) ++ flat_map prompt_facts (prompt_lines ss (j ∷ []))
      ++ (if is_n mode then [] else UserGave (choosing_line chosen) (ChoicePlace k) chosen ∷ selection_facts j chosen)

  -- All facts about a symbol: what the user gave, what it depends on, its prompts, and then those that give it its value.
  abbrev pub facts_by : SymId → SymbolFacts → Option ℕ → List Fact
  facts_by s f choice = elim choice [ Some k ↦ flat_map (choice_facts_at k) (choice_entry ss k) | None ↦ value_facts s f f.symbol_type ]

  abbrev pub is_without_facts : SymbolFacts → Bool
  is_without_facts f = same_type f.symbol_type Undefined && not (is_some f.choice)

  abbrev pub facts_of : SymId → List Fact
  facts_of s = elim (facts tree s) [
    | None ↦ []
    | Some f ↦ if is_without_facts f then [] else user_facts s f ++ flat_map dependency_facts (definitions_of ss s)
        ++ flat_map prompt_facts (prompt_lines ss (definitions_of ss s)) ++ facts_by s f f.choice
  ]

-- ---- The laws of the facts. Each fact holds, under any tree, input and values.
abbrev pub FactsHold : Type 0
FactsHold = (ss : List Numbered) (tree : TreeFacts) (input : UserInput) (known : SymId → SymbolValue) (s : SymId) →
    All (Holds ss tree input known) (facts_of ss tree input known s)

-- A solution of this tree for this input, and the facts about a symbol in it.
pub record IsSolved (tree : TreeFacts) (input : UserInput) (solution : Solution) : Type 0 where
  pub tree_is : solution.tree ≡ tree
  pub given : solution.places ≡ input.places
  pub solved : IsSolution solution

abbrev pub facts_in : UserInput → Solution → SymId → List Fact
facts_in input solution s = facts_of (statements solution.tree.lines) solution.tree input (known solution) s

-- The facts suffice: whatever the user gives and whatever values the symbols have, if the facts hold, then the equation gives the symbol its value.
abbrev pub FactsSuffice : Type 0
FactsSuffice = (names : List (List ℕ)) (lines : List (Located Numbered)) (input : UserInput) (solution : Solution) (s : SymId) →
    IsSolved (facts_with names lines) input solution → s.0 < length names → (other : UserInput) (W : ℕ → SymbolValue) →
    All (Holds (statements lines) solution.tree other (known_from solution.tree W)) (facts_in input solution s) →
    equations solution.tree (place_at other.places) s.0 W ≡ value_of solution s.0

-- ---- The text. Each fact has a line: two blanks, the location of its line in an input file, and its words. A part of a condition has two more blanks.
abbrev pub type_text : SymbolType → List ℕ
type_text kind = elim kind [
  | Undefined ↦ codes "no type"
  | IsBool ↦ codes "bool"
  | Tristate ↦ codes "tristate"
  | Str ↦ codes "string"
  | Int ↦ codes "int"
  | Hex ↦ codes "hex"
]

abbrev pub article : SymbolType → List ℕ
article kind = elim kind [ Int ↦ codes "an " | _ ↦ codes "a " ]

abbrev pub ending : Tri → List ℕ
ending t = codes ": " ++ tri_text t

abbrev pub raised_word : SelectOrImply → List ℕ
raised_word word = elim word [ SelectOrImply.Select ↦ codes "selected" | SelectOrImply.Imply ↦ codes "implied" ]

-- Only a truth value counts for a bool or tristate, and only a text for a string, int or hex.
abbrev pub counting : SymbolType → Option GivenValue → Option GivenValue
counting kind given = elim given [
  | Some (GivenTruth t) ↦ if is_selectable kind then Some (GivenTruth t) else None
  | Some (GivenText bytes) ↦ if holds_text kind then Some (GivenText bytes) else None
  | _ ↦ None
]

module _ (is_raw : Bool) (tree : TreeFacts) where
  -- NAME=VALUE of a symbol that has a type, with a string as in a `.config`, raw or escaped; the location of a statement; and ` if EXPRESSION`.
  abbrev pub worth_text : SymId → GivenValue → List ℕ
  worth_text s g = name tree s ++ codes "=" ++ value_text is_raw (type_in (facts tree s)) g

  abbrev pub location : ℕ → List ℕ
  location i = elim (slice_get tree.lines i) [ None ↦ [] | Some l ↦ l.file ++ codes ":" ++ decimal l.line ++ codes ": " ]

  abbrev pub if_text : Option Form → List ℕ
  if_text w = elim w [ None ↦ [] | Some e ↦ codes " if " ++ expression_text tree.names e ]

  abbrev pub part_text : ConditionPart → List ℕ
  part_text p = elim p.asks [
    | ModeOf k ↦ codes "choice"
    | Worth e ↦ elim (slice_get (statements tree.lines) p.at) [
      | Some (DependsLine d) ↦ codes "depends on "
      | Some (VisibleLine d) ↦ codes "visible if "
      | _ ↦ codes "if "
    ] ++ expression_text tree.names e
  ]

  abbrev pub given_text : UserPlace → Option GivenValue → List ℕ
  given_text place given = elim place [
    | SymbolPlace i ↦ let kind = type_in (facts tree (symbol i)) in
        elim (counting kind given) [ None ↦ codes "no user value" | Some g ↦ codes "user value " ++ value_text is_raw kind g ]
    | ChoicePlace c ↦ elim given [ Some (Member m) ↦ codes "chosen member " ++ name tree m | _ ↦ codes "no chosen member" ]
  ]

  abbrev pub count_text : ℕ → List ℕ
  count_text n = if n == 1 then codes ": 1 line, n" else codes ": " ++ decimal n ++ codes " lines, all n"

  abbrev pub words_of : Fact → List ℕ
  words_of fact = let bound = operand_text tree.names in elim fact [
    | UserGave at place given ↦ given_text place given
    | NotAllowed s line ↦ let kind = type_in (facts tree s) in
        codes "user value " ++ line.value ++ codes ": not allowed for " ++ article kind ++ type_text kind
    | PartIs p t ↦ codes "  " ++ location p.at ++ part_text p ++ ending t
    | DependencyIs i t ↦ location i ++ codes "dependencies" ++ ending t
    | PromptIs p t ↦ location p.at ++ codes "prompt" ++ ending t
    | DefaultIs kind d t given ↦ location d.at ++ codes "default " ++ expression_text tree.names (d.what).value ++ if_text (d.what).when ++ ending t
        ++ flat_map (λ g. codes ", value " ++ value_text is_raw kind g) (listed given)
    | RangeIs kind r t bounds ↦ location r.at ++ codes "range " ++ bound (r.what).0.low ++ codes " " ++ bound (r.what).0.high ++ if_text (r.what).1 ++ ending t
        ++ flat_map (λ b. codes ", " ++ b.0 ++ codes " to " ++ b.1) (listed bounds)
    | RaisedBy word r t u ↦ location (r.1).at ++ raised_word word ++ codes " by " ++ worth_text r.0 (GivenTruth t) ++ if_text (r.1).what ++ ending u
    | NotRaised word rs ↦ codes "not " ++ raised_word word ++ count_text (length rs)
    | ModulesAre m t ↦ codes "modules " ++ worth_text m (GivenTruth t)
    | ModeIs j k t ↦ location j ++ codes "choice" ++ ending t
    | MemberIs m t ↦ codes "member " ++ name tree m ++ ending t
    | MemberDefaultIs d t u ↦ location d.at ++ codes "default " ++ name tree (d.what).0 ++ if_text (d.what).1 ++ ending t ++ codes ", its prompt" ++ ending u
  ]

abbrev pub location_of : Fact → Option StreamLocation
location_of fact = elim fact [ UserGave at place given ↦ at | NotAllowed s line ↦ Some line.at | _ ↦ None ]

abbrev pub input_location : Option StreamLocation → List ℕ
input_location at = flat_map (λ l. l.stream ++ codes ":" ++ decimal l.number ++ codes ": ") (listed at)

abbrev pub fact_line : Bool → TreeFacts → Fact → List ℕ
fact_line is_raw tree fact = codes "  " ++ input_location (location_of fact) ++ words_of is_raw tree fact

-- What is printed suffices: the words of these lines, without the locations in input files, give the symbol its value. Two inputs of one tree under which
-- the words read the same give it the same value, if what they give the symbol is what a line can give it.
abbrev pub IsGivenByLine : Bool → TreeFacts → UserInput → SymId → Type 0
IsGivenByLine is_raw tree input s =
    IfSome (place_at input.places (SymbolPlace s.0)) (λ g. (text : List ℕ) × (value_by is_raw (type_in (facts tree s)) text ≡ Some g))

abbrev pub WordsDecide : Type 0
WordsDecide = (files : Files) (root : List ℕ) (tree : TreeFacts) (is_raw : Bool) (s : SymId) (a b : UserInput) (A B : Solution) →
    IsTreeOf files root (Ok tree) → IsSolved tree a A → IsSolved tree b B → s.0 < length tree.names →
    IsGivenByLine is_raw tree a s → IsGivenByLine is_raw tree b s →
    map (words_of is_raw tree) (facts_in a A s) ≡ map (words_of is_raw tree) (facts_in b B s) → value_of A s.0 ≡ value_of B s.0

-- ---- What holds a symbol down: the symbols of each listed part and condition below y, those of the mode of a choice that is n, and those of what the
-- default and the range that count give.
module _ (ss : List Numbered) (tree : TreeFacts) (known : SymId → SymbolValue) where
  -- The symbols of a condition of its own; of a part that is an expression; of what a choice depends on, for its mode.
  abbrev pub own_names : Option Form → List SymId
  own_names w = flat_map (λ e. if is_y (value known tree.modules e) then [] else symbols tree.modules e) (listed w)

  abbrev pub worth_names : ConditionPart → List SymId
  worth_names p = elim p.asks [ Worth e ↦ own_names (Some e) | ModeOf k ↦ [] ]

  abbrev pub mode_names : ℕ → List SymId
  mode_names k = flat_map (λ j. flat_map worth_names (dependency_parts ss j)
      ++ flat_map (λ p. flat_map worth_names (shown_parts ss p)) (prompt_lines ss (j ∷ []))) (choice_entry ss k)

  abbrev pub names_of_fact : Fact → List SymId
  names_of_fact fact = elim fact [
    | PartIs p t ↦ if is_y t then [] else elim p.asks [ Worth e ↦ symbols tree.modules e | ModeOf k ↦ mode_names k ]
    | DefaultIs kind d t given ↦ own_names (d.what).when ++ (if is_some given then symbols tree.modules (d.what).value else [])
    | RangeIs kind r t bounds ↦ own_names (r.what).1 ++ (if is_some bounds then leaf_symbols (r.what).0.low ++ leaf_symbols (r.what).0.high else [])
    | MemberDefaultIs d t u ↦ own_names (d.what).1
    | _ ↦ []
  ]

abbrev pub holders : List Numbered → TreeFacts → UserInput → (SymId → SymbolValue) → SymId → List SymId
holders ss tree input known s = flat_map (names_of_fact ss tree known) (facts_of ss tree input known s)

-- What stays while those symbols keep their values: no listed condition rises, and the default and the range that count give the same.
abbrev pub AtMost : Tri → Tri → Type 0
AtMost t u = lesser t u ≡ t

abbrev pub StaysDown : List Numbered → TreeFacts → (SymId → SymbolValue) → Fact → Type 0
StaysDown ss tree v fact = elim fact [
  | DependencyIs i t ↦ AtMost (condition tree v (dependency ss i)) t
  | PromptIs p t ↦ AtMost (condition tree v (shown_under ss p.entry (listed (p.what).when))) t
  | DefaultIs kind d t given ↦ AtMost (line_condition ss tree v (λ x. x.when) d) t × IfSome given (λ g. default_given tree v kind (d.what).value ≡ g)
  | RangeIs kind r t bounds ↦ AtMost (line_condition ss tree v (λ x. x.1) r) t × IfSome bounds (λ b. bound_texts tree v kind (r.what).0 ≡ b)
  | ModeIs j k t ↦ AtMost (mode_of tree v (choice_at tree k)) t
  | MemberDefaultIs d t u ↦ AtMost (line_condition ss tree v (λ x. x.1) d) t
  | _ ↦ Unit {0}
]

-- The law: they do hold it down.
abbrev pub HoldersHold : Type 0
HoldersHold = (names : List (List ℕ)) (lines : List (Located Numbered)) (input : UserInput) (known other : SymId → SymbolValue) (s : SymId) →
    let tree = facts_with names lines in let ss = statements lines in
    All (λ t. other t ≡ known t) (holders ss tree input known s) → All (StaysDown ss tree other) (facts_of ss tree input known s)

-- So neither its visibility nor its direct dependency rises, before the upgrade of m.
abbrev pub HoldersHideIt : Type 0
HoldersHideIt = (names : List (List ℕ)) (lines : List (Located Numbered)) (input : UserInput) (known other : SymId → SymbolValue) (s : SymId) →
    let tree = facts_with names lines in let ss = statements lines in s.0 < length names → same_type (type_of ss s) Undefined ≡ false →
    All (λ t. other t ≡ known t) (holders ss tree input known s) →
    AtMost (conditions tree other (symbol_facts ss s).prompts) (conditions tree known (symbol_facts ss s).prompts)
    × AtMost (conditions tree other (symbol_facts ss s).dependencies) (conditions tree known (symbol_facts ss s).dependencies)

-- ---- The whole text
-- Where a value comes from. The text about a name without a type that these entries define. The name is a symbol only if an entry defines it.
abbrev pub source_text : Source → List ℕ
source_text from = elim from [
  | Source.Untyped ↦ codes "no type"
  | Source.Selected ↦ codes "selected"
  | Source.User ↦ codes "user value"
  | Source.Implied ↦ codes "implied"
  | Source.Default ↦ codes "default"
  | Source.MovedDefault ↦ codes "default, moved into its range"
  | Source.NoDefault ↦ codes "no default"
  | Source.ChoiceOff ↦ codes "its choice is n"
  | Source.UserMember ↦ codes "choice of the user"
  | Source.DefaultMember ↦ codes "choice by default"
]

abbrev pub untyped_text : List ℕ → List ℕ
untyped_text entries = elim entries [ [] ↦ codes ": not a symbol, only mentioned" | _ ↦ codes ": a symbol without a type" ]

-- Lines as text, each with `front` in front.
abbrev pub text_of_lines : List ℕ → List (List ℕ) → List ℕ
text_of_lines front lines = flat_map (λ l. front ++ l ++ codes "\n") lines

-- `in OUTER > INNER`: the titles of the menus around the entry at i; none outside menus.
abbrev pub menu_path : List Numbered → ℕ → List (List ℕ)
menu_path ss i = elim (filter_map (λ j. elim (slice_get ss j) [ Some (MenuLine t) ↦ Some t | _ ↦ None ]) (enclosing ss i)) [
  | [] ↦ []
  | t ∷ ts ↦ (codes "in " ++ t ++ flat_map (λ u. codes " > " ++ u) ts) ∷ []
]

module _ (input : UserInput) (solution : Solution) where
  -- A word that is a number is not explained.
  abbrev pub is_number_word : SymId → Bool
  is_number_word s = same_type (type_in (facts solution.tree s)) Undefined && is_some (number_of_text (name solution.tree s))

  abbrev pub held : SymId → List SymId
  held s = filter (λ t. not (is_number_word t)) (holders (statements solution.tree.lines) solution.tree input (known solution) s)

  -- These symbols, and then those that hold the last of them (`front`) down in n steps, each once, the nearer ones first.
  abbrev pub reached : ℕ → List SymId → List SymId → List SymId
  reached zero seen front = seen
  reached (suc n) seen front = let more = all_added seen (flat_map held front) in reached n more (drop (length seen) more)

  module _ (is_raw : Bool) where
    -- NAME=VALUE; with its type and source; the menus around its first definition; and a line for each fact
    abbrev pub value_words : SymId → List ℕ
    value_words s = worth_text is_raw solution.tree s (given_of (known solution s))

    abbrev pub head_text : SymId → List ℕ
    head_text s = let kind = type_in (facts solution.tree s) in
        if same_type kind Undefined then name solution.tree s ++ untyped_text (definitions_of (statements solution.tree.lines) s)
        else value_words s ++ codes " (" ++ type_text kind ++ codes "): " ++ source_text (source solution s)

    abbrev pub menu_text : SymId → List (List ℕ)
    menu_text s = flat_map (λ i. map (λ path. codes "  " ++ path) (menu_path (statements solution.tree.lines) i))
        (listed (slice_get (definitions_of (statements solution.tree.lines) s) 0))

    abbrev pub symbol_lines : SymId → List (List ℕ)
    symbol_lines s = head_text s ∷ menu_text s ++ map (fact_line is_raw solution.tree) (facts_in input solution s)

    -- The explanation of a symbol, and of what holds it down in n steps.
    abbrev pub explanation_text : ℕ → SymId → List ℕ
    explanation_text n s = text_of_lines [] (symbol_lines s)
        ++ flat_map (λ t. text_of_lines (codes "  ") (symbol_lines t)) (drop 1 (reached n (s ∷ []) (s ∷ [])))

    -- ---- The causes of lost values: each symbol that holds some of them down, the one that holds most first
    -- What holds these symbols down, each once; which of them a symbol holds; those causes that hold n of them.
    abbrev pub causes : List SymId → List SymId
    causes lost = all_added [] (flat_map held lost)

    abbrev pub held_by : List SymId → SymId → List SymId
    held_by lost c = filter (λ s. list_any (same_symbol c) (held s)) lost

    abbrev pub causes_of : List SymId → ℕ → List SymId
    causes_of lost n = filter (λ c. length (held_by lost c) == n) (causes lost)

    -- `NAME=VALUE holds down 2 of them: A, B`, and its explanation, unless it is itself lost and so explained before. A name without a type has no value.
    abbrev pub cause_head : SymId → List ℕ
    cause_head c = if same_type (type_in (facts solution.tree c)) Undefined then name solution.tree c else value_words c

    abbrev pub names_text : List SymId → List ℕ
    names_text all = elim all [ [] ↦ [] | s ∷ more ↦ name solution.tree s ++ flat_map (λ t. codes ", " ++ name solution.tree t) more ]

    abbrev pub cause_lines : List SymId → SymId → List (List ℕ)
    cause_lines lost c = (cause_head c ++ codes " holds down " ++ decimal (length (held_by lost c)) ++ codes " of them: " ++ names_text (held_by lost c))
        ∷ (if list_any (same_symbol c) lost then [] else map (λ l. codes "  " ++ l) (symbol_lines c))

    abbrev pub causes_lines : List SymId → ℕ → List (List ℕ)
    causes_lines lost zero = []
    causes_lines lost (suc n) = flat_map (cause_lines lost) (causes_of lost (suc n)) ++ causes_lines lost n

-- ---- The definitions of a symbol as they are written, as comments
-- The line of the last attribute of the entry at i. Whether a help text follows it.
module _ (lines : List (Located Numbered)) where
  abbrev pub own_lines : ℕ → List (Located Numbered)
  own_lines i = take_while (λ l. is_attribute l.statement) (drop (suc i) lines)

  abbrev pub last_line : ℕ → Located Numbered → ℕ
  last_line i entry = option_map_or (λ l. l.line) (last_of (own_lines i)) entry.line

  abbrev pub ends_in_help : ℕ → Bool
  ends_in_help i = option_map_or (λ l. elim l.statement [ HelpLine ↦ true | _ ↦ false ]) (last_of (own_lines i)) false

-- How many lines the first statement of these lines has: those that `\` joins, and, if a help text follows it, those of that text.
abbrev pub joined_count : List Physical → ℕ
joined_count [] = 0
joined_count (l ∷ ls) = suc (if continues l then joined_count ls else 0)

abbrev pub help_count : List Physical → ℕ
help_count ls = length ls - length (after_help ls)

abbrev pub statement_count : Bool → List Physical → ℕ
statement_count has_text ls = let n = joined_count ls in if has_text then n + help_count (drop n ls) else n

-- The lines of these bytes from `first` to the statement in line `last`, with all lines of that. Lines without text at the end are left out.
abbrev pub without_text : List ℕ → Bool
without_text line = list_all (λ b. is_blank b || b == byte "\r") line

abbrev pub excerpt : List ℕ → ℕ → ℕ → Bool → List (List ℕ)
excerpt bytes first last has_text =
    let lines = slice_split is_line_feed bytes in
    let n = statement_count has_text (drop (last - 1) (physical_lines bytes)) in
    let all = take (last - first) (drop (first - 1) lines) ++ take n (drop (last - 1) lines) in
    take (length all - suffix_len without_text all) all

-- Whether two statements are the same line of the same file. A definition whose file is sourced twice is shown once.
abbrev pub same_place : Option (Located Numbered) → Option (Located Numbered) → Bool
same_place a b = option_map_or (λ l. option_map_or (λ m. same_name l.file m.file && (l.line == m.line)) b false) a false

abbrev pub first_definitions : List (Located Numbered) → List ℕ → List ℕ
first_definitions lines js = filter (λ i. not (list_any (λ j. nat_lt j i && same_place (slice_get lines i) (slice_get lines j)) js)) js

-- `FILE:LINE`, the menus around it, and the lines.
abbrev pub definition_lines : Files → List (Located Numbered) → ℕ → Located Numbered → List (List ℕ)
definition_lines files lines i l = (l.file ++ codes ":" ++ decimal l.line) ∷ menu_path (statements lines) i
    ++ flat_map (λ bytes. excerpt bytes l.line (last_line lines i l) (ends_in_help lines i)) (listed (files.bytes l.file))

abbrev pub definition_comments : Files → List (Located Numbered) → SymId → List ℕ
definition_comments files lines s = flat_map (λ i. flat_map (λ l. flat_map (λ line. codes "# " ++ line ++ codes "\n") (definition_lines files lines i l))
    (listed (slice_get lines i))) (first_definitions lines (definitions_of (statements lines) s))

-- The list of new symbols with these comments, and an empty line after each symbol.
abbrev pub new_text_with_help : Files → List (Located Numbered) → TreeFacts → Notation → SolutionView → List ℕ
new_text_with_help files lines tree notation view =
    flat_map (λ s. if view.is_new s then definition_comments files lines s ++ symbol_new tree notation view s ++ codes "\n" else []) tree.defined

-- ---- The requested names
-- The number of a name that the tree mentions. The name may begin with the prefix.
abbrev pub asked_symbol : TreeFacts → List ℕ → List ℕ → Option SymId
asked_symbol tree prefix asked = option_or (symbol_named tree asked) (option_and_then (symbol_named tree) (without_prefix prefix asked))

-- Two names differ by one letter if one letter is different, or if only one name has it. The names of defined symbols that differ so from this one.
abbrev pub differs_by_one : List ℕ → List ℕ → Bool
differs_by_one [] name = length name == 1
differs_by_one (a ∷ xs) [] = length xs == 0
differs_by_one (a ∷ xs) (b ∷ ys) = if a == b then differs_by_one xs ys else same_name xs ys || (same_name (a ∷ xs) ys || same_name xs (b ∷ ys))

abbrev pub near_names : TreeFacts → List ℕ → List (List ℕ)
near_names tree asked = filter (differs_by_one asked) (map (name tree) tree.defined)
