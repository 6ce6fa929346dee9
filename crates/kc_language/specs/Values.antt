-- Trusted: 8. Values: the equation that gives each symbol its value, which symbols are written, and which are in the minimal file.
-- Sources: the kernel's kconfig-language document and kconfiglib's documentation; "our own" marks the rest. `known` is the value of each symbol.
use Rattle.std.specs.{Fmt.{digits, signed_decimal}, List.list_any, Option.{option_map_or, option_or}, Prelude.{Bool, List, None, Option, Some, [], bytes_eq, codes, false, find, if◌then◌else◌, int_lt, is_some, length, map, nat_lt, not, option_and_then, option_map, pos, slice_get, true, unsigned_abs, unwrap_or, ℕ, ℤ, ◌&&◌, ◌++◌, ◌<◌, ◌||◌, ◌≡◌}}
use Rattle.kc_language.specs.{Expressions.{Form, Leaf, Single, SymbolValue, TextValue, Truth, greater, greatest, least, lesser, same_symbol, symbol, text, truth_of_value, value}, Symbols.{ChoiceFacts, Condition, Guarded, SymbolFacts, TreeFacts, is_symbol_of, name_by}, Text.{hex_of, int_of}, declared.{expressions.{SymId.SymId, SymbolType.{SymbolType, TheVariants.{Bool as IsBool, Hex, Int, Str, Tristate, Undefined}}, Tri.{TheVariants.{M, N, Y}, Tri}}, values.Interval.Interval}}

-- What the user gives: a truth value or a text for a symbol, or the member to select for a choice.
pub data GivenValue : Type 0 where
  GivenTruth : Tri → GivenValue
  GivenText : List ℕ → GivenValue
  Member : SymId → GivenValue

-- What the user gives it for: the symbol or the choice of this number.
pub data UserPlace : Type 0 where
  SymbolPlace ChoicePlace : ℕ → UserPlace

-- Truth values: whether one is y, is n, equals another, is greater than another; and the upgrade of m to y.
abbrev pub is_yes : GivenValue → Bool
is_yes g = elim g [ GivenTruth Y ↦ true | _ ↦ false ]

abbrev pub is_n : Tri → Bool
is_n t = elim t [ N ↦ true | _ ↦ false ]

abbrev pub same_tri : Tri → Tri → Bool
same_tri t = elim t [ N ↦ is_n | M ↦ λ u. elim u [ M ↦ true | _ ↦ false ] | Y ↦ λ u. elim u [ Y ↦ true | _ ↦ false ] ]

abbrev pub above : Tri → Tri → Bool
above t = elim t [ N ↦ λ u. false | M ↦ is_n | Y ↦ λ u. elim u [ Y ↦ false | _ ↦ true ] ]

abbrev pub upgrade : Tri → Tri
upgrade t = elim t [ N ↦ N | _ ↦ Y ]

-- Values of one symbol are compared as truth values or as texts: `ff` and `0xff` differ. A member is not the value of a symbol.
abbrev pub same_given : GivenValue → GivenValue → Bool
same_given (GivenTruth t) (GivenTruth u) = same_tri t u
same_given (GivenText a) (GivenText b) = bytes_eq a b
same_given _ _ = false

abbrev pub given_of : SymbolValue → GivenValue
given_of v = elim v [ Truth t ↦ GivenTruth t | TextValue k bytes ↦ GivenText bytes ]

-- The user's value counts only if the symbol is visible: a truth value up to the visibility, a text as it is (kconfiglib).
abbrev pub user_or : Option GivenValue → Tri → Tri → Tri
user_or user = elim user [ Some (GivenTruth u) ↦ λ vis otherwise. if is_n vis then otherwise else lesser u vis | _ ↦ λ vis otherwise. otherwise ]

abbrev pub visible_text : Option GivenValue → Tri → Option (List ℕ)
visible_text user = elim user [ Some (GivenText t) ↦ λ vis. if is_n vis then None else Some t | _ ↦ λ vis. None ]

-- Int is decimal, hex hexadecimal. A text that is no number counts as 0. A hex bound, which is never negative, is written as `0xff` (all our own).
abbrev pub number_as : SymbolType → List ℕ → Option ℤ
number_as k = elim k [ Int ↦ int_of | Hex ↦ hex_of | _ ↦ λ bytes. None ]

abbrev pub number_or_zero : SymbolType → List ℕ → ℤ
number_or_zero k bytes = unwrap_or (number_as k bytes) (pos 0)

abbrev pub number_text : SymbolType → ℤ → List ℕ
number_text k = elim k [ Hex ↦ λ n. codes "0x" ++ digits 16 false (unsigned_abs n) | _ ↦ signed_decimal ]

-- Ranges: both bounds are inside. A number below the low bound becomes the low bound. Otherwise one above the high bound becomes the high bound.
abbrev pub is_within_range : SymbolType → Option Interval → List ℕ → Bool
is_within_range k range = elim range [ None ↦ λ t. true | Some r ↦ λ t. not (int_lt (number_or_zero k t) r.low) && not (int_lt r.high (number_or_zero k t)) ]

abbrev pub if_within_range : SymbolType → Option Interval → Option (List ℕ) → Option (List ℕ)
if_within_range k range t = option_and_then (λ t. if is_within_range k range t then Some t else None) t

abbrev pub clamped : SymbolType → Option Interval → List ℕ → List ℕ
clamped k None t = t
clamped k (Some r) t = if int_lt (number_or_zero k t) r.low then number_text k r.low else (if int_lt r.high (number_or_zero k t) then number_text k r.high else t)

-- Symbols and choices of a tree by number. Each name that the tree mentions has a number.
abbrev pub name_count : TreeFacts → ℕ
name_count tree = length tree.symbols

abbrev pub facts : TreeFacts → SymId → Option SymbolFacts
facts tree s = slice_get tree.symbols s.0

abbrev pub type_in : Option SymbolFacts → SymbolType
type_in f = elim f [ None ↦ Undefined | Some f ↦ f.symbol_type ]

abbrev pub name : TreeFacts → SymId → List ℕ
name tree s = name_by tree.names s

abbrev pub choice_at : TreeFacts → ℕ → Option ChoiceFacts
choice_at tree c = slice_get tree.choices c

-- Whether the selected member is the one that a line chose. If the chosen member is not visible, another one is selected.
abbrev pub is_chosen : Option SymId → Option GivenValue → Bool
is_chosen selection user = elim user [ Some (Member m) ↦ is_symbol_of m selection | _ ↦ false ]

-- The value of the modules symbol, n if there is none. The text of an expression that is one operand (else empty), and of a default.
abbrev pub modules_value : (SymId → SymbolValue) → Option SymId → Tri
modules_value known modules = elim modules [ None ↦ N | Some m ↦ truth_of_value (known m) ]

abbrev pub single_text : (SymId → SymbolValue) → Form → List ℕ
single_text known e = elim e [ Single o ↦ text known o | _ ↦ [] ]

abbrev pub default_text : (SymId → SymbolValue) → Option (Guarded Form) → List ℕ
default_text known default = elim default [ None ↦ [] | Some g ↦ single_text known g.what ]

module _ (tree : TreeFacts) (known : SymId → SymbolValue) where
  -- The `&&` of conjuncts. The mode of a choice: y if its prompt's condition is not n (kconfiglib's `tri_value`, for bools), n without a prompt.
  abbrev pub and_value : List Form → Tri
  and_value conjuncts = least (map (value known tree.modules) conjuncts)

  abbrev pub mode_of : Option ChoiceFacts → Tri
  mode_of c = upgrade (elim (option_and_then (λ c. c.prompt) c) [ None ↦ N | Some p ↦ and_value p.conjuncts ])

  -- A condition: the `&&` of its conjuncts and of the mode of the choice around it ("Menu dependencies"). It is met if it is not n.
  abbrev pub condition : Condition → Tri
  condition c = lesser (and_value c.conjuncts) (elim c.mode [ None ↦ Y | Some k ↦ mode_of (choice_at tree k) ])

  abbrev pub conditions : List Condition → Tri
  conditions cs = greatest (map condition cs)

  abbrev pub first_met : {X : Type 0} → List (Guarded X) → Option (Guarded X)
  first_met gs = find (λ g. not (is_n (condition g.when))) gs

  -- A type is tristate if it says so and the modules symbol is not n. In any other type m counts as y (kconfiglib).
  abbrev pub is_tristate : SymbolType → Bool
  is_tristate k = elim k [ Tristate ↦ not (is_n (modules_value known tree.modules)) | _ ↦ false ]

  abbrev pub upgraded : SymbolType → Tri → Tri
  upgraded k = elim k [ Tristate ↦ λ t. if is_n (modules_value known tree.modules) then upgrade t else t | _ ↦ upgrade ]

  -- The limits of a symbol: the greatest condition of its prompts (kconfiglib's `visibility`), the greatest dependency of its definitions, and the
  -- greatest min(other symbol's value, condition) of the `select` lines that name it ("reverse dependencies") and of the `imply` lines.
  abbrev pub visibility : SymbolFacts → Tri
  visibility f = upgraded f.symbol_type (conditions f.prompts)

  abbrev pub is_visible : SymbolFacts → Bool
  is_visible f = not (is_n (visibility f))

  abbrev pub direct : SymbolFacts → Tri
  direct f = upgraded f.symbol_type (conditions f.dependencies)

  abbrev pub selector_values : List (Guarded SymId) → Tri
  selector_values gs = greatest (map (λ g. lesser (truth_of_value (known g.what)) (condition g.when)) gs)

  abbrev pub selected_to : SymbolFacts → Tri
  selected_to f = upgraded f.symbol_type (selector_values f.selectors)

  abbrev pub implied_to : SymbolFacts → Tri
  implied_to f = upgraded f.symbol_type (selector_values f.impliers)

  -- Bool and tristate: the user's value or the default, and at least what it is selected to, even against its direct dependency (the
  -- document: "select should be used with care"). An `imply` raises the default, up to the direct dependency (the order is our own).
  abbrev pub default_value : Option (Guarded Form) → Tri
  default_value default = elim default [ None ↦ N | Some g ↦ lesser (value known tree.modules g.what) (condition g.when) ]

  abbrev pub implied_value : SymbolFacts → Tri
  implied_value f = let d = default_value (first_met f.defaults) in if is_n (implied_to f) then d else lesser (greater d (implied_to f)) (direct f)

  abbrev pub truth_equation : SymbolFacts → Option GivenValue → Tri
  truth_equation f user = upgraded f.symbol_type (greater (user_or user (visibility f) (implied_value f)) (selected_to f))

  -- Int and hex: the user's text if it is inside the first range whose condition is not n, else the default's, clamped to that range.
  abbrev pub active_range : SymbolFacts → Option Interval
  active_range f = let number = λ (bound : Leaf). number_or_zero f.symbol_type (text known bound) in
      option_map (λ r. record { low = number r.what.low; high = number r.what.high }) (first_met f.ranges)

  abbrev pub number_equation : SymbolFacts → Option GivenValue → List ℕ
  number_equation f user = unwrap_or (if_within_range f.symbol_type (active_range f) (visible_text user (visibility f)))
      (clamped f.symbol_type (active_range f) (default_text known (first_met f.defaults)))

  -- With the mode y a choice selects the user's member if it is visible (kconfiglib's `selection`), else the first default whose condition
  -- is not n and that names a visible member, else the first visible member (the document's "choices"). With the mode n it selects none.
  abbrev pub visible : SymId → Bool
  visible s = elim (facts tree s) [ None ↦ false | Some f ↦ not (is_n (conditions f.prompts)) ]

  abbrev pub visible_member : ChoiceFacts → SymId → Bool
  visible_member c m = list_any (same_symbol m) c.members && visible m

  abbrev pub selected : Option ChoiceFacts → Option GivenValue → Option SymId
  selected None user = None
  selected (Some c) user = if is_n (mode_of (Some c)) then None else option_or (elim user [ Some (Member m) ↦ if visible_member c m then Some m else None | _ ↦ None ])
      (option_or (option_map (λ g. g.what) (find (λ g. not (is_n (condition g.when)) && visible_member c g.what) c.defaults)) (find visible c.members))

  -- The value by type: without a type the symbol's own name; of a string the user's text, else the default's, else empty (kconfiglib's `str_value`).
  abbrev pub by_type : SymId → SymbolFacts → SymbolType → Option GivenValue → SymbolValue
  by_type s f Undefined user = TextValue Undefined (name tree s)
  by_type s f Str user = TextValue Str (unwrap_or (visible_text user (visibility f)) (default_text known (first_met f.defaults)))
  by_type s f Int user = TextValue Int (number_equation f user)
  by_type s f Hex user = TextValue Hex (number_equation f user)
  by_type s f _ user = Truth (truth_equation f user)

  -- A member of a choice is y if it is selected, else n: its own defaults have no effect, and `user` is what the choice was given.
  abbrev pub equation : SymId → Option SymbolFacts → Option GivenValue → SymbolValue
  equation s None = λ user. TextValue Undefined (name tree s)
  equation s (Some f) = elim f.choice [ None ↦ by_type s f f.symbol_type | Some c ↦ λ u. Truth (if is_symbol_of s (selected (choice_at tree c) u) then Y else N) ]

  -- Whether an answer of the user could change the value of a symbol outside a choice: y or n for a bool, and y, m or n for a tristate. A string can change
  -- if it is visible. An int or hex can if it is visible and its range is not empty, since each number can be written with more leading zeros.
  abbrev pub changes : SymId → SymbolFacts → Tri → Bool
  changes s f t = not (same_tri (truth_equation f (Some (GivenTruth t))) (truth_of_value (known s)))

  abbrev pub can_change : SymId → SymbolFacts → SymbolType → Bool
  can_change s f kind = elim kind [
    | Undefined ↦ false
    | IsBool ↦ changes s f Y || changes s f N
    | Tristate ↦ changes s f Y || (changes s f M || changes s f N)
    | Str ↦ is_visible f
    | _ ↦ is_visible f && option_map_or (λ r. not (int_lt r.high r.low)) (active_range f) true
  ]

  -- Whether a choice has a visible member besides the one that it selects without a user value.
  abbrev pub has_other : ChoiceFacts → Bool
  has_other c = elim (selected (Some c) None) [ None ↦ false | Some s ↦ list_any (λ m. not (same_symbol s m) && visible m) c.members ]

  -- A symbol outside a choice is new if no line gave it a value and an answer would change its value (our own). A member of a choice is new if no
  -- line gave it a value, no line chose the selected member of its choice, it is visible, and another member could be selected instead.
  abbrev pub is_new_by : (UserPlace → Option GivenValue) → SymId → SymbolFacts → Option ℕ → Bool
  is_new_by user s f None = can_change s f f.symbol_type
  is_new_by user s f (Some c) = let given = user (ChoicePlace c) in
      is_visible f && (not (is_chosen (selected (choice_at tree c) given) given) && option_map_or has_other (choice_at tree c) false)

  abbrev pub is_new : (UserPlace → Option GivenValue) → SymId → Bool
  is_new user s = not (is_some (user (SymbolPlace s.0))) && elim (facts tree s) [ None ↦ false | Some f ↦ is_new_by user s f f.choice ]

  -- A symbol has a line in the .config if it is visible and has a type. Outside a choice a bool or tristate also has one if its default or what it is
  -- selected to is not n, or if what it is implied to and its direct dependency both are not n. A string, int or hex also has one if a default is met.
  abbrev pub written_truth : SymbolFacts → Bool
  written_truth f = is_visible f || (not (is_n (default_value (first_met f.defaults))) || (not (is_n (selected_to f)) ||
      (not (is_n (implied_to f)) && not (is_n (direct f)))))

  abbrev pub written_by_type : SymbolFacts → SymbolType → Bool
  written_by_type f k = elim k [ Undefined ↦ false | IsBool ↦ written_truth f | Tristate ↦ written_truth f | _ ↦ is_visible f || is_some (first_met f.defaults) ]

  abbrev pub written : SymId → Bool
  written s = elim (facts tree s) [ None ↦ false | Some f ↦ elim f.choice [ None ↦ written_by_type f f.symbol_type | Some c ↦ is_visible f ] ]

  -- When the .config is read again, a visible tristate outside a choice changes if it is above both its visibility and what it is selected to.
  abbrev pub changes_on_reread_truth : SymbolFacts → Tri → Bool
  changes_on_reread_truth f t = is_tristate f.symbol_type && (is_visible f && (above t (visibility f) && above t (selected_to f)))

  abbrev pub changes_on_reread_facts : Option SymbolFacts → Tri → Bool
  changes_on_reread_facts o = elim o [ None ↦ λ t. false | Some f ↦ elim f.choice [ Some c ↦ λ t. false | None ↦ changes_on_reread_truth f ] ]

-- V gives values by number. The value of a symbol (past the last, an empty text); whether it changes on rereading; a choice's default selection.
abbrev pub known_from : TreeFacts → (ℕ → SymbolValue) → SymId → SymbolValue
known_from tree V s = if nat_lt s.0 (name_count tree) then V s.0 else TextValue Undefined (name tree s)

abbrev pub changes_on_reread : TreeFacts → (ℕ → SymbolValue) → ℕ → Bool
changes_on_reread tree V i = changes_on_reread_facts tree (known_from tree V) (facts tree (symbol i)) (truth_of_value (V i))

abbrev pub default_selection : TreeFacts → (ℕ → SymbolValue) → ℕ → Option SymId
default_selection tree V c = selected tree (known_from tree V) (choice_at tree c) None

-- Where the user value of symbol i is given: for a member, at its choice. `rhs`: the right side of its equation for such a user value.
module _ (tree : TreeFacts) where
  abbrev pub user_place : ℕ → UserPlace
  user_place i = elim (facts tree (symbol i)) [ None ↦ SymbolPlace i | Some f ↦ elim f.choice [ None ↦ SymbolPlace i | Some c ↦ ChoicePlace c ] ]

  abbrev pub rhs : ℕ → Option GivenValue → (ℕ → SymbolValue) → SymbolValue
  rhs i user V = equation tree (known_from tree V) (symbol i) (facts tree (symbol i)) user

  abbrev pub equations : (UserPlace → Option GivenValue) → ℕ → (ℕ → SymbolValue) → SymbolValue
  equations user i V = rhs i (user (user_place i)) V

-- V solves the equations if each of the first n symbols has the value that its equation gives. It is the only solution if every solution agrees with it.
abbrev pub Solves : {A : Type 0} → ℕ → (ℕ → (ℕ → A) → A) → (ℕ → A) → Type 0
Solves n rhs V = (s : ℕ) → s < n → V s ≡ rhs s V

abbrev pub IsOnlySolution : {A : Type 0} → ℕ → (ℕ → (ℕ → A) → A) → (ℕ → A) → Type 0
IsOnlySolution {A} n rhs V = (W : ℕ → A) → Solves n rhs W → (s : ℕ) → s < n → W s ≡ V s

-- A symbol differs if its equation gives another value without the user value. A member differs if it is selected, but not by default (our own).
module _ (tree : TreeFacts) (user : UserPlace → Option GivenValue) (V : ℕ → SymbolValue) where
  abbrev pub selection : ℕ → Option SymId
  selection c = selected tree (known_from tree V) (choice_at tree c) (user (ChoicePlace c))

  abbrev pub differs_at : ℕ → UserPlace → Bool
  differs_at i (SymbolPlace j) = not (same_given (given_of (V i)) (given_of (rhs tree i None V)))
  differs_at i (ChoicePlace c) = is_symbol_of (symbol i) (selection c) && not (is_symbol_of (symbol i) (default_selection tree V c))

  abbrev pub differs : ℕ → Bool
  differs i = differs_at i (user_place tree i)
