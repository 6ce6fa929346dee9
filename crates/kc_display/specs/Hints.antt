-- Trusted: Hints: which diagnostics --quiet-tree leaves out, and the line that --hints adds below a diagnostic (our own).
use Rattle.std.specs.{List.{find, flat_map, starts_with}, Prelude.{Bool, List, None, Option, Some, [], codes, false, if◌then◌else◌, nat_eq, take, true, ℕ, ◌&&◌, ◌++◌, ◌+◌, ◌∷◌}}
use Rattle.kc_display.specs.{Difference.lines, declared.{code.Code.{Code, TheVariants.{BadDefault, BadLine, BadName, BadToken, BadValue, Blocks, CannotRead, CannotWrite, ChoiceMember, DefaultOutsideRange, DependencyLoop, Inclusion, LeftOut, LongInputLine, LongLine, LostValue, Macro, MemberTarget, Misplaced, NoFile, NoFix, NoMember, NoMemory, NoType, NotUpToDate, OutOfReach, OutsideRange, Overridden, Prompts, Selected, SetAgain, Syntax, TextTarget, TextUnset, TooDeep, TooManyLines, TooManySymbols, TypeLines, UnknownName, UnknownSymbol, UnreadableName, WarningsRefused}}, display.Showing.Showing}}

-- The text of the code in a diagnostic.
abbrev pub code_text : Code → List ℕ
code_text TypeLines = codes "warning K1: "
code_text Prompts = codes "warning K2: "
code_text NoType = codes "warning K3: "
code_text TextTarget = codes "warning K4: "
code_text NoMember = codes "warning K5: "
code_text MemberTarget = codes "warning K6: "
code_text UnknownSymbol = codes "warning K7: "
code_text BadValue = codes "warning K8: "
code_text BadLine = codes "warning K9: "
code_text SetAgain = codes "warning K10: "
code_text Selected = codes "warning K11: "
code_text OutsideRange = codes "warning K12: "
code_text DefaultOutsideRange = codes "warning K13: "
code_text LostValue = codes "warning K14: "
code_text Overridden = codes "warning K15: "
code_text TextUnset = codes "warning K16: "
code_text NoFile = codes "error E1: "
code_text Inclusion = codes "error E2: "
code_text TooManyLines = codes "error E3: "
code_text LongLine = codes "error E4: "
code_text BadToken = codes "error E5: "
code_text Macro = codes "error E6: "
code_text LeftOut = codes "error E7: "
code_text Syntax = codes "error E8: "
code_text Blocks = codes "error E9: "
code_text Misplaced = codes "error E10: "
code_text BadName = codes "error E11: "
code_text TooDeep = codes "error E12: "
code_text ChoiceMember = codes "error E13: "
code_text BadDefault = codes "error E14: "
code_text DependencyLoop = codes "error E15: "
code_text TooManySymbols = codes "error E16: "
code_text LongInputLine = codes "error E17: "
code_text CannotRead = codes "error E18: "
code_text CannotWrite = codes "error E19: "
code_text NoMemory = codes "error E20: "
code_text WarningsRefused = codes "error E21: "
code_text NotUpToDate = codes "error E22: "
code_text UnreadableName = codes "error E23: "
code_text UnknownName = codes "error E24: "
code_text OutOfReach = codes "error E25: "
code_text NoFix = codes "error E26: "

-- The text of its hint.
abbrev pub hint_text : Code → List ℕ
hint_text TypeLines = codes "the lines give the symbol two types: keep one of them"
hint_text Prompts = codes "one entry has two prompts: keep one of them"
hint_text NoType = codes "give the symbol a type line, such as bool, or remove its config line"
hint_text TextTarget = codes "select and imply set bool and tristate symbols only: remove the line, or give the symbol a default"
hint_text NoMember = codes "the default of a choice names one of its members: fix the name, or remove the default"
hint_text MemberTarget = codes "a choice sets its members by itself: remove the line, or add a default to the choice"
hint_text UnknownSymbol = codes "no file of the tree defines this symbol with a type: fix its name, or remove the line"
hint_text BadValue = codes "a bool is y or n, a tristate y, m or n, an int digits, a hex 0x and digits, a string a text in quotes: fix the value"
hint_text BadLine = codes "a line is a comment, or has the form NAME=VALUE or # NAME is not set, where NAME begins with the prefix: fix the line"
hint_text SetAgain = codes "an earlier line set this symbol, and the last line counts: keep one of them"
hint_text Selected = codes "a select does not look at what the symbol depends on: fix the select, or the dependency"
hint_text OutsideRange = codes "the value is dropped: give one within the range, or change what the range depends on"
hint_text DefaultOutsideRange = codes "the default is replaced: change it to a value within the range"
hint_text LostValue = codes "--explain NAME tells what decides the value: remove the line, or change what the symbol depends on"
hint_text Overridden = codes "the last line counts: keep one of the two lines"
hint_text TextUnset = codes "such a line gives n to a bool or tristate only: remove it, or give the symbol a value"
hint_text NoFile = codes "create the file, or fix its name in the source line; --root DIR gives the folder of the tree"
hint_text Inclusion = codes "remove one of the source lines of the loop"
hint_text TooManyLines = codes "the files of a tree have at most 1000000 lines together: split the tree"
hint_text LongLine = codes "a line has at most 8191 bytes, with the lines that a backslash joins to it: split it"
hint_text BadToken = codes "here stands a byte that begins no word, operator or quoted text, or a quote that its line does not close: fix the line"
hint_text Macro = codes "macros are not part of the language of kconf: kconf-tree and kconf-flatten expand them"
hint_text LeftOut = codes "kconf does not have this part of the language: docs/language.md says what takes its place"
hint_text Syntax = codes "the line does not follow the form of its first word: docs/language.md has the form of each line"
hint_text Blocks = codes "if, menu and choice end in their own file with endif, endmenu and endchoice, the innermost first"
hint_text Misplaced = codes "an attribute stands below its config, menuconfig, choice, menu or comment line, and below those that may have it: move the line"
hint_text BadName = codes "a name has 1 to 255 letters, digits and _, and is none of n, m, y and if: rename the symbol"
hint_text TooDeep = codes "at most 64 blocks, files, parentheses and ! are open at once: nest less"
hint_text ChoiceMember = codes "a member of a choice has one config line and the type bool: fix its lines"
hint_text BadDefault = codes "a default of a string, int or hex is one word or text, and one of a choice is the name of a member: fix the default"
hint_text DependencyLoop = codes "each symbol of the loop needs the next one: remove one of these dependencies"
hint_text TooManySymbols = codes "a tree defines at most 65535 symbols: split the tree"
hint_text LongInputLine = codes "a line of an input file has at most 65535 bytes: shorten it"
hint_text CannotRead = codes "check that the file is there and may be read"
hint_text CannotWrite = codes "check that its folder is there and may be written, and that the disk has room"
hint_text NoMemory = codes "give the process more memory"
hint_text WarningsRefused = codes "mend what the warnings tell, or run without --strict and --strict-tree; --quiet-tree hides warnings that count"
hint_text NotUpToDate = codes "run again with --replace in place of --check; --diff shows what differs"
hint_text UnreadableName = codes "a name in a dependency file has no tab, =, ;, *, ? or [, and does not end in a blank, & or ): rename the file"
hint_text UnknownName = codes "give the name of a symbol that the tree mentions, with or without the prefix"
hint_text OutOfReach = codes "ask for a value that it can have; if symbols are listed below, change what they depend on"
hint_text NoFix = codes "raise --how-steps, or ask first for a symbol that this one depends on"

-- The warnings about the tree.
abbrev pub is_about_tree : Code → Bool
is_about_tree TypeLines = true
is_about_tree Prompts = true
is_about_tree NoType = true
is_about_tree TextTarget = true
is_about_tree NoMember = true
is_about_tree MemberTarget = true
is_about_tree _ = false

-- A file that cannot be read or written: the hint starts with the reason of the system, if there is one.
abbrev pub names_reason : Code → Bool
names_reason CannotRead = true
names_reason CannotWrite = true
names_reason _ = false

-- All codes.
abbrev pub all_codes : List Code
all_codes =
    TypeLines ∷ Prompts ∷ NoType ∷ TextTarget ∷ NoMember ∷ MemberTarget ∷ UnknownSymbol ∷ BadValue ∷ BadLine ∷ SetAgain ∷ Selected ∷ OutsideRange ∷
    DefaultOutsideRange ∷ LostValue ∷ Overridden ∷ TextUnset ∷ NoFile ∷ Inclusion ∷ TooManyLines ∷ LongLine ∷ BadToken ∷ Macro ∷ LeftOut ∷ Syntax ∷
    Blocks ∷ Misplaced ∷ BadName ∷ TooDeep ∷ ChoiceMember ∷ BadDefault ∷ DependencyLoop ∷ TooManySymbols ∷ LongInputLine ∷ CannotRead ∷ CannotWrite ∷
    NoMemory ∷ WarningsRefused ∷ NotUpToDate ∷ UnreadableName ∷ UnknownName ∷ OutOfReach ∷ NoFix ∷ []

-- The first of these codes with which a text starts.
abbrev pub begins_with : List ℕ → List ℕ → Bool
begins_with text word = starts_with nat_eq text word

abbrev pub code_among : List Code → List ℕ → Option Code
code_among known text = find (λ code. begins_with text (code_text code)) known

-- The first code at or after this position of a line, and its position. There is none after a colon and three blanks: those start the text of an
-- explanation, after its configuration.
abbrev pub code_from : List Code → ℕ → List ℕ → Option (ℕ × Code)
code_from known place [] = None
code_from known place (b ∷ rest) = if begins_with (b ∷ rest) (codes ":   ") then None
    else elim (code_among known (b ∷ rest)) [ Some code ↦ Some (place, code) | None ↦ code_from known (place + 1) rest ]

-- The first code in a line. A line that starts with a blank belongs to an explanation, and has none.
abbrev pub first_code : List ℕ → Option (ℕ × Code)
first_code line = if begins_with line (codes " ") then None else code_from all_codes 0 line

-- The line below it starts with two blanks and the text before the code: the location, or the configuration.
abbrev pub hint_line : List ℕ → List ℕ → Code → List ℕ
hint_line before reason code = codes "  " ++ (before ++ (codes "hint: " ++ (reason ++ (hint_text code ++ codes "\n"))))

abbrev pub reason_of : Code → List ℕ → List ℕ
reason_of code reason = if names_reason code then reason else []

-- How a line of diagnostics is printed. With --quiet-tree, a warning about the tree is left out. With --hints, any other line with a code is followed
-- by its hint, which starts with the reason of the system and with a fact; both may be empty. Other lines are printed unchanged.
abbrev pub coded_line : Showing → List ℕ → List ℕ → List ℕ → ℕ → Code → List ℕ
coded_line showing reason fact line place code = if showing.quiet_tree && is_about_tree code then []
    else if showing.hints then line ++ hint_line (take place line) (reason_of code reason ++ fact) code else line

abbrev pub shown_line : Showing → List ℕ → List ℕ → List ℕ → List ℕ
shown_line showing reason fact line = elim (first_code line) [ None ↦ line | Some found ↦ coded_line showing reason fact line found.0 found.1 ]

-- How diagnostics are printed without facts: line by line, in order.
abbrev pub shown_text : Showing → List ℕ → List ℕ → List ℕ
shown_text showing reason text = flat_map (shown_line showing reason []) (lines text)
