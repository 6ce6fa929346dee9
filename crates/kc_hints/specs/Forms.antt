-- Trusted: The forms of the lines of a tree, and where they may be, as hints print them (our own).
use Rattle.std.specs.{Map.lookup, Option.option_or, Prelude.{List, Option, [], codes, if◌then◌else◌, ℕ, ◌∷◌}}
use Rattle.kc_language.specs.{Expressions.same_name, Tokens.is_blank}

-- Where lines may be.
abbrev pub anywhere : List ℕ
anywhere = codes "anywhere"

abbrev pub outside_choices : List ℕ
outside_choices = codes "outside a choice"

abbrev pub at_end : List ℕ
at_end = codes "at the end of its block, in the same file"

abbrev pub in_config : List ℕ
in_config = codes "in a config"

abbrev pub in_config_or_choice : List ℕ
in_config_or_choice = codes "in a config or a choice"

-- Each word that may start a line, with the form of the line and where it may be: attributes, types, and all others.
abbrev pub attribute_forms : List (List ℕ × (List ℕ × List ℕ))
attribute_forms =
    (codes "prompt", (codes "prompt TEXT [if EXPR]", in_config_or_choice)) ∷
    (codes "default", (codes "default EXPR [if EXPR]", in_config_or_choice)) ∷
    (codes "depends", (codes "depends on EXPR", (codes "in a config, choice, menu or comment"))) ∷
    (codes "visible", (codes "visible if EXPR", (codes "in a menu"))) ∷
    (codes "select", (codes "select NAME [if EXPR]", in_config)) ∷
    (codes "imply", (codes "imply NAME [if EXPR]", in_config)) ∷
    (codes "range", (codes "range OPERAND OPERAND [if EXPR]", in_config)) ∷
    (codes "help", (codes "help", in_config_or_choice)) ∷
    (codes "---help---", (codes "---help---", in_config_or_choice)) ∷
    (codes "modules", (codes "modules", in_config)) ∷
    (codes "option", (codes "option modules", in_config)) ∷
    []

abbrev pub type_forms : List (List ℕ × (List ℕ × List ℕ))
type_forms =
    (codes "bool", (codes "bool [TEXT [if EXPR]]", in_config_or_choice)) ∷
    (codes "tristate", (codes "tristate [TEXT [if EXPR]]", in_config)) ∷
    (codes "string", (codes "string [TEXT [if EXPR]]", in_config)) ∷
    (codes "int", (codes "int [TEXT [if EXPR]]", in_config)) ∷
    (codes "hex", (codes "hex [TEXT [if EXPR]]", in_config)) ∷
    (codes "def_bool", (codes "def_bool EXPR [if EXPR]", in_config)) ∷
    (codes "def_tristate", (codes "def_tristate EXPR [if EXPR]", in_config)) ∷
    []

abbrev pub statement_forms : List (List ℕ × (List ℕ × List ℕ))
statement_forms =
    (codes "config", (codes "config NAME", anywhere)) ∷
    (codes "menuconfig", (codes "menuconfig NAME", anywhere)) ∷
    (codes "if", (codes "if EXPR", anywhere)) ∷
    (codes "comment", (codes "comment TEXT", anywhere)) ∷
    (codes "source", (codes "source TEXT", anywhere)) ∷
    (codes "menu", (codes "menu TEXT", outside_choices)) ∷
    (codes "mainmenu", (codes "mainmenu TEXT", outside_choices)) ∷
    (codes "choice", (codes "choice", outside_choices)) ∷
    (codes "endif", (codes "endif", at_end)) ∷
    (codes "endmenu", (codes "endmenu", at_end)) ∷
    (codes "endchoice", (codes "endchoice", at_end)) ∷
    []

abbrev pub form_in : List (List ℕ × (List ℕ × List ℕ)) → List ℕ → Option (List ℕ × List ℕ)
form_in forms word = lookup (same_name word) forms

abbrev pub form_for : List ℕ → Option (List ℕ × List ℕ)
form_for word = option_or (form_in attribute_forms word) (option_or (form_in type_forms word) (form_in statement_forms word))

-- The first word of a line: the bytes between its first blanks.
abbrev pub without_blanks : List ℕ → List ℕ
without_blanks [] = []
without_blanks (b ∷ bs) = if is_blank b then without_blanks bs else b ∷ bs

abbrev pub word_of : List ℕ → List ℕ
word_of [] = []
word_of (b ∷ bs) = if is_blank b then [] else b ∷ word_of bs

abbrev pub form_of : List ℕ → Option (List ℕ × List ℕ)
form_of line = form_for (word_of (without_blanks line))
