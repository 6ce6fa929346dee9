-- Examples for the chapter Symbols: the conditions of a prompt, and a symbol with two types.
use Rattle.std.proofs.Common.{refl, ◌≡◌}
use Rattle.std.specs.{Fmt.digits, Prelude.{List, None, Some, [], codes, map, ℕ, ◌∷◌}}
use Rattle.kc_language.specs.{Expressions.{Form, Single, Symbol, symbol}, Statements.{ConfigLine, DependsLine, EndMenuLine, Located, MenuLine, Numbered, TypeLine, VisibleLine}, Symbols.{facts_with, symbol_facts}, declared.expressions.SymbolType.TheVariants.{Bool, Str}}

-- The expression that is the symbol with this number.
abbrev name : ℕ → Form
name n = Single (Symbol (symbol n))

-- ---- When is a prompt shown?
--
--     menu "Network"
--         depends on NET
--         visible if EXPERT
--     config WIFI
--         bool "Wi-Fi" if PCI
--         depends on USB
--     endmenu
--
-- By first mention, NET has number 0, EXPERT 1, WIFI 2, PCI 3 and USB 4.
abbrev network : List Numbered
network =
    MenuLine (codes "Network") ∷
    DependsLine (name 0) ∷
    VisibleLine (name 1) ∷
    ConfigLine (symbol 2) ∷
    TypeLine Bool (Some (record { text = []; when = Some (name 3) })) ∷
    DependsLine (name 4) ∷
    EndMenuLine ∷
    []

-- The prompt of WIFI is shown if NET, USB, EXPERT and PCI are not n.
prompt_of_wifi : (symbol_facts network (symbol 2)).prompts ≡ record { conjuncts = name 0 ∷ name 4 ∷ name 1 ∷ name 3 ∷ []; mode = None } ∷ []
prompt_of_wifi = refl

-- WIFI itself depends on NET and USB only: `visible if` and the prompt's `if` limit the prompt, and not the symbol.
dependency_of_wifi : (symbol_facts network (symbol 2)).dependencies ≡ record { conjuncts = name 0 ∷ name 4 ∷ []; mode = None } ∷ []
dependency_of_wifi = refl

-- ---- What if a symbol has two types?
--
--     config A
--         bool
--         string
abbrev two_types : List (Located Numbered)
two_types =
    record { file = codes "Kconfig"; line = 1; statement = ConfigLine (symbol 0) } ∷
    record { file = codes "Kconfig"; line = 2; statement = TypeLine Bool None } ∷
    record { file = codes "Kconfig"; line = 3; statement = TypeLine Str None } ∷
    []

-- The second type gives warning K1, with its file and line.
warning_of_second_type : (facts_with (codes "A" ∷ []) two_types).warnings ≡ codes "Kconfig:3: warning K1: type of A redefined, the first is kept" ∷ []
unfolding digits
warning_of_second_type = refl

-- A stays a bool.
type_stays : (symbol_facts (map (λ l. l.statement) two_types) (symbol 0)).symbol_type ≡ Bool
type_stays = refl
