-- Examples for the chapter Expansion: the blocks, entries and symbols of a small file.
use Rattle.std.proofs.Common.{refl, ◌≡◌}
use Rattle.std.specs.Prelude.{List, None, Some, [], codes, ◌∷◌}
use Rattle.kc_language.specs.{Expansion.{attributes, definitions, enclosing, modules_of, open_blocks}, Expressions.{Disjunction, WordAtom, conjunction, lone, negation, only}, Statements.{ConfigLine, EndIfLine, EndMenuLine, HelpLine, IfLine, MenuLine, ModulesLine, Named, TypeLine}, declared.expressions.SymbolType.SymbolType}

-- The expression that is the one symbol NET.
abbrev net : Disjunction
net = only (conjunction (only (negation (lone (WordAtom (codes "NET"))))))

-- The statements of the file. The number before a line is its number in the list.
abbrev small : List Named
small =
    MenuLine (codes "Networking") ∷  -- 0  menu "Networking"
    ConfigLine (codes "NET") ∷  -- 1  config NET
    TypeLine SymbolType.Bool (Some (record { text = codes "Networking support"; when = None })) ∷  -- 2      bool "Networking support"
    IfLine net ∷  -- 3  if NET
    ConfigLine (codes "IPV6") ∷  -- 4  config IPV6
    TypeLine SymbolType.Tristate None ∷  -- 5      tristate
    HelpLine ∷  -- 6      help
    EndIfLine ∷  -- 7  endif
    ConfigLine (codes "MODULES") ∷  -- 8  config MODULES
    TypeLine SymbolType.Bool None ∷  -- 9      bool
    ModulesLine ∷  -- 10     modules
    EndMenuLine ∷ []  -- 11 endmenu

-- `config IPV6` is inside the menu that begins at 0 and the `if` that begins at 3.
ipv6_enclosing : enclosing small 4 ≡ 0 ∷ 3 ∷ []
ipv6_enclosing = refl

-- `endif` still counts as inside the block that it ends. The line after it is inside the menu alone.
endif_enclosing : enclosing small 7 ≡ 0 ∷ 3 ∷ []
endif_enclosing = refl

after_endif_enclosing : enclosing small 8 ≡ 0 ∷ []
after_endif_enclosing = refl

-- At the end of the file no block is open.
small_is_closed : open_blocks small ≡ []
small_is_closed = refl

-- The attributes of IPV6 are its type and its help text. They end at `endif`.
ipv6_attributes : attributes small 4 ≡ TypeLine SymbolType.Tristate None ∷ HelpLine ∷ []
ipv6_attributes = refl

-- The file defines these symbols, in this order.
small_definitions : definitions small ≡ codes "NET" ∷ codes "IPV6" ∷ codes "MODULES" ∷ []
small_definitions = refl

-- The entry with the line `modules` is that of the modules symbol.
small_modules : modules_of small ≡ Some (codes "MODULES")
small_modules = refl
