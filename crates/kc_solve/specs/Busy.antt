-- For proofs: The nodes for which something is computed.
use Rattle.std.specs.{List.list_any, Prelude.{Bool, if◌then◌else◌, length, nat_lt, slice_get, true, ℕ, ◌&&◌, ◌-◌, ◌==◌}}
use Rattle.kc_language.specs.Symbols.{listed}
use Rattle.kc_tree.specs.{Layouts.place_of, declared.{layout.Layout.Layout, rows.Symbol.Symbol}}
use Rattle.kc_values.specs.Nodes.{first_context, first_dependency}

-- the symbol with a number is defined; the entry with a number as it is stored asks for something
abbrev pub is_defined : Layout → ℕ → Bool
is_defined l s = list_any (λ (row : Symbol). nat_lt 0 row.first.0) (listed (slice_get l.symbols.items s))

abbrev pub asks_itself : Layout → ℕ → Bool
asks_itself l at = nat_lt 0 at && ((place_of l at).context.0 == at)

-- defined symbols, menus, entries that ask for something, and choices
abbrev pub is_busy : Layout → ℕ → Bool
is_busy l n =
    if nat_lt n (length l.symbols.items) then is_defined l n
    else (if nat_lt n (first_context l) then nat_lt (length l.symbols.items) n
    else (if nat_lt n (first_dependency l) then asks_itself l (n - first_context l) else true))
