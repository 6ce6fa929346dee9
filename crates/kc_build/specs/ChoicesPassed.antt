-- For proofs: The choices before an entry, and the summary of the entry that they give.
use Rattle.std.specs.{List.list_any, Prelude.{Bool, List, None, Option, Some, false, if◌then◌else◌, nat_lt, option_map, slice_get, true, ℕ, ◌&&◌, ◌+◌, ◌-◌, ◌==◌, ◌≡◌}}
use Rattle.kc_language.specs.{Statements.{ChoiceLine, ConfigLine, EndChoiceLine, Numbered}, Symbols.{begun, listed}, declared.{expressions.SymId.SymId, symbols.ChoiceId.ChoiceId}}
use Rattle.kc_tree.specs.declared.rows.Symbol.{Symbol}
use Rattle.kc_build.specs.declared.diagnostics.{ChoicesBefore.ChoicesBefore, EntrySummary.EntrySummary}

-- the choice that is open
abbrev pub open_choice : ChoicesBefore → Option ℕ
open_choice c = if c.is_open && nat_lt 0 c.count then Some (c.count - 1) else None

-- the choices before the next entry
abbrev pub passed : Numbered → ChoicesBefore → ChoicesBefore
passed ChoiceLine c = record { count = c.count + 1; is_open = true }
passed EndChoiceLine c = record c { is_open = false }
passed _ c = c

-- whether the row of a symbol has the entry, given by its number as it is stored, as the first definition
abbrev pub first_by : List Symbol → ℕ → SymId → Bool
first_by symbols at s = list_any (λ (row : Symbol). row.first.0 == at) (listed (slice_get symbols s.0))

-- the same for the symbol that a line defines
abbrev pub first_head : List Symbol → ℕ → Numbered → Bool
first_head symbols at (ConfigLine s) = first_by symbols at s
first_head symbols at _ = false

-- the summary of an entry with this first line
pub record IsSummary (symbols : List Symbol) (at : ℕ) (head : Numbered) (c : ChoicesBefore) (p : EntrySummary) : Type 0 where
  pub entry : p.entry ≡ begun c.count head
  pub first : p.first ≡ first_head symbols at head
  pub within_choice : option_map (λ (k : ChoiceId). k.0) p.within_choice ≡ open_choice c
