-- For proofs: Refusals that only the whole list shows, as the code finds them.
use Rattle.std.specs.Prelude.{List, None, Option, Some, if◌then◌else◌, option_map, ℕ}
use Rattle.kc_language.specs.{Expansion.{Refused, refusal_at}, Statements.{Cause, Located, Numbered}, Symbols.{entry_name, entry_symbol}, declared.symbols.{ChoiceId.ChoiceId, MenuEntry.MenuEntry}}
use Rattle.kc_language.specs.declared.diagnostics.Cause.TheVariants as cause
use Rattle.kc_build.specs.{SymbolRows.{choice_by, type_by}, declared.diagnostics.EntrySummary.EntrySummary}
use Rattle.kc_tree.specs.declared.rows.Symbol.{Symbol}
use Rattle.kc_entries.specs.PartsOfSymbols.{is_bad_default, is_bad_member}

-- the refusal at a line, which names its entry
abbrev pub entry_refusal : List (List ℕ) → (List ℕ → Cause) → MenuEntry → List ℕ → ℕ → Refused
entry_refusal names c o file line = refusal_at (c (entry_name names (entry_symbol o))) file line

-- the refusal of a line that must not define its member, from the rows of the symbols and the summary of its entry
abbrev pub bad_member_of : List (List ℕ) → List Symbol → EntrySummary → Located Numbered → Option Refused
bad_member_of names symbols p l =
    if is_bad_member (type_by symbols) (choice_by symbols) p.first (option_map (λ (k : ChoiceId). k.0) p.within_choice) l.statement
    then Some (entry_refusal names cause.ChoiceMember p.entry l.file l.line) else None

-- the refusal of a default that is not allowed
abbrev pub bad_default_of : List (List ℕ) → List Symbol → EntrySummary → Located Numbered → Option Refused
bad_default_of names symbols p l = if is_bad_default (type_by symbols) p.entry l.statement then Some (entry_refusal names cause.BadDefault p.entry l.file l.line) else None
