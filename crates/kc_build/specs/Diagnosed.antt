-- For proofs: The diagnostics of lines.
use Rattle.std.specs.{List.flat_map, Option.option_or, Prelude.{Bool, List, None, Option, [], false, filter, is_some, map, nat_lt, option_map, slice_get, ℕ, ◌++◌, ◌||◌, ◌∷◌, ◌≡◌}, declared.{alloc.Global.Global, vec.Vec.Vec}}
use Rattle.kc_language.specs.{Expansion.{Refused, numbers}, Statements.{Located, Numbered, statements}, Symbols.{bad_defaults, bad_members, prompt_of, refused_at}}
use Rattle.kc_language.specs.declared.diagnostics.Cause.TheVariants as cause
use Rattle.kc_read.specs.RefusalView.{refusal_view}
use Rattle.kc_build.specs.{SymbolRows.line_warnings_in, WholeListRefusals.{bad_default_of, bad_member_of}, declared.diagnostics.{Diagnostics.Diagnostics, EntrySummary.EntrySummary}}
use Rattle.kc_tree.specs.declared.rows.Symbol.{Symbol}
use Rattle.kc_entries.specs.PartsOfSymbols.{first_of, line_of, warned_at}

-- diagnostics as values: the warnings, the first bad member, the first bad default
pub record Diagnosis : Type 0 where
  pub warnings : List (List ℕ)
  pub member : Option Refused
  pub default : Option Refused

abbrev pub diagnosis_view : Diagnostics → Diagnosis
diagnosis_view d = record {
  warnings = map (λ w. w.items) d.warnings.items;
  member = option_map refusal_view d.bad_member;
  default = option_map refusal_view d.bad_default;
}

module _ (names : List (List ℕ)) (symbols : List Symbol) (summary : EntrySummary) where
  -- the diagnostics after one more line
  abbrev pub line_diagnosed : Bool → Located Numbered → Diagnosis → Diagnosis
  line_diagnosed prompted l d = record {
    warnings = d.warnings ++ map (line_of names l.file l.line) (line_warnings_in symbols summary prompted l.statement);
    member = option_or d.member (bad_member_of names symbols summary l);
    default = option_or d.default (bad_default_of names symbols summary l);
  }

  -- the diagnostics after these lines of an entry; `prompted` says whether there is a prompt before them
  abbrev pub lines_diagnosed : Bool → List (Located Numbered) → Diagnosis → Diagnosis
  lines_diagnosed prompted [] d = d
  lines_diagnosed prompted (l ∷ ls) d = lines_diagnosed (prompted || is_some (prompt_of l.statement)) ls (line_diagnosed prompted l d)

  abbrev pub IsLineDiagnosed : Bool → Located Numbered → Diagnostics → Diagnostics → Type 0
  IsLineDiagnosed prompted l old new = diagnosis_view new ≡ line_diagnosed prompted l (diagnosis_view old)

  abbrev pub AreLinesDiagnosed : Located Numbered → List (Located Numbered) → Diagnostics → Diagnostics → Type 0
  AreLinesDiagnosed head own old new = diagnosis_view new ≡ lines_diagnosed false (head ∷ own) (diagnosis_view old)

-- the diagnostics of the lines before index i
pub record IsDiagnosed (names : List (List ℕ)) (ls : List (Located Numbered)) (i : ℕ) (d : Diagnostics) : Type 0 where
  pub member : (diagnosis_view d).member ≡ first_of (flat_map (refused_at names ls cause.ChoiceMember) (filter (λ j. nat_lt j i) (bad_members (statements ls))))
  pub default : (diagnosis_view d).default ≡ first_of (flat_map (refused_at names ls cause.BadDefault) (filter (λ j. nat_lt j i) (bad_defaults (statements ls))))
  pub warnings : bad_members (statements ls) ≡ [] → (diagnosis_view d).warnings ≡ flat_map (λ j. warned_at names ls j (slice_get ls j)) (numbers i)

-- nothing is refused, and these are the warnings
abbrev pub HasOnlyWarnings : Diagnostics → List (Vec ℕ Global) → Type 0
HasOnlyWarnings d warnings = (d.bad_member ≡ None) × (d.bad_default ≡ None) × (warnings ≡ d.warnings.items)
