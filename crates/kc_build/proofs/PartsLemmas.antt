-- What lines say, all of it.
use Rattle.std.proofs.Common.{Err, List, Ok, Some, [], ap, length, map, sym, ℕ, ◌∙◌, ◌≡◌}
use Rattle.std.specs.{Option.option_or, declared.{alloc.Global.Global, vec.Vec.Vec}}
use Rattle.kc_language.specs.{Expansion.Refused, Symbols.{bad_members, facts_with, tree_with}}
use Rattle.kc_entries.specs.{Entries.lines_in, PartsOfSymbols.unless_refused, declared.entries.Entries.Entries}
use Rattle.kc_read.specs.{RefusalView.refusal_view, declared.refusal.Refusal.Refusal}
use Rattle.kc_read.proofs.WholeLemmas.{none_bad}
use Rattle.kc_tree.specs.EntryViews.{statements_in}
use Rattle.kc_build.specs.{Diagnosed.{HasOnlyWarnings, IsDiagnosed}, declared.diagnostics.Diagnostics.Diagnostics}
use Rattle.kc_build.proofs.DiagnosedLemmas.{accepted, refused_tree}

module _ (names : List (List ℕ)) (es : Entries) (d : Diagnostics) (is : IsDiagnosed names (lines_in es) (length (lines_in es)) d) where
  -- the first refusal
  pub refused-is : (r : Refusal) → option_or d.bad_member d.bad_default ≡ Some r → Err (refusal_view r) ≡ tree_with names (lines_in es)
  refused-is r e = sym (refused_tree names (lines_in es) d is r (facts_with names (lines_in es)) e)

  module _ (warnings : List (Vec ℕ Global)) (only : HasOnlyWarnings d warnings) where
    -- no member is refused
    pub none-refused : bad_members (statements_in es) ≡ []
    none-refused = none_bad names (lines_in es) ((accepted names (lines_in es) d is (only.0) (only.1)).refusals)

    -- no refusal, and all that is said
    pub whole : (menu : List ℕ) → menu ≡ (facts_with names (lines_in es)).main_menu →
        Ok (record (facts_with names (lines_in es)) { warnings = map (λ w. w.items) warnings; main_menu = menu }) ≡ tree_with names (lines_in es)
    whole menu titled =
        let a = accepted names (lines_in es) d is (only.0) (only.1) in
        let w : map (λ w. w.items) warnings ≡ (facts_with names (lines_in es)).warnings = ap (map (λ w. w.items)) (only.2) ∙ a.warnings_are in
        (λ j. Ok (record (facts_with names (lines_in es)) { warnings = w j; main_menu = titled j }))
        ∙ sym (ap (λ (rs : List Refused). unless_refused rs (facts_with names (lines_in es))) a.refusals)
